use Rattle.std.proofs.Common.{◌-◌, length, drop}
use Rattle.basic_kinds.specs.ShapeParts.{label}
use Rattle.shape_parts.specs.Mirror.Links.{IsFalling, Leads}
use Rattle.shape_parts.proofs.union_find.join_all.Given as goal

abbrev pub invariant-loop-count : goal.invariant-loop-count
invariant-loop-count l = record {
  falling : IsFalling l.up;
  leads : Leads (label l.rows (drop (length l.cross - l.count) l.cross)) l.up;
}
