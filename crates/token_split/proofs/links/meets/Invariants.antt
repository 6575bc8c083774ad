use Rattle.std.proofs.Common.{◌≡◌, map, take}
use Rattle.token_split.specs.Mirror.TokenTables.{crossing_at}
use Rattle.token_split.proofs.links.meets.Given as goal

abbrev pub invariant-loop-part : goal.invariant-loop-part
invariant-loop-part l = map (λ v. v.items) l.rows.items ≡ map (λ p. map (crossing_at l.crosses) p.places) (take l.part-index l.parts)
