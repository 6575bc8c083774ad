use Rattle.std.proofs.Common.{◌≡◌, List, drop, length}
use Rattle.std.specs.List.{AllByRecursion}
use Rattle.cmd_rename.specs.Table.{IsListed}
use Rattle.cmd_expand.specs.Expansion.{Known, weave, prepend}
use Rattle.cmd_expand.specs.Mirror.Plan.{procs_of_parts, procs_known, IsBelow, IsDraft, IsPlan}
use Rattle.cmd_expand.proofs.plan.resolve.Given as goal

abbrev pub invariant-loop-factor : goal.invariant-loop-factor
invariant-loop-factor l = record {
  names : l.plan.names ≡ l.fn.plan.names;
  sentences : l.plan.sentences.now ≡ l.fn.plan.sentences.now;
  lines : l.plan.lines.items ≡ l.fn.plan.lines.items;
  listed : IsListed l.plan.tables.listed l.draft.symbols.items;
  below : AllByRecursion (IsBelow (length l.fn.plan.lines.items)) l.draft.parts.items;
  defined : (known : List Known) → IsPlan known l.fn.plan → l.plan.defined ≡ l.fn.plan.defined;
  draft : (known : List Known) → IsPlan known l.fn.plan → IsDraft (procs_known known) l.draft;
  whole : (known : List Known) → IsPlan known l.fn.plan → weave l.fn.plan.names l.fn.plan.sentences.now known l.factors
      ≡ prepend (procs_of_parts (procs_known known) l.draft.parts.items) (weave l.fn.plan.names l.fn.plan.sentences.now known (drop l.factor-index l.factors));
}
