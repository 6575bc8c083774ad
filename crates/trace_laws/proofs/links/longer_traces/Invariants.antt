use Rattle.std.specs.BTreeMap.{get}
use Rattle.trace_laws.specs.Mirror.Links.{key_cmp, Follow}
use Rattle.trace_laws.proofs.links.longer_traces.Given as goal

-- the traces so far are in the table
abbrev pub invariant-loop-word : goal.invariant-loop-word
invariant-loop-word l = Follow l.words l.word-index (get key_cmp l.longer)
