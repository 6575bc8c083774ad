use Rattle.std.proofs.Common.{◌≡◌, ℕ, List, [], length, Some}
use Rattle.std.specs.BTreeMap.{get}
use Rattle.trace_laws.specs.Mirror.Links.{key_cmp, find, Follow}
use Rattle.trace_laws.proofs.Linked.{Walked}
use Rattle.trace_laws.proofs.links.listed_size.Given as goal

-- the fronts so far are listed
abbrev pub invariant-loop-index : goal.invariant-loop-index
invariant-loop-index l = (W : List (List ℕ)) → Follow W (length W) (get key_cmp l.longer) → find W [] ≡ Some l.root → Walked W l.word l.index l.place
