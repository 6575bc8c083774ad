use Rattle.std.proofs.Common.{◌≡◌, ℕ, ◌<◌, true}
use Rattle.std.specs.Prelude.{slice_get}
use Rattle.cmd_tree.specs.Lists.{is_in}
use Rattle.net_core.specs.Walk.{source_at}
use Rattle.net_core.specs.Mirror.Walking.{IsVisited}
use Rattle.net_core.specs.Mirror.WalkStates.{walk_in, Walks}
use Rattle.net_core.proofs.walk.WalkState.go_on_at_sources.Given as goal

abbrev pub invariant-loop-number : goal.invariant-loop-number
invariant-loop-number l = record {
  walks : Walks l.net l.self;
  visited : IsVisited (walk_in l.self);
  below : (k : ℕ) → k < l.number → source_at (slice_get l.net.nodes k) ≡ true → is_in k l.self.listed.numbers ≡ true;
}
