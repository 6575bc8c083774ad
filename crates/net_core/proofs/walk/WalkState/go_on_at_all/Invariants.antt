use Rattle.std.proofs.Common.{◌≡◌, ℕ, ◌<◌, true}
use Rattle.cmd_tree.specs.Lists.{is_in}
use Rattle.net_core.specs.Mirror.Walking.{IsVisited, AreSourcesListed}
use Rattle.net_core.specs.Mirror.WalkStates.{walk_in, Walks}
use Rattle.net_core.proofs.walk.WalkState.go_on_at_all.Given as goal

abbrev pub invariant-loop-number : goal.invariant-loop-number
invariant-loop-number l = record {
  walks : Walks l.net l.self;
  visited : IsVisited (walk_in l.self);
  sources : AreSourcesListed l.net (walk_in l.self);
  below : (k : ℕ) → k < l.number → is_in k l.self.listed.numbers ≡ true;
}
