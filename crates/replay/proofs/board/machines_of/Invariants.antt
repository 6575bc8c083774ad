use Rattle.std.proofs.Common.{◌≡◌, suc, length, []}
use Rattle.replay.specs.Mirror.Boards.{AreMachines}
use Rattle.replay.proofs.board.machines_of.Given as goal

-- the components so far have their machines
abbrev pub invariant-loop-index : goal.invariant-loop-index
invariant-loop-index l = record {
  many : suc (length l.machines.items) ≡ l.index;
  each : AreMachines l.net l.machines.items (λ _. []);
}
