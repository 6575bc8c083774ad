use Rattle.net_core.proofs.Walked.{ended}
use Rattle.net_core.proofs.WalkOrder.{walk_renumbered, walk_preserved}
use Rattle.net_core.proofs.WalkAgain.{walk_again}
use Rattle.net_core.proofs.FirstWires.{first_wires}
use Rattle.net_core.proofs.laws.walk_law.Goals as goal

pub returns : goal.returns
returns c = record {
  ended = λ d network closed. (ended d network.wired closed network.some).1;
  renumbered = walk_renumbered;
  preserved = walk_preserved;
  in_order = walk_again;
  outside = λ d network closed through p h. first_wires d network.wired closed network.some through p h;
}
