use Rattle.net_core.proofs.Sizes.{driven_many, received_many, nodes_few}
use Rattle.net_core.proofs.laws.ports_law.Goals as goal

pub returns : goal.returns
returns c = record {
  outputs = λ d network. driven_many d network.wired;
  inputs = λ d network. received_many d network.wired;
  nodes = λ d network. nodes_few d network.wired;
}
