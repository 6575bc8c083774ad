-- Mirror of what the code keeps of a state.
use Rattle.std.specs.Prelude.{◌≡◌, ℕ, suc, false, not, List, map, length, slice_get, slice_index_or, Some}
use Rattle.cmd_tree.specs.declared.command.Command.{Command}
use Rattle.cmd_tree.specs.declared.tree.Sym.{Sym}
use Rattle.basic_kinds.specs.declared.machine.Machine.{Machine}
use Rattle.basic_kinds.specs.Mirror.Machines.{kind_of}
use Rattle.basic_kinds.specs.Mirror.Machines as running
use Rattle.cmd_machine.specs.Mirror.Walkers as walking
use Rattle.net_core.specs.declared.spec.NodeSpec.TheVariants.{Kind, Cmd}
use Rattle.net_core.specs.Runs.{State}
use Rattle.net_core.specs.Wiring.{Circuit, IsNetwork, IsClosed}
use Rattle.net_core.specs.Networks.{spec_of, directions, IsSpecified}
use Rattle.replay.specs.declared.board.Board.{Board}
use Rattle.replay.specs.Answers.{symbols}

-- the machine of the component after it stands at each place
pub record AreMachines (c : Circuit) (ms : List Machine) (trace : ℕ → List ℕ) : Type 0 where
  pub kind : (i : ℕ) (m : Machine) → slice_get ms i ≡ Some m → spec_of (slice_get c.nodes (suc i)) ≡ Some (Kind (kind_of m))
  pub stands : (i : ℕ) (m : Machine) → slice_get ms i ≡ Some m → running.Stands m (trace (suc i))

-- the board stands for this state of the network
pub record Stands (c : Circuit) (b : Board) (s : State) : Type 0 where
  pub each : AreMachines c b.machines.items s.trace
  pub many : length c.nodes ≡ suc (length b.machines.items)
  pub command : Command
  pub specified : IsSpecified c (Cmd command)
  pub walks : walking.Stands command.procs b.walker (s.trace 0)
  pub directed : directions c 0 ≡ map not b.outs.items
  pub wires : length b.busy.items ≡ c.wires
  pub bits : (w : ℕ) → slice_index_or b.busy.items w false ≡ s.busy w

-- what a course keeps
pub record Kept (c : Circuit) (b : Board) (seen : List Sym) (s : State) : Type 0 where
  pub network : IsNetwork c
  pub closed : IsClosed c
  pub stands : Stands c b s
  pub shown : symbols seen ≡ s.trace 0
