-- What is told by its text: the wires of a component, and a network.
use Rattle.std.specs.Prelude.{◌≡◌, ℕ, ◌<◌, ◌≤◌, ◌^◌, List, length}
use Rattle.std.specs.List.{AllByRecursion}
use Rattle.cmd_tree.specs.declared.command.Command.{Command}
use Rattle.basic_kinds.specs.declared.kind.Kind.{Kind}
use Rattle.basic_kinds.specs.Kinds.{inputs_of, outputs_of, IsWellFormed}
use Rattle.net_core.specs.declared.spec.NodeSpec.TheVariants.{Cmd}
use Rattle.net_core.specs.Wiring.{Circuit, IsNetwork, IsClosed}
use Rattle.net_core.specs.Networks.{IsBasic, IsSpecified, end_at}

-- the number of a wire has at most 64 bits
abbrev pub Small : ℕ → Type 0
Small wire = wire < 2 ^ 64

-- a component has a well-formed kind, and one wire at each port
pub record AreWiresOf (kind : Kind) (inputs outputs : List ℕ) : Type 0 where
  pub formed : IsWellFormed kind
  pub all_inputs : length inputs ≡ inputs_of kind
  pub all_outputs : length outputs ≡ outputs_of kind
  pub small_inputs : AllByRecursion Small inputs
  pub small_outputs : AllByRecursion Small outputs

-- A closed network of basic components in the environment of a command, whose symbol i is on wire i. The number of
-- its wires stands nowhere in its text.
pub record HasText (c : Circuit) : Type 0 where
  pub network : IsNetwork c
  pub closed : IsClosed c
  pub basic : IsBasic c
  pub command : Command
  pub specified : IsSpecified c (Cmd command)
  pub ports : (i : ℕ) → i < length command.names → end_at c 0 i ≡ i
  pub few : c.wires ≤ 2 ^ 64
