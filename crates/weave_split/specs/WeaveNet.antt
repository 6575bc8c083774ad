-- The network of a command that is a weave.
use Rattle.std.specs.Prelude.{◌≡◌, ℕ, ◌<◌, false, length}
use Rattle.cmd_tree.specs.declared.command.Command.{Command}
use Rattle.cmd_alone.specs.Alone.{IsAlone}
use Rattle.net_core.specs.declared.spec.NodeSpec.{NodeSpec}
use Rattle.net_core.specs.declared.spec.NodeSpec.TheVariants.{Cmd}
use Rattle.net_core.specs.Wiring.{Circuit}
use Rattle.net_laws.specs.Charts.{charted}
use Rattle.weave_split.specs.WeaveChart.{Ties, grants_at, ties, weave_chart}

-- the process at place p, where it is no grant, is given as a command of its own
pub record AreAlone (c : Command) (alone : ℕ → NodeSpec) : Type 0 where
  pub each : (p : ℕ) → p < length c.procs → grants_at c.procs p ≡ false → (d : Command) × IsAlone c p d × (alone p ≡ Cmd d)

-- how the processes of the command are tied to its symbols
abbrev pub ties_of : Command → Ties
ties_of c = ties c.procs (length c.names)

abbrev pub weave_circuit : Command → (ℕ → NodeSpec) → Circuit
weave_circuit c alone = charted (weave_chart (Cmd c) alone (ties_of c))

-- the network of the command, in which each process that is no grant stands as a command of its own
abbrev pub IsWeaveNet : Command → Circuit → Type 0
IsWeaveNet c net = (alone : ℕ → NodeSpec) × AreAlone c alone × (net ≡ weave_circuit c alone)
