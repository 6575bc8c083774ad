use Rattle.std.proofs.Common.{◌≡◌, ℕ, ◌<◌, false, length}
use Rattle.cmd_tree.specs.declared.command.Command.{Command}
use Rattle.cmd_alone.specs.Alone.{IsAlone}
use Rattle.net_core.specs.declared.spec.NodeSpec.TheVariants.{Cmd}
use Rattle.weave_split.specs.WeaveChart.{grants_at}
use Rattle.weave_split.specs.Mirror.TieTables.{spec_of}
use Rattle.weave_split.proofs.built.process_specs.Given as goal

abbrev pub invariant-loop-process : goal.invariant-loop-process
invariant-loop-process l = record {
  many : length l.specs.items ≡ l.process;
  each : (p : ℕ) → p < l.process → grants_at l.command.procs p ≡ false → (d : Command) × IsAlone l.command p d × (spec_of l.specs.items p ≡ Cmd d);
}
