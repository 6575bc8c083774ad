use Rattle.std.proofs.Common.{List, sym, subst}
use Rattle.std.specs.List.{AllByRecursion}
use Rattle.cmd_tree.specs.declared.tree.Proc.{Proc}
use Rattle.count_sum.specs.Mirror.Graphs.{IsReadableProcess}
use Rattle.count_sum.proofs.ReadableGraphs.{all_readable}
use Rattle.count_sum.proofs.commands.command_parts.Goals as goal

pub processes-requires : goal.processes-requires
processes-requires c = subst (λ (ps : List Proc). AllByRecursion IsReadableProcess ps) (sym c.as_slice.ensures) (all_readable c.args.command.now c.requires)
