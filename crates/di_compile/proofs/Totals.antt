-- The components of a command by the number of its symbols.
use Rattle.std.proofs.Common.{◌≡◌, ◌↔◌, IsTrue, length, sym, ap, ◌∙◌, subst}
use Rattle.std.specs.List.{list_all}
use Rattle.std.proofs.Math.Path.{fun_ext}
use Rattle.cmd_tree.specs.declared.command.Command.{Command}
use Rattle.cmd_rename.specs.Symbols.{symbols_of}
use Rattle.cmd_rename.proofs.Numbered.{numbered_symbols, counted_long}
use Rattle.place_graph.specs.Sums.{of_command, command_sum}
use Rattle.count_sum.specs.Counts.{of_sort, all_sorts, sum_in, AreCounts}
use Rattle.count_sum.specs.Narrow.{is_narrow}
use Rattle.count_sum.specs.declared.counts.Basis.{Basis}
use Rattle.count_sum.specs.declared.counts.Basis.TheVariants.{Two}
use Rattle.count_sum.specs.declared.counts.Counts.{Counts}
use Rattle.di_compile.specs.Compiling.{total, IsOfForm}

symbols_long : (c : Command) → length (symbols_of c.procs) ≡ length c.names
symbols_long c = ap length (numbered_symbols c.procs (length c.names) c.valid.numbered) ∙ counted_long (length c.names)

pub total_is : (basis : Basis) (c : Command) → total basis c.procs ≡ all_sorts (command_sum (sum_in basis) c.procs (length c.names))
total_is basis c = ap (λ n. all_sorts (command_sum (sum_in basis) c.procs n)) (symbols_long c)

pub counts_total : (basis : Basis) (c : Command) (k : Counts) → AreCounts c basis k → all_sorts (of_sort k) ≡ total basis c.procs
counts_total basis c k are = ap all_sorts (fun_ext are.each) ∙ sym (total_is basis c)

-- the form by the number of symbols
pub form_is : (c : Command) → IsTrue (list_all is_narrow (of_command c.procs (length c.names))) ↔ IsOfForm Two c.procs
form_is c = (
  (λ h. subst (λ n. IsTrue (list_all is_narrow (of_command c.procs n))) (sym (symbols_long c)) h),
  (λ h. subst (λ n. IsTrue (list_all is_narrow (of_command c.procs n))) (symbols_long c) h),
)
