use Rattle.std.proofs.Common.{◌↔◌, IfOk, IsTrue, sym, subst, ◌∙◌}
use Rattle.count_sum.specs.declared.counts.Basis.{Basis}
use Rattle.di_compile.specs.Compiling.{IsOfForm}
use Rattle.di_compile.proofs.Built.{if_then}
use Rattle.di_compile.proofs.Totals.{form_is}
use Rattle.di_compile.proofs.build.is_of_form.Goals as goal

pub returns-in-Two : goal.returns-in-Two
returns-in-Two c = subst (λ (b : Basis). IfOk c.is_narrow.result (λ it. IsTrue it ↔ IsOfForm b c.args.command.now.procs)) (sym c.in-Two.is)
    (if_then c.is_narrow.result (λ b e. ((λ h. (form_is c.args.command.now).0 (sym e ∙ h)), (λ h. e ∙ (form_is c.args.command.now).1 h))) c.is_narrow.ensures)
