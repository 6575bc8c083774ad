use Rattle.std.proofs.Common.{◌∙◌, arith}
use Rattle.di_compile.proofs.Built.{network_of, if_then}
use Rattle.di_compile.proofs.Totals.{counts_total}
use Rattle.di_compile.proofs.build.compile_within.Goals as goal

pub whole_net-requires : goal.whole_net-requires
whole_net-requires c = record {
  admitted = c.requires.admitted;
  form = c.requires.form;
  few = omega (arith, c.total-count.ensures, counts_total c.args.basis c.args.command.now c.in_ok-count.field-0 c.in_ok-count.ensures);
}

pub returns-then-count-clause-refused : goal.returns-then-count-clause-refused
returns-then-count-clause-refused c = (
  c.requires.admitted,
  c.requires.form,
  omega arith,
  c.total-count.ensures ∙ counts_total c.args.basis c.args.command.now c.in_ok-count.field-0 c.in_ok-count.ensures,
)

pub returns-clause-ok : goal.returns-clause-ok
returns-clause-ok c = (
  record {
    admitted = c.requires.admitted;
    form = c.requires.form;
    few = omega (arith, c.total-count.ensures, counts_total c.args.basis c.args.command.now c.in_ok-count.field-0 c.in_ok-count.ensures);
  },
  network_of c.args.basis c.args.command.now c.in_ok-whole.whole c.in_ok-whole.ensures c.in_ok-in_order.field-0 c.in_ok-in_order.ensures,
)
