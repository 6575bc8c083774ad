use Rattle.std.proofs.Common.{◌≡◌, ◌≤◌, sym, subst, length, arith}
use Rattle.std.specs.Prelude.{◌⊎◌}
use Rattle.cmd_tree.specs.declared.limits.TheConstants.{MAX_FILE_BYTES}
use Rattle.trace_laws.specs.Listed.{rows}
use Rattle.trace_laws.specs.ListText.{IsListText}
use Rattle.di_top.specs.declared.outcome.Outcome.{Outcome}
use Rattle.di_top.specs.declared.outcome.Outcome.TheVariants.{NoMemory}
use Rattle.di_top.specs.RulesForm.{told_of_traces, ListStops}
use Rattle.di_top.proofs.Compiling.{if_err}
use Rattle.di_top.proofs.ListAnswers.{traces_stop, judged}
use Rattle.di_top.proofs.rules_form.judge.Goals as goal

pub returns-in_err-names-clause-stop : goal.returns-in_err-names-clause-stop
returns-in_err-names-clause-stop c =
    let few : length c.args.bytes.now ≤ MAX_FILE_BYTES = omega (arith, c.if-bytes-gt-MAX_FILE_BYTES.false) in
    let P : Outcome → Type 0 = λ x. (x ≡ NoMemory) ⊎ ListStops c.args.bytes.now x in
    let Q : Outcome → Type 0 = λ x. x ≡ told_of_traces c.in_err-names.field-0.0 in
    if_err c.from_residual.result Q P
    (λ x e. let s : told_of_traces c.in_err-names.field-0.0 ≡ x = sym e in subst P s (traces_stop c.args.bytes.now c.in_err-names.field-0.0 few c.in_err-names.ensures.refused))
    c.from_residual.ensures.1

pub returns-clause-ok : goal.returns-clause-ok
returns-clause-ok c =
    let few : length c.args.bytes.now ≤ MAX_FILE_BYTES = omega (arith, c.if-bytes-gt-MAX_FILE_BYTES.false) in
    let list = c.in_ok-names.field-0 in
    judged c.args.bytes.now list.names c.as_slice-2.result.now (rows c.as_slice.result.now) c.in_ok-broken.broken
    (record {
      few = few;
      text = subst (λ ds. IsListText c.args.bytes.now list.names ds (rows c.as_slice.result.now)) (sym c.as_slice-2.ensures.value)
          (subst (λ ts. IsListText c.args.bytes.now list.names list.dirs.items (rows ts)) (sym c.as_slice.ensures.value) c.in_ok-names.ensures.ok);
    })
    c.in_ok-broken.ensures.holds c.in_ok-broken.ensures.least c.in_ok-broken.ensures.present
