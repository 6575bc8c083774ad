use Rattle.std.proofs.Common.{◌≡◌, ◌≤◌, sym, subst, inr, length, arith}
use Rattle.std.specs.Prelude.{◌⊎◌}
use Rattle.cmd_tree.specs.declared.limits.TheConstants.{MAX_FILE_BYTES}
use Rattle.di_grammar.specs.Admitted.{Answer}
use Rattle.di_top.specs.declared.outcome.Outcome.{Outcome}
use Rattle.di_top.specs.declared.outcome.Outcome.TheVariants.{NoMemory}
use Rattle.di_top.specs.CommandFiles.{StopsWith, told_of_text, told_of_expand}
use Rattle.di_top.specs.Sources.{IsFileOf}
use Rattle.di_top.proofs.Compiling.{if_err}
use Rattle.di_top.proofs.Stops.{text_stops, expand_stops, grammar_stops}
use Rattle.di_top.proofs.command.read_command.Goals as goal

pub returns-in_err-file-clause-stop : goal.returns-in_err-file-clause-stop
returns-in_err-file-clause-stop c =
    let few : length c.args.bytes.now ≤ MAX_FILE_BYTES = omega (arith, c.if-bytes-gt-MAX_FILE_BYTES.false) in
    let P : Outcome → Type 0 = λ x. (x ≡ NoMemory) ⊎ StopsWith c.args.bytes.now x in
    let Q : Outcome → Type 0 = λ x. x ≡ told_of_text c.in_err-file.field-0.0 in
    if_err c.from_residual.result Q P
    (λ x e. let s : told_of_text c.in_err-file.field-0.0 ≡ x = sym e in subst P s (text_stops c.args.bytes.now c.in_err-file.field-0.0 few c.in_err-file.ensures.refused))
    c.from_residual.ensures.1

pub returns-in_err-command-clause-stop : goal.returns-in_err-command-clause-stop
returns-in_err-command-clause-stop c =
    let few : length c.args.bytes.now ≤ MAX_FILE_BYTES = omega (arith, c.if-bytes-gt-MAX_FILE_BYTES.false) in
    let read : IsFileOf c.args.bytes.now c.in_ok-file.file.names c.in_ok-file.file.sentences =
    record { few = few; text = c.in_ok-file.ensures.ok.0; shallow = c.in_ok-file.ensures.ok.1 } in
    let P : Outcome → Type 0 = λ x. (x ≡ NoMemory) ⊎ StopsWith c.args.bytes.now x in
    let Q : Outcome → Type 0 = λ x. x ≡ told_of_expand c.in_err-command.field-0.0 in
    if_err c.from_residual-in_err-command.result Q P
    (λ x e. let s : told_of_expand c.in_err-command.field-0.0 ≡ x = sym e in
    subst P s (expand_stops c.args.bytes.now c.in_ok-file.file.names c.in_ok-file.file.sentences c.in_err-command.field-0.0 read c.in_err-command.ensures.refused))
    c.from_residual-in_err-command.ensures.1

pub returns-clause-stop : goal.returns-clause-stop
returns-clause-stop c =
    let few : length c.args.bytes.now ≤ MAX_FILE_BYTES = omega (arith, c.if-bytes-gt-MAX_FILE_BYTES.false) in
    let read : IsFileOf c.args.bytes.now c.in_ok-file.file.names c.in_ok-file.file.sentences =
    record { few = few; text = c.in_ok-file.ensures.ok.0; shallow = c.in_ok-file.ensures.ok.1 } in
    inr (grammar_stops c.args.bytes.now c.in_ok-command.command.names c.in_ok-file.file.names c.in_ok-file.file.sentences c.in_ok-command.command.procs
    c.in-Some.broken read c.in_ok-command.ensures.ok (subst (Answer c.in_ok-command.command.procs) c.in-Some.is c.check.ensures.answer))
