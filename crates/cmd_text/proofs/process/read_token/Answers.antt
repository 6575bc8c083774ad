use Rattle.std.proofs.Common.{◌<◌, ◌≤◌, ◌+◌, length, sym, ◌∙◌, ap, subst, arith}
use Rattle.cmd_text.specs.Names.{number_in}
use Rattle.cmd_text.specs.Mirror.Machine.{heard}
use Rattle.cmd_text.specs.Mirror.Reader.{InProcess}
use Rattle.cmd_text.specs.Mirror.ScanView.{lexeme_token}
use Rattle.cmd_text.specs.Mirror.Drafts.{state_of, only_if}
use Rattle.cmd_text.proofs.Advance.{scan_fault, token_refused, token_deep, token_passed, token_past, heard_more}
use Rattle.cmd_text.proofs.process.read_token.Goals as goal

pub next_token-requires-clause-from_in : goal.next_token-requires-clause-from_in
next_token-requires-clause-from_in c = c.requires.from_in

pub next_token-requires-clause-few : goal.next_token-requires-clause-few
next_token-requires-clause-few c = c.requires.few

pub returns-in-Err-clause-err : goal.returns-in-Err-clause-err
returns-in-Err-clause-err c = λ q. scan_fault c.args.names.now (InProcess q (state_of c.args.draft.now)) c.args.from c.args.bytes.now c.in-Err.refusal c.in-Err.ensures.err

pub lexeme_of-lexeme-requires-clause-in_text : goal.lexeme_of-lexeme-requires-clause-in_text
lexeme_of-lexeme-requires-clause-in_text c = (c.in-Ok.ensures.range.0, c.in-Ok.ensures.range.1)

pub lexeme_of-lexeme-requires-clause-few : goal.lexeme_of-lexeme-requires-clause-few
lexeme_of-lexeme-requires-clause-few c = c.requires.few

pub process_step-requires : goal.process_step-requires
process_step-requires c = omega (arith, c.requires.few_names, c.requires.from_in, c.requires.few)

pub returns-then-not-taken-clause-err : goal.returns-then-not-taken-clause-err
returns-then-not-taken-clause-err c = λ q. token_refused c.args.names.now c.process_step.new.names q (state_of c.args.draft.now) c.args.from c.args.bytes.now c.in-Ok.found (lexeme_token c.lexeme_of-lexeme.result) c.in-Ok.ensures.ok c.lexeme_of-lexeme.ensures.token c.in-Ok-process_step.ensures.names
    (c.in-Ok-process_step.ensures.ok ∙ ap (λ b. only_if b (state_of c.process_step.new.draft)) c.if-not-taken.true)
    c.lexeme_of-lexeme.result.at c.lexeme_of-lexeme.ensures.at

pub returns-then-is_deep-clause-err : goal.returns-then-is_deep-clause-err
returns-then-is_deep-clause-err c = λ q. token_deep c.args.names.now c.process_step.new.names q (state_of c.args.draft.now) c.args.from c.args.bytes.now c.in-Ok.found (lexeme_token c.lexeme_of-lexeme.result) c.in-Ok.ensures.ok c.lexeme_of-lexeme.ensures.token c.in-Ok-process_step.ensures.names
    (state_of c.process_step.new.draft) (c.in-Ok-process_step.ensures.ok ∙ ap (λ b. only_if b (state_of c.process_step.new.draft)) c.if-not-taken.false)
    (sym c.is_deep.ensures ∙ c.if-is_deep.true)
    c.lexeme_of-lexeme.result.at c.lexeme_of-lexeme.ensures.at

pub returns-clause-ok : goal.returns-clause-ok
returns-clause-ok c = λ q. token_passed c.args.names.now c.process_step.new.names q (state_of c.args.draft.now) c.args.from c.args.bytes.now c.in-Ok.found (lexeme_token c.lexeme_of-lexeme.result) c.in-Ok.ensures.ok c.lexeme_of-lexeme.ensures.token c.in-Ok-process_step.ensures.names
    (state_of c.process_step.new.draft) (c.in-Ok-process_step.ensures.ok ∙ ap (λ b. only_if b (state_of c.process_step.new.draft)) c.if-not-taken.false)
    (sym c.is_deep.ensures ∙ c.if-is_deep.false)

pub returns-clause-range : goal.returns-clause-range
returns-clause-range c =
    let p : c.args.from < c.in-Ok.found.next = token_past (number_in c.process_step.new.names) (state_of c.args.draft.now) (state_of c.process_step.new.draft) c.in-Ok.found c.args.bytes.now (lexeme_token c.lexeme_of-lexeme.result) c.args.from c.lexeme_of-lexeme.ensures.token
    (c.in-Ok-process_step.ensures.ok ∙ ap (λ b. only_if b (state_of c.process_step.new.draft)) c.if-not-taken.false) c.in-Ok.ensures.range.2 in
    let n : length c.process_step.new.names ≤ length c.args.names.now + 1 = subst (λ v. length v ≤ length c.args.names.now + 1) (sym c.in-Ok-process_step.ensures.names) (heard_more c.args.names.now (heard (state_of c.args.draft.now) (lexeme_token c.lexeme_of-lexeme.result))) in
    (p, c.in-Ok.ensures.range.1, omega (arith, p, n, c.requires.few_names))
