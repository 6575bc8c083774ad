use Rattle.std.proofs.Common.{sym, ◌∙◌, ap}
use Rattle.std.specs.Option.{option_map}
use Rattle.cmd_text.specs.Mirror.ScanView.{lexeme_token}
use Rattle.cmd_text.specs.Mirror.ReaderView.{spot_of, answer_behind}
use Rattle.cmd_text.proofs.Advance.{scan_fault, spot_refused, spot_passed, same_end, past_token}
use Rattle.cmd_text.proofs.read.pass_token.Goals as goal

pub next_token-requires-clause-from_in : goal.next_token-requires-clause-from_in
next_token-requires-clause-from_in c = c.requires.from_in

pub next_token-requires-clause-few : goal.next_token-requires-clause-few
next_token-requires-clause-few c = c.requires.few

pub returns-in-Err-clause-err : goal.returns-in-Err-clause-err
returns-in-Err-clause-err c = λ ns. scan_fault ns (spot_of c.args.sentences.now c.args.spot) c.args.from c.args.bytes.now c.in-Err.refusal c.in-Err.ensures.err

pub lexeme_of-lexeme-requires-clause-in_text : goal.lexeme_of-lexeme-requires-clause-in_text
lexeme_of-lexeme-requires-clause-in_text c = (c.in-Ok.ensures.range.0, c.in-Ok.ensures.range.1)

pub lexeme_of-lexeme-requires-clause-few : goal.lexeme_of-lexeme-requires-clause-few
lexeme_of-lexeme-requires-clause-few c = c.requires.few

pub spot_step-requires : goal.spot_step-requires
spot_step-requires c = c.requires.outside

pub returns-in_default-stepped-clause-err : goal.returns-in_default-stepped-clause-err
returns-in_default-stepped-clause-err c = spot_refused (spot_of c.args.sentences.now c.args.spot) c.args.from c.args.bytes.now c.in-Ok.found (lexeme_token c.lexeme_of-lexeme.result) c.in-Ok.ensures.ok c.lexeme_of-lexeme.ensures.token c.requires.outside c.lexeme_of-lexeme.result.at c.lexeme_of-lexeme.ensures.at
    (λ number. c.in-Ok-spot_step.ensures number ∙ ap (λ o. option_map (spot_of c.spot_step.new.sentences) o) c.in_default-stepped.is)

pub returns-clause-ok : goal.returns-clause-ok
returns-clause-ok c = λ ns. spot_passed (spot_of c.args.sentences.now c.args.spot) c.args.from c.args.bytes.now c.in-Ok.found (lexeme_token c.lexeme_of-lexeme.result) c.in-Ok.ensures.ok c.lexeme_of-lexeme.ensures.token c.requires.outside c.lexeme_of-lexeme.result.at c.lexeme_of-lexeme.ensures.at c.spot_step.new.sentences c.in-Some.spot
    (λ number. c.in-Ok-spot_step.ensures number ∙ ap (λ o. option_map (spot_of c.spot_step.new.sentences) o) c.in-Some.is) ns
    ∙ ap (λ b. answer_behind b ns (spot_of c.spot_step.new.sentences c.in-Some.spot) c.in-Ok.found.next c.args.bytes.now) (sym (same_end c.in-Ok.found.token) ∙ sym c.eq-ended.ensures)

pub returns-clause-range : goal.returns-clause-range
returns-clause-range c = c.in-Ok.ensures.range.1

pub returns-clause-past : goal.returns-clause-past
returns-clause-past c = λ e. past_token c.in-Ok.found c.args.from (sym (same_end c.in-Ok.found.token) ∙ sym c.eq-ended.ensures ∙ e) c.in-Ok.ensures.range.2
