use Rattle.std.proofs.Common.{Some}
use Rattle.cmd_text.specs.declared.spot.Spot.TheVariants as variant
use Rattle.cmd_text.specs.Mirror.ScanView.{lexeme_token}
use Rattle.cmd_text.proofs.SpotSteps.{led_to, led, led_any, led_behind}
use Rattle.cmd_text.proofs.spot.spot_step.Goals as goal

pub returns-in-Sentence : goal.returns-in-Sentence
returns-in-Sentence c = led_to c.args.sentences.now c.args.spot variant.Sentence c.in-Sentence.is (lexeme_token c.args.lexeme.now) (Some c.args.lexeme.now.at) c.sentence_step.result c.sentence_step.ensures

pub returns-in-Name : goal.returns-in-Name
returns-in-Name c = led c.args.sentences.now c.args.spot variant.Name c.in-Name.is (lexeme_token c.args.lexeme.now) (Some c.args.lexeme.now.at) c.name_step.result c.name_step.ensures

pub returns-in-Define : goal.returns-in-Define
returns-in-Define c = led_to c.args.sentences.now c.args.spot (variant.Define c.in-Define.head) c.in-Define.is (lexeme_token c.args.lexeme.now) (Some c.args.lexeme.now.at) c.define_step.result (c.define_step.ensures c.args.lexeme.now.word.now (Some c.args.lexeme.now.at))

pub returns-in-Factor : goal.returns-in-Factor
returns-in-Factor c = led c.args.sentences.now c.args.spot (variant.Factor c.in-Factor.partly) c.in-Factor.is (lexeme_token c.args.lexeme.now) (Some c.args.lexeme.now.at) c.factor_step.result c.factor_step.ensures

pub returns-in-Fresh : goal.returns-in-Fresh
returns-in-Fresh c = led c.args.sentences.now c.args.spot (variant.Fresh c.in-Fresh.partly c.in-Fresh.named) c.in-Fresh.is (lexeme_token c.args.lexeme.now) (Some c.args.lexeme.now.at) c.fresh_step.result c.fresh_step.ensures

pub returns-in-Slash : goal.returns-in-Slash
returns-in-Slash c = led_to c.args.sentences.now c.args.spot (variant.Slash c.in-Slash.partly c.in-Slash.named c.in-Slash.fresh c.in-Slash.fresh_at) c.in-Slash.is (lexeme_token c.args.lexeme.now) (Some c.args.lexeme.now.at) c.slash_step.result (c.slash_step.ensures c.args.lexeme.now.word.now (Some c.args.lexeme.now.at))

pub returns-in-Was : goal.returns-in-Was
returns-in-Was c = led c.args.sentences.now c.args.spot (variant.Was c.in-Was.partly c.in-Was.named c.in-Was.fresh c.in-Was.fresh_at) c.in-Was.is (lexeme_token c.args.lexeme.now) (Some c.args.lexeme.now.at) c.was_step.result c.was_step.ensures

pub returns-in-AfterPair : goal.returns-in-AfterPair
returns-in-AfterPair c = led_any c.args.sentences.now c.args.spot (variant.AfterPair c.in-AfterPair.partly c.in-AfterPair.named) c.in-AfterPair.is (Some c.args.lexeme.now.at) c.args.lexeme.now.token c.args.lexeme.now.word.now c.after_pair_step.result c.after_pair_step.ensures

pub returns-in-End : goal.returns-in-End
returns-in-End c = led_to c.args.sentences.now c.args.spot variant.End c.in-End.is (lexeme_token c.args.lexeme.now) (Some c.args.lexeme.now.at) c.end_step.result (c.end_step.ensures c.args.lexeme.now.word.now (Some c.args.lexeme.now.at))

pub returns-in-AfterName : goal.returns-in-AfterName
returns-in-AfterName c = led_behind c.args.sentences.now c.args.spot (variant.AfterName c.in-AfterName.partly c.in-AfterName.named) c.in-AfterName.is (Some c.args.lexeme.now.at) c.args.lexeme.now.token c.args.lexeme.now.word.now c.after_name_step.new.sentences c.after_name_step.result c.after_name_step.ensures

pub returns-in-AfterFactor : goal.returns-in-AfterFactor
returns-in-AfterFactor c = led_behind c.args.sentences.now c.args.spot (variant.AfterFactor c.in-AfterFactor.partly) c.in-AfterFactor.is (Some c.args.lexeme.now.at) c.args.lexeme.now.token c.args.lexeme.now.word.now c.after_factor_step.new.sentences c.after_factor_step.result c.after_factor_step.ensures
