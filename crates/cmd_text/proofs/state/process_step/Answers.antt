use Rattle.cmd_text.specs.declared.draft.Mode.TheVariants.{Form, Body, Item, After, Burst, AfterBurst, Second}
use Rattle.cmd_text.specs.Names.{number_in}
use Rattle.cmd_text.specs.Mirror.ScanView.{lexeme_token}
use Rattle.cmd_text.proofs.StateSteps.{taken_to, taken, taken_any}
use Rattle.cmd_text.proofs.state.process_step.Goals as goal

pub returns-in-Form-clause-ok : goal.returns-in-Form-clause-ok
returns-in-Form-clause-ok c = taken_to c.args.draft.now c.form_step.new.draft Form c.in-Form.is (number_in c.args.names.now) (lexeme_token c.args.lexeme.now) c.form_step.result (c.form_step.ensures c.args.lexeme.now.word.now)

pub returns-in-Body-clause-ok : goal.returns-in-Body-clause-ok
returns-in-Body-clause-ok c = taken_to c.args.draft.now c.body_step.new.draft Body c.in-Body.is (number_in c.args.names.now) (lexeme_token c.args.lexeme.now) c.body_step.result (c.body_step.ensures c.args.lexeme.now.word.now)

pub returns-in-Second-clause-ok : goal.returns-in-Second-clause-ok
returns-in-Second-clause-ok c = taken_to c.args.draft.now c.second_step.new.draft Second c.in-Second.is (number_in c.args.names.now) (lexeme_token c.args.lexeme.now) c.second_step.result (c.second_step.ensures c.args.lexeme.now.word.now)

pub returns-in-Item-clause-ok : goal.returns-in-Item-clause-ok
returns-in-Item-clause-ok c = taken c.args.draft.now c.item_step.new.draft Item c.in-Item.is (number_in c.args.names.now) (lexeme_token c.args.lexeme.now) c.item_step.result c.item_step.ensures

pub returns-in-Burst-clause-ok : goal.returns-in-Burst-clause-ok
returns-in-Burst-clause-ok c = taken c.args.draft.now c.burst_step.new.draft Burst c.in-Burst.is (number_in c.args.names.now) (lexeme_token c.args.lexeme.now) c.burst_step.result c.burst_step.ensures

pub returns-in-After-clause-ok : goal.returns-in-After-clause-ok
returns-in-After-clause-ok c = taken_any c.args.draft.now c.after_step.new.draft After c.in-After.is (number_in c.args.names.now) c.args.lexeme.now.token c.args.lexeme.now.word.now c.after_step.result c.after_step.ensures

pub returns-in-AfterBurst-clause-ok : goal.returns-in-AfterBurst-clause-ok
returns-in-AfterBurst-clause-ok c = taken_any c.args.draft.now c.after_burst_step.new.draft AfterBurst c.in-AfterBurst.is (number_in c.args.names.now) c.args.lexeme.now.token c.args.lexeme.now.word.now c.after_burst_step.result c.after_burst_step.ensures
