use Rattle.di_grammar.proofs.answer.first_clash.Goals as goal

pub returns-in-Rounds : goal.returns-in-Rounds
returns-in-Rounds c = rw c.in-Rounds.is c.one_way_rounds.ensures
