use Rattle.std.proofs.Common.{◌∙◌, sym}
use Rattle.std.specs.Cmp.Lexicographic.{other_text}
use Rattle.replay.proofs.Scheduled.{behind_none}
use Rattle.replay.proofs.pieces.behind.Goals as goal

pub returns-else-eq-clause-none : goal.returns-else-eq-clause-none
returns-else-eq-clause-none c = λ none rest e.
    behind_none c.args.word.now c.args.text.now rest
    (λ same. other_text _ _ (sym c.if-eq.false ∙ c.eq.ensures) (c.split_at.ensures.front ∙ same)) e
