use Rattle.net_core.specs.Wiring.{IsClosed}
use Rattle.net_core.specs.Networks.{IsClean, SoundFor, Correct}
use Rattle.substitute.specs.Splice.{spliced, Fitting}
use Rattle.substitute.proofs.SplicedNet.{spliced_closed, spliced_clean, spliced_sound_for, spliced_correct}
use Rattle.substitute.proofs.Tables.{landed}
use Rattle.substitute.proofs.whole.splice.Goals as goal

pub returns-clause-closed : goal.returns-clause-closed
returns-clause-closed c = landed (Fitting c.args.net c.args.at c.args.sub.now) IsClosed (spliced c.args.net c.args.at c.args.sub.now) c.put_in_place.result
    c.put_in_place.ensures.ok c.put_in_place.ensures.fitting (λ fit. spliced_closed c.args.net c.args.at c.args.sub.now fit)

pub returns-clause-clean : goal.returns-clause-clean
returns-clause-clean c = λ one two. landed (Fitting c.args.net c.args.at c.args.sub.now) IsClean (spliced c.args.net c.args.at c.args.sub.now) c.put_in_place.result
    c.put_in_place.ensures.ok c.put_in_place.ensures.fitting (λ fit. spliced_clean c.args.net c.args.at c.args.sub.now fit one two)

pub returns-clause-sound : goal.returns-clause-sound
returns-clause-sound c = λ s t one two. landed (Fitting c.args.net c.args.at c.args.sub.now) (λ d. SoundFor d s) (spliced c.args.net c.args.at c.args.sub.now)
    c.put_in_place.result c.put_in_place.ensures.ok c.put_in_place.ensures.fitting (λ fit. spliced_sound_for c.args.net c.args.at c.args.sub.now fit s t one two)

pub returns-clause-correct : goal.returns-clause-correct
returns-clause-correct c = λ s t one two. landed (Fitting c.args.net c.args.at c.args.sub.now) (λ d. Correct d s) (spliced c.args.net c.args.at c.args.sub.now)
    c.put_in_place.result c.put_in_place.ensures.ok c.put_in_place.ensures.fitting (λ fit. spliced_correct c.args.net c.args.at c.args.sub.now fit s t one two)
