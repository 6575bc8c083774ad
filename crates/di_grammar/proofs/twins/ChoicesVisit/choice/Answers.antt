use Rattle.std.proofs.Common.{List, [], ◌∷◌, sym, subst}
use Rattle.cmd_tree.specs.View.{seqs_of}
use Rattle.tree_walk.specs.Bursts.{Burst}
use Rattle.tree_walk.specs.Meetings.{alternatives}
use Rattle.di_grammar.specs.Clashes.{First}
use Rattle.di_grammar.specs.Mirror.Twins.{Climbs, IsClimbing, HasTwins, TwinsIn}
use Rattle.di_grammar.proofs.Choosing.{firsts_alternatives}
use Rattle.di_grammar.proofs.Covers.{among_more}
use Rattle.di_grammar.proofs.Lists.{each_front, each_back}
use Rattle.di_grammar.proofs.twins.ChoicesVisit.choice.Goals as goal

pub returns : goal.returns
returns c = λ ps w number is known climbing.
    let choice = alternatives c.args.place (seqs_of c.args.seqs.now) in
    let same = firsts_alternatives c.args.place (seqs_of c.args.seqs.now) in
    let climbs = subst (Climbs 0) same (each_back IsClimbing w.choices (choice ∷ []) climbing).0 in
    let twins = subst (λ (bs : List Burst). First (TwinsIn bs) c.twins_among.result) (sym same) (c.twins_among.ensures climbs) in
    rw c.lesser-self.ensures (among_more HasTwins w.choices choice _ _ (known (each_front IsClimbing w.choices (choice ∷ []) climbing)) twins)
