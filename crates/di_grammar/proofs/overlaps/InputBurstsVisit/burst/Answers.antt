use Rattle.std.proofs.Common.{[], ◌∷◌, sym, subst, ◌∙◌}
use Rattle.tree_walk.specs.Bursts.{Burst}
use Rattle.di_grammar.specs.Bursts.{inputs}
use Rattle.di_grammar.specs.Mirror.Laid.{IsSmall}
use Rattle.tree_walk.specs.Mirror.Table.{entry_of}
use Rattle.di_grammar.specs.Mirror.Uneven.{burst_of}
use Rattle.di_grammar.specs.Mirror.Overlapping.{Distinct, KnowsOverlaps}
use Rattle.di_grammar.proofs.Laying.{laid_last}
use Rattle.di_grammar.proofs.Lists.{each_front}
use Rattle.di_grammar.proofs.OverlapSteps.{sound_inputs, inputs_input, inputs_output}
use Rattle.di_grammar.proofs.overlaps.InputBurstsVisit.burst.Goals as goal

pub returns-in-Input : goal.returns-in-Input
returns-in-Input c = λ ps w number known end laid small distinct.
    let b : Burst = burst_of c.args.place c.args.marks.now in
    let old = known b.place (laid_last 1 end w.bursts b laid).0 (each_front IsSmall w.bursts (b ∷ []) small) (each_front Distinct w.bursts (b ∷ []) distinct) in
    let new = c.meet.ensures (inputs w.bursts) (sound_inputs w.bursts b end laid small distinct) old in
    subst (λ bs. KnowsOverlaps bs (entry_of c.meet.new.self.firsts.places) (entry_of c.meet.new.self.firsts.sizes) c.meet.new.self.found)
    (sym (inputs_input w.bursts b (sym c.dir_of.ensures ∙ c.in-Input.is))) new

pub returns-in-Output : goal.returns-in-Output
returns-in-Output c = λ ps w number known end laid small distinct.
    let b : Burst = burst_of c.args.place c.args.marks.now in
    let old = known b.place (laid_last 1 end w.bursts b laid).0 (each_front IsSmall w.bursts (b ∷ []) small) (each_front Distinct w.bursts (b ∷ []) distinct) in
    subst (λ bs. KnowsOverlaps bs (entry_of c.args.self.now.firsts.places) (entry_of c.args.self.now.firsts.sizes) c.args.self.now.found)
    (sym (inputs_output w.bursts b (sym c.dir_of.ensures ∙ c.in-Output.is))) old
