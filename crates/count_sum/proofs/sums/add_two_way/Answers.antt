use Rattle.std.proofs.Common.{List, sym, ap, ◌∙◌}
use Rattle.std.proofs.lemmas.Result.{on_ok_weaker}
use Rattle.basic_kinds.specs.Sums.{two_way_sum}
use Rattle.count_sum.specs.declared.parts.Part.{Part}
use Rattle.count_sum.specs.Mirror.Parts.{counted_of}
use Rattle.count_sum.specs.Mirror.Waits.{of_wait}
use Rattle.count_sum.proofs.AddSteps.{adds_same, room_same}
use Rattle.count_sum.proofs.WaitLayers.{wait_meant, seq_meant}
use Rattle.count_sum.proofs.sums.add_two_way.Goals as goal

pub add_wait-requires-clause-room : goal.add_wait-requires-clause-room
add_wait-requires-clause-room c =
    room_same (λ s. ap (λ (p : Part). two_way_sum (counted_of p) s) c.in-Wait.is ∙ sym (wait_meant c.in-Wait.rows c.in-Wait.cols c.in-Wait.cross s) ∙ ap (λ (x : List _). of_wait c.in-Wait.rows c.in-Wait.cols x s) (sym c.as_slice.ensures)) c.requires.room

pub returns-in-Wait : goal.returns-in-Wait
returns-in-Wait c =
    on_ok_weaker c.add_wait.result
    (adds_same (λ s. ap (λ (x : List _). of_wait c.in-Wait.rows c.in-Wait.cols x s) c.as_slice.ensures ∙ wait_meant c.in-Wait.rows c.in-Wait.cols c.in-Wait.cross s ∙ sym (ap (λ (p : Part). two_way_sum (counted_of p) s) c.in-Wait.is)))
    c.add_wait.ensures

pub add_sequencer-requires-clause-room : goal.add_sequencer-requires-clause-room
add_sequencer-requires-clause-room c = room_same (λ s. ap (λ (p : Part). two_way_sum (counted_of p) s) c.in-Sequencer.is ∙ sym (seq_meant c.in-Sequencer.requests s)) c.requires.room

pub returns-in-Sequencer : goal.returns-in-Sequencer
returns-in-Sequencer c =
    on_ok_weaker c.add_sequencer.result (adds_same (λ s. seq_meant c.in-Sequencer.requests s ∙ sym (ap (λ (p : Part). two_way_sum (counted_of p) s) c.in-Sequencer.is))) c.add_sequencer.ensures
