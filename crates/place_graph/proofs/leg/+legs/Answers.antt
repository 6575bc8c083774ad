use Rattle.std.proofs.Common.{◌≡◌, ◌+◌, ◌<◌, length, ap, ◌∙◌, arith}
use Rattle.cmd_tree.specs.Tree.{places_of, places_in}
use Rattle.cmd_tree.specs.View.{item_of}
use Rattle.place_graph.proofs.LegSteps.{seq_next, legs_next}
use Rattle.place_graph.proofs.leg.+legs.Goals as goal
use Rattle.place_graph.proofs.leg.+legs.Goals.{push_seq_legs-then-left-eq0, push_seq_legs-else-left-eq0}

pub push_seq_legs-loop-item-preserved : goal.push_seq_legs-loop-item-preserved
push_seq_legs-loop-item-preserved t c =
    let xs = c.as_slice-item-items.result.now in
    let i = c.loop-item.item-index in
    let x = c.item-item.result in
    let last : length xs ≡ i + 1 → c.if-left-eq0.to ≡ c.args.later = λ e. elim c.if-left-eq0.branch [
      | push_seq_legs-then-left-eq0 w ↦ w.to-is
      | push_seq_legs-else-left-eq0 w ↦ absurd
          (omega (arith, c.loop-item.invariant.left, w.if-left-eq0.false))
    ] in
    let more : i + 1 < length xs → c.if-left-eq0.to ≡ c.loop-item.place + places_in (item_of x) = λ e.
    elim c.if-left-eq0.branch [
      | push_seq_legs-then-left-eq0 w ↦ absurd
          (omega (arith, c.loop-item.invariant.left, w.if-left-eq0.true))
      | push_seq_legs-else-left-eq0
          w ↦ omega (arith, w.to-is, c.item_places.ensures)
    ] in
    record {
      left = omega (arith, c.loop-item.invariant.left, c.loop-item-test.true);
      places = omega (
        arith,
        c.loop-item.invariant.places,
        c.item_places.ensures,
        ap places_of
            (seq_next xs i x c.loop-item-test.true c.item-item.is),
      );
      legs = rw c.item_places.ensures
          (legs_next xs i x c.loop-item.legs.items c.push_item_legs.new.legs.items c.loop-item.place
          c.loop-item.entry c.args.later c.if-left-eq0.to c.loop-item-test.true c.item-item.is last more
          c.in_ok-push_item_legs.ensures ∙ c.loop-item.invariant.legs);
    }
