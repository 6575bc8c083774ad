use Rattle.std.proofs.Common.{◌≡◌, List, length, true, refl, sym, ap, ◌∙◌, subst, below_more}
use Rattle.std.specs.Prelude.{slice_get, Some}
use Rattle.std.proofs.lemmas.Bool.{false≢true}
use Rattle.std.proofs.lemmas.Option.{slice_get_read, slice_get_within}
use Rattle.net_core.specs.declared.walk.WalkState.{WalkState}
use Rattle.net_core.specs.Wiring.{Node, Circuit}
use Rattle.cmd_tree.specs.Lists.{is_in}
use Rattle.net_core.specs.Walk.{is_source, source_at}
use Rattle.net_core.specs.Mirror.Walking.{IsVisited}
use Rattle.net_core.specs.Mirror.WalkStates.{walk_in, Walks}
use Rattle.net_core.proofs.WalkSteps.{next_source, leads_keeps}
use Rattle.net_core.proofs.walk.WalkState.go_on_at_sources.Goals as goal
use Rattle.net_core.proofs.walk.WalkState.go_on_at_sources.Goals.{then-is_source+in_ok-go_on_at, else-is_source}

pub go_on_at-requires-clause-next : goal.go_on_at-requires-clause-next
go_on_at-requires-clause-next c = λ new.
    let net = c.args.net.now in
    let i = c.loop-number.number in
    let x = c.node-item.result in
    let nodes : c.deref-node-items.result.now ≡ net.nodes = c.deref-node-items.ensures.value ∙ ap (λ (d : Circuit). d.nodes) c.net.view_is in
    let there : slice_get net.nodes i ≡ Some x = ap (λ (xs : List Node). slice_get xs i) (sym nodes)
    ∙ slice_get_read c.deref-node-items.result.now (length c.deref-node-items.result.now) i x refl c.loop-number-test.true c.node-item.is in
    let source : source_at (slice_get net.nodes i) ≡ true =
    ap source_at there ∙ ap (λ (y : Node). is_source y.spec) (sym c.node.view_is) ∙ sym c.is_source.ensures ∙ c.if-is_source.true in
    next_source net c.loop-number.self.listed.numbers i (slice_get_within net.nodes i x there) source c.loop-number.invariant.below new

pub loop-number-preserved : goal.loop-number-preserved
loop-number-preserved c =
    let net = c.args.net.now in
    let i = c.loop-number.number in
    let x = c.node-item.result in
    let nodes : c.deref-node-items.result.now ≡ net.nodes = c.deref-node-items.ensures.value ∙ ap (λ (d : Circuit). d.nodes) c.net.view_is in
    let there : slice_get net.nodes i ≡ Some x = ap (λ (xs : List Node). slice_get xs i) (sym nodes)
    ∙ slice_get_read c.deref-node-items.result.now (length c.deref-node-items.result.now) i x refl c.loop-number-test.true c.node-item.is in
    let told : source_at (slice_get net.nodes i) ≡ c.is_source.result =
    ap source_at there ∙ ap (λ (y : Node). is_source y.spec) (sym c.node.view_is) ∙ sym c.is_source.ensures in
    elim c.if-is_source.branch [
      | then-is_source+in_ok-go_on_at w ↦
          let new = w.go_on_at.new.self in
          let stays = leads_keeps net (walk_in c.loop-number.self) (walk_in new) w.in_ok-go_on_at.ensures.leads in
          let below = below_more (λ k. source_at (slice_get net.nodes k) ≡ true → is_in k new.listed.numbers ≡ true) i
          (λ k h source. stays k (c.loop-number.invariant.below k h source)) (λ source. w.in_ok-go_on_at.ensures.listed) in
          record {
            walks = subst (Walks net) (sym w.self-is) w.in_ok-go_on_at.ensures.walks;
            visited = subst (λ (s : WalkState). IsVisited (walk_in s)) (sym w.self-is) w.in_ok-go_on_at.ensures.visited;
            below = λ k h source. subst (λ (s : WalkState). is_in k s.listed.numbers ≡ true) (sym w.self-is) (below k h source);
          }
      | else-is_source w ↦
          let below = below_more (λ k. source_at (slice_get net.nodes k) ≡ true → is_in k c.loop-number.self.listed.numbers ≡ true) i
          c.loop-number.invariant.below (λ source. absurd (false≢true (sym (told ∙ w.if-is_source.false) ∙ source))) in
          record {
            walks = subst (Walks net) (sym w.self-is) c.loop-number.invariant.walks;
            visited = subst (λ (s : WalkState). IsVisited (walk_in s)) (sym w.self-is) c.loop-number.invariant.visited;
            below = λ k h source. subst (λ (s : WalkState). is_in k s.listed.numbers ≡ true) (sym w.self-is) (below k h source);
          }
    ]
