use Rattle.std.proofs.Common.{◌≡◌, sym, ap, ◌∙◌, length}
use Rattle.std.proofs.lemmas.Slice.Eq.{slice_eq-Decides}
use Rattle.cmd_tree.specs.declared.tree.Item.TheVariants.{Burst}
use Rattle.cmd_tree.proofs.EqualTrees.{marks_decide, seq_inj, same_at}
use Rattle.cmd_tree.proofs.same.+same.Goals as goal

pub same_seq-returns-then-len-others : goal.same_seq-returns-then-len-others
same_seq-returns-then-len-others t c = (
  λ h. absurd (cc),
  λ h.
      let same : c.a.inside.items ≡ c.b.inside.items = seq_inj c.a.inside.items c.b.inside.items (c.a.view_is ∙ h ∙ sym c.b.view_is) in
      absurd (c.if-len-others.true (c.len.ensures ∙ ap length (same ∙ sym c.as_slice-others.ensures))),
)

pub same_seq-returns-then-not-same_item : goal.same_seq-returns-then-not-same_item
same_seq-returns-then-not-same_item t c = (
  λ h. absurd (cc),
  λ h.
      let same : c.a.inside.items ≡ c.b.inside.items = seq_inj c.a.inside.items c.b.inside.items (c.a.view_is ∙ h ∙ sym c.b.view_is) in
      let all : c.as_slice-item-items.result.now ≡ c.as_slice-others.result.now = cc in
      let one = same_at c.as_slice-item-items.result.now c.as_slice-others.result.now c.loop-index.index c.item-item.result c.index-others-index.result all
      c.loop-index-test.true c.item-item.is c.index-others-index.is in
      sym c.if-not-same_item.true ∙ c.same_item.ensures.1 one,
)

pub same_item-returns-in-Burst-Burst : goal.same_item-returns-in-Burst-Burst
same_item-returns-in-Burst-Burst t c =
    let told = slice_eq-Decides marks_decide c.as_slice.result.now c.as_slice-in-Burst-Burst.result.now c.eq.result c.eq.ensures in
    let first = c.as_slice.ensures in
    let second = c.as_slice-in-Burst-Burst.ensures in (
      λ h. c.in-Burst-Burst.is-0 ∙ ap Burst (sym first ∙ told.0 h ∙ second) ∙ sym c.in-Burst-Burst.is-1,
      λ h. told.1 (cc),
    )
