use Rattle.std.proofs.Common.{◌≡◌, arith, sym, ◌∙◌, ap, ◌+◌, ℕ, []}
use Rattle.cmd_tree.specs.Tree.{places_of, places_in}
use Rattle.cmd_tree.specs.View.{seq_of, item_of}
use Rattle.tree_walk.specs.declared.edges.Edges.{Edges}
use Rattle.tree_walk.specs.Bursts.{firsts_of, lasts_of, firsts_in, lasts_after}
use Rattle.tree_walk.specs.Edges.{by_direction}
use Rattle.tree_walk.specs.Passed.{and_then}
use Rattle.tree_walk.specs.Mirror.Walked.{seq_passed}
use Rattle.tree_walk.proofs.Walking.{places_items, places_seqs, midway_next, ending_next, among_next, found_next, firsts_next, firsts_items, lasts_seqs, firsts_seqs, firsts_end, lasts_end, seq_ends}
use Rattle.tree_walk.proofs.course.+walk.Goals as goal

pub walk_seq-loop-index-init : goal.walk_seq-loop-index-init
walk_seq-loop-index-init n g c =
    let at = c.at-walked.ensures.after in
    let whole = seq_of c.as_slice-items.result.now in
    record {
      fits = ap (λ (k : ℕ). k + places_of whole) at;
      firsts = ap (λ (k : ℕ). by_direction (firsts_of k whole)) at;
      begun = λ z. ap (λ (e : Edges). e.firsts) c.at-walked.ensures.edges;
      lasts = record { bursts = []; are = ap (λ (e : Edges). e.lasts) c.at-walked.ensures.edges; whole = ap (λ (k : ℕ). lasts_after [] k whole) at };
      knows = λ ps w bs number before knows. record { passed = w; lasts = bs; knows = knows; after = before; whole = ap (λ (k : ℕ). and_then w (seq_passed bs k whole)) at };
    }

pub walk_seq-loop-index-preserved : goal.walk_seq-loop-index-preserved
walk_seq-loop-index-preserved n g c =
    let items = c.as_slice-items.result.now in
    let index = c.loop-index.index in
    let item = c.index-items-index.result in
    let is = c.index-items-index.is in
    let here = c.loop-index-test.true in
    let place = c.loop-index.walked.after in
    let after : c.and-walked.result.after ≡ place + places_in (item_of item) = c.and-walked.ensures.after ∙ c.walk_item-passed.ensures.after in
    let lasts = ap (λ (e : Edges). e.lasts) c.walk_item-passed.ensures.edges in
    let firsts = ap (λ (e : Edges). e.firsts) c.walk_item-passed.ensures.edges in
    record {
      fits = omega (arith, c.loop-index.invariant.fits, places_items items index item here is, after);
      firsts = firsts_next index c.loop-index.walked.edges.firsts c.and-walked.result.edges.firsts c.walk_item-passed.result.edges.firsts _ _ c.and-walked.ensures.firsts
          (firsts_items index c.loop-index.walked.edges.firsts c.walk_item-passed.result.edges.firsts _ place items item here is firsts c.loop-index.invariant.firsts);
      begun = λ z. absurd (omega arith);
      lasts = rw after (ending_next _ _ place items index item _ here is (c.and-walked.ensures.lasts ∙ lasts) c.loop-index.invariant.lasts);
      knows = λ ps w bs number before knows. rw after (midway_next _ _ c.loop-index.before _ place items index item _ here is
          (λ v cs old known. c.neighbours.ensures ps _ (record { lasts = cs; firsts = firsts_in place (item_of item) }) number
          (λ i. record { lasts = old i; firsts = firsts i }) (c.walk_item-passed.ensures.knows ps v number known))
          lasts (c.loop-index.invariant.knows ps w bs number before knows));
    }

pub walk_item-loop-seq-preserved : goal.walk_item-loop-seq-preserved
walk_item-loop-seq-preserved n g c =
    let seqs = c.as_slice-seq-items.result.now in
    let index = c.loop-seq.seq-index in
    let seq = c.seq-item.result in
    let is = c.seq-item.is in
    let here = c.loop-seq-test.true in
    let place = c.loop-seq.walked.after in
    let after : c.or-walked.result.after ≡ place + places_of seq = c.or-walked.ensures.after ∙ c.walk_seq-passed.ensures.after in
    record {
      fits = omega (arith, c.loop-seq.invariant.fits, places_seqs seqs index seq here is, after);
      firsts = rw after (found_next c.loop-seq.walked.edges.firsts c.walk_seq-passed.result.edges.firsts _ (firsts_of place seq) _ _ _ c.or-walked.ensures.firsts
          (ap (λ (e : Edges). e.firsts) c.walk_seq-passed.ensures.edges) (firsts_seqs place seqs index seq here is) c.loop-seq.invariant.firsts);
      lasts = rw after (found_next c.loop-seq.walked.edges.lasts c.walk_seq-passed.result.edges.lasts _ (lasts_of place seq) _ _ _ c.or-walked.ensures.lasts
          (ap (λ (e : Edges). e.lasts) c.walk_seq-passed.ensures.edges) (lasts_seqs place seqs index seq here is) c.loop-seq.invariant.lasts);
      knows = λ ps w number knows. rw after (among_next _ _ place seqs index seq _ here is
          (λ v known. c.walk_seq-passed.ensures.knows ps v [] number c.none.ensures known) (c.loop-seq.invariant.knows ps w number knows));
    }

pub walk_seq-returns-clause-edges : goal.walk_seq-returns-clause-edges
walk_seq-returns-clause-edges n g c =
    let items = c.as_slice-items.result.now in
    let same : seq_of items ≡ c.args.seq.now = ap seq_of c.as_slice-items.ensures ∙ c.seq.view_is in
    let firsts = firsts_end c.loop-index.index _ items c.loop-index.walked.edges.firsts _ c.loop-index-test.false c.loop-index.invariant.begun c.loop-index.invariant.firsts in
    let lasts = lasts_end c.loop-index.walked.edges.lasts _ items c.loop-index.index _ c.loop-index-test.false c.loop-index.invariant.lasts in
    rw (sym same) (λ i. record { lasts = lasts i; firsts = firsts i })

pub walk_seq-returns-clause-knows : goal.walk_seq-returns-clause-knows
walk_seq-returns-clause-knows n g c = λ ps w bs number before knows.
    let items = c.as_slice-items.result.now in
    let same : seq_of items ≡ c.args.seq.now = ap seq_of c.as_slice-items.ensures ∙ c.seq.view_is in
    rw (sym same) (seq_ends (n.V.Visit.knows c.loop-index.visitor ps) c.loop-index.before _ items c.loop-index.index _ c.loop-index-test.false
    (c.loop-index.invariant.knows ps w bs number before knows))
