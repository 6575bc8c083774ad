use Rattle.std.proofs.Common.{◌≡◌, ◌∙◌, ◌+◌, ◌-◌, length, take, ap, sym, subst, arith}
use Rattle.trace_laws.specs.Mirror.Faults.{front}
use Rattle.trace_laws.specs.Mirror.Links.{find, AllKnown}
use Rattle.trace_laws.proofs.Linked.{row_more, row_whole}
use Rattle.trace_laws.proofs.links.Links.row_of.Goals as goal

pub exchanged_at-requires-clause-known : goal.exchanged_at-requires-clause-known
exchanged_at-requires-clause-known c =
    let at : c.in_ok-front.front ≡ front c.args.word.now = c.in_ok-front.ensures ∙ ap (λ z. take (length z - 1) c.args.word.now) c.symbols-symbols.ensures in
    c.row_at-known.ensures c.args.words.now (front c.args.word.now)
    (subst (AllKnown c.args.words.now) (sym c.as_slice.ensures.value) c.requires.links.rows) (c.place.ensures ∙ ap (find c.args.words.now) at)

pub loop-index-preserved : goal.loop-index-preserved
loop-index-preserved c = row_more c.args.words.now c.args.word.now c.loop-index.row.items c.push.new.self.items c.loop-index.index
    c.in_ok-place.place c.in_ok-push.ensures.items c.in_ok-place.ensures c.loop-index.invariant

pub returns : goal.returns
returns c =
    let long : c.loop-index.index + 1 ≡ length c.args.word.now =
    omega (arith, c.loop-index-test.false, c.loop-index.auto.index-end, c.if-symbols-lt2.false, ap length c.symbols-symbols.ensures) in
    row_whole c.args.words.now c.args.word.now c.loop-index.row.items c.loop-index.index long c.loop-index.invariant
