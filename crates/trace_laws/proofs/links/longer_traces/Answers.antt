use Rattle.std.proofs.Common.{◌≡◌, ap, length, subst, arith}
use Rattle.std.specs.BTreeMap.{get}
use Rattle.trace_laws.specs.Mirror.Links.{key_cmp, Follow}
use Rattle.trace_laws.proofs.Linked.{item_at}
use Rattle.trace_laws.proofs.links.longer_traces.Goals as goal

pub loop-word-preserved : goal.loop-word-preserved
loop-word-preserved c =
    let at = item_at c.args.words.now c.as_slice-word-items.result.now c.loop-word.word-index c.word-item.result
    c.as_slice-word-items.ensures c.loop-word-test.true c.word-item.is in
    c.in_ok-link.ensures c.loop-word.word-index at.0 at.1 c.loop-word.invariant

pub returns : goal.returns
returns c =
    let q : c.loop-word.word-index ≡ length c.args.words.now =
    omega (arith, c.loop-word-test.false, c.loop-word.auto.word-index-end, ap length c.as_slice-word-items.ensures) in
    subst (λ n. Follow c.args.words.now n (get key_cmp c.loop-word.longer)) q c.loop-word.invariant
