use Rattle.std.proofs.Common.{get_or, sym}
use Rattle.std.proofs.lemmas.List.{get_or_default}
use Rattle.std.specs.BTreeMap.{get}
use Rattle.trace_laws.specs.Mirror.Links.{key_cmp}
use Rattle.trace_laws.proofs.Linked.{walk_begins, walk_more, walk_ends}
use Rattle.trace_laws.proofs.links.listed_size.Goals as goal

pub loop-index-init : goal.loop-index-init
loop-index-init c = λ W f e. walk_begins W c.args.word.now c.args.root e

pub returns-in_default-clause-missing : goal.returns-in_default-clause-missing
returns-in_default-clause-missing c = λ W f e l h.
    let items = c.symbols-symbols.result.now in
    let a = get_or items c.loop-index.index 0 in
    walk_ends W (get key_cmp c.args.longer.now) f c.args.word.now items c.loop-index.index a c.loop-index.place c.symbols-symbols.ensures c.loop-index-test.true
    (get_or_default items c.loop-index.index 0 a c.loop-index-test.true) (c.loop-index.invariant W f e) (sym c.in_default.ensures.value) h

pub loop-index-preserved : goal.loop-index-preserved
loop-index-preserved c = λ W f e.
    let items = c.symbols-symbols.result.now in
    let a = get_or items c.loop-index.index 0 in
    walk_more W (get key_cmp c.args.longer.now) f c.args.word.now items c.loop-index.index a c.loop-index.place c.symbols-symbols.ensures c.loop-index-test.true
    (get_or_default items c.loop-index.index 0 a c.loop-index-test.true) (c.loop-index.invariant W f e) c.in-Some.next.now (sym c.in-Some.ensures.value)
