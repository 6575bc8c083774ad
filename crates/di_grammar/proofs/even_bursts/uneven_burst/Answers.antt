use Rattle.di_grammar.proofs.Lists.{each_at}
use Rattle.std.proofs.Common.{◌≡◌, ◌+◌, length, take, ap, sym, ◌∙◌, subst, arith}
use Rattle.std.proofs.lemmas.List.{take_more, length-take-le, take_all}
use Rattle.di_grammar.specs.Clashes.{First}
use Rattle.di_grammar.specs.EvenBursts.{IsUneven}
use Rattle.tree_walk.specs.Mirror.Table.{entry_of}
use Rattle.di_grammar.specs.Mirror.Uneven.{burst_of, TellsAll}
use Rattle.di_grammar.proofs.UnevenSteps.{told_next, none_uneven, none_seen, dir_so_far}
use Rattle.di_grammar.proofs.even_bursts.uneven_burst.Goals as goal

pub loop-index-init : goal.loop-index-init
loop-index-init c = λ small before. (none_uneven c.args.place, none_seen c.args.place (entry_of c.args.first.now) before)

pub loop-index-preserved : goal.loop-index-preserved
loop-index-preserved c = λ small before.
    let marks = c.args.marks.now in
    let i = c.loop-index.index in
    let within = c.loop-index-test.true in
    let known = c.loop-index.invariant small before in
    let at : c.args.place + i ≡ c.args.place + length (take i marks) = ap (λ n. c.args.place + n) (sym (length-take-le i marks (omega arith))) in
    let dir = c.dir_of-dir.ensures ∙ dir_so_far marks i _ within in
    let more = sym (take_more marks i _ within) in (
      subst (First (IsUneven (burst_of c.args.place (take (i + 1) marks)))) (sym c.lesser-found.ensures)
          (told_next c.args.place marks i _ _ _ more known.0 (c.uneven_mark-clash.ensures.told (take i marks) at dir known.1)),
      subst (λ ms. TellsAll (burst_of c.args.place ms) (entry_of c.uneven_mark-clash.new.first)) more
          (c.uneven_mark-clash.ensures.first (take i marks) at (each_at _ marks i _ within small) known.1),
    )

pub returns-clause-told : goal.returns-clause-told
returns-clause-told c = λ small before.
    subst (λ ms. First (IsUneven (burst_of c.args.place ms)) c.loop-index.found) (take_all c.loop-index.index c.args.marks.now c.loop-index-test.false)
    (c.loop-index.invariant small before).0
