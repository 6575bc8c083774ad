use Rattle.std.proofs.Common.{◌≡◌, true, false, get_or, length, sym, ap, ◌∙◌, arith, eqb-true}
use Rattle.std.specs.Prelude.{nat_eq}
use Rattle.std.proofs.lemmas.Bool.{and_parts}
use Rattle.plain_split.specs.RoundsNet.{leaf, To}
use Rattle.plain_split.specs.RoundsChart.{begins_process}
use Rattle.plain_split.specs.Mirror.RoundsTables.{parts_by, number_of}
use Rattle.plain_split.proofs.RoundsBlocks.{go_begins, go_enters}
use Rattle.plain_split.proofs.RoundsBuilt.{level_at, level_long}
use Rattle.plain_split.proofs.round_numbers.go_number.Goals as goal

pub bounds-leaves-round_before : goal.bounds-leaves-round_before
bounds-leaves-round_before c = omega (arith, c.round_before.ensures.low, ap length c.requires.leaves, level_long (parts_by c.args.parts.now) c.requires.tabled.ready c.args.parts.now.levels)

pub returns-then-begins : goal.returns-then-begins
returns-then-begins c =
    let begins : begins_process (parts_by c.args.parts.now) c.args.act ≡ true = sym c.begins.ensures ∙ c.if-begins.true in
    let (opens, first) = and_parts c.args.parts.now.opens (nat_eq c.args.act 0) begins in
    c.requires.begin opens ∙ go_begins (parts_by c.args.parts.now) c.requires.tabled.ready c.args.act begins (eqb-true c.args.act 0 first)

pub returns-else-begins : goal.returns-else-begins
returns-else-begins c =
    let r = parts_by c.args.parts.now in
    let begins : begins_process r c.args.act ≡ false = sym c.begins.ensures ∙ c.if-begins.false in
    ap (λ ns. get_or ns c.round_before.result 0) c.requires.leaves
    ∙ level_at r c.requires.tabled.ready c.args.parts.now.levels c.round_before.result c.round_before.ensures.low
    ∙ ap (λ i. number_of r (To (leaf c.args.parts.now.levels i))) c.round_before.ensures.round
    ∙ go_enters r c.requires.tabled.ready c.args.act begins
