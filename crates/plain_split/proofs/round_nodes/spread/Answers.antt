use Rattle.std.proofs.Common.{◌++◌, length, ap, ◌∙◌, arith}
use Rattle.plain_split.specs.Mirror.RoundsTables.{parts_by}
use Rattle.plain_split.proofs.RoundsTied.{tree_long, tree_row, puts_many, puts_row}
use Rattle.plain_split.proofs.RoundsBuilt.{fork_of, spread_is, puts_long}
use Rattle.plain_split.proofs.round_nodes.spread.Goals as goal

pub index-requires : goal.index-requires
index-requires c = omega (arith, tree_long c.args.parts.now c.requires.tabled c.args.numbers.now c.requires.numbered, c.args.numbers.now.tree.ok.0)

pub go_number-begin-requires-clause-leaves : goal.go_number-begin-requires-clause-leaves
go_number-begin-requires-clause-leaves c =
    tree_row c.args.parts.now c.requires.tabled c.args.numbers.now c.requires.numbered c.args.parts.now.levels c.index.result.now c.as_slice-leaves.result.now (omega arith) c.index.ensures
    c.as_slice-leaves.ensures.value

pub index-requires-2 : goal.index-requires-2
index-requires-2 c = omega (arith, puts_many c.args.parts.now c.requires.tabled c.args.numbers.now c.requires.numbered, c.args.numbers.now.puts.ok.0, c.requires.known)

pub overflow_cast-result : goal.overflow_cast-result
overflow_cast-result c =
    let row = puts_row c.args.parts.now c.requires.tabled c.args.numbers.now c.requires.numbered c.args.act c.index-2.result.now c.as_slice-puts.result.now c.requires.known c.index-2.ensures
    c.as_slice-puts.ensures.value in
    omega (arith, ap length row, puts_long (parts_by c.args.parts.now) c.requires.tabled.ready c.args.act, c.requires.tabled.ready.few_outs c.args.act c.requires.known)

pub returns : goal.returns
returns c =
    let r = parts_by c.args.parts.now in
    let row = puts_row c.args.parts.now c.requires.tabled c.args.numbers.now c.requires.numbered c.args.act c.index-2.result.now c.as_slice-puts.result.now c.requires.known c.index-2.ensures
    c.as_slice-puts.ensures.value in
    ap (fork_of (length c.as_slice-puts.result.now)) (c.in_ok-extend_from_slice.ensures.items ∙ ap (λ ns. ns ++ c.as_slice-puts.result.now) c.in_ok-wires.ensures.items)
    ∙ spread_is r c.requires.tabled.ready c.args.act c.go_number-begin.result c.as_slice-puts.result.now c.go_number-begin.ensures row
