use Rattle.std.proofs.Common.{length, ◌∙◌, arith}
use Rattle.plain_split.specs.Mirror.RoundsTables.{parts_by}
use Rattle.plain_split.proofs.RoundsRead.{row_is, gives_long}
use Rattle.plain_split.proofs.RoundsTied.{gives_row, acts_known, ports_known, numbers_read}
use Rattle.plain_split.proofs.RoundsBuilt.{show_is, givers_few}
use Rattle.plain_split.proofs.round_nodes.show.Goals as goal

pub give_numbers-requires-clause-acts : goal.give_numbers-requires-clause-acts
give_numbers-requires-clause-acts c =
    let row = gives_row c.args.parts.now c.requires.tabled c.args.numbers.now c.requires.numbered c.args.symbol c.index.result.now c.as_slice-gives.result.now c.requires.known c.index.ensures
    c.as_slice-gives.ensures.value in
    acts_known c.args.parts.now c.requires.tabled c.args.numbers.now c.requires.numbered c.args.symbol c.as_slice-gives.result.now row c.as_slice.result.now c.as_slice.ensures.value

pub give_numbers-requires-clause-ports : goal.give_numbers-requires-clause-ports
give_numbers-requires-clause-ports c =
    let row = gives_row c.args.parts.now c.requires.tabled c.args.numbers.now c.requires.numbered c.args.symbol c.index.result.now c.as_slice-gives.result.now c.requires.known c.index.ensures
    c.as_slice-gives.ensures.value in
    ports_known c.args.parts.now c.requires.tabled c.args.numbers.now c.requires.numbered c.args.symbol c.as_slice-gives.result.now row c.as_slice.result.now c.as_slice.ensures.value

pub overflow_cast-result : goal.overflow_cast-result
overflow_cast-result c =
    let same = c.as_slice-gives.ensures.value ∙ row_is (λ v. v.items) c.args.parts.now.gives.items c.index.result.now c.args.symbol (omega (arith, c.requires.tabled.names, c.requires.known)) c.index.ensures in
    omega (
      arith,
      gives_long c.args.parts.now c.requires.tabled c.args.symbol c.as_slice-gives.result.now c.requires.known same,
      givers_few (parts_by c.args.parts.now) c.requires.tabled.ready c.args.symbol,
      c.requires.tabled.ready.few_acts,
    )

pub returns : goal.returns
returns c =
    let r = parts_by c.args.parts.now in
    let same = c.as_slice-gives.ensures.value ∙ row_is (λ v. v.items) c.args.parts.now.gives.items c.index.result.now c.args.symbol (omega (arith, c.requires.tabled.names, c.requires.known)) c.index.ensures in
    let row = gives_row c.args.parts.now c.requires.tabled c.args.numbers.now c.requires.numbered c.args.symbol c.index.result.now c.as_slice-gives.result.now c.requires.known c.index.ensures
    c.as_slice-gives.ensures.value in
    show_is r c.requires.tabled.ready c.args.symbol (length c.as_slice-gives.result.now) c.push.new.self.items c.in_ok-wires.wires.items c.requires.known c.requires.out
    (gives_long c.args.parts.now c.requires.tabled c.args.symbol c.as_slice-gives.result.now c.requires.known same) c.in_ok-push.ensures.items
    (c.in_ok-wires.ensures ∙ numbers_read c.args.parts.now c.requires.tabled c.args.numbers.now c.requires.numbered c.args.symbol c.as_slice-gives.result.now row c.as_slice.result.now c.as_slice.ensures.value)
