use Rattle.std.proofs.Common.{◌≡◌, ◌<◌, ◌∙◌, List, length, get_or, ap, arith}
use Rattle.net_core.specs.Specs.{outs_of}
use Rattle.net_core.specs.Wiring.{Node, Circuit}
use Rattle.replay.proofs.Making.{first_directed, none_busy, none_many}
use Rattle.replay.proofs.board.Board.new.Goals as goal

pub returns : goal.returns
returns c =
    let net = c.args.net.now in
    let x = c.index.result.now in
    let nodes : c.net.inside.nodes.items ≡ net.nodes = ap (λ (d : Circuit). d.nodes) c.net.view_is in
    let wires : c.net.inside.wires ≡ net.wires = ap (λ (d : Circuit). d.wires) c.net.view_is in
    let is : x ≡ get_or net.nodes 0 x = c.index.ensures ∙ ap (λ (xs : List Node). get_or xs 0 x) nodes in
    let some : 0 < length net.nodes = omega (arith, ap (λ (xs : List Node). length xs) nodes, c.net.invariant.some) in
    let outs : c.in_ok-directions.field-0.items ≡ outs_of x.spec = c.in_ok-directions.ensures ∙ ap (λ (y : Node). outs_of y.spec) c.behind-net.view_is in
    record {
      each = c.in_ok-machines_of.ensures.each;
      many = c.in_ok-machines_of.ensures.many;
      command = c.requires.command;
      specified = c.requires.specified;
      walks = c.in_ok-walker_of.ensures c.requires.command c.requires.specified;
      directed = first_directed net x c.in_ok-directions.field-0.items some is outs;
      wires = none_many c.net.inside.wires c.in_ok-no_bits.field-0.items c.in_ok-no_bits.ensures ∙ wires;
      bits = none_busy c.net.inside.wires c.in_ok-no_bits.field-0.items c.in_ok-no_bits.ensures;
    }
