use Rattle.std.proofs.Common.{◌≡◌, ◌∷◌, length, map, ap, ◌∙◌, arith}
use Rattle.std.specs.List.{range_with_len}
use Rattle.plain_split.specs.RoundsChart.{count, parts}
use Rattle.plain_split.specs.Mirror.RoundsTables.{parts_by, part_of}
use Rattle.plain_split.proofs.RoundsBuilt.{env_node}
use Rattle.plain_split.proofs.rounds_net.nodes.Goals as goal

pub returns : goal.returns
returns c =
    let r = parts_by c.args.parts in
    let long : c.len.result ≡ count r = omega (arith, c.len.ensures, c.args.parts.sides.ok.0, ap length c.requires.tabled.sides) in
    let env = env_node r c.requires.tabled.ready c.in_ok-wires.wires.items (c.in_ok-wires.ensures ∙ ap (range_with_len 0) long) in
    c.in_ok-insert.ensures.items ∙ ap (λ ns. record { spec = c.args.parts.spec; ends = c.in_ok-wires.wires.items } ∷ ns) c.in_ok-nodes.ensures
    ∙ ap (λ n. n ∷ map (part_of r) (parts r)) env
