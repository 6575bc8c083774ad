use Rattle.std.proofs.Common.{nat_eq, sym, ◌∙◌}
use Rattle.place_graph.proofs.Positions.{any_none, none_place}
use Rattle.place_graph.proofs.numbers.PointNumbers.index.Goals as goal

pub returns-in-None : goal.returns-in-None
returns-in-None c =
    let points = c.args.self.now.points in
    c.count.ensures ∙ sym
    (none_place (nat_eq c.args.point) points
    (any_none (nat_eq c.args.point) points (sym c.in-None.ensures)))
