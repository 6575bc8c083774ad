use Rattle.std.proofs.Common.{sym, ap, ◌∙◌}
use Rattle.std.specs.Prelude.{is_some}
use Rattle.place_graph.specs.Graph.{has_sym}
use Rattle.place_graph.proofs.Positions.{some_is_any}
use Rattle.place_graph.proofs.NumberSteps.{read_at}
use Rattle.place_graph.proofs.numbers.BurstNumbers.has.Goals as goal

pub returns : goal.returns
returns c =
    let a = c.args.sym in
    let bursts = c.args.self.now.bursts in
    c.is_some.ensures
    ∙ ap is_some (sym
    (read_at c.args.self.now.numbers.items a.0 c.index.result.now c.requires.inside c.index.ensures)
    ∙ c.requires.numbers a.0 c.requires.inside) ∙ some_is_any (has_sym a) bursts
