use Rattle.std.proofs.Common.{◌≡◌, None, sym, ◌∙◌}
use Rattle.std.specs.Prelude.{position}
use Rattle.place_graph.specs.Graph.{has_sym}
use Rattle.place_graph.proofs.Positions.{any_none, none_place}
use Rattle.place_graph.proofs.NumberSteps.{read_at}
use Rattle.place_graph.proofs.numbers.BurstNumbers.index.Goals as goal

pub returns-in-None : goal.returns-in-None
returns-in-None c =
    let a = c.args.sym in
    let bursts = c.args.self.now.bursts in
    let none : position (has_sym a) bursts ≡ None = sym (c.requires.numbers a.0 c.requires.inside)
    ∙ read_at c.args.self.now.numbers.items a.0 c.index.result.now c.requires.inside c.index.ensures
    ∙ c.in-None.is in
    c.len.ensures ∙ sym (none_place (has_sym a) bursts (any_none (has_sym a) bursts none))
