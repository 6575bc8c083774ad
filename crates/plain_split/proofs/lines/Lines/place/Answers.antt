use Rattle.std.proofs.Common.{ap, ◌∙◌, sym, map}
use Rattle.plain_split.specs.SharedPaths.{place}
use Rattle.plain_split.specs.OneWait.{same_wire}
use Rattle.plain_split.specs.Mirror.OneWaitTables.{wire_of}
use Rattle.plain_split.proofs.LinesFound.{found_place, missing_place}
use Rattle.plain_split.proofs.lines.Lines.place.Goals as goal

pub returns-in-Some : goal.returns-in-Some
returns-in-Some c =
    found_place c.args.wire c.self.inside.set.keys c.in-Some.place (sym c.get_index_of.ensures.index ∙ c.in-Some.is)
    ∙ ap (λ xs. place same_wire (map wire_of xs) (wire_of c.args.wire)) c.self.view_is

pub returns-in-None : goal.returns-in-None
returns-in-None c =
    c.len.ensures.len ∙ missing_place c.args.wire c.self.inside.set.keys (sym c.get_index_of.ensures.index ∙ c.in-None.is)
    ∙ ap (λ xs. place same_wire (map wire_of xs) (wire_of c.args.wire)) c.self.view_is
