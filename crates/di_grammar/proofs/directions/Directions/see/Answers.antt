use Rattle.std.proofs.Common.{sym, ◌∙◌, ap}
use Rattle.std.proofs.Common.{Some}
use Rattle.di_grammar.specs.declared.breach.Breach.{Breach}
use Rattle.di_grammar.specs.Mirror.Lesser.{earlier_of}
use Rattle.di_grammar.proofs.Seeing.{sees_new, sees_same, sees_turned, same_is, is_same}
use Rattle.di_grammar.proofs.directions.Directions.see.Goals as goal

pub returns-in-None : goal.returns-in-None
returns-in-None c = λ ss knows. sees_new c.args.self.now.first c.args.self.now.found ss c.args.spot c.in-None.is knows

pub returns-then-not-same_dir : goal.returns-then-not-same_dir
returns-then-not-same_dir c = λ ss knows.
    rw (c.earlier_of-self.ensures ∙ ap (λ (b : Breach). earlier_of c.args.self.now.found (Some b)) c.against.ensures)
    (sees_turned c.args.self.now.first c.args.self.now.found ss c.args.spot c.in-Some.first c.in-Some.is
    (is_same c.args.spot.mark.dir c.in-Some.first.mark.dir (sym c.same_dir.ensures ∙ c.if-not-same_dir.true)) knows)

pub returns-else-not-same_dir : goal.returns-else-not-same_dir
returns-else-not-same_dir c = λ ss knows. sees_same c.args.self.now.first c.args.self.now.found ss c.args.spot c.in-Some.first c.in-Some.is
    (same_is c.args.spot.mark.dir c.in-Some.first.mark.dir (sym c.same_dir.ensures ∙ c.if-not-same_dir.false)) knows
