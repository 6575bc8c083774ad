use Rattle.std.proofs.Common.{sym, ◌∙◌, arith}
use Rattle.place_graph.proofs.InTurn.{each_in_turn}
use Rattle.place_graph.proofs.styles.in_turn.Goals as goal

pub returns : goal.returns
returns c = λ t. each_in_turn c.args.acts _ c.args.crosses.now c.if-crosses-acts.false (omega (arith, c.if-first-acts.false)) (sym c.are_in_turn.ensures ∙ t)
