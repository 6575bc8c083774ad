use Rattle.std.proofs.Common.{◌≡◌, ◌∙◌, true≢false, length, sym, rules}
use Rattle.basic_kinds.proofs.RoundSteps.{round_none, round_begun}
use Rattle.basic_kinds.proofs.machine_rounds.Round.new.Goals as goal
use Rattle.basic_kinds.proofs.machine_rounds.Round.new.Goals.{then-begun, else-begun}

pub returns-clause-over : goal.returns-clause-over
returns-clause-over c = λ e.
    let none : c.if-begun.left ≡ 0 = elim c.if-begun.branch [
      | then-begun w ↦ absurd (true≢false (sym w.if-begun.true ∙ e))
      | else-begun w ↦ w.left-is
    ] in
    round_none c.in_ok-came.came.items c.args.begun c.if-begun.left c.args.width
    (c.in_ok-came.ensures.items_if_clones_equal (λ y h. h)) e none

pub returns-clause-begun : goal.returns-clause-begun
returns-clause-begun c = λ e.
    let all : c.if-begun.left ≡ length c.in_ok-came.came.items = elim c.if-begun.branch [
      | then-begun w ↦ search rules
      | else-begun w ↦ absurd (true≢false (sym e ∙ w.if-begun.false))
    ] in
    round_begun c.in_ok-came.came.items c.args.begun c.if-begun.left c.args.width
    (c.in_ok-came.ensures.items_if_clones_equal (λ y h. h)) e all
