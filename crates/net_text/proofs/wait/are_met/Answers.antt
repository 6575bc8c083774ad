use Rattle.std.proofs.Common.{ℕ, List, Bool, ap, sym, subst, ◌∙◌, arith}
use Rattle.std.specs.Prelude.{IsTrue, nat_eq, ◌↔◌}
use Rattle.std.specs.List.{list_any, list_all}
use Rattle.std.proofs.lemmas.List.{take_all}
use Rattle.net_text.specs.Mirror.Crossings.{side}
use Rattle.net_text.proofs.Crossings.{AreMet, all_met}
use Rattle.net_text.proofs.wait.are_met.Goals as goal

pub returns : goal.returns
returns c =
    let cross = c.args.cross.now in
    let test : ℕ → List (ℕ × ℕ) → Bool = λ i ps. list_any (λ p. nat_eq (side c.args.by_row p) i) ps in
    let whole = take_all c.loop-crossing.crossing-index cross (omega arith) in
    subst (λ (b : Bool). IsTrue b ↔ AreMet c.args.many c.args.by_row cross)
    (ap (list_all (λ m. m)) (sym c.as_slice.ensures.value) ∙ sym c.all_true.ensures)
    (all_met c.loop-crossing.met.items c.args.many (λ i. test i cross) c.loop-crossing.invariant.many
    (λ i l. c.loop-crossing.invariant.each i l ∙ ap (test i) whole))
