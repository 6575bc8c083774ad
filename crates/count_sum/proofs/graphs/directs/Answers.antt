use Rattle.std.proofs.Common.{◌≡◌, ℕ, Bool, true, false, ◌&&◌, map, get_or, refl, ap, ◌∙◌, eq-eqb, ne_eqb}
use Rattle.std.specs.Prelude.{nat_eq}
use Rattle.basic_kinds.specs.Sorts.{Wires}
use Rattle.basic_kinds.specs.Sums.{One}
use Rattle.count_sum.specs.declared.counts.Sort.TheVariants as name
use Rattle.count_sum.specs.declared.parts.Part.TheVariants as part
use Rattle.count_sum.specs.Mirror.Parts.{counted_of}
use Rattle.count_sum.proofs.ListSteps.{chosen_more, chosen_same}
use Rattle.count_sum.proofs.graphs.directs.Goals.{then-givers-symbol-eq1+then-straights-symbol-eq1+in_ok-push, else-givers-symbol-eq1, else-givers-symbol-eq1-via-then-givers-symbol-eq1+else-straights-symbol-eq1, else-givers-symbol-eq1-via-else-givers-symbol-eq1}
use Rattle.count_sum.proofs.graphs.directs.Goals as goal

both : (x y : Bool) → x ≡ true → y ≡ true → (x && y) ≡ true
both x y e f = ap (λ b. b && y) e ∙ f

not_left : (x y : Bool) → x ≡ false → (x && y) ≡ false
not_left x y e = ap (λ b. b && y) e

not_right : (x y : Bool) → y ≡ false → (x && y) ≡ false
not_right true y e = e
not_right false y e = refl

pub loop-symbol-preserved : goal.loop-symbol-preserved
loop-symbol-preserved c =
    let i : ℕ = c.loop-symbol.symbol in
    let gs = c.args.givers.now in
    let ss = c.args.straights.now in
    let test = λ (a : ℕ). nat_eq (get_or gs a 0) 1 && nat_eq (get_or ss a 0) 1 in
    let f = λ (a : ℕ). One Wires in
    elim c.if-givers-symbol-eq1.branch [
      | then-givers-symbol-eq1+then-straights-symbol-eq1+in_ok-push w ↦
          ap (λ v. map counted_of v.items) w.wires-is ∙ ap (map counted_of) w.in_ok-push.ensures.items
          ∙ chosen_more counted_of f test c.loop-symbol.wires.items (part.One name.Wire) i c.loop-symbol.invariant refl
          (both (nat_eq (get_or gs i 0) 1) (nat_eq (get_or ss i 0) 1) (eq-eqb (get_or gs i 0) 1 w.if-givers-symbol-eq1.true) (eq-eqb (get_or ss i 0) 1 w.if-straights-symbol-eq1.true))
      | else-givers-symbol-eq1 w ↦ ap (λ v. map counted_of v.items) w.wires-is ∙ chosen_same counted_of f test c.loop-symbol.wires.items i c.loop-symbol.invariant
          (elim w.else-givers-symbol-eq1.branch [
            | else-givers-symbol-eq1-via-then-givers-symbol-eq1+else-straights-symbol-eq1 v ↦
                not_right (nat_eq (get_or gs i 0) 1) (nat_eq (get_or ss i 0) 1) (ne_eqb (get_or ss i 0) 1 v.if-straights-symbol-eq1.false)
            | else-givers-symbol-eq1-via-else-givers-symbol-eq1 v ↦
                not_left (nat_eq (get_or gs i 0) 1) (nat_eq (get_or ss i 0) 1) (ne_eqb (get_or gs i 0) 1 v.if-givers-symbol-eq1.false)
          ])
    ]
