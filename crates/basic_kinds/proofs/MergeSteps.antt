-- A MERGE's machine after a step.
use Rattle.std.proofs.Common.{◌≡◌, inl, inr, ℕ, Bool, true, false, not, refl, sym, subst, arith}
use Rattle.cmd_tree.proofs.Phases.{Grew}
use Rattle.basic_kinds.specs.declared.kind.Kind.TheVariants.{Merge}
use Rattle.basic_kinds.specs.KindCounts.{KindAt}
use Rattle.basic_kinds.specs.Totals.{total}
use Rattle.basic_kinds.specs.Mirror.Machines.{Leads}
use Rattle.basic_kinds.proofs.Totals.{total_same, total_one, total_none}

pub merge_taken : (n : ℕ) (full : Bool) (c d : ℕ → ℕ) (p : ℕ) → Leads full (total n c) (c n) → KindAt (Merge n) c p
    → Grew c p d → Leads (not full) (total n d) (d n)
merge_taken n false c d p s (inl h) g =
    omega (arith, s, total_one n c d p h.0 g.here (λ j l. g.elsewhere j), g.elsewhere n (λ e. omega (arith, h.0)))
merge_taken n false c d p s (inr h) g = absurd (omega (arith, s, h.1))
merge_taken n true c d p s (inl h) g = absurd (omega (arith, s, h.1))
merge_taken n true c d p s (inr h) g =
    let k = subst (λ x. Grew c x d) h.0 g in
    omega (arith, s, total_same n d c (λ i l. k.elsewhere i (λ e. omega arith)), k.here)

pub merge_none : (n : ℕ) (full : Bool) → full ≡ false → Leads full (total n (λ p. 0)) 0
merge_none n full e = subst (λ b. Leads b (total n (λ p. 0)) 0) (sym e) (total_none n (λ p. 0) (λ i l. refl))
