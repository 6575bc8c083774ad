use Rattle.std.proofs.Common.{◌≡◌, ℕ, ◌==◌, ◌&&◌, ap}
use Rattle.std.specs.Bool.{Decides}
use Rattle.std.proofs.lemmas.Bool.Decides.{Decides-eqb, Decides-and, Decides-like}
use Rattle.std.proofs.lemmas.Slice.Eq.{slice_eq-Decides}
use Rattle.basic_kinds.proofs.copy.same_crossings.Goals as goal

pairs_decide : (p q : ℕ × ℕ) → Decides (p.0 == q.0 && p.1 == q.1) (p ≡ q)
pairs_decide p q = Decides-like (p.0 == q.0 && p.1 == q.1) (λ h. λ i. (h.0 i, h.1 i)) (λ h. (ap (λ (r : ℕ × ℕ). r.0) h, ap (λ (r : ℕ × ℕ). r.1) h))
    (Decides-and (p.0 == q.0) (p.1 == q.1) (Decides-eqb p.0 q.0) (Decides-eqb p.1 q.1))

pub returns : goal.returns
returns c = slice_eq-Decides pairs_decide c.args.a.now c.args.b.now c.eq.result c.eq.ensures
