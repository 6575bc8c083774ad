-- The first probe with a rule, among those from some place on.
use Rattle.std.proofs.Common.{◌≡◌, ◌≢◌, ℕ, zero, suc, ◌+◌, ◌<◌, ◌≤◌, Bool, if◌then◌else◌, List, [], ◌∷◌, length, get_or, drop, Some, None, refl, sym, ap, ◌∙◌, arith, ne_eqb, eq-eqb}
use Rattle.std.specs.Prelude.{slice_get}
use Rattle.replay.specs.Probes.{view_of, views_of}
use Rattle.di_top.specs.Requests.{first_of}

module _ {B : Type 0} (rule : B → ℕ) (numbers : B → List ℕ) (steady : B → Bool) (wanted : ℕ) where
  -- one with another rule is not it
  first_later : (bs : List B) (i : ℕ) (d : B) → i < length bs → rule (get_or bs i d) ≢ wanted
      → first_of wanted (drop (suc i) (views_of rule numbers steady bs)) ≡ first_of wanted (drop i (views_of rule numbers steady bs))
  first_later [] i d h ne = absurd (omega (arith, h))
  first_later (b ∷ bs) zero d h ne =
      ap (λ (c : Bool). if c then Some (view_of rule numbers steady b) else first_of wanted (views_of rule numbers steady bs)) (sym (ne_eqb (rule b) wanted ne))
  first_later (b ∷ bs) (suc i) d h ne = first_later bs i d (omega (arith, h)) ne

  pub first_next : (bs : List B) (i : ℕ) (d : B) → i < length bs → rule (get_or bs i d) ≢ wanted
      → first_of wanted (drop (i + 1) (views_of rule numbers steady bs)) ≡ first_of wanted (drop i (views_of rule numbers steady bs))
  first_next bs i d h ne =
      let next : i + 1 ≡ suc i = omega arith in
      ap (λ k. first_of wanted (drop k (views_of rule numbers steady bs))) next ∙ first_later bs i d h ne

  -- one with the rule is
  pub first_here : (bs : List B) (i : ℕ) (d : B) → i < length bs → rule (get_or bs i d) ≡ wanted
      → first_of wanted (drop i (views_of rule numbers steady bs)) ≡ slice_get (views_of rule numbers steady bs) i
  first_here [] i d h e = absurd (omega (arith, h))
  first_here (b ∷ bs) zero d h e =
      ap (λ (c : Bool). if c then Some (view_of rule numbers steady b) else first_of wanted (views_of rule numbers steady bs)) (eq-eqb (rule b) wanted e)
  first_here (b ∷ bs) (suc i) d h e = first_here bs i d (omega (arith, h)) e

  -- where none is left there is none
  pub first_none : (bs : List B) (i : ℕ) → length bs ≤ i → first_of wanted (drop i (views_of rule numbers steady bs)) ≡ None
  first_none [] zero h = refl
  first_none [] (suc i) h = refl
  first_none (b ∷ bs) zero h = absurd (omega (arith, h))
  first_none (b ∷ bs) (suc i) h = first_none bs i (omega (arith, h))

-- a number that is not there counts as 0
pub none_number : (ns : List ℕ) (k : ℕ) → slice_get ns k ≡ None → get_or ns k 0 ≡ 0
none_number [] k e = refl
none_number (n ∷ ns) zero e = absurd (cc)
none_number (n ∷ ns) (suc k) e = none_number ns k e
