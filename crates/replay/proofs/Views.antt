-- Probes one after the other: what is known of all where one changes.
use Rattle.std.proofs.Common.{◌≡◌, ℕ, ◌+◌, ◌<◌, ◌≤◌, zero, suc, Bool, true, List, [], ◌∷◌, length, get_or, map, refl, sym, ap, ◌∙◌, arith, subst}
use Rattle.std.specs.List.{AllWithin}
use Rattle.std.proofs.lemmas.List.{get_or-set_other}
use Rattle.std.proofs.Math.ListN.{set}
use Rattle.std.proofs.Math.Seq.{map-set_same}
use Rattle.replay.specs.declared.event.Seen.{Seen}
use Rattle.replay.specs.Probes.{View, view_of, views_of, stepped, AllSteady}
use Rattle.replay.specs.Mirror.Watching.{stepped_front}

module _ {B : Type 0} (rule : B → ℕ) (numbers : B → List ℕ) (steady : B → Bool) where
  -- a probe that is as it was
  pub views_same : (bs : List B) (i : ℕ) (y d : B) → view_of rule numbers steady y ≡ view_of rule numbers steady (get_or bs i d)
      → views_of rule numbers steady (set bs i y) ≡ views_of rule numbers steady bs
  views_same bs i y d e = map-set_same (view_of rule numbers steady) bs i y d e

  pub steady_at : (bs : List B) (i : ℕ) (d : B) → i < length bs → AllSteady (views_of rule numbers steady bs)
      → steady (get_or bs i d) ≡ true
  steady_at [] i d h all = absurd (omega (arith, h))
  steady_at (b ∷ bs) zero d h all = all.0
  steady_at (b ∷ bs) (suc i) d h all = steady_at bs i d (omega (arith, h)) all.1

  -- one more has seen the event
  pub views_next : (e : Seen) (old bs : List B) (i : ℕ) (y d : B) → i < length bs
      → views_of rule numbers steady bs ≡ stepped_front i e (views_of rule numbers steady old)
      → view_of rule numbers steady y ≡ stepped e (view_of rule numbers steady (get_or bs i d))
      → views_of rule numbers steady (set bs i y) ≡ stepped_front (suc i) e (views_of rule numbers steady old)
  views_next e [] [] i y d h is seen = absurd (omega (arith, h))
  views_next e (a ∷ old) [] i y d h is seen = absurd (omega (arith, h))
  views_next e [] (b ∷ bs) i y d h is seen = absurd (cc)
  views_next e (a ∷ old) (b ∷ bs) zero y d h is seen =
      let first : view_of rule numbers steady b ≡ view_of rule numbers steady a = cc in
      let rest : views_of rule numbers steady bs ≡ views_of rule numbers steady old = cc in
      let new : view_of rule numbers steady y ≡ stepped e (view_of rule numbers steady a) = seen ∙ ap (stepped e) first in
      let all : views_of rule numbers steady bs ≡ stepped_front zero e (views_of rule numbers steady old) = rest ∙ sym (front_none e (views_of rule numbers steady old)) in
      cc
    where
      front_none : (e : Seen) (vs : List View) → stepped_front zero e vs ≡ vs
      front_none e [] = refl
      front_none e (v ∷ vs) = refl
  views_next e (a ∷ old) (b ∷ bs) (suc i) y d h is seen =
      let first : view_of rule numbers steady b ≡ stepped e (view_of rule numbers steady a) = cc in
      let rest : views_of rule numbers steady bs ≡ stepped_front i e (views_of rule numbers steady old) = cc in
      let all = views_next e old bs i y d (omega (arith, h)) rest seen in
      cc

-- those that are left are as they were
pub rest_set : {B : Type 0} (P : B → Type 0) (xs : List B) (i n : ℕ) (y : B) → AllWithin P xs i n → AllWithin P (set xs i y) (i + 1) n
rest_set P xs i n y h = λ k d low high. subst P (sym (get_or-set_other xs i k y d (λ e. omega arith))) (h k d (omega arith) high)

pub front_none : (e : Seen) (vs : List View) → vs ≡ stepped_front 0 e vs
front_none e [] = refl
front_none e (v ∷ vs) = refl

pub front_all : (n : ℕ) (e : Seen) (vs : List View) → length vs ≤ n → stepped_front n e vs ≡ map (stepped e) vs
front_all n e [] h = refl
front_all zero e (v ∷ vs) h = absurd (omega (arith, h))
front_all (suc n) e (v ∷ vs) h = ap (λ us. stepped e v ∷ us) (front_all n e vs (omega (arith, h)))
