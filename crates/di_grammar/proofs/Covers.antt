-- The first of some clashes, where others are no earlier, and of the stops so far and one more.
use Rattle.std.proofs.Common.{◌≡◌, ◌⊎◌, inl, inr, ◌↔◌, Bool, true, false, List, [], ◌∷◌, ◌++◌, Option, Some, None, refl, subst}
use Rattle.di_grammar.specs.declared.clash.Clash.{Clash}
use Rattle.di_grammar.specs.Clashes.{Precedes, First}
use Rattle.di_grammar.specs.Mirror.Lesser.{precedes, lesser}
use Rattle.di_grammar.specs.Mirror.Stops.{Among}
use Rattle.di_grammar.proofs.Firsts.{precedes_true, precedes_off, first_like, first_either}
use Rattle.di_grammar.proofs.Lists.{within_front, within_back, within_join, within_one, none_within, within_first}

-- each clash of the one kind is of the other too, and none of the other comes before all of the one
pub first_covers : (B C : Clash → Type 0) (f : Option Clash) → ((c : Clash) → B c → C c)
    → ((d : Clash) → C d → (c : Clash) × B c × (Precedes d c → ⊥)) → First B f → First C f
first_covers B C None widens covers b = λ d h. let e = covers d h in b e.0 e.1
first_covers B C (Some c) widens covers b = (widens c b.0, λ d h p. by d (covers d h) p) where
  by : (d : Clash) → (e : Clash) × B e × (Precedes d e → ⊥) → Precedes d c → ⊥
  by d e p = at (precedes e.0 c) refl where
    at : (t : Bool) → precedes e.0 c ≡ t → ⊥
    at true t = b.1 e.0 e.1 (precedes_true e.0 c t)
    at false n = e.2 (precedes_off d c e.0 n p)

pub among_none : {A : Type 0} (R : A → Clash → Type 0) → First (Among R []) None
among_none R = λ c a. none_within a.one a.within

pub among_more : {A : Type 0} (R : A → Clash → Type 0) (xs : List A) (x : A) (f g : Option Clash)
    → First (Among R xs) f → First (R x) g → First (Among R (xs ++ x ∷ [])) (lesser f g)
among_more {A} R xs x f g a b = first_like (λ c. Among R xs c ⊎ R x c) (Among R (xs ++ x ∷ [])) (lesser f g) like (first_either (Among R xs) (R x) f g a b) where
  here : (c : Clash) → R x c → Among R (xs ++ x ∷ []) c
  here c r = record { one = x; within = within_back xs (x ∷ []) x (within_first x []); breaks = r }

  back : (c : Clash) → Among R (xs ++ x ∷ []) c → Among R xs c ⊎ R x c
  back c m = elim (within_join xs (x ∷ []) m.one m.within) [
    | inl l ↦ inl (record { one = m.one; within = l; breaks = m.breaks })
    | inr r ↦ inr (subst (λ (y : A). R y c) (within_one x m.one r) m.breaks)
  ]

  like : (c : Clash) → (Among R xs c ⊎ R x c) ↔ Among R (xs ++ x ∷ []) c
  like c = (λ e. elim e [ inl m ↦ record { one = m.one; within = within_front xs (x ∷ []) m.one m.within; breaks = m.breaks } | inr r ↦ here c r ], back c)
