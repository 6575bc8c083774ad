-- The first of some clashes: of two kinds of them, and where the same clashes are said in another way.
use Rattle.std.proofs.Common.{◌≡◌, ◌⊎◌, inl, inr, ◌↔◌, ℕ, ◌<◌, ◌≤◌, Bool, true, false, true≢false, Option, Some, None, refl, sym, ap, ◌∙◌, arith, eq-eqb}
use Rattle.std.proofs.lemmas.Bool.{cases_lt, eqb-true, ltb-true, lt-ltb, and_parts, and_from, and_cases}
use Rattle.std.specs.Prelude.{if◌then◌else◌, nat_lt, nat_eq, ◌||◌, ◌&&◌}
use Rattle.di_grammar.specs.declared.clash.Clash.{Clash}
use Rattle.di_grammar.specs.Clashes.{Precedes, First}
use Rattle.di_grammar.specs.Mirror.Lesser.{less_or, precedes, lesser}

pub less_true : (a b : ℕ) (rest : Bool) → less_or a b rest ≡ true → (a < b) ⊎ ((a ≡ b) × (rest ≡ true))
less_true a b rest h = by (nat_lt a b) refl h where
  by : (x : Bool) → nat_lt a b ≡ x → (x || (nat_eq a b && rest)) ≡ true → (a < b) ⊎ ((a ≡ b) × (rest ≡ true))
  by true t h = inl (ltb-true a b t)
  by false f h = let p = and_parts (nat_eq a b) rest h in inr (eqb-true a b p.0, p.1)

pub less_false : (a b : ℕ) (rest : Bool) → less_or a b rest ≡ false → (b ≤ a) × (a ≡ b → rest ≡ false)
less_false a b rest h = by (nat_lt a b) refl h where
  at_most : nat_lt a b ≡ false → b ≤ a
  at_most f = elim (cases_lt a b) [ inl l ↦ absurd (true≢false (sym (lt-ltb a b l) ∙ f)) | inr g ↦ g ]

  by : (x : Bool) → nat_lt a b ≡ x → (x || (nat_eq a b && rest)) ≡ false → (b ≤ a) × (a ≡ b → rest ≡ false)
  by true t h = absurd (true≢false h)
  by false f h = (at_most f, λ e. elim (and_cases (nat_eq a b) rest h) [ inl n ↦ absurd (true≢false (sym (eq-eqb a b e) ∙ n)) | inr r ↦ r ])

less_now : (a b : ℕ) (rest : Bool) → a < b → less_or a b rest ≡ true
less_now a b rest h = ap (λ (x : Bool). x || (nat_eq a b && rest)) (lt-ltb a b h)

less_later : (a b : ℕ) (rest : Bool) → a ≡ b → rest ≡ true → less_or a b rest ≡ true
less_later a b rest e r = by (nat_lt a b) where
  by : (x : Bool) → (x || (nat_eq a b && rest)) ≡ true
  by true = refl
  by false = and_from (nat_eq a b) rest (eq-eqb a b e) r

pub precedes_true : (a b : Clash) → precedes a b ≡ true → Precedes a b
precedes_true a b h = elim (less_true a.place b.place _ h) [
  | inl l ↦ inl l
  | inr p ↦ inr (p.0, elim (less_true a.case b.case _ p.1) [ inl l ↦ inl l | inr q ↦ inr (q.0, ltb-true a.other b.other q.1) ])
]

pub precedes_from : (a b : Clash) → Precedes a b → precedes a b ≡ true
precedes_from a b (inl l) = less_now a.place b.place _ l
precedes_from a b (inr (e, inl l)) = less_later a.place b.place _ e (less_now a.case b.case _ l)
precedes_from a b (inr (e, inr (f, l))) = less_later a.place b.place _ e (less_later a.case b.case _ f (lt-ltb a.other b.other l))

pub level_on : {X Y Z : Type 0} (d f g : ℕ) → (X → Y → Z) → (d < f) ⊎ ((d ≡ f) × X) → (f < g) ⊎ ((f ≡ g) × Y) → (d < g) ⊎ ((d ≡ g) × Z)
level_on d f g next (inl a) (inl b) = inl (omega arith)
level_on d f g next (inl a) (inr (e, y)) = inl (omega arith)
level_on d f g next (inr (e, x)) (inl b) = inl (omega arith)
level_on d f g next (inr (e, x)) (inr (q, y)) = inr (e ∙ q, next x y)

-- earlier than the one that is earlier
pub precedes_on : (a b c : Clash) → Precedes a b → Precedes b c → Precedes a c
precedes_on a b c = level_on a.place b.place c.place (level_on a.case b.case c.case (λ p q. omega arith))

pub level_off : {X Y : Type 0} (d f g : ℕ) (s : Bool) → less_or g f s ≡ false → (s ≡ false → X → Y) → (d < f) ⊎ ((d ≡ f) × X) → (d < g) ⊎ ((d ≡ g) × Y)
level_off d f g s h next (inl a) = let p = less_false g f s h in inl (omega (arith, p.0))
level_off d f g s h next (inr (e, x)) =
    let p = less_false g f s h in
    elim (cases_lt f g) [ inl l ↦ inl (omega (arith, e)) | inr m ↦ let same : g ≡ f = omega (arith, p.0) in inr (e ∙ sym same, next (p.1 same) x) ]

-- earlier than the one that is not later
pub precedes_off : (a b c : Clash) → precedes c b ≡ false → Precedes a b → Precedes a c
precedes_off a b c h = level_off a.place b.place c.place _ h (λ r. level_off a.case b.case c.case _ r (λ s l.
    elim (cases_lt c.other b.other) [ inl m ↦ absurd (true≢false (sym (lt-ltb c.other b.other m) ∙ s)) | inr m ↦ omega arith ]))

pub first_like : (B C : Clash → Type 0) (f : Option Clash) → ((c : Clash) → B c ↔ C c) → First B f → First C f
first_like B C None like b = λ c h. b c ((like c).1 h)
first_like B C (Some f) like b = ((like f).0 b.0, λ d h p. b.1 d ((like d).1 h) p)

pub first_either : (B C : Clash → Type 0) (f g : Option Clash) → First B f → First C g → First (λ c. B c ⊎ C c) (lesser f g)
first_either B C None None b c = λ d h. elim h [ inl x ↦ b d x | inr y ↦ c d y ]
first_either B C None (Some g) b c = (inr c.0, λ d h p. elim h [ inl x ↦ b d x | inr y ↦ c.1 d y p ])
first_either B C (Some f) None b c = (inl b.0, λ d h p. elim h [ inl x ↦ b.1 d x p | inr y ↦ c d y ])
first_either B C (Some f) (Some g) b c = by (precedes g f) refl where
  by : (x : Bool) → precedes g f ≡ x → First (λ c. B c ⊎ C c) (if x then Some g else Some f)
  by true t = (inr c.0, λ d h p. elim h [ inl x ↦ b.1 d x (precedes_on d g f p (precedes_true g f t)) | inr y ↦ c.1 d y p ])
  by false n = (inl b.0, λ d h p. elim h [ inl x ↦ b.1 d x p | inr y ↦ c.1 d y (precedes_off d f g n p) ])
