-- The first of some breaches: of two kinds of them, and where the same breaches are said in another way.
use Rattle.std.proofs.Common.{◌≡◌, ◌⊎◌, inl, inr, ◌↔◌, ℕ, ◌<◌, Bool, true, false, true≢false, Option, Some, None, refl, sym, ◌∙◌, arith}
use Rattle.std.proofs.lemmas.Bool.{cases_lt, ltb-true, lt-ltb}
use Rattle.std.specs.Prelude.{if◌then◌else◌, nat_lt}
use Rattle.di_grammar.specs.declared.breach.Breach.{Breach}
use Rattle.di_grammar.specs.Breaches.{Before, Earlier, FirstOf}
use Rattle.di_grammar.specs.Mirror.Lesser.{less_or, is_earlier, earlier_of}
use Rattle.di_grammar.proofs.Firsts.{less_true, less_false, level_on, level_off}

level_true : {X : Type 0} (a b : ℕ) (rest : Bool) → (rest ≡ true → X) → less_or a b rest ≡ true → Before a b X
level_true a b rest next h = elim (less_true a b rest h) [ inl l ↦ inl l | inr p ↦ inr (p.0, next p.1) ]

pub earlier_true : (a b : Breach) → is_earlier a b ≡ true → Earlier a b
earlier_true a b = level_true a.process b.process _ (level_true a.place b.place _ (level_true a.case b.case _ (level_true a.other_process b.other_process _ (ltb-true a.other b.other))))

pub earlier_on : (a b c : Breach) → Earlier a b → Earlier b c → Earlier a c
earlier_on a b c = level_on a.process b.process c.process (level_on a.place b.place c.place (level_on a.case b.case c.case
    (level_on a.other_process b.other_process c.other_process (λ p q. omega arith))))

last_off : (d f g : ℕ) → nat_lt g f ≡ false → d < f → d < g
last_off d f g s l = elim (cases_lt g f) [ inl m ↦ absurd (true≢false (sym (lt-ltb g f m) ∙ s)) | inr m ↦ omega arith ]

pub earlier_off : (a b c : Breach) → is_earlier c b ≡ false → Earlier a b → Earlier a c
earlier_off a b c h = level_off a.process b.process c.process _ h (λ r. level_off a.place b.place c.place _ r (λ s. level_off a.case b.case c.case _ s
    (λ t. level_off a.other_process b.other_process c.other_process _ t (λ u. last_off a.other b.other c.other u))))

pub breach_like : (B C : Breach → Type 0) (f : Option Breach) → ((c : Breach) → B c ↔ C c) → FirstOf B f → FirstOf C f
breach_like B C None like b = λ c h. b c ((like c).1 h)
breach_like B C (Some f) like b = ((like f).0 b.0, λ d h p. b.1 d ((like d).1 h) p)

pub breach_either : (B C : Breach → Type 0) (f g : Option Breach) → FirstOf B f → FirstOf C g → FirstOf (λ c. B c ⊎ C c) (earlier_of f g)
breach_either B C None None b c = λ d h. elim h [ inl x ↦ b d x | inr y ↦ c d y ]
breach_either B C None (Some g) b c = (inr c.0, λ d h p. elim h [ inl x ↦ b d x | inr y ↦ c.1 d y p ])
breach_either B C (Some f) None b c = (inl b.0, λ d h p. elim h [ inl x ↦ b.1 d x p | inr y ↦ c d y ])
breach_either B C (Some f) (Some g) b c = by (is_earlier g f) refl where
  by : (x : Bool) → is_earlier g f ≡ x → FirstOf (λ c. B c ⊎ C c) (if x then Some g else Some f)
  by true t = (inr c.0, λ d h p. elim h [ inl x ↦ b.1 d x (earlier_on d g f p (earlier_true g f t)) | inr y ↦ c.1 d y p ])
  by false n = (inl b.0, λ d h p. elim h [ inl x ↦ b.1 d x p | inr y ↦ c.1 d y (earlier_off d f g n p) ])

level_same : (a b : ℕ) (s t : Bool) {X : Type 0} → less_or a b s ≡ false → less_or b a t ≡ false → (a ≡ b → s ≡ false → t ≡ false → X) → X
level_same a b s t m n next =
    let p = less_false a b s m in
    let q = less_false b a t n in
    let same : a ≡ b = omega (arith, p.0, q.0) in
    next same (p.1 same) (q.1 (sym same))

-- there are not two
pub breach_one : (B : Breach → Type 0) (c d : Breach) → FirstOf B (Some c) → FirstOf B (Some d) → c ≡ d
breach_one B c d a b = by (is_earlier c d) refl (is_earlier d c) refl where
  last : (x y : ℕ) → nat_lt x y ≡ false → nat_lt y x ≡ false → x ≡ y
  last x y m n = elim (cases_lt x y) [
    | inl l ↦ absurd (true≢false (sym (lt-ltb x y l) ∙ m))
    | inr g ↦ elim (cases_lt y x) [ inl l ↦ absurd (true≢false (sym (lt-ltb y x l) ∙ n)) | inr k ↦ omega arith ]
  ]

  same : is_earlier c d ≡ false → is_earlier d c ≡ false → c ≡ d
  same m n = level_same c.process d.process _ _ m n (λ e m n. level_same c.place d.place _ _ m n (λ f m n. level_same c.case d.case _ _ m n (λ g m n.
      level_same c.other_process d.other_process _ _ m n (λ h m n. let o = last c.other d.other m n in
      λ i. record { process = e i; place = f i; case = g i; other_process = h i; other = o i }))))

  by : (x : Bool) → is_earlier c d ≡ x → (y : Bool) → is_earlier d c ≡ y → c ≡ d
  by true t y n = absurd (b.1 c a.0 (earlier_true c d t))
  by false m true t = absurd (a.1 d b.0 (earlier_true d c t))
  by false m false n = same m n
