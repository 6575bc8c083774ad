-- A renaming that keeps all numbers apart, and gives the symbols of a process their numbers.
use Rattle.std.proofs.Common.{◌≡◌, ℕ, suc, Bool, true, false, true≢false, ◌||◌, List, [], ◌∷◌, map, refl, sym, ap, ◌∙◌, arith, eqb-true, eq-eqb}
use Rattle.std.specs.Prelude.{IsTrue, nat_eq, if◌then◌else◌}
use Rattle.cmd_tree.specs.declared.tree.Proc.{Proc}
use Rattle.cmd_tree.specs.Lists.{is_in}
use Rattle.cmd_rename.specs.Renaming.{ren_proc}
use Rattle.cmd_rename.specs.Symbols.{rank}
use Rattle.cmd_alone.specs.Alone.{own_symbols}
use Rattle.cmd_alone.proofs.Ranks.{or_second}
use Rattle.cmd_alone.proofs.Back.{one_agree, own_in, numbered_alone}

abbrev pub KeepsApart : (ℕ → ℕ) → Type 0
KeepsApart f = (a b : ℕ) → f a ≡ f b → a ≡ b

-- the rank of a number of the list; the others come behind, in their order
abbrev pub rank_or_later : List ℕ → ℕ → ℕ
rank_or_later [] a = a
rank_or_later (x ∷ xs) a = if nat_eq a x then 0 else suc (rank_or_later xs a)

pub ranks_agree : (xs : List ℕ) (a : ℕ) → IsTrue (is_in a xs) → rank xs a ≡ rank_or_later xs a
ranks_agree [] a h = absurd (cc)
ranks_agree (x ∷ xs) a h = by (nat_eq a x) h (λ k. ranks_agree xs a k)
  where
    by : (b : Bool) → IsTrue (b || is_in a xs) → (IsTrue (is_in a xs) → rank xs a ≡ rank_or_later xs a) → (if b then 0 else suc (rank xs a)) ≡ (if b then 0 else suc (rank_or_later xs a))
    by true k f = refl
    by false k f = ap suc (f k)

pub ranks_apart : (xs : List ℕ) → KeepsApart (rank_or_later xs)
ranks_apart [] a b e = e
ranks_apart (x ∷ xs) a b e = by (nat_eq a x) (nat_eq b x) refl refl e (ranks_apart xs a b)
  where
    by : (c d : Bool) → nat_eq a x ≡ c → nat_eq b x ≡ d → (if c then 0 else suc (rank_or_later xs a)) ≡ (if d then 0 else suc (rank_or_later xs b))
        → (rank_or_later xs a ≡ rank_or_later xs b → a ≡ b) → a ≡ b
    by true true h k q g = eqb-true a x h ∙ sym (eqb-true b x k)
    by true false h k q g = absurd (omega (arith, q))
    by false true h k q g = absurd (omega (arith, q))
    by false false h k q g = g (omega (arith, q))

abbrev pub wide_rank : Proc → ℕ → ℕ
wide_rank p = rank_or_later (own_symbols p)

pub wide_apart : (p : Proc) → KeepsApart (wide_rank p)
wide_apart p = ranks_apart (own_symbols p)

pub by_wide_rank : (p : Proc) → numbered_alone p ≡ ren_proc (wide_rank p) p
by_wide_rank p = one_agree (rank (own_symbols p)) (wide_rank p) p (λ a i. ranks_agree (own_symbols p) a (own_in p a i))

-- ---- tests of numbers that are kept apart
pub eq_kept : (f : ℕ → ℕ) → KeepsApart f → (a b : ℕ) → nat_eq (f a) (f b) ≡ nat_eq a b
eq_kept f h a b = by (nat_eq (f a) (f b)) (nat_eq a b) refl refl
  where
    by : (c d : Bool) → nat_eq (f a) (f b) ≡ c → nat_eq a b ≡ d → c ≡ d
    by true true p q = refl
    by true false p q = absurd (true≢false (sym (eq-eqb a b (h a b (eqb-true (f a) (f b) p))) ∙ q))
    by false true p q = absurd (true≢false (sym (eq-eqb (f a) (f b) (ap f (eqb-true a b q))) ∙ p))
    by false false p q = refl

pub in_kept : (f : ℕ → ℕ) → KeepsApart f → (a : ℕ) (ys : List ℕ) → is_in (f a) (map f ys) ≡ is_in a ys
in_kept f h a [] = refl
in_kept f h a (y ∷ ys) = λ k. eq_kept f h a y k || in_kept f h a ys k

-- k is what f makes of a number of the list
pub record MadeOf (f : ℕ → ℕ) (ys : List ℕ) (k : ℕ) : Type 0 where
  pub number : ℕ
  pub is : k ≡ f number
  pub within : IsTrue (is_in number ys)

pub made_of : (f : ℕ → ℕ) (ys : List ℕ) (k : ℕ) → IsTrue (is_in k (map f ys)) → MadeOf f ys k
made_of f [] k h = absurd (cc)
made_of f (y ∷ ys) k h = by (nat_eq k (f y)) refl h (λ j. made_of f ys k j)
  where
    more : MadeOf f ys k → MadeOf f (y ∷ ys) k
    more m = record { number = m.number; is = m.is; within = or_second (nat_eq m.number y) (is_in m.number ys) m.within }

    by : (b : Bool) → nat_eq k (f y) ≡ b → IsTrue (b || is_in k (map f ys)) → (IsTrue (is_in k (map f ys)) → MadeOf f ys k) → MadeOf f (y ∷ ys) k
    by true e j g = record { number = y; is = eqb-true k (f y) e; within = ap (λ b. b || is_in y ys) (eq-eqb y y refl) }
    by false e j g = more (g j)
