-- Processes whose symbols are numbered by first occurrence stay as they are.
use Rattle.std.proofs.Common.{◌≡◌, ◌⊎◌, inl, inr, ℕ, zero, suc, ◌+◌, ◌≤◌, ◌<◌, Bool, true, false, ◌||◌, List, [], ◌∷◌, ◌++◌, length, length-append, max, Option, Some, None, refl, sym, ap, ◌∙◌, subst, arith, add-one, eq-eqb, eqb-true}
use Rattle.std.specs.Prelude.{IsTrue, nat_eq}
use Rattle.cmd_tree.specs.declared.tree.Mark.{Mark}
use Rattle.cmd_tree.specs.declared.tree.Proc.{Proc}
use Rattle.cmd_tree.specs.Tree.{TItem, TSeq, TSeqs, TBurst, TAlt, Stop, Or, Done, Then}
use Rattle.cmd_tree.specs.Limits.{marks_of_all, IsNumbered}
use Rattle.cmd_tree.specs.Lists.{is_in}
use Rattle.cmd_rename.specs.Renaming.{ren_marks, ren_seq, ren_item, ren_seqs, ren_part, ren_all}
use Rattle.cmd_rename.specs.Symbols.{symbols_in, put, put_each, symbols_of, rank, renumbered, counted}
use Rattle.cmd_rename.proofs.Laws.{Agree, in_left, in_right, ren_agree}
use Rattle.cmd_rename.proofs.Orders.{put_in, put_new, in_each}
use Rattle.cmd_rename.proofs.Numbering.{rank_front, rank_new}

-- ---- nothing is renamed
marks_same : (ms : List Mark) → ren_marks (λ a. a) ms ≡ ms
marks_same [] = refl
marks_same (m ∷ ms) = ap (λ u. m ∷ u) (marks_same ms)

mutual
  seq_same : (s : TSeq) → ren_seq (λ a. a) s ≡ s
  seq_same Done = refl
  seq_same (Then i s) = λ k. Then (item_same i k) (seq_same s k)

  item_same : (i : TItem) → ren_item (λ a. a) i ≡ i
  item_same (TBurst ms) = λ k. TBurst (marks_same ms k)
  item_same (TAlt ss) = λ k. TAlt (seqs_same ss k)

  seqs_same : (ss : TSeqs) → ren_seqs (λ a. a) ss ≡ ss
  seqs_same Stop = refl
  seqs_same (Or s ss) = λ k. Or (seq_same s k) (seqs_same ss k)

part_same : (s : Option TSeq) → ren_part (λ a. a) s ≡ s
part_same None = refl
part_same (Some s) = λ k. Some (seq_same s k)

all_same : (ps : List Proc) → ren_all (λ a. a) ps ≡ ps
all_same [] = refl
all_same (p ∷ ps) = λ k. record { lead = part_same p.lead k; body = part_same p.body k } ∷ all_same ps k

-- ---- the first n numbers
pub counted_long : (n : ℕ) → length (counted n) ≡ n
counted_long zero = refl
counted_long (suc n) = length-append (counted n) (n ∷ []) ∙ add-one (length (counted n)) ∙ ap suc (counted_long n)

-- behind a list a number stands in it, or is the last
in_last : (a x : ℕ) (xs : List ℕ) → is_in a (xs ++ x ∷ []) ≡ (is_in a xs || nat_eq a x)
in_last a x [] = last (nat_eq a x)
  where
    last : (b : Bool) → (b || false) ≡ (false || b)
    last true = refl
    last false = refl
in_last a x (y ∷ xs) = by (nat_eq a y) (in_last a x xs)
  where
    by : (b : Bool) → is_in a (xs ++ x ∷ []) ≡ (is_in a xs || nat_eq a x) → (b || is_in a (xs ++ x ∷ [])) ≡ ((b || is_in a xs) || nat_eq a x)
    by true e = refl
    by false e = e

either : (b c : Bool) → IsTrue (b || c) → IsTrue b ⊎ ((b ≡ false) × IsTrue c)
either true c h = inl refl
either false c h = inr (refl, h)

in_counted : (n a : ℕ) → a < n → IsTrue (is_in a (counted n))
in_counted zero a l = absurd (omega (arith, l))
in_counted (suc n) a l = elim (side a n l) [
  | inl k ↦ in_left a (counted n) (n ∷ []) (in_counted n a k)
  | inr e ↦ in_right a (counted n) (n ∷ []) (ap (λ b. b || false) (eq-eqb a n e))
]
  where
    side : (a n : ℕ) → a < suc n → (a < n) ⊎ (a ≡ n)
    side a n l = grind arith

counted_below : (n a : ℕ) → IsTrue (is_in a (counted n)) → a < n
counted_below zero a h = absurd (cc)
counted_below (suc n) a h = elim (either (is_in a (counted n)) (nat_eq a n) (sym (in_last a n (counted n)) ∙ h)) [
  | inl k ↦ omega (arith, counted_below n a k)
  | inr k ↦ omega (arith, eqb-true a n k.1)
]

not_counted : (n : ℕ) → is_in n (counted n) ≡ false
not_counted n = by (is_in n (counted n)) refl
  where
    by : (b : Bool) → is_in n (counted n) ≡ b → b ≡ false
    by false e = refl
    by true e = absurd (omega (arith, counted_below n n e))

-- a number is its own rank
rank_counted : (n a : ℕ) → IsTrue (is_in a (counted n)) → rank (counted n) a ≡ a
rank_counted zero a h = absurd (cc)
rank_counted (suc n) a h = elim (either (is_in a (counted n)) (nat_eq a n) (sym (in_last a n (counted n)) ∙ h)) [
  | inl k ↦ rank_front (counted n) (n ∷ []) a k ∙ rank_counted n a k
  | inr k ↦ last (eqb-true a n k.1)
]
  where
    last : a ≡ n → rank (counted n ++ n ∷ []) a ≡ a
    last e = ap (λ b. rank (counted n ++ n ∷ []) b) e ∙ rank_new (counted n) [] n (not_counted n) ∙ counted_long n ∙ sym e

-- ---- symbols that are numbered are the first numbers
numbered_each : (k : ℕ) (ms : List Mark) (n : ℕ) → IsNumbered k ms n → put_each (counted k) (symbols_in ms) ≡ counted n
numbered_each k [] n h = ap counted h
numbered_each k (m ∷ ms) n h = elim (side m.sym.0 k h.0) [
  | inl l ↦ ap (λ xs. put_each xs (symbols_in ms)) (put_in (counted k) m.sym.0 (in_counted k m.sym.0 l))
      ∙ numbered_each k ms n (subst (λ j. IsNumbered j ms n) (low k m.sym.0 l) h.1)
  | inr e ↦ ap (λ xs. put_each xs (symbols_in ms)) (ap (put (counted k)) e ∙ put_new (counted k) k (not_counted k))
      ∙ numbered_each (suc k) ms n (subst (λ j. IsNumbered j ms n) (new k m.sym.0 e) h.1)
]
  where
    side : (a k : ℕ) → a ≤ k → (a < k) ⊎ (a ≡ k)
    side a k l = grind arith

    low : (k a : ℕ) → a < k → max k (a + 1) ≡ k
    low k a l = omega (arith, l)

    new : (k a : ℕ) → a ≡ k → max k (a + 1) ≡ suc k
    new k a e = omega (arith, e)

pub numbered_symbols : (ps : List Proc) (n : ℕ) → IsNumbered 0 (marks_of_all ps) n → symbols_of ps ≡ counted n
numbered_symbols ps n h = numbered_each 0 (marks_of_all ps) n h

pub numbered_same : (ps : List Proc) (n : ℕ) → IsNumbered 0 (marks_of_all ps) n → renumbered ps ≡ ps
numbered_same ps n h = ren_agree (rank (symbols_of ps)) (λ a. a) ps agree ∙ all_same ps
  where
    agree : Agree (rank (symbols_of ps)) (λ a. a) (symbols_in (marks_of_all ps))
    agree a i =
        let e = numbered_symbols ps n h in
        let k : IsTrue (is_in a (counted n)) = subst (λ xs. IsTrue (is_in a xs)) e (in_each [] (symbols_in (marks_of_all ps)) a i) in
        ap (λ xs. rank xs a) e ∙ rank_counted n a k
