-- Items that begin with one symbol: one mark, or any one of some marks.
use Rattle.std.proofs.Common.{◌≡◌, ◌⊎◌, inl, inr, ⊎_elim, ℕ, zero, suc, ◌+◌, ◌<◌, ◌≤◌, ◌||◌, Bool, true, false, List, [], ◌∷◌, map, nat_eq, IsTrue, refl, sym, ap, ◌∙◌, arith, eq-eqb}
use Rattle.std.specs.List.{range_with_len}
use Rattle.std.proofs.lemmas.Bool.{cases_eq}
use Rattle.cmd_tree.specs.declared.tree.Mark.{Mark}
use Rattle.cmd_tree.specs.Tree.{TItem, TSeq, Done, Then, marks_in}
use Rattle.cmd_tree.specs.View.{seqs_of}
use Rattle.cmd_tree.specs.Limits.{IsItem, AreSeqs, count_of}
use Rattle.cmd_tree.specs.Meaning.{has_symbol}
use Rattle.cmd_tree.specs.Join.{join}
use Rattle.cmd_tree.specs.Residual.{FirstIn, FirstAmong}
use Rattle.basic_kinds.specs.KindTraces.{one, any_one}

-- ---- members

abbrev pub In : {X : Type 0} → X → List X → Type 0
In x [] = ⊥
In x (y ∷ ys) = (x ≡ y) ⊎ In x ys

pub in_range : (f : ℕ → Mark) (s n : ℕ) (m : Mark) → In m (map f (range_with_len s n)) → (i : ℕ) × (s ≤ i)
    × (i < s + n) × (m ≡ f i)
in_range f s zero m h = absurd h
in_range f s (suc n) m (inl e) = (s, omega arith, omega arith, e)
in_range f s (suc n) m (inr h) = let r =
    in_range f (s + 1) n m h in (r.0, omega (arith, r.1), omega (arith, r.2), r.3)

pub range_in : (f : ℕ → Mark) (s n i : ℕ) → s ≤ i → i < s + n → In (f i) (map f (range_with_len s n))
range_in f s zero i low high = absurd (omega arith)
range_in f s (suc n) i low high = ⊎_elim
    (λ e. inl (ap f e))
    (λ d. inr (range_in f (s + 1) n i (omega arith) (omega arith)))
    (cases_eq i s)

-- a symbol of a member is a symbol of the list
pub symbol_in : (m : Mark) (ms : List Mark) → In m ms → IsTrue (has_symbol ms m.sym.0)
symbol_in m [] h = absurd h
symbol_in m (x ∷ ms) (inl e) =
    ap (λ b. b || has_symbol ms m.sym.0) (eq-eqb m.sym.0 x.sym.0 (ap (λ (y : Mark). y.sym.0) e))
symbol_in m (x ∷ ms) (inr h) = or_true (nat_eq m.sym.0 x.sym.0) (has_symbol ms m.sym.0) (symbol_in m ms h)
  where
    or_true : (a b : Bool) → IsTrue b → IsTrue (a || b)
    or_true true b h = refl
    or_true false b h = h

-- ---- what an item begins with

-- it begins with one symbol, any one in A, and then nothing is left of it
pub record Opens (i : TItem) (A : ℕ → Type 0) : Type 0 where
  pub forth : (ms : List Mark) (r : TSeq) → FirstIn i ms r → (m : Mark) × (ms ≡ m ∷ []) × (r ≡ Done)
      × A m.sym.0
  pub back : (a : ℕ) → A a → (m : Mark) × (m.sym.0 ≡ a) × FirstIn i (m ∷ []) Done

pub one_opens : (m : Mark) → Opens (one m) (λ a. a ≡ m.sym.0)
one_opens m = record {
  forth = λ ms r h. (m, h.0, h.1, refl);
  back = λ a e. (m, sym e, (refl, refl));
}

first_any : (ms : List Mark) (bs : List Mark) (r : TSeq)
    → FirstAmong (seqs_of (map (λ m. Then (one m) Done) ms)) bs r → (m : Mark) × (bs ≡ m ∷ []) × (r ≡ Done)
    × In m ms
first_any [] bs r h = absurd h
first_any (m ∷ ms) bs r (inl h) = (m, h.1.0, h.2 ∙ ap (λ q. join q Done) h.1.1, inl refl)
first_any (m ∷ ms) bs r (inr h) = let k = first_any ms bs r h in (k.0, k.1, k.2, inr k.3)

any_first : (ms : List Mark) (m : Mark) → In m ms
    → FirstAmong (seqs_of (map (λ m. Then (one m) Done) ms)) (m ∷ []) Done
any_first [] m h = absurd h
any_first (x ∷ ms) m (inl e) = inl (Done, (ap (λ y. y ∷ []) e, refl), refl)
any_first (x ∷ ms) m (inr h) = inr (any_first ms m h)

pub any_opens : (ms : List Mark) → Opens (any_one ms) (λ a. (m : Mark) × In m ms × (a ≡ m.sym.0))
any_opens ms = record {
  forth = λ bs r h. let k = first_any ms bs r h in (k.0, k.1, k.2, (k.0, k.3, refl));
  back = λ a k. (k.0, sym k.2, any_first ms k.0 k.1);
}

-- marks that are numbered by their symbols
pub range_opens : (f : ℕ → Mark) → ((x : ℕ) → (f x).sym.0 ≡ x) → (s n : ℕ)
    → Opens (any_one (map f (range_with_len s n))) (λ a. (s ≤ a) × (a < s + n))
range_opens f num s n =
    let k = any_opens (map f (range_with_len s n)) in
    record {
      forth = λ bs r h.
          let g = k.forth bs r h in
          let i = in_range f s n g.3.0 g.3.1 in
          let e : g.0.sym.0 ≡ i.0 = g.3.2 ∙ ap (λ (y : Mark). y.sym.0) i.3 ∙ num i.0 in
          (g.0, g.1, g.2, (omega (arith, e, i.1), omega (arith, e, i.2)));
      back = λ a h. k.back a (f a, range_in f s n a h.0 h.1, sym (num a));
    }

-- ---- its shape and its marks

pub any_marks : (ms : List Mark) → marks_in (any_one ms) ≡ ms
any_marks [] = refl
any_marks (m ∷ ms) = ap (λ t. m ∷ t) (any_marks ms)

any_seqs : (ms : List Mark) → AreSeqs (seqs_of (map (λ m. Then (one m) Done) ms))
any_seqs [] = tt
any_seqs (m ∷ ms) = ((omega arith, tt), any_seqs ms)

any_count : (f : ℕ → Mark) (s n : ℕ)
    → count_of (seqs_of (map (λ m. Then (one m) Done) (map f (range_with_len s n)))) ≡ n
any_count f s zero = refl
any_count f s (suc n) = omega (arith, any_count f (s + 1) n)

pub range_item : (f : ℕ → Mark) (s n : ℕ) → 2 ≤ n → IsItem (any_one (map f (range_with_len s n)))
range_item f s n h = (omega (arith, any_count f s n), any_seqs (map f (range_with_len s n)))
