-- The kinds of one process by counts, but the decision wait.
use Rattle.std.proofs.Common.{◌≡◌, ◌↔◌, inl, inr, ℕ, suc, ◌+◌, ◌<◌, ◌≤◌, Bool, true, false, true≢false, nat_eq, ◌||◌, List, [], ◌∷◌, ◌++◌, map, IsTrue, refl, sym, subst, arith}
use Rattle.std.specs.List.{range_with_len}
use Rattle.cmd_tree.specs.declared.tree.Mark.{Mark}
use Rattle.cmd_tree.specs.Tree.{TSeq, Done, Then, marks_in}
use Rattle.cmd_tree.specs.Limits.{IsItem, marks_of_proc}
use Rattle.cmd_tree.specs.Meaning.{TraceOf, Trace, has_symbol}
use Rattle.cmd_tree.specs.Rounds.{counts, naught, Follows}
use Rattle.cmd_tree.specs.Marks.{input, output}
use Rattle.cmd_tree.proofs.Phases.{Grew}
use Rattle.cmd_tree.proofs.RoundsRule.{follows_by}
use Rattle.basic_kinds.specs.declared.kind.Kind.TheVariants.{Iwire, Source, Sink, Merge, Toggle}
use Rattle.basic_kinds.specs.KindTraces.{one, any_one, again, once, KindTrace}
use Rattle.basic_kinds.specs.Totals.{total}
use Rattle.basic_kinds.specs.KindCounts.{KindAt, KindFollows}
use Rattle.basic_kinds.proofs.Totals.{total_same, total_one, total_none}
use Rattle.basic_kinds.proofs.Items.{one_opens, range_opens, range_item, range_in, symbol_in, any_marks}
use Rattle.basic_kinds.proofs.Turns.{TurnAt, Counted, turns, OnceAt, turn_once, ToggleAt, toggle, toggle_turns}
use Rattle.basic_kinds.proofs.Machines.{one_process, one_is_in}

-- one rule for another of the same meaning
pub follows_same : (a b : List ℕ → ℕ → Type 0) → ((u : List ℕ) (w : ℕ) → a u w ↔ b u w)
    → (T : List ℕ → Type 0) → ((t : List ℕ) → T t ↔ Follows a [] t) → (t : List ℕ) → T t ↔ Follows b [] t
follows_same a b same T law t = (
  λ h. follows_by a b (λ u w r. (same u w).0 r) [] t ((law t).0 h),
  λ h. (law t).1 (follows_by b a (λ u w r. (same u w).1 r) [] t h),
)

-- ---- one symbol and another in turn

pub one_whole : (m : Mark) → IsItem (one m)
one_whole m = omega arith

module _ (m n : Mark) (apart : m.sym.0 ≡ n.sym.0 → ⊥) where
  pub pair_counted : Counted (one m) (one n) (λ a. a ≡ m.sym.0) (λ a. a ≡ n.sym.0) (λ c. c m.sym.0)
      (λ c. c n.sym.0)
  pair_counted = record {
    begins = refl;
    first = λ c d a e g. let h = subst (λ x. Grew c x d) e g in
        (h.here, h.elsewhere n.sym.0 (λ z. apart (sym z)));
    second = λ c d a e g. let h = subst (λ x. Grew c x d) e g in (h.elsewhere m.sym.0 apart, h.here);
  }

  abbrev pub PairAt : (ℕ → ℕ) → ℕ → Type 0
  PairAt c a = TurnAt (one m) (one n) (λ a. a ≡ m.sym.0) (λ a. a ≡ n.sym.0) (λ c. c m.sym.0) (λ c. c n.sym.0)
      c a

  pub pair_turns : (t : List ℕ) → TraceOf (again (Then (one m) (Then (one n) Done))) t
      ↔ Follows (λ u a. PairAt (counts u) a) [] t
  pair_turns = turns (one m) (one n) (λ a. a ≡ m.sym.0) (λ a. a ≡ n.sym.0) (λ c. c m.sym.0) (λ c. c n.sym.0)
      (one_opens m) (one_opens n) pair_counted (one_whole m) (one_whole n)

-- ---- the kinds

one_zero : ◌≡◌ {A = ℕ} 1 0 → ⊥
one_zero e = omega arith

pub iwire_counts : (t : List ℕ) → KindTrace Iwire t ↔ KindFollows Iwire t
iwire_counts = one_process (again (Then (one (output 1)) (Then (one (input 0)) Done)))
    (λ u a. KindAt Iwire (counts u) a) known
    (follows_same (λ u a. PairAt (output 1) (input 0) one_zero (counts u) a)
    (λ u a. KindAt Iwire (counts u) a) (λ u a. (λ h. h, λ h. h))
    (λ t. TraceOf (again (Then (one (output 1)) (Then (one (input 0)) Done))) t)
    (pair_turns (output 1) (input 0) one_zero))
  where
    known : (u : List ℕ) (a : ℕ) → KindAt Iwire (counts u) a → IsTrue (has_symbol (output 1 ∷ input 0 ∷ []) a)
    known u a (inl h) = subst (λ x. IsTrue (has_symbol (output 1 ∷ input 0 ∷ []) x)) (sym h.0) refl
    known u a (inr h) = subst (λ x. IsTrue (has_symbol (output 1 ∷ input 0 ∷ []) x)) (sym h.0) refl

once_counts : (m : Mark) (A : (ℕ → ℕ) → ℕ → Type 0)
    → ((c : ℕ → ℕ) (a : ℕ) → A c a ↔ ((a ≡ m.sym.0) × (c m.sym.0 ≡ 0))) → (t : List ℕ)
    → Trace (once (Then (one m) Done) ∷ []) t ↔ Follows (λ u a. A (counts u) a) [] t
once_counts m A same = one_process (once (Then (one m) Done)) (λ u a. A (counts u) a)
    (λ u a h. one_is_in a m.sym.0 ((same (counts u) a).0 h).0)
    (follows_same (λ u a. OnceAt (one m) (λ a. a ≡ m.sym.0) (λ c. c m.sym.0) (counts u) a)
    (λ u a. A (counts u) a) (λ u a. ((same (counts u) a).1, (same (counts u) a).0))
    (λ t. TraceOf (once (Then (one m) Done)) t)
    (turn_once (one m) (λ a. a ≡ m.sym.0) (λ c. c m.sym.0) (one_opens m)
    (record { begins = refl; first = λ c d a e g. (subst (λ x. Grew c x d) e g).here }) (one_whole m)))

pub source_counts : (t : List ℕ) → KindTrace Source t ↔ KindFollows Source t
source_counts = once_counts (output 0) (KindAt Source) (λ c a. (λ h. h, λ h. h))

pub sink_counts : (t : List ℕ) → KindTrace Sink t ↔ KindFollows Sink t
sink_counts = once_counts (input 0) (KindAt Sink) (λ c a. (λ h. h, λ h. h))

pub toggle_counts : (t : List ℕ) → KindTrace Toggle t ↔ KindFollows Toggle t
toggle_counts = one_process (again (toggle (input 0) (output 1) (output 2)))
    (λ u a. KindAt Toggle (counts u) a) known
    (follows_same (λ u a. ToggleAt (input 0) (output 1) (output 2) (counts u) a)
    (λ u a. KindAt Toggle (counts u) a) (λ u a. (λ h. h, λ h. h))
    (λ t. TraceOf (again (toggle (input 0) (output 1) (output 2))) t)
    (toggle_turns (input 0) (output 1) (output 2) (λ e. omega arith) (λ e. omega arith) (λ e. omega arith)))
  where
    known : (u : List ℕ) (a : ℕ) → KindAt Toggle (counts u) a
        → IsTrue (has_symbol (input 0 ∷ output 1 ∷ input 0 ∷ output 2 ∷ []) a)
    known u a (inl h) = subst (λ x. IsTrue (has_symbol (input 0 ∷ output 1 ∷ input 0 ∷ output 2 ∷ []) x))
        (sym h.0) refl
    known u a (inr (inl h)) = subst
        (λ x. IsTrue (has_symbol (input 0 ∷ output 1 ∷ input 0 ∷ output 2 ∷ []) x)) (sym h.0) refl
    known u a (inr (inr h)) = subst
        (λ x. IsTrue (has_symbol (input 0 ∷ output 1 ∷ input 0 ∷ output 2 ∷ []) x)) (sym h.0) refl

-- ---- a merge

-- a sum over ports in a row grows with one of them
pub row_grows : (k s : ℕ) (c d : ℕ → ℕ) (i : ℕ) → i < k → Grew c (s + i) d → total k (λ j. d (s + j))
    ≡ suc (total k (λ j. c (s + j)))
row_grows k s c d i h g = total_one k (λ j. c (s + j)) (λ j. d (s + j)) i h g.here
    (λ j l n. g.elsewhere (s + j) (λ e. n (omega arith)))

pub row_stays : (k s : ℕ) (c d : ℕ → ℕ) (a : ℕ) → ((j : ℕ) → j < k → s + j ≡ a → ⊥) → Grew c a d
    → total k (λ j. d (s + j)) ≡ total k (λ j. c (s + j))
row_stays k s c d a n g = total_same k (λ j. d (s + j)) (λ j. c (s + j)) (λ j l. g.elsewhere (s + j) (n j l))

-- a symbol of a front or of a back
pub has_front : (xs ys : List Mark) (a : ℕ) → IsTrue (has_symbol xs a) → IsTrue (has_symbol (xs ++ ys) a)
has_front [] ys a h = absurd (true≢false (sym h))
has_front (x ∷ xs) ys a h = by (nat_eq a x.sym.0) h (has_front xs ys a)
  where
    by : (b : Bool) → IsTrue (b || has_symbol xs a)
        → (IsTrue (has_symbol xs a) → IsTrue (has_symbol (xs ++ ys) a))
        → IsTrue (b || has_symbol (xs ++ ys) a)
    by true h k = refl
    by false h k = k h

pub has_back : (xs ys : List Mark) (a : ℕ) → IsTrue (has_symbol ys a) → IsTrue (has_symbol (xs ++ ys) a)
has_back [] ys a h = h
has_back (x ∷ xs) ys a h = by (nat_eq a x.sym.0) (has_back xs ys a h)
  where
    by : (b : Bool) → IsTrue (has_symbol (xs ++ ys) a) → IsTrue (b || has_symbol (xs ++ ys) a)
    by true k = refl
    by false k = k

-- a port of a row is a symbol of it
pub row_known : (f : ℕ → Mark) → ((x : ℕ) → (f x).sym.0 ≡ x) → (s n a : ℕ) → s ≤ a → a < s + n
    → IsTrue (has_symbol (map f (range_with_len s n)) a)
row_known f num s n a low high =
    subst (λ x. IsTrue (has_symbol (map f (range_with_len s n)) x)) (num a)
    (symbol_in (f a) (map f (range_with_len s n)) (range_in f s n a low high))

module _ (n : ℕ) (wide : 2 ≤ n) where
  abbrev merge_in : ℕ → Type 0
  merge_in a = (0 ≤ a) × (a < 0 + n)

  abbrev merge_out : ℕ → Type 0
  merge_out a = a ≡ n

  abbrev inputs : List Mark
  inputs = map input (range_with_len 0 n)

  abbrev merge : TSeq
  merge = Then (any_one inputs) (Then (one (output n)) Done)

  merge_counted : Counted (any_one inputs) (one (output n)) merge_in merge_out (total n) (λ c. c n)
  merge_counted = record {
    begins = total_none n naught (λ i h. refl);
    first = λ c d a h g. (grows c d a (omega (arith, h.1)) g, g.elsewhere n (λ e. omega (arith, h.1)));
    second = λ c d a e g. let h = subst (λ x. Grew c x d) e g in
        (total_same n d c (λ i l. h.elsewhere i (λ z. omega arith)), h.here);
  }
    where
      grows : (c d : ℕ → ℕ) (a : ℕ) → a < n → Grew c a d → total n d ≡ suc (total n c)
      grows c d a l g = total_one n c d a l g.here (λ j h. g.elsewhere j)

  abbrev MergeTurn : (ℕ → ℕ) → ℕ → Type 0
  MergeTurn c a = TurnAt (any_one inputs) (one (output n)) merge_in merge_out (total n) (λ c. c n) c a

  merge_same : (c : ℕ → ℕ) (a : ℕ) → MergeTurn c a ↔ KindAt (Merge n) c a
  merge_same c a = (forth, back)
    where
      forth : MergeTurn c a → KindAt (Merge n) c a
      forth (inl h) = inl (omega (arith, h.0), h.1)
      forth (inr h) = inr h

      back : KindAt (Merge n) c a → MergeTurn c a
      back (inl h) = inl ((omega arith, omega (arith, h.0)), h.1)
      back (inr h) = inr h

  merge_known : (u : List ℕ) (a : ℕ) → KindAt (Merge n) (counts u) a
      → IsTrue (has_symbol (marks_of_proc (again merge)) a)
  merge_known u a (inl h) = subst (λ ms. IsTrue (has_symbol (ms ++ (output n ∷ [])) a))
      (sym (any_marks inputs)) (has_front inputs (output n ∷ []) a
      (row_known input (λ x. refl) 0 n a (omega arith) (omega (arith, h.0))))
  merge_known u a (inr h) = has_back (marks_in (any_one inputs)) (output n ∷ []) a (one_is_in a n h.0)

  pub merge_counts : (t : List ℕ) → KindTrace (Merge n) t ↔ KindFollows (Merge n) t
  merge_counts = one_process (again merge) (λ u a. KindAt (Merge n) (counts u) a) merge_known
      (follows_same (λ u a. MergeTurn (counts u) a) (λ u a. KindAt (Merge n) (counts u) a)
      (λ u a. merge_same (counts u) a) (λ t. TraceOf (again merge) t)
      (turns (any_one inputs) (one (output n)) merge_in merge_out (total n) (λ c. c n)
      (range_opens input (λ x. refl) 0 n) (one_opens (output n)) merge_counted
      (range_item input 0 n wide) (one_whole (output n))))
