-- The crossings of a decision wait, its rows and columns, and its tree.
use Rattle.std.proofs.Common.{◌≡◌, inl, inr, ℕ, zero, suc, ◌+◌, ◌<◌, Bool, true, false, true≢false, ◌&&◌, ◌||◌, nat_lt, nat_eq, List, [], ◌∷◌, length, IsTrue, refl, sym, ap, ◌∙◌, subst, arith, eqb-true, ltb-true}
use Rattle.std.specs.List.{list_all, list_any}
use Rattle.std.specs.Prelude.{slice_index_or}
use Rattle.cmd_tree.specs.declared.tree.Mark.{Mark}
use Rattle.cmd_tree.specs.Tree.{TSeq, TBurst, Done, Then, marks_of, marks_among}
use Rattle.cmd_tree.specs.View.{seqs_of}
use Rattle.cmd_tree.specs.Limits.{IsFull, AreSeqs}
use Rattle.cmd_tree.specs.Meaning.{has_symbol}
use Rattle.cmd_tree.specs.Join.{join}
use Rattle.cmd_tree.specs.Marks.{input, output}
use Rattle.cmd_tree.specs.Residual.{FirstOf, FirstAmong}
use Rattle.basic_kinds.specs.declared.shape.Shape.{Shape}
use Rattle.basic_kinds.specs.Shapes.{is_within}
use Rattle.basic_kinds.specs.KindTraces.{one, crossings, choice_of}
use Rattle.basic_kinds.specs.KindCounts.{row_of, col_of}
use Rattle.basic_kinds.proofs.Items.{In, symbol_in}
use Rattle.basic_kinds.proofs.SmallKinds.{has_front, has_back}

-- ---- the crossing at a place

abbrev pub at_place : List (ℕ × ℕ) → ℕ → ℕ × ℕ
at_place ps x = slice_index_or ps x (0, 0)

pub and_left : (a b : Bool) → IsTrue (a && b) → IsTrue a
and_left true b h = refl
and_left false b h = absurd (true≢false (sym h))

pub and_right : (a b : Bool) → IsTrue (a && b) → IsTrue b
and_right true b h = h
and_right false b h = absurd (true≢false (sym h))

pub all_at : (test : ℕ × ℕ → Bool) (ps : List (ℕ × ℕ)) → IsTrue (list_all test ps) → (x : ℕ) → x < length ps
    → IsTrue (test (at_place ps x))
all_at test [] h x l = absurd (omega arith)
all_at test (p ∷ ps) h zero l = and_left (test p) (list_all test ps) h
all_at test (p ∷ ps) h (suc x) l = all_at test ps (and_right (test p) (list_all test ps) h) x (omega arith)

pub any_at : (test : ℕ × ℕ → Bool) (ps : List (ℕ × ℕ)) → IsTrue (list_any test ps) → (x : ℕ)
    × (x < length ps) × IsTrue (test (at_place ps x))
any_at test [] h = absurd (true≢false (sym h))
any_at test (p ∷ ps) h = by (test p) refl h (any_at test ps)
  where
    by : (b : Bool) → test p ≡ b → IsTrue (b || list_any test ps)
        → (IsTrue (list_any test ps) → (x : ℕ) × (x < length ps) × IsTrue (test (at_place ps x))) → (x : ℕ)
        × (x < length (p ∷ ps)) × IsTrue (test (at_place (p ∷ ps) x))
    by true e h k = (zero, omega arith, e)
    by false e h k = let r = k h in (suc r.0, omega (arith, r.1), r.2)

module _ (s : Shape) where
  abbrev pub crossing_count : ℕ
  crossing_count = length s.cross

  pub row_within : (x : ℕ) → x < crossing_count → row_of s x < s.rows
  row_within x l = ltb-true (row_of s x) s.rows
      (and_left (nat_lt (row_of s x) s.rows) (nat_lt (col_of s x) s.cols)
      (all_at (is_within s.rows s.cols) s.cross s.whole.within x l))

  pub col_within : (x : ℕ) → x < crossing_count → col_of s x < s.cols
  col_within x l = ltb-true (col_of s x) s.cols
      (and_right (nat_lt (row_of s x) s.rows) (nat_lt (col_of s x) s.cols)
      (all_at (is_within s.rows s.cols) s.cross s.whole.within x l))

  pub some_of_row : (i : ℕ) → i < s.rows → (x : ℕ) × (x < crossing_count) × (row_of s x ≡ i)
  some_of_row i l = let r = any_at (λ p. nat_eq p.0 i) s.cross (s.whole.each_row i l) in
      (r.0, r.1, eqb-true (row_of s r.0) i r.2)

  pub some_of_col : (j : ℕ) → j < s.cols → (x : ℕ) × (x < crossing_count) × (col_of s x ≡ j)
  some_of_col j l = let r = any_at (λ p. nat_eq p.1 j) s.cross (s.whole.each_column j l) in
      (r.0, r.1, eqb-true (col_of s r.0) j r.2)

-- ---- what the tree begins with

module _ (rows : ℕ) where
  abbrev pub burst_of : ℕ × ℕ → List Mark
  burst_of p = input p.0 ∷ input (rows + p.1) ∷ []

  abbrev pub answer : ℕ → TSeq
  answer n = Then (one (output n)) Done

  -- a crossing is chosen: its row and its column come, and then its output
  pub record Chooses (k : ℕ) (ps : List (ℕ × ℕ)) (ms : List Mark) (r : TSeq) : Type 0 where
    pub place : ℕ
    pub within : place < length ps
    pub burst : ms ≡ burst_of (at_place ps place)
    pub rest : r ≡ answer (k + place)

  here : (k : ℕ) (p : ℕ × ℕ) (ps : List (ℕ × ℕ)) (ms : List Mark) (r : TSeq)
      → FirstOf (Then (TBurst (burst_of p)) (answer k)) ms r → Chooses k (p ∷ ps) ms r
  here k p ps ms r h = record {
    place = zero;
    within = omega arith;
    burst = h.1.0;
    rest = h.2 ∙ ap (λ q. join q (answer k)) h.1.1 ∙ ap answer (omega arith);
  }

  first_among : (k : ℕ) (ps : List (ℕ × ℕ)) (ms : List Mark) (r : TSeq)
      → FirstAmong (seqs_of (crossings rows k ps)) ms r → Chooses k ps ms r
  first_among k [] ms r h = absurd h
  first_among k (p ∷ ps) ms r (inl h) = here k p ps ms r h
  first_among k (p ∷ ps) ms r (inr h) =
      let c = first_among (k + 1) ps ms r h in
      record {
        place = suc c.place;
        within = omega (arith, c.within);
        burst = c.burst;
        rest = c.rest ∙ ap answer (omega arith);
      }

  pub first_choice : (k : ℕ) (ps : List (ℕ × ℕ)) (ms : List Mark) (r : TSeq)
      → FirstOf (choice_of (crossings rows k ps)) ms r → Chooses k ps ms r
  first_choice k [] ms r h = absurd h
  first_choice k (p ∷ []) ms r h = here k p [] ms r h
  first_choice k (p ∷ q ∷ ps) ms r h =
      let c = first_among k (p ∷ q ∷ ps) ms h.0 h.1 in
      record {
        place = c.place;
        within = c.within;
        burst = c.burst;
        rest = h.2 ∙ ap (λ t. join t Done) c.rest;
      }

  among_first : (k : ℕ) (ps : List (ℕ × ℕ)) (x : ℕ) → x < length ps
      → FirstAmong (seqs_of (crossings rows k ps)) (burst_of (at_place ps x)) (answer (k + x))
  among_first k [] x l = absurd (omega arith)
  among_first k (p ∷ ps) zero l = inl (Done, (refl, refl), ap answer (omega arith))
  among_first k (p ∷ ps) (suc x) l =
      inr (subst (λ n. FirstAmong (seqs_of (crossings rows (k + 1) ps)) (burst_of (at_place ps x))
      (answer n)) (omega arith) (among_first (k + 1) ps x (omega arith)))

  pub choice_first : (k : ℕ) (ps : List (ℕ × ℕ)) (x : ℕ) → x < length ps
      → FirstOf (choice_of (crossings rows k ps)) (burst_of (at_place ps x)) (answer (k + x))
  choice_first k [] x l = absurd (omega arith)
  choice_first k (p ∷ []) zero l = (Done, (refl, refl), ap answer (omega arith))
  choice_first k (p ∷ []) (suc x) l = absurd (omega arith)
  choice_first k (p ∷ q ∷ ps) x l = (answer (k + x), among_first k (p ∷ q ∷ ps) x l, refl)

  -- ---- its shape and its marks

  all_full : (k : ℕ) (ps : List (ℕ × ℕ)) → AreSeqs (seqs_of (crossings rows k ps))
  all_full k [] = tt
  all_full k (p ∷ ps) = ((omega arith, (omega arith, tt)), all_full (k + 1) ps)

  pub choice_full : (k : ℕ) (ps : List (ℕ × ℕ)) → 0 < length ps → IsFull (choice_of (crossings rows k ps))
  choice_full k [] h = absurd (omega arith)
  choice_full k (p ∷ []) h = (omega arith, (omega arith, tt))
  choice_full k (p ∷ q ∷ ps) h = ((omega arith, all_full k (p ∷ q ∷ ps)), tt)

  abbrev pub marks_at : ℕ → ℕ × ℕ → List Mark
  marks_at k p = input p.0 ∷ input (rows + p.1) ∷ output k ∷ []

  among_has : (k : ℕ) (ps : List (ℕ × ℕ)) (x : ℕ) → x < length ps → (m : Mark)
      → In m (marks_at (k + x) (at_place ps x))
      → IsTrue (has_symbol (marks_among (seqs_of (crossings rows k ps))) m.sym.0)
  among_has k [] x l m h = absurd (omega arith)
  among_has k (p ∷ ps) zero l m h =
      has_front (marks_at k p) (marks_among (seqs_of (crossings rows (k + 1) ps))) m.sym.0
      (symbol_in m (marks_at k p) (subst (λ n. In m (marks_at n p)) (omega arith) h))
  among_has k (p ∷ ps) (suc x) l m h =
      has_back (marks_at k p) (marks_among (seqs_of (crossings rows (k + 1) ps))) m.sym.0
      (among_has (k + 1) ps x (omega arith) m
      (subst (λ n. In m (marks_at n (at_place ps x))) (omega arith) h))

  pub choice_has : (k : ℕ) (ps : List (ℕ × ℕ)) (x : ℕ) → x < length ps → (m : Mark)
      → In m (marks_at (k + x) (at_place ps x))
      → IsTrue (has_symbol (marks_of (choice_of (crossings rows k ps))) m.sym.0)
  choice_has k [] x l m h = absurd (omega arith)
  choice_has k (p ∷ []) zero l m h =
      symbol_in m (marks_at k p) (subst (λ n. In m (marks_at n p)) (omega arith) h)
  choice_has k (p ∷ []) (suc x) l m h = absurd (omega arith)
  choice_has k (p ∷ q ∷ ps) x l m h =
      has_front (marks_among (seqs_of (crossings rows k (p ∷ q ∷ ps)))) [] m.sym.0
      (among_has k (p ∷ q ∷ ps) x l m h)
