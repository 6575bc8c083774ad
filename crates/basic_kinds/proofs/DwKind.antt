-- A decision wait by counts. Where a row has come, its tree has chosen a crossing that nobody sees: several
-- states stand at the same counts.
use Rattle.std.proofs.Common.{◌≡◌, ◌↔◌, ◌⊎◌, inl, inr, ⊎_elim, ℕ, suc, ◌+◌, ◌<◌, ◌==◌, Bool, true, false, true≢false, ◌||◌, if◌then◌else◌, List, [], ◌∷◌, IsTrue, refl, sym, ap, ◌∙◌, subst, arith, eq-eqb, ne_eqb, Some}
use Rattle.std.proofs.lemmas.Bool.{cases_eq}
use Rattle.cmd_tree.specs.declared.tree.Mark.{Mark}
use Rattle.cmd_tree.specs.declared.tree.Proc.{Proc}
use Rattle.cmd_tree.specs.Tree.{TSeq, Done}
use Rattle.cmd_tree.specs.Limits.{IsProc, marks_of_proc}
use Rattle.cmd_tree.specs.Lists.{is_in}
use Rattle.cmd_tree.specs.Marks.{input, output}
use Rattle.cmd_tree.specs.Meaning.{symbols, has_symbol}
use Rattle.cmd_tree.specs.Join.{join}
use Rattle.cmd_tree.specs.Residual.{without, FirstOf, Left, Next, Step, within, opens}
use Rattle.cmd_tree.specs.Rounds.{counts, naught}
use Rattle.cmd_tree.proofs.Phases.{Grew}
use Rattle.basic_kinds.specs.declared.shape.Shape.{Shape}
use Rattle.basic_kinds.specs.declared.kind.Kind.TheVariants.{Dw}
use Rattle.basic_kinds.specs.KindTraces.{again, crossings, choice_of, KindTrace}
use Rattle.basic_kinds.specs.Totals.{total}
use Rattle.basic_kinds.specs.KindCounts.{row_of, col_of, row_outs, col_outs, RowMay, ColMay, OutMay, KindAt, KindFollows}
use Rattle.basic_kinds.proofs.Totals.{total_same, total_one, total_none}
use Rattle.basic_kinds.proofs.Machines.{Machine, Chosen, traces_chosen, one_process, is_in_one, one_is_in, without_one}
use Rattle.basic_kinds.specs.Mirror.Sides.{Even, Ahead}
use Rattle.basic_kinds.proofs.Sides.{Same, Enters, Leaves, same_back, even_same, ahead_same, even_enters, ahead_leaves, ahead_even, even_lags, ahead_lags, ahead_only}
use Rattle.basic_kinds.proofs.Crossings.{at_place, crossing_count, row_within, col_within, some_of_row, some_of_col, burst_of, answer, Chooses, first_choice, choice_first, choice_full, choice_has}

-- ---- two symbols in any order

in_two : (a x y : ℕ) → IsTrue (is_in a (x ∷ y ∷ [])) → (a ≡ x) ⊎ (a ≡ y)
in_two a x y h = ⊎_elim inl (λ d. inr
    (is_in_one a y (subst (λ b. IsTrue (b || is_in a (y ∷ []))) (ne_eqb a x d) h))) (cases_eq a x)

first_is_in : (x y : ℕ) → IsTrue (is_in x (x ∷ y ∷ []))
first_is_in x y = ap (λ b. b || is_in x (y ∷ [])) (eq-eqb x x refl)

second_is_in : (x y : ℕ) → (y ≡ x → ⊥) → IsTrue (is_in y (x ∷ y ∷ []))
second_is_in x y d = ap (λ b. b || is_in y (y ∷ [])) (ne_eqb y x d) ∙ one_is_in y y refl

without_first : (x y : ℕ) → without x (x ∷ y ∷ []) ≡ y ∷ []
without_first x y = ap (λ b. if b then (y ∷ []) else (x ∷ without x (y ∷ []))) (eq-eqb x x refl)

without_second : (x y : ℕ) → (y ≡ x → ⊥) → without y (x ∷ y ∷ []) ≡ x ∷ []
without_second x y d = ap (λ b. if b then (y ∷ []) else (x ∷ without y (y ∷ []))) (ne_eqb y x d)
    ∙ ap (λ t. x ∷ t) (without_one y y refl)

-- ---- the states: nothing has come, the row or the column of a crossing, or both

pub data Spot : Type 0 where
  Idle : Spot
  WaitCol : ℕ → Spot
  WaitRow : ℕ → Spot
  Both : ℕ → Spot

module _ (s : Shape) where
  abbrev pub first_out : ℕ
  first_out = s.rows + s.cols

  abbrev pub row_port : ℕ → ℕ
  row_port x = row_of s x

  abbrev pub col_port : ℕ → ℕ
  col_port x = s.rows + col_of s x

  abbrev body : TSeq
  body = choice_of (crossings s.rows first_out s.cross)

  abbrev proc : Proc
  proc = again body

  abbrev left : Spot → Left
  left Idle = record { pending = []; rest = Done }
  left (WaitCol x) = record { pending = col_port x ∷ []; rest = answer s.rows (first_out + x) }
  left (WaitRow x) = record { pending = row_port x ∷ []; rest = answer s.rows (first_out + x) }
  left (Both x) = record { pending = []; rest = answer s.rows (first_out + x) }

  data Goes : Spot → ℕ → Spot → Type 0 where
    row_first : (x : ℕ) → x < crossing_count s → Goes Idle (row_port x) (WaitCol x)
    col_first : (x : ℕ) → x < crossing_count s → Goes Idle (col_port x) (WaitRow x)
    col_second : (x : ℕ) → Goes (WaitCol x) (col_port x) (Both x)
    row_second : (x : ℕ) → Goes (WaitRow x) (row_port x) (Both x)
    out : (x : ℕ) → Goes (Both x) (first_out + x) Idle

  apart : (x : ℕ) → x < crossing_count s → col_port x ≡ row_port x → ⊥
  apart x l e = omega (arith, row_within s x l)

  left_is : (p : List ℕ) (r : TSeq) (l : Left) → p ≡ l.pending → r ≡ l.rest
      → record { pending = p; rest = r } ≡ l
  left_is p r l e f = λ i. record { pending = e i; rest = f i }

  -- ---- the steps of the tree are those of the states

  abbrev Going : Spot → ℕ → Left → Type 0
  Going q a m = (r : Spot) × (m ≡ left r) × Goes q a r

  idle_opens : (a : ℕ) (ms : List Mark) (r : TSeq) → FirstOf body ms r → IsTrue (is_in a (symbols ms))
      → Going Idle a (record { pending = without a (symbols ms); rest = r })
  idle_opens a ms r f there =
      let c : Chooses s.rows first_out s.cross ms r = first_choice s.rows first_out s.cross ms r f in
      let x : ℕ = c.place in
      let syms : symbols ms ≡ row_port x ∷ col_port x ∷ [] = ap symbols c.burst in
      ⊎_elim
      (λ (e : a ≡ row_port x). (
        WaitCol x,
        left_is (without a (symbols ms)) r (left (WaitCol x))
            (ap (λ t. without a t) syms ∙ ap (λ y. without y (row_port x ∷ col_port x ∷ [])) e
            ∙ without_first (row_port x) (col_port x)) c.rest,
        subst (λ y. Goes Idle y (WaitCol x)) (sym e) (row_first x c.within),
      ))
      (λ (e : a ≡ col_port x). (
        WaitRow x,
        left_is (without a (symbols ms)) r (left (WaitRow x))
            (ap (λ t. without a t) syms ∙ ap (λ y. without y (row_port x ∷ col_port x ∷ [])) e
            ∙ without_second (row_port x) (col_port x) (apart x c.within)) c.rest,
        subst (λ y. Goes Idle y (WaitRow x)) (sym e) (col_first x c.within),
      ))
      (in_two a (row_port x) (col_port x) (subst (λ t. IsTrue (is_in a t)) syms there))

  both_opens : (x a : ℕ) (ms : List Mark) (r : TSeq) → FirstOf (answer s.rows (first_out + x)) ms r
      → IsTrue (is_in a (symbols ms))
      → Going (Both x) a (record { pending = without a (symbols ms); rest = r })
  both_opens x a ms r f there =
      let syms : symbols ms ≡ (first_out + x) ∷ [] = ap symbols f.1.0 in
      let e : a ≡ first_out + x = is_in_one a (first_out + x) (subst (λ t. IsTrue (is_in a t)) syms there) in (
        Idle,
        left_is (without a (symbols ms)) r (left Idle)
            (ap (λ t. without a t) syms ∙ without_one a (first_out + x) e)
            (f.2 ∙ ap (λ t. join t Done) f.1.1),
        subst (λ y. Goes (Both x) y Idle) (sym e) (out x),
      )

  waits_within : (a y : ℕ) (l : Left) (rest : TSeq) → l.pending ≡ y ∷ [] → l.rest ≡ rest
      → IsTrue (is_in a l.pending) → (a ≡ y)
      × (◌≡◌ {A = Left} (record { pending = without a l.pending; rest = l.rest })
      (record { pending = []; rest = rest }))
  waits_within a y l rest e f there =
      let same : a ≡ y = is_in_one a y (subst (λ t. IsTrue (is_in a t)) e there) in (
        same,
        left_is (without a l.pending) l.rest (record { pending = []; rest = rest })
            (ap (λ t. without a t) e ∙ without_one a y same) f,
      )

  step_from : (q : Spot) (l : Left) (a : ℕ) (m : Left) → Step proc.body l a m → l.pending ≡ (left q).pending
      → l.rest ≡ (left q).rest → Going q a m
  step_from Idle _ _ _ (within l a there) e f =
      absurd (true≢false (sym (subst (λ t. IsTrue (is_in a t)) e there)))
  step_from (Both x) _ _ _ (within l a there) e f =
      absurd (true≢false (sym (subst (λ t. IsTrue (is_in a t)) e there)))
  step_from (WaitCol x) _ _ _ (within l a there) e f =
      let w = waits_within a (col_port x) l (answer s.rows (first_out + x)) e f there in
      (Both x, w.1, subst (λ y. Goes (WaitCol x) y (Both x)) (sym w.0) (col_second x))
  step_from (WaitRow x) _ _ _ (within l a there) e f =
      let w = waits_within a (row_port x) l (answer s.rows (first_out + x)) e f there in
      (Both x, w.1, subst (λ y. Goes (WaitRow x) y (Both x)) (sym w.0) (row_second x))
  step_from Idle _ _ _ (opens l a ms r none next there) e f =
      idle_opens a ms r (subst (λ t. Next (Some body) t ms r) f next) there
  step_from (Both x) _ _ _ (opens l a ms r none next there) e f =
      both_opens x a ms r (subst (λ t. Next (Some body) t ms r) f next) there
  step_from (WaitCol x) _ _ _ (opens l a ms r none next there) e f = absurd (cc (sym e ∙ none))
  step_from (WaitRow x) _ _ _ (opens l a ms r none next there) e f = absurd (cc (sym e ∙ none))

  goes_step : (q : Spot) (a : ℕ) (r : Spot) → Goes q a r → Step proc.body (left q) a (left r)
  goes_step _ _ _ (row_first x l) = subst (λ m. Step (Some body) (left Idle) (row_port x) m)
      (left_is (without (row_port x) (row_port x ∷ col_port x ∷ [])) (answer s.rows (first_out + x))
      (left (WaitCol x)) (without_first (row_port x) (col_port x)) refl)
      (opens (left Idle) (row_port x) (burst_of s.rows (at_place s.cross x)) (answer s.rows (first_out + x))
      refl (choice_first s.rows first_out s.cross x l) (first_is_in (row_port x) (col_port x)))
  goes_step _ _ _ (col_first x l) = subst (λ m. Step (Some body) (left Idle) (col_port x) m)
      (left_is (without (col_port x) (row_port x ∷ col_port x ∷ [])) (answer s.rows (first_out + x))
      (left (WaitRow x)) (without_second (row_port x) (col_port x) (apart x l)) refl)
      (opens (left Idle) (col_port x) (burst_of s.rows (at_place s.cross x)) (answer s.rows (first_out + x))
      refl (choice_first s.rows first_out s.cross x l)
      (second_is_in (row_port x) (col_port x) (apart x l)))
  goes_step _ _ _ (col_second x) = subst (λ m. Step (Some body) (left (WaitCol x)) (col_port x) m)
      (left_is (without (col_port x) (col_port x ∷ [])) (answer s.rows (first_out + x)) (left (Both x))
      (without_one (col_port x) (col_port x) refl) refl)
      (within (left (WaitCol x)) (col_port x) (one_is_in (col_port x) (col_port x) refl))
  goes_step _ _ _ (row_second x) = subst (λ m. Step (Some body) (left (WaitRow x)) (row_port x) m)
      (left_is (without (row_port x) (row_port x ∷ [])) (answer s.rows (first_out + x)) (left (Both x))
      (without_one (row_port x) (row_port x) refl) refl)
      (within (left (WaitRow x)) (row_port x) (one_is_in (row_port x) (row_port x) refl))
  goes_step _ _ _ (out x) = subst (λ m. Step (Some body) (left (Both x)) (first_out + x) m)
      (left_is (without (first_out + x) ((first_out + x) ∷ [])) Done (left Idle)
      (without_one (first_out + x) (first_out + x) refl) refl)
      (opens (left (Both x)) (first_out + x) (output (first_out + x) ∷ []) Done refl
      (Done, (refl, refl), refl) (one_is_in (first_out + x) (first_out + x) refl))

  -- ---- how the counts of the rows and the columns change

  abbrev pub cols_in : (ℕ → ℕ) → ℕ → ℕ
  cols_in c j = c (s.rows + j)

  abbrev pub outs_by : (ℕ → ℕ) → (ℕ → ℕ) → ℕ → ℕ
  outs_by t c i = total (crossing_count s) (λ x. if t x == i then c (first_out + x) else 0)

  outs_same : (t c d : ℕ → ℕ) (a : ℕ) → a < first_out → Grew c a d → (i : ℕ) → outs_by t d i ≡ outs_by t c i
  outs_same t c d a h g i = total_same (crossing_count s) (λ x. if t x == i then d (first_out + x) else 0)
      (λ x. if t x == i then c (first_out + x) else 0)
      (λ x l. ap (λ n. if t x == i then n else 0) (g.elsewhere (first_out + x) (λ e. omega arith)))

  outs_more : (t c d : ℕ → ℕ) (x : ℕ) → x < crossing_count s → Grew c (first_out + x) d → outs_by t d (t x)
      ≡ suc (outs_by t c (t x))
  outs_more t c d x l g = total_one (crossing_count s) (λ y. if t y == t x then c (first_out + y) else 0)
      (λ y. if t y == t x then d (first_out + y) else 0) x l
      (let same : (t x == t x) ≡ true = eq-eqb (t x) (t x) refl in
      ap (λ b. if b then d (first_out + x) else 0) same ∙ g.here
      ∙ ap (λ b. suc (if b then c (first_out + x) else 0)) (sym same))
      (λ y m n. ap (λ k. if t y == t x then k else 0) (g.elsewhere (first_out + y) (λ e. n (omega arith))))

  outs_others : (t c d : ℕ → ℕ) (x : ℕ) → Grew c (first_out + x) d → (i : ℕ) → (i ≡ t x → ⊥) → outs_by t d i
      ≡ outs_by t c i
  outs_others t c d x g i n = total_same (crossing_count s) (λ y. if t y == i then d (first_out + y) else 0)
      (λ y. if t y == i then c (first_out + y) else 0)
      (λ y l. ⊎_elim
      (λ (e : y ≡ x).
      let other : (t y == i) ≡ false = ne_eqb (t y) i (λ z. n (sym z ∙ ap t e)) in
      ap (λ b. if b then d (first_out + y) else 0) other
      ∙ sym (ap (λ b. if b then c (first_out + y) else 0) other))
      (λ (e : y ≡ x → ⊥). ap (λ k. if t y == i then k else 0)
      (g.elsewhere (first_out + y) (λ z. e (omega arith))))
      (cases_eq y x))

  abbrev pub Rows : ((ℕ → (ℕ → ℕ) → (ℕ → ℕ) → (ℕ → ℕ) → (ℕ → ℕ) → Type 0)) → (ℕ → ℕ) → (ℕ → ℕ) → Type 0
  Rows R c d = R s.rows c (row_outs s c) d (row_outs s d)

  abbrev pub Cols : ((ℕ → (ℕ → ℕ) → (ℕ → ℕ) → (ℕ → ℕ) → (ℕ → ℕ) → Type 0)) → (ℕ → ℕ) → (ℕ → ℕ) → Type 0
  Cols R c d = R s.cols (cols_in c) (col_outs s c) (cols_in d) (col_outs s d)

  pub row_enters : (c d : ℕ → ℕ) (i : ℕ) → i < s.rows → Grew c i d → Rows (λ n f g h k. Enters n f g h k i) c d
  row_enters c d i l g = record {
    within = l;
    here = g.here;
    others = λ h m n. g.elsewhere h n;
    second = λ h m. outs_same (row_of s) c d i (omega arith) g h;
  }

  pub cols_stay : (c d : ℕ → ℕ) (i : ℕ) → i < s.rows → Grew c i d → Cols Same c d
  cols_stay c d i l g = record {
    first = λ j m. g.elsewhere (s.rows + j) (λ e. omega arith);
    second = λ j m. outs_same (col_of s) c d i (omega arith) g j;
  }

  pub col_enters : (c d : ℕ → ℕ) (j : ℕ) → j < s.cols → Grew c (s.rows + j) d
      → Cols (λ n f g h k. Enters n f g h k j) c d
  col_enters c d j l g = record {
    within = l;
    here = g.here;
    others = λ h m n. g.elsewhere (s.rows + h) (λ e. n (omega arith));
    second =
        λ h m. outs_same (col_of s) c d (s.rows + j) (omega arith) g h;
  }

  pub rows_stay : (c d : ℕ → ℕ) (j : ℕ) → j < s.cols → Grew c (s.rows + j) d → Rows Same c d
  rows_stay c d j l g = record {
    first = λ i m. g.elsewhere i (λ e. omega arith);
    second = λ i m. outs_same (row_of s) c d (s.rows + j) (omega arith) g i;
  }

  pub row_leaves : (c d : ℕ → ℕ) (x : ℕ) → x < crossing_count s → Grew c (first_out + x) d
      → Rows (λ n f g h k. Leaves n f g h k (row_of s x)) c d
  row_leaves c d x l g = record {
    first = λ i m. g.elsewhere i (λ e. omega arith);
    here = outs_more (row_of s) c d x l g;
    others = λ i m n. outs_others (row_of s) c d x g i n;
  }

  pub col_leaves : (c d : ℕ → ℕ) (x : ℕ) → x < crossing_count s → Grew c (first_out + x) d
      → Cols (λ n f g h k. Leaves n f g h k (col_of s x)) c d
  col_leaves c d x l g = record {
    first = λ j m. g.elsewhere (s.rows + j) (λ e. omega arith);
    here = outs_more (col_of s) c d x l g;
    others = λ j m n. outs_others (col_of s) c d x g j n;
  }

  -- ---- the states by counts

  abbrev pub RowsEven : (ℕ → ℕ) → Type 0
  RowsEven c = Even s.rows c (row_outs s c)

  abbrev pub RowAhead : (ℕ → ℕ) → ℕ → Type 0
  RowAhead c i = Ahead s.rows c (row_outs s c) i

  abbrev pub ColsEven : (ℕ → ℕ) → Type 0
  ColsEven c = Even s.cols (cols_in c) (col_outs s c)

  abbrev pub ColAhead : (ℕ → ℕ) → ℕ → Type 0
  ColAhead c j = Ahead s.cols (cols_in c) (col_outs s c) j

  abbrev Stands : (ℕ → ℕ) → Spot → Type 0
  Stands c Idle = RowsEven c × ColsEven c
  Stands c (WaitCol x) = (x < crossing_count s) × RowAhead c (row_of s x) × ColsEven c
  Stands c (WaitRow x) = (x < crossing_count s) × RowsEven c × ColAhead c (col_of s x)
  Stands c (Both x) = (x < crossing_count s) × RowAhead c (row_of s x) × ColAhead c (col_of s x)

  abbrev At : (ℕ → ℕ) → ℕ → Type 0
  At c a = KindAt (Dw s) c a

  pub begins : RowsEven naught × ColsEven naught
  begins = (λ i l. sym (none (row_of s) i), λ j l. sym (none (col_of s) j))
    where
      none : (t : ℕ → ℕ) (i : ℕ) → outs_by t naught i ≡ 0
      none t i = total_none (crossing_count s) (λ x. if t x == i then 0 else 0) (λ x l. by (t x == i))
        where
          by : (b : Bool) → ◌≡◌ {A = ℕ} (if b then 0 else 0) 0
          by true = refl
          by false = refl

  sound : (c d : ℕ → ℕ) (q : Spot) (a : ℕ) (r : Spot) → Stands c q → Goes q a r → Grew c a d → At c a
      × Stands d r
  sound c d _ _ _ st (row_first x l) g =
      let i : row_of s x < s.rows = row_within s x l in (
        inl (record {
          row = i;
          free = st.0;
          meets = λ j m h. absurd (even_lags s.cols (cols_in c) (col_outs s c) j m st.1 h);
        }),
        (
          l,
          even_enters s.rows c (row_outs s c) d (row_outs s d) (row_of s x)
              (row_enters c d (row_of s x) i g) st.0,
          even_same s.cols (cols_in c) (col_outs s c) (cols_in d) (col_outs s d)
              (cols_stay c d (row_of s x) i g) st.1,
        ),
      )
  sound c d _ _ _ st (col_first x l) g =
      let j : col_of s x < s.cols = col_within s x l in (
        inr (inl (record {
          col = col_of s x;
          port = refl;
          within = j;
          free = st.1;
          meets = λ i m h. absurd (even_lags s.rows c (row_outs s c) i m st.0 h);
        })),
        (
          l,
          even_same s.rows c (row_outs s c) d (row_outs s d) (rows_stay c d (col_of s x) j g) st.0,
          even_enters s.cols (cols_in c) (col_outs s c) (cols_in d) (col_outs s d) (col_of s x)
              (col_enters c d (col_of s x) j g) st.1,
        ),
      )
  sound c d _ _ _ st (col_second x) g =
      let l = st.0 in
      let j : col_of s x < s.cols = col_within s x l in (
        inr (inl (record {
          col = col_of s x;
          port = refl;
          within = j;
          free = st.2;
          meets = λ i m h. (x, l, sym (ahead_only s.rows c (row_outs s c) i (row_of s x) st.1 m h), refl);
        })),
        (
          l,
          ahead_same s.rows c (row_outs s c) d (row_outs s d) (row_of s x) (rows_stay c d (col_of s x) j g)
              st.1,
          even_enters s.cols (cols_in c) (col_outs s c) (cols_in d) (col_outs s d) (col_of s x)
              (col_enters c d (col_of s x) j g) st.2,
        ),
      )
  sound c d _ _ _ st (row_second x) g =
      let l = st.0 in
      let i : row_of s x < s.rows = row_within s x l in (
        inl (record {
          row = i;
          free = st.1;
          meets = λ j m h. (
            x,
            l,
            refl,
            sym
                (ahead_only s.cols (cols_in c) (col_outs s c) j (col_of s x) st.2 m h),
          );
        }),
        (
          l,
          even_enters s.rows c (row_outs s c) d (row_outs s d) (row_of s x)
              (row_enters c d (row_of s x) i g) st.1,
          ahead_same s.cols (cols_in c) (col_outs s c) (cols_in d) (col_outs s d) (col_of s x)
              (cols_stay c d (row_of s x) i g) st.2,
        ),
      )
  sound c d _ _ _ st (out x) g = (
    inr (inr (record {
      crossing = x;
      port = refl;
      within = st.0;
      row = ahead_lags s.rows c (row_outs s c) (row_of s x) st.1;
      col =
          ahead_lags s.cols (cols_in c) (col_outs s c) (col_of s x) st.2;
    })),
    (
      ahead_leaves s.rows c (row_outs s c) d (row_outs s d) (row_of s x) (row_leaves c d x st.0 g) st.1,
      ahead_leaves s.cols (cols_in c) (col_outs s c) (cols_in d) (col_outs s d) (col_of s x)
          (col_leaves c d x st.0 g) st.2,
    ),
  )

  -- ---- some state goes on by each port that may come

  abbrev Goer : (ℕ → ℕ) → ℕ → Type 0
  Goer c a = (o r : Spot) × Stands c o × Goes o a r

  row_goer : (c : ℕ → ℕ) (q : Spot) (a : ℕ) → Stands c q → RowMay s c a → Goer c a
  row_goer c Idle a st h = let x = some_of_row s a h.row in
      (Idle, WaitCol x.0, st, subst (λ y. Goes Idle y (WaitCol x.0)) x.2 (row_first x.0 x.1))
  row_goer c (WaitRow y) a st h =
      let x = h.meets (col_of s y) (col_within s y st.0)
      (ahead_lags s.cols (cols_in c) (col_outs s c) (col_of s y) st.2) in (
        WaitRow x.0,
        Both x.0,
        (x.1, st.1, subst (ColAhead c) (sym x.3) st.2),
        subst (λ y. Goes (WaitRow x.0) y (Both x.0)) x.2 (row_second x.0),
      )
  row_goer c (WaitCol y) a st h = absurd (ahead_even s.rows c (row_outs s c) (row_of s y) st.1 h.free)
  row_goer c (Both y) a st h = absurd (ahead_even s.rows c (row_outs s c) (row_of s y) st.1 h.free)

  col_goer : (c : ℕ → ℕ) (q : Spot) (a : ℕ) → Stands c q → ColMay s c a → Goer c a
  col_goer c Idle a st h = let x = some_of_col s h.col h.within in (
    Idle,
    WaitRow x.0,
    st,
    subst (λ y. Goes Idle y (WaitRow x.0)) (ap (λ j. s.rows + j) x.2 ∙ sym h.port)
        (col_first x.0 x.1),
  )
  col_goer c (WaitCol y) a st h =
      let x = h.meets (row_of s y) (row_within s y st.0)
      (ahead_lags s.rows c (row_outs s c) (row_of s y) st.1) in (
        WaitCol x.0,
        Both x.0,
        (x.1, subst (RowAhead c) (sym x.2) st.1, st.2),
        subst (λ y. Goes (WaitCol x.0) y (Both x.0)) (ap (λ j. s.rows + j) x.3 ∙ sym h.port)
            (col_second x.0),
      )
  col_goer c (WaitRow y) a st h =
      absurd (ahead_even s.cols (cols_in c) (col_outs s c) (col_of s y) st.2 h.free)
  col_goer c (Both y) a st h = absurd (ahead_even s.cols (cols_in c) (col_outs s c) (col_of s y) st.2 h.free)

  -- where an output may come, its row and its column are the pending ones
  out_ahead : (c : ℕ → ℕ) (q : Spot) (a : ℕ) → Stands c q → (h : OutMay s c a)
      → RowAhead c (row_of s h.crossing) × ColAhead c (col_of s h.crossing)
  out_ahead c Idle a st h = absurd
      (even_lags s.rows c (row_outs s c) (row_of s h.crossing) (row_within s h.crossing h.within) st.0 h.row)
  out_ahead c (WaitCol y) a st h =
      absurd (even_lags s.cols (cols_in c) (col_outs s c) (col_of s h.crossing)
      (col_within s h.crossing h.within) st.2 h.col)
  out_ahead c (WaitRow y) a st h =
      absurd (even_lags s.rows c (row_outs s c) (row_of s h.crossing) (row_within s h.crossing h.within) st.1
      h.row)
  out_ahead c (Both y) a st h = (
    subst (RowAhead c) (sym (ahead_only s.rows c (row_outs s c) (row_of s h.crossing) (row_of s y) st.1
        (row_within s h.crossing h.within) h.row)) st.1,
    subst (ColAhead c) (sym (ahead_only s.cols (cols_in c) (col_outs s c) (col_of s h.crossing) (col_of s y)
        st.2 (col_within s h.crossing h.within) h.col)) st.2,
  )

  out_goes : (c : ℕ → ℕ) (q : Spot) (a : ℕ) → Stands c q → (h : OutMay s c a) → Stands c (Both h.crossing)
      × Goes (Both h.crossing) a Idle
  out_goes c q a st h = let k = out_ahead c q a st h in
      ((h.within, k.0, k.1), subst (λ y. Goes (Both h.crossing) y Idle) (sym h.port) (out h.crossing))

  some : (c : ℕ → ℕ) (q : Spot) (a : ℕ) → Stands c q → At c a → Goer c a
  some c q a st (inl h) = row_goer c q a st h
  some c q a st (inr (inl h)) = col_goer c q a st h
  some c q a st (inr (inr h)) = let k = out_goes c q a st h in (Both h.crossing, Idle, k.0, k.1)

  -- ---- and each state after it has one before it

  abbrev Before : (ℕ → ℕ) → ℕ → Spot → Type 0
  Before c a r = (o : Spot) × Stands c o × Goes o a r

  row_before : (c d : ℕ → ℕ) (a : ℕ) (r : Spot) → RowMay s c a → Grew c a d → Stands d r → Before c a r
  row_before c d a r h g = at r
    where
      ahead : RowAhead d a
      ahead = even_enters s.rows c (row_outs s c) d (row_outs s d) a (row_enters c d a h.row g) h.free

      back : Cols Same d c
      back = same_back s.cols (cols_in c) (col_outs s c) (cols_in d) (col_outs s d) (cols_stay c d a h.row g)

      same : (x : ℕ) → RowAhead d (row_of s x) → row_of s x ≡ a
      same x k = sym (ahead_only s.rows d (row_outs s d) a (row_of s x) k h.row
          (ahead_lags s.rows d (row_outs s d) a ahead))

      at : (r : Spot) → Stands d r → Before c a r
      at Idle st = absurd (ahead_even s.rows d (row_outs s d) a ahead st.0)
      at (WaitRow x) st = absurd (ahead_even s.rows d (row_outs s d) a ahead st.1)
      at (WaitCol x) st = (
        Idle,
        (
          h.free,
          even_same s.cols (cols_in d) (col_outs s d) (cols_in c) (col_outs s c) back st.2,
        ),
        subst (λ y. Goes Idle y (WaitCol x)) (same x st.1) (row_first x st.0),
      )
      at (Both x) st = (
        WaitRow x,
        (
          st.0,
          h.free,
          ahead_same s.cols (cols_in d) (col_outs s d) (cols_in c) (col_outs s c) (col_of s x) back st.2,
        ),
        subst (λ y. Goes (WaitRow x) y (Both x)) (same x st.1) (row_second x),
      )

  col_before : (c d : ℕ → ℕ) (a : ℕ) (r : Spot) → ColMay s c a → Grew c a d → Stands d r → Before c a r
  col_before c d a r h g0 = at r
    where
      g : Grew c (s.rows + h.col) d
      g = subst (λ y. Grew c y d) h.port g0

      ahead : ColAhead d h.col
      ahead = even_enters s.cols (cols_in c) (col_outs s c) (cols_in d) (col_outs s d) h.col
          (col_enters c d h.col h.within g) h.free

      back : Rows Same d c
      back = same_back s.rows c (row_outs s c) d (row_outs s d) (rows_stay c d h.col h.within g)

      same : (x : ℕ) → ColAhead d (col_of s x) → col_port x ≡ a
      same x k = ap (λ j. s.rows + j)
          (sym (ahead_only s.cols (cols_in d) (col_outs s d) h.col (col_of s x) k h.within
          (ahead_lags s.cols (cols_in d) (col_outs s d) h.col ahead))) ∙ sym h.port

      at : (r : Spot) → Stands d r → Before c a r
      at Idle st = absurd (ahead_even s.cols (cols_in d) (col_outs s d) h.col ahead st.1)
      at (WaitCol x) st = absurd (ahead_even s.cols (cols_in d) (col_outs s d) h.col ahead st.2)
      at (WaitRow x) st = (
        Idle,
        (even_same s.rows d (row_outs s d) c (row_outs s c) back st.1, h.free),
        subst (λ y. Goes Idle y (WaitRow x)) (same x st.2) (col_first x st.0),
      )
      at (Both x) st = (
        WaitCol x,
        (
          st.0,
          ahead_same s.rows d (row_outs s d) c (row_outs s c) (row_of s x) back st.1,
          h.free,
        ),
        subst (λ y. Goes (WaitCol x) y (Both x)) (same x st.2) (col_second x),
      )

  out_before : (c d : ℕ → ℕ) (q : Spot) (a : ℕ) (r : Spot) → Stands c q → OutMay s c a → Grew c a d
      → Stands d r → Before c a r
  out_before c d q a r st h g0 = at r
    where
      g : Grew c (first_out + h.crossing) d
      g = subst (λ y. Grew c y d) h.port g0

      rows : RowsEven d
      rows = ahead_leaves s.rows c (row_outs s c) d (row_outs s d) (row_of s h.crossing)
          (row_leaves c d h.crossing h.within g) (out_ahead c q a st h).0

      cols : ColsEven d
      cols = ahead_leaves s.cols (cols_in c) (col_outs s c) (cols_in d) (col_outs s d) (col_of s h.crossing)
          (col_leaves c d h.crossing h.within g) (out_ahead c q a st h).1

      at : (r : Spot) → Stands d r → Before c a r
      at Idle k = let o = out_goes c q a st h in (Both h.crossing, o.0, o.1)
      at (WaitCol x) k = absurd (ahead_even s.rows d (row_outs s d) (row_of s x) k.1 rows)
      at (WaitRow x) k = absurd (ahead_even s.cols (cols_in d) (col_outs s d) (col_of s x) k.2 cols)
      at (Both x) k = absurd (ahead_even s.rows d (row_outs s d) (row_of s x) k.1 rows)

  before : (c d : ℕ → ℕ) (q : Spot) (a : ℕ) (r : Spot) → Stands c q → At c a → Grew c a d → Stands d r
      → Before c a r
  before c d q a r st (inl h) g k = row_before c d a r h g k
  before c d q a r st (inr (inl h)) g k = col_before c d a r h g k
  before c d q a r st (inr (inr h)) g k = out_before c d q a r st h g k

  only : (q : Spot) → Stands naught q → q ≡ Idle
  only Idle st = refl
  only (WaitCol x) st = absurd (ahead_even s.rows naught (row_outs s naught) (row_of s x) st.1 begins.0)
  only (WaitRow x) st = absurd (ahead_even s.cols naught (col_outs s naught) (col_of s x) st.2 begins.1)
  only (Both x) st = absurd (ahead_even s.rows naught (row_outs s naught) (row_of s x) st.1 begins.0)

  -- ---- the law

  machine : Machine proc Spot left Goes At Stands Idle
  machine = record {
    begins = refl;
    stands = begins;
    steps = λ q a m k. step_from q (left q) a m k refl refl;
    goes = goes_step;
    sound = sound;
  }

  chosen : Chosen proc Spot left Goes At Stands Idle
  chosen = record { some = some; before = before; only = only }

  whole_proc : IsProc proc
  whole_proc = (
    refl,
    tt,
    choice_full s.rows first_out s.cross
        (let x = some_of_row s 0 s.whole.some_row in omega (arith, x.1)),
  )

  known : (u : List ℕ) (a : ℕ) → At (counts u) a → IsTrue (has_symbol (marks_of_proc proc) a)
  known u a (inl h) =
      let x = some_of_row s a h.row in
      subst (λ y. IsTrue (has_symbol (marks_of_proc proc) y)) x.2
      (choice_has s.rows first_out s.cross x.0 x.1 (input (row_port x.0)) (inl refl))
  known u a (inr (inl h)) =
      let x = some_of_col s h.col h.within in
      subst (λ y. IsTrue (has_symbol (marks_of_proc proc) y)) (ap (λ j. s.rows + j) x.2 ∙ sym h.port)
      (choice_has s.rows first_out s.cross x.0 x.1 (input (col_port x.0)) (inr (inl refl)))
  known u a (inr (inr h)) = subst (λ y. IsTrue (has_symbol (marks_of_proc proc) y)) (sym h.port)
      (choice_has s.rows first_out s.cross h.crossing h.within (output (first_out + h.crossing))
      (inr (inr (inl refl))))

  pub dw_counts : (t : List ℕ) → KindTrace (Dw s) t ↔ KindFollows (Dw s) t
  dw_counts = one_process proc (λ u a. At (counts u) a) known
      (traces_chosen proc Spot left Goes At Stands whole_proc Idle machine chosen)
