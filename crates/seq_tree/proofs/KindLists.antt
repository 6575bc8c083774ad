-- The rules of the kinds in a layer of a SEQ, by the lists of their wires.
use Rattle.std.proofs.Common.{◌≡◌, ◌↔◌, ℕ, zero, suc, ◌+◌, ◌-◌, ◌<◌, ◌==◌, if◌then◌else◌, List, [], ◌∷◌, ◌++◌, map, length, get_or, ◌⊎◌, inl, inr, refl, sym, ap, subst, ◌∙◌, arith, length-append, eq-eqb, ne_eqb}
use Rattle.std.specs.Prelude.{slice_index_or}
use Rattle.std.specs.List.{range_with_len}
use Rattle.std.proofs.lemmas.List.{get_or_append_left, get_or-append_right, get_or-map, length-map}
use Rattle.std.proofs.lemmas.List.FromFn.{length-map-range_with_len, get_or-map-range_with_len}
use Rattle.cmd_tree.specs.Rounds.{RoundsAt}
use Rattle.basic_kinds.specs.declared.shape.Shape.{Shape}
use Rattle.basic_kinds.specs.declared.kind.Kind.TheVariants.{Iwire, Fork, Merge, Dw, Seq}
use Rattle.basic_kinds.specs.KindCounts.{KindAt, Crosses, row_of, col_of, row_outs, col_outs, grants_in}
use Rattle.basic_kinds.specs.ShapeParts.{one_column}
use Rattle.basic_kinds.specs.Totals.{total}
use Rattle.basic_kinds.proofs.Totals.{total_same, total_at, total_split}
use Rattle.net_laws.proofs.Among.{Among, among_at, at_among}
use Rattle.net_laws.proofs.Rows.{row}
use Rattle.net_laws.proofs.KindRules.{KindOn}
use Rattle.seq_tree.specs.ColumnShape.{is_column}
use Rattle.seq_tree.specs.SequencerLayer.{column_wait}

-- ---- sums over lists

abbrev pub summed : {A : Type 0} → (A → ℕ) → List A → ℕ
summed f [] = 0
summed f (x ∷ xs) = f x + summed f xs

total_one : (u : ℕ → ℕ) → total 1 u ≡ u 0
unfolding total
total_one u = omega arith

pub summed_places : {A : Type 0} (d : A) (f : A → ℕ) (xs : List A) → total (length xs) (λ i. f (get_or xs i d)) ≡ summed f xs
unfolding total
summed_places d f [] = refl
summed_places d f (x ∷ xs) =
    let e : suc (length xs) ≡ 1 + length xs = omega arith in
    ap (λ n. total n (λ i. f (get_or (x ∷ xs) i d))) e ∙ total_split 1 (length xs) (λ i. f (get_or (x ∷ xs) i d))
    ∙ omega (
      arith,
      total_one (λ i. f (get_or (x ∷ xs) i d)),
      total_same (length xs) (λ j. f (get_or (x ∷ xs) (1 + j) d)) (λ j. f (get_or xs j d))
          (λ j l. ap (λ q. f (get_or (x ∷ xs) q d)) (let z : 1 + j ≡ suc j = omega arith in z)),
      summed_places d f xs,
    )

-- ---- a FORK of two, an IWIRE and a MERGE

module _ {W : Type 0} (b : W) (e : W → ℕ) (w : W) where
  abbrev pub ForkOn : W → W → W → Type 0
  ForkOn a x y = ((w ≡ a) × (e a ≡ e x) × (e a ≡ e y)) ⊎ (((w ≡ x) × (e x < e a)) ⊎ ((w ≡ y) × (e y < e a)))

  pub fork_on : (a x y : W) → KindOn (Fork 2) (a ∷ x ∷ y ∷ []) b e w ↔ ForkOn a x y
  fork_on a x y = ((λ h. there h.0 h.1 h.2 h.3), back)
    where
      count : ℕ → ℕ
      count q = e (get_or (a ∷ x ∷ y ∷ []) q b)

      there : (p : ℕ) → p < 3 → w ≡ get_or (a ∷ x ∷ y ∷ []) p b → RoundsAt 1 2 (λ q. e (get_or (a ∷ x ∷ y ∷ []) q b)) p → ForkOn a x y
      there zero low is (inl (l, f)) = inl (is, f 0 (omega arith), f 1 (omega arith))
      there zero low is (inr (l, m, f)) = absurd (omega arith)
      there (suc zero) low is (inl (l, f)) = absurd (omega arith)
      there (suc zero) low is (inr (l, m, f)) = inr (inl (is, f 0 (omega arith)))
      there (suc (suc zero)) low is (inl (l, f)) = absurd (omega arith)
      there (suc (suc zero)) low is (inr (l, m, f)) = inr (inr (is, f 0 (omega arith)))
      there (suc (suc (suc p))) low is r = absurd (omega arith)

      both : e a ≡ e x → e a ≡ e y → (j : ℕ) → j < 2 → e a ≡ e (get_or (a ∷ x ∷ y ∷ []) (1 + j) b)
      both f g zero low = f
      both f g (suc zero) low = g
      both f g (suc (suc j)) low = absurd (omega arith)

      one : (c d : W) → e d < e a → (i : ℕ) → i < 1 → e d < e (get_or (a ∷ x ∷ y ∷ []) i b)
      one c d f zero low = f
      one c d f (suc i) low = absurd (omega arith)

      back : ForkOn a x y → KindOn (Fork 2) (a ∷ x ∷ y ∷ []) b e w
      back (inl (is, f, g)) = (0, omega arith, is, inl (omega arith, both f g))
      back (inr (inl (is, f))) = (1, omega arith, is, inr (omega arith, omega arith, one a x f))
      back (inr (inr (is, f))) = (2, omega arith, is, inr (omega arith, omega arith, one a y f))

  abbrev pub IwireOn : W → W → Type 0
  IwireOn a x = ((w ≡ x) × (e x ≡ e a)) ⊎ ((w ≡ a) × (e a < e x))

  pub iwire_on : (a x : W) → KindOn Iwire (a ∷ x ∷ []) b e w ↔ IwireOn a x
  iwire_on a x = ((λ h. there h.0 h.2 h.3), back)
    where
      there : (p : ℕ) → w ≡ get_or (a ∷ x ∷ []) p b → KindAt Iwire (λ q. e (get_or (a ∷ x ∷ []) q b)) p → IwireOn a x
      there p is (inl (z, f)) = inl (is ∙ ap (λ q. get_or (a ∷ x ∷ []) q b) z, f)
      there p is (inr (z, f)) = inr (is ∙ ap (λ q. get_or (a ∷ x ∷ []) q b) z, f)

      back : IwireOn a x → KindOn Iwire (a ∷ x ∷ []) b e w
      back (inl (is, f)) = (1, omega arith, is, inl (refl, f))
      back (inr (is, f)) = (0, omega arith, is, inr (refl, f))

  abbrev pub MergeOn : List W → W → Type 0
  MergeOn ins o = (Among w ins × (summed e ins ≡ e o)) ⊎ ((w ≡ o) × (e o < summed e ins))

  module _ (ins : List W) (o : W) (n : ℕ) (long : length ins ≡ n) where
    abbrev at_port : ℕ → W
    at_port q = get_or (ins ++ o ∷ []) q b

    in_is : (i : ℕ) → i < n → at_port i ≡ get_or ins i b
    in_is i low = get_or_append_left ins (o ∷ []) b i (omega (arith, low, long))

    out_is : at_port n ≡ o
    out_is = get_or-append_right ins (o ∷ []) n n b long (omega arith) ∙ ap (λ q. get_or (o ∷ []) q b) (let z : n - n ≡ 0 = omega arith in z)

    sum_is : total n (λ q. e (at_port q)) ≡ summed e ins
    sum_is = total_same n (λ q. e (at_port q)) (λ q. e (get_or ins q b)) (λ i low. ap e (in_is i low)) ∙ ap (λ m. total m (λ q. e (get_or ins q b))) (sym long) ∙ summed_places b e ins

    pub merge_on : KindOn (Merge n) (ins ++ o ∷ []) b e w ↔ MergeOn ins o
    merge_on = ((λ h. there h.0 h.2 h.3), back)
      where
        there : (p : ℕ) → w ≡ at_port p → KindAt (Merge n) (λ q. e (at_port q)) p → MergeOn ins o
        there p is (inl (low, f)) = inl (subst (λ u. Among u ins) (sym (is ∙ in_is p low)) (at_among b ins p (omega (arith, low, long))), sym sum_is ∙ f ∙ ap e out_is)
        there p is (inr (z, f)) = inr (is ∙ ap at_port z ∙ out_is, omega (arith, f, ap e out_is, sum_is))

        back : MergeOn ins o → KindOn (Merge n) (ins ++ o ∷ []) b e w
        back (inl (a, f)) =
            let (i, low, at) = among_at b w ins a in
            let near : i < n = omega (arith, low, long) in
            (i, omega (arith, near, long, length-append ins (o ∷ [])), sym at ∙ sym (in_is i near), inl (near, sum_is ∙ f ∙ ap e (sym out_is)))
        back (inr (is, f)) = (n, omega (arith, long, length-append ins (o ∷ [])), is ∙ sym out_is, inr (refl, omega (arith, f, ap e out_is, sum_is)))

  -- ---- a SEQ, from the pairs of a request and its grant

  abbrev pub SeqOn : List (W × W) → W → Type 0
  SeqOn ps t =
      ((p : W × W) × Among p ps × (w ≡ p.0) × (e p.0 ≡ e p.1))
      ⊎ (((w ≡ t) × (e t ≡ summed (λ p. e p.1) ps)) ⊎ ((p : W × W) × Among p ps × (w ≡ p.1) × (e p.1 < e p.0) × (summed (λ p. e p.1) ps < e t)))

  module _ (ps : List (W × W)) (t : W) (n : ℕ) (long : length ps ≡ n) where
    abbrev firsts : List W
    firsts = map (λ (p : W × W). p.0) ps

    abbrev seconds : List W
    seconds = map (λ (p : W × W). p.1) ps

    abbrev seat : ℕ → W
    seat q = get_or (firsts ++ t ∷ seconds) q b

    abbrev pair : ℕ → W × W
    pair i = get_or ps i (b, b)

    firsts_long : length firsts ≡ n
    firsts_long = length-map {A = W × W} ps (λ (p : W × W). p.0) ∙ long

    seconds_long : length seconds ≡ n
    seconds_long = length-map {A = W × W} ps (λ (p : W × W). p.1) ∙ long

    all_long : length (firsts ++ t ∷ seconds) ≡ n + 1 + n
    all_long = length-append firsts (t ∷ seconds) ∙ omega (arith, firsts_long, seconds_long)

    first_is : (i : ℕ) → i < n → seat i ≡ (pair i).0
    first_is i low =
        get_or_append_left firsts (t ∷ seconds) b i (omega (arith, low, firsts_long)) ∙ get_or-map (λ (p : W × W). p.0) ps i (b, b) b (omega (arith, low, long))

    token_is : seat n ≡ t
    token_is = get_or-append_right firsts (t ∷ seconds) n n b firsts_long (omega arith) ∙ ap (λ q. get_or (t ∷ seconds) q b) (let z : n - n ≡ 0 = omega arith in z)

    second_is : (i : ℕ) → i < n → seat (n + 1 + i) ≡ (pair i).1
    second_is i low =
        get_or-append_right firsts (t ∷ seconds) n (n + 1 + i) b firsts_long (omega arith)
        ∙ ap (λ q. get_or (t ∷ seconds) q b) (let z : n + 1 + i - n ≡ suc i = omega arith in z)
        ∙ get_or-map (λ (p : W × W). p.1) ps i (b, b) b (omega (arith, low, long))

    grants_are : grants_in n (λ q. e (seat q)) ≡ summed (λ (p : W × W). e p.1) ps
    grants_are =
        total_same n (λ i. e (seat (n + 1 + i))) (λ i. e (pair i).1) (λ i low. ap e (second_is i low))
        ∙ ap (λ m. total m (λ i. e (pair i).1)) (sym long) ∙ summed_places (b, b) (λ (p : W × W). e p.1) ps

    pair_in : (i : ℕ) → i < n → Among (pair i) ps
    pair_in i low = at_among (b, b) ps i (omega (arith, low, long))

    pub seq_on : KindOn (Seq n) (firsts ++ t ∷ seconds) b e w ↔ SeqOn ps t
    seq_on = ((λ h. there h.0 h.2 h.3), back)
      where
        there : (p : ℕ) → w ≡ seat p → KindAt (Seq n) (λ q. e (seat q)) p → SeqOn ps t
        there p is (inl (low, f)) = inl (pair p, pair_in p low, is ∙ first_is p low, sym (ap e (first_is p low)) ∙ f ∙ ap e (second_is p low))
        there p is (inr (inl (z, f))) = inr (inl (is ∙ ap seat z ∙ token_is, sym (ap e token_is) ∙ f ∙ grants_are))
        there p is (inr (inr g)) =
            let i : ℕ = g.request in
            let at : seat p ≡ (pair i).1 = ap seat g.port ∙ second_is i g.within in
            inr (inr (
              pair i,
              pair_in i g.within,
              is ∙ at,
              omega (arith, g.waits, ap e at, ap e (first_is i g.within)),
              omega (arith, g.token, grants_are, ap e token_is),
            ))

        back : SeqOn ps t → KindOn (Seq n) (firsts ++ t ∷ seconds) b e w
        back (inl (p, a, is, f)) =
            let (i, low, at) = among_at (b, b) p ps a in
            let near : i < n = omega (arith, low, long) in
            let same : p ≡ pair i = sym at in (
              i,
              omega (arith, near, all_long),
              is ∙ ap (λ (q : W × W). q.0) same ∙ sym (first_is i near),
              inl (near, ap e (first_is i near) ∙ subst (λ (q : W × W). e q.0 ≡ e q.1) same f ∙ ap e (sym (second_is i near))),
            )
        back (inr (inl (is, f))) = (n, omega (arith, all_long), is ∙ sym token_is, inr (inl (refl, ap e token_is ∙ f ∙ sym grants_are)))
        back (inr (inr (p, a, is, f, g))) =
            let (i, low, at) = among_at (b, b) p ps a in
            let near : i < n = omega (arith, low, long) in
            let same : p ≡ pair i = sym at in
            let less : e (pair i).1 < e (pair i).0 = subst (λ (q : W × W). e q.1 < e q.0) same f in (
              n + 1 + i,
              omega (arith, near, all_long),
              is ∙ ap (λ (q : W × W). q.1) same ∙ sym (second_is i near),
              inr (inr (record {
                request = i;
                port = refl;
                within = near;
                waits = omega (arith, less, ap e (first_is i near), ap e (second_is i near));
                token = omega (arith, g, grants_are, ap e token_is);
              })),
            )

-- ---- a DW of one column

cross_at : (a n x : ℕ) → x < n → ◌≡◌ {A = ℕ × ℕ} (slice_index_or (map (λ (i : ℕ). (i, 0)) (range_with_len a n)) x (0, 0)) (a + x, 0)
cross_at a zero x low = absurd (omega arith)
cross_at a (suc n) zero low = ap {B = ℕ × ℕ} (λ (i : ℕ). (i, 0)) (let z : a ≡ a + 0 = omega arith in z)
cross_at a (suc n) (suc x) low = cross_at (a + 1) n x (omega arith) ∙ ap {B = ℕ × ℕ} (λ (i : ℕ). (i, 0)) (let z : a + 1 + x ≡ a + suc x = omega arith in z)

abbrev column : ℕ → Shape
column m = record { rows = suc m; cols = 1; cross = one_column (suc m); whole = is_column m }

row_is : (m x : ℕ) → x < suc m → row_of (column m) x ≡ x
row_is m x low = ap (λ (p : ℕ × ℕ). p.0) (cross_at 0 (suc m) x low) ∙ (let z : 0 + x ≡ x = omega arith in z)

col_is : (m x : ℕ) → x < suc m → col_of (column m) x ≡ 0
col_is m x low = ap (λ (p : ℕ × ℕ). p.1) (cross_at 0 (suc m) x low)

cross_long : (m : ℕ) → length (one_column (suc m)) ≡ suc m
cross_long m = length-map-range_with_len {X = ℕ × ℕ} (λ (i : ℕ). (i, 0)) 0 (suc m)

row_sum : (m : ℕ) (c : ℕ → ℕ) (i : ℕ) → i < suc m → row_outs (column m) c i ≡ c (suc m + 1 + i)
row_sum m c i low =
    ap (λ n. total n (λ x. if row_of (column m) x == i then c (suc m + 1 + x) else 0)) (cross_long m)
    ∙ total_at (suc m) (λ x. if row_of (column m) x == i then c (suc m + 1 + x) else 0) i low
    (λ x near other. ap (λ b. if b then c (suc m + 1 + x) else 0) (ne_eqb (row_of (column m) x) i (λ z. other (sym (row_is m x near) ∙ z))))
    ∙ ap (λ b. if b then c (suc m + 1 + i) else 0) (eq-eqb (row_of (column m) i) i (row_is m i low))

col_sum : (m : ℕ) (c : ℕ → ℕ) → col_outs (column m) c 0 ≡ total (suc m) (λ x. c (suc m + 1 + x))
col_sum m c =
    ap (λ n. total n (λ x. if col_of (column m) x == 0 then c (suc m + 1 + x) else 0)) (cross_long m)
    ∙ total_same (suc m) (λ x. if col_of (column m) x == 0 then c (suc m + 1 + x) else 0) (λ x. c (suc m + 1 + x))
    (λ x near. ap (λ b. if b then c (suc m + 1 + x) else 0) (eq-eqb (col_of (column m) x) 0 (col_is m x near)))

crosses : (m i j : ℕ) → i < suc m → j < 1 → Crosses (column m) i j
crosses m i j low near = (i, omega (arith, low, cross_long m), row_is m i low, col_is m i low ∙ (let z : 0 ≡ j = omega arith in z))

module _ {W : Type 0} (b : W) (e : W → ℕ) (w : W) where
  abbrev pub WaitOn : ℕ → (ℕ → W) → W → (ℕ → W) → Type 0
  WaitOn n v c u =
      ((i : ℕ) × (i < n) × (w ≡ v i) × ((j : ℕ) → j < n → e (v j) ≡ e (u j)))
      ⊎ (((w ≡ c) × (e c ≡ total n (λ i. e (u i)))) ⊎ ((i : ℕ) × (i < n) × (w ≡ u i) × (e (u i) < e (v i)) × (total n (λ j. e (u j)) < e c)))

  module _ (m : ℕ) (v : ℕ → W) (c : W) (u : ℕ → W) where
    abbrev n : ℕ
    n = suc m

    abbrev port : ℕ → W
    port q = get_or (row v n ++ c ∷ row u n) q b

    rows_long : (f : ℕ → W) → length (row f n) ≡ n
    rows_long f = length-map-range_with_len f 0 n

    row_at : (f : ℕ → W) (i : ℕ) → i < n → get_or (row f n) i b ≡ f i
    row_at f i low = get_or-map-range_with_len f 0 n i i b low (omega arith)

    ports_long : length (row v n ++ c ∷ row u n) ≡ n + 1 + n
    ports_long = length-append (row v n) (c ∷ row u n) ∙ omega (arith, rows_long v, rows_long u)

    in_at : (i : ℕ) → i < n → port i ≡ v i
    in_at i low = get_or_append_left (row v n) (c ∷ row u n) b i (omega (arith, low, rows_long v)) ∙ row_at v i low

    mid_at : (j : ℕ) → j < 1 → port (n + j) ≡ c
    mid_at j low =
        get_or-append_right (row v n) (c ∷ row u n) n (n + j) b (rows_long v) (omega arith) ∙ ap (λ q. get_or (c ∷ row u n) q b) (let z : n + j - n ≡ 0 = omega arith in z)

    out_at : (i : ℕ) → i < n → port (n + 1 + i) ≡ u i
    out_at i low =
        get_or-append_right (row v n) (c ∷ row u n) n (n + 1 + i) b (rows_long v) (omega arith)
        ∙ ap (λ q. get_or (c ∷ row u n) q b) (let z : n + 1 + i - n ≡ suc i = omega arith in z) ∙ row_at u i low

    abbrev count : ℕ → ℕ
    count q = e (port q)

    outs_at_row : (i : ℕ) → i < n → row_outs (column m) count i ≡ e (u i)
    outs_at_row i low = row_sum m count i low ∙ ap e (out_at i low)

    outs_at_column : col_outs (column m) count 0 ≡ total n (λ i. e (u i))
    outs_at_column = col_sum m count ∙ total_same n (λ x. count (n + 1 + x)) (λ i. e (u i)) (λ i low. ap e (out_at i low))

    pub wait_on : KindOn (column_wait n) (row v n ++ c ∷ row u n) b e w ↔ WaitOn n v c u
    wait_on = ((λ h. there h.0 h.2 h.3), back)
      where
        there : (p : ℕ) → w ≡ port p → KindAt (Dw (column m)) count p → WaitOn n v c u
        there p is (inl r) = inl (
          p,
          r.row,
          is ∙ in_at p r.row,
          λ j low. sym (ap e (in_at j low)) ∙ r.free j low ∙ outs_at_row j low,
        )
        there p is (inr (inl r)) =
            let j : ℕ = r.col in
            let z : j ≡ 0 = omega (arith, r.within) in
            let at : port p ≡ c = ap port r.port ∙ mid_at j r.within in
            inr (inl (is ∙ at, sym (ap e (mid_at 0 (omega arith))) ∙ r.free 0 (omega arith) ∙ outs_at_column))
        there p is (inr (inr r)) =
            let x : ℕ = r.crossing in
            let low : x < n = omega (arith, r.within, cross_long m) in
            let at : port p ≡ u x = ap port r.port ∙ out_at x low in
            let of_row : row_of (column m) x ≡ x = row_is m x low in
            let of_col : col_of (column m) x ≡ 0 = col_is m x low in
            let row_waits : row_outs (column m) count x < count x = subst (λ i. row_outs (column m) count i < count i) of_row r.row in
            let col_waits : col_outs (column m) count 0 < count (n + 0) = subst (λ i. col_outs (column m) count i < count (n + i)) of_col r.col in
            inr (inr (
              x,
              low,
              is ∙ at,
              omega (arith, row_waits, outs_at_row x low, ap e (in_at x low)),
              omega (arith, col_waits, outs_at_column, ap e (mid_at 0 (omega arith))),
            ))

        back : WaitOn n v c u → KindOn (column_wait n) (row v n ++ c ∷ row u n) b e w
        back (inl (i, low, is, f)) = (
          i,
          omega (arith, low, ports_long),
          is ∙ sym (in_at i low),
          inl (record {
            row = low;
            free = λ j near. ap e (in_at j near) ∙ f j near ∙ sym (outs_at_row j near);
            meets = λ j near pends. crosses m i j low near;
          }),
        )
        back (inr (inl (is, f))) = (
          n + 0,
          omega (arith, ports_long),
          is ∙ sym (mid_at 0 (omega arith)),
          inr (inl (record {
            col = 0;
            port = refl;
            within = omega arith;
            free = λ j near. let z : 0 ≡ j = omega arith in
                subst (λ k. count (n + k) ≡ col_outs (column m) count k) z (ap e (mid_at 0 (omega arith)) ∙ f ∙ sym outs_at_column);
            meets = λ i near pends. crosses m i 0 near (omega arith);
          })),
        )
        back (inr (inr (i, low, is, f, g))) = (
          n + 1 + i,
          omega (arith, low, ports_long),
          is ∙ sym (out_at i low),
          inr (inr (record {
            crossing = i;
            port = refl;
            within = omega (arith, low, cross_long m);
            row = subst (λ k. row_outs (column m) count k < count k) (sym (row_is m i low)) (omega (arith, f, outs_at_row i low, ap e (in_at i low)));
            col = subst (λ k. col_outs (column m) count k < count (n + k)) (sym (col_is m i low)) (omega (arith, g, outs_at_column, ap e (mid_at 0 (omega arith))));
          })),
        )
