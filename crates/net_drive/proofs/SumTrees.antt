-- Trees of sums: a node has the number of set bits at its leaves.
use Rattle.std.proofs.Common.{◌≡◌, ◌≢◌, ◌⊎◌, inl, inr, ℕ, zero, suc, ◌+◌, ◌-◌, ◌*◌, ◌/◌, ◌<◌, ◌≤◌, Bool, true, false, true≢false, not, List, [], ◌∷◌, length, get_or, refl, sym, ap, ◌∙◌, subst, arith, set, get_or-set_same, get_or-set_other}
use mir.Val.{bool_byte}
use Rattle.std.proofs.Math.Bool.{beq}
use Rattle.std.proofs.Math.Nat.{mul-add, mul-one, one-mul, zero-mul, add-mul}
use Rattle.std.proofs.lemmas.Bool.{false≢true, cases_eq}
use Rattle.std.proofs.lemmas.List.{length-set}
use Rattle.net_drive.specs.Bits.{one_if, trues, below, IsNth}
use Rattle.net_drive.specs.Mirror.SumTrees.{two, sum_at, IsSum, IsOff, IsTree, IsTreeBelow, IsAbove}

-- ---- bits

one_if_low : (b : Bool) → one_if b ≤ 1
one_if_low true = omega arith
one_if_low false = omega arith

pub below_all : (bs : List Bool) (n : ℕ) → length bs ≤ n → below bs n ≡ trues bs
below_all [] n h = refl
below_all (b ∷ bs) zero h = absurd (omega (arith, h))
below_all (b ∷ bs) (suc n) h = ap (λ m. one_if b + m) (below_all bs n (omega (arith, h)))

pub below_next : (bs : List Bool) (n : ℕ) → below bs (suc n) ≡ below bs n + one_if (get_or bs n false)
below_next [] n = refl
below_next (b ∷ []) zero = omega arith
below_next (b ∷ c ∷ bs) zero = omega arith
below_next (b ∷ bs) (suc n) = let r = below_next bs n in omega (arith, r)

pub trues_low : (bs : List Bool) → trues bs ≤ length bs
trues_low [] = omega arith
trues_low (b ∷ bs) = omega (arith, one_if_low b, trues_low bs)

-- ---- powers

pub two_some : (h : ℕ) → 0 < two h
two_some zero = omega arith
two_some (suc h) = omega (arith, two_some h)

doubled : (j a : ℕ) → j * (a + a) ≡ j * a + j * a
doubled j a = mul-add j a a

le_times : (j a : ℕ) → 0 < a → j ≤ j * a
le_times j a h =
    let e : a ≡ 1 + (a - 1) = omega arith in
    let d : j * (1 + (a - 1)) ≡ j * 1 + j * (a - 1) = mul-add j 1 (a - 1) in
    let one : j * 1 ≡ j = mul-one j in
    let is : j * a ≡ j * 1 + j * (a - 1) = ap (λ b. j * b) e ∙ d in
    omega (arith, is, one)

some_times : (j a : ℕ) → 0 < j * a → 0 < j
some_times zero a h = absurd (omega (arith, zero-mul a, h))
some_times (suc j) a h = omega arith

once_more : (j a : ℕ) → suc (j + j) * a ≡ a + (j + j) * a
once_more j a =
    let e : suc (j + j) ≡ 1 + (j + j) = omega arith in
    let d : (1 + (j + j)) * a ≡ 1 * a + (j + j) * a = add-mul 1 (j + j) a in
    ap (λ b. b * a) e ∙ d ∙ ap (λ b. b + (j + j) * a) (one-mul a)

-- ---- a tree

below_none : (bs : List Bool) → below bs 0 ≡ 0
below_none [] = refl
below_none (b ∷ bs) = refl

-- the half of a number, and whether it is even
halves : (j : ℕ) → (q : ℕ) × ((j ≡ q + q) ⊎ (j ≡ suc (q + q)))
halves zero = (0, inl refl)
halves (suc j) = by (halves j)
  where
    by : (q : ℕ) × ((j ≡ q + q) ⊎ (j ≡ suc (q + q))) → (q : ℕ) × ((suc j ≡ q + q) ⊎ (suc j ≡ suc (q + q)))
    by (q, inl e) = (q, inr (omega (arith, e)))
    by (q, inr e) = (suc q, inl (omega (arith, e)))

module _ (height : ℕ) (sums : List ℕ) (bits : List Bool) (t : IsTree height sums bits) where
  pub block : (h j lo : ℕ) → lo + two height ≡ j * two h → lo + two h ≤ two height
      → below bits (lo + two h) ≡ below bits lo + sum_at sums j
  block zero j lo e w =
      let is : lo + two height ≡ j = e ∙ mul-one j in
      let leaf = t.leaf lo (omega (arith, w)) in
      let here : two height + lo ≡ j = omega (arith, is) in
      let next : lo + 1 ≡ suc lo = omega arith in
      ap (below bits) next ∙ below_next bits lo ∙ ap (λ m. below bits lo + m) (sym leaf ∙ ap (sum_at sums) here)
  block (suc h) j lo e w =
      let some = two_some h in
      let parts : lo + two height ≡ j * two h + j * two h = e ∙ doubled j (two h) in
      let left : lo + two height ≡ (j + j) * two h = parts ∙ sym (add-mul j j (two h)) in
      let more = once_more j (two h) in
      let right : lo + two h + two height ≡ suc (j + j) * two h = omega (arith, left, more) in
      let first = block h (j + j) lo left (omega (arith, w)) in
      let second = block h (suc (j + j)) (lo + two h) right (omega (arith, w)) in
      let pos = some_times j (two h) (omega (arith, parts, two_some height)) in
      let small : j < two height = omega (arith, le_times j (two h) some, parts, w, some) in
      let sum : sum_at sums j ≡ sum_at sums (j + j) + sum_at sums (suc (j + j)) = t.inner j pos small in
      let same : lo + (two h + two h) ≡ lo + two h + two h = omega arith in
      let all : below bits (lo + two h + two h) ≡ below bits lo + sum_at sums j = omega (arith, first, second, sum) in
      ap (below bits) same ∙ all

  pub root : sum_at sums 1 ≡ trues bits
  root =
      let all = block height 1 0 (omega (arith, one-mul (two height))) (omega arith) in
      let none = below_none bits in
      let is : 0 + two height ≡ two height = omega arith in
      let whole : below bits (0 + two height) ≡ trues bits = ap (below bits) is ∙ below_all bits (two height) t.fits in
      omega (arith, all, none, whole)

  under_root : (k j : ℕ) → 0 < j → j < two k → j < two height + two height → sum_at sums j ≤ sum_at sums 1
  under_root zero j p l w = absurd (omega (arith, p, l))
  under_root (suc k) j p l w = by (under_root k) (halves j)
    where
      above : (q : ℕ) → 0 < q → q + q ≤ j → j ≤ suc (q + q) → sum_at sums j ≤ sum_at sums (q + q) + sum_at sums (suc (q + q))
          → (0 < q → q < two k → q < two height + two height → sum_at sums q ≤ sum_at sums 1) → sum_at sums j ≤ sum_at sums 1
      above q some lo hi at up =
          let sum : sum_at sums q ≡ sum_at sums (q + q) + sum_at sums (suc (q + q)) = t.inner q some (omega (arith, lo, w)) in
          omega (arith, at, sum, up some (omega (arith, lo, l)) (omega (arith, lo, w)))

      by : ((q : ℕ) → 0 < q → q < two k → q < two height + two height → sum_at sums q ≤ sum_at sums 1)
          → (q : ℕ) × ((j ≡ q + q) ⊎ (j ≡ suc (q + q))) → sum_at sums j ≤ sum_at sums 1
      by up (zero, inl e) = absurd (omega (arith, e, p))
      by up (zero, inr e) = omega (arith, ap (sum_at sums) e)
      by up (suc q, inl e) = above (suc q) (omega arith) (omega (arith, e)) (omega (arith, e)) (omega (arith, ap (sum_at sums) e)) (up (suc q))
      by up (suc q, inr e) = above (suc q) (omega arith) (omega (arith, e)) (omega (arith, e)) (omega (arith, ap (sum_at sums) e)) (up (suc q))

  pub sum_low : (j : ℕ) → 0 < j → j < two height + two height → sum_at sums j ≤ length bits
  sum_low j p w = omega (arith, under_root (suc height) j p w w, root, trues_low bits)

  -- ---- the way down

  pub at_root : (before : ℕ) → before < trues bits → IsAbove height sums bits 1 before before
  at_root before less = record {
    high = height;
    first = 0;
    leaves = omega (arith, one-mul (two height));
    within = omega arith;
    so_far = omega (arith, below_none bits);
    more = omega (arith, root, less);
  }

  module _ (node left before : ℕ) (a : IsAbove height sums bits node left before) where
    pub node_some : 0 < node
    node_some = some_times node (two a.high) (omega (arith, a.leaves, two_some height))

    high_some : (h : ℕ) → a.high ≡ h → node < two height → (k : ℕ) × (a.high ≡ suc k)
    high_some zero e less =
        let is : a.first + two height ≡ node * two a.high = a.leaves in
        let one : node * two a.high ≡ node = ap (λ h. node * two h) e ∙ mul-one node in
        absurd (omega (arith, is, one, less))
    high_some (suc k) e less = (k, e)

    pub go_left : (n : ℕ) → n ≡ node * 2 → node < two height → left < sum_at sums n → IsAbove height sums bits n left before
    go_left n is less more = by (high_some a.high refl less)
      where
        by : (k : ℕ) × (a.high ≡ suc k) → IsAbove height sums bits n left before
        by (k, e) =
            let leaves : a.first + two height ≡ node * two k + node * two k = a.leaves ∙ ap (λ h. node * two h) e ∙ doubled node (two k) in
            let twice : n ≡ node + node = is ∙ mul-add node 1 1 ∙ (let o = mul-one node in omega (arith, o)) in
            let sum = add-mul node node (two k) in
            let high : two a.high ≡ two k + two k = ap two e in
            record {
              high = k;
              first = a.first;
              leaves = leaves ∙ sym sum ∙ ap (λ m. m * two k) (sym twice);
              within = omega (arith, a.within, high);
              so_far = a.so_far;
              more = more;
            }

    pub go_right : (n : ℕ) → n ≡ node * 2 → node < two height → sum_at sums n ≤ left
        → IsAbove height sums bits (n + 1) (left - sum_at sums n) before
    go_right n is less many = by (high_some a.high refl less)
      where
        by : (k : ℕ) × (a.high ≡ suc k) → IsAbove height sums bits (n + 1) (left - sum_at sums n) before
        by (k, e) =
            let leaves : a.first + two height ≡ node * two k + node * two k = a.leaves ∙ ap (λ h. node * two h) e ∙ doubled node (two k) in
            let twice : n ≡ node + node = is ∙ mul-add node 1 1 ∙ (let o = mul-one node in omega (arith, o)) in
            let sum = add-mul node node (two k) in
            let high : two a.high ≡ two k + two k = ap two e in
            let within : a.first + (two k + two k) ≤ two height = omega (arith, a.within, high) in
            let front : below bits (a.first + two k) ≡ below bits a.first + sum_at sums n =
            block k n a.first (leaves ∙ sym sum ∙ ap (λ m. m * two k) (sym twice)) (omega (arith, within)) in
            let next : n + 1 ≡ suc (node + node) = omega (arith, twice) in
            let more = once_more node (two k) in
            let parent : sum_at sums node ≡ sum_at sums (node + node) + sum_at sums (suc (node + node)) = t.inner node node_some less in
            let here = ap (sum_at sums) twice in
            let there = ap (sum_at sums) next in
            record {
              high = k;
              first = a.first + two k;
              leaves = (let x : a.first + two k + two height ≡ suc (node + node) * two k = omega (arith, more, sum, leaves) in x) ∙ ap (λ m. m * two k) (sym next);
              within = omega (arith, within);
              so_far = omega (arith, a.so_far, front, many);
              more = omega (arith, a.more, parent, here, there, many);
            }

    pub at_leaf : two height ≤ node → IsNth bits before (node - two height)
    at_leaf past = by a.high refl
      where
        by : (h : ℕ) → a.high ≡ h → IsNth bits before (node - two height)
        by zero e =
            let leaves : a.first + two height ≡ node = a.leaves ∙ ap (λ h. node * two h) e ∙ mul-one node in
            let one : two a.high ≡ 1 = ap two e in
            let is : node - two height ≡ a.first = omega (arith, leaves) in
            let leaf : sum_at sums node ≡ one_if (get_or bits a.first false) =
            ap (sum_at sums) (let x : node ≡ two height + a.first = omega (arith, leaves) in x) ∙ t.leaf a.first (omega (arith, a.within, one)) in
            subst (IsNth bits before) (sym is) (found (get_or bits a.first false) refl (sym leaf))
          where
            found : (b : Bool) → get_or bits a.first false ≡ b → one_if (get_or bits a.first false) ≡ sum_at sums node → IsNth bits before a.first
            found true q leaf = record { on = q; place = omega (arith, a.so_far, a.more, sym leaf ∙ ap one_if q) }
            found false q leaf = absurd (omega (arith, a.more, sym leaf ∙ ap one_if q))
        by (suc k) e =
            let leaves : a.first + two height ≡ node * two k + node * two k = a.leaves ∙ ap (λ h. node * two h) e ∙ doubled node (two k) in
            let high : two a.high ≡ two k + two k = ap two e in
            absurd (omega (arith, leaves, high, a.within, past, le_times node (two k) (two_some k), two_some k))

-- ---- the way up

off_bit : (b on : Bool) → b ≢ on → IsOff on (one_if b) (one_if on)
off_bit true true h = absurd (h refl)
off_bit true false h = refl
off_bit false true h = refl
off_bit false false h = absurd (h refl)

module _ (height : ℕ) (sums : List ℕ) (bits : List Bool) (index : ℕ) (on : Bool) (t : IsTree height sums bits)
    (less : index < length bits) (other : get_or bits index false ≢ on) where
  abbrev leaf_of : ℕ
  leaf_of = two height + index

  abbrev changed : List ℕ
  changed = set sums leaf_of (one_if on)

  here : sum_at changed leaf_of ≡ one_if on
  here = get_or-set_same sums leaf_of (one_if on) 0 (omega (arith, t.size, t.fits, less))

  there : (j : ℕ) → j ≢ leaf_of → sum_at changed j ≡ sum_at sums j
  there j ne = get_or-set_other sums leaf_of j (one_if on) 0 ne

  leaf : (i : ℕ) → i < two height → sum_at changed (two height + i) ≡ one_if (get_or (set bits index on) i false)
  leaf i h = elim (cases_eq i index) [
    | inl e ↦ ap (λ m. sum_at changed (two height + m)) e ∙ here
        ∙ ap one_if (sym (get_or-set_same bits index on false less)) ∙ ap (λ m. one_if (get_or (set bits index on) m false)) (sym e)
    | inr ne ↦ there (two height + i) (omega (arith, ne)) ∙ t.leaf i h ∙ ap one_if (sym (get_or-set_other bits index i on false ne))
  ]

  parent : (j : ℕ) → 0 < j → j < two height → (leaf_of ≡ j + j) ⊎ (leaf_of ≡ suc (j + j))
      → IsOff on (sum_at changed j) (sum_at changed (j + j) + sum_at changed (suc (j + j)))
  parent j p h c =
      let whole : sum_at sums j ≡ sum_at sums (j + j) + sum_at sums (suc (j + j)) = t.inner j p h in
      let same = there j (omega (arith, h)) in
      let bit = t.leaf index (omega (arith, less, t.fits)) in
      let off : one_if on + one_if (get_or bits index false) ≡ one_if (not on) + one_if on = off_bit (get_or bits index false) on other in
      elim c [
        | inl e ↦
            let new = ap (sum_at changed) (sym e) ∙ here in
            let old = ap (sum_at sums) (sym e) ∙ bit in
            let beside = there (suc (j + j)) (omega (arith, e)) in
            omega (arith, whole, same, off, new, old, beside)
        | inr e ↦
            let new = ap (sum_at changed) (sym e) ∙ here in
            let old = ap (sum_at sums) (sym e) ∙ bit in
            let beside = there (j + j) (omega (arith, e)) in
            omega (arith, whole, same, off, new, old, beside)
      ]

  pub put_leaf : IsTreeBelow height changed (set bits index on) leaf_of on
  put_leaf =
      let size = length-set sums leaf_of (one_if on) in
      let long = length-set bits index on in
      record {
        size = omega (arith, size, t.size);
        fits = omega (arith, long, t.fits);
        leaf = leaf;
        some = omega (arith, two_some height);
        inside = omega (arith, t.fits, less);
        low = λ j p h. (let same = there j (omega (arith, h)) in omega (arith, same, long, sum_low height sums bits t j p (omega (arith, h, t.fits, less))));
        inner = λ j p h a b.
            let whole : sum_at sums j ≡ sum_at sums (j + j) + sum_at sums (suc (j + j)) = t.inner j p h in
            let same = there j (omega (arith, h)) in
            let one = there (j + j) (λ e. a (sym e)) in
            let two = there (suc (j + j)) (λ e. b (sym e)) in
            omega (arith, whole, same, one, two);
        parent = parent;
      }

module _ (height : ℕ) (sums : List ℕ) (bits : List Bool) (k : ℕ) (on : Bool) (t : IsTreeBelow height sums bits k on)
    (p : ℕ) (half : (k ≡ p + p) ⊎ (k ≡ suc (p + p))) (some : 0 < p) (new : ℕ) (off : IsOff on (sum_at sums p) new) where
  p_inner : p < two height
  p_inner = elim half [ inl e ↦ omega (arith, e, t.inside) | inr e ↦ omega (arith, e, t.inside) ]

  p_less : p < k
  p_less = elim half [ inl e ↦ omega (arith, e, some) | inr e ↦ omega (arith, e, some) ]

  abbrev raised : List ℕ
  raised = set sums p new

  at_p : sum_at raised p ≡ new
  at_p = get_or-set_same sums p new 0 (omega (arith, p_inner, t.size))

  not_p : (j : ℕ) → j ≢ p → sum_at raised j ≡ sum_at sums j
  not_p j ne = get_or-set_other sums p j new 0 ne

  inner_up : (j : ℕ) → 0 < j → j < two height → p ≢ j + j → p ≢ suc (j + j) → IsSum raised j
  inner_up j pos h a b = elim (cases_eq j p) [
    | inl e ↦
        let is : one_if on + sum_at sums p ≡ one_if (not on) + (sum_at sums (p + p) + sum_at sums (suc (p + p))) = t.parent p some p_inner half in
        let o : one_if on + sum_at sums p ≡ one_if (not on) + new = off in
        let left = not_p (p + p) (omega (arith, some)) in
        let right = not_p (suc (p + p)) (omega (arith, some)) in
        let here = at_p in
        let at : sum_at raised p ≡ sum_at raised (p + p) + sum_at raised (suc (p + p)) = omega (arith, is, o, left, right, here) in
        subst (IsSum raised) (sym e) at
    | inr ne ↦
        let apart : (k ≢ j + j) × (k ≢ suc (j + j)) = elim half [
          | inl e ↦ (omega (arith, e, ne), omega (arith, e))
          | inr e ↦ (omega (arith, e), omega (arith, e, ne))
        ] in
        let whole : sum_at sums j ≡ sum_at sums (j + j) + sum_at sums (suc (j + j)) = t.inner j pos h apart.0 apart.1 in
        let same = not_p j ne in
        let left = not_p (j + j) (λ e. a (sym e)) in
        let right = not_p (suc (j + j)) (λ e. b (sym e)) in
        omega (arith, whole, same, left, right)
  ]

  parent_up : (j : ℕ) → 0 < j → j < two height → (p ≡ j + j) ⊎ (p ≡ suc (j + j))
      → IsOff on (sum_at raised j) (sum_at raised (j + j) + sum_at raised (suc (j + j)))
  parent_up j pos h c =
      let o : one_if on + sum_at sums p ≡ one_if (not on) + new = off in
      let apart : (k ≢ j + j) × (k ≢ suc (j + j)) × (j ≢ p) = elim c [
        | inl e ↦ (omega (arith, e, p_less), elim half [ inl f ↦ omega (arith, e, f, some) | inr f ↦ omega (arith, e, f, some) ], omega (arith, e, pos))
        | inr e ↦ (elim half [ inl f ↦ omega (arith, e, f, some) | inr f ↦ omega (arith, e, f, some) ], omega (arith, e, p_less), omega (arith, e, pos))
      ] in
      let whole : sum_at sums j ≡ sum_at sums (j + j) + sum_at sums (suc (j + j)) = t.inner j pos h apart.0 apart.1 in
      let same = not_p j apart.2 in
      elim c [
        | inl e ↦
            let now = ap (sum_at raised) (sym e) ∙ at_p in
            let was = ap (sum_at sums) (sym e) in
            let beside = not_p (suc (j + j)) (omega (arith, e)) in
            omega (arith, whole, same, o, now, was, beside)
        | inr e ↦
            let now = ap (sum_at raised) (sym e) ∙ at_p in
            let was = ap (sum_at sums) (sym e) in
            let beside = not_p (j + j) (omega (arith, e)) in
            omega (arith, whole, same, o, now, was, beside)
      ]

  pub go_up : IsTreeBelow height raised bits p on
  go_up =
      let size = length-set sums p new in
      record {
        size = omega (arith, size, t.size);
        fits = t.fits;
        leaf = λ i h. not_p (two height + i) (omega (arith, p_inner)) ∙ t.leaf i h;
        some = some;
        inside = omega (arith, p_inner);
        low = λ j pos h. (let same = not_p j (omega (arith, h)) in omega (arith, same, t.low j pos (omega (arith, h, p_less))));
        inner = inner_up;
        parent = parent_up;
      }

-- ---- as the code has it

half_is : (n a : ℕ) → n ≡ a + a → n / 2 ≡ a
half_is n a e = omega (arith, e)

module _ (height : ℕ) (sums : List ℕ) (bits : List Bool) (t : IsTree height sums bits) where
  pub half_size : length sums / 2 ≡ two height
  half_size = half_is (length sums) (two height) t.size

  pub node_less : (node : ℕ) → node < length sums / 2 → node < two height
  node_less node h = omega (arith, half_size, h)

  pub node_past : (node before : ℕ) → (two height ≤ node → IsNth bits before (node - two height))
      → length sums / 2 ≤ node → IsNth bits before (node - length sums / 2)
  node_past node before found h = subst (λ m. IsNth bits before (node - m)) (sym half_size) (found (omega (arith, h, half_size)))

pub read_is : (xs : List ℕ) (i r : ℕ) → i < length xs → r ≡ get_or xs i r → r ≡ get_or xs i 0
read_is [] i r h e = absurd (omega (arith, h))
read_is (x ∷ xs) zero r h e = e
read_is (x ∷ xs) (suc i) r h e = read_is xs i r (omega (arith, h)) e

pub two_more : (h leaves : ℕ) → leaves ≡ two h → leaves * 2 ≡ two (suc h)
two_more h leaves e = omega (arith, e)

differ : (b on : Bool) → beq b on ≡ false → b ≢ on
differ true true h e = true≢false h
differ true false h e = true≢false e
differ false true h e = false≢true e
differ false false h e = true≢false h

pub bit_of : (on : Bool) → bool_byte on ≡ one_if on
bit_of true = refl
bit_of false = refl

pub put_at : (height : ℕ) (sums : List ℕ) (bits : List Bool) (index : ℕ) (on : Bool) → IsTree height sums bits → index < length bits
    → beq (get_or bits index false) on ≡ false → (bit : ℕ) → bit ≡ one_if on
    → IsTreeBelow height (set sums (length sums / 2 + index) bit) (set bits index on) (length sums / 2 + index) on
put_at height sums bits index on t less other bit is =
    let half = half_size height sums bits t in
    subst (λ m. IsTreeBelow height (set sums (m + index) bit) (set bits index on) (m + index) on) (sym half)
    (subst (λ b. IsTreeBelow height (set sums (two height + index) b) (set bits index on) (two height + index) on) (sym is)
    (put_leaf height sums bits index on t less (differ (get_or bits index false) on other)))
