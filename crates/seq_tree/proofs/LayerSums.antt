-- In the end the same two-way components stand for the components of a layer as for its SEQ.
use Rattle.std.proofs.Common.{◌≡◌, ℕ, zero, suc, ◌+◌, ◌*◌, ◌-◌, ◌<◌, ◌≤◌, Bool, true, false, nat_lt, if◌then◌else◌, List, [], ◌∷◌, ◌++◌, map, refl, sym, ap, ◌∙◌, arith}
use Rattle.std.specs.List.{range_with_len, sum_by}
use Rattle.std.proofs.lemmas.Bool.{ltb-true, lt-ltb, le-ltb, cond-true, cond-false}
use Rattle.std.proofs.lemmas.Bool.Decides.{nat_tests}
use Rattle.std.proofs.lemmas.List.Sums.{sum_by-cons, sum_by-append}
use Rattle.basic_kinds.specs.Sorts.{Sort, Forks, Merges, Iwires, Sequencers, same_sort}
use Rattle.basic_kinds.specs.ShapeParts.{half, one_column}
use Rattle.basic_kinds.specs.Sums.{so_many, wait_sum, requests_sum, sequencers_sum, sequencer_sum}
use Rattle.net_core.specs.declared.spec.NodeSpec.TheVariants.{Kind as Basic}
use Rattle.net_core.specs.Renumbering.{sum_of_parts}
use Rattle.net_laws.specs.Charts.{node_of, charted}
use Rattle.two_way.specs.Layers.{two_way_part}
use Rattle.seq_tree.specs.SequencerLayer.{Name, Outer, Inner, Calls, Wait, Returns, Gate, Spread, Share, by_size, size, column_wait, spec_at, group, components, sequencer_chart, sequencer_circuit}
use Rattle.seq_tree.proofs.GroupNumbers.{half_range}

-- ---- a SEQ: more layers than requests add nothing

abbrev Sum : Type 0
Sum = ℕ → Sort → ℕ

-- what a group has beside its SEQ
abbrev beside : ℕ → Sort → ℕ
beside k t = so_many (2 * k) Forks t + (so_many (2 * (k - 1)) Merges t + (so_many 1 Iwires t + wait_sum k 1 (one_column k) t))

requests_same : (f g : Sum) (k : ℕ) (t : Sort) → (2 ≤ k → f k t ≡ g k t) → requests_sum f k t ≡ requests_sum g k t
requests_same f g k t e = by (nat_lt k 2) refl
  where
    by : (b : Bool) → nat_lt k 2 ≡ b → (if b then 0 else f k t + beside k t) ≡ (if b then 0 else g k t + beside k t)
    by true x = refl
    by false x = ap (λ (n : ℕ). n + beside k t) (e (grind (arith, nat_tests)))

abbrev halves : Sum → ℕ → Sort → ℕ
halves f k t = so_many 1 Sequencers t + (if nat_lt 2 k then requests_sum f (half k) t + requests_sum f (k - half k) t else 0)

halves_same : (f g : Sum) (k : ℕ) (t : Sort) → ((j : ℕ) → 2 ≤ j → j < k → f j t ≡ g j t) → halves f k t ≡ halves g k t
halves_same f g k t e = ap (λ (n : ℕ). so_many 1 Sequencers t + n) (by (nat_lt 2 k) refl)
  where
    by : (b : Bool) → nat_lt 2 k ≡ b → (if b then requests_sum f (half k) t + requests_sum f (k - half k) t else 0) ≡ (if b then requests_sum g (half k) t + requests_sum g (k - half k) t else 0)
    by true x =
        let near = half_range k in
        let wide : 2 < k = ltb-true 2 k x in
        let a = requests_same f g (half k) t (λ more. e (half k) more (omega (arith, near.1, wide))) in
        let b = requests_same f g (k - half k) t (λ more. e (k - half k) more (omega (arith, near.0, wide))) in
        λ i. a i + b i
    by false x = refl

sequencers_same : (n m k : ℕ) (t : Sort) → 0 < k → k ≤ n → k ≤ m → sequencers_sum n k t ≡ sequencers_sum m k t
sequencers_same zero m k t some a b = absurd (omega arith)
sequencers_same (suc n) zero k t some a b = absurd (omega arith)
sequencers_same (suc n) (suc m) k t some a b =
    halves_same (sequencers_sum n) (sequencers_sum m) k t (λ j more low. sequencers_same n m j t (omega arith) (omega arith) (omega arith))

sequencer_halves : (k : ℕ) (t : Sort) → 2 < k → sequencer_sum k t ≡ so_many 1 Sequencers t + (requests_sum sequencer_sum (half k) t + requests_sum sequencer_sum (k - half k) t)
sequencer_halves k t wide =
    sequencers_same k (suc k) k t (omega arith) (omega arith) (omega arith)
    ∙ halves_same (sequencers_sum k) sequencer_sum k t (λ j more low. sequencers_same k j j t (omega arith) (omega arith) (omega arith))
    ∙ ap (λ (n : ℕ). so_many 1 Sequencers t + n) (cond-true (nat_lt 2 k) (requests_sum sequencer_sum (half k) t + requests_sum sequencer_sum (k - half k) t) 0 (lt-ltb 2 k wide))

-- ---- lists

sum_map : {A B : Type 0} (f : B → ℕ) (g : A → B) (xs : List A) → sum_by f (map g xs) ≡ sum_by (λ x. f (g x)) xs
sum_map f g [] = refl
sum_map f g (x ∷ xs) = sum_by-cons f (g x) (map g xs) ∙ ap (λ n. f (g x) + n) (sum_map f g xs) ∙ sym (sum_by-cons (λ y. f (g y)) x xs)

sum_row : {A : Type 0} (f : A → ℕ) (v : ℕ → A) (c : ℕ) → ((i : ℕ) → f (v i) ≡ c) → (a n : ℕ) → sum_by f (map v (range_with_len a n)) ≡ n * c
sum_row f v c e a zero = omega arith
sum_row f v c e a (suc n) = sum_by-cons f (v a) (map v (range_with_len (a + 1) n)) ∙ omega (arith, e a, sum_row f v c e (a + 1) n)

sum_by_size : {A : Type 0} (f : A → ℕ) (n : ℕ) (xs : List A) → sum_by f (by_size n [] xs) ≡ by_size n 0 (sum_by f xs)
sum_by_size f zero xs = refl
sum_by_size f (suc zero) xs = refl
sum_by_size f (suc (suc n)) xs = refl

sum_five : {A : Type 0} (f : A → ℕ) (a b c d e : A) (xs : List A) → sum_by f (a ∷ b ∷ c ∷ d ∷ e ∷ xs) ≡ f a + (f b + (f c + (f d + (f e + sum_by f xs))))
sum_five f a b c d e xs =
    sum_by-cons f a (b ∷ c ∷ d ∷ e ∷ xs)
    ∙ omega (arith, sum_by-cons f b (c ∷ d ∷ e ∷ xs), sum_by-cons f c (d ∷ e ∷ xs), sum_by-cons f d (e ∷ xs), sum_by-cons f e xs)

-- ---- a group

twice : (b : Bool) (n : ℕ) → (if b then n else 0) + (if b then n else 0) ≡ (if b then 2 * n else 0)
twice true n = omega arith
twice false n = refl

times : (b : Bool) (n : ℕ) → n * (if b then 1 else 0) ≡ (if b then n else 0)
times true n = omega arith
times false n = omega arith

-- what the components of a group of n requests count
abbrev group_parts : ℕ → Sort → ℕ
group_parts n t = sequencer_sum n t + (so_many (n - 1) Merges t + (two_way_part t (Basic (column_wait n)) + (so_many (n - 1) Merges t + (so_many 1 Iwires t
    + (n * so_many 1 Forks t + n * so_many 1 Forks t)))))

parts_are : (n : ℕ) (t : Sort) → by_size n 0 (group_parts n t) ≡ requests_sum sequencer_sum n t
parts_are zero t = refl
parts_are (suc zero) t = refl
parts_are (suc (suc n)) t =
    let k : ℕ = suc (suc n) in
    let wide : nat_lt k 2 ≡ false = le-ltb k 2 (omega arith) in
    omega (
      arith,
      twice (same_sort Merges t) (k - 1),
      twice (same_sort Forks t) k,
      times (same_sort Forks t) k,
      cond-false (nat_lt k 2) 0 (sequencer_sum k t + beside k t) wide,
    )

module _ (h r : ℕ) (t : Sort) where
  abbrev part : Name → ℕ
  part n = two_way_part t (spec_at h r n)

  group_sum : (j : ℕ) → sum_by part (group j (size h r j)) ≡ requests_sum sequencer_sum (size h r j) t
  group_sum j =
      let n : ℕ = size h r j in
      let spreads : List Name = map (Spread j) (range_with_len 0 n) in
      let shares : List Name = map (Share j) (range_with_len 0 n) in
      let all : sum_by part (Inner j ∷ Calls j ∷ Wait j ∷ Returns j ∷ Gate j ∷ (spreads ++ shares)) ≡ group_parts n t =
      sum_five part (Inner j) (Calls j) (Wait j) (Returns j) (Gate j) (spreads ++ shares)
      ∙ omega (
        arith,
        sum_by-append part spreads shares,
        sum_row part (Spread j) (so_many 1 Forks t) (λ i. refl) 0 n,
        sum_row part (Share j) (so_many 1 Forks t) (λ i. refl) 0 n,
      ) in
      sum_by_size part n (Inner j ∷ Calls j ∷ Wait j ∷ Returns j ∷ Gate j ∷ (spreads ++ shares)) ∙ ap (by_size n 0) all ∙ parts_are n t

  layer_sum : sum_of_parts (two_way_part t) (charted (sequencer_chart h r)) ≡ so_many 1 Sequencers t + (requests_sum sequencer_sum h t + requests_sum sequencer_sum r t)
  layer_sum =
      sum_map (λ x. two_way_part t x.spec) (node_of (sequencer_chart h r)) (components h r)
      ∙ sum_by-cons part Outer (group 0 h ++ group 1 r)
      ∙ omega (arith, sum_by-append part (group 0 h) (group 1 r), group_sum 0, group_sum 1)

pub sums_same : (k : ℕ) → 2 < k → (t : Sort) → sum_of_parts (two_way_part t) (sequencer_circuit k) ≡ sequencer_sum k t
sums_same k wide t = layer_sum (half k) (k - half k) t ∙ sym (sequencer_halves k t wide)
