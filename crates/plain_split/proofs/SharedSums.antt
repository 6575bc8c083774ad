-- What is counted of a list of groups.
use Rattle.std.proofs.Common.{◌≡◌, ℕ, ◌+◌, Bool, true, false, cond, filter, List, [], ◌∷◌, ◌++◌, length, map, refl, sym, ap, ◌∙◌, arith, if◌then◌else◌}
use Rattle.std.specs.Prelude.{not, ◌&&◌}
use Rattle.cmd_tree.specs.declared.tree.Sym.{Sym}
use Rattle.basic_kinds.specs.Sorts.{Sort, Iwires, Sources, same_sort, how_many}
use Rattle.basic_kinds.specs.Sums.{Counted, One, Wide, so_many, one_if_wide, wide_sum, total_of}
use Rattle.place_graph.specs.GraphTraces.{numbers_of}
use Rattle.place_graph.specs.Sums.{gate}
use Rattle.plain_split.specs.OneWait.{many, is_some}

abbrev pub bit : Bool → ℕ
bit b = if b then 1 else 0

pub total_append : (sum : Counted → Sort → ℕ) (xs ys : List Counted) (t : Sort) → total_of sum (xs ++ ys) t ≡ total_of sum xs t + total_of sum ys t
total_append sum [] ys t = omega arith
total_append sum (x ∷ xs) ys t = omega (arith, total_append sum xs ys t)

pub so_more : (m n : ℕ) (s t : Sort) → so_many (m + n) s t ≡ so_many m s t + so_many n s t
so_more m n s t = by (same_sort s t)
  where
    by : (b : Bool) → (if b then m + n else 0) ≡ (if b then m else 0) + (if b then n else 0)
    by true = refl
    by false = refl

no_more : (n : ℕ) → 0 + n ≡ n
no_more n = omega arith

pub so_same : (n : ℕ) (s t : Sort) → so_many (0 + n) s t ≡ so_many n s t
so_same n s t = ap (λ k. so_many k s t) (no_more n)

pub so_none : (s t : Sort) → so_many 0 s t ≡ 0
so_none s t = by (same_sort s t)
  where
    by : (b : Bool) → ◌≡◌ {A = ℕ} (cond b 0 0) 0
    by true = refl
    by false = refl

pub wide_long : (xs : List ℕ) → one_if_wide (length xs) ≡ bit (many xs)
wide_long [] = refl
wide_long (x ∷ []) = refl
wide_long (x ∷ y ∷ xs) = refl

pub wide_numbers : (ss : List Sym) → one_if_wide (length ss) ≡ bit (many (numbers_of ss))
wide_numbers [] = refl
wide_numbers (x ∷ []) = refl
wide_numbers (x ∷ y ∷ xs) = refl

-- one each of those that keep a width
pub wide_group : (s t : Sort) (n : ℕ → ℕ) (keeps : ℕ → Bool) (is : List ℕ) → ((i : ℕ) → one_if_wide (n i) ≡ bit (keeps i))
    → total_of wide_sum (map (λ i. Wide s (n i)) is) t ≡ so_many (how_many keeps is) s t
wide_group s t n keeps [] h = omega (arith, so_none s t)
wide_group s t n keeps (i ∷ is) h = omega (arith, so_more (bit (keeps i)) (how_many keeps is) s t, ap (λ k. so_many k s t) (h i), wide_group s t n keeps is h)

pub chosen_group : (s t : Sort) (keeps : ℕ → Bool) (is : List ℕ) → total_of wide_sum (map (λ i. One s) (filter keeps is)) t ≡ so_many (how_many keeps is) s t
chosen_group s t keeps [] = omega (arith, so_none s t)
chosen_group s t keeps (i ∷ is) = by (keeps i) (chosen_group s t keeps is)
  where
    by : (b : Bool) → total_of wide_sum (map (λ i. One s) (filter keeps is)) t ≡ so_many (how_many keeps is) s t
        → total_of wide_sum (map (λ i. One s) (cond b (i ∷ filter keeps is) (filter keeps is))) t ≡ so_many (bit b + how_many keeps is) s t
    by true rest = omega (arith, so_more 1 (how_many keeps is) s t, rest)
    by false rest = rest ∙ sym (so_same (how_many keeps is) s t)

-- an IWIRE or a SOURCE for each that begins
pub gate_group : (entries : ℕ → List ℕ) (begins : ℕ → Bool) (ns : List ℕ) (t : Sort) → total_of wide_sum (map (λ n. gate (entries n)) (filter begins ns)) t
    ≡ so_many (how_many (λ n. begins n && is_some (entries n)) ns) Iwires t + so_many (how_many (λ n. begins n && not (is_some (entries n))) ns) Sources t
gate_group entries begins [] t = omega (arith, so_none Iwires t, so_none Sources t)
gate_group entries begins (n ∷ ns) t = by (begins n) (gate_group entries begins ns t)
  where
    led : (es : List ℕ) → (total_of wide_sum (map (λ n. gate (entries n)) (filter begins ns)) t
        ≡ so_many (how_many (λ n. begins n && is_some (entries n)) ns) Iwires t + so_many (how_many (λ n. begins n && not (is_some (entries n))) ns) Sources t) → wide_sum (gate es) t + total_of wide_sum (map (λ n. gate (entries n)) (filter begins ns)) t
        ≡ so_many (bit (is_some es) + how_many (λ n. begins n && is_some (entries n)) ns) Iwires t + so_many (bit (not (is_some es)) + how_many (λ n. begins n && not (is_some (entries n))) ns) Sources t
    led [] rest = omega (arith, so_more 1 (how_many (λ n. begins n && not (is_some (entries n))) ns) Sources t, so_same (how_many (λ n. begins n && is_some (entries n)) ns) Iwires t, rest)
    led (e ∷ es) rest = omega (arith, so_more 1 (how_many (λ n. begins n && is_some (entries n)) ns) Iwires t, so_same (how_many (λ n. begins n && not (is_some (entries n))) ns) Sources t, rest)

    by : (b : Bool) → (total_of wide_sum (map (λ n. gate (entries n)) (filter begins ns)) t
        ≡ so_many (how_many (λ n. begins n && is_some (entries n)) ns) Iwires t + so_many (how_many (λ n. begins n && not (is_some (entries n))) ns) Sources t) → total_of wide_sum (map (λ n. gate (entries n)) (cond b (n ∷ filter begins ns) (filter begins ns))) t
        ≡ so_many (bit (b && is_some (entries n)) + how_many (λ n. begins n && is_some (entries n)) ns) Iwires t
        + so_many (bit (b && not (is_some (entries n))) + how_many (λ n. begins n && not (is_some (entries n))) ns) Sources t
    by true rest = led (entries n) rest
    by false rest = omega (arith, so_same (how_many (λ n. begins n && is_some (entries n)) ns) Iwires t, so_same (how_many (λ n. begins n && not (is_some (entries n))) ns) Sources t, rest)
