-- A FORK, a C and a MERGE alike: one port on the narrow side, n ports on the wide side, and for each side what the counts must be
-- where a port of it comes next.
use Rattle.std.proofs.Common.{◌≡◌, ◌↔◌, ℕ, zero, suc, ◌+◌, ◌-◌, ◌<◌, List, [], ◌∷◌, ◌++◌, length, get_or, ◌⊎◌, inl, inr, refl, sym, ap, ◌∙◌, arith, length-append}
use Rattle.std.proofs.lemmas.List.{get_or_append_left, get_or-append_right}
use Rattle.cmd_tree.specs.Rounds.{RoundsAt}
use Rattle.basic_kinds.specs.Totals.{total}
use Rattle.basic_kinds.proofs.Totals.{total_same}
use Rattle.basic_kinds.specs.declared.kind.Kind.{Kind}
use Rattle.basic_kinds.specs.declared.kind.Kind.TheVariants.{Fork, C, Merge}
use Rattle.basic_kinds.specs.KindCounts.{KindAt}
use Rattle.net_laws.proofs.KindRules.{KindOn}

-- x is the count of the narrow port, f those of the wide ports, y that of the wide port that comes
abbrev pub ForkNarrow : ℕ → ℕ → (ℕ → ℕ) → Type 0
ForkNarrow n x f = (j : ℕ) → j < n → x ≡ f j

abbrev pub ForkWide : ℕ → ℕ → (ℕ → ℕ) → ℕ → Type 0
ForkWide n x f y = y < x

abbrev pub JoinNarrow : ℕ → ℕ → (ℕ → ℕ) → Type 0
JoinNarrow n x f = (i : ℕ) → i < n → x < f i

abbrev pub JoinWide : ℕ → ℕ → (ℕ → ℕ) → ℕ → Type 0
JoinWide n x f y = y ≡ x

abbrev pub MergeNarrow : ℕ → ℕ → (ℕ → ℕ) → Type 0
MergeNarrow n x f = x < total n f

abbrev pub MergeWide : ℕ → ℕ → (ℕ → ℕ) → ℕ → Type 0
MergeWide n x f y = total n f ≡ x

-- they look at the n wide ports alone
pub record Looks (Narrow : ℕ → ℕ → (ℕ → ℕ) → Type 0) (Wide : ℕ → ℕ → (ℕ → ℕ) → ℕ → Type 0) : Type 0 where
  pub narrow : (n x z : ℕ) (f g : ℕ → ℕ) → x ≡ z → ((i : ℕ) → i < n → f i ≡ g i) → Narrow n x f → Narrow n z g
  pub wide : (n x z : ℕ) (f g : ℕ → ℕ) (y v : ℕ) → x ≡ z → ((i : ℕ) → i < n → f i ≡ g i) → y ≡ v → Wide n x f y → Wide n z g v

pub fork_looks : Looks ForkNarrow ForkWide
fork_looks = record {
  narrow = λ n x z f g e h k. λ j y. sym e ∙ k j y ∙ h j y;
  wide = λ n x z f g y v e h i k. omega arith;
}

pub join_looks : Looks JoinNarrow JoinWide
join_looks = record {
  narrow = λ n x z f g e h k. λ i y. omega (arith, k i y, h i y);
  wide = λ n x z f g y v e h i k. sym i ∙ k ∙ e;
}

pub merge_looks : Looks MergeNarrow MergeWide
merge_looks = record {
  narrow = λ n x z f g e h k. omega (arith, total_same n f g h);
  wide = λ n x z f g y v e h i k. sym (total_same n f g h) ∙ k ∙ e;
}

-- The wire w may come next, where x is the wire at the narrow port and ws are those at the wide ports.
abbrev pub FanOn : {W : Type 0} → (ℕ → ℕ → (ℕ → ℕ) → Type 0) → (ℕ → ℕ → (ℕ → ℕ) → ℕ → Type 0) → ℕ → W → List W → W → (W → ℕ) → W → Type 0
FanOn Narrow Wide n x ws b e w =
    ((w ≡ x) × Narrow n (e x) (λ i. e (get_or ws i b)))
    ⊎ ((i : ℕ) × (i < n) × (w ≡ get_or ws i b) × Wide n (e x) (λ i. e (get_or ws i b)) (e w))

module _ {W : Type 0} (x : W) (ws : List W) (b : W) (n : ℕ) (long : length ws ≡ n) (e : W → ℕ) (w : W) where
  abbrev fork_count : ℕ → ℕ
  fork_count q = e (get_or (x ∷ ws) q b)

  pub fork_kind : KindOn (Fork n) (x ∷ ws) b e w ↔ FanOn ForkNarrow ForkWide n x ws b e w
  fork_kind = ((λ h. there h.0 h.1 h.2 h.3), back)
    where
      there : (p : ℕ) → p < length (x ∷ ws) → w ≡ get_or (x ∷ ws) p b → RoundsAt 1 n fork_count p → FanOn ForkNarrow ForkWide n x ws b e w
      there zero low is (inl (l, f)) = inl (is, λ j y. f j y ∙ ap fork_count (let z : 1 + j ≡ suc j = omega arith in z))
      there zero low is (inr (l, m, f)) = absurd (omega arith)
      there (suc q) low is (inl (l, f)) = absurd (omega arith)
      there (suc q) low is (inr (l, m, f)) = inr (q, omega arith, is, omega (arith, ap e is, f 0 (omega arith)))

      back : FanOn ForkNarrow ForkWide n x ws b e w → KindOn (Fork n) (x ∷ ws) b e w
      back (inl (is, f)) = (0, omega arith, is, inl (omega arith, λ j y. f j y ∙ ap fork_count (let z : suc j ≡ 1 + j = omega arith in z)))
      back (inr (i, l, is, less)) =
          (suc i, omega arith, is, inr (omega arith, omega arith, λ o y. let z : o ≡ 0 = omega arith in omega (arith, ap e is, less, ap fork_count z)))

-- a kind that gathers: its inputs are its wide side, its output is the narrow one
abbrev pub GatherAt : (ℕ → ℕ → (ℕ → ℕ) → Type 0) → (ℕ → ℕ → (ℕ → ℕ) → ℕ → Type 0) → ℕ → (ℕ → ℕ) → ℕ → Type 0
GatherAt Narrow Wide n c p = ((p ≡ n) × Narrow n (c n) c) ⊎ ((p < n) × Wide n (c n) c (c p))

pub join_at : (n : ℕ) (c : ℕ → ℕ) (p : ℕ) → KindAt (C n) c p ↔ GatherAt JoinNarrow JoinWide n c p
join_at n c p = (there, back)
  where
    there : RoundsAt n 1 c p → GatherAt JoinNarrow JoinWide n c p
    there (inl (x, f)) = inr (x, f 0 (omega arith) ∙ ap c (let z : n + 0 ≡ n = omega arith in z))
    there (inr (x, y, f)) = let z : p ≡ n = omega arith in inl (z, λ i l. omega (arith, ap c z, f i l))

    back : GatherAt JoinNarrow JoinWide n c p → RoundsAt n 1 c p
    back (inl (z, f)) = inr (omega arith, omega arith, λ i l. omega (arith, ap c z, f i l))
    back (inr (x, e)) = inl (x, λ j y. e ∙ ap c (let z : n ≡ n + j = omega arith in z))

pub merge_at : (n : ℕ) (c : ℕ → ℕ) (p : ℕ) → KindAt (Merge n) c p ↔ GatherAt MergeNarrow MergeWide n c p
merge_at n c p = (there, back)
  where
    there : ((p < n) × (total n c ≡ c n)) ⊎ ((p ≡ n) × (c n < total n c)) → GatherAt MergeNarrow MergeWide n c p
    there (inl h) = inr h
    there (inr h) = inl h

    back : GatherAt MergeNarrow MergeWide n c p → ((p < n) × (total n c ≡ c n)) ⊎ ((p ≡ n) × (c n < total n c))
    back (inl h) = inr h
    back (inr h) = inl h

module _ (K : ℕ → Kind) (Narrow : ℕ → ℕ → (ℕ → ℕ) → Type 0) (Wide : ℕ → ℕ → (ℕ → ℕ) → ℕ → Type 0) (looks : Looks Narrow Wide)
    (at : (n : ℕ) (c : ℕ → ℕ) (p : ℕ) → KindAt (K n) c p ↔ GatherAt Narrow Wide n c p)
    {W : Type 0} (x : W) (ws : List W) (b : W) (n : ℕ) (long : length ws ≡ n) (e : W → ℕ) (w : W) where
  abbrev count : ℕ → ℕ
  count q = e (get_or (ws ++ x ∷ []) q b)

  wide_is : (i : ℕ) → i < n → get_or (ws ++ x ∷ []) i b ≡ get_or ws i b
  wide_is i low = get_or_append_left ws (x ∷ []) b i (omega arith)

  narrow_is : get_or (ws ++ x ∷ []) n b ≡ x
  narrow_is = get_or-append_right ws (x ∷ []) n n b long (omega arith) ∙ ap (λ q. get_or (x ∷ []) q b) (let z : n - n ≡ 0 = omega arith in z)

  pub gather_kind : KindOn (K n) (ws ++ x ∷ []) b e w ↔ FanOn Narrow Wide n x ws b e w
  gather_kind = ((λ h. there h.0 h.2 ((at n count h.0).0 h.3)), back)
    where
      there : (p : ℕ) → w ≡ get_or (ws ++ x ∷ []) p b → GatherAt Narrow Wide n count p → FanOn Narrow Wide n x ws b e w
      there p is (inl (same, k)) = inl (
        is ∙ ap (λ q. get_or (ws ++ x ∷ []) q b) same ∙ narrow_is,
        looks.narrow n (count n) (e x) count (λ i. e (get_or ws i b)) (ap e narrow_is) (λ i l. ap e (wide_is i l)) k,
      )
      there p is (inr (low, k)) = inr (
        p,
        low,
        is ∙ wide_is p low,
        looks.wide n (count n) (e x) count (λ i. e (get_or ws i b)) (count p) (e w) (ap e narrow_is) (λ i l. ap e (wide_is i l)) (ap e (sym is)) k,
      )

      back : FanOn Narrow Wide n x ws b e w → KindOn (K n) (ws ++ x ∷ []) b e w
      back (inl (is, k)) = (
        n,
        omega (arith, length-append ws (x ∷ [])),
        is ∙ sym narrow_is,
        (at n count n).1 (inl (refl, looks.narrow n (e x) (count n) (λ i. e (get_or ws i b)) count (ap e (sym narrow_is)) (λ i l. ap e (sym (wide_is i l))) k)),
      )
      back (inr (i, low, is, k)) =
          let here : w ≡ get_or (ws ++ x ∷ []) i b = is ∙ sym (wide_is i low) in (
            i,
            omega (arith, length-append ws (x ∷ [])),
            here,
            (at n count i).1 (inr (low, looks.wide n (e x) (count n) (λ i. e (get_or ws i b)) count (e w) (count i) (ap e (sym narrow_is)) (λ i l. ap e (sym (wide_is i l))) (ap e here) k)),
          )
