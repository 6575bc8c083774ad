-- Between which places the points and the places of a tree's legs lie.
use Rattle.std.proofs.Common.{◌≡◌, ◌⊎◌, inl, inr, ⊎_elim, ℕ, ◌+◌, ◌<◌, ◌≤◌, List, [], ◌∷◌, ◌++◌, length, refl, subst, arith}
use Rattle.std.specs.List.{AllByRecursion}
use Rattle.cmd_tree.specs.declared.tree.Mark.{Mark}
use Rattle.cmd_tree.specs.Tree.{TItem, TSeq, TSeqs, TBurst, TAlt, Stop, Or, Done, Then, places_of, places_in, places_among}
use Rattle.cmd_tree.specs.Limits.{IsSeq, IsItem, AreSeqs}
use Rattle.cmd_tree.specs.Residual.{FirstOf, FirstIn, FirstAmong}
use Rattle.cmd_tree.specs.Join.{join}
use Rattle.cmd_tree.proofs.Cuts.{full_seq}
use Rattle.place_graph.specs.declared.leg.Leg.{Leg}
use Rattle.place_graph.specs.Points.{point, legs_of, legs_in, legs_among, Among}
use Rattle.place_graph.specs.Chart.{Increase}
use Rattle.place_graph.proofs.Joined.{among_append}
use Rattle.place_graph.proofs.Rests.{some_places}

-- the leg is of a tree with n places at place k that is entered at the point `at`
pub record Range (k n at : ℕ) (l : Leg) : Type 0 where
  pub from : (l.from ≡ at) ⊎ ((k < l.from) × (l.from < k + n))
  pub low : k ≤ l.place
  pub high : l.place < k + n

widen : (k n j m at : ℕ) (l : Leg) → j ≤ k → k + n ≤ j + m → Range k n at l → Range j m at l
widen k n j m at l a b r = record {
  from = ⊎_elim (λ e. inl e) (λ e. inr (omega (arith, a, e), omega (arith, b, e))) r.from;
  low = omega (arith, r.low);
  high = omega (arith, r.high);
}

-- a later item is entered at its own place
follow : (k n j m at : ℕ) (l : Leg) → j < k → k + n ≤ j + m → Range k n k l → Range j m at l
follow k n j m at l a b r = record {
  from = ⊎_elim (λ e. inr (omega (arith, a, e), omega (arith, b, e, r.low, r.high)))
      (λ e. inr (omega (arith, a, e), omega (arith, b, e))) r.from;
  low = omega (arith, r.low);
  high = omega (arith, r.high);
}

mutual
  pub range_of : (k : ℕ) (s : TSeq) (at later : ℕ) → IsSeq s → (l : Leg) → Among (legs_of k s at later) l
      → Range k (places_of s) at l
  range_of k Done at later h l a = absurd a
  range_of k (Then i s) at later h l a = ⊎_elim
      (λ b. widen k (places_in i) k (places_in i + places_of s) at l (omega arith) (omega arith)
      (range_in k i at (point (k + places_in i) s later) h.0 l b))
      (λ b. follow (k + places_in i) (places_of s) k (places_in i + places_of s) at l
      (omega (arith, some_places i h.0)) (omega arith)
      (range_of (k + places_in i) s (k + places_in i) later h.1 l b))
      (among_append (legs_in k i at (point (k + places_in i) s later))
      (legs_of (k + places_in i) s (k + places_in i) later) l a)

  pub range_in : (k : ℕ) (i : TItem) (at later : ℕ) → IsItem i → (l : Leg) → Among (legs_in k i at later) l
      → Range k (places_in i) at l
  range_in k (TBurst ms) at later h l a = ⊎_elim
      (λ e. subst (Range k (length ms) at) e
      (record { from = inl refl; low = omega arith; high = omega (arith, h) })) (λ n. absurd n) a
  range_in k (TAlt ss) at later h l a = range_among k ss at later h.1 l a

  pub range_among : (k : ℕ) (ss : TSeqs) (at later : ℕ) → AreSeqs ss → (l : Leg)
      → Among (legs_among k ss at later) l → Range k (places_among ss) at l
  range_among k Stop at later h l a = absurd a
  range_among k (Or s ss) at later h l a = ⊎_elim
      (λ b. widen k (places_of s) k (places_of s + places_among ss) at l (omega arith) (omega arith)
      (range_of k s at later (full_seq s h.0) l b))
      (λ b. widen (k + places_of s) (places_among ss) k (places_of s + places_among ss) at l (omega arith)
      (omega arith) (range_among (k + places_of s) ss at later h.1 l b))
      (among_append (legs_of k s at later) (legs_among (k + places_of s) ss at later) l a)

-- ---- places increase

pub all_among : (P : Leg → Type 0) (L : List Leg) → ((l : Leg) → Among L l → P l) → AllByRecursion P L
all_among P [] f = tt
all_among P (l ∷ L) f = (f l (inl refl), all_among P L (λ m a. f m (inr a)))

pub among_all : (P : Leg → Type 0) (L : List Leg) → AllByRecursion P L → (l : Leg) → Among L l → P l
among_all P [] h l a = absurd a
among_all P (m ∷ L) h l a = ⊎_elim (λ e. subst P e h.0) (λ b. among_all P L h.1 l b) a

all_join : (P : Leg → Type 0) (L M : List Leg) → AllByRecursion P L → AllByRecursion P M
    → AllByRecursion P (L ++ M)
all_join P [] M h k = k
all_join P (l ∷ L) M h k = (h.0, all_join P L M h.1 k)

pub increase_join : (L M : List Leg) → Increase L → Increase M
    → ((l m : Leg) → Among L l → Among M m → l.place < m.place) → Increase (L ++ M)
increase_join [] M h k f = k
increase_join (l ∷ L) M h k
    f = (
      all_join (λ m. l.place < m.place) L M h.0
          (all_among (λ m. l.place < m.place) M (λ m a. f l m (inl refl) a)),
      increase_join L M h.1 k
          (λ x m a b. f x m (inr a) b),
    )

mutual
  pub increase_of : (k : ℕ) (s : TSeq) (at later : ℕ) → IsSeq s → Increase (legs_of k s at later)
  increase_of k Done at later h = tt
  increase_of k (Then i s) at later h = increase_join (legs_in k i at (point (k + places_in i) s later))
      (legs_of (k + places_in i) s (k + places_in i) later)
      (increase_in k i at (point (k + places_in i) s later) h.0)
      (increase_of (k + places_in i) s (k + places_in i) later h.1)
      (λ l m a b. omega (
        arith,
        (range_in k i at (point (k + places_in i) s later) h.0 l a).high,
        (range_of (k + places_in i) s (k + places_in i) later h.1 m b).low,
      ))

  pub increase_in : (k : ℕ) (i : TItem) (at later : ℕ) → IsItem i → Increase (legs_in k i at later)
  increase_in k (TBurst ms) at later h = (tt, tt)
  increase_in k (TAlt ss) at later h = increase_among k ss at later h.1

  pub increase_among : (k : ℕ) (ss : TSeqs) (at later : ℕ) → AreSeqs ss → Increase (legs_among k ss at later)
  increase_among k Stop at later h = tt
  increase_among k (Or s ss) at later h = increase_join (legs_of k s at later)
      (legs_among (k + places_of s) ss at later)
      (increase_of k s at later (full_seq s h.0))
      (increase_among (k + places_of s) ss at later h.1)
      (λ l m a b. omega (
        arith,
        (range_of k s at later (full_seq s h.0) l a).high,
        (range_among (k + places_of s) ss at later h.1 m b).low,
      ))

-- ---- a leg from the point where a tree is entered is one of its first bursts

-- the tree begins with the marks
abbrev pub Firsts : (F : List Mark → TSeq → Type 0) → Leg → Type 0
Firsts F l = (q : TSeq) × F l.marks q

pub not_later : (k : ℕ) (i : TItem) (s : TSeq) (at later : ℕ) → at ≤ k → IsSeq (Then i s) → (l : Leg)
    → Among (legs_of (k + places_in i) s (k + places_in i) later) l → l.from ≡ at → ⊥
not_later k i s at later b h l c e = ⊎_elim (λ f. omega (arith, f, e, b, some_places i h.0))
    (λ f. omega (arith, f, e, b)) (range_of (k + places_in i) s (k + places_in i) later h.1 l c).from

mutual
  pub first_of : (k : ℕ) (s : TSeq) (at later : ℕ) → at ≤ k → IsSeq s → (l : Leg)
      → Among (legs_of k s at later) l → l.from ≡ at → Firsts (FirstOf s) l
  first_of k Done at later b h l a e = absurd a
  first_of k (Then i s) at later b h l a e = ⊎_elim
      (λ c. let f = first_in k i at (point (k + places_in i) s later) b h.0 l c
      e in (join f.0 s, (f.0, f.1, refl)))
      (λ c. absurd (not_later k i s at later b h l c e))
      (among_append (legs_in k i at (point (k + places_in i) s later))
      (legs_of (k + places_in i) s (k + places_in i) later) l a)

  pub first_in : (k : ℕ) (i : TItem) (at later : ℕ) → at ≤ k → IsItem i → (l : Leg)
      → Among (legs_in k i at later) l → l.from ≡ at → Firsts (FirstIn i) l
  first_in k (TBurst ms) at later b h l a e = ⊎_elim
      (λ c. subst (λ m. Firsts (FirstIn (TBurst ms)) m) c (Done, (refl, refl))) (λ n. absurd n) a
  first_in k (TAlt ss) at later b h l a e = first_among k ss at later b h.1 l a e

  pub first_among : (k : ℕ) (ss : TSeqs) (at later : ℕ) → at ≤ k → AreSeqs ss → (l : Leg)
      → Among (legs_among k ss at later) l → l.from ≡ at → Firsts (FirstAmong ss) l
  first_among k Stop at later b h l a e = absurd a
  first_among k (Or s ss) at later b h l a e = ⊎_elim
      (λ c. let f = first_of k s at later b (full_seq s h.0) l c e in (f.0, inl f.1))
      (λ c. let f = first_among (k + places_of s) ss at later (omega (arith, b)) h.1 l c e in (f.0, inr f.1))
      (among_append (legs_of k s at later) (legs_among (k + places_of s) ss at later) l a)
