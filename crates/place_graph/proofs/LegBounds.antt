-- How many legs a process has, between which points, and with which symbols.
use Rattle.std.proofs.Common.{◌≡◌, ⊎_elim, ℕ, ◌+◌, ◌<◌, ◌≤◌, List, [], ◌∷◌, ◌++◌, length, refl, subst, arith, length-append, Option, Some, None}
use Rattle.std.specs.List.{AllByRecursion}
use Rattle.cmd_tree.specs.declared.limits.TheConstants.{MAX_SYMBOLS}
use Rattle.cmd_tree.specs.declared.tree.Mark.{Mark}
use Rattle.cmd_tree.specs.declared.tree.Proc.{Proc}
use Rattle.cmd_tree.specs.Tree.{TItem, TSeq, TSeqs, TBurst, TAlt, Stop, Or, Done, Then, places_of, places_in, places_among, marks_of, marks_in, marks_among}
use Rattle.cmd_tree.specs.Limits.{IsSeq, IsItem, AreSeqs, IsProc, of_part, places_of_proc, marks_of_proc}
use Rattle.cmd_tree.specs.Residual.{lead_of}
use Rattle.cmd_tree.proofs.Cuts.{full_seq}
use Rattle.place_graph.specs.declared.leg.Leg.{Leg}
use Rattle.place_graph.specs.declared.draw.TheConstants.{POINTS}
use Rattle.place_graph.specs.Points.{point, legs_of, legs_in, legs_among, body_place, turn_point, legs, Among}
use Rattle.place_graph.specs.Drawable.{IsDrawable}
use Rattle.place_graph.specs.Mirror.Numbers.{AreNumerable}
use Rattle.place_graph.proofs.Joined.{among_append}
use Rattle.place_graph.proofs.Rests.{lead_seq, lead_places, legs_some}

-- ---- the points of a leg

abbrev Within : ℕ → Leg → Type 0
Within n l = (l.from ≤ n) × (l.to ≤ n)

point_within : (n k : ℕ) (s : TSeq) (later : ℕ) → later ≤ n → k ≤ n → point k s later ≤ n
point_within n k Done later h e = h
point_within n k (Then i s) later h e = e

module _ (n : ℕ) where
  mutual
    within_of : (k : ℕ) (s : TSeq) (at later : ℕ) → at ≤ n → later ≤ n → k + places_of s ≤ n → (l : Leg)
        → Among (legs_of k s at later) l → Within n l
    within_of k Done at later a b e l h = absurd h
    within_of k (Then i s) at later a b e l h = ⊎_elim
        (λ c. within_in k i at (point (k + places_in i) s later) a
        (point_within n (k + places_in i) s later b (omega (arith, e))) (omega (arith, e)) l c)
        (λ c. within_of (k + places_in i) s (k + places_in i) later (omega (arith, e)) b (omega (arith, e)) l
        c)
        (among_append (legs_in k i at (point (k + places_in i) s later))
        (legs_of (k + places_in i) s (k + places_in i) later) l h)

    within_in : (k : ℕ) (i : TItem) (at later : ℕ) → at ≤ n → later ≤ n → k + places_in i ≤ n → (l : Leg)
        → Among (legs_in k i at later) l → Within n l
    within_in k (TBurst ms) at later a b e l h = ⊎_elim (λ c. subst (Within n) c (a, b)) (λ c. absurd c) h
    within_in k (TAlt ss) at later a b e l h = within_among k ss at later a b e l h

    within_among : (k : ℕ) (ss : TSeqs) (at later : ℕ) → at ≤ n → later ≤ n → k + places_among ss ≤ n
        → (l : Leg) → Among (legs_among k ss at later) l → Within n l
    within_among k Stop at later a b e l h = absurd h
    within_among k (Or s ss) at later a b e l h = ⊎_elim
        (λ c. within_of k s at later a b (omega (arith, e)) l c)
        (λ c. within_among (k + places_of s) ss at later a b (omega (arith, e)) l c)
        (among_append (legs_of k s at later) (legs_among (k + places_of s) ss at later) l h)

-- ---- how many

mutual
  count_of_legs : (k : ℕ) (s : TSeq) (at later : ℕ) → IsSeq s → length (legs_of k s at later) ≤ places_of s
  count_of_legs k Done at later h = omega arith
  count_of_legs k (Then i s) at later h = omega (
    arith,
    count_in k i at (point (k + places_in i) s later) h.0,
    count_of_legs (k + places_in i) s (k + places_in i) later h.1,
    length-append (legs_in k i at (point (k + places_in i) s later))
        (legs_of (k + places_in i) s (k + places_in i) later),
  )

  count_in : (k : ℕ) (i : TItem) (at later : ℕ) → IsItem i → length (legs_in k i at later) ≤ places_in i
  count_in k (TBurst ms) at later h = omega (arith, h)
  count_in k (TAlt ss) at later h = count_among k ss at later h.1

  count_among : (k : ℕ) (ss : TSeqs) (at later : ℕ) → AreSeqs ss
      → length (legs_among k ss at later) ≤ places_among ss
  count_among k Stop at later h = omega arith
  count_among k (Or s ss) at later h = omega (
    arith,
    count_of_legs k s at later (full_seq s h.0),
    count_among (k + places_of s) ss at later h.1,
    length-append (legs_of k s at later) (legs_among (k + places_of s) ss at later),
  )

-- ---- the symbols of a leg are those of the process

pub all_front : (P : Mark → Type 0) (xs ys : List Mark) → AllByRecursion P (xs ++ ys) → AllByRecursion P xs
all_front P [] ys h = tt
all_front P (x ∷ xs) ys h = (h.0, all_front P xs ys h.1)

pub all_back : (P : Mark → Type 0) (xs ys : List Mark) → AllByRecursion P (xs ++ ys) → AllByRecursion P ys
all_back P [] ys h = h
all_back P (x ∷ xs) ys h = all_back P xs ys h.1

module _ (P : Mark → Type 0) where
  mutual
    marks_all : (k : ℕ) (s : TSeq) (at later : ℕ) → AllByRecursion P (marks_of s) → (l : Leg)
        → Among (legs_of k s at later) l → AllByRecursion P l.marks
    marks_all k Done at later a l h = absurd h
    marks_all k (Then i s) at later a l h = ⊎_elim
        (λ c. marks_all_in k i at (point (k + places_in i) s later) (all_front P (marks_in i) (marks_of s) a)
        l c)
        (λ c. marks_all (k + places_in i) s (k + places_in i) later (all_back P (marks_in i) (marks_of s) a)
        l c)
        (among_append (legs_in k i at (point (k + places_in i) s later))
        (legs_of (k + places_in i) s (k + places_in i) later) l h)

    marks_all_in : (k : ℕ) (i : TItem) (at later : ℕ) → AllByRecursion P (marks_in i) → (l : Leg)
        → Among (legs_in k i at later) l → AllByRecursion P l.marks
    marks_all_in k (TBurst ms) at later a l h = ⊎_elim (λ c. subst (λ m. AllByRecursion P m.marks) c a)
        (λ c. absurd c) h
    marks_all_in k (TAlt ss) at later a l h = marks_all_among k ss at later a l h

    marks_all_among : (k : ℕ) (ss : TSeqs) (at later : ℕ) → AllByRecursion P (marks_among ss) → (l : Leg)
        → Among (legs_among k ss at later) l → AllByRecursion P l.marks
    marks_all_among k Stop at later a l h = absurd h
    marks_all_among k (Or s ss) at later a l h = ⊎_elim
        (λ c. marks_all k s at later (all_front P (marks_of s) (marks_among ss) a) l c)
        (λ c. marks_all_among (k + places_of s) ss at later (all_back P (marks_of s) (marks_among ss) a) l c)
        (among_append (legs_of k s at later) (legs_among (k + places_of s) ss at later) l h)

-- ---- a process

turn_within : (p : Proc) → turn_point p ≤ body_place p
turn_within p = by p.body
  where
    by : (o : Option TSeq) → of_part 0 (λ s. body_place p) o ≤ body_place p
    by None = omega arith
    by (Some s) = omega arith

lead_marks : (o : Option TSeq) → of_part [] marks_of o ≡ marks_of (lead_of o)
lead_marks None = refl
lead_marks (Some s) = refl

pub legs_within : (p : Proc) (l : Leg) → Among (legs p) l
    → (l.from ≤ 1 + places_of_proc p) × (l.to ≤ 1 + places_of_proc p)
legs_within p l h =
    let n = 1 + places_of_proc p in
    let a = lead_places p.lead in
    let b = lead_places p.body in ⊎_elim
    (λ c. within_of n 1 (lead_of p.lead) 1 (turn_point p) (omega arith) (omega (arith, turn_within p))
    (omega (arith, a)) l c)
    (λ c. within_of n (body_place p) (lead_of p.body) (body_place p) (turn_point p) (omega arith)
    (omega (arith, turn_within p)) (omega (arith, b)) l c)
    (among_append (legs_of 1 (lead_of p.lead) 1 (turn_point p))
    (legs_of (body_place p) (lead_of p.body) (body_place p) (turn_point p)) l h)

pub legs_few : (p : Proc) → IsProc p → length (legs p) ≤ places_of_proc p
legs_few p h = omega (
  arith,
  lead_places p.lead,
  lead_places p.body,
  count_of_legs 1 (lead_of p.lead) 1 (turn_point p) (lead_seq p.lead h.1),
  count_of_legs (body_place p) (lead_of p.body) (body_place p) (turn_point p) (lead_seq p.body h.2),
  length-append (legs_of 1 (lead_of p.lead) 1 (turn_point p))
      (legs_of (body_place p) (lead_of p.body) (body_place p) (turn_point p)),
)

pub legs_marks : (P : Mark → Type 0) (p : Proc) → AllByRecursion P (marks_of_proc p) → (l : Leg)
    → Among (legs p) l → AllByRecursion P l.marks
legs_marks P p a l h = ⊎_elim
    (λ c. marks_all P 1 (lead_of p.lead) 1 (turn_point p)
    (subst (AllByRecursion P) (lead_marks p.lead)
    (all_front P (of_part [] marks_of p.lead) (of_part [] marks_of p.body) a)) l c)
    (λ c. marks_all P (body_place p) (lead_of p.body) (body_place p) (turn_point p)
    (subst (AllByRecursion P) (lead_marks p.body)
    (all_back P (of_part [] marks_of p.lead) (of_part [] marks_of p.body) a)) l c)
    (among_append (legs_of 1 (lead_of p.lead) 1 (turn_point p))
    (legs_of (body_place p) (lead_of p.body) (body_place p) (turn_point p)) l h)

pub numerable : (p : Proc) → IsDrawable p → AreNumerable (legs p) POINTS
numerable p d = record {
  few = omega (arith, legs_few p d.proc, d.few_places);
  within = λ l h. (
    omega (arith, (legs_within p l h).0, d.few_places),
    omega
        (arith, (legs_within p l h).1, d.few_places),
  );
  some = legs_some p d.proc;
  symbols = legs_marks (λ m. m.sym.0 < MAX_SYMBOLS) p d.few_symbols;
  sets = d.sets;
}
