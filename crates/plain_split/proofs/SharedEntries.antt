-- Legs that lead to where a leg begins, and legs with a symbol.
use Rattle.std.proofs.Common.{◌≡◌, ◌⊎◌, inl, inr, ⊎_elim, ℕ, ◌+◌, ◌<◌, List, [], ◌++◌, refl, sym, ap, ◌∙◌, subst, arith, Option, Some, None}
use Rattle.cmd_tree.specs.declared.tree.Mark.{Mark}
use Rattle.cmd_tree.specs.declared.tree.Proc.{Proc}
use Rattle.cmd_tree.specs.Tree.{TItem, TSeq, TSeqs, TBurst, TAlt, Stop, Or, Done, Then, places_of, places_in, marks_of, marks_in, marks_among}
use Rattle.cmd_tree.specs.Limits.{IsSeq, IsItem, AreSeqs, IsFull, IsPart, IsProc, count_of, of_part, marks_of_proc}
use Rattle.cmd_tree.specs.Residual.{lead_of}
use Rattle.cmd_tree.proofs.Cuts.{full_seq}
use Rattle.place_graph.specs.declared.leg.Leg.{Leg}
use Rattle.place_graph.specs.Points.{OneOf, point, legs_of, legs_in, legs_among, body_place, turn_point, legs, Among}
use Rattle.place_graph.proofs.Joined.{among_append, among_left, among_right}
use Rattle.place_graph.proofs.Listed.{one_append}

-- a leg of the list leads to the point
abbrev pub Led : List Leg → ℕ → Type 0
Led L x = (m : Leg) × Among L m × (m.to ≡ x)

led_left : (L M : List Leg) (x : ℕ) → Led L x → Led (L ++ M) x
led_left L M x (m, a, e) = (m, among_left L M m a, e)

led_right : (L M : List Leg) (x : ℕ) → Led M x → Led (L ++ M) x
led_right L M x (m, a, e) = (m, among_right L M m a, e)

full_or : (s : TSeq) → IsSeq s → (s ≡ Done) ⊎ IsFull s
full_or Done h = inl refl
full_or (Then i s) h = inr h

-- a tree that is not empty has a leg that leads out of it
mutual
  ends_of : (k : ℕ) (s : TSeq) (at later : ℕ) → IsFull s → Led (legs_of k s at later) later
  ends_of k Done at later h = absurd h
  ends_of k (Then i s) at later h =
      let next : ℕ = k + places_in i in
      let here : List Leg = legs_in k i at (point next s later) in
      let after : List Leg = legs_of next s next later in ⊎_elim
      (λ e. led_left here after later (subst (Led here) (ap (λ s. point next s later) e) (ends_in k i at (point next s later) h.0)))
      (λ f. led_right here after later (ends_of next s next later f))
      (full_or s h.1)

  ends_in : (k : ℕ) (i : TItem) (at later : ℕ) → IsItem i → Led (legs_in k i at later) later
  ends_in k (TBurst ms) at later h = (record { from = at; place = k; marks = ms; to = later }, inl refl, refl)
  ends_in k (TAlt ss) at later h = ends_among k ss at later h.1 (omega (arith, h.0))

  ends_among : (k : ℕ) (ss : TSeqs) (at later : ℕ) → AreSeqs ss → 0 < count_of ss → Led (legs_among k ss at later) later
  ends_among k Stop at later h n = absurd (omega (arith, n))
  ends_among k (Or s ss) at later h n = led_left (legs_of k s at later) (legs_among (k + places_of s) ss at later) later (ends_of k s at later h.0)

point_then : (k : ℕ) (s : TSeq) (later : ℕ) (l : Leg) → Among (legs_of k s k later) l → point k s later ≡ k
point_then k Done later l a = absurd a
point_then k (Then i s) later l a = refl

-- each leg begins where the tree does, or where a leg leads to
abbrev Comes : List Leg → ℕ → Leg → Type 0
Comes L at l = (l.from ≡ at) ⊎ Led L l.from

comes_left : (L M : List Leg) (at : ℕ) (l : Leg) → Comes L at l → Comes (L ++ M) at l
comes_left L M at l c = ⊎_elim (λ e. inl e) (λ w. inr (led_left L M l.from w)) c

comes_right : (L M : List Leg) (at : ℕ) (l : Leg) → Comes M at l → Comes (L ++ M) at l
comes_right L M at l c = ⊎_elim (λ e. inl e) (λ w. inr (led_right L M l.from w)) c

mutual
  comes_of : (k : ℕ) (s : TSeq) (at later : ℕ) → IsSeq s → (l : Leg) → Among (legs_of k s at later) l → Comes (legs_of k s at later) at l
  comes_of k Done at later h l a = absurd a
  comes_of k (Then i s) at later h l a =
      let next : ℕ = k + places_in i in
      let here : List Leg = legs_in k i at (point next s later) in
      let after : List Leg = legs_of next s next later in ⊎_elim
      (λ b. comes_left here after at l (comes_in k i at (point next s later) h.0 l b))
      (λ b. ⊎_elim
      (λ e. inr (led_left here after l.from (subst (Led here) (point_then next s later l b ∙ sym e) (ends_in k i at (point next s later) h.0))))
      (λ w. inr (led_right here after l.from w))
      (comes_of next s next later h.1 l b))
      (among_append here after l a)

  comes_in : (k : ℕ) (i : TItem) (at later : ℕ) → IsItem i → (l : Leg) → Among (legs_in k i at later) l → Comes (legs_in k i at later) at l
  comes_in k (TBurst ms) at later h l a = ⊎_elim (λ e. inl (ap (λ (m : Leg). m.from) (sym e))) (λ n. absurd n) a
  comes_in k (TAlt ss) at later h l a = comes_among k ss at later h.1 l a

  comes_among : (k : ℕ) (ss : TSeqs) (at later : ℕ) → AreSeqs ss → (l : Leg) → Among (legs_among k ss at later) l → Comes (legs_among k ss at later) at l
  comes_among k Stop at later h l a = absurd a
  comes_among k (Or s ss) at later h l a = ⊎_elim
      (λ b. comes_left (legs_of k s at later) (legs_among (k + places_of s) ss at later) at l (comes_of k s at later (full_seq s h.0) l b))
      (λ b. comes_right (legs_of k s at later) (legs_among (k + places_of s) ss at later) at l (comes_among (k + places_of s) ss at later h.1 l b))
      (among_append (legs_of k s at later) (legs_among (k + places_of s) ss at later) l a)

part_seq : (o : Option TSeq) → IsPart o → IsSeq (lead_of o)
part_seq None h = tt
part_seq (Some s) h = full_seq s h

-- each leg of a process begins where the process does, or where a leg leads to
pub leg_comes : (p : Proc) → IsProc p → (l : Leg) → Among (legs p) l → (l.from ≡ 1) ⊎ Led (legs p) l.from
leg_comes p h l a =
    let lead_legs : List Leg = legs_of 1 (lead_of p.lead) 1 (turn_point p) in
    let body_legs : List Leg = legs_of (body_place p) (lead_of p.body) (body_place p) (turn_point p) in ⊎_elim
    (λ b. comes_left lead_legs body_legs 1 l (comes_of 1 (lead_of p.lead) 1 (turn_point p) (part_seq p.lead h.1) l b))
    (λ b. ⊎_elim
    (λ e. inr (led_right lead_legs body_legs l.from (turn p.body refl h.2 l b e)))
    (λ w. inr (led_right lead_legs body_legs l.from w))
    (comes_of (body_place p) (lead_of p.body) (body_place p) (turn_point p) (part_seq p.body h.2) l b))
    (among_append lead_legs body_legs l a)
  where
    turn : (o : Option TSeq) → p.body ≡ o → IsPart o → (l : Leg) → Among (legs_of (body_place p) (lead_of p.body) (body_place p) (turn_point p)) l → l.from ≡ body_place p
        → Led (legs_of (body_place p) (lead_of p.body) (body_place p) (turn_point p)) l.from
    turn None z w l b e = absurd (subst (λ o. Among (legs_of (body_place p) (lead_of o) (body_place p) (turn_point p)) l) z b)
    turn (Some s) z w l b e =
        let there : turn_point p ≡ l.from = ap (λ o. of_part 0 (λ s. body_place p) o) z ∙ sym e in
        subst (λ o. Led (legs_of (body_place p) (lead_of o) (body_place p) (turn_point p)) l.from) (sym z)
        (subst (Led (legs_of (body_place p) s (body_place p) (turn_point p))) there (ends_of (body_place p) s (body_place p) (turn_point p) w))

-- ---- each mark is of a leg

abbrev pub Marked : List Leg → Mark → Type 0
Marked L m = (l : Leg) × Among L l × OneOf l.marks m

marked_left : (L M : List Leg) (m : Mark) → Marked L m → Marked (L ++ M) m
marked_left L M m (l, a, o) = (l, among_left L M l a, o)

marked_right : (L M : List Leg) (m : Mark) → Marked M m → Marked (L ++ M) m
marked_right L M m (l, a, o) = (l, among_right L M l a, o)

mutual
  marked_of : (k : ℕ) (s : TSeq) (at later : ℕ) (m : Mark) → OneOf (marks_of s) m → Marked (legs_of k s at later) m
  marked_of k Done at later m o = absurd o
  marked_of k (Then i s) at later m o =
      let next : ℕ = k + places_in i in
      let here : List Leg = legs_in k i at (point next s later) in
      let after : List Leg = legs_of next s next later in ⊎_elim
      (λ b. marked_left here after m (marked_in k i at (point next s later) m b))
      (λ b. marked_right here after m (marked_of next s next later m b))
      (one_append (marks_in i) (marks_of s) m o)

  marked_in : (k : ℕ) (i : TItem) (at later : ℕ) (m : Mark) → OneOf (marks_in i) m → Marked (legs_in k i at later) m
  marked_in k (TBurst ms) at later m o = (record { from = at; place = k; marks = ms; to = later }, inl refl, o)
  marked_in k (TAlt ss) at later m o = marked_among k ss at later m o

  marked_among : (k : ℕ) (ss : TSeqs) (at later : ℕ) (m : Mark) → OneOf (marks_among ss) m → Marked (legs_among k ss at later) m
  marked_among k Stop at later m o = absurd o
  marked_among k (Or s ss) at later m o = ⊎_elim
      (λ b. marked_left (legs_of k s at later) (legs_among (k + places_of s) ss at later) m (marked_of k s at later m b))
      (λ b. marked_right (legs_of k s at later) (legs_among (k + places_of s) ss at later) m (marked_among (k + places_of s) ss at later m b))
      (one_append (marks_of s) (marks_among ss) m o)

part_marks : (o : Option TSeq) → of_part [] marks_of o ≡ marks_of (lead_of o)
part_marks None = refl
part_marks (Some s) = refl

pub mark_legs : (p : Proc) (m : Mark) → OneOf (marks_of_proc p) m → Marked (legs p) m
mark_legs p m o =
    let lead_legs : List Leg = legs_of 1 (lead_of p.lead) 1 (turn_point p) in
    let body_legs : List Leg = legs_of (body_place p) (lead_of p.body) (body_place p) (turn_point p) in ⊎_elim
    (λ b. marked_left lead_legs body_legs m (marked_of 1 (lead_of p.lead) 1 (turn_point p) m (subst (λ xs. OneOf xs m) (part_marks p.lead) b)))
    (λ b. marked_right lead_legs body_legs m (marked_of (body_place p) (lead_of p.body) (body_place p) (turn_point p) m (subst (λ xs. OneOf xs m) (part_marks p.body) b)))
    (one_append (of_part [] marks_of p.lead) (of_part [] marks_of p.body) m o)
