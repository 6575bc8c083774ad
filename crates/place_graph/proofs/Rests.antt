-- What is left at each point of a process, found by comparing places.
use Rattle.std.proofs.Common.{◌≡◌, ⊎_elim, ℕ, ◌+◌, ◌<◌, ◌≤◌, if◌then◌else◌, nat_lt, nat_eq, List, length, refl, sym, ap, ◌∙◌, subst, arith, Option, Some, None, lt-ltb, le-ltb, eq-eqb, ne_eqb}
use Rattle.std.proofs.lemmas.Bool.{cond-true, cond-false}
use Rattle.cmd_tree.specs.declared.tree.Mark.{Mark}
use Rattle.cmd_tree.specs.declared.tree.Proc.{Proc}
use Rattle.cmd_tree.specs.Tree.{TItem, TSeq, TSeqs, TBurst, TAlt, Stop, Or, Done, Then, places_of, places_in, places_among}
use Rattle.cmd_tree.specs.Limits.{IsSeq, IsItem, AreSeqs, IsFull, IsPart, IsProc, count_of, of_part}
use Rattle.cmd_tree.specs.Join.{join}
use Rattle.cmd_tree.specs.Residual.{FirstOf, Next, lead_of}
use Rattle.cmd_tree.proofs.Cuts.{full_seq}
use Rattle.place_graph.specs.declared.leg.Leg.{Leg}
use Rattle.place_graph.specs.Points.{point, legs_of, legs_in, legs_among, body_place, turn_point, legs, Among}
use Rattle.place_graph.proofs.Joined.{among_append, among_left, among_right}
use Rattle.place_graph.proofs.PointSteps.{like_same, Fits, Told, ToldIn, ToldAmong, Comes, comes_of, Led, led_more, led_of, Goes, goes_of}

-- ---- a whole item has a place

mutual
  pub some_places : (i : TItem) → IsItem i → 0 < places_in i
  some_places (TBurst ms) h = h
  some_places (TAlt ss) h = some_among ss h.1 (omega (arith, h.0))

  pub some_among : (ss : TSeqs) → AreSeqs ss → 0 < count_of ss → 0 < places_among ss
  some_among Stop h l = absurd (omega (arith, l))
  some_among (Or s ss) h l = omega (arith, some_full s h.0)

  pub some_full : (s : TSeq) → IsFull s → 0 < places_of s
  some_full Done h = absurd h
  some_full (Then i s) h = omega (arith, some_places i h.0)

-- ---- what is left at the point x of a tree at place k after which lr is left

abbrev mutual
  pub rest_of : ℕ → TSeq → TSeq → ℕ → TSeq
  rest_of k Done lr x = lr
  rest_of k (Then i s) lr x = if nat_lt x (k + places_in i) then rest_in k i (join s lr) x
      else (if nat_eq x (k + places_in i) then join s lr else rest_of (k + places_in i) s lr x)

  pub rest_in : ℕ → TItem → TSeq → ℕ → TSeq
  rest_in k (TBurst ms) lr x = lr
  rest_in k (TAlt ss) lr x = rest_among k ss lr x

  pub rest_among : ℕ → TSeqs → TSeq → ℕ → TSeq
  rest_among k Stop lr x = lr
  rest_among k (Or s ss) lr x = if nat_lt x (k + places_of s) then rest_of k s lr x else rest_among
      (k + places_of s) ss lr x

below : (x n : ℕ) (q r : TSeq) → x < n → (if nat_lt x n then q else r) ≡ q
below x n q r h = cond-true (nat_lt x n) q r (lt-ltb x n h)

beyond : (x n : ℕ) (q r : TSeq) → n ≤ x → (if nat_lt x n then q else r) ≡ r
beyond x n q r h = cond-false (nat_lt x n) q r (le-ltb x n h)

just : (x n : ℕ) (q r : TSeq) → x ≡ n → (if nat_eq x n then q else r) ≡ q
just x n q r h = cond-true (nat_eq x n) q r (eq-eqb x n h)

other : (x n : ℕ) (q r : TSeq) → (x ≡ n → ⊥) → (if nat_eq x n then q else r) ≡ r
other x n q r h = cond-false (nat_eq x n) q r (ne_eqb x n h)

module _ (body : Option TSeq) (g : ℕ → TSeq) where
  fits_point : (k : ℕ) (s : TSeq) (later : ℕ) (lr : TSeq) → IsSeq s → Fits body g later lr
      → (0 < places_of s → g k ≡ join s lr) → Fits body g (point k s later) (join s lr)
  fits_point k Done later lr h fit e = fit
  fits_point k (Then j s) later lr h fit e = like_same body (g k) (join (Then j s) lr)
      (e (omega (arith, some_places j h.0)))

  mutual
    pub told_of : (k : ℕ) (s : TSeq) (later : ℕ) (lr : TSeq) → IsSeq s
        → ((x : ℕ) → k < x → x < k + places_of s → g x ≡ rest_of k s lr x) → Fits body g later lr
        → Told body g k s later lr
    told_of k Done later lr h said fit = tt
    told_of k (Then i s) later lr h said fit =
        let n = places_in i in
        let some : 0 < n = some_places i h.0 in
        let here : Fits body g (point (k + n) s later) (join s lr) = fits_point (k + n) s later lr h.1 fit
        (λ more. said (k + n) (omega arith) (omega arith) ∙ beyond (k + n) (k + n) _ _ (omega arith)
        ∙ just (k + n) (k + n) _ _ refl) in (
          told_in k i (point (k + n) s later) (join s lr) h.0
              (λ x a b. said x a (omega arith) ∙ below x (k + n) _ _ b) here,
          here,
          told_of (k + n) s later lr h.1
              (λ x a b. said x (omega arith) (omega arith) ∙ beyond x (k + n) _ _ (omega arith)
              ∙ other x (k + n) _ _ (λ e. omega arith)) fit,
        )

    pub told_in : (k : ℕ) (i : TItem) (later : ℕ) (lr : TSeq) → IsItem i
        → ((x : ℕ) → k < x → x < k + places_in i → g x ≡ rest_in k i lr x) → Fits body g later lr
        → ToldIn body g k i later lr
    told_in k (TBurst ms) later lr h said fit = tt
    told_in k (TAlt ss) later lr h said fit = told_among k ss later lr h.1 said fit

    pub told_among : (k : ℕ) (ss : TSeqs) (later : ℕ) (lr : TSeq) → AreSeqs ss
        → ((x : ℕ) → k < x → x < k + places_among ss → g x ≡ rest_among k ss lr x) → Fits body g later lr
        → ToldAmong body g k ss later lr
    told_among k Stop later lr h said fit = tt
    told_among k (Or s ss) later lr h said fit =
        let n = places_of s in (
          told_of k s later lr (full_seq s h.0) (λ x a b. said x a (omega arith) ∙ below x (k + n) _ _ b)
              fit,
          told_among (k + n) ss later lr h.1
              (λ x a b. said x (omega arith) (omega arith) ∙ beyond x (k + n) _ _ (omega arith)) fit,
        )

-- ---- a process: the lead l begins at the point 1, and the body b at the place m

abbrev pub rest_at : ℕ → TSeq → TSeq → ℕ → TSeq
rest_at m l b x = if nat_eq x 0 then Done
    else (if nat_eq x 1 then l
    else (if nat_lt x m then rest_of 1 l Done x else (if nat_eq x m then Done else rest_of m b Done x)))

rest_turn : (m : ℕ) (l b : TSeq) → IsSeq l → m ≡ 1 + places_of l → rest_at m l b m ≡ Done
rest_turn m Done b h e = subst (λ x. rest_at x Done b x ≡ Done) (sym e) refl
rest_turn m (Then i s) b h e =
    let some : 0 < places_in i = some_places i h.0 in
    other m 0 _ _ (λ z. omega arith) ∙ other m 1 _ _ (λ z. omega arith) ∙ beyond m m _ _ (omega arith)
    ∙ just m m _ _ refl

rest_lead : (m : ℕ) (l b : TSeq) (x : ℕ) → 1 < x → x < m → rest_at m l b x ≡ rest_of 1 l Done x
rest_lead m l b x h k = other x 0 _ _ (λ z. omega arith) ∙ other x 1 _ _ (λ z. omega arith) ∙ below x m _ _ k

rest_body : (m : ℕ) (l b : TSeq) (x : ℕ) → 0 < m → m < x → rest_at m l b x ≡ rest_of m b Done x
rest_body m l b x h k = other x 0 _ _ (λ z. omega arith) ∙ other x 1 _ _ (λ z. omega arith)
    ∙ beyond x m _ _ (omega arith) ∙ other x m _ _ (λ z. omega arith)

pub lead_seq : (o : Option TSeq) → IsPart o → IsSeq (lead_of o)
lead_seq None h = tt
lead_seq (Some s) h = full_seq s h

pub lead_places : (o : Option TSeq) → of_part 0 places_of o ≡ places_of (lead_of o)
lead_places None = refl
lead_places (Some s) = refl

abbrev pub left_at : Proc → ℕ → TSeq
left_at p = rest_at (body_place p) (lead_of p.lead) (lead_of p.body)

pub place_is : (p : Proc) → body_place p ≡ 1 + places_of (lead_of p.lead)
place_is p = ap (λ n. 1 + n) (lead_places p.lead)

left_body : (p : Proc) → IsProc p → left_at p (body_place p) ≡ Done
left_body p h = rest_turn (body_place p) (lead_of p.lead) (lead_of p.body) (lead_seq p.lead h.1) (place_is p)

left_turn : (p : Proc) → IsProc p → left_at p (turn_point p) ≡ Done
left_turn p h = by p.body
  where
    by : (o : Option TSeq) → left_at p (of_part 0 (λ s. body_place p) o) ≡ Done
    by None = refl
    by (Some b) = left_body p h

fits_turn : (p : Proc) → IsProc p → Fits p.body (left_at p) (turn_point p) Done
fits_turn p h = like_same p.body (left_at p (turn_point p)) Done (left_turn p h)

told_lead : (p : Proc) → IsProc p → Told p.body (left_at p) 1 (lead_of p.lead) (turn_point p) Done
told_lead p h = told_of p.body (left_at p) 1 (lead_of p.lead) (turn_point p) Done (lead_seq p.lead h.1)
    (λ x a b. rest_lead (body_place p) (lead_of p.lead) (lead_of p.body) x a (omega (arith, place_is p)))
    (fits_turn p h)

told_body : (p : Proc) → IsProc p → Told p.body (left_at p) (body_place p) (lead_of p.body) (turn_point p)
    Done
told_body p h = told_of p.body (left_at p) (body_place p) (lead_of p.body) (turn_point p) Done
    (lead_seq p.body h.2)
    (λ x a b. rest_body (body_place p) (lead_of p.lead) (lead_of p.body) x (omega arith) a) (fits_turn p h)

join_done : (q : TSeq) → join q Done ≡ q
join_done Done = refl
join_done (Then i q) = ap (λ x. Then i x) (join_done q)

-- ---- each leg comes next at its point

first_next : (body : Option TSeq) (s : TSeq) (ms : List Mark) (r : TSeq) → FirstOf s ms r
    → Next body s ms (join r Done)
first_next body Done ms r f = absurd f
first_next body (Then i s) ms r f = subst (λ q. FirstOf (Then i s) ms q) (sym (join_done r)) f

body_next : (body : Option TSeq) (ms : List Mark) (r : TSeq) → FirstOf (lead_of body) ms r
    → Next body Done ms (join r Done)
body_next None ms r f = absurd f
body_next (Some b) ms r f = subst (λ q. FirstOf b ms q) (sym (join_done r)) f

pub leg_comes : (p : Proc) → IsProc p → (l : Leg) → Among (legs p) l → Comes p.body (left_at p) l
leg_comes p h l a = ⊎_elim
    (λ b. comes_of p.body (left_at p) 1 (lead_of p.lead) 1 (turn_point p) Done (told_lead p h)
    (fits_turn p h) (λ ms r f. first_next p.body (lead_of p.lead) ms r f) l b)
    (λ b. comes_of p.body (left_at p) (body_place p) (lead_of p.body) (body_place p) (turn_point p) Done
    (told_body p h) (fits_turn p h)
    (λ ms r f. subst (λ q. Next p.body q ms (join r Done)) (sym (left_body p h))
    (body_next p.body ms r f)) l b)
    (among_append (legs_of 1 (lead_of p.lead) 1 (turn_point p))
    (legs_of (body_place p) (lead_of p.body) (body_place p) (turn_point p)) l a)

-- ---- and each burst that comes next at the begin, or after a leg, is a leg

body_first : (body : Option TSeq) (ms : List Mark) (r : TSeq) → Next body Done ms r
    → FirstOf (lead_of body) ms r
body_first None ms r f = absurd f
body_first (Some b) ms r f = f

in_lead : (p : Proc) (l : Leg) → Among (legs_of 1 (lead_of p.lead) 1 (turn_point p)) l → Among (legs p) l
in_lead p l a = among_left (legs_of 1 (lead_of p.lead) 1 (turn_point p))
    (legs_of (body_place p) (lead_of p.body) (body_place p) (turn_point p)) l a

in_body : (p : Proc) (l : Leg)
    → Among (legs_of (body_place p) (lead_of p.body) (body_place p) (turn_point p)) l → Among (legs p) l
in_body p l a = among_right (legs_of 1 (lead_of p.lead) 1 (turn_point p))
    (legs_of (body_place p) (lead_of p.body) (body_place p) (turn_point p)) l a

goes_body : (p : Proc) → IsProc p → (ms : List Mark) (r : TSeq) → Next p.body Done ms r
    → Led p.body (left_at p) (legs p) (body_place p) ms r
goes_body p h ms r n = led_more p.body (left_at p)
    (legs_of (body_place p) (lead_of p.body) (body_place p) (turn_point p)) (legs p) (body_place p) ms
    (join r Done) r (in_body p) (join_done r)
    (led_of p.body (left_at p) (body_place p) (lead_of p.body) (body_place p) (turn_point p) Done
    (told_body p h) (fits_turn p h) ms r (body_first p.body ms r n))

goes_turn : (p : Proc) → IsProc p → Goes p.body (left_at p) (legs p) (turn_point p)
goes_turn p h = λ ms r n. by p.body (subst (λ q. Next p.body q ms r) (left_turn p h) n)
    (λ k. goes_body p h ms r k)
  where
    by : {ms : List Mark} {r : TSeq} (o : Option TSeq) → Next o Done ms r
        → (Next o Done ms r → Led p.body (left_at p) (legs p) (body_place p) ms r)
        → Led p.body (left_at p) (legs p) (of_part 0 (λ s. body_place p) o) ms r
    by None n k = absurd n
    by (Some b) n k = k n

goes_begin : (p : Proc) → IsProc p → Goes p.body (left_at p) (legs p) 1
goes_begin p h = λ ms r n. by (lead_of p.lead) ms r (place_is p) n (λ f. lead ms r f)
    (λ k. goes_body p h ms r k)
  where
    lead : (ms : List Mark) (r : TSeq) → FirstOf (lead_of p.lead) ms r
        → Led p.body (left_at p) (legs p) 1 ms r
    lead ms r f = led_more p.body (left_at p) (legs_of 1 (lead_of p.lead) 1 (turn_point p)) (legs p) 1 ms
        (join r Done) r (in_lead p) (join_done r)
        (led_of p.body (left_at p) 1 (lead_of p.lead) 1 (turn_point p) Done (told_lead p h) (fits_turn p h)
        ms r f)

    by : (s : TSeq) (ms : List Mark) (r : TSeq) → body_place p ≡ 1 + places_of s → Next p.body s ms r
        → (FirstOf s ms r → Led p.body (left_at p) (legs p) 1 ms r)
        → (Next p.body Done ms r → Led p.body (left_at p) (legs p) (body_place p) ms r)
        → Led p.body (left_at p) (legs p) 1 ms r
    by Done ms r e n f k = subst (λ x. Led p.body (left_at p) (legs p) x ms r) e (k n)
    by (Then i s) ms r e n f k = f n

pub leg_goes : (p : Proc) → IsProc p → (l : Leg) → Among (legs p) l → Goes p.body (left_at p) (legs p) l.to
leg_goes p h l a = ⊎_elim
    (λ b. goes_of p.body (left_at p) (legs p) 1 (lead_of p.lead) 1 (turn_point p) Done (told_lead p h)
    (fits_turn p h) (goes_turn p h) (in_lead p) l b)
    (λ b. goes_of p.body (left_at p) (legs p) (body_place p) (lead_of p.body) (body_place p) (turn_point p)
    Done (told_body p h) (fits_turn p h) (goes_turn p h) (in_body p) l b)
    (among_append (legs_of 1 (lead_of p.lead) 1 (turn_point p))
    (legs_of (body_place p) (lead_of p.body) (body_place p) (turn_point p)) l a)

pub begin_goes : (p : Proc) → IsProc p → Goes p.body (left_at p) (legs p) 1
begin_goes p h = goes_begin p h

-- ---- each leg has a symbol

mutual
  some_of : (k : ℕ) (s : TSeq) (at later : ℕ) → IsSeq s → (l : Leg) → Among (legs_of k s at later) l
      → 0 < length l.marks
  some_of k Done at later h l a = absurd a
  some_of k (Then i s) at later h l a = ⊎_elim
      (λ b. some_in k i at (point (k + places_in i) s later) h.0 l b)
      (λ b. some_of (k + places_in i) s (k + places_in i) later h.1 l b)
      (among_append (legs_in k i at (point (k + places_in i) s later))
      (legs_of (k + places_in i) s (k + places_in i) later) l a)

  some_in : (k : ℕ) (i : TItem) (at later : ℕ) → IsItem i → (l : Leg) → Among (legs_in k i at later) l
      → 0 < length l.marks
  some_in k (TBurst ms) at later h l a = ⊎_elim (λ e. subst (λ m. 0 < length m.marks) e h) (λ n. absurd n) a
  some_in k (TAlt ss) at later h l a = some_one k ss at later h.1 l a

  some_one : (k : ℕ) (ss : TSeqs) (at later : ℕ) → AreSeqs ss → (l : Leg)
      → Among (legs_among k ss at later) l → 0 < length l.marks
  some_one k Stop at later h l a = absurd a
  some_one k (Or s ss) at later h l a = ⊎_elim
      (λ b. some_of k s at later (full_seq s h.0) l b)
      (λ b. some_one (k + places_of s) ss at later h.1 l b)
      (among_append (legs_of k s at later) (legs_among (k + places_of s) ss at later) l a)

pub legs_some : (p : Proc) → IsProc p → (l : Leg) → Among (legs p) l → 0 < length l.marks
legs_some p h l a = ⊎_elim
    (λ b. some_of 1 (lead_of p.lead) 1 (turn_point p) (lead_seq p.lead h.1) l b)
    (λ b. some_of (body_place p) (lead_of p.body) (body_place p) (turn_point p) (lead_seq p.body h.2) l b)
    (among_append (legs_of 1 (lead_of p.lead) 1 (turn_point p))
    (legs_of (body_place p) (lead_of p.body) (body_place p) (turn_point p)) l a)
