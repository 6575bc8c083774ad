-- In a fair process an act is alone at its point, legs from one point share no symbol, and legs of the
-- other direction lead on.
use Rattle.std.proofs.Common.{◌≡◌, ◌⊎◌, inl, inr, ⊎_elim, ℕ, ◌+◌, ◌<◌, ◌≤◌, Bool, true, false, true≢false, ◌||◌, List, [], ◌∷◌, ◌++◌, length, IsTrue, refl, sym, ap, ◌∙◌, subst, arith, eq-eqb}
use Rattle.std.specs.Prelude.{not}
use Rattle.std.specs.List.{AllByRecursion}
use Rattle.cmd_tree.specs.declared.tree.Mark.{Mark}
use Rattle.cmd_tree.specs.Tree.{TItem, TSeq, TSeqs, TBurst, TAlt, Stop, Or, Done, Then, places_of, places_in, places_among}
use Rattle.cmd_tree.specs.Limits.{IsSeq, IsItem, AreSeqs, IsFull, count_of}
use Rattle.cmd_tree.specs.Residual.{FirstOf, FirstAmong}
use Rattle.cmd_tree.specs.Marks.{is_output}
use Rattle.cmd_tree.specs.Meaning.{symbols}
use Rattle.cmd_tree.specs.Lists.{is_in}
use Rattle.cmd_tree.proofs.Cuts.{full_seq}
use Rattle.process_laws.specs.Shape.{IsBurst, Alternates, AlternatesIn, AlternatesAmong, IsApart, IsApartIn, AreApart}
use Rattle.place_graph.specs.declared.leg.Leg.{Leg}
use Rattle.place_graph.specs.Points.{point, legs_of, legs_in, legs_among, Among}
use Rattle.place_graph.specs.Graph.{gives, is_act}
use Rattle.place_graph.specs.Chart.{Has, LeadsOn}
use Rattle.place_graph.proofs.Joined.{among_append, among_left, among_right}
use Rattle.place_graph.proofs.Ranges.{Range, Firsts, range_of, range_in, range_among, first_of, first_among, not_later}

not_not : (b : Bool) → not (not b) ≡ b
not_not true = refl
not_not false = refl

-- legs of two parts lead from one point only where both begin
pub meet : (k n m at : ℕ) (l j : Leg) → at ≤ k → Range k n at l → Range (k + n) m at j → l.from ≡ j.from
    → (l.from ≡ at) × (j.from ≡ at)
meet k n m at l j b r q e = ⊎_elim
    (λ x. (x, sym e ∙ x))
    (λ x. ⊎_elim
    (λ y. absurd (omega (arith, x, y, e, b)))
    (λ y. absurd (omega (arith, x, y, e)))
    q.from)
    r.from

-- a part that is entered where another begins, and the next part
pub never_meet : (k n m at : ℕ) (l j : Leg) → at ≤ k → Range k n at l → Range (k + n) m (k + n) j
    → l.from ≡ j.from → ⊥
never_meet k n m at l j b r q e = ⊎_elim
    (λ x. ⊎_elim
    (λ y. omega (arith, x, y, e, b, r.low, r.high))
    (λ y. omega (arith, x, y, e, b))
    q.from)
    (λ x. ⊎_elim
    (λ y. omega (arith, x, y, e))
    (λ y. omega (arith, x, y, e))
    q.from)
    r.from

module _ (out : ℕ → Bool) where
  -- the leg has symbols, and its marks have their directions
  abbrev pub Sound : Leg → Type 0
  Sound l = (0 < length l.marks) × AllByRecursion (λ m. is_output m.dir ≡ out m.sym.0) l.marks

  head_in : (m : Mark) (ms : List Mark) → IsTrue (is_in m.sym.0 (symbols (m ∷ ms)))
  head_in m ms = ap (λ b. b || is_in m.sym.0 (symbols ms)) (eq-eqb m.sym.0 m.sym.0 refl)

  pub burst_dir : (d : Bool) (ms : List Mark) → IsBurst out d ms → 0 < length ms
      → AllByRecursion (λ m. is_output m.dir ≡ out m.sym.0) ms → gives ms ≡ d
  burst_dir d [] b h a = absurd (omega arith)
  burst_dir d (m ∷ ms) b h a = a.0 ∙ b.one_way m.sym.0 (head_in m ms)

  -- ---- the first legs have the direction with which the tree begins

  mutual
    pub begins_of : (k : ℕ) (s : TSeq) (at later : ℕ) (d e : Bool) → at ≤ k → IsSeq s → Alternates out d s e
        → ((l : Leg) → Among (legs_of k s at later) l → Sound l) → (l : Leg) → Among (legs_of k s at later) l
        → l.from ≡ at → is_act l ≡ d
    begins_of k Done at later d e b h f sound l a x = absurd a
    begins_of k (Then i s) at later d e b h f sound l a x =
        let here = legs_in k i at (point (k + places_in i) s later) in
        let after = legs_of (k + places_in i) s (k + places_in i) later in
        ⊎_elim
        (λ c. begins_in k i at (point (k + places_in i) s later) d f.0 b h.0 f.1
        (λ m g. sound m (among_left here after m g)) l c x)
        (λ c. absurd (not_later k i s at later b h l c x))
        (among_append here after l a)

    pub begins_in : (k : ℕ) (i : TItem) (at later : ℕ) (d e : Bool) → at ≤ k → IsItem i
        → AlternatesIn out d i e → ((l : Leg) → Among (legs_in k i at later) l → Sound l) → (l : Leg)
        → Among (legs_in k i at later) l → l.from ≡ at → is_act l ≡ d
    begins_in k (TBurst ms) at later d e b h f sound l a x = ⊎_elim
        (λ c. subst (λ m. is_act m ≡ d) c (burst_dir d ms f.0 h (sound _ (inl refl)).1)) (λ n. absurd n) a
    begins_in k (TAlt ss) at later d e b h f sound l a x = begins_among k ss at later d e b h.1 f.1 sound l a
        x

    pub begins_among : (k : ℕ) (ss : TSeqs) (at later : ℕ) (d e : Bool) → at ≤ k → AreSeqs ss
        → AlternatesAmong out d ss e → ((l : Leg) → Among (legs_among k ss at later) l → Sound l) → (l : Leg)
        → Among (legs_among k ss at later) l → l.from ≡ at → is_act l ≡ d
    begins_among k Stop at later d e b h f sound l a x = absurd a
    begins_among k (Or s ss) at later d e b h f sound l a x =
        let one = legs_of k s at later in
        let others = legs_among (k + places_of s) ss at later in
        ⊎_elim
        (λ c. begins_of k s at later d e b (full_seq s h.0) f.0 (λ m g. sound m (among_left one others m g))
        l c x)
        (λ c. begins_among (k + places_of s) ss at later d e (omega (arith, b)) h.1 f.1
        (λ m g. sound m (among_right one others m g)) l c x)
        (among_append one others l a)

  -- ---- an act is alone at its point

  mutual
    pub lone_of : (k : ℕ) (s : TSeq) (at later : ℕ) (d e : Bool) → at ≤ k → IsSeq s → Alternates out d s e
        → ((l : Leg) → Among (legs_of k s at later) l → Sound l)
        → (m l : Leg) → Among (legs_of k s at later) m → Among (legs_of k s at later) l → is_act m ≡ true
        → l.from ≡ m.from → l ≡ m
    lone_of k Done at later d e b h f sound m l u v x y = absurd u
    lone_of k (Then i s) at later d e b h f sound m l u v x y =
        let here = legs_in k i at (point (k + places_in i) s later) in
        let after = legs_of (k + places_in i) s (k + places_in i) later in
        ⊎_elim
        (λ p. ⊎_elim
        (λ q. lone_in k i at (point (k + places_in i) s later) d f.0 b h.0 f.1
        (λ n g. sound n (among_left here after n g)) m l p q x y)
        (λ q. absurd (never_meet k (places_in i) (places_of s) at m l b
        (range_in k i at (point (k + places_in i) s later) h.0 m p)
        (range_of (k + places_in i) s (k + places_in i) later h.1 l q) (sym y)))
        (among_append here after l v))
        (λ p. ⊎_elim
        (λ q. absurd (never_meet k (places_in i) (places_of s) at l m b
        (range_in k i at (point (k + places_in i) s later) h.0 l q)
        (range_of (k + places_in i) s (k + places_in i) later h.1 m p) y))
        (λ q. lone_of (k + places_in i) s (k + places_in i) later f.0 e (omega arith) h.1 f.2
        (λ n g. sound n (among_right here after n g)) m l p q x y)
        (among_append here after l v))
        (among_append here after m u)

    pub lone_in : (k : ℕ) (i : TItem) (at later : ℕ) (d e : Bool) → at ≤ k → IsItem i
        → AlternatesIn out d i e → ((l : Leg) → Among (legs_in k i at later) l → Sound l)
        → (m l : Leg) → Among (legs_in k i at later) m → Among (legs_in k i at later) l → is_act m ≡ true
        → l.from ≡ m.from → l ≡ m
    lone_in k (TBurst ms) at later d e b h f sound m l u v x y = ⊎_elim
        (λ p. ⊎_elim (λ q. sym q ∙ p) (λ n. absurd n) v) (λ n. absurd n) u
    lone_in k (TAlt ss) at later d e b h f sound m l u v x y = lone_among k ss at later d e b h.1 f.0 f.1
        sound m l u v x y

    pub lone_among : (k : ℕ) (ss : TSeqs) (at later : ℕ) (d e : Bool) → at ≤ k → AreSeqs ss → d ≡ false
        → AlternatesAmong out d ss e → ((l : Leg) → Among (legs_among k ss at later) l → Sound l)
        → (m l : Leg) → Among (legs_among k ss at later) m → Among (legs_among k ss at later) l
        → is_act m ≡ true → l.from ≡ m.from → l ≡ m
    lone_among k Stop at later d e b h z f sound m l u v x y = absurd u
    lone_among k (Or s ss) at later d e b h z f sound m l u v x y =
        let one = legs_of k s at later in
        let others = legs_among (k + places_of s) ss at later in
        let r : (n : Leg) → Among one n → Range k (places_of s) at n = λ n g. range_of k s at later
        (full_seq s h.0) n g in
        let t : (n : Leg) → Among others n → Range (k + places_of s) (places_among ss) at n = λ n g.
        range_among (k + places_of s) ss at later h.1 n g in
        let first = begins_among k (Or s ss) at later d e b h f sound m u in
        let never : m.from ≡ at → ⊥ = λ w. true≢false (sym x ∙ first w ∙ z) in
        ⊎_elim
        (λ p. ⊎_elim
        (λ q. lone_of k s at later d e b (full_seq s h.0) f.0 (λ n g. sound n (among_left one others n g)) m
        l p q x y)
        (λ q. absurd (never (meet k (places_of s) (places_among ss) at m l b (r m p) (t l q) (sym y)).0))
        (among_append one others l v))
        (λ p. ⊎_elim
        (λ q. absurd (never (meet k (places_of s) (places_among ss) at l m b (r l q) (t m p) y).1))
        (λ q. lone_among (k + places_of s) ss at later d e (omega (arith, b)) h.1 z f.1
        (λ n g. sound n (among_right one others n g)) m l p q x y)
        (among_append one others l v))
        (among_append one others m u)

-- ---- legs from one point share no symbol

mutual
  pub one_of : (k : ℕ) (s : TSeq) (at later : ℕ) → at ≤ k → IsSeq s → IsApart s
      → (l m : Leg) (a : ℕ) → Among (legs_of k s at later) l → Among (legs_of k s at later) m
      → l.from ≡ m.from → Has l a → Has m a → l ≡ m
  one_of k Done at later b h f l m a u v y p q = absurd u
  one_of k (Then i s) at later b h f l m a u v y p q =
      let here = legs_in k i at (point (k + places_in i) s later) in
      let after = legs_of (k + places_in i) s (k + places_in i) later in
      ⊎_elim
      (λ c. ⊎_elim
      (λ w. one_in k i at (point (k + places_in i) s later) b h.0 f.0 l m a c w y p q)
      (λ w. absurd (never_meet k (places_in i) (places_of s) at l m b
      (range_in k i at (point (k + places_in i) s later) h.0 l c)
      (range_of (k + places_in i) s (k + places_in i) later h.1 m w) y))
      (among_append here after m v))
      (λ c. ⊎_elim
      (λ w. absurd (never_meet k (places_in i) (places_of s) at m l b
      (range_in k i at (point (k + places_in i) s later) h.0 m w)
      (range_of (k + places_in i) s (k + places_in i) later h.1 l c) (sym y)))
      (λ w. one_of (k + places_in i) s (k + places_in i) later (omega arith) h.1 f.1 l m a c w y p q)
      (among_append here after m v))
      (among_append here after l u)

  pub one_in : (k : ℕ) (i : TItem) (at later : ℕ) → at ≤ k → IsItem i → IsApartIn i
      → (l m : Leg) (a : ℕ) → Among (legs_in k i at later) l → Among (legs_in k i at later) m
      → l.from ≡ m.from → Has l a → Has m a → l ≡ m
  one_in k (TBurst ms) at later b h f l m a u v y p q = ⊎_elim
      (λ c. ⊎_elim (λ w. sym c ∙ w) (λ n. absurd n) v) (λ n. absurd n) u
  one_in k (TAlt ss) at later b h f l m a u v y p q = one_among k ss at later b h.1 f l m a u v y p q

  pub one_among : (k : ℕ) (ss : TSeqs) (at later : ℕ) → at ≤ k → AreSeqs ss → AreApart ss
      → (l m : Leg) (a : ℕ) → Among (legs_among k ss at later) l → Among (legs_among k ss at later) m
      → l.from ≡ m.from → Has l a → Has m a → l ≡ m
  one_among k Stop at later b h f l m a u v y p q = absurd u
  one_among k (Or s ss) at later b h f l m a u v y p q =
      let one = legs_of k s at later in
      let others = legs_among (k + places_of s) ss at later in
      let r : (n : Leg) → Among one n → Range k (places_of s) at n = λ n g. range_of k s at later
      (full_seq s h.0) n g in
      let t : (n : Leg) → Among others n → Range (k + places_of s) (places_among ss) at n = λ n g.
      range_among (k + places_of s) ss at later h.1 n g in
      let first : (n : Leg) → Among one n → n.from ≡ at → Firsts (FirstOf s) n = λ n g e. first_of k s at
      later b (full_seq s h.0) n g e in
      let second : (n : Leg) → Among others n → n.from ≡ at → Firsts (FirstAmong ss) n = λ n g e. first_among
      (k + places_of s) ss at later (omega (arith, b)) h.1 n g e in
      ⊎_elim
      (λ c. ⊎_elim
      (λ w. one_of k s at later b (full_seq s h.0) f.0 l m a c w y p q)
      (λ w.
      let e = meet k (places_of s) (places_among ss) at l m b (r l c) (t m w) y in
      absurd (f.2 l.marks m.marks (first l c e.0).0 (second m w e.1).0 (first l c e.0).1 (second m w e.1).1 a
      p q))
      (among_append one others m v))
      (λ c. ⊎_elim
      (λ w.
      let e = meet k (places_of s) (places_among ss) at m l b (r m w) (t l c) (sym y) in
      absurd (f.2 m.marks l.marks (first m w e.0).0 (second l c e.1).0 (first m w e.0).1 (second l c e.1).1 a
      q p))
      (λ w. one_among (k + places_of s) ss at later (omega (arith, b)) h.1 f.1 l m a c w y p q)
      (among_append one others m v))
      (among_append one others l u)

-- ---- a tree that is not empty has a first leg

mutual
  pub some_leg : (k : ℕ) (s : TSeq) (at later : ℕ) → IsFull s
      → (l : Leg) × Among (legs_of k s at later) l × (l.from ≡ at)
  some_leg k Done at later h = absurd h
  some_leg k (Then i s) at later h =
      let w = some_leg_in k i at (point (k + places_in i) s later) h.0 in (
        w.0,
        among_left (legs_in k i at (point (k + places_in i) s later))
            (legs_of (k + places_in i) s (k + places_in i) later) w.0 w.1,
        w.2,
      )

  some_leg_in : (k : ℕ) (i : TItem) (at later : ℕ) → IsItem i
      → (l : Leg) × Among (legs_in k i at later) l × (l.from ≡ at)
  some_leg_in k (TBurst ms) at later
      h = (record { from = at; place = k; marks = ms; to = later }, inl refl, refl)
  some_leg_in k (TAlt ss) at later h = some_leg_among k ss at later h.1 (omega (arith, h.0))

  some_leg_among : (k : ℕ) (ss : TSeqs) (at later : ℕ) → AreSeqs ss → 0 < count_of ss
      → (l : Leg) × Among (legs_among k ss at later) l × (l.from ≡ at)
  some_leg_among k Stop at later h n = absurd (omega (arith, n))
  some_leg_among k (Or s ss) at later h n =
      let w = some_leg k s at later h.0 in
      (w.0, among_left (legs_of k s at later) (legs_among (k + places_of s) ss at later) w.0 w.1, w.2)

-- ---- legs of the other direction lead on

pub leads_more : (L M : List Leg) (l : Leg) → ((m : Leg) → Among L m → Among M m) → LeadsOn L l → LeadsOn M l
leads_more L M l f w = record { next = w.next; among = f w.next w.among; from = w.from; turns = w.turns }

module _ (out : ℕ → Bool) where
  -- leads on within the tree, or out of it
  abbrev pub Onward : List Leg → ℕ → Bool → Leg → Type 0
  Onward L later e l = LeadsOn L l ⊎ ((l.to ≡ later) × (is_act l ≡ not e))

  onward_more : (L M : List Leg) (later : ℕ) (e : Bool) (l : Leg) → ((m : Leg) → Among L m → Among M m)
      → Onward L later e l → Onward M later e l
  onward_more L M later e l f w = ⊎_elim (λ x. inl (leads_more L M l f x)) (λ x. inr x) w

  -- a leg that leads to the point before a tree
  pub leads_into : (k : ℕ) (s : TSeq) (later : ℕ) (d e : Bool) → IsSeq s → Alternates out d s e
      → ((l : Leg) → Among (legs_of k s k later) l → Sound out l)
      → (l : Leg) → l.to ≡ point k s later → is_act l ≡ not d → Onward (legs_of k s k later) later e l
  leads_into k Done later d e h f sound l x y = inr (x, y ∙ ap not f)
  leads_into k (Then i s) later d e h f sound l x y =
      let w = some_leg k (Then i s) k later h in
      inl (record {
        next = w.0;
        among = w.1;
        from = w.2
            ∙ sym x;
        turns = begins_of out k (Then i s) k later d e (omega arith) h f sound w.0 w.1 w.2
            ∙ sym (ap not y ∙ not_not d);
      })

  mutual
    pub leads_of : (k : ℕ) (s : TSeq) (at later : ℕ) (d e : Bool) → at ≤ k → IsSeq s → Alternates out d s e
        → ((l : Leg) → Among (legs_of k s at later) l → Sound out l)
        → (l : Leg) → Among (legs_of k s at later) l → Onward (legs_of k s at later) later e l
    leads_of k Done at later d e b h f sound l a = absurd a
    leads_of k (Then i s) at later d e b h f sound l a =
        let here = legs_in k i at (point (k + places_in i) s later) in
        let after = legs_of (k + places_in i) s (k + places_in i) later in
        ⊎_elim
        (λ c. ⊎_elim
        (λ w. inl (leads_more here (here ++ after) l (λ m g. among_left here after m g) w))
        (λ w. onward_more after (here ++ after) later e l (λ m g. among_right here after m g)
        (leads_into (k + places_in i) s later f.0 e h.1 f.2 (λ m g. sound m (among_right here after m g))
        l w.0 w.1))
        (leads_in k i at (point (k + places_in i) s later) d f.0 b h.0 f.1
        (λ m g. sound m (among_left here after m g)) l c))
        (λ c. onward_more after (here ++ after) later e l (λ m g. among_right here after m g)
        (leads_of (k + places_in i) s (k + places_in i) later f.0 e (omega arith) h.1 f.2
        (λ m g. sound m (among_right here after m g)) l c))
        (among_append here after l a)

    pub leads_in : (k : ℕ) (i : TItem) (at later : ℕ) (d e : Bool) → at ≤ k → IsItem i
        → AlternatesIn out d i e → ((l : Leg) → Among (legs_in k i at later) l → Sound out l)
        → (l : Leg) → Among (legs_in k i at later) l → Onward (legs_in k i at later) later e l
    leads_in k (TBurst ms) at later d e b h f sound l a = ⊎_elim
        (λ c. subst (λ m. Onward (legs_in k (TBurst ms) at later) later e m) c
        (inr (refl, burst_dir out d ms f.0 h (sound _ (inl refl)).1 ∙ sym (ap not f.1 ∙ not_not d))))
        (λ n. absurd n)
        a
    leads_in k (TAlt ss) at later d e b h f sound l a = leads_among k ss at later d e b h.1 f.1 sound l a

    pub leads_among : (k : ℕ) (ss : TSeqs) (at later : ℕ) (d e : Bool) → at ≤ k → AreSeqs ss
        → AlternatesAmong out d ss e → ((l : Leg) → Among (legs_among k ss at later) l → Sound out l)
        → (l : Leg) → Among (legs_among k ss at later) l → Onward (legs_among k ss at later) later e l
    leads_among k Stop at later d e b h f sound l a = absurd a
    leads_among k (Or s ss) at later d e b h f sound l a =
        let one = legs_of k s at later in
        let others = legs_among (k + places_of s) ss at later in
        ⊎_elim
        (λ c. onward_more one (one ++ others) later e l (λ m g. among_left one others m g)
        (leads_of k s at later d e b (full_seq s h.0) f.0 (λ m g. sound m (among_left one others m g)) l
        c))
        (λ c. onward_more others (one ++ others) later e l (λ m g. among_right one others m g)
        (leads_among (k + places_of s) ss at later d e (omega (arith, b)) h.1 f.1
        (λ m g. sound m (among_right one others m g)) l c))
        (among_append one others l a)
