-- Where a function tells what is left at each point, the bursts that come next at a point are the legs from
-- it.
use Rattle.std.proofs.Common.{◌≡◌, inl, inr, ⊎_elim, ◌↔◌, ℕ, ◌+◌, List, ◌++◌, refl, sym, ap, ◌∙◌, subst, Option}
use Rattle.std.specs.Prelude.{⊤}
use Rattle.cmd_tree.specs.declared.tree.Mark.{Mark}
use Rattle.cmd_tree.specs.Tree.{TItem, TSeq, TSeqs, TBurst, TAlt, Stop, Or, Done, Then, places_of, places_in}
use Rattle.cmd_tree.specs.Join.{join}
use Rattle.cmd_tree.specs.Residual.{FirstOf, FirstIn, FirstAmong, Next}
use Rattle.place_graph.specs.declared.leg.Leg.{Leg}
use Rattle.place_graph.specs.Points.{point, legs_of, legs_in, legs_among, Among}
use Rattle.place_graph.proofs.Joined.{among_append, among_left, among_right, join_assoc}

-- the same bursts may come next
abbrev pub Like : Option TSeq → TSeq → TSeq → Type 0
Like body q r = (ms : List Mark) (t : TSeq) → Next body q ms t ↔ Next body r ms t

pub like_same : (body : Option TSeq) (q r : TSeq) → q ≡ r → Like body q r
like_same body q r e = λ ms t.
    (λ n. subst (λ x. Next body x ms t) e n, λ n. subst (λ x. Next body x ms t) (sym e) n)

-- a burst of the first sequence is one of both
pub first_join : (body : Option TSeq) (s lr : TSeq) (ms : List Mark) (r : TSeq) → FirstOf s ms r
    → Next body (join s lr) ms (join r lr)
first_join body Done lr ms r f = absurd f
first_join body (Then j s) lr ms r f = (f.0, f.1, ap (λ x. join x lr) f.2 ∙ join_assoc f.0 s lr)

-- and a burst of both is one of the first, where it is not empty
pub join_first : (body : Option TSeq) (j : TItem) (s lr : TSeq) (ms : List Mark) (t : TSeq)
    → Next body (join (Then j s) lr) ms t → (r : TSeq) × FirstOf (Then j s) ms r × (t ≡ join r lr)
join_first body j s lr ms t n = (join n.0 s, (n.0, n.1, refl), n.2 ∙ sym (join_assoc n.0 s lr))

module _ (body : Option TSeq) (g : ℕ → TSeq) where
  -- at the point x what g says may be left, as r may
  abbrev pub Fits : ℕ → TSeq → Type 0
  Fits x r = Like body (g x) r

  -- g tells what is left at each point in a tree at place k that is left at `later`, where lr is left
  abbrev mutual
    pub Told : ℕ → TSeq → ℕ → TSeq → Type 0
    Told k Done later lr = ⊤
    Told k (Then i s) later lr = ToldIn k i (point (k + places_in i) s later) (join s lr) × Fits
        (point (k + places_in i) s later) (join s lr) × Told (k + places_in i) s later lr

    pub ToldIn : ℕ → TItem → ℕ → TSeq → Type 0
    ToldIn k (TBurst ms) later lr = ⊤
    ToldIn k (TAlt ss) later lr = ToldAmong k ss later lr

    pub ToldAmong : ℕ → TSeqs → ℕ → TSeq → Type 0
    ToldAmong k Stop later lr = ⊤
    ToldAmong k (Or s ss) later lr = Told k s later lr × ToldAmong (k + places_of s) ss later lr

  enters : (k : ℕ) (s : TSeq) (later : ℕ) (lr : TSeq) → Fits (point k s later) (join s lr)
      → (ms : List Mark) (r : TSeq) → FirstOf s ms r → Next body (g k) ms (join r lr)
  enters k Done later lr fit ms r f = absurd f
  enters k (Then j s) later lr fit ms r f = (fit ms (join r lr)).1 (first_join body (Then j s) lr ms r f)

  -- ---- each leg is a burst that comes next at its point

  pub record Comes (l : Leg) : Type 0 where
    pub rest : TSeq
    pub next : Next body (g l.from) l.marks rest
    pub fits : Fits l.to rest

  mutual
    pub comes_of : (k : ℕ) (s : TSeq) (at later : ℕ) (lr : TSeq) → Told k s later lr → Fits later lr
        → ((ms : List Mark) (r : TSeq) → FirstOf s ms r → Next body (g at) ms (join r lr)) → (l : Leg)
        → Among (legs_of k s at later) l → Comes l
    comes_of k Done at later lr h fit enter l a = absurd a
    comes_of k (Then i s) at later lr h fit enter l a = ⊎_elim
        (λ b. comes_in k i at (point (k + places_in i) s later) (join s lr) h.0 h.1
        (λ ms q f. subst (λ r. Next body (g at) ms r) (join_assoc q s lr)
        (enter ms (join q s) (q, f, refl))) l b)
        (λ b. comes_of (k + places_in i) s (k + places_in i) later lr h.2 fit
        (enters (k + places_in i) s later lr h.1) l b)
        (among_append (legs_in k i at (point (k + places_in i) s later))
        (legs_of (k + places_in i) s (k + places_in i) later) l a)

    pub comes_in : (k : ℕ) (i : TItem) (at later : ℕ) (lr : TSeq) → ToldIn k i later lr → Fits later lr
        → ((ms : List Mark) (r : TSeq) → FirstIn i ms r → Next body (g at) ms (join r lr)) → (l : Leg)
        → Among (legs_in k i at later) l → Comes l
    comes_in k (TBurst ms) at later lr h fit enter l a = ⊎_elim
        (λ e. subst (λ m. Comes m) e (record { rest = lr; next = enter ms Done (refl, refl); fits = fit }))
        (λ n. absurd n)
        a
    comes_in k (TAlt ss) at later lr h fit enter l a = comes_among k ss at later lr h fit enter l a

    pub comes_among : (k : ℕ) (ss : TSeqs) (at later : ℕ) (lr : TSeq) → ToldAmong k ss later lr
        → Fits later lr
        → ((ms : List Mark) (r : TSeq) → FirstAmong ss ms r → Next body (g at) ms (join r lr)) → (l : Leg)
        → Among (legs_among k ss at later) l → Comes l
    comes_among k Stop at later lr h fit enter l a = absurd a
    comes_among k (Or s ss) at later lr h fit enter l a = ⊎_elim
        (λ b. comes_of k s at later lr h.0 fit (λ ms r f. enter ms r (inl f)) l b)
        (λ b. comes_among (k + places_of s) ss at later lr h.1 fit (λ ms r f. enter ms r (inr f)) l b)
        (among_append (legs_of k s at later) (legs_among (k + places_of s) ss at later) l a)

  -- ---- and the other way round

  pub record Led (L : List Leg) (at : ℕ) (ms : List Mark) (r : TSeq) : Type 0 where
    pub leg : Leg
    pub among : Among L leg
    pub leaves : leg.from ≡ at
    pub marks : leg.marks ≡ ms
    pub fits : Fits leg.to r

  pub led_more : (L M : List Leg) (at : ℕ) (ms : List Mark) (r q : TSeq)
      → ((l : Leg) → Among L l → Among M l) → r ≡ q → Led L at ms r → Led M at ms q
  led_more L M at ms r q f e
      d = record {
        leg = d.leg;
        among = f d.leg d.among;
        leaves = d.leaves;
        marks = d.marks;
        fits = subst
            (λ x. Fits d.leg.to x) e d.fits;
      }

  mutual
    pub led_of : (k : ℕ) (s : TSeq) (at later : ℕ) (lr : TSeq) → Told k s later lr → Fits later lr
        → (ms : List Mark) (r : TSeq) → FirstOf s ms r → Led (legs_of k s at later) at ms (join r lr)
    led_of k Done at later lr h fit ms r f = absurd f
    led_of k (Then i s) at later lr h fit ms r f =
        let here = legs_in k i at (point (k + places_in i) s later) in
        let after = legs_of (k + places_in i) s (k + places_in i) later in
        led_more here (here ++ after) at ms (join f.0 (join s lr)) (join r lr)
        (λ l a. among_left here after l a) (sym (ap (λ x. join x lr) f.2 ∙ join_assoc f.0 s lr))
        (led_in k i at (point (k + places_in i) s later) (join s lr) h.0 h.1 ms f.0 f.1)

    pub led_in : (k : ℕ) (i : TItem) (at later : ℕ) (lr : TSeq) → ToldIn k i later lr → Fits later lr
        → (ms : List Mark) (r : TSeq) → FirstIn i ms r → Led (legs_in k i at later) at ms (join r lr)
    led_in k (TBurst bs) at later lr h fit ms r f = record {
      leg = record { from = at; place = k; marks = bs; to = later };
      among = inl refl;
      leaves = refl;
      marks = sym f.0;
      fits = subst (λ x. Fits later (join x lr)) (sym f.1) fit;
    }
    led_in k (TAlt ss) at later lr h fit ms r f = led_among k ss at later lr h fit ms r f

    pub led_among : (k : ℕ) (ss : TSeqs) (at later : ℕ) (lr : TSeq) → ToldAmong k ss later lr → Fits later lr
        → (ms : List Mark) (r : TSeq) → FirstAmong ss ms r → Led (legs_among k ss at later) at ms (join r lr)
    led_among k Stop at later lr h fit ms r f = absurd f
    led_among k (Or s ss) at later lr h fit ms r f =
        let one = legs_of k s at later in
        let others = legs_among (k + places_of s) ss at later in
        ⊎_elim
        (λ q. led_more one (one ++ others) at ms (join r lr) (join r lr) (λ l a. among_left one others l a)
        refl (led_of k s at later lr h.0 fit ms r q))
        (λ q. led_more others (one ++ others) at ms (join r lr) (join r lr)
        (λ l a. among_right one others l a) refl
        (led_among (k + places_of s) ss at later lr h.1 fit ms r q))
        f

  -- ---- at the point to which a leg leads, each burst that comes next is a leg

  module _ (L : List Leg) where
    abbrev pub Goes : ℕ → Type 0
    Goes x = (ms : List Mark) (r : TSeq) → Next body (g x) ms r → Led L x ms r

    goes_tail : (k : ℕ) (s : TSeq) (later : ℕ) (lr : TSeq) → Told k s later lr
        → Fits (point k s later) (join s lr) → Fits later lr → Goes later
        → ((l : Leg) → Among (legs_of k s k later) l → Among L l) → Goes (point k s later)
    goes_tail k Done later lr h here fit go sub = go
    goes_tail k (Then j s) later lr h here fit go sub = λ ms r n.
        let f = join_first body j s lr ms r ((here ms r).0 n) in
        led_more (legs_of k (Then j s) k later) L k ms (join f.0 lr) r sub (sym f.2)
        (led_of k (Then j s) k later lr h fit ms f.0 f.1)

    mutual
      pub goes_of : (k : ℕ) (s : TSeq) (at later : ℕ) (lr : TSeq) → Told k s later lr → Fits later lr
          → Goes later → ((l : Leg) → Among (legs_of k s at later) l → Among L l) → (l : Leg)
          → Among (legs_of k s at later) l → Goes l.to
      goes_of k Done at later lr h fit go sub l a = absurd a
      goes_of k (Then i s) at later lr h fit go sub l a =
          let here = legs_in k i at (point (k + places_in i) s later) in
          let after = legs_of (k + places_in i) s (k + places_in i) later in
          ⊎_elim
          (λ b. goes_in k i at (point (k + places_in i) s later) (join s lr) h.0 h.1
          (goes_tail (k + places_in i) s later lr h.2 h.1 fit go
          (λ m c. sub m (among_right here after m c))) (λ m c. sub m (among_left here after m c)) l b)
          (λ b. goes_of (k + places_in i) s (k + places_in i) later lr h.2 fit go
          (λ m c. sub m (among_right here after m c)) l b)
          (among_append here after l a)

      pub goes_in : (k : ℕ) (i : TItem) (at later : ℕ) (lr : TSeq) → ToldIn k i later lr → Fits later lr
          → Goes later → ((l : Leg) → Among (legs_in k i at later) l → Among L l) → (l : Leg)
          → Among (legs_in k i at later) l → Goes l.to
      goes_in k (TBurst ms) at later lr h fit go sub l a = ⊎_elim (λ e. subst (λ m. Goes m.to) e go)
          (λ n. absurd n) a
      goes_in k (TAlt ss) at later lr h fit go sub l a = goes_among k ss at later lr h fit go sub l a

      pub goes_among : (k : ℕ) (ss : TSeqs) (at later : ℕ) (lr : TSeq) → ToldAmong k ss later lr
          → Fits later lr → Goes later → ((l : Leg) → Among (legs_among k ss at later) l → Among L l)
          → (l : Leg) → Among (legs_among k ss at later) l → Goes l.to
      goes_among k Stop at later lr h fit go sub l a = absurd a
      goes_among k (Or s ss) at later lr h fit go sub l a =
          let one = legs_of k s at later in
          let others = legs_among (k + places_of s) ss at later in
          ⊎_elim
          (λ b. goes_of k s at later lr h.0 fit go (λ m c. sub m (among_left one others m c)) l b)
          (λ b. goes_among (k + places_of s) ss at later lr h.1 fit go
          (λ m c. sub m (among_right one others m c)) l b)
          (among_append one others l a)
