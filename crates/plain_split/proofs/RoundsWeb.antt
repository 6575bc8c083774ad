-- The web of rounds: its nodes, wires and rules, and what an unanswered firing keeps.
use Rattle.std.specs.Prelude.{nat_eq}
use Rattle.std.proofs.Common.{eq-eqb, ne_eqb, ◌≡◌, ℕ, suc, ◌+◌, ◌<◌, ◌≤◌, Bool, true, false, List, [], ◌∷◌, ◌++◌, ◌⊎◌, refl, ap, ◌∙◌, arith}
use native.Mathlib.Decide.{ℕ_discrete}
use Rattle.cmd_tree.specs.Rounds.{tally, naught}
use Rattle.basic_kinds.proofs.Totals.{total_le, total_one, total_gap, total_gap2, total_none, total_some}
use Rattle.net_laws.proofs.Webs.{Web, Decides, test, test_decides}
use Rattle.net_laws.proofs.Told.{Lawful}
use Rattle.net_laws.proofs.Woven.{Reads}
use Rattle.plain_split.specs.RoundsNet.{Path, Top, Odd, Even, depth, path_discrete, Wire, Sym, To, Go, Put, Out, wire_discrete, Name, Env, Join, Tog, Gate, Spread, Shows, name_discrete}
use Rattle.plain_split.proofs.RoundsPlan.{Plan, when, sum_over, Sane}

abbrev pub same_wire : Wire → Wire → Bool
same_wire = test (wire_discrete ℕ_discrete path_discrete)

pub wires_decide : Decides same_wire
wires_decide = test_decides (wire_discrete ℕ_discrete path_discrete)

abbrev pub same_name : Name → Name → Bool
same_name = test (name_discrete path_discrete ℕ_discrete)

pub names_decide : Decides same_name
names_decide = test_decides (name_discrete path_discrete ℕ_discrete)

-- the symbols of a trace of wires
abbrev pub word : List Wire → List ℕ
word [] = []
word (Sym a ∷ t) = a ∷ word t
word (Out a ∷ t) = a ∷ word t
word (To p ∷ t) = word t
word (Go y ∷ t) = word t
word (Put y a ∷ t) = word t

pub word_sym : (t : List Wire) (a : ℕ) → word (t ++ Sym a ∷ []) ≡ word t ++ a ∷ []
word_sym [] a = refl
word_sym (Sym b ∷ t) a = ap (λ u. b ∷ u) (word_sym t a)
word_sym (Out b ∷ t) a = ap (λ u. b ∷ u) (word_sym t a)
word_sym (To p ∷ t) a = word_sym t a
word_sym (Go y ∷ t) a = word_sym t a
word_sym (Put y b ∷ t) a = word_sym t a

pub word_out : (t : List Wire) (a : ℕ) → word (t ++ Out a ∷ []) ≡ word t ++ a ∷ []
word_out [] a = refl
word_out (Sym b ∷ t) a = ap (λ u. b ∷ u) (word_out t a)
word_out (Out b ∷ t) a = ap (λ u. b ∷ u) (word_out t a)
word_out (To p ∷ t) a = word_out t a
word_out (Go y ∷ t) a = word_out t a
word_out (Put y b ∷ t) a = word_out t a

abbrev pub driver : Wire → Name
driver (Sym a) = Env
driver (To Top) = Join
driver (To (Odd p)) = Tog p
driver (To (Even p)) = Tog p
driver (Go y) = Gate y
driver (Put y a) = Spread y
driver (Out a) = Shows a

pub tog_apart : (p q : Path) → Tog p ≡ Tog q → depth q ≡ suc (depth p) → ⊥
tog_apart p q e d = let z : p ≡ q = cc in omega (arith, ap depth z)

module _ (g : Plan) where
  -- what takes the wire of a place
  abbrev pub below : Bool → Path → Name
  below true p = Gate (g.act_at p)
  below false p = Tog p

  abbrev pub receiver : Wire → Name
  receiver (Sym a) = Join
  receiver (To p) = below (nat_eq (depth p) g.levels) p
  receiver (Go y) = Spread y
  receiver (Put y a) = Shows a
  receiver (Out a) = Env

  pub to_gate : (p : Path) → depth p ≡ g.levels → receiver (To p) ≡ Gate (g.act_at p)
  to_gate p e = rw (eq-eqb (depth p) g.levels e) refl

  pub to_tog : (p : Path) → depth p < g.levels → receiver (To p) ≡ Tog p
  to_tog p low = rw (ne_eqb (depth p) g.levels (λ e. omega arith)) refl

  abbrev pub There : Wire → Type 0
  There (Sym a) = g.takes a ≡ true
  There (To p) = depth p ≤ g.levels
  There (Go y) = y < g.acts
  There (Put y a) = (y < g.acts) × (g.gives y a ≡ true)
  There (Out a) = (y : ℕ) × (y < g.acts) × (g.gives y a ≡ true)

  -- where the driver of a wire may fire it, c are the counts of the driver's wires
  abbrev pub Fires : List Wire → (Wire → ℕ) → Wire → Type 0
  Fires t c (Sym a) = (g.out a ≡ false) × g.traces (word t ++ a ∷ [])
  Fires t c (To Top) = (a : ℕ) → g.takes a ≡ true → c (To Top) < c (Sym a)
  Fires t c (To (Odd p)) = (c (To (Odd p)) + c (To (Even p)) < c (To p)) × (c (To (Odd p)) ≡ c (To (Even p)))
  Fires t c (To (Even p)) = (c (To (Odd p)) + c (To (Even p)) < c (To p)) × (c (To (Odd p)) ≡ suc (c (To (Even p))))
  Fires t c (Go y) = c (Go y) < g.opened y + c (To (g.entry y))
  Fires t c (Put y a) = c (Put y a) < c (Go y)
  Fires t c (Out a) = c (Out a) < sum_over g a (λ y. c (Put y a))

  -- where the receiver of a wire may take it
  abbrev pub takes_to : Bool → (Wire → ℕ) → Path → Type 0
  takes_to true c p = g.opened (g.act_at p) + c (To p) ≡ c (Go (g.act_at p))
  takes_to false c p = c (To p) ≡ c (To (Odd p)) + c (To (Even p))

  abbrev pub Takes : List Wire → (Wire → ℕ) → Wire → Type 0
  Takes t c (Sym a) = c (Sym a) ≡ c (To Top)
  Takes t c (To p) = takes_to (nat_eq (depth p) g.levels) c p
  Takes t c (Go y) = (a : ℕ) → g.gives y a ≡ true → c (Go y) ≡ c (Put y a)
  Takes t c (Put y a) = sum_over g a (λ y. c (Put y a)) ≡ c (Out a)
  Takes t c (Out a) = (g.out a ≡ true) × g.traces (word t ++ a ∷ [])

  abbrev pub Rule : Name → List Wire → Wire → Type 0
  Rule n t w = There w × (((driver w ≡ n) × Fires t (tally same_wire naught t) w) ⊎ ((receiver w ≡ n) × Takes t (tally same_wire naught t) w))

  abbrev pub web : Web Name Wire
  web = record {
    same_node = same_name;
    same_wire = same_wire;
    driver = driver;
    receiver = receiver;
    outside = Env;
    rule = Rule;
  }

  pub clean : (w : Wire) → driver w ≡ receiver w → ⊥
  clean (Sym a) e = cc
  clean (To Top) e = at (nat_eq 0 g.levels) e
    where
      at : (b : Bool) → Join ≡ below b Top → ⊥
      at true e = cc
      at false e = cc
  clean (To (Odd p)) e = at (nat_eq (suc (depth p)) g.levels) e
    where
      at : (b : Bool) → Tog p ≡ below b (Odd p) → ⊥
      at true e = cc
      at false e = tog_apart p (Odd p) e refl
  clean (To (Even p)) e = at (nat_eq (suc (depth p)) g.levels) e
    where
      at : (b : Bool) → Tog p ≡ below b (Even p) → ⊥
      at true e = cc
      at false e = tog_apart p (Even p) e refl
  clean (Go y) e = cc
  clean (Put y a) e = cc
  clean (Out a) e = cc

  pub lawful : Lawful Name Wire web
  lawful = record { nodes = names_decide; wires = wires_decide; clean = clean }

  -- ---- sums over the acts that give an output

  pub sum_le : (a : ℕ) (f h : ℕ → ℕ) → ((y : ℕ) → y < g.acts → g.gives y a ≡ true → f y ≤ h y) → sum_over g a f ≤ sum_over g a h
  sum_le a f h le = total_le g.acts (λ y. when (g.gives y a) (f y)) (λ y. when (g.gives y a) (h y)) (λ y low. at (g.gives y a) y (le y low))
    where
      at : (b : Bool) (y : ℕ) → (b ≡ true → f y ≤ h y) → when b (f y) ≤ when b (h y)
      at true y k = k refl
      at false y k = omega arith

  pub sum_gap : (a : ℕ) (f h : ℕ → ℕ) → ((y : ℕ) → y < g.acts → g.gives y a ≡ true → f y ≤ h y) → (y : ℕ) → y < g.acts → g.gives y a ≡ true
      → sum_over g a f + h y ≤ sum_over g a h + f y
  sum_gap a f h le y low yes_gives =
      let e1 : when (g.gives y a) (f y) ≡ f y = rw yes_gives refl in
      let e2 : when (g.gives y a) (h y) ≡ h y = rw yes_gives refl in
      omega (arith, total_gap g.acts (λ y. when (g.gives y a) (f y)) (λ y. when (g.gives y a) (h y)) (λ z less. at (g.gives z a) z (le z less)) y low)
    where
      at : (b : Bool) (y : ℕ) → (b ≡ true → f y ≤ h y) → when b (f y) ≤ when b (h y)
      at true y k = k refl
      at false y k = omega arith

  pub sum_same : (a : ℕ) (f h : ℕ → ℕ) → ((y : ℕ) → y < g.acts → g.gives y a ≡ true → f y ≡ h y) → sum_over g a f ≡ sum_over g a h
  sum_same a f h e = omega (arith, sum_le a f h (λ y low gives. omega (arith, e y low gives)), sum_le a h f (λ y low gives. omega (arith, e y low gives)))

  -- one part is one more
  pub sum_one : (a : ℕ) (f h : ℕ → ℕ) (y : ℕ) → y < g.acts → g.gives y a ≡ true → h y ≡ suc (f y)
      → ((z : ℕ) → z < g.acts → g.gives z a ≡ true → (z ≡ y → ⊥) → h z ≡ f z) → sum_over g a h ≡ suc (sum_over g a f)
  sum_one a f h y low gives more others = total_one g.acts (λ y. when (g.gives y a) (f y)) (λ y. when (g.gives y a) (h y)) y low
      (rw gives more) (λ z less ne. at (g.gives z a) z (λ e. others z less e ne))
    where
      at : (b : Bool) (z : ℕ) → (b ≡ true → h z ≡ f z) → when b (h z) ≡ when b (f z)
      at true z k = k refl
      at false z k = refl

  pub sum_none : (a : ℕ) (f : ℕ → ℕ) → ((y : ℕ) → f y ≡ 0) → sum_over g a f ≡ 0
  sum_none a f h = total_none g.acts (λ y. when (g.gives y a) (f y)) (λ y low. at (g.gives y a) (f y) (h y))
    where
      at : (b : Bool) (n : ℕ) → n ≡ 0 → when b n ≡ 0
      at true n e = e
      at false n e = refl

  -- where the gaps of two parts together are more than that of the sums
  pub sum_gap2 : (a : ℕ) (f h : ℕ → ℕ) → ((y : ℕ) → y < g.acts → g.gives y a ≡ true → f y ≤ h y) → (y z : ℕ) → y < g.acts → z < g.acts
      → g.gives y a ≡ true → g.gives z a ≡ true → (y ≡ z → ⊥) → sum_over g a f + (h y + h z) ≤ sum_over g a h + (f y + f z)
  sum_gap2 a f h le y z low under gives also ne =
      let e1 : when (g.gives y a) (f y) ≡ f y = rw gives refl in
      let e2 : when (g.gives y a) (h y) ≡ h y = rw gives refl in
      let e3 : when (g.gives z a) (f z) ≡ f z = rw also refl in
      let e4 : when (g.gives z a) (h z) ≡ h z = rw also refl in
      omega (arith, total_gap2 g.acts (λ y. when (g.gives y a) (f y)) (λ y. when (g.gives y a) (h y)) (λ x less. at (g.gives x a) x (le x less)) y z low under ne)
    where
      at : (b : Bool) (y : ℕ) → (b ≡ true → f y ≤ h y) → when b (f y) ≤ when b (h y)
      at true y k = k refl
      at false y k = omega arith

  pub sum_some : (a : ℕ) (f h : ℕ → ℕ) → sum_over g a f < sum_over g a h → (y : ℕ) × (y < g.acts) × (g.gives y a ≡ true) × (f y < h y)
  sum_some a f h less =
      let (y, low, more) = total_some g.acts (λ y. when (g.gives y a) (f y)) (λ y. when (g.gives y a) (h y)) less in
      let (gives, under) = at (g.gives y a) (f y) (h y) more in
      (y, low, gives, under)
    where
      at : (b : Bool) (m n : ℕ) → when b m < when b n → (b ≡ true) × (m < n)
      at true m n k = (refl, k)
      at false m n k = absurd (omega arith)

  -- ---- guards by what was fired and handed over

  abbrev pub Guard : (F P : Wire → ℕ) → Wire → Type 0
  Guard F P (Sym a) = ⊥
  Guard F P (To Top) = (a : ℕ) → g.takes a ≡ true → F (To Top) < P (Sym a)
  Guard F P (To (Odd p)) = (F (To (Odd p)) + F (To (Even p)) < P (To p)) × (F (To (Odd p)) ≡ F (To (Even p)))
  Guard F P (To (Even p)) = (F (To (Odd p)) + F (To (Even p)) < P (To p)) × (F (To (Odd p)) ≡ suc (F (To (Even p))))
  Guard F P (Go y) = F (Go y) < g.opened y + P (To (g.entry y))
  Guard F P (Put y a) = F (Put y a) < P (Go y)
  Guard F P (Out a) = F (Out a) < sum_over g a (λ y. P (Put y a))

  module _ (sane : Sane g) where
    pub entry_gate : (y : ℕ) → y < g.acts → receiver (To (g.entry y)) ≡ Gate y
    entry_gate y low = to_gate (g.entry y) (sane.entry_deep y low) ∙ ap Gate (sane.act_back y low)

    pub fire_of : (F P c : Wire → ℕ) (t : List Wire) (w : Wire) → There w → (driver w ≡ Env → ⊥) → Reads Name Wire web (driver w) c F P → Fires t c w → Guard F P w
    fire_of F P c t (Sym a) x o r f = absurd (o refl)
    fire_of F P c t (To Top) x o r f = λ a k. omega (arith, f a k, r.sent (To Top) refl, r.got (Sym a) refl)
    fire_of F P c t (To (Odd p)) x o r f =
        let (u, v) = f in (
          omega (arith, u, v, r.sent (To (Odd p)) refl, r.sent (To (Even p)) refl, r.got (To p) (to_tog p (omega arith))),
          omega (arith, u, v, r.sent (To (Odd p)) refl, r.sent (To (Even p)) refl),
        )
    fire_of F P c t (To (Even p)) x o r f =
        let (u, v) = f in (
          omega (arith, u, v, r.sent (To (Odd p)) refl, r.sent (To (Even p)) refl, r.got (To p) (to_tog p (omega arith))),
          omega (arith, u, v, r.sent (To (Odd p)) refl, r.sent (To (Even p)) refl),
        )
    fire_of F P c t (Go y) x o r f = omega (arith, f, r.sent (Go y) refl, r.got (To (g.entry y)) (entry_gate y x))
    fire_of F P c t (Put y a) x o r f = omega (arith, f, r.sent (Put y a) refl, r.got (Go y) refl)
    fire_of F P c t (Out a) x o r f = omega (arith, f, r.sent (Out a) refl, sum_same a (λ y. c (Put y a)) (λ y. P (Put y a)) (λ y low gives. r.got (Put y a) refl))

    pub fires : (F P c : Wire → ℕ) (t : List Wire) (w : Wire) → There w → Reads Name Wire web (driver w) c F P → Guard F P w → Fires t c w
    fires F P c t (Sym a) x r f = absurd f
    fires F P c t (To Top) x r f = λ a k. omega (arith, f a k, r.sent (To Top) refl, r.got (Sym a) refl)
    fires F P c t (To (Odd p)) x r f =
        let (u, v) = f in (
          omega (arith, u, v, r.sent (To (Odd p)) refl, r.sent (To (Even p)) refl, r.got (To p) (to_tog p (omega arith))),
          omega (arith, u, v, r.sent (To (Odd p)) refl, r.sent (To (Even p)) refl),
        )
    fires F P c t (To (Even p)) x r f =
        let (u, v) = f in (
          omega (arith, u, v, r.sent (To (Odd p)) refl, r.sent (To (Even p)) refl, r.got (To p) (to_tog p (omega arith))),
          omega (arith, u, v, r.sent (To (Odd p)) refl, r.sent (To (Even p)) refl),
        )
    fires F P c t (Go y) x r f = omega (arith, f, r.sent (Go y) refl, r.got (To (g.entry y)) (entry_gate y x))
    fires F P c t (Put y a) x r f = omega (arith, f, r.sent (Put y a) refl, r.got (Go y) refl)
    fires F P c t (Out a) x r f = omega (arith, f, r.sent (Out a) refl, sum_same a (λ y. c (Put y a)) (λ y. P (Put y a)) (λ y low gives. r.got (Put y a) refl))
