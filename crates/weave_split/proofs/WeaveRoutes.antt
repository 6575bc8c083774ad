-- Which wires of the web of a weave are on one path.
use Rattle.std.proofs.Common.{◌≡◌, ◌⊎◌, inl, inr, ℕ, zero, suc, ◌+◌, ◌<◌, ◌≤◌, Bool, true, false, true≢false, List, [], ◌∷◌, map, refl, sym, ap, ◌∙◌, subst, arith, Option, Some, None, if◌then◌else◌}
use Rattle.std.proofs.lemmas.Bool.{cases_Bool}
use Rattle.cmd_tree.specs.Rounds.{tally, naught}
use Rattle.net_laws.proofs.Webs.{Web}
use Rattle.net_laws.proofs.Paths.{Hop}
use Rattle.net_laws.proofs.Among.{Among}
use Rattle.net_laws.proofs.Rules.{RoundsOn}
use Rattle.plain_split.specs.SharedPaths.{walk}
use Rattle.plain_split.specs.OneWait.{first}
use Rattle.plain_split.proofs.SharedPaths.{Onward, Backward, walk_stop, walk_on, near, near_kept}
use Rattle.plain_split.proofs.OneWaitWeb.{MergeOn}
use Rattle.plain_split.proofs.OneWaitRoutes.{only_one, Through, rounds_one, rounds_through, merge_through}
use Rattle.weave_split.specs.WeaveChart.{Wire, Take, Copy, Back, Made, Ask, Return, Token, Give, Name, Env, Process, Spread, Join, Pass, Returns, Gate, Sequencer, Ties, same_wire, shown_by, copy_for, driver, receiver, is_kept, next, rest}
use Rattle.weave_split.proofs.WeaveWeb.{Real, GateOn, Rule, web, Tied}

gate_through : (b : Bool) (i o : Wire) → b ≡ false → (i ≡ o → ⊥) → Through (GateOn b i o) i o
gate_through true i o e apart = absurd (true≢false e)
gate_through false i o e apart = rounds_one i o apart

-- ---- one step on a path

-- how many wires come before a wire on the longest path
abbrev pub back : Wire → ℕ
back (Take s) = 0
back (Copy s p) = 1
back (Back s p) = 1
back (Made s p) = 0
back (Ask s) = 1
back (Return p) = 2
back (Token p) = 3
back (Give s) = 2

abbrev pub prev : Ties → Wire → Wire
prev g (Take s) = Take s
prev g (Copy s p) = Take s
prev g (Back s p) = Take s
prev g (Made s p) = Made s p
prev g (Ask s) = Made s (first (g.givers s))
prev g (Return p) = Back (first (g.returns p)) p
prev g (Token p) = Return p
prev g (Give s) = Ask s

-- ---- a copy leads to a process or to a grant

pub copy_cases : (g : Ties) (s p : ℕ) → ((g.grants p ≡ true) × (copy_for g s p ≡ Back s p)) ⊎ ((g.grants p ≡ false) × (copy_for g s p ≡ Copy s p))
copy_cases g s p = elim (cases_Bool (g.grants p)) [
  | inl e ↦ inl (e, ap (λ b. if b then Back s p else Copy s p) e)
  | inr e ↦ inr (e, ap (λ b. if b then Back s p else Copy s p) e)
]

pub copy_driver : (g : Ties) (s p : ℕ) → driver g (copy_for g s p) ≡ Spread s
copy_driver g s p = elim (copy_cases g s p) [ inl e ↦ ap (driver g) e.1 | inr e ↦ ap (driver g) e.1 ]

pub copy_back : (g : Ties) (s p : ℕ) → back (copy_for g s p) ≡ 1
copy_back g s p = elim (copy_cases g s p) [ inl e ↦ ap back e.1 | inr e ↦ ap back e.1 ]

copy_prev : (g : Ties) (s p : ℕ) → prev g (copy_for g s p) ≡ Take s
copy_prev g s p = elim (copy_cases g s p) [ inl e ↦ ap (prev g) e.1 | inr e ↦ ap (prev g) e.1 ]

copy_rest : (g : Ties) (s p : ℕ) → rest (copy_for g s p) ≡ 2
copy_rest g s p = elim (copy_cases g s p) [ inl e ↦ ap rest e.1 | inr e ↦ ap rest e.1 ]

pub copy_real : (g : Ties) (s p : ℕ) → s < g.names → g.out s ≡ false → Among p (g.takers s) → Real g (copy_for g s p)
copy_real g s p low o a = elim (copy_cases g s p) [
  | inl e ↦ subst (Real g) (sym e.1) (low, o, e.0, a)
  | inr e ↦ subst (Real g) (sym e.1) (low, o, e.0, a)
]

-- an output that no grant gives is led straight on
pub shown_pass : (g : Ties) (o : Option ℕ) (s : ℕ) → is_kept g (shown_by o s) ≡ false → shown_by o s ≡ Pass s
shown_pass g None s lone = refl
shown_pass g (Some p) s lone = absurd (true≢false lone)

module _ (g : Ties) (whole : List ℕ → Type 0) (traces : ℕ → List ℕ → Type 0) (tied : Tied g whole traces) where
  abbrev pub d : Web Name Wire
  d = web g whole traces

  abbrev pub Forth : Wire → Type 0
  Forth w = Onward Name Wire d (is_kept g) (Real g) back rest (next g) (prev g) w

  abbrev pub Backs : Wire → Type 0
  Backs w = Backward Name Wire d (Real g) back rest (next g) (prev g) w

  hop_of : (x y : Wire) (n : Name) → receiver g x ≡ n → driver g y ≡ n → is_kept g n ≡ false → Real g y → (R : (Wire → ℕ) → Wire → Type 0)
      → ((t : List Wire) (w : Wire) → Rule g whole traces n t w → R (tally same_wire naught t) w) → ((t : List Wire) (w : Wire) → R (tally same_wire naught t) w → Rule g whole traces n t w)
      → Through R x y → Hop Name Wire d (λ n. is_kept g n ≡ true) x y
  hop_of x y n at from lone real R there again through = record {
    joins = from ∙ sym at;
    inner = λ e. true≢false (sym e ∙ ap (is_kept g) at ∙ lone);
    takes = λ t r. through.takes (tally same_wire naught t) (there t x (subst (λ m. Rule g whole traces m t x) at r.2));
    gives = λ t less. (real, inl (from ∙ sym at), subst (λ m. Rule g whole traces m t y) (sym at) (again t y (through.gives (tally same_wire naught t) less)));
    passed = λ t r. through.passed (tally same_wire naught t) (there t y (subst (λ m. Rule g whole traces m t y) at r.2));
  }

  back_known : (s p : ℕ) → g.grants p ≡ true → Among p (g.takers s) → g.out s ≡ false → Among s (g.returns p)
  back_known s p gr a o = (tied.return p s gr).1 (((tied.taker s p).0 a).1, o)

  returned_real : (s p : ℕ) → p < g.processes → g.grants p ≡ true → Among s (g.returns p) → Real g (Back s p)
  returned_real s p low gr a =
      let (m, o) = (tied.return p s gr).0 a in
      (tied.symbol_known p s low m, o, gr, (tied.taker s p).1 (low, m))

  pub onward : (w : Wire) → Real g w → is_kept g (receiver g w) ≡ false → Forth w
  onward (Take s) (low, o) lone =
      let (p, a) = tied.some_taker s low in
      let sole : g.takers s ≡ p ∷ [] = only_one (g.takers s) p lone a in
      let is : first (g.takers s) ≡ p = ap first sole in
      let to : Wire = copy_for g s (first (g.takers s)) in
      let real : Real g to = subst (λ q. Real g (copy_for g s q)) (sym is) (copy_real g s p low o a) in
      let apart : Take s ≡ to → ⊥ = λ e. omega (arith, ap back e, copy_back g s (first (g.takers s))) in record {
        there = real;
        joins = copy_driver g s (first (g.takers s));
        returns = copy_prev g s (first (g.takers s));
        further = copy_back g s (first (g.takers s));
        nearer = ap suc (sym (copy_rest g s (first (g.takers s))));
        hop = hop_of (Take s) to (Spread s) refl (copy_driver g s (first (g.takers s))) lone real (RoundsOn (Take s ∷ []) (map (copy_for g s) (g.takers s))) (λ t w r. r) (λ t w r. r)
            (rounds_through (Take s ∷ []) (map (copy_for g s) (g.takers s)) (Take s) to refl (ap (map (copy_for g s)) sole ∙ ap (λ q. copy_for g s q ∷ []) (sym is)) apart);
      }
  onward (Copy s p) t lone = absurd (true≢false lone)
  onward (Back s p) (low, o, gr, a) lone =
      let sole : g.returns p ≡ s ∷ [] = only_one (g.returns p) s lone (back_known s p gr a o) in record {
        there = (tied.grant_known p gr, gr);
        joins = refl;
        returns = ap (λ xs. Back (first xs) p) sole;
        further = refl;
        nearer = refl;
        hop = hop_of (Back s p) (Return p) (Returns p) refl refl lone (tied.grant_known p gr, gr) (MergeOn (map (λ s. Back s p) (g.returns p)) (Return p)) (λ t w r. r) (λ t w r. r)
            (merge_through (map (λ s. Back s p) (g.returns p)) (Back s p) (Return p) (ap (map (λ s. Back s p)) sole) (λ e. cc));
      }
  onward (Made s p) (low, o, a) lone =
      let sole : g.givers s ≡ p ∷ [] = only_one (g.givers s) p lone a in record {
        there = (low, o);
        joins = refl;
        returns = ap (λ xs. Made s (first xs)) sole;
        further = refl;
        nearer = refl;
        hop = hop_of (Made s p) (Ask s) (Join s) refl refl lone (low, o) (RoundsOn (map (λ p. Made s p) (g.givers s)) (Ask s ∷ [])) (λ t w r. r) (λ t w r. r)
            (rounds_through (map (λ p. Made s p) (g.givers s)) (Ask s ∷ []) (Made s p) (Ask s) (ap (map (λ p. Made s p)) sole) refl (λ e. cc));
      }
  onward (Ask s) (low, o) lone =
      let at : shown_by (g.owner s) s ≡ Pass s = shown_pass g (g.owner s) s lone in record {
        there = (low, o);
        joins = refl;
        returns = refl;
        further = refl;
        nearer = refl;
        hop = hop_of (Ask s) (Give s) (Pass s) at at refl (low, o) (RoundsOn (Ask s ∷ []) (Give s ∷ [])) (λ t w r. r) (λ t w r. r) (rounds_one (Ask s) (Give s) (λ e. cc));
      }
  onward (Return p) (low, gr) lone = record {
    there = (low, gr);
    joins = refl;
    returns = refl;
    further = refl;
    nearer = refl;
    hop = hop_of (Return p) (Token p) (Gate p) refl refl lone (low, gr) (GateOn (g.lends p) (Return p) (Token p)) (λ t w r. r) (λ t w r. r)
        (gate_through (g.lends p) (Return p) (Token p) lone (λ e. cc));
  }
  onward (Token p) t lone = absurd (true≢false lone)
  onward (Give s) t lone = absurd (true≢false lone)

  pub backward : (w : Wire) → Real g w → is_kept g (driver g w) ≡ false → Backs w
  backward (Take s) t lone = absurd (true≢false lone)
  backward (Copy s p) (low, o, gr, a) lone =
      let is : first (g.takers s) ≡ p = ap first (only_one (g.takers s) p lone a) in record {
        there = (low, o);
        joins = refl;
        returns = ap (copy_for g s) is ∙ ap (λ b. if b then Back s p else Copy s p) gr;
        further = refl;
        nearer = refl;
      }
  backward (Back s p) (low, o, gr, a) lone =
      let is : first (g.takers s) ≡ p = ap first (only_one (g.takers s) p lone a) in record {
        there = (low, o);
        joins = refl;
        returns = ap (copy_for g s) is ∙ ap (λ b. if b then Back s p else Copy s p) gr;
        further = refl;
        nearer = refl;
      }
  backward (Made s p) t lone = absurd (true≢false lone)
  backward (Ask s) (low, o) lone =
      let (p, a) = tied.some_giver s low o in
      let is : first (g.givers s) ≡ p = ap first (only_one (g.givers s) p lone a) in record {
        there = (low, o, subst (λ q. Among q (g.givers s)) (sym is) a);
        joins = refl;
        returns = refl;
        further = refl;
        nearer = refl;
      }
  backward (Return p) (low, gr) lone =
      let (s, a) = tied.some_return p gr in
      let is : first (g.returns p) ≡ s = ap first (only_one (g.returns p) s lone a) in record {
        there = subst (λ q. Real g (Back q p)) (sym is) (returned_real s p low gr a);
        joins = refl;
        returns = refl;
        further = refl;
        nearer = refl;
      }
  backward (Token p) (low, gr) lone = record { there = (low, gr); joins = refl; returns = refl; further = refl; nearer = refl }
  backward (Give s) (low, o) lone = record { there = (low, o); joins = refl; returns = refl; further = refl; nearer = refl }

  -- ---- no wire of the network leads from a node to itself: the nodes of a path have rising numbers

  abbrev code : Name → ℕ
  code Env = 0
  code (Process p) = 10
  code (Spread s) = 1
  code (Join s) = 11
  code (Pass s) = 12
  code (Returns p) = 2
  code (Gate p) = 3
  code (Sequencer p) = 12

  abbrev outset : Wire → ℕ
  outset (Take s) = 0
  outset (Copy s p) = 0
  outset (Back s p) = 0
  outset (Made s p) = 10
  outset (Ask s) = 10
  outset (Return p) = 0
  outset (Token p) = 0
  outset (Give s) = 10

  code_shown : (o : Option ℕ) (s : ℕ) → code (shown_by o s) ≡ 12
  code_shown None s = refl
  code_shown (Some p) s = refl

  code_driver : (w : Wire) → code (driver g w) ≡ outset w + back w
  code_driver (Take s) = refl
  code_driver (Copy s p) = refl
  code_driver (Back s p) = refl
  code_driver (Made s p) = refl
  code_driver (Ask s) = refl
  code_driver (Return p) = refl
  code_driver (Token p) = refl
  code_driver (Give s) = code_shown (g.owner s) s

  outset_prev : (w : Wire) → outset (prev g w) ≡ outset w
  outset_prev (Take s) = refl
  outset_prev (Copy s p) = refl
  outset_prev (Back s p) = refl
  outset_prev (Made s p) = refl
  outset_prev (Ask s) = refl
  outset_prev (Return p) = refl
  outset_prev (Token p) = refl
  outset_prev (Give s) = refl

  abbrev begun : Wire → Bool
  begun w = is_kept g (driver g w)

  outset_walk : (k : ℕ) (w : Wire) → outset (walk begun (prev g) k w) ≡ outset w
  outset_walk zero w = refl
  outset_walk (suc k) w = elim (cases_Bool (begun w)) [
    | inl b ↦ ap outset (walk_stop begun (prev g) (suc k) w b)
    | inr b ↦ ap outset (walk_on begun (prev g) k w b) ∙ outset_walk k (prev g w) ∙ outset_prev w
  ]

  -- the first wire of the path of a wire
  abbrev pub front : Wire → Wire
  front w = near Name Wire d (is_kept g) (Real g) back rest (next g) (prev g) onward backward w

  -- the number of the first node of the path of a wire
  code_front : (w : Wire) → Real g w → (code (driver g (front w)) ≡ outset w + back (front w)) × (back (front w) ≤ back w)
  code_front w t =
      let (x, k, low) = near_kept Name Wire d (is_kept g) (Real g) back rest (next g) (prev g) onward backward w t in
      (code_driver (front w) ∙ ap (λ n. n + back (front w)) (outset_walk (back w) w), low)

  pub apart_at : (w : Wire) → Real g w → driver g (front w) ≡ receiver g w → ⊥
  apart_at (Take s) t e = omega (arith, code_front (Take s) t, ap code e)
  apart_at (Copy s p) t e = omega (arith, code_front (Copy s p) t, ap code e)
  apart_at (Back s p) t e = omega (arith, code_front (Back s p) t, ap code e)
  apart_at (Made s p) t e = omega (arith, code_front (Made s p) t, ap code e)
  apart_at (Ask s) t e = omega (arith, code_front (Ask s) t, ap code e, code_shown (g.owner s) s)
  apart_at (Return p) t e = omega (arith, code_front (Return p) t, ap code e)
  apart_at (Token p) t e = omega (arith, code_front (Token p) t, ap code e)
  apart_at (Give s) t e = omega (arith, code_front (Give s) t, ap code e)
