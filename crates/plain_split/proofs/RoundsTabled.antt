-- The tables of the parts of a network of rounds are right.
use Rattle.std.proofs.Common.{◌≡◌, ℕ, zero, suc, ◌<◌, ◌^◌, Bool, List, [], ◌∷◌, map, length, get_or, refl, sym, ap, subst, ◌∙◌, arith, replicate}
use Rattle.std.proofs.Math.Path.{fun_ext}
use Rattle.std.specs.List.{AllByRecursion}
use Rattle.std.proofs.lemmas.List.{length-map, length-replicate}
use Rattle.net_laws.proofs.Among.{Distinct}
use Rattle.place_graph.specs.declared.wait_graph.Act.{Act}
use Rattle.place_graph.specs.declared.wait_graph.WaitGraph.{WaitGraph}
use Rattle.place_graph.specs.GraphTraces.{numbers_of}
use Rattle.net_core.specs.declared.spec.NodeSpec.{NodeSpec}
use Rattle.net_core.specs.Specs.{outs_of}
use Rattle.plain_split.specs.declared.gives.Give.{Give}
use Rattle.plain_split.specs.declared.round_parts.RoundParts.{RoundParts}
use Rattle.plain_split.specs.RoundsNet.{pow}
use Rattle.plain_split.specs.RoundsChart.{Parts}
use Rattle.plain_split.specs.RoundsParts.{begins_with_act, first_burst, outs_at, parts_of}
use Rattle.plain_split.specs.Mirror.RoundsGives.{with_acts, gives_of}
use Rattle.plain_split.specs.Mirror.RoundsTables.{parts_by, IsReady, IsRoundGraph, IsTabled}
use Rattle.plain_split.proofs.RoundsGiven.{AreOuts, acts_long, table_given}

-- what holds of each row holds of all
pub all_rows : {V : Type 0} (P : List ℕ → Type 0) (f : V → List ℕ) (xs : List V) → ((i : ℕ) → i < length xs → P (get_or (map f xs) i [])) → AllByRecursion (λ v. P (f v)) xs
all_rows P f [] h = tt
all_rows P f (x ∷ xs) h = (h 0 (omega arith), all_rows P f xs (λ i low. h (suc i) (omega arith)))

all_lists : (P : List ℕ → Type 0) (xs : List (List ℕ)) → ((i : ℕ) → i < length xs → P (get_or xs i [])) → AllByRecursion P xs
all_lists P [] h = tt
all_lists P (x ∷ xs) h = (h 0 (omega arith), all_lists P xs (λ i low. h (suc i) (omega arith)))

outs_table : (acts : List Act) (y : ℕ) → get_or (map (λ (a : Act). numbers_of a.outs) acts) y [] ≡ outs_at acts y
outs_table [] y = refl
outs_table (a ∷ acts) zero = refl
outs_table (a ∷ acts) (suc y) = outs_table acts y

same_parts : {s t : NodeSpec} {d e : ℕ} {o p : Bool} {b c : List ℕ} {f g : ℕ → List ℕ} → s ≡ t → d ≡ e → o ≡ p → b ≡ c → f ≡ g
    → ◌≡◌ {A = Parts} (record { spec = s; levels = d; opens = o; burst = b; outs = f }) (record { spec = t; levels = e; opens = p; burst = c; outs = g })
same_parts q r t u v = rw (q, r, t, u, v) refl

module _ (s : NodeSpec) (g : WaitGraph) (e : ℕ) (h : IsRoundGraph s g e) where
  abbrev outs : List (List ℕ)
  outs = map (λ (a : Act). numbers_of a.outs) g.acts

  outs_many : length outs ≡ pow e
  outs_many = length-map g.acts (λ (a : Act). numbers_of a.outs) ∙ h.acts

  module _ {V : Type 0} (f : V → List ℕ) (vs : List V) (are : map f vs ≡ outs) where
    rows_many : length vs ≡ pow e
    rows_many = omega (arith, length-map vs f, ap length are, outs_many)

    row : (P : List ℕ → Type 0) → ((y : ℕ) → y < pow e → P (outs_at g.acts y)) → (i : ℕ) → i < length vs → P (get_or (map f vs) i [])
    row P k i low = subst P (sym (ap (λ os. get_or os i []) are ∙ outs_table g.acts i)) (k i (omega (arith, rows_many)))

    pub rows_known : (n : ℕ) → n ≡ length (outs_of s) → AllByRecursion (λ v. AllByRecursion (λ a. a < n) (f v)) vs
    rows_known n is = all_rows (λ (os : List ℕ). AllByRecursion (λ a. a < n) os) f vs
        (row (λ (os : List ℕ). AllByRecursion (λ a. a < n) os) (λ y low. subst (λ (m : ℕ). AllByRecursion (λ a. a < m) (outs_at g.acts y)) (sym is) (h.ready.outs_known y low)))

    pub rows_few : AllByRecursion (λ v. length (f v) < 2 ^ 32) vs
    rows_few = all_rows (λ (os : List ℕ). length os < 2 ^ 32) f vs (row (λ (os : List ℕ). length os < 2 ^ 32) (λ y low. omega (arith, h.ready.few_outs y low)))

    pub rows_short : length vs < 2 ^ 32
    rows_short = omega (arith, rows_many, h.ready.few_acts)

  pub tabled : (t : RoundParts) → t.spec ≡ s → ((d : ℕ) → g.waits ≡ pow d → t.levels ≡ d) → t.opens ≡ begins_with_act g.start → t.burst.items ≡ numbers_of (first_burst g.bursts)
      → map (λ v. v.items) t.outs.items ≡ outs → t.sides.items ≡ outs_of s → map (λ v. v.items) t.gives.items ≡ with_acts 0 (map (λ v. v.items) t.outs.items) (replicate (length (outs_of s)) [])
      → IsTabled t × (parts_by t ≡ parts_of s g e)
  tabled t spec levels opens burst rows sides gives =
      let same : parts_by t ≡ parts_of s g e =
      same_parts spec (levels e h.waits) opens burst (fun_ext (λ y. ap (λ os. get_or os y []) rows ∙ outs_table g.acts y)) in
      let many : length (map (λ v. v.items) t.outs.items) ≡ pow e = ap length rows ∙ outs_many in
      let levels_are : t.levels ≡ e = levels e h.waits in
      let acts : length t.outs.items ≡ pow t.levels = omega (arith, length-map t.outs.items (λ v. v.items), many, ap pow levels_are) in
      let wide : length (outs_of t.spec) ≡ length (outs_of s) = ap (λ x. length (outs_of x)) spec in
      let ok : AreOuts (length (outs_of s)) (map (λ v. v.items) t.outs.items) =
      subst (AreOuts (length (outs_of s))) (sym rows) (all_lists (λ os. AllByRecursion (λ a. a < length (outs_of s)) os × Distinct os) outs (λ i low.
      let less : i < pow e = omega (arith, outs_many) in
      subst (λ (os : List ℕ). AllByRecursion (λ a. a < length (outs_of s)) os × Distinct os) (sym (outs_table g.acts i)) (h.ready.outs_known i less, h.ready.outs_once i less))) in (
        record {
          ready = subst IsReady (sym same) h.ready;
          acts = acts;
          sides = sides ∙ ap outs_of (sym spec);
          names = omega (
            arith,
            length-map t.gives.items (λ v. v.items),
            ap length gives,
            acts_long 0 (map (λ v. v.items) t.outs.items) (replicate (length (outs_of s)) []),
            length-replicate {A = List Give} (length (outs_of s)) [],
            wide,
          );
          gives = λ a low. ap (λ gs. get_or gs a []) gives ∙ table_given (map (λ v. v.items) t.outs.items) (length (outs_of s)) a (length-replicate {A = List Give} (length (outs_of s)) []) ok
              ∙ ap (λ k. gives_of (parts_by t).outs k a) (many ∙ ap pow (sym levels_are));
        },
        same,
      )
