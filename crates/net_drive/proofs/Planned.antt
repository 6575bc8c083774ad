-- How the plan of a network is worked out.
use Rattle.std.proofs.Common.{◌≡◌, inl, inr, ℕ, zero, suc, ◌+◌, ◌<◌, ◌≤◌, ◌^◌, Bool, true, false, List, [], ◌∷◌, ◌++◌, length, map, drop, set, get_or, Some, refl, sym, ap, ◌∙◌, subst, arith, append-nil, append_assoc}
use Rattle.std.specs.Prelude.{filter}
use Rattle.std.specs.List.{range_with_len}
use Rattle.std.proofs.lemmas.Bool.{cases_eq}
use Rattle.std.proofs.lemmas.List.{length-append, length-map, map-append, drop_all, get_or-map}
use Rattle.std.proofs.lemmas.List.Elements.{filter-append}
use Rattle.std.proofs.lemmas.List.FromFn.{length-range_with_len, length-map-range_with_len}
use Rattle.std.proofs.Math.Seq.{drop-cons}
use Rattle.std.proofs.lemmas.Option.{slice_get-get_or}
use Rattle.place_graph.specs.Points.{OneOf}
use Rattle.cmd_tree.specs.declared.command.Command.{Command}
use Rattle.cmd_machine.proofs.Noting.{Row, rows_of, set_here, set_other}
use Rattle.net_core.specs.declared.spec.NodeSpec.{NodeSpec}
use Rattle.net_core.specs.declared.spec.NodeSpec.TheVariants.{Cmd}
use Rattle.cmd_tree.specs.Limits.{marks_of_all}
use Rattle.net_core.specs.Specs.{outs_of, gives_symbol}
use Rattle.net_core.specs.Wiring.{Node, Circuit}
use Rattle.net_core.specs.Networks.{spec_of, IsSpecified}
use Rattle.replay.specs.declared.event.Event.{Event}
use Rattle.replay.specs.declared.event.Event.TheVariants.{Fire}
use Rattle.net_drive.specs.Drawn.{give_of, outputs_in, fires_from}
use Rattle.net_drive.specs.Mirror.Plans.{starts_from}

-- ---- ranges

range_more : (a n : ℕ) → range_with_len a (n + 1) ≡ range_with_len a n ++ (a + n) ∷ []
range_more a n = ap (range_with_len a) (let e : n + 1 ≡ suc n = omega arith in e) ∙ by a n
  where
    by : (a n : ℕ) → range_with_len a (suc n) ≡ range_with_len a n ++ (a + n) ∷ []
    by a zero = ap (λ m. m ∷ []) (let e : a ≡ a + 0 = omega arith in e)
    by a (suc n) = ap (λ xs. a ∷ xs) (by (a + 1) n ∙ ap (λ m. range_with_len (a + 1) n ++ m ∷ []) (let e : a + 1 + n ≡ a + suc n = omega arith in e))

pub mapped_more : (f : ℕ → Event) (a n : ℕ) (old events more : List Event) → events ≡ old ++ map f (range_with_len a n)
    → more ≡ events ++ f (a + n) ∷ [] → more ≡ old ++ map f (range_with_len a (n + 1))
mapped_more f a n old events more h k =
    k ∙ ap (λ xs. xs ++ f (a + n) ∷ []) h ∙ append_assoc old (map f (range_with_len a n)) (f (a + n) ∷ [])
    ∙ ap (λ xs. old ++ xs) (sym (map-append f (range_with_len a n) ((a + n) ∷ [])) ∙ ap (map f) (sym (range_more a n)))

module _ (f : ℕ → Bool) (n : ℕ) where
  one_kept : f n ≡ true → filter f (range_with_len 0 (n + 1)) ≡ filter f (range_with_len 0 n) ++ n ∷ []
  one_kept e = ap (filter f) (range_more 0 n) ∙ filter-append f (range_with_len 0 n) ((0 + n) ∷ [])
      ∙ ap (λ m. filter f (range_with_len 0 n) ++ filter f (m ∷ [])) (let z : 0 + n ≡ n = omega arith in z)
      ∙ ap (λ xs. filter f (range_with_len 0 n) ++ xs) (by f n e)
    where
      by : (g : ℕ → Bool) (m : ℕ) → g m ≡ true → filter g (m ∷ []) ≡ m ∷ []
      by g m h = rw h refl

  one_dropped : f n ≡ false → filter f (range_with_len 0 (n + 1)) ≡ filter f (range_with_len 0 n)
  one_dropped e = ap (filter f) (range_more 0 n) ∙ filter-append f (range_with_len 0 n) ((0 + n) ∷ [])
      ∙ ap (λ m. filter f (range_with_len 0 n) ++ filter f (m ∷ [])) (let z : 0 + n ≡ n = omega arith in z)
      ∙ ap (λ xs. filter f (range_with_len 0 n) ++ xs) (by f n e) ∙ append-nil (filter f (range_with_len 0 n))
    where
      by : (g : ℕ → Bool) (m : ℕ) → g m ≡ false → filter g (m ∷ []) ≡ []
      by g m h = rw h refl

  pub give_pushed : (events more : List Event) → events ≡ map give_of (filter f (range_with_len 0 n)) → f n ≡ true
      → more ≡ events ++ give_of n ∷ [] → more ≡ map give_of (filter f (range_with_len 0 (n + 1)))
  give_pushed events more h e k = k ∙ ap (λ xs. xs ++ give_of n ∷ []) h
      ∙ sym (map-append give_of (filter f (range_with_len 0 n)) (n ∷ [])) ∙ ap (map give_of) (sym (one_kept e))

  pub give_passed : (events : List Event) → events ≡ map give_of (filter f (range_with_len 0 n)) → f n ≡ false
      → events ≡ map give_of (filter f (range_with_len 0 (n + 1)))
  give_passed events h e = h ∙ ap (map give_of) (sym (one_dropped e))

-- ---- the fires

module _ (nodes : List Node) (k : ℕ) (x : Node) (less : k < length nodes) (is : x ≡ get_or nodes k x) where
  here : drop k nodes ≡ x ∷ drop (suc k) nodes
  here = drop-cons nodes k x less ∙ ap (λ y. y ∷ drop (suc k) nodes) (sym is)

  pub fires_on : (events more all : List Event) → events ++ fires_from k (drop k nodes) ≡ all
      → more ≡ events ++ map (Fire k) (range_with_len 1 (outputs_in x.spec)) → more ++ fires_from (k + 1) (drop (k + 1) nodes) ≡ all
  fires_on events more all h m =
      ap (λ j. more ++ fires_from j (drop j nodes)) (let e : k + 1 ≡ suc k = omega arith in e)
      ∙ ap (λ xs. xs ++ fires_from (suc k) (drop (suc k) nodes)) m
      ∙ append_assoc events (map (Fire k) (range_with_len 1 (outputs_in x.spec))) (fires_from (suc k) (drop (suc k) nodes))
      ∙ ap (λ xs. events ++ fires_from k xs) (sym here) ∙ h

  pub starts_on : (events more : List Event) (starts next all : List ℕ) (n : ℕ) → starts ++ starts_from (length events) (drop k nodes) ≡ all
      → more ≡ events ++ map (Fire k) (range_with_len 1 (outputs_in x.spec)) → n ≡ length events → next ≡ starts ++ n ∷ []
      → next ++ starts_from (length more) (drop (k + 1) nodes) ≡ all
  starts_on events more starts next all n h m at longer =
      let many : length more ≡ length events + outputs_in x.spec = ap length m ∙ length-append events (map (Fire k) (range_with_len 1 (outputs_in x.spec)))
      ∙ ap (λ j. length events + j) (length-map-range_with_len (Fire k) 1 (outputs_in x.spec)) in
      ap (λ j. next ++ starts_from (length more) (drop j nodes)) (let e : k + 1 ≡ suc k = omega arith in e)
      ∙ ap (λ j. next ++ starts_from j (drop (suc k) nodes)) many
      ∙ ap (λ xs. xs ++ starts_from (length events + outputs_in x.spec) (drop (suc k) nodes)) (longer ∙ ap (λ j. starts ++ j ∷ []) at)
      ∙ append_assoc starts (length events ∷ []) (starts_from (length events + outputs_in x.spec) (drop (suc k) nodes))
      ∙ ap (λ xs. starts ++ starts_from (length events) xs) (sym here) ∙ h

module _ (nodes : List Node) (k : ℕ) (past : length nodes ≤ k) where
  pub fires_end : (events all : List Event) → events ++ fires_from k (drop k nodes) ≡ all → events ≡ all
  fires_end events all h = sym (append-nil events) ∙ ap (λ xs. events ++ fires_from k xs) (sym (drop_all k nodes past)) ∙ h

  pub starts_end : (starts all next : List ℕ) (m n : ℕ) → starts ++ starts_from m (drop k nodes) ≡ all → n ≡ m → next ≡ starts ++ n ∷ []
      → next ≡ all
  starts_end starts all next m n h e longer = longer ∙ ap (λ j. starts ++ j ∷ []) e
      ∙ ap (λ xs. starts ++ starts_from m xs) (sym (drop_all k nodes past)) ∙ h

-- ---- rows

one_front : (xs ys : List ℕ) (m : ℕ) → OneOf xs m → OneOf (xs ++ ys) m
one_front [] ys m o = absurd o
one_front (x ∷ xs) ys m (inl e) = inl e
one_front (x ∷ xs) ys m (inr o) = inr (one_front xs ys m o)

one_last : (xs : List ℕ) (m : ℕ) → OneOf (xs ++ m ∷ []) m
one_last [] m = inl refl
one_last (x ∷ xs) m = inr (one_last xs m)

pub row_pushed : (before room after : List Row) (s n : ℕ) (was row : Row) → ((a : ℕ) → rows_of room a ≡ rows_of before a) → s < length room
    → was ≡ get_or room s was → after ≡ set room s row → row.items ≡ was.items ++ n ∷ []
    → OneOf (rows_of after s) n × ((i m : ℕ) → OneOf (rows_of before i) m → OneOf (rows_of after i) m)
row_pushed before room after s n was row same less is wrote pushed = (
  subst (λ xs. OneOf xs n) (sym at) (one_last was.items n),
  λ i m o. elim (cases_eq i s) [
    | inl e ↦
        let first : OneOf (rows_of before s) m = subst (λ j. OneOf (rows_of before j) m) e o in
        subst (λ j. OneOf (rows_of after j) m) (sym e)
        (subst (λ xs. OneOf xs m) (sym at) (one_front was.items (n ∷ []) m (subst (λ xs. OneOf xs m) (sym read) first)))
    | inr ne ↦ subst (λ xs. OneOf xs m) (sym (ap (λ rows. rows_of rows i) wrote ∙ set_other room s row i ne ∙ same i)) o
  ],
)
  where
    at : rows_of after s ≡ was.items ++ n ∷ []
    at = ap (λ rows. rows_of rows s) wrote ∙ set_here room s row less ∙ pushed

    read : was.items ≡ rows_of before s
    read = sym (sym (same s) ∙ get_or-map (λ (r : Row). r.items) room s was [] less ∙ sym (ap (λ (r : Row). r.items) is))

-- ---- symbols

pub first_spec : (c : Circuit) (x : Node) (k : Command) → 0 < length c.nodes → x ≡ get_or c.nodes 0 x → IsSpecified c (Cmd k) → x.spec ≡ Cmd k
first_spec c x k some is e =
    let same : Some x.spec ≡ Some (Cmd k) = ap spec_of (ap Some is ∙ sym (slice_get-get_or c.nodes 0 x some)) ∙ e in
    let it : x.spec ≡ Cmd k = cc in
    it

pub few_outs : (x : NodeSpec) (k : Command) → x ≡ Cmd k → length (outs_of x) < 2 ^ 32
few_outs x k e =
    let outs : length (outs_of x) ≡ length k.names = ap (λ (y : NodeSpec). length (outs_of y)) e
    ∙ length-map (range_with_len 0 (length k.names)) (gives_symbol (marks_of_all k.procs)) ∙ length-range_with_len 0 (length k.names) in
    omega (arith, outs, k.valid.few_symbols)

pub read_bit : (xs : List Bool) (i : ℕ) (r d : Bool) → i < length xs → r ≡ get_or xs i r → get_or xs i d ≡ r
read_bit [] i r d h e = absurd (omega (arith, h))
read_bit (x ∷ xs) zero r d h e = sym e
read_bit (x ∷ xs) (suc i) r d h e = read_bit xs i r d (omega (arith, h)) e
