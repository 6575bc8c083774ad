-- The wires of a network and of its part in the spliced network.
use Rattle.std.proofs.Common.{◌≡◌, ◌≢◌, ◌⊎◌, ◌↔◌, inl, inr, ℕ, zero, suc, ◌+◌, ◌<◌, ◌≤◌, Bool, true, false, not, map, List, [], ◌∷◌, Option, None, Some, refl, sym, ap, ◌∙◌, subst, arith, if◌then◌else◌, ltb, lt-ltb, le-ltb, ne_eqb, eq-eqb}
use Rattle.std.specs.Prelude.{slice_get, nat_eq}
use Rattle.std.proofs.lemmas.Bool.{cases_lt, cases_eq, cases_Bool, false≢true, eqb-true}
use Rattle.std.proofs.lemmas.Option.{same_Some, none-some}
use Rattle.std.specs.List.{list_any, range_with_len, position_or_len}
use Rattle.net_core.specs.Specs.{outs_of, May}
use Rattle.net_core.specs.Wiring.{Node, Circuit}
use Rattle.net_core.specs.Networks.{directions_at, directions, gives, takes, end_at, may_of, spec_of}
use Rattle.net_core.proofs.Ends.{side_of, outs_at, exchanged, own_directions}
use Rattle.net_core.proofs.Found.{Located, first_below, any_below, some_below, gives_located, takes_located}
use Rattle.substitute.specs.Splice.{driver, receiver, output_port, input_port, is_inner, rank, renumber, Fitting}
use Rattle.net_core.specs.Walk.{ends_at}
use Rattle.substitute.proofs.NewNumbers.{end_listed, entering_number, leaving_number, inner_number}
use Rattle.substitute.proofs.Ranks.{rank_same}

-- the wire of c that a wire of the result is
pub here : Circuit → ℕ → Option ℕ
here c w = if ltb w c.wires then Some w else None

-- the wire of m that it is
pub there : Circuit → ℕ → Circuit → ℕ → Option ℕ
there c a m w = if list_any (λ u. nat_eq (renumber c a m u) w) (range_with_len 0 m.wires) then Some (position_or_len (λ u. nat_eq (renumber c a m u) w) (range_with_len 0 m.wires)) else None

pub here_from : (c : Circuit) (w : ℕ) → w < c.wires → here c w ≡ Some w
unfolding here
here_from c w l = rw (lt-ltb w c.wires l) refl

pub here_past : (c : Circuit) (w : ℕ) → c.wires ≤ w → here c w ≡ None
unfolding here
here_past c w g = rw (le-ltb w c.wires g) refl

pub here_gives : (c : Circuit) (w v : ℕ) → here c w ≡ Some v → (w ≡ v) × (v < c.wires)
here_gives c w v e = elim (cases_lt w c.wires) [
  | inl l ↦ (let same : w ≡ v = same_Some w v (sym (here_from c w l) ∙ e) in (same, subst (λ x. x < c.wires) same l))
  | inr g ↦ absurd (none-some v (sym (here_past c w g) ∙ e))
]

there_none : (c : Circuit) (a : ℕ) (m : Circuit) (w : ℕ) → list_any (λ u. nat_eq (renumber c a m u) w) (range_with_len 0 m.wires) ≡ false → there c a m w ≡ None
unfolding there
there_none c a m w e = rw e refl

there_some : (c : Circuit) (a : ℕ) (m : Circuit) (w : ℕ) → list_any (λ u. nat_eq (renumber c a m u) w) (range_with_len 0 m.wires) ≡ true
    → there c a m w ≡ Some (position_or_len (λ u. nat_eq (renumber c a m u) w) (range_with_len 0 m.wires))
unfolding there
there_some c a m w e = rw e refl

pub there_gives : (c : Circuit) (a : ℕ) (m : Circuit) (w u : ℕ) → there c a m w ≡ Some u → (u < m.wires) × (renumber c a m u ≡ w)
there_gives c a m w u e = elim (cases_Bool (list_any (λ x. nat_eq (renumber c a m x) w) (range_with_len 0 m.wires))) [
  | inl h ↦ (let (x, l, g) = some_below (λ x. nat_eq (renumber c a m x) w) m.wires h in
      let (at, below) = first_below (λ x. nat_eq (renumber c a m x) w) m.wires x l g in
      let same : position_or_len (λ x. nat_eq (renumber c a m x) w) (range_with_len 0 m.wires) ≡ u = same_Some _ u (sym (there_some c a m w h) ∙ e) in (
        subst (λ x. x < m.wires) same below,
        ap (renumber c a m) (sym same) ∙ eqb-true (renumber c a m (position_or_len (λ x. nat_eq (renumber c a m x) w) (range_with_len 0 m.wires))) w at,
      ))
  | inr h ↦ absurd (none-some u (sym (there_none c a m w h) ∙ e))
]

pub there_not : (c : Circuit) (a : ℕ) (m : Circuit) (w : ℕ) → ((u : ℕ) → u < m.wires → renumber c a m u ≡ w → ⊥) → there c a m w ≡ None
there_not c a m w h = elim (cases_Bool (list_any (λ x. nat_eq (renumber c a m x) w) (range_with_len 0 m.wires))) [
  | inl e ↦ (let (x, l, g) = some_below (λ x. nat_eq (renumber c a m x) w) m.wires e in absurd (h x l (eqb-true (renumber c a m x) w g)))
  | inr e ↦ there_none c a m w e
]

-- m's wire u comes from its environment.
pub record Entering (c : Circuit) (a : ℕ) (m : Circuit) (u : ℕ) : Type 0 where
  pub from : driver m u ≡ 0
  pub number : renumber c a m u ≡ end_at c a (output_port m u)
  pub taken : takes c a (output_port m u) ≡ true
  pub back : end_at m 0 (output_port m u) ≡ u

-- It leads to its environment.
pub record Leaving (c : Circuit) (a : ℕ) (m : Circuit) (u : ℕ) : Type 0 where
  pub goes : receiver m u ≡ 0
  pub number : renumber c a m u ≡ end_at c a (input_port m u)
  pub given : gives c a (input_port m u) ≡ true
  pub back : end_at m 0 (input_port m u) ≡ u

-- It does neither.
pub record Inner (c : Circuit) (a : ℕ) (m : Circuit) (u : ℕ) : Type 0 where
  pub from : ◌≢◌ {A = ℕ} (driver m u) 0
  pub goes : ◌≢◌ {A = ℕ} (receiver m u) 0
  pub number : renumber c a m u ≡ c.wires + rank (is_inner m) u
  pub inner : is_inner m u ≡ true

both_sides : (ds : List Bool) (p : ℕ) → side_of true ds p ≡ true → side_of false ds p ≡ true → ⊥
both_sides [] p g h = false≢true g
both_sides (true ∷ ds) zero g h = false≢true h
both_sides (false ∷ ds) zero g h = false≢true g
both_sides (d ∷ ds) (suc p) g h = both_sides ds p g h

outs_by_spec : (o r : Option Node) → spec_of o ≡ spec_of r → outs_at o ≡ outs_at r
outs_by_spec None None e = refl
outs_by_spec None (Some y) e = absurd (none-some y.spec e)
outs_by_spec (Some x) None e = absurd (none-some x.spec (sym e))
outs_by_spec (Some x) (Some y) e = ap outs_of (same_Some x.spec y.spec e)

may_by_spec : (o r : Option Node) (t : List ℕ) → spec_of o ≡ spec_of r → may_of o t ≡ may_of r t
may_by_spec None None t e = refl
may_by_spec None (Some y) t e = absurd (none-some y.spec e)
may_by_spec (Some x) None t e = absurd (none-some x.spec (sym e))
may_by_spec (Some x) (Some y) t e = ap (λ s. May s t) (same_Some x.spec y.spec e)

-- the environment has the directions of its specification exchanged
outside_directions : (o : Option Node) → directions_at 0 o ≡ map not (outs_at o)
outside_directions None = refl
outside_directions (Some x) = refl

number_first : (c : Circuit) (a : ℕ) (m : Circuit) (u : ℕ) → driver m u ≡ 0 → renumber c a m u ≡ end_at c a (output_port m u)
unfolding renumber
number_first c a m u e = entering_number (ends_at (slice_get c.nodes a)) c.wires m u e ∙ end_listed (slice_get c.nodes a) (output_port m u)

number_second : (c : Circuit) (a : ℕ) (m : Circuit) (u : ℕ) → ◌≢◌ {A = ℕ} (driver m u) 0 → receiver m u ≡ 0
    → renumber c a m u ≡ end_at c a (input_port m u)
unfolding renumber
number_second c a m u h e = leaving_number (ends_at (slice_get c.nodes a)) c.wires m u h e ∙ end_listed (slice_get c.nodes a) (input_port m u)

pub number_third : (c : Circuit) (a : ℕ) (m : Circuit) (u : ℕ) → ◌≢◌ {A = ℕ} (driver m u) 0 → ◌≢◌ {A = ℕ} (receiver m u) 0
    → renumber c a m u ≡ c.wires + rank (is_inner m) u
unfolding renumber
number_third c a m u h g = inner_number (ends_at (slice_get c.nodes a)) c.wires m u h g

pub inner_from : (m : Circuit) (u : ℕ) → ◌≢◌ {A = ℕ} (driver m u) 0 → ◌≢◌ {A = ℕ} (receiver m u) 0 → is_inner m u ≡ true
unfolding is_inner
inner_from m u h g = rw (ne_eqb (driver m u) 0 h, ne_eqb (receiver m u) 0 g) refl

module _ (c : Circuit) (a : ℕ) (m : Circuit) (fit : Fitting c a m) where
  pub net_gives_at : Located (gives c) c
  net_gives_at = gives_located c fit.fit_net fit.closed_net

  pub net_takes_at : Located (takes c) c
  net_takes_at = takes_located c fit.fit_net fit.closed_net

  pub part_gives_at : Located (gives m) m
  part_gives_at = gives_located m fit.fit_part fit.closed_part

  pub part_takes_at : Located (takes m) m
  part_takes_at = takes_located m fit.fit_part fit.closed_part

  net_outs : directions c a ≡ outs_at (slice_get m.nodes 0)
  net_outs = let comp = fit.component in own_directions a (slice_get c.nodes a) (λ e. omega arith)
      ∙ outs_by_spec (slice_get c.nodes a) (slice_get m.nodes 0) fit.same

  part_side : (b : Bool) (p : ℕ) → side_of b (directions m 0) p ≡ side_of (not b) (outs_at (slice_get m.nodes 0)) p
  part_side b p = ap (λ ds. side_of b ds p) (outside_directions (slice_get m.nodes 0)) ∙ exchanged b (outs_at (slice_get m.nodes 0)) p

  -- What a takes the environment of m gives, and what a gives it takes.
  pub taken_there : (p : ℕ) → takes c a p ≡ gives m 0 p
  taken_there p = ap (λ ds. side_of false ds p) net_outs ∙ sym (part_side true p)

  pub given_there : (p : ℕ) → gives c a p ≡ takes m 0 p
  given_there p = ap (λ ds. side_of true ds p) net_outs ∙ sym (part_side false p)

  entering : (u : ℕ) → u < m.wires → driver m u ≡ 0 → Entering c a m u
  entering u l e = record {
    from = e;
    number = number_first c a m u e;
    taken = taken_there (output_port m u) ∙ ap (λ n. gives m n (output_port m u)) (sym e) ∙ part_gives_at.real u l;
    back = ap (λ n. end_at m n (output_port m u)) (sym e) ∙ part_gives_at.back u l;
  }

  leaving : (u : ℕ) → u < m.wires → ◌≢◌ {A = ℕ} (driver m u) 0 → receiver m u ≡ 0 → Leaving c a m u
  leaving u l h e = record {
    goes = e;
    number = number_second c a m u h e;
    given = given_there (input_port m u) ∙ ap (λ n. takes m n (input_port m u)) (sym e) ∙ part_takes_at.real u l;
    back = ap (λ n. end_at m n (input_port m u)) (sym e) ∙ part_takes_at.back u l;
  }

  -- the three kinds of a wire of m
  pub kind : (u : ℕ) → u < m.wires → Entering c a m u ⊎ (Leaving c a m u ⊎ Inner c a m u)
  kind u l = elim (cases_eq (driver m u) 0) [
    | inl e ↦ inl (entering u l e)
    | inr h ↦ elim (cases_eq (receiver m u) 0) [
      | inl e ↦ inr (inl (leaving u l h e))
      | inr g ↦ inr (inr (record { from = h; goes = g; number = number_third c a m u h g; inner = inner_from m u h g }))
    ]
  ]

  -- A wire that enters m leads to a in c, and one that leaves m comes from a.
  pub entering_to : (u : ℕ) → Entering c a m u → receiver c (renumber c a m u) ≡ a
  entering_to u k = ap (receiver c) k.number ∙ net_takes_at.node_at a (output_port m u) k.taken

  pub entering_into : (u : ℕ) → Entering c a m u → input_port c (renumber c a m u) ≡ output_port m u
  entering_into u k = ap (input_port c) k.number ∙ net_takes_at.port_at a (output_port m u) k.taken

  pub entering_known : (u : ℕ) → Entering c a m u → renumber c a m u < c.wires
  entering_known u k = subst (λ x. x < c.wires) (sym k.number) (net_takes_at.known a (output_port m u) k.taken)

  pub leaving_from : (u : ℕ) → Leaving c a m u → driver c (renumber c a m u) ≡ a
  leaving_from u k = ap (driver c) k.number ∙ net_gives_at.node_at a (input_port m u) k.given

  pub leaving_out : (u : ℕ) → Leaving c a m u → output_port c (renumber c a m u) ≡ input_port m u
  leaving_out u k = ap (output_port c) k.number ∙ net_gives_at.port_at a (input_port m u) k.given

  pub leaving_known : (u : ℕ) → Leaving c a m u → renumber c a m u < c.wires
  leaving_known u k = subst (λ x. x < c.wires) (sym k.number) (net_gives_at.known a (input_port m u) k.given)

  pub inner_past : (u : ℕ) → Inner c a m u → c.wires ≤ renumber c a m u
  inner_past u k = subst (λ x. c.wires ≤ x) (sym k.number) (omega arith)

  crossed : (u v : ℕ) → Entering c a m u → Leaving c a m v → renumber c a m u ≡ renumber c a m v → ⊥
  crossed u v k h e = fit.not_self (renumber c a m v) (leaving_known v h) (leaving_from v h) (ap (receiver c) (sym e) ∙ entering_to u k)

  same_kind : (u v : ℕ) → Entering c a m u ⊎ (Leaving c a m u ⊎ Inner c a m u) → Entering c a m v ⊎ (Leaving c a m v ⊎ Inner c a m v)
      → renumber c a m u ≡ renumber c a m v → u ≡ v
  same_kind u v (inl k) (inl h) e = sym k.back
      ∙ ap (end_at m 0) (sym (entering_into u k) ∙ ap (input_port c) e ∙ entering_into v h) ∙ h.back
  same_kind u v (inl k) (inr (inl h)) e = absurd (crossed u v k h e)
  same_kind u v (inl k) (inr (inr h)) e = let x = entering_known u k in let y = inner_past v h in absurd (omega arith)
  same_kind u v (inr (inl k)) (inl h) e = absurd (crossed v u h k (sym e))
  same_kind u v (inr (inl k)) (inr (inl h)) e = sym k.back
      ∙ ap (end_at m 0) (sym (leaving_out u k) ∙ ap (output_port c) e ∙ leaving_out v h) ∙ h.back
  same_kind u v (inr (inl k)) (inr (inr h)) e = let x = leaving_known u k in let y = inner_past v h in absurd (omega arith)
  same_kind u v (inr (inr k)) (inl h) e = let x = entering_known v h in let y = inner_past u k in absurd (omega arith)
  same_kind u v (inr (inr k)) (inr (inl h)) e = let x = leaving_known v h in let y = inner_past u k in absurd (omega arith)
  same_kind u v (inr (inr k)) (inr (inr h)) e = rank_same (is_inner m) u v k.inner h.inner
      (let x = k.number in let y = h.number in omega arith)

  -- Two wires of m do not become one.
  pub one_wire : (u v : ℕ) → u < m.wires → v < m.wires → renumber c a m u ≡ renumber c a m v → u ≡ v
  one_wire u v l g e = same_kind u v (kind u l) (kind v g) e

  pub there_from : (w u : ℕ) → u < m.wires → renumber c a m u ≡ w → there c a m w ≡ Some u
  there_from w u l e =
      let some = there_some c a m w (any_below (λ x. nat_eq (renumber c a m x) w) m.wires u l (eq-eqb (renumber c a m u) w e)) in
      let (below, at) = there_gives c a m w (position_or_len (λ x. nat_eq (renumber c a m x) w) (range_with_len 0 m.wires)) some in
      some ∙ ap Some (one_wire (position_or_len (λ x. nat_eq (renumber c a m x) w) (range_with_len 0 m.wires)) u below l (at ∙ sym e))

  -- a and the environment of m have the same traces, and opposite ends
  pub same_traces : (t : List ℕ) → may_of (slice_get c.nodes a) t ↔ may_of (slice_get m.nodes 0) t
  same_traces t = subst (λ X. may_of (slice_get c.nodes a) t ↔ X) (may_by_spec (slice_get c.nodes a) (slice_get m.nodes 0) t fit.same) ((λ h. h), (λ h. h))

  pub opposite_ends : (p : ℕ) → gives c a p ≡ true → gives m 0 p ≡ true → ⊥
  opposite_ends p g h = both_sides (directions c a) p g (taken_there p ∙ h)
