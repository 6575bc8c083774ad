-- The spliced network is its two parts joined at the node that was replaced.
use Rattle.std.proofs.Common.{false, ◌≡◌, ◌≢◌, ◌⊎◌, inl, inr, ℕ, ◌<◌, ◌≤◌, Bool, true, Some, refl, sym, ap, ◌∙◌, arith}
use Rattle.net_core.specs.Wiring.{Circuit}
use Rattle.net_core.specs.Networks.{gives, takes, end_at, fabric}
use Rattle.net_core.proofs.Found.{found_only, gives_there, takes_there}
use Rattle.substitute.specs.Splice.{driver, receiver, output_port, input_port, renumber, spliced, Fitting}
use Rattle.substitute.proofs.Joins.{Half, Joins}
use Rattle.substitute.proofs.Places.{net_place, part_place, net_alone, part_alone, places_apart, net_zero, decode, spliced_length, net_gives, net_takes, net_end, part_gives, part_takes, part_end, net_may, part_may}
use Rattle.substitute.proofs.Fused.{here, there, here_from, here_past, here_gives, there_gives, there_not, there_from, net_gives_at, net_takes_at, part_gives_at, part_takes_at, taken_there, kind, entering_to, leaving_from, leaving_known, inner_past, one_wire, same_traces, opposite_ends}

-- An end in the result is an end of c, whose wire keeps its number.
pub record OfNet (c : Circuit) (a : ℕ) (m : Circuit) (f : ℕ → ℕ → Bool) (k q : ℕ) : Type 0 where
  pub node : ℕ
  pub kept : node ≢ a
  pub place : k ≡ net_place c a m node
  pub side : f node q ≡ true
  pub at : end_at (spliced c a m) k q ≡ end_at c node q

-- It is an end of m, whose wire has a new number.
pub record OfPart (c : Circuit) (a : ℕ) (m : Circuit) (f : ℕ → ℕ → Bool) (k q : ℕ) : Type 0 where
  pub node : ℕ
  pub kept : ◌≢◌ {A = ℕ} node 0
  pub place : k ≡ part_place c a m node
  pub side : f node q ≡ true
  pub at : end_at (spliced c a m) k q ≡ renumber c a m (end_at m node q)

module _ (c : Circuit) (a : ℕ) (m : Circuit) (fit : Fitting c a m) where
  pub part_end_given : (n p : ℕ) → ◌≢◌ {A = ℕ} n 0 → gives m n p ≡ true → end_at (spliced c a m) (part_place c a m n) p ≡ renumber c a m (end_at m n p)
  part_end_given n p h g = part_end c a m fit true n p h g

  pub part_end_taken : (n p : ℕ) → ◌≢◌ {A = ℕ} n 0 → takes m n p ≡ true → end_at (spliced c a m) (part_place c a m n) p ≡ renumber c a m (end_at m n p)
  part_end_taken n p h g = part_end c a m fit false n p h g

  pub given_origin : (k q : ℕ) → gives (spliced c a m) k q ≡ true → OfNet c a m (gives c) k q ⊎ OfPart c a m (gives m) k q
  given_origin k q g =
      let (l, r) = gives_there (spliced c a m) k q g in let s = spliced_length c a m fit in
      elim (decode c a m fit k (omega arith)) [
        | inl (n, ne, e) ↦ inl (record {
          node = n;
          kept = ne;
          place = e;
          side = sym (net_gives c a m fit n q ne) ∙ ap (λ x. gives (spliced c a m) x q) (sym e) ∙ g;
          at = ap (λ x. end_at (spliced c a m) x q) e ∙ net_end c a m fit n q ne;
        })
        | inr (n, h, e) ↦ (let side : gives m n q ≡ true = sym (part_gives c a m fit n q h) ∙ ap (λ x. gives (spliced c a m) x q) (sym e) ∙ g in
            inr (record {
              node = n;
              kept = h;
              place = e;
              side = side;
              at = ap (λ x. end_at (spliced c a m) x q) e ∙ part_end_given n q h side;
            }))
      ]

  pub taken_origin : (k q : ℕ) → takes (spliced c a m) k q ≡ true → OfNet c a m (takes c) k q ⊎ OfPart c a m (takes m) k q
  taken_origin k q g =
      let (l, r) = takes_there (spliced c a m) k q g in let s = spliced_length c a m fit in
      elim (decode c a m fit k (omega arith)) [
        | inl (n, ne, e) ↦ inl (record {
          node = n;
          kept = ne;
          place = e;
          side = sym (net_takes c a m fit n q ne) ∙ ap (λ x. takes (spliced c a m) x q) (sym e) ∙ g;
          at = ap (λ x. end_at (spliced c a m) x q) e ∙ net_end c a m fit n q ne;
        })
        | inr (n, h, e) ↦ (let side : takes m n q ≡ true = sym (part_takes c a m fit n q h) ∙ ap (λ x. takes (spliced c a m) x q) (sym e) ∙ g in
            inr (record {
              node = n;
              kept = h;
              place = e;
              side = side;
              at = ap (λ x. end_at (spliced c a m) x q) e ∙ part_end_taken n q h side;
            }))
      ]

  -- c's end that takes from a wire, and an end of m, are at different wires in the result, unless c's is at a.
  taken_clash : (n p k q : ℕ) → n ≢ a → takes c n p ≡ true → ◌≢◌ {A = ℕ} k 0 → takes m k q ≡ true
      → renumber c a m (end_at m k q) ≡ end_at c n p → ⊥
  taken_clash n p k q ne g h t e = elim (kind c a m fit (end_at m k q) ((part_takes_at c a m fit).known k q t)) [
    | inl x ↦ ne (sym ((net_takes_at c a m fit).node_at n p g) ∙ ap (receiver c) (sym e) ∙ entering_to c a m fit (end_at m k q) x)
    | inr (inl x) ↦ h (sym ((part_takes_at c a m fit).node_at k q t) ∙ x.goes)
    | inr (inr x) ↦ (let y = inner_past c a m fit (end_at m k q) x in let z = (net_takes_at c a m fit).known n p g in omega arith)
  ]

  given_clash : (n p k q : ℕ) → n ≢ a → gives c n p ≡ true → ◌≢◌ {A = ℕ} k 0 → gives m k q ≡ true
      → renumber c a m (end_at m k q) ≡ end_at c n p → ⊥
  given_clash n p k q ne g h t e = elim (kind c a m fit (end_at m k q) ((part_gives_at c a m fit).known k q t)) [
    | inl x ↦ h (sym ((part_gives_at c a m fit).node_at k q t) ∙ x.from)
    | inr (inl x) ↦ ne (sym ((net_gives_at c a m fit).node_at n p g) ∙ ap (driver c) (sym e) ∙ leaving_from c a m fit (end_at m k q) x)
    | inr (inr x) ↦ (let y = inner_past c a m fit (end_at m k q) x in let z = (net_gives_at c a m fit).known n p g in omega arith)
  ]

  -- each end in the result is the only one of its side at its wire
  pub taken_net_once : (n p : ℕ) → n ≢ a → takes c n p ≡ true → (k q : ℕ) → takes (spliced c a m) k q ≡ true
      → end_at (spliced c a m) k q ≡ end_at c n p → (k ≡ net_place c a m n) × (q ≡ p)
  taken_net_once n p ne g k q t e = elim (taken_origin k q t) [
    | inl o ↦ (let same : end_at c o.node q ≡ end_at c n p = sym o.at ∙ e in (
      o.place ∙ ap (net_place c a m) (sym ((net_takes_at c a m fit).node_at o.node q o.side) ∙ ap (receiver c) same ∙ (net_takes_at c a m fit).node_at n p g),
      sym ((net_takes_at c a m fit).port_at o.node q o.side) ∙ ap (input_port c) same ∙ (net_takes_at c a m fit).port_at n p g,
    ))
    | inr o ↦ absurd (taken_clash n p o.node q ne g o.kept o.side (sym o.at ∙ e))
  ]

  pub taken_part_once : (n p : ℕ) → ◌≢◌ {A = ℕ} n 0 → takes m n p ≡ true → (k q : ℕ) → takes (spliced c a m) k q ≡ true
      → end_at (spliced c a m) k q ≡ renumber c a m (end_at m n p) → (k ≡ part_place c a m n) × (q ≡ p)
  taken_part_once n p h g k q t e = elim (taken_origin k q t) [
    | inl o ↦ absurd (taken_clash o.node q n p o.kept o.side h g (sym e ∙ o.at))
    | inr o ↦ (let same : end_at m o.node q ≡ end_at m n p = one_wire c a m fit (end_at m o.node q) (end_at m n p)
        ((part_takes_at c a m fit).known o.node q o.side) ((part_takes_at c a m fit).known n p g) (sym o.at ∙ e) in (
          o.place ∙ ap (part_place c a m) (sym ((part_takes_at c a m fit).node_at o.node q o.side) ∙ ap (receiver m) same ∙ (part_takes_at c a m fit).node_at n p g),
          sym ((part_takes_at c a m fit).port_at o.node q o.side) ∙ ap (input_port m) same ∙ (part_takes_at c a m fit).port_at n p g,
        ))
  ]

  pub given_net_once : (n p : ℕ) → n ≢ a → gives c n p ≡ true → (k q : ℕ) → gives (spliced c a m) k q ≡ true
      → end_at (spliced c a m) k q ≡ end_at c n p → (k ≡ net_place c a m n) × (q ≡ p)
  given_net_once n p ne g k q t e = elim (given_origin k q t) [
    | inl o ↦ (let same : end_at c o.node q ≡ end_at c n p = sym o.at ∙ e in (
      o.place ∙ ap (net_place c a m) (sym ((net_gives_at c a m fit).node_at o.node q o.side) ∙ ap (driver c) same ∙ (net_gives_at c a m fit).node_at n p g),
      sym ((net_gives_at c a m fit).port_at o.node q o.side) ∙ ap (output_port c) same ∙ (net_gives_at c a m fit).port_at n p g,
    ))
    | inr o ↦ absurd (given_clash n p o.node q ne g o.kept o.side (sym o.at ∙ e))
  ]

  pub given_part_once : (n p : ℕ) → ◌≢◌ {A = ℕ} n 0 → gives m n p ≡ true → (k q : ℕ) → gives (spliced c a m) k q ≡ true
      → end_at (spliced c a m) k q ≡ renumber c a m (end_at m n p) → (k ≡ part_place c a m n) × (q ≡ p)
  given_part_once n p h g k q t e = elim (given_origin k q t) [
    | inl o ↦ absurd (given_clash o.node q n p o.kept o.side h g (sym e ∙ o.at))
    | inr o ↦ (let same : end_at m o.node q ≡ end_at m n p = one_wire c a m fit (end_at m o.node q) (end_at m n p)
        ((part_gives_at c a m fit).known o.node q o.side) ((part_gives_at c a m fit).known n p g) (sym o.at ∙ e) in (
          o.place ∙ ap (part_place c a m) (sym ((part_gives_at c a m fit).node_at o.node q o.side) ∙ ap (driver m) same ∙ (part_gives_at c a m fit).node_at n p g),
          sym ((part_gives_at c a m fit).port_at o.node q o.side) ∙ ap (output_port m) same ∙ (part_gives_at c a m fit).port_at n p g,
        ))
  ]

  -- where a wire leads in the result
  pub net_to : (v : ℕ) → v < c.wires → receiver c v ≢ a
      → (receiver (spliced c a m) v ≡ net_place c a m (receiver c v)) × (input_port (spliced c a m) v ≡ input_port c v)
  net_to v l ne =
      let t = (net_takes_at c a m fit).real v l in
      let e = (net_takes_at c a m fit).back v l in
      found_only (takes (spliced c a m)) (spliced c a m) (takes_there (spliced c a m)) v (net_place c a m (receiver c v)) (input_port c v)
      (net_takes c a m fit (receiver c v) (input_port c v) ne ∙ t) (net_end c a m fit (receiver c v) (input_port c v) ne ∙ e)
      (λ k q h g. taken_net_once (receiver c v) (input_port c v) ne t k q h (g ∙ sym e))

  pub part_to : (u : ℕ) → u < m.wires → ◌≢◌ {A = ℕ} (receiver m u) 0
      → (receiver (spliced c a m) (renumber c a m u) ≡ part_place c a m (receiver m u)) × (input_port (spliced c a m) (renumber c a m u) ≡ input_port m u)
  part_to u l h =
      let t = (part_takes_at c a m fit).real u l in
      let e = ap (renumber c a m) ((part_takes_at c a m fit).back u l) in
      found_only (takes (spliced c a m)) (spliced c a m) (takes_there (spliced c a m)) (renumber c a m u) (part_place c a m (receiver m u)) (input_port m u)
      (part_takes c a m fit (receiver m u) (input_port m u) h ∙ t) (part_end_taken (receiver m u) (input_port m u) h t ∙ e)
      (λ k q x g. taken_part_once (receiver m u) (input_port m u) h t k q x (g ∙ sym e))

  -- a wire that c gives or takes at a kept node, as a wire of m
  given_not_there : (n p u : ℕ) → n ≢ a → gives c n p ≡ true → receiver c (end_at c n p) ≢ a → u < m.wires → renumber c a m u ≡ end_at c n p → ⊥
  given_not_there n p u ne g h l e = elim (kind c a m fit u l) [
    | inl x ↦ h (ap (receiver c) (sym e) ∙ entering_to c a m fit u x)
    | inr (inl x) ↦ ne (sym ((net_gives_at c a m fit).node_at n p g) ∙ ap (driver c) (sym e) ∙ leaving_from c a m fit u x)
    | inr (inr x) ↦ (let y = inner_past c a m fit u x in let z = (net_gives_at c a m fit).known n p g in omega arith)
  ]

  -- a wire of c to a goes on in m
  pub goes_on : (v : ℕ) → v < c.wires → receiver c v ≡ a
      → (gives m 0 (input_port c v) ≡ true) × (renumber c a m (end_at m 0 (input_port c v)) ≡ v) × (driver m (end_at m 0 (input_port c v)) ≡ 0)
  goes_on v l e =
      let taken : takes c a (input_port c v) ≡ true = ap (λ n. takes c n (input_port c v)) (sym e) ∙ (net_takes_at c a m fit).real v l in
      let given : gives m 0 (input_port c v) ≡ true = sym (taken_there c a m fit (input_port c v)) ∙ taken in
      let from : driver m (end_at m 0 (input_port c v)) ≡ 0 = (part_gives_at c a m fit).node_at 0 (input_port c v) given in
      let port : output_port m (end_at m 0 (input_port c v)) ≡ input_port c v = (part_gives_at c a m fit).port_at 0 (input_port c v) given in (
        given,
        elim (kind c a m fit (end_at m 0 (input_port c v)) ((part_gives_at c a m fit).known 0 (input_port c v) given)) [
          | inl x ↦ x.number ∙ ap (end_at c a) port ∙ ap (λ n. end_at c n (input_port c v)) (sym e) ∙ (net_takes_at c a m fit).back v l
          | inr (inl x) ↦ absurd (fit.not_through (end_at m 0 (input_port c v)) ((part_gives_at c a m fit).known 0 (input_port c v) given) (from, x.goes))
          | inr (inr x) ↦ absurd (x.from from)
        ],
        from,
      )

  -- a wire of m to its environment goes on in c
  pub goes_out : (u : ℕ) → u < m.wires → receiver m u ≡ 0
      → (gives c a (input_port m u) ≡ true) × (renumber c a m u ≡ end_at c a (input_port m u)) × (renumber c a m u < c.wires)
  goes_out u l e = elim (kind c a m fit u l) [
    | inl x ↦ absurd (fit.not_through u l (x.from, e))
    | inr (inl x) ↦ (x.given, x.number, leaving_known c a m fit u x)
    | inr (inr x) ↦ absurd (x.goes e)
  ]

  left_half : Half (fabric c) a (fabric m) 0 (fabric (spliced c a m)) (net_place c a m) (here c) (there c a m)
  left_half = record {
    may = λ n ne t. net_may c a m fit n ne t;
    fires = λ n p ne. ((λ g. sym (net_gives c a m fit n p ne) ∙ g), (λ g. net_gives c a m fit n p ne ∙ g));
    alone = λ n k g h e. net_alone c a m fit n k g h e;
    drives = λ n p ne g. ap (here c) (net_end c a m fit n p ne) ∙ here_from c (end_at c n p) ((net_gives_at c a m fit).known n p g);
    own = λ n p ne g h. ap (there c a m) (net_end c a m fit n p ne)
        ∙ there_not c a m (end_at c n p) (λ u l e. given_not_there n p u ne g h l e);
    one = λ w x v e f. (here_gives c w v e).0 ∙ sym (here_gives c x v f).0;
    to = λ w v e ne. ap (receiver (spliced c a m)) (here_gives c w v e).0 ∙ (net_to v (here_gives c w v e).1 ne).0;
    into = λ w v e ne. ap (input_port (spliced c a m)) (here_gives c w v e).0 ∙ (net_to v (here_gives c w v e).1 ne).1;
    port = λ w v e at. (goes_on v (here_gives c w v e).1 at).0;
    on = λ w v e at. let (same, l) = here_gives c w v e in let (g, back, from) = goes_on v l at in
        there_from c a m fit w (end_at m 0 (input_port c v)) ((part_gives_at c a m fit).known 0 (input_port c v) g) (back ∙ sym same);
    past = λ w v e at h. let (same, l) = here_gives c w v e in let (g, back, from) = goes_on v l at in
        fit.not_through (end_at m 0 (input_port c v)) ((part_gives_at c a m fit).known 0 (input_port c v) g) (from, h);
  }

  right_half : Half (fabric m) 0 (fabric c) a (fabric (spliced c a m)) (part_place c a m) (there c a m) (here c)
  right_half = record {
    may = λ n h t. part_may c a m fit n h t;
    fires = λ n p h. ((λ g. sym (part_gives c a m fit n p h) ∙ g), (λ g. part_gives c a m fit n p h ∙ g));
    alone = λ n k g h e. part_alone c a m fit n k g h e;
    drives = λ n p h g. ap (there c a m) (part_end_given n p h g)
        ∙ there_from c a m fit (renumber c a m (end_at m n p)) (end_at m n p) ((part_gives_at c a m fit).known n p g) refl;
    own = λ n p h g ne. ap (here c) (part_end_given n p h g) ∙ here_past c (renumber c a m (end_at m n p)) (past_all n p h g ne);
    one = λ w x v e f. sym (there_gives c a m w v e).1 ∙ (there_gives c a m x v f).1;
    to = λ w v e h. ap (receiver (spliced c a m)) (sym (there_gives c a m w v e).1) ∙ (part_to v (there_gives c a m w v e).0 h).0;
    into = λ w v e h. ap (input_port (spliced c a m)) (sym (there_gives c a m w v e).1) ∙ (part_to v (there_gives c a m w v e).0 h).1;
    port = λ w v e at. (goes_out v (there_gives c a m w v e).0 at).0;
    on = λ w v e at. let (l, same) = there_gives c a m w v e in let (g, number, known) = goes_out v l at in
        ap (here c) (sym same) ∙ here_from c (renumber c a m v) known ∙ ap Some number;
    past = λ w v e at h. let (l, same) = there_gives c a m w v e in let (g, number, known) = goes_out v l at in
        fit.not_self (end_at c a (input_port m v)) ((net_gives_at c a m fit).known a (input_port m v) g) ((net_gives_at c a m fit).node_at a (input_port m v) g) h;
  }
    where
      past_all : (n p : ℕ) → ◌≢◌ {A = ℕ} n 0 → gives m n p ≡ true → ◌≢◌ {A = ℕ} (receiver m (end_at m n p)) 0
          → c.wires ≤ renumber c a m (end_at m n p)
      past_all n p h g ne = elim (kind c a m fit (end_at m n p) ((part_gives_at c a m fit).known n p g)) [
        | inl x ↦ absurd (h (sym ((part_gives_at c a m fit).node_at n p g) ∙ x.from))
        | inr (inl x) ↦ absurd (ne x.goes)
        | inr (inr x) ↦ inner_past c a m fit (end_at m n p) x
      ]

  nodes_of : (k p : ℕ) → gives (spliced c a m) k p ≡ true
      → ((n : ℕ) × (n ≢ a) × (k ≡ net_place c a m n)) ⊎ ((n : ℕ) × (n ≢ 0) × (k ≡ part_place c a m n))
  nodes_of k p g = elim (given_origin k p g) [
    | inl o ↦ inl (o.node, o.kept, o.place)
    | inr o ↦ inr (o.node, o.kept, o.place)
  ]

  fused_of : (w v u : ℕ) → here c w ≡ Some v → there c a m w ≡ Some u → (receiver c v ≡ a) ⊎ (receiver m u ≡ 0)
  fused_of w v u e f =
      let (same, l) = here_gives c w v e in
      let (below, at) = there_gives c a m w u f in
      elim (kind c a m fit u below) [
        | inl x ↦ inl (ap (receiver c) (sym same ∙ sym at) ∙ entering_to c a m fit u x)
        | inr (inl x) ↦ inr x.goes
        | inr (inr x) ↦ (let y = inner_past c a m fit u x in absurd (omega arith))
      ]

  -- The two parts are joined in the spliced network.
  pub spliced_joins : Joins (fabric c) a (fabric m) 0 (fabric (spliced c a m))
  spliced_joins = record {
    i = net_place c a m;
    j = part_place c a m;
    here = here c;
    there = there c a m;
    left = left_half;
    right = right_half;
    apart = λ n k g h. places_apart c a m fit n k g h;
    nodes = nodes_of;
    fused = fused_of;
    same = λ t. same_traces c a m fit t;
    opposite = λ p g h. opposite_ends c a m fit p g h;
  }

  pub joins_outside : spliced_joins.i 0 ≡ 0
  unfolding spliced_joins
  joins_outside = net_zero c a m fit
