-- The spliced network is closed, and clean, sound and exact where its parts are.
use Rattle.std.proofs.Common.{◌∷◌, ◌≡◌, ◌≢◌, ◌⊎◌, inl, inr, ℕ, ◌+◌, ◌-◌, ◌<◌, ◌≤◌, true, not, List, [], length, Option, None, Some, refl, sym, ap, ◌∙◌, subst, arith}
use Rattle.std.specs.Prelude.{slice_get, option_map, nat_eq}
use Rattle.std.proofs.lemmas.Bool.{cases_eq, cases_lt, false≢true, and_parts, not-true, eq-eqb}
use Rattle.std.proofs.lemmas.Option.{slice_get_within, same_Some, none-some}
use Rattle.std.proofs.lemmas.List.{length-map}
use Rattle.std.specs.List.{AllByRecursion}
use Rattle.net_core.specs.Runs.{Sound, Exact}
use Rattle.net_core.specs.Wiring.{Node, Circuit, IsWired, IsNetwork, IsClosed, moved}
use Rattle.net_core.specs.Networks.{gives, takes, end_at, spec_of, fabric, IsSpecified, SoundFor, Correct, IsClean, Once}
use Rattle.net_core.specs.declared.spec.NodeSpec.{NodeSpec}
use Rattle.net_core.proofs.Moved.{all_from, all_moved, node_at}
use Rattle.net_core.proofs.Ends.{closed_by_counts}
use Rattle.net_core.proofs.Found.{found_only, gives_there, takes_there, all_nodes}
use Rattle.substitute.specs.Splice.{driver, receiver, output_port, input_port, is_inner, rank, renumber, spliced, Fitting}
use Rattle.substitute.proofs.Ranks.{rank_below, rank_onto}
use Rattle.substitute.proofs.Places.{net_zero, net_place, part_place, net_alone, part_alone, places_apart, decode, spliced_length, net_node, part_node, net_gives, net_takes, net_end, part_gives, part_takes}
use Rattle.substitute.proofs.Fused.{number_third, net_gives_at, net_takes_at, part_gives_at, part_takes_at, given_there, kind, entering_known, leaving_known, one_wire}
use Rattle.substitute.proofs.Spliced.{part_end_given, part_end_taken, given_net_once, given_part_once, taken_net_once, taken_part_once, goes_on, spliced_joins, joins_outside}
use Rattle.substitute.proofs.JoinedSound.{joined_sound}
use Rattle.substitute.proofs.JoinedExact.{joined_exact}

-- A kept node of c drives the wire, or receives it.
record AtNet (c : Circuit) (a : ℕ) (end : Circuit → ℕ → ℕ) (w : ℕ) : Type 0 where
  known : w < c.wires
  kept : end c w ≢ a

-- A component of m does.
record AtPart (c : Circuit) (a : ℕ) (m : Circuit) (end : Circuit → ℕ → ℕ) (w : ℕ) : Type 0 where
  wire : ℕ
  below : wire < m.wires
  number : renumber c a m wire ≡ w
  kept : ◌≢◌ {A = ℕ} (end m wire) 0

inner_parts : (m : Circuit) (u : ℕ) → is_inner m u ≡ true → (◌≢◌ {A = ℕ} (driver m u) 0) × (◌≢◌ {A = ℕ} (receiver m u) 0)
unfolding is_inner
inner_parts m u e =
    let both = and_parts (not (nat_eq (driver m u) 0)) (not (nat_eq (receiver m u) 0)) e in (
      (λ h. false≢true (sym (not-true (nat_eq (driver m u) 0) both.0) ∙ eq-eqb (driver m u) 0 h)),
      (λ h. false≢true (sym (not-true (nat_eq (receiver m u) 0) both.1) ∙ eq-eqb (receiver m u) 0 h)),
    )

spliced_wires : (c : Circuit) (a : ℕ) (m : Circuit) → (spliced c a m).wires ≡ c.wires + rank (is_inner m) m.wires
unfolding spliced
spliced_wires c a m = refl

all_more : (xs : List ℕ) (j k : ℕ) → j ≤ k → AllByRecursion (λ w. w < j) xs → AllByRecursion (λ w. w < k) xs
all_more [] j k h all = tt
all_more (x ∷ xs) j k h all = let l = all.0 in (omega arith, all_more xs j k h all.1)

module _ (c : Circuit) (a : ℕ) (m : Circuit) (fit : Fitting c a m) where
  pub number_known : (u : ℕ) → u < m.wires → renumber c a m u < (spliced c a m).wires
  number_known u l = let wires = spliced_wires c a m in elim (kind c a m fit u l) [
    | inl x ↦ (let k = entering_known c a m fit u x in omega arith)
    | inr (inl x) ↦ (let k = leaving_known c a m fit u x in omega arith)
    | inr (inr x) ↦ (let k = x.number in let r = rank_below (is_inner m) u m.wires l x.inner in omega arith)
  ]

  fits_net : (n : ℕ) (x : Node) → slice_get c.nodes n ≡ Some x → IsWired (spliced c a m).wires x
  fits_net n x e =
      let fits = all_nodes (IsWired c.wires) c.nodes n x fit.fit_net e in
      record {
        sized = fits.sized;
        known = all_more x.ends c.wires (spliced c a m).wires (let wires = spliced_wires c a m in omega arith) fits.known;
        formed = fits.formed;
      }

  fits_part : (n : ℕ) (x : Node) → slice_get m.nodes n ≡ Some x → IsWired (spliced c a m).wires (moved (renumber c a m) x)
  fits_part n x e =
      let fits = all_nodes (IsWired m.wires) m.nodes n x fit.fit_part e in
      record {
        sized = length-map x.ends (renumber c a m) ∙ fits.sized;
        known = all_moved (renumber c a m) x.ends m.wires (spliced c a m).wires (λ w l. number_known w l) fits.known;
        formed = fits.formed;
      }

  fits_moved : (n : ℕ) (o : Option Node) → slice_get m.nodes n ≡ o → (y : Node) → option_map (moved (renumber c a m)) o ≡ Some y
      → IsWired (spliced c a m).wires y
  fits_moved n None e y h = absurd (none-some y h)
  fits_moved n (Some x) e y h = subst (IsWired (spliced c a m).wires) (same_Some (moved (renumber c a m) x) y h) (fits_part n x e)

  fits_at : (k : ℕ) (y : Node) → slice_get (spliced c a m).nodes k ≡ Some y → IsWired (spliced c a m).wires y
  fits_at k y e =
      let l = slice_get_within (spliced c a m).nodes k y e in let s = spliced_length c a m fit in
      elim (decode c a m fit k (omega arith)) [
        | inl (n, ne, at) ↦ fits_net n y (sym (net_node c a m fit n ne) ∙ ap (slice_get (spliced c a m).nodes) (sym at) ∙ e)
        | inr (n, h, at) ↦ fits_moved n (slice_get m.nodes n) refl y
            (sym (part_node c a m fit n h) ∙ ap (slice_get (spliced c a m).nodes) (sym at) ∙ e)
      ]

  -- each node of the result has its wires
  pub spliced_fits : AllByRecursion (IsWired (spliced c a m).wires) (spliced c a m).nodes
  spliced_fits = all_from (IsWired (spliced c a m).wires) (spliced c a m).nodes fits_at

  pub spliced_some : 0 < length (spliced c a m).nodes
  spliced_some = let s = spliced_length c a m fit in let ins = fit.inside in let comp = fit.component in let some = fit.some in omega arith

  -- a wire past those of c is an inner wire of m
  inner_at : (w : ℕ) → c.wires ≤ w → w < (spliced c a m).wires
      → (u : ℕ) × (u < m.wires) × (renumber c a m u ≡ w) × (◌≢◌ {A = ℕ} (driver m u) 0) × (◌≢◌ {A = ℕ} (receiver m u) 0)
  inner_at w g l =
      let wires = spliced_wires c a m in
      let (u, below, inner, r) = rank_onto (is_inner m) m.wires (w - c.wires) (omega arith) in
      let (from, goes) = inner_parts m u inner in
      let number = number_third c a m u from goes in
      (u, below, omega arith, from, goes)

  given_by : (w : ℕ) → w < (spliced c a m).wires → AtNet c a driver w ⊎ AtPart c a m driver w
  given_by w l = elim (cases_lt w c.wires) [
    | inl h ↦ elim (cases_eq (driver c w) a) [
      | inl e ↦ inr (from_part h e)
      | inr ne ↦ inl (record { known = h; kept = ne })
    ]
    | inr g ↦ (let (u, below, at, from, goes) = inner_at w g l in inr (record { wire = u; below = below; number = at; kept = from }))
  ]
    where
      from_part : w < c.wires → driver c w ≡ a → AtPart c a m driver w
      from_part h e =
          let given : gives c a (output_port c w) ≡ true = ap (λ n. gives c n (output_port c w)) (sym e) ∙ (net_gives_at c a m fit).real w h in
          let taken : takes m 0 (output_port c w) ≡ true = sym (given_there c a m fit (output_port c w)) ∙ given in
          let goes : receiver m (end_at m 0 (output_port c w)) ≡ 0 = (part_takes_at c a m fit).node_at 0 (output_port c w) taken in
          let port : input_port m (end_at m 0 (output_port c w)) ≡ output_port c w = (part_takes_at c a m fit).port_at 0 (output_port c w) taken in
          let below = (part_takes_at c a m fit).known 0 (output_port c w) taken in
          record {
            wire = end_at m 0 (output_port c w);
            below = below;
            number = elim (kind c a m fit (end_at m 0 (output_port c w)) below) [
              | inl x ↦ absurd (fit.not_through (end_at m 0 (output_port c w)) below (x.from, goes))
              | inr (inl x) ↦ x.number ∙ ap (end_at c a) port ∙ ap (λ n. end_at c n (output_port c w)) (sym e) ∙ (net_gives_at c a m fit).back w h
              | inr (inr x) ↦ absurd (x.goes goes)
            ];
            kept = λ from. fit.not_through (end_at m 0 (output_port c w)) below (from, goes);
          }

  taken_by : (w : ℕ) → w < (spliced c a m).wires → AtNet c a receiver w ⊎ AtPart c a m receiver w
  taken_by w l = elim (cases_lt w c.wires) [
    | inl h ↦ elim (cases_eq (receiver c w) a) [
      | inl e ↦ (let (g, at, from) = goes_on c a m fit w h e in
          let below = (part_gives_at c a m fit).known 0 (input_port c w) g in
          inr (record {
            wire = end_at m 0 (input_port c w);
            below = below;
            number = at;
            kept = λ goes. fit.not_through (end_at m 0 (input_port c w)) below (from, goes);
          }))
      | inr ne ↦ inl (record { known = h; kept = ne })
    ]
    | inr g ↦ (let (u, below, at, from, goes) = inner_at w g l in inr (record { wire = u; below = below; number = at; kept = goes }))
  ]

  given_once : (w : ℕ) → AtNet c a driver w ⊎ AtPart c a m driver w → Once (gives (spliced c a m)) (spliced c a m) w
  given_once w (inl x) =
      let g = (net_gives_at c a m fit).real w x.known in
      let e = (net_gives_at c a m fit).back w x.known in (
        net_place c a m (driver c w),
        output_port c w,
        net_gives c a m fit (driver c w) (output_port c w) x.kept ∙ g,
        net_end c a m fit (driver c w) (output_port c w) x.kept ∙ e,
        (λ k q h f. given_net_once c a m fit (driver c w) (output_port c w) x.kept g k q h (f ∙ sym e)),
      )
  given_once w (inr x) =
      let g = (part_gives_at c a m fit).real x.wire x.below in
      let e = ap (renumber c a m) ((part_gives_at c a m fit).back x.wire x.below) ∙ x.number in (
        part_place c a m (driver m x.wire),
        output_port m x.wire,
        part_gives c a m fit (driver m x.wire) (output_port m x.wire) x.kept ∙ g,
        part_end_given c a m fit (driver m x.wire) (output_port m x.wire) x.kept g ∙ e,
        (λ k q h f. given_part_once c a m fit (driver m x.wire) (output_port m x.wire) x.kept g k q h (f ∙ sym e)),
      )

  taken_once : (w : ℕ) → AtNet c a receiver w ⊎ AtPart c a m receiver w → Once (takes (spliced c a m)) (spliced c a m) w
  taken_once w (inl x) =
      let g = (net_takes_at c a m fit).real w x.known in
      let e = (net_takes_at c a m fit).back w x.known in (
        net_place c a m (receiver c w),
        input_port c w,
        net_takes c a m fit (receiver c w) (input_port c w) x.kept ∙ g,
        net_end c a m fit (receiver c w) (input_port c w) x.kept ∙ e,
        (λ k q h f. taken_net_once c a m fit (receiver c w) (input_port c w) x.kept g k q h (f ∙ sym e)),
      )
  taken_once w (inr x) =
      let g = (part_takes_at c a m fit).real x.wire x.below in
      let e = ap (renumber c a m) ((part_takes_at c a m fit).back x.wire x.below) ∙ x.number in (
        part_place c a m (receiver m x.wire),
        input_port m x.wire,
        part_takes c a m fit (receiver m x.wire) (input_port m x.wire) x.kept ∙ g,
        part_end_taken c a m fit (receiver m x.wire) (input_port m x.wire) x.kept g ∙ e,
        (λ k q h f. taken_part_once c a m fit (receiver m x.wire) (input_port m x.wire) x.kept g k q h (f ∙ sym e)),
      )

  pub spliced_closed : IsClosed (spliced c a m)
  spliced_closed = closed_by_counts (spliced c a m) spliced_fits (λ w l. (given_once w (given_by w l), taken_once w (taken_by w l)))

  -- the driver and the receiver of a wire in the result
  driver_of : (w : ℕ) (x : AtNet c a driver w ⊎ AtPart c a m driver w) → driver (spliced c a m) w ≡ (given_once w x).0
  driver_of w x = let (k, q, g, e, only) = given_once w x in
      (found_only (gives (spliced c a m)) (spliced c a m) (gives_there (spliced c a m)) w k q g e only).0

  receiver_of : (w : ℕ) (x : AtNet c a receiver w ⊎ AtPart c a m receiver w) → receiver (spliced c a m) w ≡ (taken_once w x).0
  receiver_of w x = let (k, q, g, e, only) = taken_once w x in
      (found_only (takes (spliced c a m)) (spliced c a m) (takes_there (spliced c a m)) w k q g e only).0

  pub spliced_clean : IsClean c → IsClean m → IsClean (spliced c a m)
  unfolding given_once taken_once
  spliced_clean net part w l e = clash (given_by w l) (taken_by w l)
    where
      clash : AtNet c a driver w ⊎ AtPart c a m driver w → AtNet c a receiver w ⊎ AtPart c a m receiver w → ⊥
      clash x y = apart x y (sym (driver_of w x) ∙ e ∙ receiver_of w y)
        where
          apart : (x : AtNet c a driver w ⊎ AtPart c a m driver w) (y : AtNet c a receiver w ⊎ AtPart c a m receiver w)
              → (given_once w x).0 ≡ (taken_once w y).0 → ⊥
          apart (inl x) (inl y) f = net w x.known (net_alone c a m fit (driver c w) (receiver c w) x.kept y.kept f)
          apart (inl x) (inr y) f = places_apart c a m fit (driver c w) (receiver m y.wire) x.kept y.kept f
          apart (inr x) (inl y) f = places_apart c a m fit (receiver c w) (driver m x.wire) y.kept x.kept (sym f)
          apart (inr x) (inr y) f = part x.wire x.below (part_alone c a m fit (driver m x.wire) (receiver m y.wire) x.kept y.kept f
              ∙ ap (receiver m) (one_wire c a m fit y.wire x.wire y.below x.below (y.number ∙ sym x.number)))

  component_other : ◌≢◌ {A = ℕ} 0 a
  component_other e = let comp = fit.component in omega arith

  -- the environment of the result is that of c
  pub spliced_specified : (s : NodeSpec) → IsSpecified c s → IsSpecified (spliced c a m) s
  spliced_specified s e = ap (λ k. spec_of (slice_get (spliced c a m).nodes k)) (sym (net_zero c a m fit))
      ∙ ap spec_of (net_node c a m fit 0 component_other) ∙ e

  pub spliced_network : IsNetwork c → IsNetwork (spliced c a m)
  spliced_network network =
      let (x, e) = node_at c.nodes 0 network.some in record {
        some = omega (
          arith,
          slice_get_within (spliced c a m).nodes 0 x
              (ap (slice_get (spliced c a m).nodes) (sym (net_zero c a m fit)) ∙ net_node c a m fit 0 component_other ∙ e),
        );
        wired = spliced_fits;
      }

  pub spliced_sound : Sound (fabric c) → Sound (fabric m) → Sound (fabric (spliced c a m))
  spliced_sound f g = joined_sound (fabric c) a (fabric m) 0 (fabric (spliced c a m)) (spliced_joins c a m fit) f g

  pub spliced_exact : Sound (fabric c) → Sound (fabric m) → Exact (fabric c) → Exact (fabric m)
      → Exact (fabric (spliced c a m))
  spliced_exact f g x y = joined_exact (fabric c) a (fabric m) (fabric (spliced c a m)) (spliced_joins c a m fit)
      (joins_outside c a m fit) component_other f g x y

  -- Sound for s with a network that is sound for a's specification in a's place is sound for s.
  pub spliced_sound_for : (s t : NodeSpec) → SoundFor c s → SoundFor m t → SoundFor (spliced c a m) s
  spliced_sound_for s t f g = record {
    network = spliced_network f.network;
    closed = spliced_closed;
    specified = spliced_specified s f.specified;
    sound = spliced_sound f.sound g.sound;
  }

  -- And correct with correct is correct.
  pub spliced_correct : (s t : NodeSpec) → Correct c s → Correct m t → Correct (spliced c a m) s
  spliced_correct s t f g = record {
    network = spliced_network f.network;
    closed = spliced_closed;
    specified = spliced_specified s f.specified;
    sound = spliced_sound f.sound g.sound;
    exact = spliced_exact f.sound g.sound f.exact g.exact;
  }
