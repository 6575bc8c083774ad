-- What a position answers, and where a step leads it.
use Rattle.std.proofs.Common.{◌≡◌, ◌≢◌, ◌⊎◌, inl, inr, ⊎_elim, ℕ, zero, suc, ◌-◌, ◌<◌, ◌≤◌, true, false, true≢false, List, [], ◌∷◌, length, slice_get, Some, None, IsTrue, refl, sym, ap, ◌∙◌, subst, arith}
use Rattle.std.specs.List.{AllByRecursion}
use Rattle.std.proofs.lemmas.List.{nil_from_length, length-map}
use Rattle.std.proofs.lemmas.Option.{slice_get_within}
use Rattle.std.specs.BTreeMap.{get}
use Rattle.cmd_tree.specs.Lists.{is_in}
use Rattle.cmd_tree.specs.Meaning.{symbols}
use Rattle.cmd_tree.specs.Residual.{without}
use Rattle.place_graph.specs.declared.leg.Leg.{Leg}
use Rattle.place_graph.specs.Points.{Among}
use Rattle.place_graph.specs.Chart.{Has, Increase}
use Rattle.place_graph.specs.Tale.{idle}
use Rattle.place_graph.specs.Walks.{Here, Move, within, leaves}
use Rattle.cmd_machine.specs.declared.position.Spot.{Spot}
use Rattle.cmd_machine.specs.declared.position.Position.{Position}
use Rattle.cmd_machine.specs.Lawful.{Lawful}
use Rattle.cmd_machine.specs.Mirror.Positions.{key_cmp, SpotOf, FindsLegs, kept, bits_of, UnderWay, IsAt, IsOpen, after}
use Rattle.cmd_machine.proofs.Kept.{in_at, at_in, kept_all, kept_within, kept_bit, bit_kept, kept_less, without_length}

-- ---- a leg is known by its place

increase_at : (P : Leg → Type 0) (L : List Leg) (l : Leg) → AllByRecursion P L → Among L l → P l
increase_at P [] l h a = absurd a
increase_at P (m ∷ L) l h a = ⊎_elim (λ e. subst P e h.0) (λ b. increase_at P L l h.1 b) a

pub same_place : (L : List Leg) → Increase L → (l m : Leg) → Among L l → Among L m → l.place ≡ m.place → l ≡ m
same_place [] h l m a b e = absurd a
same_place (k ∷ L) h l m a b e = ⊎_elim
    (λ u. ⊎_elim
    (λ v. sym u ∙ v)
    (λ v. absurd (apart k m l (increase_at (λ n. k.place < n.place) L m h.0 v) u e))
    b)
    (λ u. ⊎_elim
    (λ v. absurd (apart k l m (increase_at (λ n. k.place < n.place) L l h.0 u) v (sym e)))
    (λ v. same_place L h.1 l m u v e)
    b)
    a
  where
    apart : (k n l : Leg) → k.place < n.place → k ≡ l → l.place ≡ n.place → ⊥
    apart k n l less e f = omega (arith, less, ap (λ (x : Leg). x.place) e, f)

abbrev pub Moves_by : List Leg → Here → ℕ → Type 0
Moves_by L c a = (d : Here) × Move L c a d

-- while symbols are pending, one of them comes
pending_comes : (L : List Leg) (c : Here) (a : ℕ) (d : Here) → Move L c a d → 0 < length c.pending
    → IsTrue (is_in a c.pending)
pending_comes L _ _ _ (within c a there) some = there
pending_comes L _ _ _ (leaves c a l none among at there) some = absurd (omega (arith, some, ap length none))

not_in_nil : (a : ℕ) (xs : List ℕ) → xs ≡ [] → IsTrue (is_in a xs) → ⊥
not_in_nil a xs e h = true≢false (sym (subst (λ x. IsTrue (is_in a x)) e h))

-- a leg from the point has the symbol of each move
record LegWith (L : List Leg) (x a : ℕ) : Type 0 where
  pub leg : Leg
  pub among : Among L leg
  pub from : leg.from ≡ x
  pub has : Has leg a

module _ (L : List Leg) (m : Position) where
  under_has : (c : Here) (a : ℕ) → (u : UnderWay L m c) → IsTrue (is_in a c.pending) → Has u.leg a
  under_has c a u h = kept_within (bits_of m.to_come.items) (symbols u.leg.marks) a
      (subst (λ xs. IsTrue (is_in a xs)) u.pending h)

  move_leg : (c : Here) (a : ℕ) (d : Here) → Move L c a d → IsAt L m c → LegWith L m.point a
  move_leg _ _ _ (within c a there) at = ⊎_elim
      (λ i. absurd (not_in_nil a c.pending (ap (λ (x : Here). x.pending) i.1) there))
      (λ i. record { leg = i.1.leg; among = i.1.among; from = i.1.from; has = under_has c a i.1 there })
      at.state
  move_leg _ _ _ (leaves c a l none among from there) at = ⊎_elim
      (λ i. record { leg = l; among = among; from = from ∙ ap (λ (x : Here). x.point) i.1; has = there })
      (λ i. absurd (omega (arith, i.0, i.1.left, ap length none)))
      at.state

  module _ (lawful : Lawful L) (c : Here) (at : IsAt L m c) (a : ℕ) where
    -- where the table has nothing for the symbol and the point, no move leads on
    pub none_found : get key_cmp m.spots (a, m.point) ≡ None → Moves_by L c a → ⊥
    none_found none d =
        let w = move_leg c a d.0 d.1 at in
        let i = at_in (symbols w.leg.marks) a w.has in
        at.found.whole w.leg i.0 a w.among i.1 (ap (λ x. get key_cmp m.spots (a, x)) w.from ∙ none)

    module _ (s : Spot) (spot : SpotOf (λ l i. Among L l) (a, m.point) s) where
      spot_has : Has spot.leg a
      spot_has = in_at (symbols spot.leg.marks) s.index a spot.symbol

      -- at rest the leg of the spot leads on
      pub at_rest : m.left ≡ 0 → Moves_by L c a
      at_rest none = ⊎_elim
          (λ i. (
            record { pending = without a (symbols spot.leg.marks); point = spot.leg.to },
            leaves c a spot.leg (ap (λ (x : Here). x.pending) i.1) spot.entered
                (spot.from ∙ sym (ap (λ (x : Here). x.point) i.1)) spot_has,
          ))
          (λ i. absurd (omega (arith, i.0, none)))
          at.state

      -- under way it is the leg of the spot, if it has the symbol
      same_leg : (u : UnderWay L m c) → Has u.leg a → spot.leg ≡ u.leg
      same_leg u h = lawful.one spot.leg u.leg a spot.entered u.among (spot.from ∙ sym u.from) spot_has h

      symbol_under : (u : UnderWay L m c) → spot.leg ≡ u.leg → slice_get (symbols u.leg.marks) s.index ≡ Some a
      symbol_under u e = ap (λ (l : Leg). slice_get (symbols l.marks) s.index) (sym e) ∙ spot.symbol

      -- under way the symbol may come where its bit is set
      pub under_way_can : 0 < m.left → s.place ≡ m.under_way → bits_of m.to_come.items s.index ≡ true
          → Moves_by L c a
      under_way_can some same bit = ⊎_elim
          (λ i. absurd (omega (arith, i.0, some)))
          (λ i.
          let e = same_place L lawful.increase spot.leg i.1.leg spot.entered i.1.among
          (sym spot.place ∙ same ∙ sym i.1.place) in (
            after a c,
            within c a
                (subst (λ xs. IsTrue (is_in a xs)) (sym i.1.pending)
                (bit_kept (bits_of m.to_come.items) (symbols i.1.leg.marks) s.index a (symbol_under i.1 e) bit)),
          ))
          at.state

      record Awaited : Type 0 where
        pub under : UnderWay L m c
        pub pends : IsTrue (is_in a c.pending)
        pub is : spot.leg ≡ under.leg

      awaited : 0 < m.left → Moves_by L c a → Awaited
      awaited some d = ⊎_elim
          (λ i. absurd (omega (arith, i.0, some)))
          (λ i.
          let there = pending_comes L c a d.0 d.1 (omega (arith, i.0, i.1.left)) in
          record { under = i.1; pends = there; is = same_leg i.1 (under_has c a i.1 there) })
          at.state

      pub under_way_must : 0 < m.left → Moves_by L c a
          → (s.place ≡ m.under_way) × (bits_of m.to_come.items s.index ≡ true)
      under_way_must some d =
          let w = awaited some d in (
            spot.place ∙ ap (λ (l : Leg). l.place) w.is ∙ w.under.place,
            kept_bit (bits_of m.to_come.items) (symbols w.under.leg.marks) s.index a
                (symbol_under w.under w.is) (lawful.few w.under.leg a w.under.among)
                (subst (λ xs. IsTrue (is_in a xs)) w.under.pending w.pends),
          )

      -- ---- the leg is opened

      abbrev pub Opens : Position → Type 0
      Opens n = (e : Here) × IsOpen L n a s e × Move L c a (after a e)

      pub stays_open : 0 < m.left → Moves_by L c a → Opens m
      stays_open some d =
          let w = awaited some d in (
            c,
            record {
              found = at.found;
              room = at.room;
              under = w.under;
              pends = w.pends;
              symbol = symbol_under w.under w.is;
              to = spot.to ∙ ap (λ (l : Leg). l.to) w.is;
            },
            within c a w.pends,
          )

      pub opens : (n : Position) → m.left ≡ 0 → n.spots ≡ m.spots → n.point ≡ m.point → n.under_way ≡ s.place
          → n.left ≡ s.size → length n.to_come.items ≡ length m.to_come.items
          → ((i : ℕ) → i < s.size → s.size ≤ length m.to_come.items → bits_of n.to_come.items i ≡ true)
          → Opens n
      opens n none spots point under left long bits =
          let rest : c ≡ idle m.point = ⊎_elim (λ i. i.1) (λ i. absurd (omega (arith, i.0, none))) at.state in
          let many : length (symbols spot.leg.marks) ≡ s.size = length-map spot.leg.marks (λ k. k.sym.0)
          ∙ sym spot.size in (
            record { pending = symbols spot.leg.marks; point = spot.leg.to },
            record {
              found = subst (FindsLegs L) (sym spots) at.found;
              room = λ l among. omega (arith, at.room l among, long);
              under = record {
                leg = spot.leg;
                among = spot.entered;
                from = spot.from ∙ sym point;
                place = sym spot.place ∙ sym under;
                pending = sym
                    (kept_all (bits_of n.to_come.items) (symbols spot.leg.marks)
                    (λ i l. bits i (omega (arith, l, many))
                    (omega (arith, spot.size, at.room spot.leg spot.entered))));
                to = refl;
                left = left ∙ sym many;
              };
              pends = spot_has;
              symbol = spot.symbol;
              to = spot.to;
            },
            leaves c a spot.leg (ap (λ (x : Here). x.pending) rest) spot.entered
                (spot.from ∙ sym (ap (λ (x : Here). x.point) rest)) spot_has,
          )

-- ---- the symbol comes

module _ (L : List Leg) (lawful : Lawful L) (m n : Position) (s : Spot) (e : Here) (a : ℕ) (open_ : IsOpen L m a s e) where
  abbrev u : UnderWay L m e
  u = open_.under

  bit_set : bits_of m.to_come.items s.index ≡ true
  bit_set = kept_bit (bits_of m.to_come.items) (symbols u.leg.marks) s.index a open_.symbol
      (lawful.few u.leg a u.among) (subst (λ xs. IsTrue (is_in a xs)) u.pending open_.pends)

  pub index_within : s.index < length m.to_come.items
  index_within = omega (
    arith,
    slice_get_within (symbols u.leg.marks) s.index a open_.symbol,
    length-map u.leg.marks (λ k. k.sym.0),
    open_.room u.leg u.among,
  )

  some_left : m.left ≡ suc (length (without a e.pending))
  some_left = u.left ∙ without_length a e.pending open_.pends

  pub taken : n.spots ≡ m.spots → length n.to_come.items ≡ length m.to_come.items
      → bits_of n.to_come.items s.index ≡ false
      → ((j : ℕ) → j ≢ s.index → bits_of n.to_come.items j ≡ bits_of m.to_come.items j)
      → n.under_way ≡ m.under_way → n.left ≡ m.left - 1 → (n.left ≡ 0 → n.point ≡ s.to)
      → (0 < n.left → n.point ≡ m.point) → IsAt L n (after a e)
  taken spots long clear same under left ends goes = record {
    found = subst (FindsLegs L) (sym spots) open_.found;
    room = λ l among. omega (arith, open_.room l among, long);
    state = by n.left refl;
  }
    where
      rest : n.left ≡ length (without a e.pending)
      rest = omega (arith, left, some_left)

      less : without a e.pending ≡ kept (bits_of n.to_come.items) (symbols u.leg.marks)
      less = ap (without a) u.pending
          ∙ sym (kept_less (bits_of m.to_come.items) (bits_of n.to_come.items) (symbols u.leg.marks) s.index a
          open_.symbol (lawful.few u.leg a u.among) bit_set clear same)

      by : (k : ℕ) → n.left ≡ k
          → ((n.left ≡ 0) × (after a e ≡ idle n.point)) ⊎ ((0 < n.left) × UnderWay L n (after a e))
      by zero z = inl (
        z,
        ap (λ xs. record { pending = xs; point = e.point }) (nil_from_length (without a e.pending) (sym rest ∙ z))
            ∙ ap idle (u.to ∙ sym open_.to ∙ sym (ends z)),
      )
      by (suc k) z = inr (
        omega (arith, z),
        record {
          leg = u.leg;
          among = u.among;
          from = u.from ∙ sym (goes (omega (arith, z)));
          place = u.place ∙ sym under;
          pending = less;
          to = u.to;
          left = rest;
        },
      )
