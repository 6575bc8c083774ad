-- How the table of spots grows.
use Rattle.std.proofs.Common.{◌≡◌, ◌⊎◌, inl, inr, ⊎_elim, ℕ, zero, suc, ◌+◌, ◌<◌, ◌≤◌, Bool, true, false, true≢false, cond, List, [], ◌∷◌, ◌++◌, length, slice_get, get_or, take, Option, Some, None, refl, sym, ap, ◌∙◌, subst, arith}
use Rattle.std.specs.declared.cmp.Ordering.{Ordering}
use Rattle.std.specs.declared.cmp.Ordering.TheVariants.{Less, Equal, Greater}
use Rattle.std.specs.Ordering.{nat_cmp, ordering_then, is_eq, is_lt, ord_max}
use Rattle.std.proofs.lemmas.Bool.{cases_lt}
use Rattle.std.proofs.lemmas.Cmp.{nat_cmp_total, tied_itself}
use Rattle.std.proofs.lemmas.List.{length-map, take_more}
use Rattle.std.proofs.lemmas.Map.Lookups.{exact_pairs, exact_unsigned}
use Rattle.std.proofs.lemmas.Map.Views.{tells_apart}
use Rattle.std.proofs.lemmas.Option.{slice_get_within}
use Rattle.cmd_tree.specs.declared.tree.Mark.{Mark}
use Rattle.cmd_tree.specs.Meaning.{symbols}
use Rattle.place_graph.specs.declared.leg.Leg.{Leg}
use Rattle.place_graph.specs.Points.{Among}
use Rattle.place_graph.proofs.Joined.{among_append, among_left, among_right}
use Rattle.cmd_machine.specs.declared.position.Spot.{Spot}
use Rattle.cmd_machine.specs.Mirror.Positions.{Key, key_cmp, SpotOf, Finds, OfLegs}

-- ---- equal keys

pub key_same : (k q : Key) → is_eq (key_cmp k q) ≡ true → k ≡ q
key_same k q h = tells_apart {R = key_cmp} (exact_pairs nat_cmp nat_cmp exact_unsigned exact_unsigned) k q h

pub key_self : (k : Key) → is_eq (key_cmp k k) ≡ true
key_self (a, x) = ap (λ o. is_eq (ordering_then o (nat_cmp x x))) (tied_itself nat_cmp_total a) ∙ ap is_eq (tied_itself nat_cmp_total x)

-- ---- one mark more

-- E or F, whichever marks are entered
spot_as : (E F : Leg → ℕ → Type 0) → ((l : Leg) (i : ℕ) → E l i → F l i) → (k : Key) (s : Spot) → SpotOf E k s
    → SpotOf F k s
spot_as E F f k s w = record {
  leg = w.leg;
  entered = f w.leg s.index w.entered;
  symbol = w.symbol;
  from = w.from;
  place = w.place;
  size = w.size;
  to = w.to;
}

pub finds_as : (E F : Leg → ℕ → Type 0) (at : Key → Option Spot) → ((l : Leg) (i : ℕ) → E l i → F l i)
    → ((l : Leg) (i a : ℕ) → slice_get (symbols l.marks) i ≡ Some a → F l i → E l i) → Finds E at → Finds F at
finds_as E F at f g h = record {
  sound = λ k s e. spot_as E F f k s (h.sound k s e);
  whole = λ l i a w e. h.whole l i a (g l i a e w) e;
}

module _ (E F : Leg → ℕ → Type 0) (old new : Key → Option Spot) (leg : Leg) (n a : ℕ) (s : Spot) where
  pub finds_more : ((l : Leg) (i : ℕ) → E l i → F l i) → F leg s.index
      → ((l : Leg) (i : ℕ) → F l i → E l i ⊎ ((l ≡ leg) × (i ≡ s.index)))
      → slice_get (symbols leg.marks) s.index ≡ Some a → s.place ≡ leg.place → s.size ≡ length leg.marks
      → s.to ≡ leg.to
      → ((q : Key) → new q ≡ cond (is_eq (key_cmp (a, leg.from) q)) (Some s) (old q)) → Finds E old
      → Finds F new
  finds_more more here last symbol place size to updates h = record {
    sound = λ k r e. sound_by k r (is_eq (key_cmp (a, leg.from) k)) refl (sym (updates k) ∙ e);
    whole = λ l i b w e none. ⊎_elim
        (λ v. whole_by l i b v e (is_eq (key_cmp (a, leg.from) (b, l.from))) (sym (updates (b, l.from)) ∙ none))
        (λ v. last_is l i b v.0 v.1 e (sym (updates (b, l.from)) ∙ none))
        (last l i w);
  }
    where
      sound_by : (k : Key) (r : Spot) (t : Bool) → is_eq (key_cmp (a, leg.from) k) ≡ t
          → cond t (Some s) (old k) ≡ Some r → SpotOf F k r
      sound_by k r true e f =
          let same : s ≡ r = cc in
          subst (λ x. SpotOf F k x) same
          (subst (λ q. SpotOf F q s) (key_same (a, leg.from) k e)
          (record {
            leg = leg;
            entered = here;
            symbol = symbol;
            from = refl;
            place = place;
            size = size;
            to = to;
          }))
      sound_by k r false e f = spot_as E F more k r (h.sound k r f)

      whole_by : (l : Leg) (i b : ℕ) → E l i → slice_get (symbols l.marks) i ≡ Some b → (t : Bool)
          → cond t (Some s) (old (b, l.from)) ≡ None → ⊥
      whole_by l i b w e true none = absurd (cc)
      whole_by l i b w e false none = h.whole l i b w e none

      some_none : (t : Bool) (o : Option Spot) → t ≡ true → cond t (Some s) o ≡ None → ⊥
      some_none true o e none = absurd (cc)
      some_none false o e none = true≢false (sym e)

      last_is : (l : Leg) (i b : ℕ) → l ≡ leg → i ≡ s.index → slice_get (symbols l.marks) i ≡ Some b
          → cond (is_eq (key_cmp (a, leg.from) (b, l.from))) (Some s) (old (b, l.from)) ≡ None → ⊥
      last_is l i b u v e none =
          let same : Some b ≡ Some a = sym e ∙ ap (λ (x : Leg). slice_get (symbols x.marks) i) u
          ∙ ap (slice_get (symbols leg.marks)) v ∙ symbol in
          let it : b ≡ a = cc in
          some_none (is_eq (key_cmp (a, leg.from) (b, l.from))) (old (b, l.from))
          (ap (λ z. is_eq (key_cmp (a, leg.from) z)) (ap (λ y. (y, l.from)) it ∙ ap (λ (x : Leg). (a, x.from)) u)
          ∙ key_self (a, leg.from)) none

-- ---- the marks of a leg, one after another

module _ (L : List Leg) (leg : Leg) (at : Key → Option Spot) where
  pub none_entered : Finds (λ l i. Among L l) at → Finds (OfLegs L leg 0) at
  none_entered = finds_as (λ l i. Among L l) (OfLegs L leg 0) at (λ l i w. inl w)
      (λ l i a e w. ⊎_elim (λ v. v) (λ v. absurd (omega (arith, v.1))) w)

  pub all_entered : (n : ℕ) → length leg.marks ≤ n → Finds (OfLegs L leg n) at
      → Finds (λ l i. Among (L ++ leg ∷ []) l) at
  all_entered n many = finds_as (OfLegs L leg n) (λ l i. Among (L ++ leg ∷ []) l) at
      (λ l i w. ⊎_elim
      (λ v. among_left L (leg ∷ []) l v)
      (λ v. among_right L (leg ∷ []) l (inl (sym v.0)))
      w)
      (λ l i a e w. ⊎_elim
      (λ v. inl v)
      (λ v. ⊎_elim
      (λ (f : leg ≡ l).
      inr (
        sym f,
        omega (
          arith,
          many,
          slice_get_within (symbols l.marks) i a e,
          length-map l.marks (λ k. k.sym.0),
          ap (λ (x : Leg). length x.marks) f,
        ),
      ))
      (λ none. absurd none)
      v)
      (among_append L (leg ∷ []) l w))

pub one_entered : (L : List Leg) (leg : Leg) (old new : Key → Option Spot) (n a : ℕ) (s : Spot) → s.index ≡ n
    → slice_get (symbols leg.marks) n ≡ Some a → s.place ≡ leg.place → s.size ≡ length leg.marks
    → s.to ≡ leg.to → ((q : Key) → new q ≡ cond (is_eq (key_cmp (a, leg.from) q)) (Some s) (old q))
    → Finds (OfLegs L leg n) old → Finds (OfLegs L leg (n + 1)) new
one_entered L leg old new n a s is symbol place size to updates h = finds_more (OfLegs L leg n)
    (OfLegs L leg (n + 1)) old new leg n a s
    (λ l i w. ⊎_elim (λ v. inl v) (λ v. inr (v.0, omega (arith, v.1))) w)
    (inr (refl, omega (arith, is)))
    (λ l i w. ⊎_elim
    (λ v. inl (inl v))
    (λ v. by l i v.0 (earlier i v.1))
    w)
    (ap (slice_get (symbols leg.marks)) is ∙ symbol) place size to updates h
  where
    earlier : (i : ℕ) → i < n + 1 → (i < n) ⊎ (i ≡ s.index)
    earlier i l = ⊎_elim (λ v. inl v) (λ v. inr (omega (arith, l, v, is))) (cases_lt i n)

    by : (l : Leg) (i : ℕ) → l ≡ leg → (i < n) ⊎ (i ≡ s.index)
        → OfLegs L leg n l i ⊎ ((l ≡ leg) × (i ≡ s.index))
    by l i e (inl v) = inl (inr (e, v))
    by l i e (inr v) = inr (e, v)

pub symbol_at : (ns ms : List Mark) (i : ℕ) (m d : Mark) → ns ≡ ms → i < length ns → m ≡ get_or ns i d
    → slice_get (symbols ms) i ≡ Some m.sym.0
symbol_at ns ms i m d same h e = subst (λ x. slice_get (symbols x) i ≡ Some m.sym.0) same (by ns i h e)
  where
    by : (ns : List Mark) (i : ℕ) → i < length ns → m ≡ get_or ns i d → slice_get (symbols ns) i ≡ Some m.sym.0
    by [] i h e = absurd (omega (arith, h))
    by (k ∷ ns) zero h e = ap (λ (x : Mark). Some x.sym.0) (sym e)
    by (k ∷ ns) (suc i) h e = by ns i (omega (arith, h)) e

-- ---- the legs of a process, one after another

pub legs_entered : (legs : List Leg) (i : ℕ) (leg d : Leg) (at : Key → Option Spot) → i < length legs
    → leg ≡ get_or legs i d → Finds (λ l j. Among (take i legs ++ leg ∷ []) l) at
    → Finds (λ l j. Among (take (i + 1) legs) l) at
legs_entered legs i leg d at h e f = subst (λ M. Finds (λ l j. Among M l) at)
    (ap (λ x. take i legs ++ x ∷ []) e ∙ sym (take_more legs i d h)) f

pub most_more : (legs : List Leg) (i : ℕ) (leg d : Leg) (most more : ℕ) → i < length legs
    → leg ≡ get_or legs i d → ((m : Leg) → Among (take i legs) m → length m.marks ≤ most) → most ≤ more
    → length leg.marks ≤ more → (m : Leg) → Among (take (i + 1) legs) m → length m.marks ≤ more
most_more legs i leg d most more h e f less this m a = ⊎_elim
    (λ v. omega (arith, f m v, less))
    (λ v. ⊎_elim (λ (k : get_or legs i d ≡ m). omega (arith, this, ap (λ (x : Leg). length x.marks) (e ∙ k))) (λ none. absurd none) v)
    (among_append (take i legs) (get_or legs i d ∷ []) m
    (subst (λ M. Among M m) (take_more legs i d h) a))

pub most_of : (a b : ℕ) → (a ≤ ord_max nat_cmp a b) × (b ≤ ord_max nat_cmp a b)
most_of a b = by (nat_cmp b a) (grind arith)
  where
    by : (o : Ordering) → ((b < a) × (o ≡ Less)) ⊎ (((b ≡ a) × (o ≡ Equal)) ⊎ ((a < b) × (o ≡ Greater)))
        → (a ≤ cond (is_lt o) a b) × (b ≤ cond (is_lt o) a b)
    by o (inl h) = subst (λ x. (a ≤ cond (is_lt x) a b) × (b ≤ cond (is_lt x) a b)) (sym h.1)
        (omega arith, omega (arith, h.0))
    by o (inr (inl h)) = subst (λ x. (a ≤ cond (is_lt x) a b) × (b ≤ cond (is_lt x) a b)) (sym h.1)
        (omega (arith, h.0), omega arith)
    by o (inr (inr h)) = subst (λ x. (a ≤ cond (is_lt x) a b) × (b ≤ cond (is_lt x) a b)) (sym h.1)
        (omega (arith, h.0), omega arith)
