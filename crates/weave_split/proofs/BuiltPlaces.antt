-- The places of wires, noted one after another.
use Rattle.std.specs.Prelude.{not, if◌then◌else◌, nat_eq, unwrap_or}
use Rattle.std.proofs.Common.{◌≡◌, ◌⊎◌, ℕ, ◌+◌, ◌≤◌, Bool, true, false, List, [], ◌∷◌, ◌++◌, length, map, cond, Option, Some, None, inl, inr, refl, sym, ap, ◌∙◌, arith, eq-eqb, ne_eqb, eqb-true, true≢false}
use Rattle.std.specs.List.{position_or_len}
use native.Mathlib.Decide.{ℕ_discrete}
use Rattle.std.proofs.lemmas.Bool.{and_from, and_parts, cases_eq, cases_Bool}
use Rattle.std.proofs.lemmas.List.Folds.{position_or_len_push}
use Rattle.std.proofs.lemmas.List.Sums.{prefix_len-le-length}
use Rattle.net_laws.proofs.Webs.{test_decides}
use Rattle.plain_split.specs.SharedPaths.{place}
use Rattle.weave_split.specs.declared.paths.Wire.{Wire}
use Rattle.weave_split.specs.declared.paths.Wire.TheVariants as wire
use Rattle.weave_split.specs.WeaveChart as web
use Rattle.weave_split.specs.WeaveChart.{same_wire, wire_discrete}
use Rattle.weave_split.specs.Mirror.TieTables.{wire_of}
use Rattle.weave_split.specs.Mirror.WirePlaces.{wire_eq}
use Rattle.weave_split.proofs.BuiltSteps.{first_step}

back : web.Wire → Wire
back (web.Take s) = wire.Take s
back (web.Copy s p) = wire.Copy s p
back (web.Back s p) = wire.Back s p
back (web.Made s p) = wire.Made s p
back (web.Ask s) = wire.Ask s
back (web.Return p) = wire.Return p
back (web.Token p) = wire.Token p
back (web.Give s) = wire.Give s

back_is : (w : Wire) → back (wire_of w) ≡ w
unfolding back
back_is (wire.Take s) = refl
back_is (wire.Copy s p) = refl
back_is (wire.Back s p) = refl
back_is (wire.Made s p) = refl
back_is (wire.Ask s) = refl
back_is (wire.Return p) = refl
back_is (wire.Token p) = refl
back_is (wire.Give s) = refl

one_name : (v w : Wire) → wire_of v ≡ wire_of w → v ≡ w
one_name v w e = sym (back_is v) ∙ ap back e ∙ back_is w

eq_same : (v w : Wire) → wire_eq v w ≡ true → v ≡ w
eq_same (wire.Take a) (wire.Take b) h = ap wire.Take (eqb-true a b h)
eq_same (wire.Copy a b) (wire.Copy c d) h = let (p, q) = and_parts (nat_eq a c) (nat_eq b d) h in λ i. wire.Copy (eqb-true a c p i) (eqb-true b d q i)
eq_same (wire.Back a b) (wire.Back c d) h = let (p, q) = and_parts (nat_eq a c) (nat_eq b d) h in λ i. wire.Back (eqb-true a c p i) (eqb-true b d q i)
eq_same (wire.Made a b) (wire.Made c d) h = let (p, q) = and_parts (nat_eq a c) (nat_eq b d) h in λ i. wire.Made (eqb-true a c p i) (eqb-true b d q i)
eq_same (wire.Ask a) (wire.Ask b) h = ap wire.Ask (eqb-true a b h)
eq_same (wire.Return a) (wire.Return b) h = ap wire.Return (eqb-true a b h)
eq_same (wire.Token a) (wire.Token b) h = ap wire.Token (eqb-true a b h)
eq_same (wire.Give a) (wire.Give b) h = ap wire.Give (eqb-true a b h)
eq_same v w h = absurd (true≢false (sym h))

eq_self : (v : Wire) → wire_eq v v ≡ true
eq_self (wire.Take a) = eq-eqb a a refl
eq_self (wire.Copy a b) = and_from (nat_eq a a) (nat_eq b b) (eq-eqb a a refl) (eq-eqb b b refl)
eq_self (wire.Back a b) = and_from (nat_eq a a) (nat_eq b b) (eq-eqb a a refl) (eq-eqb b b refl)
eq_self (wire.Made a b) = and_from (nat_eq a a) (nat_eq b b) (eq-eqb a a refl) (eq-eqb b b refl)
eq_self (wire.Ask a) = eq-eqb a a refl
eq_self (wire.Return a) = eq-eqb a a refl
eq_self (wire.Token a) = eq-eqb a a refl
eq_self (wire.Give a) = eq-eqb a a refl

pub eq_is : (v w : Wire) → wire_eq v w ≡ same_wire (wire_of v) (wire_of w)
eq_is v w = by (test_decides (wire_discrete ℕ_discrete) (wire_of v) (wire_of w)) (cases_Bool (wire_eq v w))
  where
    by : ((same_wire (wire_of v) (wire_of w) ≡ true) × (wire_of v ≡ wire_of w)) ⊎ ((same_wire (wire_of v) (wire_of w) ≡ false) × (wire_of v ≡ wire_of w → ⊥)) → (wire_eq v w ≡ true) ⊎ (wire_eq v w ≡ false)
        → wire_eq v w ≡ same_wire (wire_of v) (wire_of w)
    by (inl (t, e)) c = (ap (λ (u : Wire). wire_eq v u) (sym (one_name v w e)) ∙ eq_self v) ∙ sym t
    by (inr (t, d)) (inl h) = absurd (d (ap wire_of (eq_same v w h)))
    by (inr (t, d)) (inr h) = h ∙ sym t

-- where a wire stands, by either name
pub places_same : (q : Wire) (ws : List Wire) → position_or_len (wire_eq q) ws ≡ place same_wire (map wire_of ws) (wire_of q)
places_same q [] = refl
places_same q (w ∷ ws) =
    first_step (wire_eq q) w ws ∙ ap (λ (b : Bool). cond b 0 (1 + position_or_len (wire_eq q) ws)) (eq_is q w) ∙ ap (λ n. cond (same_wire (wire_of q) (wire_of w)) 0 (1 + n)) (places_same q ws)
    ∙ sym (first_step (same_wire (wire_of q)) (wire_of w) (map wire_of ws))

abbrev pub found : Wire → List Wire → ℕ → Option ℕ
found q ws n = if nat_eq (position_or_len (wire_eq q) ws) n then None else Some (position_or_len (wire_eq q) ws)

pub found_or : (q : Wire) (ws : List Wire) (n : ℕ) → unwrap_or (found q ws n) n ≡ position_or_len (wire_eq q) ws
found_or q ws n = elim (cases_eq (position_or_len (wire_eq q) ws) n) [
  | inl e ↦ ap (λ (b : Bool). unwrap_or (if b then None else Some (position_or_len (wire_eq q) ws)) n) (eq-eqb (position_or_len (wire_eq q) ws) n e) ∙ sym e
  | inr d ↦ ap (λ (b : Bool). unwrap_or (if b then None else Some (position_or_len (wire_eq q) ws)) n) (ne_eqb (position_or_len (wire_eq q) ws) n d)
]

place_low : (q : Wire) (ws : List Wire) → position_or_len (wire_eq q) ws ≤ length ws
place_low q ws = prefix_len-le-length (λ w. not (wire_eq q w)) ws

pub absent : (q : Wire) (ws : List Wire) (n : ℕ) → found q ws n ≡ None → position_or_len (wire_eq q) ws ≡ n
absent q ws n h = elim (cases_eq (position_or_len (wire_eq q) ws) n) [
  | inl e ↦ e
  | inr d ↦
      let e : found q ws n ≡ Some (position_or_len (wire_eq q) ws) = ap (λ (b : Bool). if b then None else Some (position_or_len (wire_eq q) ws)) (ne_eqb (position_or_len (wire_eq q) ws) n d) in
      absurd (cc)
]

-- a wire more, which is not q where q is not there
pub found_more : (q y : Wire) (ws : List Wire) (n : ℕ) → length ws ≡ n → (position_or_len (wire_eq q) ws ≡ n → wire_eq q y ≡ false) → found q ws n ≡ found q (ws ++ y ∷ []) (n + 1)
found_more q y ws n long apart = elim (cases_eq (position_or_len (wire_eq q) ws) n) [
  | inl e ↦
      let here : position_or_len (wire_eq q) (ws ++ y ∷ []) ≡ n + 1 =
      position_or_len_push (wire_eq q) ws y ∙ ap (λ (b : Bool). cond b (length ws + cond (wire_eq q y) 0 1) (position_or_len (wire_eq q) ws)) (eq-eqb (position_or_len (wire_eq q) ws) (length ws) (e ∙ sym long))
      ∙ ap (λ (b : Bool). length ws + cond b 0 1) (apart e) ∙ ap (λ (k : ℕ). k + 1) long in
      ap (λ (b : Bool). if b then None else Some (position_or_len (wire_eq q) ws)) (eq-eqb (position_or_len (wire_eq q) ws) n e)
      ∙ sym (ap (λ (b : Bool). if b then None else Some (position_or_len (wire_eq q) (ws ++ y ∷ []))) (eq-eqb (position_or_len (wire_eq q) (ws ++ y ∷ [])) (n + 1) here))
  | inr d ↦
      let here : position_or_len (wire_eq q) (ws ++ y ∷ []) ≡ position_or_len (wire_eq q) ws =
      position_or_len_push (wire_eq q) ws y ∙ ap (λ (b : Bool). cond b (length ws + cond (wire_eq q y) 0 1) (position_or_len (wire_eq q) ws)) (ne_eqb (position_or_len (wire_eq q) ws) (length ws) (λ e. d (e ∙ long))) in
      ap (λ (b : Bool). if b then None else Some (position_or_len (wire_eq q) ws)) (ne_eqb (position_or_len (wire_eq q) ws) n d)
      ∙ ap (λ (k : ℕ). Some k) (sym here)
      ∙ sym (ap (λ (b : Bool). if b then None else Some (position_or_len (wire_eq q) (ws ++ y ∷ [])))
      (ne_eqb (position_or_len (wire_eq q) (ws ++ y ∷ [])) (n + 1) (λ e. omega (arith, e, here, place_low q ws, long))))
]

pub found_new : (y : Wire) (ws : List Wire) (n : ℕ) → length ws ≡ n → position_or_len (wire_eq y) ws ≡ n → Some n ≡ found y (ws ++ y ∷ []) (n + 1)
found_new y ws n long e =
    let here : position_or_len (wire_eq y) (ws ++ y ∷ []) ≡ n =
    position_or_len_push (wire_eq y) ws y ∙ ap (λ (b : Bool). cond b (length ws + cond (wire_eq y y) 0 1) (position_or_len (wire_eq y) ws)) (eq-eqb (position_or_len (wire_eq y) ws) (length ws) (e ∙ sym long))
    ∙ ap (λ (b : Bool). length ws + cond b 0 1) (eq_self y) ∙ omega (arith, long) in
    ap (λ (k : ℕ). Some k) (sym here)
    ∙ sym (ap (λ (b : Bool). if b then None else Some (position_or_len (wire_eq y) (ws ++ y ∷ []))) (ne_eqb (position_or_len (wire_eq y) (ws ++ y ∷ [])) (n + 1) (λ z. omega (arith, z, here))))

-- the table with the wire y noted at n, where it was not there
pub noted_new : (f h : Wire → Option ℕ) (y : Wire) (ws : List Wire) (n : ℕ) → length ws ≡ n → ((q : Wire) → f q ≡ found q ws n) → f y ≡ None → ((q : Wire) → h q ≡ cond (wire_eq y q) (Some n) (f q))
    → (q : Wire) → h q ≡ found q (ws ++ y ∷ []) (n + 1)
noted_new f h y ws n long old none after q = elim (cases_Bool (wire_eq y q)) [
  | inl t ↦
      let e : y ≡ q = eq_same y q t in
      after q ∙ ap (λ (b : Bool). cond b (Some n) (f q)) t ∙ found_new y ws n long (absent y ws n (sym (old y) ∙ none)) ∙ ap (λ (u : Wire). found u (ws ++ y ∷ []) (n + 1)) e
  | inr t ↦
      after q ∙ ap (λ (b : Bool). cond b (Some n) (f q)) t ∙ old q
      ∙ found_more q y ws n long (λ p. elim (cases_Bool (wire_eq q y)) [
        | inl s ↦ let e : q ≡ y = eq_same q y s in absurd (true≢false (sym (eq_self y) ∙ ap (wire_eq y) (sym e) ∙ t))
        | inr s ↦ s
      ])
]

-- the table where the wire y was there
pub noted_old : (f : Wire → Option ℕ) (y : Wire) (ws : List Wire) (n : ℕ) → length ws ≡ n → ((q : Wire) → f q ≡ found q ws n) → (f y ≡ None → ⊥) → (q : Wire) → f q ≡ found q (ws ++ y ∷ []) (n + 1)
noted_old f y ws n long old some q = old q ∙ found_more q y ws n long (λ p. elim (cases_Bool (wire_eq q y)) [
  | inl s ↦
      let e : q ≡ y = eq_same q y s in
      let gone : found q ws n ≡ None = ap (λ (b : Bool). if b then None else Some (position_or_len (wire_eq q) ws)) (eq-eqb (position_or_len (wire_eq q) ws) n p) in
      absurd (some (ap f (sym e) ∙ old q ∙ gone))
  | inr s ↦ s
])
