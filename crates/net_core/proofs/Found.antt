-- In a closed network the ends of a wire are found from it, and a wire from its ends.
use Rattle.std.proofs.Common.{◌≡◌, ℕ, zero, suc, ◌<◌, Bool, true, false, not, ◌&&◌, List, [], ◌∷◌, length, get_or, Option, None, Some, refl, sym, ap, ◌∙◌, subst, arith, inl, inr, eq-eqb}
use Rattle.std.specs.Prelude.{slice_get, nat_eq}
use Rattle.std.specs.List.{AllByRecursion, list_any, range_with_len, position_or_len}
use Rattle.std.proofs.lemmas.Bool.{cases_Bool, cases_lt, false≢true, and_parts, and_from, eqb-true}
use Rattle.std.proofs.lemmas.List.{get_or_past, length-map}
use Rattle.std.proofs.lemmas.List.Folds.{Any-from_list_any, list_any_at}
use Rattle.std.proofs.lemmas.List.FromFn.{get_or-range_with_len, length-range_with_len}
use Rattle.std.proofs.lemmas.List.Sums.{position_or_len_is, passes_at_first, fails_before_first}
use Rattle.std.proofs.lemmas.Option.{slice_get_within}
use Rattle.net_core.specs.Specs.{outs_of}
use Rattle.net_core.specs.Wiring.{Node, Circuit, IsWired, IsClosed}
use Rattle.net_core.specs.Networks.{directions_at, directions, gives, takes, end_of, end_at, has_end, end_node, end_port, Once}
use Rattle.net_core.proofs.Counting.{all_at}
use Rattle.net_core.proofs.Ends.{side_of, later_same, closed_by_ends}

pub ranged : (n k : ℕ) → k < n → get_or (range_with_len 0 n) k 0 ≡ k
ranged n k h = get_or-range_with_len 0 n k 0 h ∙ omega arith

-- the first number below n that passes
pub first_is : (test : ℕ → Bool) (n i : ℕ) → i < n → test i ≡ true → ((k : ℕ) → k < n → test k ≡ true → k ≡ i) → position_or_len test (range_with_len 0 n) ≡ i
first_is test n i h passes only =
    position_or_len_is test (range_with_len 0 n) i 0 (omega (arith, length-range_with_len 0 n))
    (λ k lt. let e : get_or (range_with_len 0 n) k 0 ≡ k = ranged n k (omega arith) in ap test e ∙ fails k (omega arith) (λ same. omega arith))
    (λ lt. ap test (ranged n i h) ∙ passes)
  where
    fails : (k : ℕ) → k < n → (k ≡ i → ⊥) → test k ≡ false
    fails k lt other = elim (cases_Bool (test k)) [ inl yes_it ↦ absurd (other (only k lt yes_it)) | inr it ↦ it ]

pub some_below : (test : ℕ → Bool) (n : ℕ) → list_any test (range_with_len 0 n) ≡ true → (k : ℕ) × (k < n) × (test k ≡ true)
some_below test n h =
    let (k, x, below, is, passes) = Any-from_list_any test (range_with_len 0 n) h in
    let lt : k < n = omega (arith, length-range_with_len 0 n) in
    let same : x ≡ k = omega (arith, is, get_or-range_with_len 0 n k x lt) in
    (k, lt, ap test (sym same) ∙ passes)

pub any_below : (test : ℕ → Bool) (n k : ℕ) → k < n → test k ≡ true → list_any test (range_with_len 0 n) ≡ true
any_below test n k h passes =
    list_any_at test (range_with_len 0 n) k 0 (omega (arith, length-range_with_len 0 n)) (ap test (ranged n k h) ∙ passes)

-- where one passes, the first that does
pub first_below : (test : ℕ → Bool) (n k : ℕ) → k < n → test k ≡ true
    → (test (position_or_len test (range_with_len 0 n)) ≡ true) × (position_or_len test (range_with_len 0 n) < n)
first_below test n k lt passes =
    let size = length-range_with_len 0 n in
    elim (cases_lt (position_or_len test (range_with_len 0 n)) n) [
      | inl h ↦ (
        ap test (sym (ranged n (position_or_len test (range_with_len 0 n)) h)) ∙ passes_at_first test (range_with_len 0 n) 0 (omega arith),
        h,
      )
      | inr past ↦ absurd (false≢true (sym (ap test (sym (ranged n k lt)) ∙ fails_before_first test (range_with_len 0 n) k 0 (omega arith)) ∙ passes))
    ]

-- The ports of f are ports of nodes that are there.
abbrev pub IsThere : (ℕ → ℕ → Bool) → Circuit → Type 0
IsThere f c = (n p : ℕ) → f n p ≡ true → (n < length c.nodes) × (p < length (directions c n))

module _ (f : ℕ → ℕ → Bool) (c : Circuit) (there : IsThere f c) (w n p : ℕ) (is : f n p ≡ true) (at : end_at c n p ≡ w)
    (only : (m q : ℕ) → f m q ≡ true → end_at c m q ≡ w → (m ≡ n) × (q ≡ p)) where
  at_end : (m q : ℕ) → (f m q && nat_eq (end_at c m q) w) ≡ true → (m ≡ n) × (q ≡ p)
  at_end m q h = let parts = and_parts (f m q) (nat_eq (end_at c m q) w) h in only m q parts.0 (eqb-true (end_at c m q) w parts.1)

  this_end : (f n p && nat_eq (end_at c n p) w) ≡ true
  this_end = and_from (f n p) (nat_eq (end_at c n p) w) is (eq-eqb (end_at c n p) w at)

  node_found : end_node f c w ≡ n
  unfolding end_node
  node_found = first_is (has_end f c w) (length c.nodes) n (there n p is).0
      (any_below (λ q. f n q && nat_eq (end_at c n q) w) (length (directions c n)) p (there n p is).1 this_end)
      (λ m lt h. let (q, below, e) = some_below (λ q. f m q && nat_eq (end_at c m q) w) (length (directions c m)) h in (at_end m q e).0)

  port_of : (m : ℕ) → m ≡ n → position_or_len (λ q. f m q && nat_eq (end_at c m q) w) (range_with_len 0 (length (directions c m))) ≡ p
  port_of m e = rw e (first_is (λ q. f n q && nat_eq (end_at c n q) w) (length (directions c n)) p (there n p is).1 this_end (λ q lt h. (at_end n q h).1))

  port_found : end_port f c w ≡ p
  unfolding end_port
  port_found = port_of (end_node f c w) node_found

-- The one port at a wire is found from it.
pub found_only : (f : ℕ → ℕ → Bool) (c : Circuit) → IsThere f c → (w n p : ℕ) → f n p ≡ true → end_at c n p ≡ w
    → ((m q : ℕ) → f m q ≡ true → end_at c m q ≡ w → (m ≡ n) × (q ≡ p)) → (end_node f c w ≡ n) × (end_port f c w ≡ p)
found_only f c there w n p is at only = (node_found f c there w n p is at only, port_found f c there w n p is at only)

node_there : (xs : List Node) (n p : ℕ) (o : Option Node) → slice_get xs n ≡ o → p < length (directions_at n o) → n < length xs
node_there xs n p None e h = absurd (omega arith)
node_there xs n p (Some x) e h = slice_get_within xs n x e

pub there_by_port : (c : Circuit) (n p : ℕ) → p < length (directions c n) → (n < length c.nodes) × (p < length (directions c n))
there_by_port c n p h = (node_there c.nodes n p (slice_get c.nodes n) refl h, h)

pub gives_there : (c : Circuit) → IsThere (gives c) c
gives_there c n p g = elim (cases_lt p (length (directions c n))) [
  | inl h ↦ there_by_port c n p h
  | inr past ↦ absurd (false≢true (sym (get_or_past (directions c n) p false past) ∙ g))
]

pub takes_there : (c : Circuit) → IsThere (takes c) c
takes_there c n p t = elim (cases_lt p (length (directions c n))) [
  | inl h ↦ there_by_port c n p h
  | inr past ↦ absurd (false≢true (ap not (sym (get_or_past (directions c n) p true past)) ∙ t))
]

pub all_nodes : (P : Node → Type 0) (xs : List Node) (n : ℕ) (x : Node) → AllByRecursion P xs → slice_get xs n ≡ Some x → P x
all_nodes P [] n x all e = absurd (cc)
all_nodes P (y ∷ xs) zero x all e = let same : y ≡ x = cc in subst P same all.0
all_nodes P (y ∷ xs) (suc n) x all e = all_nodes P xs n x all.1 e

pub same_ports : (n : ℕ) (x : Node) → length (directions_at n (Some x)) ≡ length (outs_of x.spec)
same_ports zero x = length-map (outs_of x.spec) not
same_ports (suc n) x = ap (λ (l : List Bool). length l) (later_same n (Some x))

side_within : (b : Bool) (ds : List Bool) (p : ℕ) → side_of b ds p ≡ true → p < length ds
side_within true [] p h = absurd (false≢true h)
side_within false [] p h = absurd (false≢true h)
side_within true (d ∷ ds) zero h = omega arith
side_within false (d ∷ ds) zero h = omega arith
side_within true (d ∷ ds) (suc p) h = let l = side_within true ds p h in omega arith
side_within false (d ∷ ds) (suc p) h = let l = side_within false ds p h in omega arith

-- a port is that of a node that is there
pub port_within : (b : Bool) (xs : List Node) (n p : ℕ) (o : Option Node) → slice_get xs n ≡ o → side_of b (directions_at n o) p ≡ true
    → (x : Node) × (slice_get xs n ≡ Some x) × (p < length (outs_of x.spec))
port_within true xs n p None e h = absurd (false≢true h)
port_within false xs n p None e h = absurd (false≢true h)
port_within b xs n p (Some x) e h = let l = side_within b (directions_at n (Some x)) p h in let same = same_ports n x in (x, e, omega arith)

known_at : (k : ℕ) (xs : List Node) (n p : ℕ) (o : Option Node) → AllByRecursion (IsWired k) xs → slice_get xs n ≡ o → p < length (directions_at n o) → end_of o p < k
known_at k xs n p None all e h = absurd (omega arith)
known_at k xs n p (Some x) all e h =
    let fits : IsWired k x = all_nodes (IsWired k) xs n x all e in
    all_at (λ w. w < k) x.ends p fits.known (omega (arith, fits.sized, same_ports n x))

-- the wire at a port of a node that is there is known
pub known_end : (c : Circuit) → AllByRecursion (IsWired c.wires) c.nodes → (n p : ℕ) → p < length (directions c n) → end_at c n p < c.wires
known_end c fit n p h = known_at c.wires c.nodes n p (slice_get c.nodes n) fit refl h

-- Of the ports in f, each is found from its wire, and each wire has one.
pub record Located (f : ℕ → ℕ → Bool) (c : Circuit) : Type 0 where
  pub there : IsThere f c
  pub known : (n p : ℕ) → f n p ≡ true → end_at c n p < c.wires
  pub node_at : (n p : ℕ) → f n p ≡ true → end_node f c (end_at c n p) ≡ n
  pub port_at : (n p : ℕ) → f n p ≡ true → end_port f c (end_at c n p) ≡ p
  pub real : (w : ℕ) → w < c.wires → f (end_node f c w) (end_port f c w) ≡ true
  pub back : (w : ℕ) → w < c.wires → end_at c (end_node f c w) (end_port f c w) ≡ w

pub locate : (f : ℕ → ℕ → Bool) (c : Circuit) → IsThere f c → AllByRecursion (IsWired c.wires) c.nodes → ((w : ℕ) → w < c.wires → Once f c w) → Located f c
locate f c there fit once = record {
  there = there;
  known = known;
  node_at = λ n p is. node_found f c there (end_at c n p) n p is refl (only n p is);
  port_at = λ n p is. port_found f c there (end_at c n p) n p is refl (only n p is);
  real = λ w h. (found w h).0;
  back = λ w h. (found w h).1;
}
  where
    known : (n p : ℕ) → f n p ≡ true → end_at c n p < c.wires
    known n p is = known_end c fit n p (there n p is).1

    only : (n p : ℕ) → f n p ≡ true → (m q : ℕ) → f m q ≡ true → end_at c m q ≡ end_at c n p → (m ≡ n) × (q ≡ p)
    only n p is m q also e =
        let (a, b, g, at, one) = once (end_at c n p) (known n p is) in
        let x : (n ≡ a) × (p ≡ b) = one n p is refl in
        let y : (m ≡ a) × (q ≡ b) = one m q also e in
        (y.0 ∙ sym x.0, y.1 ∙ sym x.1)

    found : (w : ℕ) → w < c.wires → (f (end_node f c w) (end_port f c w) ≡ true) × (end_at c (end_node f c w) (end_port f c w) ≡ w)
    found w h =
        let (n, p, is, at, one) = once w h in
        let x : end_node f c w ≡ n = node_found f c there w n p is at one in
        let y : end_port f c w ≡ p = port_found f c there w n p is at one in
        (ap (λ m. f m (end_port f c w)) x ∙ ap (f n) y ∙ is, ap (λ m. end_at c m (end_port f c w)) x ∙ ap (end_at c n) y ∙ at)

pub gives_located : (c : Circuit) → AllByRecursion (IsWired c.wires) c.nodes → IsClosed c → Located (gives c) c
gives_located c fit closed = locate (gives c) c (gives_there c) fit (λ w h. (closed_by_ends c fit closed w h).0)

pub takes_located : (c : Circuit) → AllByRecursion (IsWired c.wires) c.nodes → IsClosed c → Located (takes c) c
takes_located c fit closed = locate (takes c) c (takes_there c) fit (λ w h. (closed_by_ends c fit closed w h).1)

-- the same where the wire is known by its number
module _ (f : ℕ → ℕ → Bool) (c : Circuit) (l : Located f c) (w n p : ℕ) (is : f n p ≡ true) (at : end_at c n p ≡ w) where
  pub node_of_wire : end_node f c w ≡ n
  node_of_wire = ap (end_node f c) (sym at) ∙ l.node_at n p is

  pub port_of_wire : end_port f c w ≡ p
  port_of_wire = ap (end_port f c) (sym at) ∙ l.port_at n p is
