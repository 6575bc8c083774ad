-- How often a wire stands in a list of ends, and at which ports: a network is closed by counts where each wire is at one output port and at one input port.
use Rattle.std.proofs.Common.{◌≡◌, ◌≢◌, ◌⊎◌, inl, inr, ℕ, zero, suc, pred, ◌+◌, ◌≤◌, Bool, true, false, not, List, [], ◌∷◌, ◌++◌, map, length, get_or, Option, None, Some, refl, sym, ap, ◌∙◌, subst, arith, ne_eqb}
use Rattle.std.specs.Prelude.{slice_get}
use Rattle.std.specs.List.{AllByRecursion}
use Rattle.std.proofs.lemmas.Bool.{cases_eq, false≢true}
use Rattle.std.proofs.lemmas.List.{length-map}
use Rattle.net_core.specs.Specs.{outs_of}
use Rattle.net_core.specs.Wiring.{Node, Circuit, IsWired, IsClosed, count, picked, flows, wiring, side, driven, received}
use Rattle.net_core.specs.Networks.{directions_at, gives, takes, end_of, end_at, Once, IsClosedByEnds}
use Rattle.net_core.proofs.Counting.{count_nil, count_same, count_other, count-append}

-- P holds of k things, or of two at least where k is more than 1.
data Has (I : Type 0) (P : I → Type 0) (k : ℕ) : Type 0 where
  none : k ≡ 0 → ((i : I) → P i → ⊥) → Has I P k
  one : k ≡ 1 → (i : I) → P i → ((j : I) → P j → j ≡ i) → Has I P k
  many : 2 ≤ k → (i j : I) → P i → P j → (i ≡ j → ⊥) → Has I P k

-- S holds of the images of what P and Q hold of, and of nothing else.
record Beside (I J K : Type 0) (P : I → Type 0) (Q : J → Type 0) (S : K → Type 0) (f : I → K) (g : J → K) : Type 0 where
  left : (i : I) → P i → S (f i)
  right : (j : J) → Q j → S (g j)
  either : (k : K) → S k → ((i : I) × P i × (k ≡ f i)) ⊎ ((j : J) × Q j × (k ≡ g j))
  one_left : (i j : I) → f i ≡ f j → i ≡ j
  one_right : (i j : J) → g i ≡ g j → i ≡ j
  apart : (i : I) (j : J) → f i ≡ g j → ⊥

module _ (I J K : Type 0) (P : I → Type 0) (Q : J → Type 0) (S : K → Type 0) (f : I → K) (g : J → K) (b : Beside I J K P Q S f g) (m n : ℕ) where
  has_sum : Has I P m → Has J Q n → Has K S (m + n)
  has_sum (none z h) (none y l) = none (omega arith) (λ k s. elim (b.either k s) [ inl (i, p, e) ↦ h i p | inr (j, q, e) ↦ l j q ])
  has_sum (none z h) (one y j q only) = one (omega arith) (g j) (b.right j q)
      (λ k s. elim (b.either k s) [ inl (i, p, e) ↦ absurd (h i p) | inr (i, p, e) ↦ e ∙ ap g (only i p) ])
  has_sum (none z h) (many y i j p q ne) = many (omega arith) (g i) (g j) (b.right i p) (b.right j q) (λ e. ne (b.one_right i j e))
  has_sum (one z i p only) (none y l) = one (omega arith) (f i) (b.left i p)
      (λ k s. elim (b.either k s) [ inl (j, q, e) ↦ e ∙ ap f (only j q) | inr (j, q, e) ↦ absurd (l j q) ])
  has_sum (one z i p only) (one y j q alone) = many (omega arith) (f i) (g j) (b.left i p) (b.right j q) (b.apart i j)
  has_sum (one z u v only) (many y i j p q ne) = many (omega arith) (g i) (g j) (b.right i p) (b.right j q) (λ e. ne (b.one_right i j e))
  has_sum (many z i j p q ne) h = many (omega arith) (f i) (f j) (b.left i p) (b.left j q) (λ e. ne (b.one_left i j e))

-- the first of a list is one more, or is not
module _ (S : ℕ → Type 0) (k : ℕ) where
  has_here : S 0 → Has ℕ (λ p. S (suc p)) k → Has ℕ S (suc k)
  has_here here (none z h) = one (omega arith) 0 here (at h)
    where
      at : ((i : ℕ) → S (suc i) → ⊥) → (j : ℕ) → S j → j ≡ 0
      at h zero s = refl
      at h (suc j) s = absurd (h j s)
  has_here here (one z i p only) = many (omega arith) 0 (suc i) here p (λ e. omega arith)
  has_here here (many z i j p q ne) = many (omega arith) (suc i) (suc j) p q (λ e. ne (omega arith))

  has_there : (S 0 → ⊥) → Has ℕ (λ p. S (suc p)) k → Has ℕ S k
  has_there out (none z h) = none z (at h)
    where
      at : ((i : ℕ) → S (suc i) → ⊥) → (j : ℕ) → S j → ⊥
      at h zero s = out s
      at h (suc j) s = h j s
  has_there out (one z i p only) = one z (suc i) p (at only)
    where
      at : ((j : ℕ) → S (suc j) → j ≡ i) → (j : ℕ) → S j → j ≡ suc i
      at only zero s = absurd (out s)
      at only (suc j) s = ap suc (only j s)
  has_there out (many z i j p q ne) = many z (suc i) (suc j) p q (λ e. ne (omega arith))

-- port p is an output, or an input, of a node with these directions
abbrev pub side_of : Bool → List Bool → ℕ → Bool
side_of true ds p = get_or ds p false
side_of false ds p = not (get_or ds p true)

abbrev AtPort : Bool → ℕ → List Bool → List ℕ → ℕ → Type 0
AtPort b w ds ws p = (side_of b ds p ≡ true) × (get_or ws p 0 ≡ w)

no_port : (b : Bool) (p : ℕ) → side_of b [] p ≡ true → ⊥
no_port true p h = false≢true h
no_port false p h = false≢true h

has_more : (b d : Bool) (w v : ℕ) (ds : List Bool) (ws vs : List ℕ) → side_of b (d ∷ ds) 0 ≡ true
    → Has ℕ (λ p. AtPort b w (d ∷ ds) (v ∷ ws) (suc p)) (count w vs) → Has ℕ (AtPort b w (d ∷ ds) (v ∷ ws)) (count w (v ∷ vs))
has_more b d w v ds ws vs out h = elim (cases_eq w v) [
  | inl e ↦
      subst (λ k. Has ℕ (AtPort b w (d ∷ ds) (v ∷ ws)) k) (sym (subst (λ x. count w (x ∷ vs) ≡ suc (count w vs)) e (count_same w vs)))
      (has_here (AtPort b w (d ∷ ds) (v ∷ ws)) (count w vs) (out, sym e) h)
  | inr ne ↦
      subst (λ k. Has ℕ (AtPort b w (d ∷ ds) (v ∷ ws)) k) (sym (count_other w v vs ne))
      (has_there (AtPort b w (d ∷ ds) (v ∷ ws)) (count w vs) (λ s. ne (sym s.1)) h)
]

-- the ports of a node at the wire w, on one side
has_ports : (b : Bool) (w : ℕ) (ds : List Bool) (ws : List ℕ) → length ws ≡ length ds → Has ℕ (AtPort b w ds ws) (count w (picked b ds ws))
unfolding picked
has_ports b w [] ws e = none (count_nil w) (λ p s. no_port b p s.0)
has_ports b w (d ∷ ds) [] e = absurd (omega arith)
has_ports true w (true ∷ ds) (v ∷ ws) e = has_more true true w v ds ws (picked true ds ws) refl (has_ports true w ds ws (omega arith))
has_ports true w (false ∷ ds) (v ∷ ws) e =
    has_there (AtPort true w (false ∷ ds) (v ∷ ws)) (count w (picked true ds ws)) (λ s. false≢true s.0) (has_ports true w ds ws (omega arith))
has_ports false w (true ∷ ds) (v ∷ ws) e =
    has_there (AtPort false w (true ∷ ds) (v ∷ ws)) (count w (picked false ds ws)) (λ s. false≢true s.0) (has_ports false w ds ws (omega arith))
has_ports false w (false ∷ ds) (v ∷ ws) e = has_more false false w v ds ws (picked false ds ws) refl (has_ports false w ds ws (omega arith))

-- the directions of a component
abbrev pub outs_at : Option Node → List Bool
outs_at None = []
outs_at (Some x) = outs_of x.spec

-- the port p of node n, both by one pair, is at the wire w and on this side: among components, and in a network
abbrev AtPart : Bool → ℕ → List Node → ℕ × ℕ → Type 0
AtPart b w xs i = (side_of b (outs_at (slice_get xs i.0)) i.1 ≡ true) × (end_of (slice_get xs i.0) i.1 ≡ w)

abbrev AtNode : Bool → ℕ → List Node → ℕ × ℕ → Type 0
AtNode b w xs i = (side_of b (directions_at i.0 (slice_get xs i.0)) i.1 ≡ true) × (end_of (slice_get xs i.0) i.1 ≡ w)

one_less : (i j : ℕ × ℕ) → ◌≡◌ {A = ℕ × ℕ} (suc i.0, i.1) (suc j.0, j.1) → i ≡ j
one_less i j e = ap (λ (k : ℕ × ℕ). (pred k.0, k.1)) e

not_first : (p : ℕ) (i : ℕ × ℕ) → ◌≡◌ {A = ℕ × ℕ} (0, p) (suc i.0, i.1) → ⊥
not_first p i e = let z : 0 ≡ suc i.0 = ap (λ (k : ℕ × ℕ). k.0) e in omega arith

-- the ends of a first node and of those after it
module _ (b : Bool) (w : ℕ) (ds : List Bool) (x : Node) (xs : List Node) (S : ℕ × ℕ → Type 0)
    (first : (p : ℕ) → AtPort b w ds x.ends p → S (0, p)) (later : (n p : ℕ) → AtPart b w xs (n, p) → S (suc n, p))
    (first_back : (p : ℕ) → S (0, p) → AtPort b w ds x.ends p) (later_back : (n p : ℕ) → S (suc n, p) → AtPart b w xs (n, p)) where
  beside : Beside ℕ (ℕ × ℕ) (ℕ × ℕ) (AtPort b w ds x.ends) (AtPart b w xs) S (λ p. (0, p)) (λ i. (suc i.0, i.1))
  beside = record {
    left = first;
    right = λ i s. later i.0 i.1 s;
    either = λ i s. at i.0 i.1 s;
    one_left = λ p q e. ap (λ (k : ℕ × ℕ). k.1) e;
    one_right = one_less;
    apart = not_first;
  }
    where
      at : (n p : ℕ) → S (n, p)
          → ((q : ℕ) × AtPort b w ds x.ends q × (◌≡◌ {A = ℕ × ℕ} (n, p) (0, q)))
          ⊎ ((i : ℕ × ℕ) × AtPart b w xs i × (◌≡◌ {A = ℕ × ℕ} (n, p) (suc i.0, i.1)))
      at zero p s = inl (p, first_back p s, refl)
      at (suc n) p s = inr ((n, p), later_back n p s, refl)

  has_nodes : (vs us : List ℕ) → Has ℕ (AtPort b w ds x.ends) (count w vs) → Has (ℕ × ℕ) (AtPart b w xs) (count w us) → Has (ℕ × ℕ) S (count w (vs ++ us))
  has_nodes vs us h l = subst (λ k. Has (ℕ × ℕ) S k) (sym (count-append w vs us))
      (has_sum ℕ (ℕ × ℕ) (ℕ × ℕ) (AtPort b w ds x.ends) (AtPart b w xs) S (λ p. (0, p)) (λ i. (suc i.0, i.1)) beside (count w vs) (count w us) h l)

has_parts : (b : Bool) (w k : ℕ) (xs : List Node) → AllByRecursion (IsWired k) xs → Has (ℕ × ℕ) (AtPart b w xs) (count w (flows b xs))
unfolding flows
has_parts b w k [] all = none (count_nil w) (λ i s. no_port b i.1 s.0)
has_parts b w k (x ∷ xs) all =
    let fits : IsWired k x = all.0 in
    has_nodes b w (outs_of x.spec) x xs (AtPart b w (x ∷ xs)) (λ p s. s) (λ n p s. s) (λ p s. s) (λ n p s. s)
    (side b x) (flows b xs) (has_ports b w (outs_of x.spec) x.ends fits.sized) (has_parts b w k xs all.1)

picked_not : (b : Bool) (ds : List Bool) (ws : List ℕ) → picked (not b) ds ws ≡ picked b (map not ds) ws
unfolding picked
picked_not b [] ws = refl
picked_not b (d ∷ ds) [] = refl
picked_not true (true ∷ ds) (w ∷ ws) = picked_not true ds ws
picked_not true (false ∷ ds) (w ∷ ws) = ap (λ (l : List ℕ). w ∷ l) (picked_not true ds ws)
picked_not false (true ∷ ds) (w ∷ ws) = ap (λ (l : List ℕ). w ∷ l) (picked_not false ds ws)
picked_not false (false ∷ ds) (w ∷ ws) = picked_not false ds ws

pub later_same : (n : ℕ) (o : Option Node) → directions_at (suc n) o ≡ outs_at o
later_same n None = refl
later_same n (Some x) = rw (ne_eqb (suc n) 0 (omega arith)) refl

not_not : (b : Bool) → not (not b) ≡ b
not_not true = refl
not_not false = refl

-- with the directions exchanged the sides are exchanged
pub exchanged : (b : Bool) (ds : List Bool) (p : ℕ) → side_of b (map not ds) p ≡ side_of (not b) ds p
exchanged true [] p = refl
exchanged false [] p = refl
exchanged true (d ∷ ds) zero = refl
exchanged false (d ∷ ds) zero = not_not d
exchanged true (d ∷ ds) (suc p) = exchanged true ds p
exchanged false (d ∷ ds) (suc p) = exchanged false ds p

-- a component has its own directions
pub own_directions : (n : ℕ) (o : Option Node) → ◌≢◌ {A = ℕ} n 0 → directions_at n o ≡ outs_at o
own_directions n None h = refl
own_directions n (Some x) h = rw (ne_eqb n 0 h) refl

first_sized : (k : ℕ) (x : Node) → IsWired k x → length x.ends ≡ length (map not (outs_of x.spec))
first_sized k x fits = fits.sized ∙ sym (length-map (outs_of x.spec) not)

-- the ends of a network at the wire w, on one side
has_net : (b : Bool) (w k : ℕ) (xs : List Node) → AllByRecursion (IsWired k) xs → Has (ℕ × ℕ) (AtNode b w xs) (count w (wiring b xs))
unfolding wiring
has_net b w k [] all = none (count_nil w) (λ i s. no_port b i.1 s.0)
has_net b w k (x ∷ xs) all =
    has_nodes b w (map not (outs_of x.spec)) x xs (AtNode b w (x ∷ xs)) (λ p s. s) later (λ p s. s) later_back (side (not b) x) (flows b xs)
    (subst (λ l. Has ℕ (AtPort b w (map not (outs_of x.spec)) x.ends) (count w l)) (sym (picked_not b (outs_of x.spec) x.ends))
    (has_ports b w (map not (outs_of x.spec)) x.ends (first_sized k x all.0)))
    (has_parts b w k xs all.1)
  where
    later : (n p : ℕ) → AtPart b w xs (n, p) → AtNode b w (x ∷ xs) (suc n, p)
    later n p s = (ap (λ ds. side_of b ds p) (later_same n (slice_get xs n)) ∙ s.0, s.1)

    later_back : (n p : ℕ) → AtNode b w (x ∷ xs) (suc n, p) → AtPart b w xs (n, p)
    later_back n p s = (ap (λ ds. side_of b ds p) (sym (later_same n (slice_get xs n))) ∙ s.0, s.1)

abbrev AtWire : (ℕ → ℕ → Bool) → Circuit → ℕ → ℕ × ℕ → Type 0
AtWire f c w i = (f i.0 i.1 ≡ true) × (end_at c i.0 i.1 ≡ w)

has_gives : (c : Circuit) (w : ℕ) → AllByRecursion (IsWired c.wires) c.nodes → Has (ℕ × ℕ) (AtWire (gives c) c w) (count w (driven c))
has_gives c w fit = has_net true w c.wires c.nodes fit

has_takes : (c : Circuit) (w : ℕ) → AllByRecursion (IsWired c.wires) c.nodes → Has (ℕ × ℕ) (AtWire (takes c) c w) (count w (received c))
has_takes c w fit = has_net false w c.wires c.nodes fit

both : (n p m q : ℕ) → ◌≡◌ {A = ℕ × ℕ} (m, q) (n, p) → (m ≡ n) × (q ≡ p)
both n p m q e = (ap (λ (k : ℕ × ℕ). k.0) e, ap (λ (k : ℕ × ℕ). k.1) e)

pair : (i j : ℕ × ℕ) → i.0 ≡ j.0 → i.1 ≡ j.1 → i ≡ j
pair i j a b = subst (λ (n : ℕ). ◌≡◌ {A = ℕ × ℕ} i (n, j.1)) a (subst (λ (p : ℕ). ◌≡◌ {A = ℕ × ℕ} i (i.0, p)) b refl)

module _ (f : ℕ → ℕ → Bool) (c : Circuit) (w k : ℕ) where
  once_of_count : Has (ℕ × ℕ) (AtWire f c w) k → k ≡ 1 → Once f c w
  once_of_count (none z h) e = absurd (omega arith)
  once_of_count (one z i s only) e = (i.0, i.1, s.0, s.1, λ m q g a. both i.0 i.1 m q (only (m, q) (g, a)))
  once_of_count (many z i j s t ne) e = absurd (omega arith)

  count_of_once : Has (ℕ × ℕ) (AtWire f c w) k → Once f c w → k ≡ 1
  count_of_once (none z h) (n, p, g, a, only) = absurd (h (n, p) (g, a))
  count_of_once (one z i s only) o = z
  count_of_once (many z i j s t ne) (n, p, g, a, only) =
      let x : (i.0 ≡ n) × (i.1 ≡ p) = only i.0 i.1 s.0 s.1 in
      let y : (j.0 ≡ n) × (j.1 ≡ p) = only j.0 j.1 t.0 t.1 in
      absurd (ne (pair i j (x.0 ∙ sym y.0) (x.1 ∙ sym y.1)))

-- a wire with one driver, or with one receiver, has it at one port and no other
pub gives_once : (c : Circuit) → AllByRecursion (IsWired c.wires) c.nodes → (w : ℕ) → count w (driven c) ≡ 1 → Once (gives c) c w
gives_once c fit w e = once_of_count (gives c) c w (count w (driven c)) (has_gives c w fit) e

pub takes_once : (c : Circuit) → AllByRecursion (IsWired c.wires) c.nodes → (w : ℕ) → count w (received c) ≡ 1 → Once (takes c) c w
takes_once c fit w e = once_of_count (takes c) c w (count w (received c)) (has_takes c w fit) e

-- Where each node has one known wire at each port, the two ways to say that a network is closed are one.
pub closed_by_ends : (c : Circuit) → AllByRecursion (IsWired c.wires) c.nodes → IsClosed c → IsClosedByEnds c
closed_by_ends c fit closed w h =
    (gives_once c fit w (closed w h).0, takes_once c fit w (closed w h).1)

pub closed_by_counts : (c : Circuit) → AllByRecursion (IsWired c.wires) c.nodes → IsClosedByEnds c → IsClosed c
closed_by_counts c fit ends w h =
    (count_of_once (gives c) c w (count w (driven c)) (has_gives c w fit) (ends w h).0, count_of_once (takes c) c w (count w (received c)) (has_takes c w fit) (ends w h).1)
