-- The ends in a network's table are its ports: where the table has one port at a wire, it is the wire's driver or receiver.
use Rattle.std.proofs.Common.{◌≡◌, ◌≢◌, ℕ, zero, suc, ◌+◌, ◌<◌, ◌≤◌, Bool, true, false, not, List, [], ◌∷◌, ◌++◌, map, length, get_or, Option, Some, refl, sym, ap, ◌∙◌, subst, arith, inl, inr, ne_eqb}
use Rattle.std.specs.Prelude.{slice_get}
use Rattle.std.specs.List.{AllByRecursion}
use Rattle.std.proofs.lemmas.Bool.{cases_eq, false≢true}
use Rattle.std.proofs.lemmas.List.{map-append, get_or_default}
use Rattle.net_core.specs.declared.table.Port.{Port}
use Rattle.net_core.specs.declared.table.End.{End}
use Rattle.net_core.specs.declared.table.End.TheVariants.{Free, At, Shared}
use Rattle.net_core.specs.declared.table.Ends.{Ends}
use Rattle.net_core.specs.Specs.{outs_of}
use Rattle.net_core.specs.Wiring.{Node, Circuit, IsWired, count, picked, side, flows, wiring, driven, received, IsOnce}
use Rattle.net_core.specs.Networks.{directions_at, gives, takes, end_of, end_at, IsEnd, Once}
use Rattle.net_core.specs.Mirror.EndTables.{Place, Kept, joined, is_one, numbers_of, end_in, turned, ports_from, ports_of, all_ports, no_ends, driver_at, receiver_at}
use Rattle.net_core.proofs.Counting.{count_nil, count_same, count_other}
use Rattle.net_core.proofs.Ends.{side_of, later_same, exchanged, gives_once, takes_once}
use Rattle.net_core.proofs.Found.{IsThere, all_nodes, found_only, gives_there, takes_there}
use Rattle.net_core.proofs.Joining.{end_nil, end_same, end_other, from_all, all_all}

-- ---- how many ports an end has

abbrev Tells : End → ℕ → Type 0
Tells Free k = k ≡ 0
Tells (At p) k = k ≡ 1
Tells Shared k = 2 ≤ k

tells_more : (e : End) (p : Port) (k : ℕ) → Tells e k → Tells (joined (At p) e) (suc k)
tells_more Free p k h = omega arith
tells_more (At q) p k h = omega arith
tells_more Shared p k h = omega arith

abbrev wires_at : List Place → List ℕ
wires_at xs = map (λ x. x.wire) xs

tells : (w : ℕ) (xs : List Place) → Tells (end_in w xs) (count w (wires_at xs))
tells w [] = subst (λ e. Tells e (count w [])) (sym (end_nil w)) (count_nil w)
tells w (x ∷ xs) = elim (cases_eq w x.wire) [
  | inl e ↦
      let one : count w (x.wire ∷ wires_at xs) ≡ suc (count w (wires_at xs)) = ap (λ v. count w (v ∷ wires_at xs)) (sym e) ∙ count_same w (wires_at xs) in
      subst (λ u. Tells u (count w (x.wire ∷ wires_at xs))) (sym (end_same w x xs e))
      (subst (λ k. Tells (joined (At x.port) (end_in w xs)) k) (sym one) (tells_more (end_in w xs) x.port (count w (wires_at xs)) (tells w xs)))
  | inr ne ↦
      subst (λ u. Tells u (count w (x.wire ∷ wires_at xs))) (sym (end_other w x xs ne))
      (subst (λ k. Tells (end_in w xs) k) (sym (count_other w x.wire (wires_at xs) ne)) (tells w xs))
]

from_wires : (b : Bool) (n p : ℕ) (ds : List Bool) (ws : List ℕ) → wires_at (ports_from b n p ds ws) ≡ picked b ds ws
unfolding ports_from picked
from_wires b n p [] ws = refl
from_wires b n p (d ∷ ds) [] = refl
from_wires true n p (true ∷ ds) (w ∷ ws) = ap (λ (l : List ℕ). w ∷ l) (from_wires true n (p + 1) ds ws)
from_wires true n p (false ∷ ds) (w ∷ ws) = from_wires true n (p + 1) ds ws
from_wires false n p (true ∷ ds) (w ∷ ws) = from_wires false n (p + 1) ds ws
from_wires false n p (false ∷ ds) (w ∷ ws) = ap (λ (l : List ℕ). w ∷ l) (from_wires false n (p + 1) ds ws)

turned_later : (b : Bool) (n : ℕ) → ◌≢◌ {A = ℕ} n 0 → turned b n ≡ b
turned_later true n h = ap not (ne_eqb n 0 h)
turned_later false n h = ne_eqb n 0 h

turned_first : (b : Bool) → turned b 0 ≡ not b
turned_first true = refl
turned_first false = refl

node_wires : (b d : Bool) (n : ℕ) (x : Node) → turned b n ≡ d → wires_at (ports_of b n x) ≡ side d x
node_wires b d n x e = from_wires (turned b n) n 0 (outs_of x.spec) x.ends ∙ ap (λ c. side c x) e

later_wires : (b : Bool) (n : ℕ) (xs : List Node) → ◌≢◌ {A = ℕ} n 0 → wires_at (all_ports b n xs) ≡ flows b xs
unfolding all_ports flows
later_wires b n [] h = refl
later_wires b n (x ∷ xs) h =
    map-append (λ (y : Place). y.wire) (ports_of b n x) (all_ports b (n + 1) xs)
    ∙ ap (λ (l : List ℕ). l ++ wires_at (all_ports b (n + 1) xs)) (node_wires b b n x (turned_later b n h))
    ∙ ap (λ (l : List ℕ). side b x ++ l) (later_wires b (n + 1) xs (λ e. omega arith))

net_wires : (b : Bool) (xs : List Node) → wires_at (all_ports b 0 xs) ≡ wiring b xs
unfolding all_ports wiring
net_wires b [] = refl
net_wires b (x ∷ xs) =
    map-append (λ (y : Place). y.wire) (ports_of b 0 x) (all_ports b 1 xs)
    ∙ ap (λ (l : List ℕ). l ++ wires_at (all_ports b 1 xs)) (node_wires b (not b) 0 x (turned_first b))
    ∙ ap (λ (l : List ℕ). side (not b) x ++ l) (later_wires b 1 xs (λ e. omega arith))

-- ---- which port an end has

own_side : (b : Bool) (ds : List Bool) (i : ℕ) → i < length ds → get_or ds i false ≡ b → side_of b ds i ≡ true
own_side true ds i h e = e
own_side false ds i h e = ap not (sym (get_or_default ds i false true h) ∙ e)

side_at : (b : Bool) (n : ℕ) (x : Node) (i : ℕ) → i < length (outs_of x.spec) → get_or (outs_of x.spec) i false ≡ turned b n → side_of b (directions_at n (Some x)) i ≡ true
side_at b zero x i h e = exchanged b (outs_of x.spec) i ∙ own_side (not b) (outs_of x.spec) i h (e ∙ turned_first b)
side_at b (suc n) x i h e = ap (λ ds. side_of b ds i) (later_same n (Some x)) ∙ own_side b (outs_of x.spec) i h (e ∙ turned_later b (suc n) (λ z. omega arith))

abbrev IsAt : Bool → List Node → Place → Type 0
IsAt b xs x = (side_of b (directions_at x.port.node (slice_get xs x.port.node)) x.port.number ≡ true) × (end_of (slice_get xs x.port.node) x.port.number ≡ x.wire)

all_are_at : (b : Bool) (k : ℕ) (xs : List Node) → AllByRecursion (IsWired k) xs → AllByRecursion (IsAt b xs) (all_ports b 0 xs)
all_are_at b k xs fit = all_all (IsAt b xs) b 0 xs at
  where
    at : (n : ℕ) (x : Node) → slice_get xs n ≡ Some x → AllByRecursion (IsAt b xs) (ports_of b (0 + n) x)
    at n x e =
        let fits : IsWired k x = all_nodes (IsWired k) xs n x fit e in
        let node : n ≡ 0 + n = omega arith in
        subst (λ m. AllByRecursion (IsAt b xs) (ports_of b m x)) node
        (from_all (IsAt b xs) n (turned b n) 0 (outs_of x.spec) x.ends fits.sized
        (λ i l s. let number : i ≡ 0 + i = omega arith in
        subst (λ (q : ℕ). IsAt b xs (record { wire = get_or x.ends i 0; port = record { node = n; number = q } })) number
        (subst (λ (o : Option Node). (side_of b (directions_at n o) i ≡ true) × (end_of o i ≡ get_or x.ends i 0)) (sym e) (side_at b n x i l s, refl))))

only_at : (x : Place) (w : ℕ) (e : End) (p : Port) → w ≡ x.wire → joined (At x.port) e ≡ At p → x ≡ record { wire = w; port = p }
only_at x w Free p same is = let port : x.port ≡ p = cc in λ i. record { wire = sym same i; port = port i }
only_at x w (At q) p same is = absurd (cc)
only_at x w Shared p same is = absurd (cc)

-- the one port that an end has is one of those that came
one_of : (P : Place → Type 0) (w : ℕ) (xs : List Place) (p : Port) → AllByRecursion P xs → end_in w xs ≡ At p → P (record { wire = w; port = p })
one_of P w [] p all is = let none : Free ≡ At p = sym (end_nil w) ∙ is in absurd (cc)
one_of P w (x ∷ xs) p all is = elim (cases_eq w x.wire) [
  | inl e ↦ subst P (only_at x w (end_in w xs) p e (sym (end_same w x xs e) ∙ is)) all.0
  | inr ne ↦ one_of P w xs p all.1 (sym (end_other w x xs ne) ∙ is)
]

-- ---- the ends of a network's wires

is_end : (f : ℕ → ℕ → Bool) (c : Circuit) → IsThere f c → (w n p : ℕ) → f n p ≡ true → end_at c n p ≡ w → Once f c w → IsEnd f c w n p
is_end f c there w n p is at (m, q, real, back, only) =
    let here : (n ≡ m) × (p ≡ q) = only n p is at in
    let found = found_only f c there w n p is at (λ a b g e. let other : (a ≡ m) × (b ≡ q) = only a b g e in (other.0 ∙ sym here.0, other.1 ∙ sym here.1)) in
    (is, at, found.0, found.1)

one_end : (e : End) (k : ℕ) (f : ℕ → ℕ → Bool) (c : Circuit) (w : ℕ) → Tells e k → k ≡ 1 → ((p : Port) → e ≡ At p → IsEnd f c w p.node p.number)
    → IsEnd f c w (numbers_of e).0 (numbers_of e).1
one_end Free k f c w h one ends = absurd (omega arith)
one_end (At p) k f c w h one ends = ends p refl
one_end Shared k f c w h one ends = absurd (omega arith)

no_end : (e : End) (k : ℕ) → Tells e k → ◌≢◌ {A = ℕ} k 1 → ((numbers_of e).0 ≡ 0) × ((numbers_of e).1 ≡ 0)
no_end Free k h other = (refl, refl)
no_end (At p) k h other = absurd (other h)
no_end Shared k h other = (refl, refl)

one_counted : (e : End) (k : ℕ) → Tells e k → is_one e ≡ true → k ≡ 1
one_counted Free k h is = absurd (false≢true is)
one_counted (At p) k h is = h
one_counted Shared k h is = absurd (false≢true is)

not_one : (e : End) (k : ℕ) → Tells e k → is_one e ≡ false → k ≡ 1 → ⊥
not_one Free k h is one = omega arith
not_one (At p) k h is one = false≢true (sym is)
not_one Shared k h is one = omega arith

module _ (c : Circuit) (ends : List Ends) (kept : Kept c.nodes c.wires ends) (w : ℕ) (h : w < c.wires) where
  driver_tells : Tells (driver_at ends w) (count w (driven c))
  driver_tells = subst (λ e. Tells e (count w (driven c))) (sym (kept.table.drivers_of w h))
      (subst (λ (l : List ℕ). Tells (end_in w (all_ports true 0 c.nodes)) (count w l)) (net_wires true c.nodes) (tells w (all_ports true 0 c.nodes)))

  receiver_tells : Tells (receiver_at ends w) (count w (received c))
  receiver_tells = subst (λ e. Tells e (count w (received c))) (sym (kept.table.receivers_of w h))
      (subst (λ (l : List ℕ). Tells (end_in w (all_ports false 0 c.nodes)) (count w l)) (net_wires false c.nodes) (tells w (all_ports false 0 c.nodes)))

  driver_is : count w (driven c) ≡ 1 → IsEnd (gives c) c w (numbers_of (driver_at ends w)).0 (numbers_of (driver_at ends w)).1
  driver_is one = one_end (driver_at ends w) (count w (driven c)) (gives c) c w driver_tells one
      (λ p e. let at : IsAt true c.nodes (record { wire = w; port = p }) =
      one_of (IsAt true c.nodes) w (all_ports true 0 c.nodes) p (all_are_at true c.wires c.nodes kept.fit) (sym (kept.table.drivers_of w h) ∙ e) in
      is_end (gives c) c (gives_there c) w p.node p.number at.0 at.1 (gives_once c kept.fit w one))

  receiver_is : count w (received c) ≡ 1 → IsEnd (takes c) c w (numbers_of (receiver_at ends w)).0 (numbers_of (receiver_at ends w)).1
  receiver_is one = one_end (receiver_at ends w) (count w (received c)) (takes c) c w receiver_tells one
      (λ p e. let at : IsAt false c.nodes (record { wire = w; port = p }) =
      one_of (IsAt false c.nodes) w (all_ports false 0 c.nodes) p (all_are_at false c.wires c.nodes kept.fit) (sym (kept.table.receivers_of w h) ∙ e) in
      is_end (takes c) c (takes_there c) w p.node p.number at.0 at.1 (takes_once c kept.fit w one))

  -- what is read of the table at the wire
  module _ (e : Ends) (read : e ≡ get_or ends w e) where
    entry : e ≡ get_or ends w no_ends
    entry = read ∙ get_or_default ends w e no_ends (omega (arith, kept.table.sized))

    driver_entry : e.driver ≡ driver_at ends w
    driver_entry = ap (λ (x : Ends). x.driver) entry

    receiver_entry : e.receiver ≡ receiver_at ends w
    receiver_entry = ap (λ (x : Ends). x.receiver) entry

    pub driver_read : (r : ℕ × ℕ) → r ≡ numbers_of e.driver → count w (driven c) ≡ 1 → IsEnd (gives c) c w r.0 r.1
    driver_read r is one = subst (λ (s : ℕ × ℕ). IsEnd (gives c) c w s.0 s.1) (sym (is ∙ ap numbers_of driver_entry)) (driver_is one)

    pub driver_open : (r : ℕ × ℕ) → r ≡ numbers_of e.driver → ◌≢◌ {A = ℕ} (count w (driven c)) 1 → (r.0 ≡ 0) × (r.1 ≡ 0)
    driver_open r is other = subst (λ (s : ℕ × ℕ). (s.0 ≡ 0) × (s.1 ≡ 0)) (sym (is ∙ ap numbers_of driver_entry))
        (no_end (driver_at ends w) (count w (driven c)) driver_tells other)

    pub receiver_read : (r : ℕ × ℕ) → r ≡ numbers_of e.receiver → count w (received c) ≡ 1 → IsEnd (takes c) c w r.0 r.1
    receiver_read r is one = subst (λ (s : ℕ × ℕ). IsEnd (takes c) c w s.0 s.1) (sym (is ∙ ap numbers_of receiver_entry)) (receiver_is one)

    pub receiver_open : (r : ℕ × ℕ) → r ≡ numbers_of e.receiver → ◌≢◌ {A = ℕ} (count w (received c)) 1 → (r.0 ≡ 0) × (r.1 ≡ 0)
    receiver_open r is other = subst (λ (s : ℕ × ℕ). (s.0 ≡ 0) × (s.1 ≡ 0)) (sym (is ∙ ap numbers_of receiver_entry))
        (no_end (receiver_at ends w) (count w (received c)) receiver_tells other)

    pub once_read : is_one e.driver ≡ true → is_one e.receiver ≡ true → IsOnce c w
    once_read one other = (
      one_counted (driver_at ends w) (count w (driven c)) driver_tells (ap is_one (sym driver_entry) ∙ one),
      one_counted (receiver_at ends w) (count w (received c)) receiver_tells (ap is_one (sym receiver_entry) ∙ other),
    )

    pub no_driver : is_one e.driver ≡ false → IsOnce c w → ⊥
    no_driver lacks once = not_one (driver_at ends w) (count w (driven c)) driver_tells (ap is_one (sym driver_entry) ∙ lacks) once.0

    pub no_receiver : is_one e.receiver ≡ false → IsOnce c w → ⊥
    no_receiver lacks once = not_one (receiver_at ends w) (count w (received c)) receiver_tells (ap is_one (sym receiver_entry) ∙ lacks) once.1
