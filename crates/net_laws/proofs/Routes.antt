-- The law of charts: a network made from named nodes and wires is closed, clean and basic, and correct where the web is sound and exact. One wire of
-- the network stands for a path of wires of the web, through nodes that act as WIREs and are left out.
use Rattle.std.proofs.Common.{◌≡◌, ◌↔◌, ℕ, zero, suc, ◌<◌, Bool, true, false, not, List, [], ◌∷◌, ◌++◌, map, length, get_or, Option, None, Some, ◌⊎◌, inl, inr, refl, sym, ap, subst, ◌∙◌, arith}
use Rattle.std.specs.Prelude.{slice_get, IsTrue}
use Rattle.std.specs.List.{AllByRecursion, range_with_len}
use Rattle.std.proofs.lemmas.Bool.{cases_Bool, cases_lt, false≢true}
use Rattle.std.proofs.lemmas.List.{length-map, get_or-map, get_or_past, get_or_default}
use Rattle.std.proofs.lemmas.List.FromFn.{length-range_with_len}
use Rattle.std.proofs.lemmas.Option.{slice_get-map, slice_get-get_or}
use Rattle.cmd_tree.specs.Rounds.{Follows}
use Rattle.net_core.specs.Specs.{outs_of, IsFormed, May, is_kind}
use Rattle.net_core.specs.Wiring.{Node, Circuit, IsWired, IsNetwork, IsClosed}
use Rattle.net_core.specs.Networks.{directions, gives, takes, end_of, end_at, end_node, end_port, may_of, fabric, Once, IsBasic, IsClean, SoundFor, Correct}
use Rattle.net_core.proofs.Ends.{later_same, outs_at, closed_by_counts}
use Rattle.net_core.proofs.Found.{Located, gives_there, takes_there, gives_located, takes_located, node_of_wire, port_of_wire, ranged}
use Rattle.net_laws.specs.Charts.{Chart, node_of, charted}
use Rattle.net_laws.proofs.Webs.{Web, WebSound, WebExact}
use Rattle.net_laws.proofs.Webs as webs
use Rattle.net_laws.proofs.Told.{Lawful}
use Rattle.net_laws.proofs.Paths.{Path}
use Rattle.net_laws.proofs.Linked.{Linked, landing, linked_sound, linked_exact}
use Rattle.net_laws.proofs.Among.{Among, Distinct, among_at, at_among, distinct_at, all_among, all_at, all_map, places_same}

-- At each port a wire that f leads to the node n where the port is an output, and that g leads to it where it is an input.
abbrev pub Joined : {N W : Type 0} → (f g : W → N) → N → List Bool → List W → Type 0
Joined f g n [] [] = Unit {0}
Joined f g n [] (w ∷ ws) = ⊥
Joined f g n (b ∷ bs) [] = ⊥
Joined f g n (true ∷ bs) (w ∷ ws) = (f w ≡ n) × Joined f g n bs ws
Joined f g n (false ∷ bs) (w ∷ ws) = (g w ≡ n) × Joined f g n bs ws

module _ {N W : Type 0} (f g : W → N) (n : N) where
  pub joined_sized : (bs : List Bool) (ws : List W) → Joined f g n bs ws → length ws ≡ length bs
  joined_sized [] [] h = refl
  joined_sized [] (w ∷ ws) h = absurd h
  joined_sized (b ∷ bs) [] h = absurd h
  joined_sized (true ∷ bs) (w ∷ ws) h = ap suc (joined_sized bs ws h.1)
  joined_sized (false ∷ bs) (w ∷ ws) h = ap suc (joined_sized bs ws h.1)

  joined_out : (b : W) (bs : List Bool) (ws : List W) → Joined f g n bs ws → (p : ℕ) → p < length ws → get_or bs p false ≡ true → f (get_or ws p b) ≡ n
  joined_out b [] [] h p l e = absurd (omega arith)
  joined_out b [] (w ∷ ws) h p l e = absurd h
  joined_out b (c ∷ bs) [] h p l e = absurd h
  joined_out b (true ∷ bs) (w ∷ ws) h zero l e = h.0
  joined_out b (false ∷ bs) (w ∷ ws) h zero l e = absurd (false≢true e)
  joined_out b (true ∷ bs) (w ∷ ws) h (suc p) l e = joined_out b bs ws h.1 p (omega arith) e
  joined_out b (false ∷ bs) (w ∷ ws) h (suc p) l e = joined_out b bs ws h.1 p (omega arith) e

  joined_in : (b : W) (bs : List Bool) (ws : List W) → Joined f g n bs ws → (p : ℕ) → p < length ws → get_or bs p false ≡ false → g (get_or ws p b) ≡ n
  joined_in b [] [] h p l e = absurd (omega arith)
  joined_in b [] (w ∷ ws) h p l e = absurd h
  joined_in b (c ∷ bs) [] h p l e = absurd h
  joined_in b (true ∷ bs) (w ∷ ws) h zero l e = absurd (false≢true (sym e))
  joined_in b (false ∷ bs) (w ∷ ws) h zero l e = h.0
  joined_in b (true ∷ bs) (w ∷ ws) h (suc p) l e = joined_in b bs ws h.1 p (omega arith) e
  joined_in b (false ∷ bs) (w ∷ ws) h (suc p) l e = joined_in b bs ws h.1 p (omega arith) e

  joined_not : (bs : List Bool) (ws : List W) → Joined f g n bs ws → Joined g f n (map not bs) ws
  joined_not [] [] h = tt
  joined_not [] (w ∷ ws) h = absurd h
  joined_not (b ∷ bs) [] h = absurd h
  joined_not (true ∷ bs) (w ∷ ws) h = (h.0, joined_not bs ws h.1)
  joined_not (false ∷ bs) (w ∷ ws) h = (h.0, joined_not bs ws h.1)

  -- what holds of the wires that lead there, on either side, holds of each
  joined_all : (There Q : W → Type 0) (Kept : N → Type 0) → Kept n → ((w : W) → There w → Kept (f w) → Q w) → ((w : W) → There w → Kept (g w) → Q w)
      → (bs : List Bool) (ws : List W) → Joined f g n bs ws → AllByRecursion There ws → AllByRecursion Q ws
  joined_all There Q Kept k a b [] [] h all = tt
  joined_all There Q Kept k a b [] (w ∷ ws) h all = absurd h
  joined_all There Q Kept k a b (c ∷ bs) [] h all = absurd h
  joined_all There Q Kept k a b (true ∷ bs) (w ∷ ws) h all =
      (a w all.0 (subst Kept (sym h.0) k), joined_all There Q Kept k a b bs ws h.1 all.1)
  joined_all There Q Kept k a b (false ∷ bs) (w ∷ ws) h all =
      (b w all.0 (subst Kept (sym h.0) k), joined_all There Q Kept k a b bs ws h.1 all.1)

-- The chart c of the web d. Nodes that are kept are in the chart, the others are left out. The ports of a node are wires that are there: at an output the
-- first one of a path, at an input the last one. Each line is the name of a path, and so of a wire of the network; the lines stand in the order of their
-- numbers, and root gives the line of a wire at either end of its path. No node ever allows the wire blank.
pub record Routes (N W : Type 0) (d : Web N W) (Kept : N → Type 0) (There : W → Type 0) (c : Chart N W) (lines : List W) (root first last : W → W) (nothing : W) : Type 0 where
  pub env : d.outside ≡ c.env
  pub nodes : Distinct (c.env ∷ c.parts)
  pub formed : AllByRecursion (λ n. IsFormed (c.spec n)) (c.env ∷ c.parts)
  pub outer : Joined d.receiver d.driver c.env (outs_of (c.spec c.env)) (c.ports c.env)
  pub inner : AllByRecursion (λ n. Joined d.driver d.receiver n (outs_of (c.spec n)) (c.ports n)) c.parts
  pub distinct : AllByRecursion (λ n. Distinct (c.ports n)) (c.env ∷ c.parts)
  pub kept : AllByRecursion Kept (c.env ∷ c.parts)
  pub there : AllByRecursion (λ n. AllByRecursion There (c.ports n)) (c.env ∷ c.parts)
  pub driven : (w : W) → There w → Kept (d.driver w) → Among (d.driver w) (c.env ∷ c.parts) × Among w (c.ports (d.driver w))
  pub received : (w : W) → There w → Kept (d.receiver w) → Among (d.receiver w) (c.env ∷ c.parts) × Among w (c.ports (d.receiver w))
  pub numbers : map c.number lines ≡ range_with_len 0 c.many
  pub number_root : (w : W) → There w → c.number w ≡ c.number (root w)
  pub begins : (w : W) → There w → Kept (d.driver w) → Among (root w) lines × (first (root w) ≡ w)
  pub ends : (w : W) → There w → Kept (d.receiver w) → Among (root w) lines × (last (root w) ≡ w)
  pub firsts : AllByRecursion (λ v. There (first v) × Kept (d.driver (first v)) × (root (first v) ≡ v)) lines
  pub lasts : AllByRecursion (λ v. There (last v) × Kept (d.receiver (last v)) × (root (last v) ≡ v)) lines
  pub path : AllByRecursion (λ v. Path N W d Kept (first v) (last v)) lines
  pub apart : AllByRecursion (λ v. d.driver (first v) ≡ d.receiver (last v) → ⊥) lines
  pub real_out : (w : W) (t : List W) → d.rule (d.driver w) t w → There w
  pub real_in : (w : W) (t : List W) → d.rule (d.receiver w) t w → There w
  pub enters : (w : W) → There w → Kept (d.driver w) ⊎ (Kept (d.driver w) → ⊥)
  pub leaves : (w : W) → There w → Kept (d.receiver w) ⊎ (Kept (d.receiver w) → ⊥)
  pub never : (n : N) (t : List W) → d.rule n t nothing → ⊥
  pub may : AllByRecursion (λ n. (t : List ℕ) → May (c.spec n) t ↔ webs.May d n (map (λ p. get_or (c.ports n) p nothing) t)) (c.env ∷ c.parts)

module _ (N W : Type 0) (d : Web N W) (Kept : N → Type 0) (There : W → Type 0) (c : Chart N W) (lines : List W) (root first last : W → W) (nothing : W)
    (l : Lawful N W d) (h : Routes N W d Kept There c lines root first last nothing) where
  abbrev ns : List N
  ns = c.env ∷ c.parts

  abbrev net : Circuit
  net = charted c

  abbrev size : ℕ
  size = length ns

  abbrev name : ℕ → N
  name k = get_or ns k c.env

  abbrev ports : ℕ → List W
  ports k = c.ports (name k)

  abbrev label : ℕ → ℕ → W
  label k p = get_or (ports k) p nothing

  sized : length net.nodes ≡ size
  sized = length-map ns (node_of c)

  node_is : (k : ℕ) → k < size → slice_get net.nodes k ≡ Some (node_of c (name k))
  node_is k low = slice_get-map (node_of c) ns k ∙ ap (λ (o : Option N). option_of o) (slice_get-get_or ns k c.env low)
    where
      option_of : Option N → Option Node
      option_of None = None
      option_of (Some n) = Some (node_of c n)

  kept_at : (k : ℕ) → k < size → Kept (name k)
  kept_at k low = all_at Kept c.env ns h.kept k low

  there_at : (k p : ℕ) → k < size → p < length (ports k) → There (label k p)
  there_at k p low in_ports = all_at There nothing (ports k) (all_at (λ n. AllByRecursion There (c.ports n)) c.env ns h.there k low) p in_ports

  joined_at : (k : ℕ) → k < size → Joined d.driver d.receiver (name k) (directions net k) (ports k)
  joined_at zero low = joined_not d.receiver d.driver c.env (outs_of (c.spec c.env)) (c.ports c.env) h.outer
  joined_at (suc k) low =
      let is : directions net (suc k) ≡ outs_of (c.spec (name (suc k))) =
      later_same k (slice_get net.nodes (suc k)) ∙ ap outs_at (node_is (suc k) low) in
      subst (λ bs. Joined d.driver d.receiver (name (suc k)) bs (ports (suc k))) (sym is)
      (all_at (λ n. Joined d.driver d.receiver n (outs_of (c.spec n)) (c.ports n)) c.env c.parts h.inner k (omega arith))

  ports_long : (k : ℕ) → k < size → length (ports k) ≡ length (directions net k)
  ports_long k low = joined_sized d.driver d.receiver (name k) (directions net k) (ports k) (joined_at k low)

  end_is : (k p : ℕ) → k < size → p < length (ports k) → end_at net k p ≡ c.number (label k p)
  end_is k p low in_ports = ap (λ o. end_of o p) (node_is k low) ∙ get_or-map c.number (ports k) p nothing 0 in_ports

  -- a port that gives, and one that takes
  given : (k p : ℕ) → gives net k p ≡ true → (k < size) × (p < length (ports k)) × (d.driver (label k p) ≡ name k)
  given k p g =
      let (in_net, in_directions) = gives_there net k p g in
      let low : k < size = omega (arith, sized) in
      let in_ports : p < length (ports k) = omega (arith, ports_long k low) in
      (low, in_ports, joined_out d.driver d.receiver (name k) nothing (directions net k) (ports k) (joined_at k low) p in_ports g)

  taken : (k p : ℕ) → takes net k p ≡ true → (k < size) × (p < length (ports k)) × (d.receiver (label k p) ≡ name k)
  taken k p t =
      let (in_net, in_directions) = takes_there net k p t in
      let low : k < size = omega (arith, sized) in
      let in_ports : p < length (ports k) = omega (arith, ports_long k low) in
      let side : get_or (directions net k) p false ≡ false = get_or_default (directions net k) p false true in_directions ∙ not_true (get_or (directions net k) p true) t in
      (low, in_ports, joined_in d.driver d.receiver (name k) nothing (directions net k) (ports k) (joined_at k low) p in_ports side)
    where
      not_true : (b : Bool) → not b ≡ true → b ≡ false
      not_true true e = absurd (false≢true e)
      not_true false e = refl

  gives_port : (k p : ℕ) → k < size → p < length (ports k) → d.driver (label k p) ≡ name k → gives net k p ≡ true
  gives_port k p low in_ports e = elim (cases_Bool (gives net k p)) [
    | inl is ↦ is
    | inr other ↦ absurd (l.clean (label k p) (e ∙ sym (joined_in d.driver d.receiver (name k) nothing (directions net k) (ports k) (joined_at k low) p in_ports other)))
  ]

  takes_port : (k p : ℕ) → k < size → p < length (ports k) → d.receiver (label k p) ≡ name k → takes net k p ≡ true
  takes_port k p low in_ports e = elim (cases_Bool (gives net k p)) [
    | inl is ↦ absurd (l.clean (label k p) (joined_out d.driver d.receiver (name k) nothing (directions net k) (ports k) (joined_at k low) p in_ports is ∙ sym e))
    | inr other ↦ ap not (get_or_default (directions net k) p true false (omega (arith, ports_long k low)) ∙ other)
  ]

  -- a node and a port by their names
  node_of_name : (n : N) → Among n ns → (k : ℕ) × (k < size) × (name k ≡ n)
  node_of_name n a = among_at c.env n ns a

  port_named : (w : W) (n : N) → Among n ns → Among w (c.ports n) → (k : ℕ) × (p : ℕ) × (k < size) × (p < length (ports k)) × (label k p ≡ w) × (name k ≡ n)
  port_named w n a b =
      let (k, low, is) = node_of_name n a in
      let (p, in_ports, at) = among_at nothing w (ports k) (subst (λ m. Among w (c.ports m)) (sym is) b) in
      (k, p, low, in_ports, at, is)

  same_port : (k p m q : ℕ) → k < size → p < length (ports k) → m < size → q < length (ports m) → name m ≡ name k → label m q ≡ label k p → (m ≡ k) × (q ≡ p)
  same_port k p m q low in_ports too also e i =
      let same : m ≡ k = distinct_at c.env ns h.nodes m k too low e in
      let near : q < length (ports k) = subst (λ j. q < length (ports j)) same also in
      let at : label k q ≡ label k p = ap (λ j. label j q) (sym same) ∙ i in
      (same, distinct_at nothing (ports k) (all_at (λ n. Distinct (c.ports n)) c.env ns h.distinct k low) q p near in_ports at)

  -- lines and numbers
  lines_many : length lines ≡ c.many
  lines_many = sym (length-map lines c.number) ∙ ap (λ (ks : List ℕ). length ks) h.numbers ∙ length-range_with_len 0 c.many

  number_at : (i : ℕ) → i < c.many → c.number (get_or lines i nothing) ≡ i
  number_at i low =
      sym (get_or-map c.number lines i nothing 0 (omega (arith, lines_many))) ∙ ap (λ ks. get_or ks i 0) h.numbers ∙ ranged c.many i low

  line_is : (v : W) → Among v lines → (c.number v < c.many) × (get_or lines (c.number v) nothing ≡ v)
  line_is v a =
      let (i, low, is) = among_at nothing v lines a in
      let inside : i < c.many = omega (arith, lines_many) in
      let number : c.number v ≡ i = ap c.number (sym is) ∙ number_at i inside in
      (omega arith, ap (λ j. get_or lines j nothing) number ∙ is)

  line_one : (v w : W) → Among v lines → Among w lines → c.number v ≡ c.number w → v ≡ w
  line_one v w a b e = sym (line_is v a).1 ∙ ap (λ i. get_or lines i nothing) e ∙ (line_is w b).1

  line_at : (u : ℕ) → u < c.many → (v : W) × Among v lines × (c.number v ≡ u)
  line_at u low = (get_or lines u nothing, at_among nothing lines u (omega (arith, lines_many)), number_at u low)

  first_is : (v : W) → Among v lines → There (first v) × Kept (d.driver (first v)) × (root (first v) ≡ v)
  first_is v a = all_among (λ v. There (first v) × Kept (d.driver (first v)) × (root (first v) ≡ v)) lines h.firsts v a

  last_is : (v : W) → Among v lines → There (last v) × Kept (d.receiver (last v)) × (root (last v) ≡ v)
  last_is v a = all_among (λ v. There (last v) × Kept (d.receiver (last v)) × (root (last v) ≡ v)) lines h.lasts v a

  -- ---- the network: each node has one known wire at each port

  known_out : (w : W) → There w → Kept (d.driver w) → c.number w < c.many
  known_out w t k = subst (λ i. i < c.many) (sym (h.number_root w t)) (line_is (root w) (h.begins w t k).0).0

  known_in : (w : W) → There w → Kept (d.receiver w) → c.number w < c.many
  known_in w t k = subst (λ i. i < c.many) (sym (h.number_root w t)) (line_is (root w) (h.ends w t k).0).0

  wired_parts : (ps : List N) → AllByRecursion Kept ps → AllByRecursion (λ n. IsFormed (c.spec n)) ps
      → AllByRecursion (λ n. Joined d.driver d.receiver n (outs_of (c.spec n)) (c.ports n)) ps → AllByRecursion (λ n. AllByRecursion There (c.ports n)) ps
      → AllByRecursion (IsWired c.many) (map (node_of c) ps)
  wired_parts [] k f j t = tt
  wired_parts (n ∷ ps) k f j t = (
    record {
      sized = length-map (c.ports n) c.number ∙ joined_sized d.driver d.receiver n (outs_of (c.spec n)) (c.ports n) j.0;
      known = all_map (λ w. w < c.many) c.number (c.ports n)
          (joined_all d.driver d.receiver n There (λ w. c.number w < c.many) Kept k.0 known_out known_in (outs_of (c.spec n)) (c.ports n) j.0 t.0);
      formed = f.0;
    },
    wired_parts ps k.1 f.1 j.1 t.1,
  )

  wired : AllByRecursion (IsWired c.many) net.nodes
  wired = (
    record {
      sized = length-map (c.ports c.env) c.number ∙ joined_sized d.receiver d.driver c.env (outs_of (c.spec c.env)) (c.ports c.env) h.outer;
      known = all_map (λ w. w < c.many) c.number (c.ports c.env)
          (joined_all d.receiver d.driver c.env There (λ w. c.number w < c.many) Kept h.kept.0 known_in known_out (outs_of (c.spec c.env)) (c.ports c.env) h.outer h.there.0);
      formed = h.formed.0;
    },
    wired_parts c.parts h.kept.1 h.formed.1 h.inner h.there.1,
  )

  pub routes_network : IsNetwork net
  routes_network = record { some = omega arith; wired = wired }

  -- ---- each wire has one port that gives, and one that takes

  line_first : (v : W) → Among v lines
      → (k : ℕ) × (p : ℕ) × (k < size) × (p < length (ports k)) × (label k p ≡ first v) × (name k ≡ d.driver (first v)) × (gives net k p ≡ true) × (end_at net k p ≡ c.number v)
  line_first v a =
      let (there, keep, back) = first_is v a in
      let (among, at) = h.driven (first v) there keep in
      let (k, p, low, in_ports, is, by) = port_named (first v) (d.driver (first v)) among at in (
        k,
        p,
        low,
        in_ports,
        is,
        by,
        gives_port k p low in_ports (ap d.driver is ∙ sym by),
        end_is k p low in_ports ∙ ap c.number is ∙ h.number_root (first v) there ∙ ap c.number back,
      )

  line_last : (v : W) → Among v lines
      → (k : ℕ) × (p : ℕ) × (k < size) × (p < length (ports k)) × (label k p ≡ last v) × (name k ≡ d.receiver (last v)) × (takes net k p ≡ true) × (end_at net k p ≡ c.number v)
  line_last v a =
      let (there, keep, back) = last_is v a in
      let (among, at) = h.received (last v) there keep in
      let (k, p, low, in_ports, is, by) = port_named (last v) (d.receiver (last v)) among at in (
        k,
        p,
        low,
        in_ports,
        is,
        by,
        takes_port k p low in_ports (ap d.receiver is ∙ sym by),
        end_is k p low in_ports ∙ ap c.number is ∙ h.number_root (last v) there ∙ ap c.number back,
      )

  -- the line of a port that gives
  given_line : (k p : ℕ) → gives net k p ≡ true
      → Among (root (label k p)) lines × (first (root (label k p)) ≡ label k p) × (end_at net k p ≡ c.number (root (label k p)))
  given_line k p g =
      let (low, in_ports, by) = given k p g in
      let there = there_at k p low in_ports in
      let (among, is) = h.begins (label k p) there (subst Kept (sym by) (kept_at k low)) in
      (among, is, end_is k p low in_ports ∙ h.number_root (label k p) there)

  taken_line : (k p : ℕ) → takes net k p ≡ true
      → Among (root (label k p)) lines × (last (root (label k p)) ≡ label k p) × (end_at net k p ≡ c.number (root (label k p)))
  taken_line k p t =
      let (low, in_ports, by) = taken k p t in
      let there = there_at k p low in_ports in
      let (among, is) = h.ends (label k p) there (subst Kept (sym by) (kept_at k low)) in
      (among, is, end_is k p low in_ports ∙ h.number_root (label k p) there)

  gives_once : (u : ℕ) → u < c.many → Once (gives net) net u
  gives_once u inside =
      let (v, a, number) = line_at u inside in
      let (k, p, low, in_ports, is, by, g, e) = line_first v a in (
        k,
        p,
        g,
        e ∙ number,
        (λ m q i at.
            let (too, also, from) = given m q i in
            let (among, start, end) = given_line m q i in
            let same : root (label m q) ≡ v = line_one (root (label m q)) v among a (sym end ∙ at ∙ sym number) in
            let labels : label m q ≡ label k p = sym start ∙ ap first same ∙ sym is in
            same_port k p m q low in_ports too also (sym from ∙ ap d.driver (labels ∙ is) ∙ sym by) labels),
      )

  takes_once : (u : ℕ) → u < c.many → Once (takes net) net u
  takes_once u inside =
      let (v, a, number) = line_at u inside in
      let (k, p, low, in_ports, is, by, g, e) = line_last v a in (
        k,
        p,
        g,
        e ∙ number,
        (λ m q i at.
            let (too, also, from) = taken m q i in
            let (among, start, end) = taken_line m q i in
            let same : root (label m q) ≡ v = line_one (root (label m q)) v among a (sym end ∙ at ∙ sym number) in
            let labels : label m q ≡ label k p = sym start ∙ ap last same ∙ sym is in
            same_port k p m q low in_ports too also (sym from ∙ ap d.receiver (labels ∙ is) ∙ sym by) labels),
      )

  pub routes_closed : IsClosed net
  routes_closed = closed_by_counts net wired (λ u low. (gives_once u low, takes_once u low))

  gives_at : Located (gives net) net
  gives_at = gives_located net wired routes_closed

  takes_at : Located (takes net) net
  takes_at = takes_located net wired routes_closed

  pub routes_clean : IsClean net
  routes_clean u inside e =
      let (v, a, number) = line_at u inside in
      let (k, p, low, in_ports, is, by, g, at) = line_first v a in
      let (m, q, too, also, are, from, t, end) = line_last v a in
      let one = node_of_wire (gives net) net gives_at u k p g (at ∙ number) in
      let two = node_of_wire (takes net) net takes_at u m q t (end ∙ number) in
      all_among (λ v. d.driver (first v) ≡ d.receiver (last v) → ⊥) lines h.apart v a
      (sym by ∙ ap name (sym one ∙ e ∙ two) ∙ from)

  basic_parts : (ps : List N) → AllByRecursion (λ n. IsTrue (is_kind (c.spec n))) ps → AllByRecursion (λ x. IsTrue (is_kind x.spec)) (map (node_of c) ps)
  basic_parts [] all = tt
  basic_parts (n ∷ ps) all = (all.0, basic_parts ps all.1)

  pub routes_basic : AllByRecursion (λ n. IsTrue (is_kind (c.spec n))) c.parts → IsBasic net
  routes_basic all = basic_parts c.parts all

  -- ---- the web under the network's numbers

  -- a wire leads to the end of its line's path
  lands : (n p : ℕ) → gives net n p ≡ true
      → (landing (fabric net) label n p ≡ last (root (label n p))) × (end_node (takes net) net (end_at net n p) < size)
      × (d.receiver (last (root (label n p))) ≡ name (end_node (takes net) net (end_at net n p)))
  lands n p g =
      let (among, start, end) = given_line n p g in
      let v = root (label n p) in
      let (k, q, low, in_ports, is, by, t, e) = line_last v among in
      let node : end_node (takes net) net (end_at net n p) ≡ k = node_of_wire (takes net) net takes_at (end_at net n p) k q t (e ∙ sym end) in
      let port : end_port (takes net) net (end_at net n p) ≡ q = port_of_wire (takes net) net takes_at (end_at net n p) k q t (e ∙ sym end) in
      (ap (λ m. label m (end_port (takes net) net (end_at net n p))) node ∙ ap (label k) port ∙ is, omega arith, sym by ∙ ap name (sym node))

  may_at : (k : ℕ) → k < size → (t : List ℕ) → may_of (slice_get net.nodes k) t ↔ webs.May d (name k) (map (label k) t)
  may_at k low t =
      subst (λ o. may_of o t ↔ webs.May d (name k) (map (label k) t)) (sym (node_is k low))
      (all_at (λ n. (t : List ℕ) → May (c.spec n) t ↔ webs.May d n (map (λ p. get_or (c.ports n) p nothing) t)) c.env ns h.may k low t)

  -- the ports of a trace that is allowed are there
  in_range : (n : N) (b : List W) (t : List ℕ) → Follows (d.rule n) b (map (λ p. get_or (c.ports n) p nothing) t) → AllByRecursion (λ p. p < length (c.ports n)) t
  in_range n b [] f = tt
  in_range n b (p ∷ t) f = (
    elim (cases_lt p (length (c.ports n))) [
      | inl low ↦ low
      | inr past ↦ absurd (h.never n b (subst (λ w. d.rule n b w) (get_or_past (c.ports n) p nothing past) f.0))
    ],
    in_range n (b ++ get_or (c.ports n) p nothing ∷ []) t f.1,
  )

  linked : Linked N W d Kept (fabric net)
  linked = record {
    name = name;
    label = label;
    size = size;
    some = omega arith;
    outside = h.env;
    kept = kept_at;
    fires = λ n p g. let (low, in_ports, by) = given n p g in (low, by);
    lands = λ n p g. let (is, low, by) = lands n p g in (low, ap d.receiver is ∙ by);
    path = λ n p g.
        let (among, start, end) = given_line n p g in
        subst (λ w. Path N W d Kept (label n p) w) (sym (lands n p g).0)
        (subst (λ w. Path N W d Kept w (last (root (label n p)))) start (all_among (λ v. Path N W d Kept (first v) (last v)) lines h.path (root (label n p)) among));
    one_first = λ n p m q a b e.
        let (low, in_ports, by) = given n p a in
        let (too, also, from) = given m q b in
        end_is n p low in_ports ∙ ap c.number e ∙ sym (end_is m q too also);
    one_last = λ n p m q a b e.
        let (among, start, end) = given_line n p a in
        let (near, begin, stop) = given_line m q b in
        let same : root (label n p) ≡ root (label m q) =
        sym (last_is (root (label n p)) among).2 ∙ ap root (sym (lands n p a).0 ∙ e ∙ (lands m q b).0) ∙ (last_is (root (label m q)) near).2 in
        end ∙ ap c.number same ∙ sym stop;
    one_wire = λ n p m q a b e.
        let (among, start, end) = given_line n p a in
        let (near, begin, stop) = given_line m q b in
        sym start ∙ ap first (line_one (root (label n p)) (root (label m q)) among near (sym end ∙ e ∙ stop)) ∙ begin;
    one_node = λ n m low too e. distinct_at c.env ns h.nodes n m low too e;
    enters = λ w t r. enters w (h.real_out w t r) (h.enters w (h.real_out w t r));
    leaves = λ w t r. leaves w (h.real_in w t r) (h.leaves w (h.real_in w t r));
    may = λ n low t. (may_at n low t).0;
    may_back = λ n low t. (may_at n low t).1;
    one_trace = λ t u a b e.
        places_same nothing (c.ports c.env) h.distinct.0 t u
        (in_range c.env [] t ((may_at 0 (omega arith) t).0 a)) (in_range c.env [] u ((may_at 0 (omega arith) u).0 b)) e;
  }
    where
      enters : (w : W) → There w → Kept (d.driver w) ⊎ (Kept (d.driver w) → ⊥)
          → ((n : ℕ) × (p : ℕ) × (gives net n p ≡ true) × (label n p ≡ w)) ⊎ (Kept (d.driver w) → ⊥)
      enters w there (inr out) = inr out
      enters w there (inl keep) =
          let (among, at) = h.driven w there keep in
          let (k, p, low, in_ports, is, by) = port_named w (d.driver w) among at in
          inl (k, p, gives_port k p low in_ports (ap d.driver is ∙ sym by), is)

      leaves : (w : W) → There w → Kept (d.receiver w) ⊎ (Kept (d.receiver w) → ⊥)
          → ((n : ℕ) × (p : ℕ) × (gives net n p ≡ true) × (landing (fabric net) label n p ≡ w)) ⊎ (Kept (d.receiver w) → ⊥)
      leaves w there (inr out) = inr out
      leaves w there (inl keep) =
          let (among, at) = h.ends w there keep in
          let (k, p, low, in_ports, is, by, g, e) = line_first (root w) among in
          inl (k, p, g, (lands k p g).0 ∙ ap last (ap root is ∙ (first_is (root w) among).2) ∙ at)

  pub routes_sound : WebSound d → SoundFor net (c.spec c.env)
  routes_sound sound = record {
    network = routes_network;
    closed = routes_closed;
    specified = refl;
    sound = linked_sound N W d Kept (fabric net) l linked sound;
  }

  pub routes_correct : WebSound d → WebExact d → Correct net (c.spec c.env)
  routes_correct sound exact = record {
    network = routes_network;
    closed = routes_closed;
    specified = refl;
    sound = linked_sound N W d Kept (fabric net) l linked sound;
    exact = linked_exact N W d Kept (fabric net) l linked sound exact;
  }
