-- Each event that may happen is one of those that are listed.
use Rattle.std.proofs.Common.{◌≡◌, ◌≢◌, inl, inr, ℕ, zero, suc, ◌+◌, ◌-◌, ◌<◌, ◌≤◌, Bool, true, false, ◌&&◌, if◌then◌else◌, nat_eq, List, [], ◌∷◌, ◌++◌, length, map, drop, Option, Some, None, refl, sym, ap, ◌∙◌, subst, arith, eq-eqb}
use Rattle.std.specs.Prelude.{slice_get, filter, nat_lt, nat_le, option_map}
use Rattle.std.specs.List.{range_with_len}
use Rattle.std.proofs.lemmas.Bool.{false≢true, cases_eq, cases_lt}
use Rattle.std.proofs.lemmas.Bool.Decides.{nat_tests}
use Rattle.std.proofs.lemmas.List.{get_or_past}
use Rattle.place_graph.specs.Points.{OneOf}
use Rattle.basic_kinds.specs.Kinds.{inputs_of, outputs_of}
use Rattle.net_core.specs.declared.spec.NodeSpec.{NodeSpec}
use Rattle.net_core.specs.declared.spec.NodeSpec.TheVariants.{Kind, Cmd}
use Rattle.net_core.specs.Runs.{State, Enabled}
use Rattle.net_core.specs.Runs as runs
use Rattle.net_core.specs.Wiring.{Node, Circuit}
use Rattle.net_core.specs.Networks.{directions, gives}
use Rattle.replay.specs.declared.event.Event.{Event}
use Rattle.replay.specs.declared.event.Event.TheVariants.{Give, Pass, Fire, Unknown}
use Rattle.replay.specs.Answers.{output_of, output_in, output_at, event_of, MayHappen, IsEnabled}
use Rattle.net_drive.specs.Drawn.{give_of, gives_of, passes_of, outputs_in, fires_from, possible}

front : {A : Type 0} (xs ys : List A) (x : A) → OneOf xs x → OneOf (xs ++ ys) x
front [] ys x o = absurd o
front (y ∷ xs) ys x (inl e) = inl e
front (y ∷ xs) ys x (inr o) = inr (front xs ys x o)

back : {A : Type 0} (xs ys : List A) (x : A) → OneOf ys x → OneOf (xs ++ ys) x
back [] ys x o = o
back (y ∷ xs) ys x o = inr (back xs ys x o)

mapped : {A B : Type 0} (f : A → B) (xs : List A) (x : A) → OneOf xs x → OneOf (map f xs) (f x)
mapped f [] x o = absurd o
mapped f (y ∷ xs) x (inl e) = inl (ap f e)
mapped f (y ∷ xs) x (inr o) = inr (mapped f xs x o)

ranged : (a n i : ℕ) → a ≤ i → i < a + n → OneOf (range_with_len a n) i
ranged a zero i l h = absurd (omega (arith, l, h))
ranged a (suc n) i l h = elim (cases_eq a i) [
  | inl e ↦ inl e
  | inr ne ↦ inr (ranged (a + 1) n i (omega (arith, l, ne)) (omega (arith, h)))
]

kept : (f : ℕ → Bool) (xs : List ℕ) (x : ℕ) → OneOf xs x → f x ≡ true → OneOf (filter f xs) x
kept f [] x o t = absurd o
kept f (y ∷ xs) x (inl e) t = by (f y) (ap f e ∙ t)
  where
    by : (b : Bool) → b ≡ true → OneOf (if b then y ∷ filter f xs else filter f xs) x
    by true h = inl e
    by false h = absurd (false≢true h)
kept f (y ∷ xs) x (inr o) t = by (f y) (kept f xs x o t)
  where
    by : (b : Bool) → OneOf (filter f xs) x → OneOf (if b then y ∷ filter f xs else filter f xs) x
    by true r = inr r
    by false r = r

-- an output that is there is one of the outputs
output_within : (x : NodeSpec) (k p : ℕ) → output_of x k ≡ Some p → (0 < k) × (k ≤ outputs_in x)
output_within (Kind kind) k p e = by (nat_lt 0 k && nat_le k (outputs_of kind)) refl e
  where
    by : (b : Bool) → (nat_lt 0 k && nat_le k (outputs_of kind)) ≡ b
        → (if b then Some (inputs_of kind + k - 1) else None) ≡ Some p → (0 < k) × (k ≤ outputs_of kind)
    by true t e = (grind (arith, nat_tests, t), grind (arith, nat_tests, t))
    by false t e = absurd (cc)
output_within (Cmd command) k p e = absurd (cc)

in_fires : (xs : List Node) (n d k p : ℕ) → output_in (slice_get xs d) k ≡ Some p → OneOf (fires_from n xs) (Fire (n + d) k)
in_fires [] n d k p e = absurd (cc)
in_fires (x ∷ xs) n zero k p e =
    let r = output_within x.spec k p e in
    front (map (Fire n) (range_with_len 1 (outputs_in x.spec))) (fires_from (suc n) xs) (Fire (n + 0) k)
    (subst (λ m. OneOf (map (Fire n) (range_with_len 1 (outputs_in x.spec))) (Fire m k)) (let z : n ≡ n + 0 = omega arith in z)
    (mapped (Fire n) (range_with_len 1 (outputs_in x.spec)) k (ranged 1 (outputs_in x.spec) k (omega (arith, r.0)) (omega (arith, r.1)))))
in_fires (x ∷ xs) n (suc d) k p e =
    back (map (Fire n) (range_with_len 1 (outputs_in x.spec))) (fires_from (suc n) xs) (Fire (n + suc d) k)
    (subst (λ m. OneOf (fires_from (suc n) xs) (Fire m k)) (let z : suc n + d ≡ n + suc d = omega arith in z) (in_fires xs (suc n) d k p e))

in_components : (xs : List Node) (n k p : ℕ) → n ≢ 0 → output_in (slice_get xs n) k ≡ Some p → OneOf (fires_from 1 (drop 1 xs)) (Fire n k)
in_components [] n k p h e = absurd (cc)
in_components (x ∷ xs) zero k p h e = absurd (h refl)
in_components (x ∷ xs) (suc d) k p h e =
    subst (λ m. OneOf (fires_from 1 xs) (Fire m k)) (let z : 1 + d ≡ suc d = omega arith in z) (in_fires xs 1 d k p e)

-- an event of the network is one of those that it could ever have
there : (c : Circuit) (e : Event) (ev : runs.Event) → event_of c e ≡ Some ev → OneOf (possible c) e
there c (Give a) ev h = by (gives c 0 a.0) refl h
  where
    within : gives c 0 a.0 ≡ true → a.0 < length (directions c 0)
    within t = elim (cases_lt a.0 (length (directions c 0))) [
      | inl l ↦ l
      | inr past ↦ absurd (false≢true (sym (get_or_past (directions c 0) a.0 false past) ∙ t))
    ]

    by : (b : Bool) → gives c 0 a.0 ≡ b → (if b then Some (runs.Fire 0 a.0) else None) ≡ Some ev → OneOf (possible c) (Give a)
    by true t e = front (gives_of c) (passes_of c ++ fires_from 1 (drop 1 c.nodes)) (Give a)
        (mapped give_of (filter (gives c 0) (range_with_len 0 (length (directions c 0)))) a.0
        (kept (gives c 0) (range_with_len 0 (length (directions c 0))) a.0 (ranged 0 (length (directions c 0)) a.0 (omega arith) (omega (arith, within t))) t))
    by false t e = absurd (cc)
there c (Pass w) ev h = by (nat_lt w c.wires) refl h
  where
    by : (b : Bool) → nat_lt w c.wires ≡ b → (if b then Some (runs.Pass w) else None) ≡ Some ev → OneOf (possible c) (Pass w)
    by true t e =
        let less : w < c.wires = grind (arith, nat_tests, t) in
        back (gives_of c) (passes_of c ++ fires_from 1 (drop 1 c.nodes)) (Pass w)
        (front (passes_of c) (fires_from 1 (drop 1 c.nodes)) (Pass w) (mapped Pass (range_with_len 0 c.wires) w (ranged 0 c.wires w (omega arith) (omega (arith, less)))))
    by false t e = absurd (cc)
there c (Fire n k) ev h = by (output_at c n k) refl h
  where
    component : (b : Bool) (p : ℕ) → nat_eq n 0 ≡ b → (if b then None else output_in (slice_get c.nodes n) k) ≡ Some p → OneOf (fires_from 1 (drop 1 c.nodes)) (Fire n k)
    component true p t e = absurd (cc)
    component false p t e = in_components c.nodes n k p (λ z. false≢true (sym t ∙ eq-eqb n 0 z)) e

    by : (o : Option ℕ) → output_at c n k ≡ o → option_map (runs.Fire n) o ≡ Some ev → OneOf (possible c) (Fire n k)
    by None e q = absurd (cc)
    by (Some p) e q = back (gives_of c) (passes_of c ++ fires_from 1 (drop 1 c.nodes)) (Fire n k)
        (back (passes_of c) (fires_from 1 (drop 1 c.nodes)) (Fire n k) (component (nat_eq n 0) p refl e))
there c Unknown ev h = absurd (cc)

pub may_listed : (c : Circuit) (s : State) (e : Event) → IsEnabled c s e → OneOf (possible c) e
may_listed c s e on = by (event_of c e) refl on
  where
    by : (o : Option runs.Event) → event_of c e ≡ o → MayHappen c s o → OneOf (possible c) e
    by None q h = absurd h
    by (Some ev) q h = there c e ev q
