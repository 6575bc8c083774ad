-- The machines of a network at its start.
use Rattle.std.proofs.Common.{◌≡◌, ◌⊎◌, ℕ, zero, suc, ◌<◌, Bool, false, not, map, replicate, List, [], ◌∷◌, ◌++◌, length, get_or, Some, refl, sym, ap, ◌∙◌, subst, arith, inl, inr}
use Rattle.std.specs.Prelude.{slice_get}
use Rattle.std.proofs.lemmas.Option.{slice_get-get_or}
use Rattle.std.proofs.lemmas.Bool.{cases_lt}
use Rattle.std.proofs.lemmas.List.{get_or-replicate, get_or_past, length-replicate}
use Rattle.basic_kinds.specs.declared.machine.Machine.{Machine}
use Rattle.basic_kinds.specs.Mirror.Machines.{kind_of, Stands}
use Rattle.net_core.specs.declared.spec.NodeSpec.TheVariants.{Kind}
use Rattle.net_core.specs.Specs.{outs_of}
use Rattle.net_core.specs.Wiring.{Node, Circuit}
use Rattle.net_core.specs.Networks.{spec_of, directions, directions_at}
use Rattle.replay.specs.Mirror.Boards.{AreMachines}

last_or : {A : Type 0} (xs : List A) (x : A) (i : ℕ) (y : A) → slice_get (xs ++ x ∷ []) i ≡ Some y
    → (slice_get xs i ≡ Some y) ⊎ ((i ≡ length xs) × (x ≡ y))
last_or [] x zero y e = let same : x ≡ y = cc in inr (refl, same)
last_or [] x (suc i) y e = absurd (cc)
last_or (z ∷ xs) x zero y e = inl e
last_or (z ∷ xs) x (suc i) y e = elim (last_or xs x i y e) [ inl h ↦ inl h | inr h ↦ inr (ap suc h.0, h.1) ]

pub machines_more : (c : Circuit) (ms : List Machine) (m : Machine) (i : ℕ) (x : Node) → AreMachines c ms (λ _. []) → suc (length ms) ≡ i
    → i < length c.nodes → x ≡ get_or c.nodes i x → x.spec ≡ Kind (kind_of m) → Stands m [] → AreMachines c (ms ++ m ∷ []) (λ _. [])
machines_more c ms m i x are long less is kind stands = record {
  kind = λ j k at. elim (last_or ms m j k at) [
    | inl h ↦ are.kind j k h
    | inr h ↦ subst (λ v. spec_of (slice_get c.nodes v) ≡ Some (Kind (kind_of k))) (sym (ap suc h.0 ∙ long))
        (ap spec_of (slice_get-get_or c.nodes i x less ∙ ap Some (sym is)) ∙ ap Some (kind ∙ ap (λ (n : Machine). Kind (kind_of n)) h.1))
  ];
  stands = λ j k at. elim (last_or ms m j k at) [
    | inl h ↦ are.stands j k h
    | inr h ↦ subst (λ n. Stands n []) h.1 stands
  ];
}

pub first_directed : (c : Circuit) (x : Node) (outs : List Bool) → 0 < length c.nodes → x ≡ get_or c.nodes 0 x → outs ≡ outs_of x.spec
    → directions c 0 ≡ map not outs
first_directed c x outs h is e = ap (directions_at 0) (slice_get-get_or c.nodes 0 x h ∙ ap Some (sym is)) ∙ ap (map not) (sym e)

-- no wire is busy
pub none_busy : (n : ℕ) (bits : List Bool) → bits ≡ replicate n false → (w : ℕ) → get_or bits w false ≡ false
none_busy n bits is w = ap (λ xs. get_or xs w false) is ∙ elim (cases_lt w n) [
  | inl h ↦ get_or-replicate n w false false h
  | inr h ↦ get_or_past (replicate n false) w false (omega (arith, length-replicate n false))
]

pub none_many : (n : ℕ) (bits : List Bool) → bits ≡ replicate n false → length bits ≡ n
none_many n bits is = ap length is ∙ length-replicate n false
