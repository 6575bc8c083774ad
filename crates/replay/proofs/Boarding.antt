-- A board stands for a state: what it answers, and where a step leads it.
use Rattle.std.proofs.Common.{◌≡◌, ◌≢◌, ◌↔◌, ℕ, suc, ◌-◌, ◌<◌, Bool, false, not, List, [], ◌∷◌, ◌++◌, length, get_or, map, take, drop, Option, Some, None, IsTrue, sym, ap, ◌∙◌, subst, arith, inl, inr}
use Rattle.std.specs.Prelude.{slice_get}
use Rattle.std.proofs.Math.Seq.{take-append_seam}
use Rattle.std.proofs.lemmas.Bool.{cases_eq}
use Rattle.cmd_tree.specs.declared.command.Command.{Command}
use Rattle.cmd_tree.specs.declared.tree.Proc.{Proc}
use Rattle.cmd_tree.specs.Meaning.{Trace}
use Rattle.basic_kinds.specs.declared.kind.Kind.{Kind as BasicKind}
use Rattle.basic_kinds.specs.declared.machine.Machine.{Machine}
use Rattle.basic_kinds.specs.KindTraces.{KindTrace}
use Rattle.basic_kinds.specs.Mirror.Machines.{kind_of}
use Rattle.basic_kinds.specs.Mirror.Machines as running
use Rattle.cmd_machine.specs.declared.walker.Walker.{Walker}
use Rattle.cmd_machine.specs.Mirror.Walkers as walking
use Rattle.cmd_machine.proofs.Weaving.{some_at, at_some}
use Rattle.net_core.specs.declared.spec.NodeSpec.{NodeSpec}
use Rattle.net_core.specs.declared.spec.NodeSpec.TheVariants.{Kind, Cmd}
use Rattle.net_core.specs.Specs.{May}
use Rattle.net_core.specs.Runs.{State, grow, put}
use Rattle.net_core.specs.Wiring.{Node, Circuit}
use Rattle.net_core.specs.Networks.{spec_of, may_of}
use Rattle.net_core.proofs.Updates.{grow_same, grow_other, put_same, put_other}
use Rattle.replay.specs.declared.board.Board.{Board}
use Rattle.replay.specs.Mirror.Boards.{AreMachines, Stands}

-- the machine at place j has taken a step by the port p
pub record AreStepped (old new : List Machine) (j p : ℕ) : Type 0 where
  pub long : length new ≡ length old
  pub others : (i : ℕ) → i ≢ j → slice_get new i ≡ slice_get old i
  pub kind : (m k : Machine) → slice_get old j ≡ Some m → slice_get new j ≡ Some k → kind_of k ≡ kind_of m
  pub here : (m k : Machine) (t : List ℕ) → slice_get old j ≡ Some m → slice_get new j ≡ Some k
      → running.Stands m t → KindTrace (kind_of m) (t ++ p ∷ []) → running.Stands k (t ++ p ∷ [])

-- a list that is written back where another stood
pub written : {A : Type 0} (new old : List A) (n : ℕ) → n ≡ length old → length new ≡ length old
    → take n (new ++ drop (length new) old) ≡ new
written new old n size long = ap (λ k. take k (new ++ drop (length new) old)) (size ∙ sym long) ∙ take-append_seam new (drop (length new) old)

both : {A B C : Type 0} → A ↔ B → C ↔ B → A ↔ C
both f g = (λ a. g.1 (f.0 a), λ c. f.1 (g.0 c))

environment_may : (o : Option Node) (k : Command) (t : List ℕ) → spec_of o ≡ Some (Cmd k) → may_of o t ↔ Trace k.procs t
unfolding May
environment_may None k t e = absurd (cc)
environment_may (Some x) k t e =
    let is : x.spec ≡ Cmd k = cc in
    subst (λ (s : NodeSpec). May s t ↔ Trace k.procs t) (sym is) (λ h. h, λ h. h)

component_may : (o : Option Node) (k : BasicKind) (t : List ℕ) → spec_of o ≡ Some (Kind k) → may_of o t ↔ KindTrace k t
unfolding May
component_may None k t e = absurd (cc)
component_may (Some x) k t e =
    let is : x.spec ≡ Kind k = cc in
    subst (λ (s : NodeSpec). May s t ↔ KindTrace k t) (sym is) (λ h. h, λ h. h)

module _ (c : Circuit) (b : Board) (s : State) (stands : Stands c b s) where
  environment : (p : ℕ) → may_of (slice_get c.nodes 0) (s.trace 0 ++ p ∷ []) ↔ Trace stands.command.procs (s.trace 0 ++ p ∷ [])
  environment p = environment_may (slice_get c.nodes 0) stands.command (s.trace 0 ++ p ∷ []) stands.specified

  pub environment_can : (n p : ℕ) (can : Bool) → n ≡ 0
      → ((ps : List Proc) (t : List ℕ) → walking.Stands ps b.walker t → (IsTrue can ↔ Trace ps (t ++ p ∷ [])))
      → IsTrue can ↔ may_of (slice_get c.nodes n) (s.trace n ++ p ∷ [])
  environment_can n p can z f =
      subst (λ m. IsTrue can ↔ may_of (slice_get c.nodes m) (s.trace m ++ p ∷ [])) (sym z)
      (both (f stands.command.procs (s.trace 0) stands.walks) (environment p))

  component : (j : ℕ) (m : Machine) (p : ℕ) → slice_get b.machines.items j ≡ Some m
      → may_of (slice_get c.nodes (suc j)) (s.trace (suc j) ++ p ∷ []) ↔ KindTrace (kind_of m) (s.trace (suc j) ++ p ∷ [])
  component j m p at = component_may (slice_get c.nodes (suc j)) (kind_of m) (s.trace (suc j) ++ p ∷ []) (stands.each.kind j m at)

  can_later : (j p : ℕ) (can : Bool) → suc j < length c.nodes
      → ((m : Machine) (t : List ℕ) → slice_get b.machines.items j ≡ Some m → running.Stands m t → (IsTrue can ↔ KindTrace (kind_of m) (t ++ p ∷ [])))
      → IsTrue can ↔ may_of (slice_get c.nodes (suc j)) (s.trace (suc j) ++ p ∷ [])
  can_later j p can less f =
      let found = some_at b.machines.items j (omega (arith, stands.many, less)) in
      both (f found.0 (s.trace (suc j)) found.1 (stands.each.stands j found.0 found.1)) (component j found.0 p found.1)

  pub component_can : (n p : ℕ) (can : Bool) → n ≢ 0 → n < length c.nodes
      → ((m : Machine) (t : List ℕ) → slice_get b.machines.items (n - 1) ≡ Some m → running.Stands m t → (IsTrue can ↔ KindTrace (kind_of m) (t ++ p ∷ [])))
      → IsTrue can ↔ may_of (slice_get c.nodes n) (s.trace n ++ p ∷ [])
  component_can n p can some less f =
      let is : suc (n - 1) ≡ n = omega arith in
      subst (λ m. IsTrue can ↔ may_of (slice_get c.nodes m) (s.trace m ++ p ∷ [])) is
      (can_later (n - 1) p can (omega (arith, is)) f)

  -- ---- a step

  pub environment_took : (n p : ℕ) (taken : Bool) (w : Walker) → n ≡ 0
      → ((ps : List Proc) (t : List ℕ) → walking.Stands ps b.walker t → (IsTrue taken ↔ Trace ps (t ++ p ∷ [])))
      → ((ps : List Proc) (t : List ℕ) → walking.Stands ps b.walker t → IsTrue taken → walking.Stands ps w (t ++ p ∷ []))
      → may_of (slice_get c.nodes n) (s.trace n ++ p ∷ [])
      → Stands c (record b { walker = w }) (record s { trace = grow s.trace n p })
  environment_took n p taken w z answer took may =
      let ps = stands.command.procs in
      let first : may_of (slice_get c.nodes 0) (s.trace 0 ++ p ∷ []) = subst (λ m. may_of (slice_get c.nodes m) (s.trace m ++ p ∷ [])) z may in
      let ok = (answer ps (s.trace 0) stands.walks).1 ((environment p).0 first) in
      record {
        each = record {
          kind = stands.each.kind;
          stands = λ i m at. subst (running.Stands m) (sym (grow_other s.trace n p (suc i) (λ e. omega (arith, e, z)))) (stands.each.stands i m at);
        };
        many = stands.many;
        command = stands.command;
        specified = stands.specified;
        walks = subst (walking.Stands ps w) (sym (grow_same s.trace n p 0 (sym z))) (took ps (s.trace 0) stands.walks ok);
        directed = stands.directed;
        wires = stands.wires;
        bits = stands.bits;
      }

  component_took : (n p j : ℕ) (new : List Machine) → n ≡ suc j
      → length new ≡ length b.machines.items
      → ((i : ℕ) → i ≢ j → slice_get new i ≡ slice_get b.machines.items i)
      → ((m k : Machine) → slice_get b.machines.items j ≡ Some m → slice_get new j ≡ Some k → kind_of k ≡ kind_of m)
      → ((m k : Machine) (t : List ℕ) → slice_get b.machines.items j ≡ Some m → slice_get new j ≡ Some k → running.Stands m t
      → KindTrace (kind_of m) (t ++ p ∷ []) → running.Stands k (t ++ p ∷ []))
      → may_of (slice_get c.nodes (suc j)) (s.trace (suc j) ++ p ∷ [])
      → AreMachines c new (grow s.trace n p)
  component_took n p j new is long others kind here may = record {
    kind = λ i k at. elim (cases_eq i j) [
      | inl e ↦
          let now = subst (λ v. slice_get new v ≡ Some k) e at in
          let old = found now in
          subst (λ v. spec_of (slice_get c.nodes (suc v)) ≡ Some (Kind (kind_of k))) (sym e)
          (stands.each.kind j old.0 old.1 ∙ ap (λ (x : BasicKind). Some (Kind x)) (sym (kind old.0 k old.1 now)))
      | inr ne ↦ stands.each.kind i k (sym (others i ne) ∙ at)
    ];
    stands = λ i k at. elim (cases_eq i j) [
      | inl e ↦
          let now = subst (λ v. slice_get new v ≡ Some k) e at in
          let old = found now in
          let trace = grow_same s.trace n p (suc i) (ap suc e ∙ sym is) ∙ ap (λ v. s.trace (suc v) ++ p ∷ []) e in
          subst (running.Stands k) (sym trace)
          (here old.0 k (s.trace (suc j)) old.1 now (stands.each.stands j old.0 old.1) ((component j old.0 p old.1).0 may))
      | inr ne ↦ subst (running.Stands k) (sym (grow_other s.trace n p (suc i) (λ e. ne (omega (arith, e, is)))))
          (stands.each.stands i k (sym (others i ne) ∙ at))
    ];
  }
    where
      found : {k : Machine} → slice_get new j ≡ Some k → (m : Machine) × (slice_get b.machines.items j ≡ Some m)
      found {k} now = some_at b.machines.items j (omega (arith, at_some new j k now, long))

  pub component_step : (n p : ℕ) (new : Board) → n ≢ 0 → AreStepped b.machines.items new.machines.items (n - 1) p
      → new.walker ≡ b.walker → new.outs.items ≡ b.outs.items → new.busy.items ≡ b.busy.items
      → may_of (slice_get c.nodes n) (s.trace n ++ p ∷ [])
      → Stands c new (record s { trace = grow s.trace n p })
  component_step n p new some are walker outs busy may =
      let is : n ≡ suc (n - 1) = omega arith in
      let there : may_of (slice_get c.nodes (suc (n - 1))) (s.trace (suc (n - 1)) ++ p ∷ []) =
      subst (λ m. may_of (slice_get c.nodes m) (s.trace m ++ p ∷ [])) is may in
      record {
        each = component_took n p (n - 1) new.machines.items is are.long are.others are.kind are.here there;
        many = stands.many ∙ ap suc (sym are.long);
        command = stands.command;
        specified = stands.specified;
        walks = subst (λ w. walking.Stands stands.command.procs w (grow s.trace n p 0)) (sym walker)
            (subst (walking.Stands stands.command.procs b.walker) (sym (grow_other s.trace n p 0 (λ e. some (sym e)))) stands.walks);
        directed = stands.directed ∙ ap (map not) (sym outs);
        wires = ap length busy ∙ stands.wires;
        bits = λ v. ap (λ xs. get_or xs v false) busy ∙ stands.bits v;
      }

  -- the bit of a wire
  pub bit_put : (w : ℕ) (x : Bool) (bits : List Bool) → w < c.wires → length bits ≡ length b.busy.items
      → (w < length b.busy.items → get_or bits w false ≡ x)
      → ((i : ℕ) → i ≢ w → get_or bits i false ≡ get_or b.busy.items i false)
      → (v : ℕ) → get_or bits v false ≡ put s.busy w x v
  bit_put w x bits less long here others v = elim (cases_eq v w) [
    | inl e ↦ ap (λ i. get_or bits i false) e ∙ here (omega (arith, stands.wires, less)) ∙ sym (put_same s.busy w x v e)
    | inr ne ↦ others v ne ∙ stands.bits v ∙ sym (put_other s.busy w x v ne)
  ]
