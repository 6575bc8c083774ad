use Rattle.std.proofs.Common.{ℕ, List, [], ◌∷◌, ◌++◌, ◌+◌, ◌<◌, ◌^◌, ◌∙◌, get_or, sym, ap, subst, arith, rules}
use Rattle.net_core.specs.Wiring.{Circuit}
use Rattle.substitute.specs.Splice.{is_inner}
use Rattle.substitute.proofs.Outer.{Numbered, numbered_none, numbered_outer, numbered_inner}
use Rattle.substitute.proofs.Tables.{rank_few}
use Rattle.substitute.proofs.renumber.new_numbers.Goals as goal
use Rattle.substitute.proofs.renumber.new_numbers.Goals.{in-Some+in_ok-push-in-Some, in-None+in_ok-push-in-None}

pub loop-wire-init : goal.loop-wire-init
loop-wire-init c = numbered_none c.args.ends.now c.args.wires c.args.sub.now c.new-table.result.items c.new-table.ensures.items

pub overflow_add-next : goal.overflow_add-next
overflow_add-next c =
    let fits : c.loop-wire.next + 1 < 2 ^ 32 =
    omega (arith, c.loop-wire.invariant.next_is, rank_few (is_inner c.args.sub.now) c.loop-wire.wire, c.requires.few, c.loop-wire-test.true, ap (λ (d : Circuit). d.wires) c.sub.view_is) in
    search (rules, fits)

pub loop-wire-preserved : goal.loop-wire-preserved
loop-wire-preserved c =
    let T : List ℕ → ℕ → Type 0 = λ table next. Numbered c.args.ends.now c.args.wires c.args.sub.now table next (c.loop-wire.wire + 1) in
    elim c.match-outer_port.branch [
      | in-Some+in_ok-push-in-Some w ↦
          subst (λ (t : List ℕ). T t c.match-outer_port.next) (sym (ap (λ v. v.items) w.table-is ∙ w.in_ok-push-in-Some.ensures.items))
          (subst (λ (n : ℕ). T (c.loop-wire.table.items ++ get_or c.args.ends.now w.in-Some.port 0 ∷ []) n) (sym w.next-is)
          (numbered_outer c.args.ends.now c.args.wires c.args.sub.now c.loop-wire.table.items c.loop-wire.next c.loop-wire.wire c.loop-wire.invariant _ w.in-Some.ensures))
      | in-None+in_ok-push-in-None w ↦
          subst (λ (t : List ℕ). T t c.match-outer_port.next) (sym (ap (λ v. v.items) w.table-is ∙ w.in_ok-push-in-None.ensures.items))
          (subst (λ (n : ℕ). T (c.loop-wire.table.items ++ c.loop-wire.next ∷ []) n) (sym w.next-is)
          (numbered_inner c.args.ends.now c.args.wires c.args.sub.now c.loop-wire.table.items c.loop-wire.next c.loop-wire.wire c.loop-wire.invariant w.in-None.ensures))
    ]
