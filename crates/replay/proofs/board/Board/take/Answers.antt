use Rattle.std.proofs.Common.{◌≡◌, ◌∙◌, ◌-◌, ◌++◌, List, length, take, drop, refl, sym, ap, subst}
use Rattle.basic_kinds.specs.declared.machine.Machine.{Machine}
use Rattle.net_core.specs.Runs.{State, grow}
use Rattle.replay.specs.declared.board.Board.{Board}
use Rattle.replay.specs.Mirror.Boards.{Stands}
use Rattle.replay.proofs.Boarding.{AreStepped, written, environment_took, component_step, bit_put}
use Rattle.replay.proofs.board.Board.take.Goals.{then-step-eq0, else-step-eq0}
use Rattle.replay.proofs.board.Board.take.Goals as goal

pub returns-clause-board : goal.returns-clause-board
returns-clause-board c = λ k s stands may node wire.
    let p = c.args.step.now in
    let b = c.args.self.now in
    let grown : State = record { trace = grow s.trace p.node p.port; busy = s.busy } in
    let middle : Stands k c.if-step-eq0.self grown = elim c.if-step-eq0.branch [
      | then-step-eq0 w ↦ subst (λ (u : Board). Stands k u grown) (sym w.self-is)
          (environment_took k b s stands p.node p.port w.step-taken.result w.step-taken.new.self w.if-step-eq0.true w.step-taken.ensures.answer w.step-taken.ensures.taken may)
      | else-step-eq0 w ↦
          let new = w.step_at.new.machines in
          let old = w.deref_mut.result.now in
          let value : old ≡ b.machines.items = w.deref_mut.ensures.value in
          let took : AreStepped old new (p.node - 1) p.port = record {
            long = w.step_at.ensures.length;
            others = w.step_at.ensures.others;
            kind = w.step_at.ensures.kind;
            here = w.step_at.ensures.here;
          } in
          let items : take b.machines.len (new ++ drop (length new) b.machines.items) ≡ new =
          written new b.machines.items b.machines.len b.machines.ok.0 (w.step_at.ensures.length ∙ ap (λ (xs : List Machine). length xs) value) in
          let are : AreStepped b.machines.items (take b.machines.len (new ++ drop (length new) b.machines.items)) (p.node - 1) p.port =
          subst (λ (xs : List Machine). AreStepped xs (take b.machines.len (new ++ drop (length new) b.machines.items)) (p.node - 1) p.port) value
          (subst (λ (xs : List Machine). AreStepped old xs (p.node - 1) p.port) (sym items) took) in
          subst (λ (u : Board). Stands k u grown) (sym w.self-is)
          (component_step k b s stands p.node p.port _ w.if-step-eq0.false are refl refl refl may)
    ] in
    record {
      each = middle.each;
      many = middle.many;
      command = middle.command;
      specified = middle.specified;
      walks = middle.walks;
      directed = middle.directed;
      wires = c.put_bit.ensures.length ∙ middle.wires;
      bits = bit_put k c.if-step-eq0.self grown middle p.wire p.fills c.put_bit.new.bits.items wire c.put_bit.ensures.length c.put_bit.ensures.here c.put_bit.ensures.others;
    }
