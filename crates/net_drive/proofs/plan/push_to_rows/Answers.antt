use Rattle.std.proofs.Common.{inl, inr, get_or, set, refl, sym, subst, arith}
use Rattle.std.proofs.lemmas.Bool.{cases_eq}
use Rattle.place_graph.specs.Points.{OneOf}
use Rattle.cmd_machine.proofs.Noting.{rows_of}
use Rattle.net_drive.proofs.Planned.{row_pushed}
use Rattle.net_drive.proofs.Refreshed.{place_of}
use Rattle.net_drive.proofs.plan.push_to_rows.Goals as goal

pub loop-index-preserved : goal.loop-index-preserved
loop-index-preserved c =
    let l = c.loop-index in
    let at = get_or c.args.indices.now l.index-index 0 in
    let after = set c.grow.new.users.items at c.push.new.self in
    let p = row_pushed l.rows.items c.grow.new.users.items after at c.args.number c.index_mut.result.now c.push.new.self
    c.in_ok-grow.ensures.same c.in_ok-grow.ensures.room c.index_mut.ensures.value refl c.in_ok-push.ensures.items in
    record {
      pushed = λ j less. elim (cases_eq j l.index-index) [
        | inl e ↦ subst (λ i. OneOf (rows_of after (get_or c.args.indices.now i 0)) c.args.number) (sym e) p.0
        | inr ne ↦ p.1 (get_or c.args.indices.now j 0) c.args.number (l.invariant.pushed j (omega (arith, ne, less)))
      ];
      kept = λ i n o. p.1 i n (l.invariant.kept i n o);
    }

pub returns-clause-pushed : goal.returns-clause-pushed
returns-clause-pushed c = λ i o.
    let l = c.loop-index in
    let r = place_of c.args.indices.now i o in
    subst (λ m. OneOf (rows_of l.rows.items m) c.args.number) r.2 (l.invariant.pushed r.0 (omega (arith, r.1, c.loop-index-test.false)))
