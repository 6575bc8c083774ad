use Rattle.std.proofs.Common.{map, sym, ◌∙◌, ap, subst, arith}
use Rattle.cmd_rename.specs.Table.{entry}
use Rattle.cmd_rename.specs.Mirror.Rounds.{shown, AreOld}
use Rattle.cmd_rename.proofs.Entries.{shown_pushed, shown_apart, old_pushed}
use Rattle.cmd_rename.proofs.table.grow.Goals as goal

pub loop-entries-preserved : goal.loop-entries-preserved
loop-entries-preserved c = record {
  same = λ round a h. ap (λ u. entry (map (shown round) u) a) c.in_ok-push.ensures.items
      ∙ shown_pushed round c.loop-entries.entries.items (record { round = 0; number = 0 }) a (shown_apart round (record { round = 0; number = 0 }) (λ q. omega arith))
      ∙ c.loop-entries.invariant.same round a h;
  old = λ round h. subst (AreOld round) (sym c.in_ok-push.ensures.items) (old_pushed round c.loop-entries.entries.items (record { round = 0; number = 0 }) (omega arith) (c.loop-entries.invariant.old round h));
}

pub returns-in_err-push-clause-old : goal.returns-in_err-push-clause-old
returns-in_err-push-clause-old c = λ round h. subst (AreOld round) (sym c.in_err-push.ensures.items) (c.loop-entries.invariant.old round h)
