use Rattle.std.proofs.Common.{ℕ, ◌+◌, ◌-◌, length, subst, sym, ap, arith}
use Rattle.std.proofs.lemmas.List.{drop_all}
use Rattle.std.proofs.lemmas.List.FromFn.{length-range_with_len}
use Rattle.shape_parts.specs.Mirror.Links.{IsFalling, Leads}
use Rattle.shape_parts.proofs.Links.{falling_alone, leads_alone, one_more, within_at}
use Rattle.shape_parts.proofs.union_find.join_all.Goals as goal

pub overflow_add-rows : goal.overflow_add-rows
overflow_add-rows c = omega (arith, within_at c.args.rows c.args.cols c.args.cross.now (length c.args.cross.now - 1 - c.loop-count.count) c.requires.within (omega arith))

pub join-requires-clause-first : goal.join-requires-clause-first
join-requires-clause-first c =
    omega (arith, (within_at c.args.rows c.args.cols c.args.cross.now (length c.args.cross.now - 1 - c.loop-count.count) c.requires.within (omega arith)).0, ap length c.requires.alone, length-range_with_len 0 (c.args.rows + c.args.cols))

pub join-requires-clause-second : goal.join-requires-clause-second
join-requires-clause-second c =
    omega (arith, (within_at c.args.rows c.args.cols c.args.cross.now (length c.args.cross.now - 1 - c.loop-count.count) c.requires.within (omega arith)).1, ap length c.requires.alone, length-range_with_len 0 (c.args.rows + c.args.cols))

pub loop-count-preserved : goal.loop-count-preserved
loop-count-preserved c = record {
  falling = c.join.ensures.falling;
  leads = subst (λ (f : ℕ → ℕ). Leads f c.join.new.up) (sym (one_more c.args.rows c.args.cross.now c.loop-count.count c.loop-count-test.true)) (c.join.ensures.leads _ c.loop-count.invariant.leads);
}

pub loop-count-init : goal.loop-count-init
loop-count-init c = record {
  falling = subst IsFalling (sym c.requires.alone) (falling_alone (c.args.rows + c.args.cols));
  leads = rw (drop_all (length c.args.cross.now - 0) c.args.cross.now (omega arith)) (subst (Leads (λ v. v)) (sym c.requires.alone) (leads_alone (c.args.rows + c.args.cols)));
}
