use Rattle.std.proofs.Common.{suc, ◌+◌, ◌-◌, ◌&&◌, nat_eq, sym, ap, ◌∙◌, arith, eq-eqb, ne_eqb}
use Rattle.std.specs.List.{list_all, range_with_len}
use Rattle.place_graph.specs.Style.{entries}
use Rattle.place_graph.proofs.styles.each_has_one_entry.Goals as goal

pub returns-then-entries-ne1 : goal.returns-then-entries-ne1
returns-then-entries-ne1 c =
    let i = c.loop-act.act in
    let left = c.args.acts - (i + 1) in
    let rest = list_all (λ a. nat_eq (entries a c.args.crosses.now) 1) (range_with_len (i + 1) left) in
    sym (sym (c.loop-act.invariant (suc left) (omega (arith, c.loop-act-test.true)))
    ∙ ap (λ b. b && rest)
    (ne_eqb (entries i c.args.crosses.now) 1 (λ e. c.if-entries-ne1.true (c.entries.ensures ∙ e))))

pub loop-act-preserved : goal.loop-act-preserved
loop-act-preserved c = λ left e.
    let i = c.loop-act.act in
    let rest = list_all (λ a. nat_eq (entries a c.args.crosses.now) 1) (range_with_len (i + 1) left) in
    sym (ap (λ b. b && rest)
    (eq-eqb (entries i c.args.crosses.now) 1 (sym c.entries.ensures ∙ c.if-entries-ne1.false)))
    ∙ c.loop-act.invariant (suc left) (omega (arith, e))

pub returns : goal.returns
returns c = c.loop-act.invariant 0 (omega (arith, c.loop-act-test.false))
