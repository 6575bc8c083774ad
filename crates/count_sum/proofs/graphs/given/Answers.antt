use Rattle.std.proofs.Common.{ℕ, List, ◌++◌, sym, ap, ◌∙◌}
use Rattle.std.specs.List.{range_with_len}
use Rattle.cmd_tree.specs.declared.tree.Sym.{Sym}
use Rattle.place_graph.specs.GraphTraces.{numbers_of}
use Rattle.count_sum.specs.Mirror.Lists.{joined, kept_outs}
use Rattle.count_sum.proofs.ListSteps.{joined_more}
use Rattle.count_sum.proofs.graphs.given.Goals as goal

pub loop-act-preserved : goal.loop-act-preserved
loop-act-preserved c =
    let f = λ (n : ℕ). numbers_of (kept_outs c.args.kept.now c.args.acts.now n) in
    c.in_ok-push_numbers.ensures ∙ ap (λ xs. xs ++ numbers_of c.kept_outs.result.now) c.loop-act.invariant
    ∙ ap (λ (ys : List Sym). joined f (range_with_len 0 c.loop-act.act) ++ numbers_of ys) c.kept_outs.ensures ∙ sym (joined_more f c.loop-act.act)
