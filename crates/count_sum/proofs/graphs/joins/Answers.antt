use Rattle.std.proofs.Common.{◌≡◌, List, length, map, subst, ap, ◌∙◌}
use Rattle.std.specs.Prelude.{IfOk}
use Rattle.cmd_tree.specs.declared.tree.Sym.{Sym}
use Rattle.basic_kinds.specs.Sorts.{Joins}
use Rattle.basic_kinds.specs.Sums.{Counted, Wide}
use Rattle.count_sum.specs.Mirror.Parts.{counted_of}
use Rattle.count_sum.proofs.GraphCounts.{joins_are}
use Rattle.count_sum.proofs.graphs.joins.Goals as goal

pub returns : goal.returns
returns c =
    let e = c.as_slice-2.ensures.value ∙ c.in_ok-widths.ensures ∙ ap (map (λ (b : List Sym). length b)) c.as_slice.ensures in
    subst (λ (xs : List Counted). IfOk c.wide.result (λ it. map counted_of it.items ≡ xs)) (ap (map (Wide Joins)) e ∙ joins_are c.args.graph.now) c.wide.ensures
