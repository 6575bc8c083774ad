use Rattle.std.proofs.Common.{◌≡◌, ◌+◌, ◌<◌, ◌^◌, List, length, map, subst, sym, ap, ◌∙◌}
use Rattle.std.specs.Prelude.{IfOk}
use Rattle.std.specs.List.{AllByRecursion}
use Rattle.basic_kinds.specs.Sorts.{Forks}
use Rattle.basic_kinds.specs.Sums.{Counted, Wide}
use Rattle.place_graph.specs.declared.wait_graph.Act.{Act}
use Rattle.place_graph.specs.Sums.{exits}
use Rattle.count_sum.specs.Mirror.Parts.{counted_of}
use Rattle.count_sum.proofs.GraphCounts.{map_twice}
use Rattle.count_sum.proofs.graphs.moves.Goals as goal

pub move_widths-requires : goal.move_widths-requires
move_widths-requires c = subst (λ (ys : List Act). AllByRecursion (λ (y : Act). length y.outs < 2 ^ 32) ys) (sym c.as_slice.ensures) c.requires.few_outs

pub returns : goal.returns
returns c =
    let e = c.as_slice-2.ensures.value ∙ c.in_ok-widths.ensures ∙ ap (map (λ (y : Act). length y.outs + exits y.exit)) c.as_slice.ensures in
    subst (λ (xs : List Counted). IfOk c.wide.result (λ it. map counted_of it.items ≡ xs))
    (ap (map (Wide Forks)) e ∙ map_twice (Wide Forks) (λ (y : Act). length y.outs + exits y.exit) c.args.graph.now.acts) c.wide.ensures
