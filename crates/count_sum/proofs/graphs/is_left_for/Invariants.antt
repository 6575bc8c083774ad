use Rattle.std.proofs.Common.{◌≡◌, drop}
use Rattle.std.specs.List.{list_any}
use Rattle.place_graph.specs.Style.{is_exit}
use Rattle.count_sum.proofs.graphs.is_left_for.Given as goal

abbrev pub invariant-loop-act : goal.invariant-loop-act
invariant-loop-act l = list_any (λ y. is_exit l.wait y.exit) (drop l.act-index l.acts) ≡ list_any (λ y. is_exit l.wait y.exit) l.acts
