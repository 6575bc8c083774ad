use Rattle.std.proofs.Common.{◌≡◌, false, take}
use Rattle.std.specs.List.{list_any}
use Rattle.place_graph.specs.Style.{is_exit}
use Rattle.place_graph.proofs.styles.is_left_for.Given as goal

abbrev pub invariant-loop-act : goal.invariant-loop-act
invariant-loop-act l = list_any (λ y. is_exit l.wait y.exit) (take l.act-index l.acts) ≡ false
