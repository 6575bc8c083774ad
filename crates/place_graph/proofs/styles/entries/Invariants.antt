use Rattle.std.proofs.Common.{◌≡◌, take}
use Rattle.place_graph.specs.Style.{entries}
use Rattle.place_graph.proofs.styles.entries.Given as goal

abbrev pub invariant-loop-cross : goal.invariant-loop-cross
invariant-loop-cross l = l.count ≡ entries l.act (take l.cross-index l.crosses)
