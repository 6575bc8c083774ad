-- What gathers several inputs, as a kind of a width.
use Rattle.std.specs.Prelude.{ℕ}
use Rattle.basic_kinds.specs.declared.kind.Kind.{Kind}
use Rattle.basic_kinds.specs.declared.kind.Kind.TheVariants.{C, Merge}
use Rattle.fan_trees.specs.declared.gather.Takes.{Takes}
use Rattle.fan_trees.specs.declared.gather.Takes.TheVariants.{All, Any}

abbrev pub kind_of : Takes → ℕ → Kind
kind_of All n = C n
kind_of Any n = Merge n
