use Rattle.std.proofs.Common.{◌≡◌, drop}
use Rattle.std.specs.List.{list_all}
use Rattle.count_sum.specs.Narrow.{is_narrow}
use Rattle.count_sum.specs.Mirror.Parts.{counted_of}
use Rattle.count_sum.proofs.narrow.are_narrow.Given as goal

abbrev pub invariant-loop-part : goal.invariant-loop-part
invariant-loop-part l = list_all (λ p. is_narrow (counted_of p)) (drop l.part-index l.parts) ≡ list_all (λ p. is_narrow (counted_of p)) l.parts
