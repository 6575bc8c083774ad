use Rattle.std.proofs.Common.{◌≡◌, ◌++◌, map}
use Rattle.std.specs.List.{range_with_len}
use Rattle.net_laws.specs.ForksNets.{fork_part}
use Rattle.net_laws.proofs.side_by_side.add_forks.Given as goal

abbrev pub invariant-loop-input : goal.invariant-loop-input
invariant-loop-input l =
    l.builder ≡ record l.initial.builder { parts = l.initial.builder.parts ++ map (fork_part l.many l.outputs) (range_with_len 0 l.input) }
