use Rattle.std.proofs.Common.{◌≡◌, ℕ, List, map, take, drop}
use Rattle.cmd_rename.specs.Table.{IsListed}
use Rattle.cmd_expand.specs.Pairs.{renamed, first_fault, first_fault_from}
use Rattle.cmd_expand.specs.Mirror.Tables.{Tallies, old_names}
use Rattle.cmd_expand.proofs.faults.check_pairs.Given as goal

abbrev pub invariant-loop-pair : goal.invariant-loop-pair
invariant-loop-pair l = record {
  earlier : IsListed l.earlier (old_names (take l.pair-index l.pairs));
  whole : (xs : List ℕ) → IsListed l.symbols xs → Tallies l.owners (map (renamed l.pairs) xs) →
      first_fault xs l.pairs ≡ first_fault_from xs l.pairs (old_names (take l.pair-index l.pairs)) (drop l.pair-index l.pairs);
}
