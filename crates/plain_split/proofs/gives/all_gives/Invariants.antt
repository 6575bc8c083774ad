use Rattle.std.proofs.Common.{◌≡◌, [], map, drop, length, replicate}
use Rattle.plain_split.specs.Mirror.RoundsGives.{with_acts}
use Rattle.plain_split.proofs.gives.all_gives.Given as goal

abbrev pub invariant-loop-act : goal.invariant-loop-act
invariant-loop-act l = record {
  sized : length l.gives.items ≡ l.names;
  rest : with_acts l.act (map (λ v. v.items) (drop l.act l.acts)) (map (λ v. v.items) l.gives.items) ≡ with_acts 0 (map (λ v. v.items) l.acts) (replicate l.names []);
}
