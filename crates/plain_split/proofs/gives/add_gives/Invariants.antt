use Rattle.std.proofs.Common.{◌≡◌, map, drop, length}
use Rattle.plain_split.specs.Mirror.RoundsGives.{with_outs}
use Rattle.plain_split.proofs.gives.add_gives.Given as goal

abbrev pub invariant-loop-port : goal.invariant-loop-port
invariant-loop-port l = record {
  sized : length l.gives ≡ length l.initial.gives;
  rest : with_outs l.act l.port (drop l.port l.outs) (map (λ v. v.items) l.gives) ≡ with_outs l.act 0 l.outs (map (λ v. v.items) l.initial.gives);
}
