use Rattle.std.proofs.Common.{◌≡◌, ◌++◌, map, drop}
use Rattle.token_split.specs.TokenChart as web
use Rattle.token_split.specs.Mirror.TokenTables.{wire_of}
use Rattle.token_split.proofs.named.puts_to.Given as goal

abbrev pub invariant-loop-act : goal.invariant-loop-act
invariant-loop-act l = map wire_of l.wires.items ++ map (λ n. web.Put n l.symbol) (drop l.act-index l.acts) ≡ map (λ n. web.Put n l.symbol) l.acts
