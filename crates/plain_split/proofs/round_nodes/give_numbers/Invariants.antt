use Rattle.std.proofs.Common.{◌≡◌, ◌++◌, [], map, drop, get_or}
use Rattle.plain_split.proofs.round_nodes.give_numbers.Given as goal

abbrev pub invariant-loop-give : goal.invariant-loop-give
invariant-loop-give l = l.wires.items ++ map (λ g. get_or (get_or (map (λ v. v.items) l.puts) g.act []) g.port 0) (drop l.give-index l.gives) ≡ map (λ g. get_or (get_or (map (λ v. v.items) l.puts) g.act []) g.port 0) l.gives
