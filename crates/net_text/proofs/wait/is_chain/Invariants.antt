use Rattle.std.proofs.Common.{◌≡◌, drop}
use Rattle.net_text.specs.Mirror.Crossings.{is_chain}
use Rattle.net_text.proofs.wait.is_chain.Given as goal

-- the rest is still to be compared
abbrev pub invariant-loop-crossing : goal.invariant-loop-crossing
invariant-loop-crossing l = is_chain l.last (drop l.crossing-index l.others) ≡ is_chain l.fn.first l.others
