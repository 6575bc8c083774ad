use Rattle.std.proofs.Common.{◌≡◌, ◌++◌, length, drop}
use Rattle.net_drive.specs.Drawn.{fires_from}
use Rattle.net_drive.specs.Mirror.Plans.{starts_from}
use Rattle.net_drive.proofs.plan.push_fires.Given as goal

-- those of the components from this one on are left
abbrev pub invariant-loop-component : goal.invariant-loop-component
invariant-loop-component l = record {
  events : l.events.items ++ fires_from l.component (drop l.component l.net.nodes) ≡ l.fn.events.items ++ fires_from 1 (drop 1 l.net.nodes);
  starts : l.starts.items ++ starts_from (length l.events.items) (drop l.component l.net.nodes) ≡ starts_from (length l.fn.events.items) (drop 1 l.net.nodes);
}
