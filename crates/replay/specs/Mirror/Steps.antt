-- Mirror of what the code works out of an event: the node that takes part, its port, the wire, and what becomes of it.
use Rattle.std.specs.Prelude.{◌≡◌, ◌<◌, Bool, true, false, nat_eq, if◌then◌else◌, ◌++◌, ◌∷◌, [], length, Option, Some, option_map}
use Rattle.net_core.specs.Runs.{State, grow, put}
use Rattle.net_core.specs.Runs as runs
use Rattle.net_core.specs.Wiring.{Circuit}
use Rattle.net_core.specs.Networks.{takes, end_at, end_node, end_port, fabric}
use Rattle.replay.specs.declared.event.Event.{Event}
use Rattle.replay.specs.declared.event.Answer.{Answer}
use Rattle.replay.specs.declared.event.Answer.TheVariants.{Done, Clash, Forbidden, WrongOutput, CannotFire, EmptyWire, NotAllowed}
use Rattle.replay.specs.declared.event.Seen.{Seen}
use Rattle.replay.specs.declared.event.Seen.TheVariants.{Gave, Passed, Fired}
use Rattle.replay.specs.declared.step.Step.{Step}
use Rattle.replay.specs.Answers.{Course, event_of, state_of, IsAnswerTo}

-- what an event of the network does
abbrev pub step_by : Circuit → runs.Event → Step
step_by c (runs.Fire n p) = record { node = n; port = p; wire = end_at c n p; fills = true }
step_by c (runs.Pass w) = record { node = end_node (takes c) c w; port = end_port (takes c) c w; wire = w; fills = false }

abbrev pub step_for : Circuit → Event → Option Step
step_for c e = option_map (step_by c) (event_of c e)

-- the state after it
abbrev pub moved : State → Step → State
moved s p = record { trace = grow s.trace p.node p.port; busy = put s.busy p.wire p.fills }

-- the node may take part
abbrev pub MayTake : Circuit → State → Step → Type 0
MayTake c s p = (fabric c).may p.node (s.trace p.node ++ p.port ∷ [])

-- the answer where the node may not take part, or may take part and the wire is not free
abbrev pub refused : Step → Answer
refused p = if nat_eq p.node 0 then NotAllowed (record { 0 = p.port }) else CannotFire p.node

abbrev pub unwanted : Step → Answer
unwanted p = if nat_eq p.node 0 then WrongOutput (record { 0 = p.port }) else Forbidden p.node p.port

-- the answer, by whether the node may take part, and whether the wire is busy
abbrev pub verdict : Step → Bool → Bool → Answer
verdict p can busy =
    if p.fills then (if can then (if busy then Clash p.wire else Done) else refused p)
    else (if busy then (if can then Done else unwanted p) else EmptyWire p.wire)

abbrev pub sight_in : Step → Seen
sight_in p = if p.fills then (if nat_eq p.node 0 then Gave (record { 0 = p.port }) p.wire else Fired p.node p.wire) else Passed p.wire

-- the event may be applied, and this step does it
pub record Judged (r : Course) (e : Event) (p : Step) : Type 0 where
  pub event : runs.Event
  pub there : event_of r.net e ≡ Some event
  pub step : p ≡ step_by r.net event
  pub done : IsAnswerTo r.net (state_of r) (Some event) Done
  pub may : MayTake r.net (state_of r) p
  pub node : p.node < length r.net.nodes
  pub wire : p.wire < r.net.wires
