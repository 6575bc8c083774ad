-- What a network answers to the events of a schedule, one after the other.
use Rattle.std.specs.Prelude.{◌≡◌, ◌≢◌, ℕ, ◌+◌, ◌-◌, ◌&&◌, nat_eq, nat_lt, nat_le, if◌then◌else◌, List, [], ◌∷◌, map, take, Option, Some, None, option_map, slice_get}
use Rattle.cmd_tree.specs.declared.tree.Sym.{Sym}
use Rattle.cmd_tree.specs.declared.command.Command.{Command}
use Rattle.basic_kinds.specs.Kinds.{inputs_of, outputs_of}
use Rattle.di_grammar.specs.Admitted.{Admitted}
use Rattle.net_core.specs.declared.spec.NodeSpec.{NodeSpec}
use Rattle.net_core.specs.declared.spec.NodeSpec.TheVariants.{Kind, Cmd}
use Rattle.net_core.specs.Runs.{State, start, after, Enabled, Fits}
use Rattle.net_core.specs.Runs as runs
use Rattle.net_core.specs.Wiring.{Node, Circuit, IsClosed}
use Rattle.net_core.specs.Networks.{gives, takes, end_at, end_node, end_port, fabric, IsBasic, IsSpecified}
use Rattle.replay.specs.declared.event.Event.{Event}
use Rattle.replay.specs.declared.event.Event.TheVariants.{Give, Pass, Fire, Unknown}
use Rattle.replay.specs.declared.event.Answer.{Answer}
use Rattle.replay.specs.declared.event.Answer.TheVariants.{Done, Clash, Forbidden, WrongOutput, CannotFire, EmptyWire, NotAllowed, NoSuch, NoMemory}

-- a closed network of components in the environment of an admitted command
pub record IsPlayable (c : Circuit) : Type 0 where
  pub closed : IsClosed c
  pub basic : IsBasic c
  pub command : Command
  pub specified : IsSpecified c (Cmd command)
  pub admitted : Admitted command.procs

-- ---- the events of the network

-- the port of the k-th output, counted from 1
abbrev pub output_of : NodeSpec → ℕ → Option ℕ
output_of (Kind kind) k = if nat_lt 0 k && nat_le k (outputs_of kind) then Some (inputs_of kind + k - 1) else None
output_of (Cmd command) k = None

abbrev pub output_in : Option Node → ℕ → Option ℕ
output_in None k = None
output_in (Some x) k = output_of x.spec k

-- the same of the component n; the environment, node 0, is none
abbrev pub output_at : Circuit → ℕ → ℕ → Option ℕ
output_at c n k = if nat_eq n 0 then None else output_in (slice_get c.nodes n) k

-- The event of the network that an event of a schedule names, if there is one. A give is a fire of the environment.
abbrev pub event_of : Circuit → Event → Option runs.Event
event_of c (Give a) = if gives c 0 a.0 then Some (runs.Fire 0 a.0) else None
event_of c (Pass w) = if nat_lt w c.wires then Some (runs.Pass w) else None
event_of c (Fire n k) = option_map (runs.Fire n) (output_at c n k)
event_of c Unknown = None

-- ---- the answers

-- to a fire of node n by its output port p
abbrev pub IsFireAnswer : Circuit → State → ℕ → ℕ → Answer → Type 0
IsFireAnswer c s n p Done = Enabled (fabric c) s (runs.Fire n p) × Fits (fabric c) s (runs.Fire n p)
IsFireAnswer c s n p (NotAllowed a) = (n ≡ 0) × (a.0 ≡ p) × (Enabled (fabric c) s (runs.Fire n p) → ⊥)
IsFireAnswer c s n p (CannotFire m) = (n ≢ 0) × (m ≡ n) × (Enabled (fabric c) s (runs.Fire n p) → ⊥)
IsFireAnswer c s n p (Clash w) =
    (w ≡ end_at c n p) × Enabled (fabric c) s (runs.Fire n p) × (Fits (fabric c) s (runs.Fire n p) → ⊥)
IsFireAnswer c s n p (EmptyWire w) = ⊥
IsFireAnswer c s n p (Forbidden m q) = ⊥
IsFireAnswer c s n p (WrongOutput a) = ⊥
IsFireAnswer c s n p NoSuch = ⊥
IsFireAnswer c s n p NoMemory = ⊥

-- to a pass of the wire w
abbrev pub IsPassAnswer : Circuit → State → ℕ → Answer → Type 0
IsPassAnswer c s w Done = Enabled (fabric c) s (runs.Pass w) × Fits (fabric c) s (runs.Pass w)
IsPassAnswer c s w (EmptyWire v) = (v ≡ w) × (Enabled (fabric c) s (runs.Pass w) → ⊥)
IsPassAnswer c s w (Forbidden n p) = (end_node (takes c) c w ≡ n) × (end_port (takes c) c w ≡ p) × (n ≢ 0)
    × Enabled (fabric c) s (runs.Pass w) × (Fits (fabric c) s (runs.Pass w) → ⊥)
IsPassAnswer c s w (WrongOutput a) = (end_node (takes c) c w ≡ 0) × (end_port (takes c) c w ≡ a.0)
    × Enabled (fabric c) s (runs.Pass w) × (Fits (fabric c) s (runs.Pass w) → ⊥)
IsPassAnswer c s w (NotAllowed a) = ⊥
IsPassAnswer c s w (CannotFire n) = ⊥
IsPassAnswer c s w (Clash v) = ⊥
IsPassAnswer c s w NoSuch = ⊥
IsPassAnswer c s w NoMemory = ⊥

-- to an event of the network; where there is none, NoSuch
abbrev pub IsAnswerTo : Circuit → State → Option runs.Event → Answer → Type 0
IsAnswerTo c s None a = a ≡ NoSuch
IsAnswerTo c s (Some (runs.Fire n p)) a = IsFireAnswer c s n p a
IsAnswerTo c s (Some (runs.Pass w)) a = IsPassAnswer c s w a

-- the answer to an event of a schedule in a state
abbrev pub IsAnswer : Circuit → State → Event → Answer → Type 0
IsAnswer c s e a = IsAnswerTo c s (event_of c e) a

-- ---- the enabled events

-- the event may happen, whether or not it has a hazard
abbrev pub MayHappen : Circuit → State → Option runs.Event → Type 0
MayHappen c s None = ⊥
MayHappen c s (Some e) = Enabled (fabric c) s e

-- the event of a schedule is one of the network, and may happen in the state
abbrev pub IsEnabled : Circuit → State → Event → Type 0
IsEnabled c s e = MayHappen c s (event_of c e)

-- ---- the states

abbrev pub left_by : Circuit → State → Option runs.Event → State
left_by c s None = s
left_by c s (Some e) = after (fabric c) s e

-- the state that these events leave
abbrev pub state_after : Circuit → State → List Event → State
state_after c s [] = s
state_after c s (e ∷ es) = state_after c (left_by c s (event_of c e)) es

-- Each event has the answer Done in the state that those before it leave.
abbrev pub AreDone : Circuit → State → List Event → Type 0
AreDone c s [] = Unit {0}
AreDone c s (e ∷ es) = IsAnswer c s e Done × AreDone c (left_by c s (event_of c e)) es

-- these are the events that the schedule names
abbrev pub AreNamed : Circuit → List Event → List runs.Event → Type 0
AreNamed c es evs = map Some evs ≡ map (event_of c) es

-- the next event, if there is one, has another answer than Done
abbrev pub IsStop : Circuit → State → Option Event → Option Answer → Type 0
IsStop c s None None = Unit {0}
IsStop c s None (Some a) = ⊥
IsStop c s (Some e) None = ⊥
IsStop c s (Some e) (Some a) = IsAnswer c s e a × (a ≢ Done)

-- From the start of the network the first n events are Done, one after the other, and the next one, if there is one, is not.
pub record IsReplayed (c : Circuit) (es : List Event) (n : ℕ) (last : Option Answer) : Type 0 where
  pub done : AreDone c start (take n es)
  pub stop : IsStop c (state_after c start (take n es)) (slice_get es n) last

-- a trace as the numbers of its symbols
abbrev pub symbols : List Sym → List ℕ
symbols trace = map (λ a. a.0) trace

-- a network, the events that were applied from its start on, and how many more there is room for
pub record Course : Type 0 where
  pub net : Circuit
  pub events : List Event
  pub room : ℕ

-- the state of the network after the applied events
abbrev pub state_of : Course → State
state_of r = state_after r.net start r.events
