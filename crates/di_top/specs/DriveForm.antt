-- The form `drive N SEED STEPS`: a schedule is drawn on a netlist, event by event up to the first that has a hazard. Done where
-- none has; then the schedule is printed.
use Rattle.std.specs.Prelude.{◌≡◌, ℕ, ◌+◌, ◌≤◌, ◌<◌, List, [], ◌++◌, length, flat_map, codes, Some, slice_index_or, ⊤}
use Rattle.cmd_tree.specs.declared.limits.TheConstants.{MAX_NETLIST_BYTES, MAX_DRIVEN_STEPS}
use Rattle.net_core.specs.Wiring.{Circuit}
use Rattle.net_text.specs.declared.refusal.NetRefusal.{NetRefusal}
use Rattle.net_text.specs.NetFault.{NetFault, IsNetlist}
use Rattle.replay.specs.declared.event.Event.{Event}
use Rattle.replay.specs.declared.event.Event.TheVariants.{Give, Pass, Fire, Unknown}
use Rattle.net_drive.specs.declared.driving.Stop.{Stop}
use Rattle.net_drive.specs.declared.driving.Stop.TheVariants as stop
use Rattle.net_drive.specs.Drawn.{IsDrawn}
use Rattle.text_lines.specs.Lines.{worded, numbered_line}
use Rattle.di_top.specs.declared.outcome.Outcome.{Outcome}
use Rattle.di_top.specs.declared.outcome.Outcome.TheVariants.{Done, Refused, ReadFault, Limit, Hazard}
use Rattle.di_top.specs.declared.outcome.Why.TheVariants.{Net}
use Rattle.di_top.specs.Say.{Wording, by_step}
use Rattle.di_top.specs.Calls.{Reading, Loaded, Unread}
use Rattle.di_top.specs.RunForm.{netlist_cap, names_of, NetNames}

-- the bytes are within the limit, and the text of this network
pub record IsNetText (bytes : List ℕ) (c : Circuit) : Type 0 where
  pub few : length bytes ≤ MAX_NETLIST_BYTES
  pub netlist : IsNetlist bytes c

-- what bytes that are no such text stop a call with
pub data NetStops (bytes : List ℕ) (outcome : Outcome) : Type 0 where
  NetTooLong : MAX_NETLIST_BYTES < length bytes → outcome ≡ Limit 7 (length bytes) → NetStops bytes outcome
  NetFaulty : (refusal : NetRefusal) → length bytes ≤ MAX_NETLIST_BYTES → NetFault bytes refusal → outcome ≡ Refused (Net refusal)
      → NetStops bytes outcome

-- the outcome of a drive of which so many events were applied
abbrev pub told_of_stop : ℕ → Stop → Outcome
told_of_stop n stop.All = Done
told_of_stop n stop.Quiet = Done
told_of_stop n (stop.Hazard what) = Hazard (n + 1) what

-- no event that was drawn has a hazard
abbrev pub IsFree : Stop → Type 0
IsFree stop.All = ⊤
IsFree stop.Quiet = ⊤
IsFree (stop.Hazard what) = ⊥

-- what is answered of a netlist, want of memory and writing apart
pub data DriveGives (r : Reading) (netlist : List ℕ) (seed steps : ℕ) (outcome : Outcome) : Type 0 where
  TooMany : MAX_DRIVEN_STEPS < steps → outcome ≡ Limit 8 steps → DriveGives r netlist seed steps outcome
  Unloaded : steps ≤ MAX_DRIVEN_STEPS → Unread r netlist → outcome ≡ ReadFault 1 → DriveGives r netlist seed steps outcome
  Unfit : (bytes : List ℕ) → steps ≤ MAX_DRIVEN_STEPS → Loaded r netlist netlist_cap bytes → NetStops bytes outcome
      → DriveGives r netlist seed steps outcome
  Driven : (bytes : List ℕ) (c : Circuit) (events : List Event) (end : Stop) → steps ≤ MAX_DRIVEN_STEPS → Loaded r netlist netlist_cap bytes
      → IsNetText bytes c → IsDrawn c seed steps events end → outcome ≡ told_of_stop (length events) end
      → DriveGives r netlist seed steps outcome

-- a hazard is told by the names of the netlist, and its number counts steps
abbrev pub DriveWording : Reading → List ℕ → Outcome → Wording → Type 0
DriveWording r netlist (Hazard step what) wording = NetNames r netlist wording.names × (wording ≡ by_step wording.names)
DriveWording r netlist outcome wording = ⊤

-- the content of the file is told, and is the text of a network on which a schedule without hazard is drawn
pub record DriveAdmits (r : Reading) (netlist : List ℕ) (seed steps : ℕ) : Type 0 where
  pub few : steps ≤ MAX_DRIVEN_STEPS
  pub bytes : List ℕ
  pub told : r.content netlist ≡ Some bytes
  pub c : Circuit
  pub text : IsNetText bytes c
  pub events : List Event
  pub end : Stop
  pub drawn : IsDrawn c seed steps events end
  pub free : IsFree end

-- ---- what is printed

-- the line of an event, where the symbols have these names; no drawn event is unknown
abbrev pub event_line : List (List ℕ) → Event → List ℕ
event_line names (Give a) = codes "give " ++ slice_index_or names a.0 [] ++ codes "\n"
event_line names (Pass wire) = numbered_line (codes "pass ") wire
event_line names (Fire component output) = worded (codes "fire ") component ++ numbered_line (codes " ") output
event_line names Unknown = []

abbrev pub schedule_text : List (List ℕ) → List Event → List ℕ
schedule_text names events = flat_map (event_line names) events

-- the text is that of the drawn schedule, in which no event has a hazard
pub record DrivePrints (r : Reading) (netlist : List ℕ) (seed steps : ℕ) (text : List ℕ) : Type 0 where
  pub few : steps ≤ MAX_DRIVEN_STEPS
  pub bytes : List ℕ
  pub c : Circuit
  pub loaded : Loaded r netlist netlist_cap bytes
  pub netlist_text : IsNetText bytes c
  pub events : List Event
  pub end : Stop
  pub drawn : IsDrawn c seed steps events end
  pub free : IsFree end
  pub is : text ≡ schedule_text (names_of c) events
