-- The form `run N S`, and `run N S P` with a probe: a schedule is replayed on a netlist, event by event up to the first that
-- may not happen or has a hazard. Done where each event happened; then what was seen is printed.
use Rattle.std.specs.Prelude.{◌≡◌, ℕ, suc, ◌+◌, ◌≤◌, ◌<◌, Bool, false, nat_eq, if◌then◌else◌, List, [], ◌∷◌, ◌++◌, length, flat_map, codes, slice_get, slice_index_or, Option, Some, None, ⊤}
use Rattle.cmd_tree.specs.declared.tree.Sym.{Sym}
use Rattle.cmd_tree.specs.declared.limits.TheConstants.{MAX_NETLIST_BYTES}
use Rattle.net_core.specs.declared.spec.NodeSpec.{NodeSpec}
use Rattle.net_core.specs.declared.spec.NodeSpec.TheVariants.{Kind, Cmd}
use Rattle.net_core.specs.Specs.{outs_of}
use Rattle.net_core.specs.Runs.{start}
use Rattle.net_core.specs.Networks.{spec_of}
use Rattle.net_core.specs.Wiring.{Circuit}
use Rattle.net_text.specs.declared.refusal.NetRefusal.{NetRefusal}
use Rattle.net_text.specs.declared.refusal.NetRefusal.TheVariants as net
use Rattle.net_text.specs.NetFault.{NetFault, IsNetlist}
use Rattle.net_text.specs.NetText.{mark_sign}
use Rattle.replay.specs.declared.event.Event.{Event}
use Rattle.replay.specs.declared.event.Answer.{Answer}
use Rattle.replay.specs.declared.event.Answer.TheVariants as answer
use Rattle.replay.specs.declared.schedule.ScheduleRefusal.{ScheduleRefusal}
use Rattle.replay.specs.declared.schedule.ScheduleRefusal.TheVariants as schedule
use Rattle.replay.specs.Answers.{AreDone, IsReplayed, state_after, symbols}
use Rattle.replay.specs.Probes.{View, number, seen_of, all_stepped}
use Rattle.replay.specs.ScheduleText.{IsSchedule, IsFaultyLine}
use Rattle.text_lines.specs.Lines.{numbered_line}
use Rattle.di_top.specs.declared.outcome.Outcome.{Outcome}
use Rattle.di_top.specs.declared.outcome.Outcome.TheVariants.{Done, Refused, ReadFault, NoMemory, Limit, Hazard, NotRun}
use Rattle.di_top.specs.declared.outcome.Why.TheVariants.{Net, Schedule}
use Rattle.di_top.specs.Say.{Wording, by_line}
use Rattle.di_top.specs.Calls.{Reading, Loaded, Unread}

-- ---- the two files

-- a netlist or a schedule is loaded with one byte more, so that a longer one is seen to be longer
abbrev pub netlist_cap : ℕ
netlist_cap = suc MAX_NETLIST_BYTES

-- the bytes were loaded of the two files
pub record AreLoaded (r : Reading) (netlist schedule bytes more : List ℕ) : Type 0 where
  pub first : Loaded r netlist netlist_cap bytes
  pub second : Loaded r schedule netlist_cap more

-- one of the two files was not read
pub data IsUnread (r : Reading) (netlist schedule : List ℕ) (outcome : Outcome) : Type 0 where
  First : Unread r netlist → outcome ≡ ReadFault 1 → IsUnread r netlist schedule outcome
  Second : Unread r schedule → outcome ≡ ReadFault 2 → IsUnread r netlist schedule outcome

-- the outcome of each refusal
abbrev pub told_of_net : NetRefusal → Outcome
told_of_net (net.BadLine line) = Refused (Net (net.BadLine line))
told_of_net (net.SpecRefused rule) = Refused (Net (net.SpecRefused rule))
told_of_net (net.TooManyComponents line) = Refused (Net (net.TooManyComponents line))
told_of_net (net.Truncated line) = Refused (Net (net.Truncated line))
told_of_net (net.OpenPort wire) = Refused (Net (net.OpenPort wire))
told_of_net net.NoMemory = NoMemory

abbrev pub told_of_schedule : ScheduleRefusal → Outcome
told_of_schedule (schedule.BadLine line) = Refused (Schedule (schedule.BadLine line))
told_of_schedule schedule.NoMemory = NoMemory

-- the names of the environment's symbols, and which of them are outputs
abbrev pub names_of_spec : Option NodeSpec → List (List ℕ)
names_of_spec None = []
names_of_spec (Some (Kind kind)) = []
names_of_spec (Some (Cmd command)) = command.names

abbrev pub outs_of_spec : Option NodeSpec → List Bool
outs_of_spec None = []
outs_of_spec (Some x) = outs_of x

abbrev pub names_of : Circuit → List (List ℕ)
names_of c = names_of_spec (spec_of (slice_get c.nodes 0))

abbrev pub outs_in : Circuit → List Bool
outs_in c = outs_of_spec (spec_of (slice_get c.nodes 0))

-- the bytes are the text of this network, and those of the second file the text of these events in it
pub record AreTexts (bytes more : List ℕ) (c : Circuit) (events : List Event) : Type 0 where
  pub few : length bytes ≤ MAX_NETLIST_BYTES
  pub few_more : length more ≤ MAX_NETLIST_BYTES
  pub netlist : IsNetlist bytes c
  pub schedule : IsSchedule (names_of c) events more

-- what bytes that are no such texts stop a call with
pub data TextsStop (bytes more : List ℕ) (outcome : Outcome) : Type 0 where
  TooLong : MAX_NETLIST_BYTES < length bytes → outcome ≡ Limit 7 (length bytes) → TextsStop bytes more outcome
  MoreTooLong : length bytes ≤ MAX_NETLIST_BYTES → MAX_NETLIST_BYTES < length more → outcome ≡ Limit 7 (length more)
      → TextsStop bytes more outcome
  NoNet : (refusal : NetRefusal) → length bytes ≤ MAX_NETLIST_BYTES → length more ≤ MAX_NETLIST_BYTES → NetFault bytes refusal
      → outcome ≡ Refused (Net refusal) → TextsStop bytes more outcome
  NoSchedule : (c : Circuit) (line : ℕ) → length bytes ≤ MAX_NETLIST_BYTES → length more ≤ MAX_NETLIST_BYTES → IsNetlist bytes c
      → IsFaultyLine (names_of c) more line → outcome ≡ Refused (Schedule (schedule.BadLine line)) → TextsStop bytes more outcome

-- ---- the replay

-- the outcome of an answer to the event in this line
abbrev pub told_of_answer : ℕ → Answer → Outcome
told_of_answer line answer.Done = Done
told_of_answer line (answer.Clash wire) = Hazard line (answer.Clash wire)
told_of_answer line (answer.Forbidden component port) = Hazard line (answer.Forbidden component port)
told_of_answer line (answer.WrongOutput a) = Hazard line (answer.WrongOutput a)
told_of_answer line (answer.CannotFire component) = NotRun line (answer.CannotFire component)
told_of_answer line (answer.EmptyWire wire) = NotRun line (answer.EmptyWire wire)
told_of_answer line (answer.NotAllowed a) = NotRun line (answer.NotAllowed a)
told_of_answer line answer.NoSuch = NotRun line answer.NoSuch
told_of_answer line answer.NoMemory = NoMemory

-- the outcome of a replay of which the first n events were applied, and the next had this answer, if there was one
abbrev pub told_of_last : ℕ → Option Answer → Outcome
told_of_last n None = Done
told_of_last n (Some answer) = told_of_answer (n + 1) answer

-- probes that have seen these events
abbrev pub watched : Circuit → List Event → List View → List View
watched c [] vs = vs
watched c (e ∷ es) vs = watched c es (all_stepped (seen_of c e) vs)

-- ---- what is answered

-- what is answered of the two files, want of memory and writing apart
pub data RunGives (r : Reading) (netlist schedule : List ℕ) (outcome : Outcome) : Type 0 where
  Unloaded : IsUnread r netlist schedule outcome → RunGives r netlist schedule outcome
  Unfit : (bytes more : List ℕ) → AreLoaded r netlist schedule bytes more → TextsStop bytes more outcome → RunGives r netlist schedule outcome
  Played : (bytes more : List ℕ) (c : Circuit) (events : List Event) (n : ℕ) (last : Option Answer) → AreLoaded r netlist schedule bytes more
      → AreTexts bytes more c events → IsReplayed c events n last → outcome ≡ told_of_last n last → RunGives r netlist schedule outcome

-- these are the names of the symbols in the netlist
pub record NetNames (r : Reading) (netlist : List ℕ) (names : List (List ℕ)) : Type 0 where
  pub bytes : List ℕ
  pub loaded : Loaded r netlist netlist_cap bytes
  pub c : Circuit
  pub is_netlist : IsNetlist bytes c
  pub are : names ≡ names_of c

-- the outcome of an event has the names of the netlist, and its number counts lines
abbrev pub RunWording : Reading → List ℕ → Outcome → Wording → Type 0
RunWording r netlist (Hazard line what) wording = NetNames r netlist wording.names × (wording ≡ by_line wording.names)
RunWording r netlist (NotRun line what) wording = NetNames r netlist wording.names × (wording ≡ by_line wording.names)
RunWording r netlist outcome wording = ⊤

-- the contents of the two files are told, and are the texts of a network and of a schedule that is a run of it
pub record RunAdmits (r : Reading) (netlist schedule : List ℕ) : Type 0 where
  pub bytes : List ℕ
  pub more : List ℕ
  pub told : r.content netlist ≡ Some bytes
  pub more_told : r.content schedule ≡ Some more
  pub c : Circuit
  pub events : List Event
  pub texts : AreTexts bytes more c events
  pub run : AreDone c start events

-- ---- what is printed

-- a blank, the name of a symbol, and its mark
abbrev pub seen_text : List (List ℕ) → List Bool → Sym → List ℕ
seen_text names outs a = 32 ∷ (slice_index_or names a.0 [] ++ mark_sign (slice_index_or outs a.0 false))

abbrev pub count_text : List ℕ → List ℕ
count_text ns =
    numbered_line (codes "gives ") (number ns 0) ++ numbered_line (codes "passes ") (number ns 1) ++ numbered_line (codes "fires ") (number ns 2)

abbrev pub peak_text : List ℕ → List ℕ
peak_text ns = numbered_line (codes "busy ") (number ns 0) ++ numbered_line (codes "peak ") (number ns 1)

-- the numbers of a probe by their names, which its rule gives them
abbrev pub view_text : View → List ℕ
view_text v = if nat_eq v.rule 1 then count_text v.numbers else if nat_eq v.rule 2 then peak_text v.numbers else []

-- of the kept probe, if there is one
abbrev pub kept_text : List View → List ℕ
kept_text [] = []
kept_text (v ∷ vs) = view_text v

-- how many events there were, and which symbols were seen
abbrev pub seen_lines : List (List ℕ) → List Bool → ℕ → List Sym → List ℕ
seen_lines names outs count seen =
    numbered_line (codes "events ") count ++ codes "seen" ++ flat_map (seen_text names outs) seen ++ codes "\n"

-- the same, and the numbers of the kept probe
abbrev pub run_text : List (List ℕ) → List Bool → ℕ → List Sym → List View → List ℕ
run_text names outs count seen kept = seen_lines names outs count seen ++ kept_text kept

-- The text is that of the whole schedule, a run, and of the kept probes as they are handed back: they have seen it.
pub record RunHands (r : Reading) (netlist schedule : List ℕ) (kept : List View) (text : List ℕ) (back : List View) : Type 0 where
  pub bytes : List ℕ
  pub more : List ℕ
  pub c : Circuit
  pub events : List Event
  pub loaded : AreLoaded r netlist schedule bytes more
  pub texts : AreTexts bytes more c events
  pub run : AreDone c start events
  pub seen : List Sym
  pub shown : symbols seen ≡ (state_after c start events).trace 0
  pub is : text ≡ run_text (names_of c) (outs_in c) (length events) seen back
  pub watched_by : back ≡ watched c events kept

abbrev pub RunPrints : Reading → List ℕ → List ℕ → List View → List ℕ → Type 0
RunPrints r netlist schedule kept text = (back : List View) × RunHands r netlist schedule kept text back
