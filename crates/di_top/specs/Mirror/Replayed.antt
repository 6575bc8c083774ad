-- Mirror of what the code finds in a replay.
use Rattle.std.specs.Prelude.{◌≡◌, ℕ, List, length, take, Some}
use Rattle.cmd_tree.specs.declared.tree.Sym.{Sym}
use Rattle.net_core.specs.Runs.{start}
use Rattle.net_core.specs.Wiring.{Circuit}
use Rattle.replay.specs.declared.event.Event.{Event}
use Rattle.replay.specs.declared.event.Answer.{Answer}
use Rattle.replay.specs.Answers.{AreDone, IsReplayed, state_after, symbols}
use Rattle.replay.specs.Probes.{View}
use Rattle.di_top.specs.declared.outcome.Outcome.{Outcome}
use Rattle.di_top.specs.declared.outcome.Stop.{Stop}
use Rattle.di_top.specs.declared.outcome.Numbered.TheVariants.{Lines}
use Rattle.di_top.specs.RunForm.{told_of_last, names_of, outs_in, watched, run_text}

-- the first i events are applied, and the probes have seen them
pub record IsUnderWay (c : Circuit) (events : List Event) (i : ℕ) (applied : List Event) (kept now : List View) : Type 0 where
  pub are : applied ≡ take i events
  pub done : AreDone c start (take i events)
  pub watched_by : now ≡ watched c (take i events) kept

-- this is the outcome of an event that is not applied
pub record EndsReplay (c : Circuit) (events : List Event) (outcome : Outcome) : Type 0 where
  pub applied : ℕ
  pub answer : Answer
  pub replayed : IsReplayed c events applied (Some answer)
  pub told : outcome ≡ told_of_last applied (Some answer)

-- the same, its number counts lines, and the network is handed back
pub record IsHalted (c : Circuit) (events : List Event) (stop : Stop) : Type 0 where
  pub ends : EndsReplay c events stop.outcome
  pub by_lines : stop.numbered ≡ Lines
  pub kept : stop.net ≡ Some c

-- all events are applied, the text is of them, and the probes have seen them
pub record IsRan (c : Circuit) (events : List Event) (kept : List View) (text : List ℕ) (back : List View) : Type 0 where
  pub done : AreDone c start events
  pub seen : List Sym
  pub shown : symbols seen ≡ (state_after c start events).trace 0
  pub is : text ≡ run_text (names_of c) (outs_in c) (length events) seen back
  pub watched_by : back ≡ watched c events kept
