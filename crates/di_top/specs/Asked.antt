-- The words as the program reads them.
use Rattle.std.specs.Prelude.{ℕ, Bool, true, List, [], ◌∷◌, Option, Some, None, is_some}
use Rattle.replay.specs.Probes.{View}
use Rattle.di_top.specs.declared.words.Task.{Task}
use Rattle.di_top.specs.declared.words.Task.TheVariants.{Compile as TaskCompile, Check as TaskCheck, Count as TaskCount, Rules as TaskRules, Run as TaskRun, Drive as TaskDrive}
use Rattle.di_top.specs.Requests.{Request, Compile, Check, Count, Rules, Run, Drive, first_of, run_by}

-- what a task is, where these probes are kept
abbrev pub meant : List View → Task → Request
meant kept (TaskCompile basis file) = Compile basis file.now
meant kept (TaskCheck file) = Check file.now
meant kept (TaskCount basis file) = Count basis file.now
meant kept (TaskRules file) = Rules file.now
meant kept (TaskRun netlist schedule wanted) = Run netlist.now schedule.now kept
meant kept (TaskDrive netlist seed steps) = Drive netlist.now seed steps

-- what a task asks for, where these probes are handed in
abbrev pub run_for : List ℕ → List ℕ → Option ℕ → List View → Option Request
run_for netlist schedule None vs = Some (Run netlist schedule [])
run_for netlist schedule (Some rule) vs = run_by netlist schedule (first_of rule vs)

abbrev pub task_for : Task → List View → Option Request
task_for (TaskCompile basis file) vs = Some (Compile basis file.now)
task_for (TaskCheck file) vs = Some (Check file.now)
task_for (TaskCount basis file) vs = Some (Count basis file.now)
task_for (TaskRules file) vs = Some (Rules file.now)
task_for (TaskRun netlist schedule wanted) vs = run_for netlist.now schedule.now wanted vs
task_for (TaskDrive netlist seed steps) vs = Some (Drive netlist.now seed steps)

abbrev pub asked_by : Option Task → List View → Option Request
asked_by None vs = None
asked_by (Some task) vs = task_for task vs

-- the rule of the probe that a task wants
abbrev pub wanted_by : Task → Option ℕ
wanted_by (TaskCompile basis file) = None
wanted_by (TaskCheck file) = None
wanted_by (TaskCount basis file) = None
wanted_by (TaskRules file) = None
wanted_by (TaskRun netlist schedule wanted) = wanted
wanted_by (TaskDrive netlist seed steps) = None

-- ---- the probes that are kept

abbrev pub alone : Option View → List View
alone None = []
alone (Some v) = v ∷ []

-- the first with the rule that is wanted, if one is
abbrev pub kept_by : Option ℕ → List View → List View
kept_by None vs = []
kept_by (Some rule) vs = alone (first_of rule vs)

-- no probe that is wanted is missing
abbrev pub is_found : Option ℕ → List View → Bool
is_found None vs = true
is_found (Some rule) vs = is_some (first_of rule vs)
