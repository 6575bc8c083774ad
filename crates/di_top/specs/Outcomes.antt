-- What each form of words answers, prints, hands back and admits: a case for each form.
use Rattle.std.specs.Prelude.{◌≡◌, ◌⊎◌, ℕ, List, [], Option, Some, None, ⊤}
use Rattle.replay.specs.Probes.{View}
use Rattle.di_top.specs.declared.outcome.Outcome.{Outcome}
use Rattle.di_top.specs.declared.outcome.Outcome.TheVariants.{Usage, NoMemory}
use Rattle.di_top.specs.Requests.{Request, Compile, Check, Count, Rules, Run, Drive}
use Rattle.di_top.specs.Calls.{Reading}
use Rattle.di_top.specs.Say.{Wording}
use Rattle.di_top.specs.CompileForm.{CompileGives, CompilePrints, CompileAdmits}
use Rattle.di_top.specs.CheckForm.{CheckGives, CheckPrints, CheckAdmits}
use Rattle.di_top.specs.CountForm.{CountPrints}
use Rattle.di_top.specs.RulesForm.{RulesGives, RulesPrints, RulesAdmits}
use Rattle.di_top.specs.DriveForm.{DriveGives, DriveWording, DrivePrints, DriveAdmits}
use Rattle.di_top.specs.RunForm.{RunGives, RunWording, RunPrints, RunHands, RunAdmits}

-- the outcomes that the order of a form allows, want of memory and writing apart
abbrev pub FormGives : Option Request → Reading → Outcome → Type 0
FormGives None r outcome = outcome ≡ Usage
FormGives (Some (Compile basis file)) r outcome = CompileGives basis r file outcome
FormGives (Some (Check file)) r outcome = CheckGives r file outcome
FormGives (Some (Count basis file)) r outcome = CheckGives r file outcome
FormGives (Some (Rules file)) r outcome = RulesGives r file outcome
FormGives (Some (Run netlist schedule kept)) r outcome = RunGives r netlist schedule outcome
FormGives (Some (Drive netlist seed steps)) r outcome = DriveGives r netlist seed steps outcome

-- want of memory may be answered of any
abbrev pub Gives : Option Request → Reading → Outcome → Type 0
Gives request r outcome = (outcome ≡ NoMemory) ⊎ FormGives request r outcome

-- what is printed where the form is done
abbrev pub Prints : Option Request → Reading → List ℕ → Type 0
Prints None r text = ⊥
Prints (Some (Compile basis file)) r text = CompilePrints basis r file text
Prints (Some (Check file)) r text = CheckPrints r file text
Prints (Some (Count basis file)) r text = CountPrints basis r file text
Prints (Some (Rules file)) r text = RulesPrints r file text
Prints (Some (Run netlist schedule kept)) r text = RunPrints r netlist schedule kept text
Prints (Some (Drive netlist seed steps)) r text = DrivePrints r netlist seed steps text

-- the probes that are handed back where the form is done and this is printed: that of a run, which has seen it
abbrev pub HandsBack : Option Request → Reading → List ℕ → List View → Type 0
HandsBack None r text back = back ≡ []
HandsBack (Some (Compile basis file)) r text back = back ≡ []
HandsBack (Some (Check file)) r text back = back ≡ []
HandsBack (Some (Count basis file)) r text back = back ≡ []
HandsBack (Some (Rules file)) r text back = back ≡ []
HandsBack (Some (Run netlist schedule kept)) r text back = RunHands r netlist schedule kept text back
HandsBack (Some (Drive netlist seed steps)) r text back = back ≡ []

-- How an outcome is said: that of an event by the names of the netlist, and by what its number counts. The line of any other
-- outcome has neither.
abbrev pub HasWording : Option Request → Reading → Outcome → Wording → Type 0
HasWording None r outcome wording = ⊤
HasWording (Some (Compile basis file)) r outcome wording = ⊤
HasWording (Some (Check file)) r outcome wording = ⊤
HasWording (Some (Count basis file)) r outcome wording = ⊤
HasWording (Some (Rules file)) r outcome wording = ⊤
HasWording (Some (Run netlist schedule kept)) r outcome wording = RunWording r netlist outcome wording
HasWording (Some (Drive netlist seed steps)) r outcome wording = DriveWording r netlist outcome wording

-- the contents of the files for which the form is done
abbrev pub Admits : Option Request → Reading → Type 0
Admits None r = ⊥
Admits (Some (Compile basis file)) r = CompileAdmits basis r file
Admits (Some (Check file)) r = CheckAdmits r file
Admits (Some (Count basis file)) r = CheckAdmits r file
Admits (Some (Rules file)) r = RulesAdmits r file
Admits (Some (Run netlist schedule kept)) r = RunAdmits r netlist schedule
Admits (Some (Drive netlist seed steps)) r = DriveAdmits r netlist seed steps
