-- What a plan prints, which outcomes end a call before it writes, and the names with which a stop is said.
use Rattle.std.specs.Prelude.{ℕ, List, [], ◌++◌, codes, Option, Some, None, ⊤}
use Rattle.net_core.specs.Wiring.{Circuit}
use Rattle.text_lines.specs.Lines.{numbered_line}
use Rattle.di_top.specs.declared.outcome.Outcome.{Outcome}
use Rattle.di_top.specs.declared.outcome.Outcome.TheVariants.{Done, Refused, Usage, ReadFault, WriteFault, NoMemory, Limit, Hazard, NotRun}
use Rattle.di_top.specs.declared.outcome.Stop.{Stop}
use Rattle.di_top.specs.declared.outcome.Numbered.{Numbered}
use Rattle.di_top.specs.declared.outcome.Numbered.TheVariants.{Lines, Steps}
use Rattle.di_top.specs.declared.plan.Plan.{Plan}
use Rattle.di_top.specs.declared.plan.Plan.TheVariants.{Compile, Check, Count as CountPlan, Rules, Run, Drive as DrivePlan}
use Rattle.di_top.specs.declared.run_form.Ran.{Ran}
use Rattle.di_top.specs.declared.run_form.Figures.{Figures}
use Rattle.di_top.specs.declared.run_form.Figures.TheVariants.{Count, Peak}
use Rattle.net_text.specs.NetText.{net_text}
use Rattle.count_sum.specs.Counts.{of_sort}
use Rattle.di_top.specs.CheckForm.{counts_text}
use Rattle.di_top.specs.CountForm.{sums_text}
use Rattle.di_top.specs.RulesForm.{verdict_text}
use Rattle.di_top.specs.Say.{Wording, by_line, by_step}
use Rattle.di_top.specs.DriveForm.{schedule_text}
use Rattle.di_top.specs.RunForm.{names_of, seen_lines}

-- the lines of the numbers of the kept probe, if there is one
abbrev pub figures_text : Option Figures → List ℕ
figures_text None = []
figures_text (Some (Count gives passes fires)) =
    numbered_line (codes "gives ") gives ++ numbered_line (codes "passes ") passes ++ numbered_line (codes "fires ") fires
figures_text (Some (Peak busy peak)) = numbered_line (codes "busy ") busy ++ numbered_line (codes "peak ") peak

abbrev pub ran_text : Ran → List ℕ
ran_text ran = seen_lines (names_of ran.net) ran.outs.items ran.events ran.seen.items ++ figures_text ran.figures

abbrev pub text_of : Plan → List ℕ
text_of (Compile net) = net_text net
text_of (Check counts) = counts_text counts
text_of (CountPlan sums) = sums_text (of_sort sums.sorts) sums.total
text_of (Rules verdict) = verdict_text verdict.names verdict.broken
text_of (Run ran) = ran_text ran
text_of (DrivePlan drawn) = schedule_text (names_of drawn.net) drawn.events.items

-- the names of a netlist, if one was read
abbrev pub names_in : Option Circuit → List (List ℕ)
names_in None = []
names_in (Some c) = names_of c

-- what the number of an event counts
abbrev pub counting : Numbered → List (List ℕ) → Wording
counting Lines names = by_line names
counting Steps names = by_step names

-- how a stop is said
abbrev pub wording_of : Stop → Wording
wording_of stop = counting stop.numbered (names_in stop.net)

-- an outcome that ends a call before anything is written
abbrev pub IsStop : Outcome → Type 0
IsStop Done = ⊥
IsStop WriteFault = ⊥
IsStop (Refused why) = ⊤
IsStop Usage = ⊤
IsStop (ReadFault file) = ⊤
IsStop NoMemory = ⊤
IsStop (Limit limit value) = ⊤
IsStop (Hazard line what) = ⊤
IsStop (NotRun line what) = ⊤
