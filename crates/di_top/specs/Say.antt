-- The line that is said of each outcome.
use Rattle.std.specs.Prelude.{ℕ, ◌+◌, ◌-◌, List, [], ◌∷◌, ◌++◌, get_or, slice_index_or, codes}
use Rattle.cmd_tree.specs.declared.tree.Sym.{Sym}
use Rattle.cmd_tree.specs.declared.limits.TheConstants.{
  MAX_FILE_BYTES,
  MAX_OPEN_BRACKETS,
  MAX_SYMBOLS,
  MAX_PROCESSES,
  MAX_PLACES,
  MAX_COMPONENTS,
  MAX_NETLIST_BYTES,
  MAX_DRIVEN_STEPS,
  MAX_BIG,
}
use Rattle.cmd_text.specs.declared.file.Refusal.{Refusal}
use Rattle.cmd_text.specs.declared.file.Refusal.TheVariants as text
use Rattle.cmd_expand.specs.declared.refusal.ExpandRefusal.{ExpandRefusal}
use Rattle.cmd_expand.specs.declared.refusal.ExpandRefusal.TheVariants as expand
use Rattle.di_grammar.specs.declared.answer.Broken.{Broken}
use Rattle.trace_laws.specs.declared.list.TraceRefusal.{TraceRefusal}
use Rattle.trace_laws.specs.declared.list.TraceRefusal.TheVariants as traces
use Rattle.net_text.specs.declared.refusal.NetRefusal.{NetRefusal}
use Rattle.net_text.specs.declared.refusal.NetRefusal.TheVariants as net
use Rattle.replay.specs.declared.schedule.ScheduleRefusal.{ScheduleRefusal}
use Rattle.replay.specs.declared.schedule.ScheduleRefusal.TheVariants as schedule
use Rattle.replay.specs.declared.event.Answer.{Answer}
use Rattle.replay.specs.declared.event.Answer.TheVariants as answer
use Rattle.text_lines.specs.Lines.{worded, numbered_line}
use Rattle.di_top.specs.declared.outcome.Outcome.{Outcome}
use Rattle.di_top.specs.declared.outcome.Outcome.TheVariants.{Done, Refused, Usage, ReadFault, WriteFault, NoMemory, Limit, Hazard, NotRun}
use Rattle.di_top.specs.declared.outcome.Why.{Why}
use Rattle.di_top.specs.declared.outcome.Why.TheVariants.{Text, Expand, NotThisForm, Grammar, Traces, Net, Schedule}

abbrev pub usage_line : List ℕ
usage_line = codes "usage: dic compile wide|two F, check F, count wide|two F, run N S [count|peak], drive N SEED STEPS, rules F, big N\n"

-- want of memory is no refusal of a text
abbrev pub text_line : Refusal → List ℕ
text_line (text.BadByte at) = numbered_line (codes "refused byte at ") at
text_line (text.BadToken at) = numbered_line (codes "refused token at ") at
text_line (text.Unexpected at) = numbered_line (codes "refused text at ") at
text_line (text.NameTooLong at) = numbered_line (codes "refused name at ") at
text_line (text.TooDeep at) = numbered_line (codes "refused depth at ") at
text_line text.NoMemory = codes "no memory\n"

-- what is past a limit has a line of its own
abbrev pub expand_line : ExpandRefusal → List ℕ
expand_line (expand.UnknownName at) = numbered_line (codes "refused unknown name at ") at
expand_line (expand.DefinedTwice at) = numbered_line (codes "refused second definition at ") at
expand_line (expand.UsedBeforeDefined at) = numbered_line (codes "refused early use at ") at
expand_line (expand.RenamedTwice at) = numbered_line (codes "refused second renaming at ") at
expand_line (expand.RenameUnknown at) = numbered_line (codes "refused renaming of no symbol at ") at
expand_line (expand.RenameMerges at) = numbered_line (codes "refused merging at ") at
expand_line (expand.TooManySymbols n) = []
expand_line (expand.TooManyProcs n) = []
expand_line (expand.TooManyPlaces n) = []
expand_line expand.NoMemory = []

abbrev pub grammar_line : Broken → List ℕ
grammar_line b =
    worded (codes "refused G") b.rule ++ worded (codes " process ") b.process ++ worded (codes " place ") b.place
    ++ worded (codes " against process ") b.other_process ++ numbered_line (codes " place ") b.other

-- want of memory is no refusal of a list of traces
abbrev pub traces_line : TraceRefusal → List ℕ
traces_line (traces.BadLine line) = numbered_line (codes "refused traces line ") line
traces_line traces.NoMemory = codes "no memory\n"

-- want of memory is no refusal of a netlist
abbrev pub net_line : NetRefusal → List ℕ
net_line (net.BadLine line) = numbered_line (codes "refused net line ") line
net_line (net.SpecRefused rule) = numbered_line (codes "refused net spec G") rule
net_line (net.TooManyComponents line) = numbered_line (codes "refused net components line ") line
net_line (net.Truncated line) = numbered_line (codes "refused net cut line ") line
net_line (net.OpenPort wire) = numbered_line (codes "refused net wire ") wire
net_line net.NoMemory = codes "no memory\n"

-- nor of a schedule
abbrev pub schedule_line : ScheduleRefusal → List ℕ
schedule_line (schedule.BadLine line) = numbered_line (codes "refused schedule line ") line
schedule_line schedule.NoMemory = codes "no memory\n"

abbrev pub why_line : Why → List ℕ
why_line (Text refusal) = text_line refusal
why_line (Expand refusal) = expand_line refusal
why_line NotThisForm = codes "refused form\n"
why_line (Grammar b) = grammar_line b
why_line (Traces refusal) = traces_line refusal
why_line (Net refusal) = net_line refusal
why_line (Schedule refusal) = schedule_line refusal

-- what each limit allows, from the first on; there are nine
abbrev pub limits : List ℕ
limits =
    MAX_FILE_BYTES ∷ MAX_OPEN_BRACKETS ∷ MAX_SYMBOLS ∷ MAX_PROCESSES ∷ MAX_PLACES ∷ MAX_COMPONENTS ∷ MAX_NETLIST_BYTES
    ∷ MAX_DRIVEN_STEPS ∷ MAX_BIG ∷ []

unfoldable pub allowed : ℕ → ℕ
allowed limit = get_or limits (limit - 1) 0

abbrev pub limit_line : ℕ → ℕ → List ℕ
limit_line limit value =
    worded (codes "limit L") limit ++ worded (codes ": found ") value ++ numbered_line (codes ", allowed ") (allowed limit)

abbrev pub name_at : List (List ℕ) → Sym → List ℕ
name_at names a = slice_index_or names a.0 []

-- How the outcome of an event is told: what its number counts, and the names of the symbols.
pub record Wording : Type 0 where
  pub counts : List ℕ
  pub names : List (List ℕ)

-- the lines of a schedule
abbrev pub by_line : List (List ℕ) → Wording
by_line names = record { counts = codes "line "; names = names }

-- the steps of a drive
abbrev pub by_step : List (List ℕ) → Wording
by_step names = record { counts = codes "step "; names = names }

-- What became of an event, in a netlist whose symbols have these names. Components and ports are counted from 1, wires from 0.
abbrev pub answer_line : List (List ℕ) → Answer → List ℕ
answer_line names answer.Done = codes "\n"
answer_line names (answer.Clash wire) = numbered_line (codes " clash wire ") wire
answer_line names (answer.Forbidden component port) =
    worded (codes " forbidden component ") component ++ numbered_line (codes " port ") (port + 1)
answer_line names (answer.WrongOutput a) = codes " wrong output " ++ name_at names a ++ codes "\n"
answer_line names (answer.CannotFire component) = numbered_line (codes " cannot fire ") component
answer_line names (answer.EmptyWire wire) = numbered_line (codes " empty wire ") wire
answer_line names (answer.NotAllowed a) = codes " not allowed " ++ name_at names a ++ codes "\n"
answer_line names answer.NoSuch = codes " no such\n"
answer_line names answer.NoMemory = codes "\n"

-- a call that is done says nothing
abbrev pub say_line : Wording → Outcome → List ℕ
say_line wording Done = []
say_line wording (Refused why) = why_line why
say_line wording Usage = usage_line
say_line wording (ReadFault file) = numbered_line (codes "read fault ") file
say_line wording WriteFault = codes "write fault\n"
say_line wording NoMemory = codes "no memory\n"
say_line wording (Limit limit value) = limit_line limit value
say_line wording (Hazard line what) = codes "hazard " ++ worded wording.counts line ++ answer_line wording.names what
say_line wording (NotRun line what) = codes "no run " ++ worded wording.counts line ++ answer_line wording.names what

-- the status with which the program ends
abbrev pub status_of : Outcome → ℕ
status_of Done = 0
status_of (Refused why) = 1
status_of Usage = 2
status_of (ReadFault file) = 3
status_of WriteFault = 4
status_of NoMemory = 5
status_of (Limit limit value) = 6
status_of (Hazard line what) = 7
status_of (NotRun line what) = 8
