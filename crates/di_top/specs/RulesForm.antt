-- The form `rules F`: it is done for each list of traces, and prints whether the set of the listed traces keeps the
-- rules of delay-insensitivity, or the least rule that it breaks.
use Rattle.std.specs.Prelude.{◌≡◌, ℕ, ◌≤◌, ◌<◌, Bool, nat_eq, if◌then◌else◌, List, [], ◌∷◌, ◌++◌, length, flat_map, codes, slice_index_or, Option, Some, None}
use Rattle.std.specs.List.{Contains}
use Rattle.cmd_tree.specs.declared.tree.Sym.{Sym}
use Rattle.cmd_tree.specs.declared.tree.Dir.{Dir}
use Rattle.cmd_tree.specs.declared.limits.TheConstants.{MAX_FILE_BYTES}
use Rattle.process_laws.specs.Insensitive.{Insensitive}
use Rattle.text_lines.specs.Lines.{worded}
use Rattle.trace_laws.specs.declared.check.BrokenRule.{BrokenRule}
use Rattle.trace_laws.specs.declared.list.TraceRefusal.{TraceRefusal}
use Rattle.trace_laws.specs.declared.list.TraceRefusal.TheVariants.{BadLine, NoMemory as NoMemoryForTraces}
use Rattle.trace_laws.specs.Breaks.{LeastBroken}
use Rattle.trace_laws.specs.Listed.{numbers, output_by}
use Rattle.trace_laws.specs.ListText.{IsListText, IsFaultyLine}
use Rattle.di_top.specs.declared.outcome.Outcome.{Outcome}
use Rattle.di_top.specs.declared.outcome.Outcome.TheVariants.{Done, Refused, ReadFault, NoMemory, Limit}
use Rattle.di_top.specs.declared.outcome.Why.TheVariants.{Traces}
use Rattle.di_top.specs.Calls.{Reading, Loaded, Unread}
use Rattle.di_top.specs.CommandFiles.{command_cap}

-- the outcome of each refusal
abbrev pub told_of_traces : TraceRefusal → Outcome
told_of_traces (BadLine line) = Refused (Traces (BadLine line))
told_of_traces NoMemoryForTraces = NoMemory

-- the bytes, no more than a file may have, are the text of a list with these names, directions and traces
pub record IsList (bytes : List ℕ) (names : List (List ℕ)) (dirs : List Dir) (traces : List (List ℕ)) : Type 0 where
  pub few : length bytes ≤ MAX_FILE_BYTES
  pub text : IsListText bytes names dirs traces

-- what bytes that are no such text stop a call with: they are too many, or this is their first faulty line
pub data ListStops (bytes : List ℕ) (outcome : Outcome) : Type 0 where
  TooLong : MAX_FILE_BYTES < length bytes → outcome ≡ Limit 1 (length bytes) → ListStops bytes outcome
  Faulty : (line : ℕ) → length bytes ≤ MAX_FILE_BYTES → IsFaultyLine bytes line → outcome ≡ Refused (Traces (BadLine line)) → ListStops bytes outcome

-- the bytes that were loaded of the file are the text of this list
pub record FileLists (r : Reading) (file : List ℕ) (names : List (List ℕ)) (dirs : List Dir) (traces : List (List ℕ)) : Type 0 where
  pub bytes : List ℕ
  pub loaded : Loaded r file command_cap bytes
  pub list : IsList bytes names dirs traces

-- what is answered of a file, want of memory and writing apart
pub data RulesGives (r : Reading) (file : List ℕ) (outcome : Outcome) : Type 0 where
  Unloaded : Unread r file → outcome ≡ ReadFault 1 → RulesGives r file outcome
  Stopped : (bytes : List ℕ) → Loaded r file command_cap bytes → ListStops bytes outcome → RulesGives r file outcome
  Judged : (names : List (List ℕ)) (dirs : List Dir) (traces : List (List ℕ)) → FileLists r file names dirs traces → outcome ≡ Done
      → RulesGives r file outcome

-- the file's content is told, and is the text of a list
pub record RulesAdmits (r : Reading) (file : List ℕ) : Type 0 where
  pub content : List ℕ
  pub told : r.content file ≡ Some content
  pub names : List (List ℕ)
  pub dirs : List Dir
  pub traces : List (List ℕ)
  pub list : IsList content names dirs traces

-- ---- what is printed

-- a blank, and the name of a symbol
abbrev pub symbol_text : List (List ℕ) → Sym → List ℕ
symbol_text names a = 32 ∷ slice_index_or names a.0 []

-- what is wrong with the trace at which a rule is broken
abbrev pub present_text : Bool → List ℕ
present_text present = if present then codes " present" else codes " missing"

-- the rule, and the trace: one that is there, or one that is missing
abbrev pub broken_line : List (List ℕ) → ℕ → Bool → List Sym → List ℕ
broken_line names rule present trace = worded (codes "broken U") rule ++ present_text present ++ flat_map (symbol_text names) trace ++ codes "\n"

abbrev pub verdict_text : List (List ℕ) → Option BrokenRule → List ℕ
verdict_text names None = codes "rules hold\n"
verdict_text names (Some b) = broken_line names b.rule b.present b.trace.items

-- The line of a list: its traces, as a set, keep all five rules; or this is the least rule that they break, and the least
-- trace at which they do. Where a symbol comes twice in a row, the trace is there; else it is the one that the rule demands.
pub data IsVerdict (names : List (List ℕ)) (dirs : List Dir) (traces : List (List ℕ)) (text : List ℕ) : Type 0 where
  Holds : Insensitive (Contains traces) (output_by dirs) → text ≡ codes "rules hold\n" → IsVerdict names dirs traces text
  Breaks : (rule : ℕ) (trace : List Sym) → LeastBroken (output_by dirs) (Contains traces) rule (numbers trace)
      → text ≡ broken_line names rule (nat_eq rule 1) trace → IsVerdict names dirs traces text

-- the text is the line of the list in these bytes
pub record IsJudged (bytes text : List ℕ) : Type 0 where
  pub names : List (List ℕ)
  pub dirs : List Dir
  pub traces : List (List ℕ)
  pub list : IsList bytes names dirs traces
  pub is : IsVerdict names dirs traces text

-- the text is the line of the list in the file
pub record RulesPrints (r : Reading) (file text : List ℕ) : Type 0 where
  pub bytes : List ℕ
  pub loaded : Loaded r file command_cap bytes
  pub judged : IsJudged bytes text
