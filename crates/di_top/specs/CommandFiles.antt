-- What a command file is to each form of words that takes the command of `main`: it stops the call, or gives an
-- admitted command.
use Rattle.std.specs.Prelude.{◌≡◌, ℕ, suc, ◌≤◌, ◌<◌, List, Some, length, Result, Ok, Err}
use Rattle.cmd_tree.specs.declared.tree.Proc.{Proc}
use Rattle.cmd_tree.specs.declared.limits.TheConstants.{MAX_FILE_BYTES}
use Rattle.cmd_text.specs.declared.file.Refusal.{Refusal}
use Rattle.cmd_text.specs.declared.file.Refusal.TheVariants as text
use Rattle.cmd_text.specs.Fault as faults
use Rattle.cmd_text.specs.Source.{IsFaultOfBytes, fault_of}
use Rattle.di_grammar.specs.declared.answer.Broken.{Broken}
use Rattle.di_grammar.specs.Admitted.{Admitted, IsBroken}
use Rattle.di_top.specs.declared.outcome.Outcome.{Outcome}
use Rattle.di_top.specs.declared.outcome.Outcome.TheVariants.{Refused, ReadFault, NoMemory, Limit}
use Rattle.di_top.specs.declared.outcome.Why.TheVariants as why
use Rattle.cmd_expand.specs.declared.refusal.ExpandRefusal.{ExpandRefusal}
use Rattle.cmd_expand.specs.declared.refusal.ExpandRefusal.TheVariants as expand
use Rattle.cmd_expand.specs.Expansion.{Meant}
use Rattle.cmd_expand.specs.Pairs as wrong
use Rattle.di_top.specs.Sources.{Source, main}
use Rattle.di_top.specs.Calls.{Reading, Loaded, Unread}

-- a command file is loaded with one byte more, so that a longer one is seen to be longer
abbrev pub command_cap : ℕ
command_cap = suc MAX_FILE_BYTES

-- the outcome where this is wrong with the definitions of a file
abbrev pub outcome_of : wrong.Refused → Outcome
outcome_of (wrong.UnknownName at) = Refused (why.Expand (expand.UnknownName at))
outcome_of (wrong.DefinedTwice at) = Refused (why.Expand (expand.DefinedTwice at))
outcome_of (wrong.UsedBeforeDefined at) = Refused (why.Expand (expand.UsedBeforeDefined at))
outcome_of (wrong.RenamedTwice at) = Refused (why.Expand (expand.RenamedTwice at))
outcome_of (wrong.RenameUnknown at) = Refused (why.Expand (expand.RenameUnknown at))
outcome_of (wrong.RenameMerges at) = Refused (why.Expand (expand.RenameMerges at))
outcome_of (wrong.TooManySymbols n) = Limit 3 n
outcome_of (wrong.TooManyProcs n) = Limit 4 n
outcome_of (wrong.TooManyPlaces n) = Limit 5 n

-- what is answered of a file that means this, where it gives no admitted command
abbrev pub RefusedAs : Result Meant wrong.Refused → Outcome → Type 0
RefusedAs (Err r) outcome = outcome ≡ outcome_of r
RefusedAs (Ok m) outcome = (b : Broken) × IsBroken m.procs b × (outcome ≡ Refused (why.Grammar b))

-- the outcome of each refusal
abbrev pub told_of_text : Refusal → Outcome
told_of_text (text.BadByte at) = Refused (why.Text (text.BadByte at))
told_of_text (text.BadToken at) = Refused (why.Text (text.BadToken at))
told_of_text (text.Unexpected at) = Refused (why.Text (text.Unexpected at))
told_of_text (text.NameTooLong at) = Refused (why.Text (text.NameTooLong at))
told_of_text (text.TooDeep at) = Refused (why.Text (text.TooDeep at))
told_of_text text.NoMemory = NoMemory

abbrev pub told_of_expand : ExpandRefusal → Outcome
told_of_expand (expand.UnknownName at) = Refused (why.Expand (expand.UnknownName at))
told_of_expand (expand.DefinedTwice at) = Refused (why.Expand (expand.DefinedTwice at))
told_of_expand (expand.UsedBeforeDefined at) = Refused (why.Expand (expand.UsedBeforeDefined at))
told_of_expand (expand.RenamedTwice at) = Refused (why.Expand (expand.RenamedTwice at))
told_of_expand (expand.RenameUnknown at) = Refused (why.Expand (expand.RenameUnknown at))
told_of_expand (expand.RenameMerges at) = Refused (why.Expand (expand.RenameMerges at))
told_of_expand (expand.TooManySymbols n) = Limit 3 n
told_of_expand (expand.TooManyProcs n) = Limit 4 n
told_of_expand (expand.TooManyPlaces n) = Limit 5 n
told_of_expand expand.NoMemory = NoMemory

-- What these bytes stop a call with: they are too many, they have a fault, or what they mean is refused.
pub data StopsWith (bytes : List ℕ) (outcome : Outcome) : Type 0 where
  TooLong : MAX_FILE_BYTES < length bytes → outcome ≡ Limit 1 (length bytes) → StopsWith bytes outcome
  Faulty : (refusal : Refusal) (fault : faults.Fault) → length bytes ≤ MAX_FILE_BYTES → fault_of refusal ≡ Some fault → IsFaultOfBytes bytes fault
      → outcome ≡ Refused (why.Text refusal) → StopsWith bytes outcome
  Refuses : (is : Result Meant wrong.Refused) → Source bytes is → RefusedAs is outcome → StopsWith bytes outcome

-- the bytes are, within the limits, a text of this one command, and it is admitted
pub record IsAdmittedText (bytes : List ℕ) (names : List (List ℕ)) (procs : List Proc) : Type 0 where
  pub source : Source bytes (main names procs)
  pub admitted : Admitted procs

-- the file stops a call: it was not read, or its bytes stop it
pub data FileStops (r : Reading) (file : List ℕ) (outcome : Outcome) : Type 0 where
  Fault : Unread r file → outcome ≡ ReadFault 1 → FileStops r file outcome
  Bytes : (bytes : List ℕ) → Loaded r file command_cap bytes → StopsWith bytes outcome → FileStops r file outcome

-- the bytes that were loaded of the file are a text of this admitted command
pub record FileHolds (r : Reading) (file : List ℕ) (names : List (List ℕ)) (procs : List Proc) : Type 0 where
  pub bytes : List ℕ
  pub loaded : Loaded r file command_cap bytes
  pub admitted : IsAdmittedText bytes names procs

-- What is answered of a file, want of memory and writing apart. `Used` says what is answered of an admitted command.
pub data FileGives (Used : List Proc → Outcome → Type 0) (r : Reading) (file : List ℕ) (outcome : Outcome) : Type 0 where
  Stopped : FileStops r file outcome → FileGives Used r file outcome
  Taken : (names : List (List ℕ)) (procs : List Proc) → FileHolds r file names procs → Used procs outcome → FileGives Used r file outcome

-- bytes of an admitted command that suits the form of words
pub record IsSuited (Suits : List Proc → Type 0) (bytes : List ℕ) : Type 0 where
  pub names : List (List ℕ)
  pub procs : List Proc
  pub text : IsAdmittedText bytes names procs
  pub suits : Suits procs

-- the file's content is told, and is such bytes
pub record FileAdmits (Suits : List Proc → Type 0) (r : Reading) (file : List ℕ) : Type 0 where
  pub content : List ℕ
  pub told : r.content file ≡ Some content
  pub suited : IsSuited Suits content
