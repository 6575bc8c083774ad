-- What a command file means: the command of `main` with each use of a definition replaced, or the first thing that is wrong.
use Rattle.std.specs.Prelude.{ℕ, Bool, false, nat_lt, List, [], ◌∷◌, ◌++◌, map, length, get_or, Option, Some, None, Result, Ok, Err, if◌then◌else◌}
use Rattle.std.specs.List.{list_any}
use Rattle.std.specs.Str.{bytes_eq}
use Rattle.cmd_tree.specs.declared.tree.Proc.{Proc}
use Rattle.cmd_tree.specs.declared.limits.TheConstants.{MAX_SYMBOLS, MAX_PROCESSES, MAX_PLACES}
use Rattle.cmd_tree.specs.Limits.{places_of_all}
use Rattle.cmd_text.specs.declared.file.Sentence.{Sentence}
use Rattle.cmd_text.specs.declared.file.Factor.{Factor}
use Rattle.cmd_text.specs.declared.file.Factor.TheVariants.{Own, Named}
use Rattle.cmd_text.specs.File.{Use}
use Rattle.cmd_rename.specs.Renaming.{ren_all}
use Rattle.cmd_rename.specs.Symbols.{symbols_of, renumbered}
use Rattle.cmd_expand.specs.declared.pairs.Pair.{Pair}
use Rattle.cmd_expand.specs.declared.refusal.ExpandRefusal.{ExpandRefusal}
use Rattle.cmd_expand.specs.declared.refusal.ExpandRefusal.TheVariants as told
use Rattle.cmd_expand.specs.Names.{all_names}
use Rattle.cmd_expand.specs.Pairs.{pair_of, renamed, first_fault, Refused, UnknownName, DefinedTwice, UsedBeforeDefined, RenamedTwice, RenameUnknown, RenameMerges, TooManySymbols, TooManyProcs, TooManyPlaces}

-- a definition: its name and its processes
pub record Known : Type 0 where
  pub name : List ℕ
  pub procs : List Proc

-- the processes of the definition of this name
abbrev pub found : List Known → List ℕ → Option (List Proc)
found [] n = None
found (k ∷ ks) n = if bytes_eq n k.name then Some k.procs else found ks n

abbrev pub is_named : List ℕ → Option (List ℕ) → Bool
is_named n None = false
is_named n (Some m) = bytes_eq n m

-- the name that a sentence defines
abbrev pub name_of : Option (List ℕ) → List ℕ
name_of None = []
name_of (Some n) = n

-- one list of processes after another, or the first refusal
abbrev pub prepend : List Proc → Result (List Proc) Refused → Result (List Proc) Refused
prepend ps (Ok qs) = Ok (ps ++ qs)
prepend ps (Err r) = Err r

abbrev pub followed : Result (List Proc) Refused → Result (List Proc) Refused → Result (List Proc) Refused
followed (Ok ps) rest = prepend ps rest
followed (Err r) rest = Err r

-- the processes under other symbols, where nothing is wrong with the renaming
abbrev pub renamed_by : List Pair → List Proc → Option Refused → Result (List Proc) Refused
renamed_by pairs ps None = Ok (ren_all (renamed pairs) ps)
renamed_by pairs ps (Some r) = Err r

-- the processes, where there are few enough symbols, processes and symbol places
abbrev pub limited : List Proc → Result (List Proc) Refused
limited ps =
    if nat_lt MAX_SYMBOLS (length (symbols_of ps)) then Err (TooManySymbols (length (symbols_of ps)))
    else if nat_lt MAX_PROCESSES (length ps) then Err (TooManyProcs (length ps))
    else if nat_lt MAX_PLACES (places_of_all ps) then Err (TooManyPlaces (places_of_all ps))
    else Ok ps

abbrev pub within : Result (List Proc) Refused → Result (List Proc) Refused
within (Ok ps) = limited ps
within (Err r) = Err r

abbrev pub and_then : Result (List Proc) Refused → (List Proc → Result (List Proc) Refused) → Result (List Proc) Refused
and_then (Ok ps) next = next ps
and_then (Err r) next = Err r

abbrev pub defined_by : List ℕ → List Proc → Known
defined_by n ps = record { name = n; procs = ps }

-- names: of all symbols; file: all sentences
module _ (names : List (List ℕ)) (file : List Sentence) where
  -- no earlier sentence defines what is used
  abbrev pub missing : Use → Refused
  missing u = if list_any (λ s. is_named u.name s.name) file then UsedBeforeDefined u.at else UnknownName u.at

  -- a definition that is used: these are its processes, where an earlier sentence defines it
  abbrev pub use_of : Use → Option (List Proc) → Result (List Proc) Refused
  use_of u None = Err (missing u)
  use_of u (Some ps) = renamed_by (map (pair_of names) u.renames) ps (first_fault (symbols_of ps) (map (pair_of names) u.renames))

  -- a process, or the processes of the definition that is used
  abbrev pub factor : List Known → Factor → Result (List Proc) Refused
  factor known (Own p) = Ok (p ∷ [])
  factor known (Named u) = use_of u (found known u.name)

  -- one factor after the other
  abbrev pub weave : List Known → List Factor → Result (List Proc) Refused
  weave known [] = Ok []
  weave known (f ∷ fs) = followed (factor known f) (weave known fs)

  -- what a sentence of these factors means, behind these definitions
  abbrev pub body : List Known → List Factor → Result (List Proc) Refused
  body known fs = within (weave known fs)

  abbrev pub definition : List Known → Sentence → Result (List Proc) Refused
  definition known s = if list_any (λ k. bytes_eq (name_of s.name) k.name) known then Err (DefinedTwice s.at) else body known s.factors

  -- what the last sentence means, where each is defined for those behind it; the first sentence that is wrong decides
  abbrev pub last_of : List Known → List Sentence → Result (List Proc) Refused
  last_of known [] = Ok []
  last_of known (s ∷ []) = body known s.factors
  last_of known (s ∷ t ∷ ss) = and_then (definition known s) (λ ps. last_of (known ++ defined_by (name_of s.name) ps ∷ []) (t ∷ ss))

-- a command: the names of its symbols, and its processes
pub record Meant : Type 0 where
  pub names : List (List ℕ)
  pub procs : List Proc

-- the command of these processes, whose symbols are numbers of names
abbrev pub command_of : List (List ℕ) → Result (List Proc) Refused → Result Meant Refused
command_of names (Ok ps) = Ok (record { names = map (λ a. get_or names a []) (symbols_of ps); procs = renumbered ps })
command_of names (Err r) = Err r

-- what the file of these names and sentences means
abbrev pub expansion : List (List ℕ) → List Sentence → Result Meant Refused
expansion names file = command_of (all_names names file) (last_of (all_names names file) file [] file)

-- what a refusal tells; a lack of memory is nothing that is wrong with the file
abbrev pub refused_of : ExpandRefusal → Option Refused
refused_of (told.UnknownName at) = Some (UnknownName at)
refused_of (told.DefinedTwice at) = Some (DefinedTwice at)
refused_of (told.UsedBeforeDefined at) = Some (UsedBeforeDefined at)
refused_of (told.RenamedTwice at) = Some (RenamedTwice at)
refused_of (told.RenameUnknown at) = Some (RenameUnknown at)
refused_of (told.RenameMerges at) = Some (RenameMerges at)
refused_of (told.TooManySymbols count) = Some (TooManySymbols count)
refused_of (told.TooManyProcs count) = Some (TooManyProcs count)
refused_of (told.TooManyPlaces count) = Some (TooManyPlaces count)
refused_of told.NoMemory = None
