-- What the words after the program's name ask for. Each form of words is a case.
use Rattle.std.specs.Prelude.{ℕ, List, [], ◌∷◌, Option, Some, None, map, codes, ◌&&◌, if◌then◌else◌, nat_eq, nat_lt, ◌^◌, decimal, string_bytes}
use Rattle.std.specs.Str.{bytes_eq}
use Rattle.std.specs.declared.string.String.{String}
use Rattle.std.specs.declared.alloc.Global.{Global}
use Rattle.text_lines.specs.Decimals.{value_of}
use Rattle.count_sum.specs.declared.counts.Basis.{Basis}
use Rattle.count_sum.specs.declared.counts.Basis.TheVariants.{Wide, Two}
use Rattle.replay.specs.Probes.{View}

pub data Request : Type 0 where
  -- the netlist of the command in this file, in the basis
  Compile : (basis : Basis) (file : List ℕ) → Request
  -- whether the command in this file is admitted
  Check : (file : List ℕ) → Request
  -- how many components a network of the command in this file has in the basis
  Count : (basis : Basis) (file : List ℕ) → Request
  -- whether the list of traces in this file keeps the rules of delay-insensitivity
  Rules : (file : List ℕ) → Request
  -- whether the schedule in the second file is a run of the netlist in the first, watched by the kept probes: none, or one
  Run : (netlist schedule : List ℕ) → (kept : List View) → Request
  -- the schedule that is drawn from the seed, in so many steps, on the netlist in this file
  Drive : (netlist : List ℕ) → (seed steps : ℕ) → Request

-- the basis of this name
abbrev pub basis_of : List ℕ → Option Basis
basis_of word = if bytes_eq word (codes "wide") then Some Wide else if bytes_eq word (codes "two") then Some Two else None

abbrev pub compile_in : Option Basis → List ℕ → Option Request
compile_in None file = None
compile_in (Some basis) file = Some (Compile basis file)

abbrev pub count_in : Option Basis → List ℕ → Option Request
count_in None file = None
count_in (Some basis) file = Some (Count basis file)

-- the rule of the probe of this name
abbrev pub rule_of : List ℕ → Option ℕ
rule_of word = if bytes_eq word (codes "count") then Some 1 else if bytes_eq word (codes "peak") then Some 2 else None

-- the first of the probes with the rule, if one has it
abbrev pub first_of : ℕ → List View → Option View
first_of rule [] = None
first_of rule (v ∷ vs) = if nat_eq v.rule rule then Some v else first_of rule vs

abbrev pub first_with : Option ℕ → List View → Option View
first_with None vs = None
first_with (Some rule) vs = first_of rule vs

-- a run that a probe watches, where there is one
abbrev pub run_by : List ℕ → List ℕ → Option View → Option Request
run_by netlist schedule None = None
run_by netlist schedule (Some v) = Some (Run netlist schedule (v ∷ []))

-- the number that the word writes in decimal, where it is below 2^64
abbrev pub number_of : List ℕ → Option ℕ
number_of word = if bytes_eq word (decimal (value_of word)) && nat_lt (value_of word) (2 ^ 64) then Some (value_of word) else None

-- a drive with these numbers, where both are there
abbrev pub drive_by : List ℕ → Option ℕ → Option ℕ → Option Request
drive_by netlist (Some seed) (Some steps) = Some (Drive netlist seed steps)
drive_by netlist seed steps = None

-- the forms of two words, of three and of four
abbrev pub of_two : List ℕ → List ℕ → Option Request
of_two verb file =
    if bytes_eq verb (codes "check") then Some (Check file)
    else if bytes_eq verb (codes "rules") then Some (Rules file)
    else None

abbrev pub of_three : List ℕ → List ℕ → List ℕ → Option Request
of_three verb first second =
    if bytes_eq verb (codes "compile") then compile_in (basis_of first) second
    else if bytes_eq verb (codes "count") then count_in (basis_of first) second
    else if bytes_eq verb (codes "run") then Some (Run first second [])
    else None

abbrev pub of_four : List ℕ → List ℕ → List ℕ → List ℕ → List View → Option Request
of_four verb netlist schedule word vs =
    if bytes_eq verb (codes "run") then run_by netlist schedule (first_with (rule_of word) vs)
    else if bytes_eq verb (codes "drive") then drive_by netlist (number_of schedule) (number_of word)
    else None

-- What the words ask for, where these probes are handed in: nothing where they are of no form, or name a probe that is not
-- there.
abbrev pub request_of : List (List ℕ) → List View → Option Request
request_of (verb ∷ file ∷ []) vs = of_two verb file
request_of (verb ∷ first ∷ second ∷ []) vs = of_three verb first second
request_of (verb ∷ netlist ∷ schedule ∷ word ∷ []) vs = of_four verb netlist schedule word vs
request_of _ vs = None

abbrev pub asked : List (String Global) → List View → Option Request
asked words vs = request_of (map string_bytes words) vs

-- the names of the files that are read, in order
abbrev pub files_of : Option Request → List (List ℕ)
files_of None = []
files_of (Some (Compile basis file)) = file ∷ []
files_of (Some (Check file)) = file ∷ []
files_of (Some (Count basis file)) = file ∷ []
files_of (Some (Rules file)) = file ∷ []
files_of (Some (Run netlist schedule kept)) = netlist ∷ schedule ∷ []
files_of (Some (Drive netlist seed steps)) = netlist ∷ []
