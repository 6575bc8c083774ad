-- A file of `main` alone whose processes are all written out.
use Rattle.std.specs.Prelude.{ℕ, nat_lt, List, length, Result, Ok, Err, if◌then◌else◌}
use Rattle.cmd_tree.specs.declared.tree.Proc.{Proc}
use Rattle.cmd_tree.specs.declared.limits.TheConstants.{MAX_SYMBOLS, MAX_PROCESSES, MAX_PLACES}
use Rattle.cmd_tree.specs.Limits.{places_of_all}
use Rattle.cmd_expand.specs.Pairs.{Refused, TooManySymbols, TooManyProcs, TooManyPlaces}
use Rattle.cmd_expand.specs.Expansion.{Meant}

-- the command of these names and processes, where there are few enough symbols, processes and symbol places
abbrev pub as_written : List (List ℕ) → List Proc → Result Meant Refused
as_written names procs =
    if nat_lt MAX_SYMBOLS (length names) then Err (TooManySymbols (length names))
    else if nat_lt MAX_PROCESSES (length procs) then Err (TooManyProcs (length procs))
    else if nat_lt MAX_PLACES (places_of_all procs) then Err (TooManyPlaces (places_of_all procs))
    else Ok (record { names = names; procs = procs })
