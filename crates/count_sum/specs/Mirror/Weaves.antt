-- The symbols of the processes of a weave.
use Rattle.std.specs.Prelude.{ℕ, Bool, if◌then◌else◌, List, []}
use Rattle.cmd_tree.specs.declared.tree.Proc.{Proc}
use Rattle.cmd_tree.specs.Limits.{marks_of_proc}
use Rattle.cmd_rename.specs.Symbols.{put_each, symbols_in}
use Rattle.basic_kinds.specs.Sorts.{Forks, Joins}
use Rattle.basic_kinds.specs.Sums.{Counted, Wide}
use Rattle.di_grammar.specs.Sums.{grants}

-- the symbols of a process, each once
abbrev pub own : Proc → List ℕ
own p = put_each [] (symbols_in (marks_of_proc p))

-- those that it makes; a grant makes none
abbrev pub own_made : Proc → List ℕ
own_made p = if grants p then [] else own p

-- a C of those that make an output, and a FORK to those that have an input
abbrev pub meeting_by : Bool → ℕ → ℕ → Counted
meeting_by out made standing = if out then Wide Joins made else Wide Forks standing
