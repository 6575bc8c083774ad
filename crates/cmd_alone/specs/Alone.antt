-- A process of a command as a command of its own.
use Rattle.std.specs.Prelude.{◌≡◌, ℕ, List, [], ◌∷◌, get_or, slice_get, Some}
use Rattle.cmd_tree.specs.declared.tree.Proc.{Proc}
use Rattle.cmd_tree.specs.declared.command.Command.{Command}
use Rattle.cmd_rename.specs.Symbols.{names_in, symbols_of, rank, renumbered}

-- the symbols of a process, in order of first occurrence
abbrev pub own_symbols : Proc → List ℕ
own_symbols p = symbols_of (p ∷ [])

-- the number that a symbol has when the process is by itself, and the symbol that has this number
abbrev pub number_in : Proc → ℕ → ℕ
number_in p a = rank (own_symbols p) a

abbrev pub symbol_at : Proc → ℕ → ℕ
symbol_at p k = get_or (own_symbols p) k 0

-- d is the process at place i of c by itself: its symbols are numbered by first occurrence, and keep their names
pub record IsAlone (c : Command) (i : ℕ) (d : Command) : Type 0 where
  pub process : Proc
  pub place : slice_get c.procs i ≡ Some process
  pub procs : d.procs ≡ renumbered (process ∷ [])
  pub names : d.names ≡ names_in c.names (own_symbols process)
