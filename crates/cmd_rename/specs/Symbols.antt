-- The symbols of processes in order of first occurrence, and processes with their symbols numbered so.
use Rattle.std.specs.Prelude.{ℕ, zero, suc, nat_eq, List, [], ◌∷◌, ◌++◌, map, get_or, if◌then◌else◌}
use Rattle.cmd_tree.specs.declared.tree.Mark.{Mark}
use Rattle.cmd_tree.specs.declared.tree.Proc.{Proc}
use Rattle.cmd_tree.specs.Limits.{marks_of_all}
use Rattle.cmd_tree.specs.Lists.{is_in}
use Rattle.cmd_rename.specs.Renaming.{ren_all}

abbrev pub symbols_in : List Mark → List ℕ
symbols_in ms = map (λ m. m.sym.0) ms

-- the number a at the end of the list, where it is not in it
abbrev pub put : List ℕ → ℕ → List ℕ
put xs a = if is_in a xs then xs else xs ++ a ∷ []

-- these numbers put one after the other
abbrev pub put_each : List ℕ → List ℕ → List ℕ
put_each xs [] = xs
put_each xs (a ∷ more) = put_each (put xs a) more

-- the symbols, each once, in order of first occurrence
abbrev pub symbols_of : List Proc → List ℕ
symbols_of ps = put_each [] (symbols_in (marks_of_all ps))

-- the number of the symbol a in a list of symbols, counted from 0
abbrev pub rank : List ℕ → ℕ → ℕ
rank [] a = 0
rank (x ∷ xs) a = if nat_eq a x then 0 else suc (rank xs a)

-- the processes with their symbols numbered by first occurrence
abbrev pub renumbered : List Proc → List Proc
renumbered ps = ren_all (rank (symbols_of ps)) ps

-- the first n numbers
abbrev pub counted : ℕ → List ℕ
counted zero = []
counted (suc n) = counted n ++ n ∷ []

-- the names of these symbols
abbrev pub names_in : List (List ℕ) → List ℕ → List (List ℕ)
names_in names symbols = map (λ a. get_or names a []) symbols
