-- Traces as lists of the numbers of their symbols, and directions by number.
use Rattle.std.specs.Prelude.{ℕ, Bool, false, List, map, filter, Option, Some, None, slice_get}
use Rattle.std.specs.Prelude.{Vec}
use Rattle.std.specs.List.{Contains}
use Rattle.cmd_tree.specs.declared.tree.Sym.{Sym}
use Rattle.cmd_tree.specs.declared.tree.Dir.{Dir}
use Rattle.cmd_tree.specs.Marks.{is_output}
use Rattle.cmd_tree.specs.Lists.{is_in}

abbrev pub numbers : List Sym → List ℕ
numbers syms = map (λ s. s.0) syms

abbrev pub symbol : ℕ → Sym
symbol a = record { 0 = a }

-- what is left of a trace where only the symbols of `kept` are looked at
abbrev pub projected : List Sym → List Sym → List ℕ
projected trace kept = filter (λ a. is_in a (numbers kept)) (numbers trace)

abbrev pub gives : Option Dir → Bool
gives None = false
gives (Some dir) = is_output dir

-- whether a symbol is an output; one that has no direction counts as an input
abbrev pub output_by : List Dir → ℕ → Bool
output_by dirs a = gives (slice_get dirs a)

-- traces as lists of numbers
abbrev pub rows : {Z : Type 0} → List (Vec Sym Z) → List (List ℕ)
rows traces = map (λ v. numbers v.items) traces

-- the set that a list of traces is
abbrev pub Listed : {Z : Type 0} → List (Vec Sym Z) → List ℕ → Type 0
Listed traces t = Contains (rows traces) t
