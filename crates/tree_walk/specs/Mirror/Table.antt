-- The numbers that a table has for the symbols.
use Rattle.std.specs.Prelude.{ℕ, slice_index}
use Rattle.tree_walk.specs.declared.table.Table.{Table}

abbrev pub entry_of : Table → ℕ → ℕ
entry_of t a = slice_index t.numbers a
