-- Directions, and ports as marks.
use Rattle.std.specs.Prelude.{ℕ, Bool, true, false}
use Rattle.cmd_tree.specs.declared.tree.Dir.{Dir}
use Rattle.cmd_tree.specs.declared.tree.Dir.TheVariants.{Input, Output}
use Rattle.cmd_tree.specs.declared.tree.Mark.{Mark}

abbrev pub is_output : Dir → Bool
is_output Input = false
is_output Output = true

-- the port p as an input, and as an output
abbrev pub input : ℕ → Mark
input p = record { sym = record { 0 = p }; dir = Input }

abbrev pub output : ℕ → Mark
output p = record { sym = record { 0 = p }; dir = Output }
