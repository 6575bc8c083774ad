-- Which symbols of a command are outputs: the first mark of a symbol tells its direction.
use Rattle.std.specs.Prelude.{ℕ, Bool, false, nat_eq, if◌then◌else◌, List, [], ◌∷◌}
use Rattle.cmd_tree.specs.declared.tree.Mark.{Mark}
use Rattle.cmd_tree.specs.declared.tree.Proc.{Proc}
use Rattle.cmd_tree.specs.Limits.{marks_of_all}
use Rattle.cmd_tree.specs.Marks.{is_output}

-- whether the first of these marks that has the symbol a is an output; not so where none has it
abbrev pub output_in : List Mark → ℕ → Bool
output_in [] a = false
output_in (m ∷ ms) a = if nat_eq a m.sym.0 then is_output m.dir else output_in ms a

abbrev pub out_of : List Proc → ℕ → Bool
out_of ps = output_in (marks_of_all ps)
