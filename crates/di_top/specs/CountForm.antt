-- The forms `count wide F` and `count two F`: each is done for each admitted command, and prints how many components of each
-- sort a network of the command has in the basis, and how many in all.
use Rattle.std.specs.Prelude.{◌≡◌, ℕ, List, ◌++◌, length, codes}
use Rattle.cmd_tree.specs.declared.tree.Proc.{Proc}
use Rattle.basic_kinds.specs.Sorts.{Sort, Wires, Iwires, Sources, Sinks, Forks, Joins, Merges, Toggles, Waits, Sequencers}
use Rattle.place_graph.specs.Sums.{command_sum}
use Rattle.count_sum.specs.Counts.{sum_in, all_sorts}
use Rattle.count_sum.specs.declared.counts.Basis.{Basis}
use Rattle.text_lines.specs.Lines.{numbered_line}
use Rattle.di_top.specs.Calls.{Reading}
use Rattle.di_top.specs.CommandFiles.{FileHolds}

-- a line for each sort, and one for all
abbrev pub sums_text : (Sort → ℕ) → ℕ → List ℕ
sums_text many total =
    numbered_line (codes "WIRE ") (many Wires) ++ numbered_line (codes "IWIRE ") (many Iwires) ++ numbered_line (codes "SOURCE ") (many Sources)
    ++ numbered_line (codes "SINK ") (many Sinks) ++ numbered_line (codes "FORK ") (many Forks) ++ numbered_line (codes "C ") (many Joins)
    ++ numbered_line (codes "MERGE ") (many Merges) ++ numbered_line (codes "TOGGLE ") (many Toggles) ++ numbered_line (codes "DW ") (many Waits)
    ++ numbered_line (codes "SEQ ") (many Sequencers) ++ numbered_line (codes "total ") total

-- how many components of each sort a network of these processes over these names has
abbrev pub sums_of : Basis → List (List ℕ) → List Proc → Sort → ℕ
sums_of basis names procs = command_sum (sum_in basis) procs (length names)

-- the text has the sums of the command in the file
pub record CountPrints (basis : Basis) (r : Reading) (file text : List ℕ) : Type 0 where
  pub names : List (List ℕ)
  pub procs : List Proc
  pub held : FileHolds r file names procs
  pub is : text ≡ sums_text (sums_of basis names procs) (all_sorts (sums_of basis names procs))
