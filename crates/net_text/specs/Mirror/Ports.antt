-- Mirror of the walk that prints the port lines: at the first mark of each symbol its line is printed.
use Rattle.std.specs.Prelude.{ℕ, ◌+◌, List, [], ◌∷◌, ◌++◌, codes, nat_eq, if◌then◌else◌}
use Rattle.cmd_tree.specs.declared.tree.Mark.{Mark}
use Rattle.cmd_text.specs.Canonical.{mark_text}
use Rattle.text_lines.specs.Lines.{numbered_line}
use Rattle.di_io.specs.Printing.{Printing, prints}

-- what is printed, and how many symbols were met
abbrev pub PortWalk : Type 0
PortWalk = Printing × ℕ

-- the line of a mark's symbol
unfoldable pub mark_line : List (List ℕ) → Mark → List ℕ
mark_line names m = codes "port " ++ mark_text names m ++ numbered_line (codes " ") m.sym.0

-- one mark more
unfoldable pub walk_mark : List (List ℕ) → PortWalk → Mark → PortWalk
walk_mark names w m = if nat_eq m.sym.0 w.1 then (prints w.0 (mark_line names m), w.1 + 1) else w

unfoldable pub walk_marks : List (List ℕ) → PortWalk → List Mark → PortWalk
walk_marks names w [] = w
walk_marks names w (m ∷ ms) = walk_marks names (walk_mark names w m) ms
