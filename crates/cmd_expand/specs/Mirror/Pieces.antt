-- What is left of a line that is unfolded: pieces, the first of which is the last of the list.
use Rattle.std.specs.Prelude.{ℕ, ◌<◌, List, [], ◌∷◌, ◌++◌, get_or, ⊤}
use Rattle.cmd_tree.specs.declared.tree.Proc.{Proc}
use Rattle.cmd_rename.specs.Renaming.{ren_all}
use Rattle.cmd_rename.specs.Symbols.{symbols_of}
use Rattle.cmd_expand.specs.declared.unfolding.Piece.{Piece}
use Rattle.cmd_expand.specs.declared.unfolding.Piece.TheVariants.{Done, Rest}
use Rattle.cmd_expand.specs.Mirror.Plan.{assigned}

-- the processes ps, whose symbols in order have these numbers
abbrev pub numbered_by : List Proc → List ℕ → List Proc
numbered_by ps ns = ren_all (assigned (symbols_of ps) ns) ps

abbrev pub procs_of_piece : List (List Proc) → Piece → List Proc
procs_of_piece ms (Done p) = p ∷ []
procs_of_piece ms (Rest of ns) = numbered_by (get_or ms of []) ns.items

abbrev pub procs_of_stack : List (List Proc) → List Piece → List Proc
procs_of_stack ms [] = []
procs_of_stack ms (p ∷ ps) = procs_of_stack ms ps ++ procs_of_piece ms p

abbrev pub IsPieceBelow : ℕ → Piece → Type 0
IsPieceBelow n (Done p) = ⊤
IsPieceBelow n (Rest of ns) = of < n
