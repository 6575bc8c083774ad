-- What was printed into a sink, piece after piece.
use Rattle.std.specs.Prelude.{ℕ, List, ◌++◌, Option}

-- The bytes that the sink had written at the start, where it tells them, its count of faults then, the name
-- of the reference to it, and the text printed since.
pub record Printing : Type 0 where
  pub written : Option (List ℕ)
  pub faults : ℕ
  pub sink : ℕ
  pub said : List ℕ

-- this text was printed next
unfoldable pub prints : Printing → List ℕ → Printing
prints p text = record p { said = p.said ++ text }
