-- The text of a list of traces, and its first faulty line.
use Rattle.std.specs.Prelude.{◌≡◌, ◌⊎◌, ◌+◌, ◌<◌, ℕ, ◌≢◌, IsTrue, List, [], ◌∷◌, ◌++◌, length, map, replicate, codes, slice_index_or, Option, Some, None}
use Rattle.std.specs.List.{IsDistinct, AllByRecursion}
use Rattle.std.specs.Str.{bytes_eq}
use Rattle.cmd_tree.specs.declared.tree.Dir.{Dir}
use Rattle.cmd_tree.specs.declared.tree.Dir.TheVariants.{Input, Output}
use Rattle.cmd_tree.specs.Limits.{is_name}
use Rattle.text_lines.specs.Pieces.{line_of}
use Rattle.trace_laws.specs.declared.list.TraceRefusal.{TraceRefusal}
use Rattle.trace_laws.specs.declared.list.TraceRefusal.TheVariants as told

-- each line, and a line feed behind it
abbrev pub text_of : List (List ℕ) → List ℕ
text_of [] = []
text_of (line ∷ lines) = line ++ 10 ∷ text_of lines

-- the line of a trace of symbols with these names; that of the empty trace is empty
abbrev pub trace_line : List (List ℕ) → List ℕ → List ℕ
trace_line names trace = line_of (map (λ a. slice_index_or names a []) trace)

-- the line of the inputs, the line of the outputs, and a line for each trace
abbrev pub lines_of : List (List ℕ) → List (List ℕ) → List (List ℕ) → List (List ℕ)
lines_of inputs outputs traces = line_of (codes "in" ∷ inputs) ∷ line_of (codes "out" ∷ outputs) ∷ map (trace_line (inputs ++ outputs)) traces

-- The bytes are the text of the list with these names, directions and traces.
pub record IsListText (bytes : List ℕ) (names : List (List ℕ)) (dirs : List Dir) (traces : List (List ℕ)) : Type 0 where
  pub inputs : List (List ℕ)
  pub outputs : List (List ℕ)
  -- the symbols are the inputs and then the outputs, in order
  pub numbered : names ≡ inputs ++ outputs
  pub directed : dirs ≡ replicate (length inputs) Input ++ replicate (length outputs) Output
  -- the names have the form of names, and differ
  pub formed : AllByRecursion (λ n. IsTrue (is_name n)) names
  pub distinct : IsDistinct bytes_eq names
  -- the traces have no other symbols
  pub known : AllByRecursion (AllByRecursion (λ a. a < length names)) traces
  pub text : bytes ≡ text_of (lines_of inputs outputs traces)

-- some text of a list begins with these bytes
pub record Begins (bytes : List ℕ) : Type 0 where
  pub more : List ℕ
  pub names : List (List ℕ)
  pub dirs : List Dir
  pub traces : List (List ℕ)
  pub whole : IsListText (bytes ++ more) names dirs traces

-- there is no line feed in the line
abbrev pub IsLine : List ℕ → Type 0
IsLine line = AllByRecursion (λ b. b ≢ 10) line

-- The lines before line n begin a text. With line n they no longer do, or that line has no line feed behind it and
-- ends bytes that are no text.
pub record IsFaultyLine (bytes : List ℕ) (n : ℕ) : Type 0 where
  pub before : List (List ℕ)
  pub line : List ℕ
  pub number : n ≡ length before + 1
  pub are_lines : AllByRecursion IsLine (before ++ line ∷ [])
  pub begins : Begins (text_of before)
  pub faulty : ((rest : List ℕ) × (bytes ≡ text_of (before ++ line ∷ []) ++ rest) × (Begins (text_of (before ++ line ∷ [])) → ⊥))
      ⊎ ((bytes ≡ text_of before ++ line) × ((names : List (List ℕ)) (dirs : List Dir) (traces : List (List ℕ)) → IsListText bytes names dirs traces → ⊥))

-- the line that a refusal tells; a lack of memory is none
abbrev pub line_told : TraceRefusal → Option ℕ
line_told (told.BadLine n) = Some n
line_told told.NoMemory = None
