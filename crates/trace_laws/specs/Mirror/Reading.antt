-- Mirror of the reader of trace lists: each function gives what was read, or the number of the line that is refused.
use Rattle.std.specs.Prelude.{◌≡◌, ℕ, ◌+◌, ◌==◌, ◌&&◌, nat_lt, nat_le, replicate, ◌-◌, List, [], ◌∷◌, ◌++◌, length, codes, Option, Some, None, Result, Ok, Err, if◌then◌else◌, IfSome}
use Rattle.std.specs.List.{position_or_len}
use Rattle.std.specs.Str.{bytes_eq}
use Rattle.indexmap.specs.IndexSet.{insert_key}
use Rattle.cmd_tree.specs.declared.tree.Dir.{Dir}
use Rattle.cmd_tree.specs.declared.tree.Dir.TheVariants.{Input, Output}
use Rattle.cmd_tree.specs.Limits.{is_name}
use Rattle.text_lines.specs.Pieces.{pieces}
use Rattle.trace_laws.specs.declared.list.TraceRefusal.{TraceRefusal}
use Rattle.trace_laws.specs.ListText.{line_told}

abbrev pub and_then : {A B : Type 0} → Result A ℕ → (A → Result B ℕ) → Result B ℕ
and_then (Ok a) f = f a
and_then (Err n) f = Err n

-- the names so far, and these words behind them, each a name that is not yet there
abbrev pub with_names : ℕ → List (List ℕ) → List (List ℕ) → Result (List (List ℕ)) ℕ
with_names line names [] = Ok names
with_names line names (w ∷ ws) = if is_name w && nat_le (length names) (position_or_len (bytes_eq w) names) then with_names line (insert_key bytes_eq names w) ws else Err line

-- the word, and then names
abbrev pub with_header : ℕ → List ℕ → List (List ℕ) → List (List ℕ) → Result (List (List ℕ)) ℕ
with_header line word names [] = Err line
with_header line word names (w ∷ ws) = if bytes_eq w word then with_names line names ws else Err line

-- the names after a header, and the lines behind it
pub record Headed : Type 0 where
  pub names : List (List ℕ)
  pub lines : List (List ℕ)

-- the last piece of a text is no line, since no line feed stands behind it
abbrev pub headed : ℕ → List ℕ → List (List ℕ) → List (List ℕ) → Result Headed ℕ
headed line word names [] = Err line
headed line word names (l ∷ []) = Err line
headed line word names (l ∷ m ∷ ls) = and_then (with_header line word names (pieces 32 l)) (λ all. Ok (record { names = all; lines = m ∷ ls }))

-- the number of the name
abbrev pub symbol_of : ℕ → List (List ℕ) → List ℕ → Result ℕ ℕ
symbol_of line names w = if nat_lt (position_or_len (bytes_eq w) names) (length names) then Ok (position_or_len (bytes_eq w) names) else Err line

abbrev pub with_symbols : ℕ → List (List ℕ) → List ℕ → List (List ℕ) → Result (List ℕ) ℕ
with_symbols line names trace [] = Ok trace
with_symbols line names trace (w ∷ ws) = and_then (symbol_of line names w) (λ a. with_symbols line names (trace ++ a ∷ []) ws)

abbrev pub trace_of : ℕ → List (List ℕ) → List ℕ → Result (List ℕ) ℕ
trace_of line names [] = Ok []
trace_of line names (b ∷ bs) = with_symbols line names [] (pieces 32 (b ∷ bs))

abbrev pub with_traces : ℕ → List (List ℕ) → List (List ℕ) → List (List ℕ) → Result (List (List ℕ)) ℕ
with_traces line names traces [] = Err line
with_traces line names traces (l ∷ []) = if length l == 0 then Ok traces else Err line
with_traces line names traces (l ∷ m ∷ ls) = and_then (trace_of line names l) (λ t. with_traces (line + 1) names (traces ++ t ∷ []) (m ∷ ls))

-- a list, of whose names the first are inputs
pub record Listing : Type 0 where
  pub inputs : ℕ
  pub names : List (List ℕ)
  pub traces : List (List ℕ)

abbrev pub after_outputs : ℕ → Headed → Result Listing ℕ
after_outputs n k = and_then (with_traces 3 k.names [] k.lines) (λ ts. Ok (record { inputs = n; names = k.names; traces = ts }))

abbrev pub after_inputs : Headed → Result Listing ℕ
after_inputs h = and_then (headed 2 (codes "out") h.names h.lines) (after_outputs (length h.names))

abbrev pub listed : List (List ℕ) → Result Listing ℕ
listed lines = and_then (headed 1 (codes "in") [] lines) after_inputs

abbrev pub listing : List ℕ → Result Listing ℕ
listing bytes = listed (pieces 10 bytes)

abbrev pub dirs_of : Listing → List Dir
dirs_of r = replicate r.inputs Input ++ replicate (length r.names - r.inputs) Output

-- a refusal that tells a line tells the one that is refused
abbrev pub Tells : {A : Type 0} → Result A ℕ → TraceRefusal → Type 0
Tells r e = IfSome (line_told e) (λ n. r ≡ Err n)
