-- One step of the reader.
use Rattle.std.proofs.Common.{◌≡◌, ℕ, ◌+◌, List, [], ◌∷◌, ◌++◌, Option, Some, None, Result, Ok, Err, sym, ◌∙◌, ap}
use Rattle.std.specs.Option.{IfSome}
use Rattle.trace_laws.specs.declared.list.TraceRefusal.{TraceRefusal}
use Rattle.trace_laws.specs.ListText.{line_told}
use Rattle.trace_laws.specs.Mirror.Reading.{and_then, with_header, headed, trace_of, with_traces, Tells}
use Rattle.text_lines.specs.Pieces.{pieces}
use Rattle.text_lines.proofs.Cuts.{cut}

pub headed_step : (line : ℕ) (word : List ℕ) (names : List (List ℕ)) (l rest : List ℕ)
    → headed line word names (l ∷ pieces 10 rest) ≡ and_then (with_header line word names (pieces 32 l)) (λ all. Ok (record { names = all; lines = pieces 10 rest }))
headed_step line word names l rest =
    let c = cut 10 rest in
    ap (λ ps. headed line word names (l ∷ ps)) c.is ∙ ap (λ ps. and_then (with_header line word names (pieces 32 l)) (λ all. Ok (record { names = all; lines = ps }))) (sym c.is)

pub traces_step : (line : ℕ) (names ts : List (List ℕ)) (l rest : List ℕ)
    → with_traces line names ts (l ∷ pieces 10 rest) ≡ and_then (trace_of line names l) (λ t. with_traces (line + 1) names (ts ++ t ∷ []) (pieces 10 rest))
traces_step line names ts l rest =
    let c = cut 10 rest in
    ap (λ ps. with_traces line names ts (l ∷ ps)) c.is ∙ ap (λ ps. and_then (trace_of line names l) (λ t. with_traces (line + 1) names (ts ++ t ∷ []) ps)) (sym c.is)

module _ {A B : Type 0} (r : Result A ℕ) (f : A → Result B ℕ) where
  told_by : (o : Option ℕ) → IfSome o (λ n. r ≡ Err n) → IfSome o (λ n. and_then r f ≡ Err n)
  told_by None h = tt
  told_by (Some n) h = ap (λ q. and_then q f) h

  pub tells_then : (e : TraceRefusal) → Tells r e → Tells (and_then r f) e
  tells_then e h = told_by (line_told e) h
