-- A sink in memory, and what its puts do.
use Rattle.std.specs.Prelude.{ℕ, ◌+◌, ◌-◌, ◌^◌, if◌then◌else◌, List, [], ◌∷◌, ◌++◌, length, take, Option, Some, None, is_some, nat_eq, nat_lt}
use Rattle.std.specs.Option.{option_map_or}
use Rattle.di_io.specs.Faults.{counted}

-- the bytes written, how many may be written in all, the puts that fail, each with the number of
-- bytes after which it does, and how many puts there were and how many failed
pub record SinkState : Type 0 where
  pub written : List ℕ
  pub room : ℕ
  pub fails : List (ℕ × ℕ)
  pub puts : ℕ
  pub faults : ℕ

-- the second number of the first pair that begins with this number
abbrev pub cut_of : List (ℕ × ℕ) → ℕ → Option ℕ
cut_of [] put = None
cut_of (fail ∷ fails) put = if nat_eq fail.0 put then Some fail.1 else cut_of fails put

-- after how many bytes the next put is asked to fail
abbrev pub asked_cut : SinkState → Option ℕ
asked_cut sink = if nat_lt sink.puts (2 ^ 64 - 1) then cut_of sink.fails (sink.puts + 1) else None

-- after how many bytes the next put fails, if it is of this text: none where it doesn't fail
abbrev pub next_cut : SinkState → List ℕ → Option ℕ
next_cut sink text =
    if nat_lt sink.room (length sink.written + length text) then Some 0 else asked_cut sink

-- what the next put appends, if it is of this text
abbrev pub next_front : SinkState → List ℕ → List ℕ
next_front sink text = option_map_or (λ cut. take cut text) (next_cut sink text) text

-- the count of faults after a put of this text
abbrev pub next_faults : SinkState → List ℕ → ℕ
next_faults sink text = if is_some (next_cut sink text) then counted sink.faults else sink.faults

-- the sink after a put of this text
abbrev pub after_put : SinkState → List ℕ → SinkState
after_put sink text = record sink {
  written = sink.written ++ next_front sink text;
  puts = counted sink.puts;
  faults = next_faults sink text;
}
