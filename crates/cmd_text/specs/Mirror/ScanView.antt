-- Mirror of the scanner's values: the tokens and scans that they stand for.
use Rattle.std.specs.Prelude.{ℕ, List, [], ◌∷◌, ⊤, ◌<◌, ◌≤◌, None, slice_range, drop}
use Rattle.cmd_text.specs.declared.token.Token.{Token}
use Rattle.cmd_text.specs.declared.token.Token.TheVariants as code
use Rattle.cmd_text.specs.declared.token.Start.{Start}
use Rattle.cmd_text.specs.declared.token.Start.TheVariants.{Blank, Hash, Begin}
use Rattle.cmd_text.specs.declared.token.First.{First}
use Rattle.cmd_text.specs.declared.token.First.TheVariants.{Letter, Colon, Pipe, Bad, Stray, Sign}
use Rattle.cmd_text.specs.declared.file.Refusal.{Refusal}
use Rattle.cmd_text.specs.declared.scan.Found.{Found}
use Rattle.cmd_text.specs.declared.scan.Lexeme.{Lexeme}
use Rattle.cmd_text.specs.Token as spec
use Rattle.cmd_text.specs.Fault.{BadByte, BadToken}
use Rattle.cmd_text.specs.Source.{fault_of}
use Rattle.cmd_text.specs.Scan.{Scanned, then_token, faulty, Mode, Between, InComment, InWord, AfterColon, AfterBar, scan}

-- the token of these bytes
abbrev pub token_of : Token → List ℕ → spec.Token
token_of code.Let w = spec.Let
token_of code.Main w = spec.Main
token_of code.Pref w = spec.Pref
token_of code.Define w = spec.Define
token_of code.Dot w = spec.Dot
token_of code.Semi w = spec.Semi
token_of code.Bar w = spec.Bar
token_of code.Par w = spec.Par
token_of code.Open w = spec.Open
token_of code.Close w = spec.Close
token_of code.LeftSq w = spec.LeftSq
token_of code.RightSq w = spec.RightSq
token_of code.Star w = spec.Star
token_of code.Ask w = spec.Ask
token_of code.Bang w = spec.Bang
token_of code.Comma w = spec.Comma
token_of code.Slash w = spec.Slash
token_of code.End w = spec.End
token_of code.Word w = spec.Word w

abbrev pub lexeme_token : Lexeme → spec.Token
lexeme_token l = token_of l.token l.word.now

-- the scan after a byte that begins a token so
abbrev pub begun : First → ℕ → ℕ → (Mode → Scanned) → Scanned
begun Letter at b next = next (InWord at (b ∷ []))
begun Colon at b next = next (AfterColon at)
begun Pipe at b next = next (AfterBar at)
begun Bad at b next = faulty (BadToken at)
begun Stray at b next = faulty (BadByte at)
begun (Sign t) at b next = then_token (token_of t []) at (next Between)

abbrev pub started : Start → ℕ → ℕ → (Mode → Scanned) → Scanned
started Blank at b next = next Between
started Hash at b next = next InComment
started (Begin f) at b next = begun f at b next

-- not the end, and no word
abbrev pub IsPlain : Token → Type 0
IsPlain code.End = ⊥
IsPlain code.Word = ⊥
IsPlain t = ⊤

abbrev pub IsPlainFirst : First → Type 0
IsPlainFirst (Sign t) = IsPlain t
IsPlainFirst f = ⊤

abbrev pub IsPlainStart : Start → Type 0
IsPlainStart (Begin f) = IsPlainFirst f
IsPlainStart s = ⊤

-- what is scanned behind a token: nothing, behind the end
abbrev pub after : Token → ℕ → List ℕ → Scanned
after code.End next bs = record { toks = []; fault = None }
after t next bs = scan Between next (drop next bs)

-- this token and then what is scanned behind it
abbrev pub with_found : Found → List ℕ → Scanned
with_found f bs = then_token (token_of f.token (slice_range bs f.at f.next)) f.at (after f.token f.next bs)

-- no token more, and the fault that a refusal tells
abbrev pub with_refusal : Refusal → Scanned
with_refusal e = record { toks = []; fault = fault_of e }

-- a token ends behind the place where the scan began; the end of the text needs no byte
abbrev pub IsPast : Found → ℕ → Type 0
IsPast f from = past f.token
  where
    past : Token → Type 0
    past code.End = from ≤ f.next
    past t = from < f.next
