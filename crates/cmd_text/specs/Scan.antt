-- The tokens of a text: each as long as it can be, with the place of its first byte.
use Rattle.std.specs.Prelude.{ℕ, ◌+◌, Bool, ◌&&◌, ◌||◌, nat_le, nat_lt, nat_eq, List, [], ◌∷◌, ◌++◌, length, codes, Option, Some, None, if◌then◌else◌}
use Rattle.std.specs.Str.{bytes_eq}
use Rattle.cmd_tree.specs.declared.limits.TheConstants.{MAX_NAME_BYTES}
use Rattle.cmd_tree.specs.Limits.{is_letter, is_tail}
use Rattle.cmd_text.specs.Token.{Token, Let, Main, Pref, Define, Dot, Semi, Bar, Par, Open, Close, LeftSq, RightSq, Star, Ask, Bang, Comma, Slash, End, Word}
use Rattle.cmd_text.specs.File.{Placed}
use Rattle.cmd_text.specs.Fault.{Fault, BadByte, BadToken, NameTooLong}

-- the tokens up to the first faulty one, and its fault; where there is none, the last token is the end of the text
pub record Scanned : Type 0 where
  pub toks : List Placed
  pub fault : Option Fault

abbrev pub then_token : Token → ℕ → Scanned → Scanned
then_token t at s = record s { toks = record { tok = t; at = at } ∷ s.toks }

abbrev pub faulty : Fault → Scanned
faulty f = record { toks = []; fault = Some f }

abbrev pub end_at : ℕ → Scanned
end_at at = record { toks = record { tok = End; at = at } ∷ []; fault = None }

-- blank, tab, line feed, carriage return
abbrev pub is_blank : ℕ → Bool
is_blank b = nat_eq b 32 || nat_eq b 9 || nat_eq b 10 || nat_eq b 13

abbrev pub is_digit : ℕ → Bool
is_digit b = nat_le 48 b && nat_le b 57

-- what may stand in a comment
abbrev pub is_comment : ℕ → Bool
is_comment b = (nat_le 32 b && nat_le b 126) || nat_eq b 9 || nat_eq b 13

abbrev pub sign : ℕ → Option Token
sign b =
    if nat_eq b 46 then Some Dot
    else if nat_eq b 59 then Some Semi
    else if nat_eq b 40 then Some Open
    else if nat_eq b 41 then Some Close
    else if nat_eq b 91 then Some LeftSq
    else if nat_eq b 93 then Some RightSq
    else if nat_eq b 42 then Some Star
    else if nat_eq b 63 then Some Ask
    else if nat_eq b 33 then Some Bang
    else if nat_eq b 44 then Some Comma
    else if nat_eq b 47 then Some Slash
    else None

-- a word of the grammar, or a name
abbrev pub word : List ℕ → Token
word w = if bytes_eq w (codes "let") then Let else if bytes_eq w (codes "main") then Main else if bytes_eq w (codes "pref") then Pref else Word w

abbrev pub then_word : ℕ → List ℕ → Scanned → Scanned
then_word at w s = if nat_lt MAX_NAME_BYTES (length w) then faulty (NameTooLong at) else then_token (word w) at s

-- where the scan is: between tokens, in a comment, in a word, behind a `:`, or behind a `|`
pub data Mode : Type 0 where
  Between : Mode
  InComment : Mode
  InWord : ℕ → List ℕ → Mode
  AfterColon : ℕ → Mode
  AfterBar : ℕ → Mode

abbrev pub then_sign : Option Token → ℕ → Scanned → Scanned
then_sign None at s = faulty (BadByte at)
then_sign (Some t) at s = then_token t at s

-- the byte b at a place where a token may begin
abbrev pub start : ℕ → ℕ → (Mode → Scanned) → Scanned
start at b next =
    if is_blank b then next Between
    else if nat_eq b 35 then next InComment
    else if is_letter b then next (InWord at (b ∷ []))
    else if nat_eq b 58 then next (AfterColon at)
    else if nat_eq b 124 then next (AfterBar at)
    else if is_digit b || nat_eq b 95 then faulty (BadToken at)
    else then_sign (sign b) at (next Between)

abbrev pub scan : Mode → ℕ → List ℕ → Scanned
scan Between at [] = end_at at
scan Between at (b ∷ bs) = start at b (λ m. scan m (at + 1) bs)
scan InComment at [] = end_at at
scan InComment at (b ∷ bs) = if nat_eq b 10 then scan Between (at + 1) bs else if is_comment b then scan InComment (at + 1) bs else faulty (BadByte at)
scan (InWord p w) at [] = then_word p w (end_at at)
scan (InWord p w) at (b ∷ bs) = if is_tail b then scan (InWord p (w ++ b ∷ [])) (at + 1) bs else then_word p w (start at b (λ m. scan m (at + 1) bs))
scan (AfterColon p) at [] = faulty (BadToken p)
scan (AfterColon p) at (b ∷ bs) = if nat_eq b 61 then then_token Define p (scan Between (at + 1) bs) else faulty (BadToken p)
scan (AfterBar p) at [] = then_token Bar p (end_at at)
scan (AfterBar p) at (b ∷ bs) = if nat_eq b 124 then then_token Par p (scan Between (at + 1) bs) else then_token Bar p (start at b (λ m. scan m (at + 1) bs))

-- the bytes of a token
abbrev pub bytes_of : Token → List ℕ
bytes_of Let = codes "let"
bytes_of Main = codes "main"
bytes_of Pref = codes "pref"
bytes_of Define = codes ":="
bytes_of Dot = codes "."
bytes_of Semi = codes ";"
bytes_of Bar = codes "|"
bytes_of Par = codes "||"
bytes_of Open = codes "("
bytes_of Close = codes ")"
bytes_of LeftSq = codes "["
bytes_of RightSq = codes "]"
bytes_of Star = codes "*"
bytes_of Ask = codes "?"
bytes_of Bang = codes "!"
bytes_of Comma = codes ","
bytes_of Slash = codes "/"
bytes_of End = []
bytes_of (Word n) = n

-- with nothing between
abbrev pub spelled : List Token → List ℕ
spelled [] = []
spelled (t ∷ ts) = bytes_of t ++ spelled ts
