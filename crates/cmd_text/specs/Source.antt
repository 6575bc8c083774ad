-- What a text of bytes is, and which fault bytes have.
use Rattle.std.specs.Prelude.{◌≡◌, ℕ, List, Option, Some, None}
use Rattle.cmd_text.specs.declared.file.Sentence.{Sentence}
use Rattle.cmd_text.specs.declared.file.Refusal.{Refusal}
use Rattle.cmd_text.specs.declared.file.Refusal.TheVariants as told
use Rattle.cmd_text.specs.Scan.{Between, scan}
use Rattle.cmd_text.specs.Text.{tokens, IsText}
use Rattle.cmd_text.specs.Fault.{Fault, BadByte, BadToken, Unexpected, NameTooLong, TooDeep, IsShallow, IsFault}

-- the bytes are a text of these sentences over these names
pub record IsTextOfBytes (bytes : List ℕ) (names : List (List ℕ)) (ss : List Sentence) : Type 0 where
  pub well : (scan Between 0 bytes).fault ≡ None
  pub text : IsText (scan Between 0 bytes).toks names ss

-- no more round brackets are open at once than may be
abbrev pub IsShallowText : List ℕ → Type 0
IsShallowText bytes = IsShallow 0 (tokens (scan Between 0 bytes).toks)

-- the fault of the bytes
abbrev pub IsFaultOfBytes : List ℕ → Fault → Type 0
IsFaultOfBytes bytes f = IsFault (scan Between 0 bytes).toks (scan Between 0 bytes).fault f

-- the fault that a refusal tells; a lack of memory is none
abbrev pub fault_of : Refusal → Option Fault
fault_of (told.BadByte at) = Some (BadByte at)
fault_of (told.BadToken at) = Some (BadToken at)
fault_of (told.Unexpected at) = Some (Unexpected at)
fault_of (told.NameTooLong at) = Some (NameTooLong at)
fault_of (told.TooDeep at) = Some (TooDeep at)
fault_of told.NoMemory = None
