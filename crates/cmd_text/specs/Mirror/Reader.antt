-- Mirror of the machine that reads the tokens of a file once from the left.
use Rattle.std.specs.Prelude.{ℕ, List, [], ◌∷◌, ◌++◌, Option, Some, None, ⊤}
use Rattle.std.specs.Option.{option_map}
use Rattle.cmd_text.specs.declared.file.Sentence.{Sentence}
use Rattle.cmd_text.specs.declared.file.Factor.{Factor}
use Rattle.cmd_text.specs.declared.file.Factor.TheVariants.{Own, Named}
use Rattle.cmd_text.specs.declared.file.Rename.{Rename}
use Rattle.cmd_text.specs.Token.{Token, Let, Main, Pref, Define, Dot, Par, LeftSq, RightSq, Comma, Slash, End, Word}
use Rattle.cmd_text.specs.Process.{proc_of}
use Rattle.cmd_text.specs.File.{Use, Head, sentence_of}
use Rattle.cmd_text.specs.Mirror.Machine.{State, AtForm, AtBody, AtItem, AtMark, AfterItem, AtBurst, AtBurstMark, AfterBurst, AtSecond, Closed}
use Rattle.cmd_text.specs.Mirror.Machine as machine

-- the sentences before, and the head and the factors of this one
pub record Partly : Type 0 where
  pub before : List Sentence
  pub head : Head
  pub factors : List Factor

-- where the reader is, with what it has read
pub data Spot : Type 0 where
  AtSentence : List Sentence → Spot
  AtName : List Sentence → Spot
  AtDefine : List Sentence → Head → Spot
  AtFactor : Partly → Spot
  InProcess : Partly → State → Spot
  AfterName : Partly → Use → Spot
  AtFresh : Partly → Use → Spot
  AtSlash : Partly → Use → List ℕ → ℕ → Spot
  AtWas : Partly → Use → List ℕ → ℕ → Spot
  AfterPair : Partly → Use → Spot
  AfterFactor : Partly → Spot
  AtEnd : List Sentence → Spot
  Finished : List Sentence → Spot

abbrev pub with_factor : Partly → Factor → Partly
with_factor q f = record q { factors = q.factors ++ f ∷ [] }

abbrev pub rename_of : List ℕ → ℕ → List ℕ → ℕ → Rename
rename_of n p m r = record { fresh = n; fresh_at = p; was = m; was_at = r }

abbrev pub with_rename : Use → Rename → Use
with_rename u p = record u { renames = u.renames ++ p ∷ [] }

-- a process that is closed is a factor
abbrev pub put : Partly → State → Spot
put q (Closed w) = AfterFactor (with_factor q (Own (proc_of w)))
put q s = InProcess q s

abbrev pub with_sentence : Partly → List Sentence
with_sentence q = q.before ++ sentence_of q.head q.factors ∷ []

-- after the sentence without a name nothing comes but the end
abbrev pub after_sentence : Option (List ℕ) → List Sentence → Spot
after_sentence None ss = AtEnd ss
after_sentence (Some n) ss = AtSentence ss

abbrev pub ended : Partly → Spot
ended q = after_sentence q.head.name (with_sentence q)

-- a token without a place is refused where the place is kept
abbrev pub placed : Option ℕ → (ℕ → Spot) → Option Spot
placed p f = option_map f p

-- number: the number of each name
module _ (number : List ℕ → ℕ) where
  abbrev pub step : Spot → Token → Option ℕ → Option Spot
  step (AtSentence ss) Let p = Some (AtName ss)
  step (AtSentence ss) Main p = placed p (λ r. AtDefine ss (record { name = None; at = r }))
  step (AtName ss) (Word n) p = placed p (λ r. AtDefine ss (record { name = Some n; at = r }))
  step (AtDefine ss h) Define p = Some (AtFactor (record { before = ss; head = h; factors = [] }))
  step (AtFactor q) Pref p = Some (InProcess q AtForm)
  step (AtFactor q) (Word n) p = placed p (λ r. AfterName q (record { name = n; at = r; renames = [] }))
  step (InProcess q s) x p = option_map (put q) (machine.step number s x)
  step (AfterName q u) LeftSq p = Some (AtFresh q u)
  step (AfterName q u) Par p = Some (AtFactor (with_factor q (Named u)))
  step (AfterName q u) Dot p = Some (ended (with_factor q (Named u)))
  step (AtFresh q u) (Word n) p = placed p (λ r. AtSlash q u n r)
  step (AtSlash q u n r) Slash p = Some (AtWas q u n r)
  step (AtWas q u n r) (Word m) p = placed p (λ t. AfterPair q (with_rename u (rename_of n r m t)))
  step (AfterPair q u) Comma p = Some (AtFresh q u)
  step (AfterPair q u) RightSq p = Some (AfterFactor (with_factor q (Named u)))
  step (AfterFactor q) Par p = Some (AtFactor q)
  step (AfterFactor q) Dot p = Some (ended q)
  step (AtEnd ss) End p = Some (Finished ss)
  step s x p = None

-- the place is in a process
abbrev pub IsWithin : Spot → Type 0
IsWithin (InProcess q s) = ⊤
IsWithin s = ⊥

-- how many round brackets are open
abbrev pub open_brackets_at : Spot → ℕ
open_brackets_at (InProcess q s) = machine.open_brackets s
open_brackets_at s = 0
