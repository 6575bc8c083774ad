-- Mirror of the reader that goes once from the left, over the machine of a file and the names so far.
use Rattle.std.specs.Prelude.{ℕ, nat_lt, List, [], ◌∷◌, Option, Some, None, Result, Ok, Err, if◌then◌else◌}
use Rattle.std.specs.Option.{option_and_then, option_map}
use Rattle.std.specs.Str.{bytes_eq}
use Rattle.indexmap.specs.IndexSet.{insert_key}
use Rattle.cmd_tree.specs.declared.limits.TheConstants.{MAX_OPEN_BRACKETS}
use Rattle.cmd_text.specs.Token.{Token}
use Rattle.cmd_text.specs.Mirror.Machine.{heard}
use Rattle.cmd_text.specs.File.{Placed}
use Rattle.cmd_text.specs.Names.{number_in}
use Rattle.cmd_text.specs.Scan.{Between, scan}
use Rattle.cmd_text.specs.Fault.{Fault, Unexpected, TooDeep}
use Rattle.cmd_text.specs.Mirror.Reader.{Spot, AtSentence, InProcess, step, open_brackets_at}

pub record Standing : Type 0 where
  pub names : List (List ℕ)
  pub spot : Spot

abbrev pub with_heard : List (List ℕ) → Option (List ℕ) → List (List ℕ)
with_heard ns None = ns
with_heard ns (Some n) = insert_key bytes_eq ns n

abbrev pub hear : List (List ℕ) → Spot → Token → List (List ℕ)
hear ns (InProcess q s) x = with_heard ns (heard s x)
hear ns s x = ns

abbrev pub go : Standing → Placed → Option Standing
go st x = option_map (λ t. record { names = hear st.names st.spot x.tok; spot = t }) (step (number_in (hear st.names st.spot x.tok)) st.spot x.tok (Some x.at))

abbrev pub reads : Standing → List Placed → Option Standing
reads st [] = Some st
reads st (x ∷ xs) = option_and_then (λ t. reads t xs) (go st x)

abbrev pub begin : Standing
begin = record { names = []; spot = AtSentence [] }

-- What becomes of a token: it is refused, or opens too many brackets, or the reader goes on.
abbrev pub judge : Placed → Option Standing → (Standing → Result Standing Fault) → Result Standing Fault
judge x None next = Err (Unexpected x.at)
judge x (Some t) next = if nat_lt MAX_OPEN_BRACKETS (open_brackets_at t.spot) then Err (TooDeep x.at) else next t

abbrev pub verdict : Standing → List Placed → Option Fault → Result Standing Fault
verdict st [] None = Ok st
verdict st [] (Some f) = Err f
verdict st (x ∷ xs) e = judge x (go st x) (λ t. verdict t xs e)

abbrev pub answer : List ℕ → Result Standing Fault
answer bytes = verdict begin (scan Between 0 bytes).toks (scan Between 0 bytes).fault
