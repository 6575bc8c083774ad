-- What compiling a file promises where the shelf tells its content and out tells its bytes, and nothing failed.
use Rattle.std.specs.Prelude.{◌≡◌, ◌≢◌, ◌↔◌, ℕ, List, ◌++◌, Some}
use Rattle.count_sum.specs.declared.counts.Basis.{Basis}
use Rattle.replay.specs.Probes.{View}
use Rattle.di_top.specs.declared.outcome.Outcome.{Outcome}
use Rattle.di_top.specs.declared.outcome.Outcome.TheVariants.{Done, NoMemory}
use Rattle.di_top.specs.Requests.{Compile}
use Rattle.di_top.specs.Calls.{Reading, Change, Unread, Failed}
use Rattle.di_top.specs.CommandFiles.{IsSuited}
use Rattle.di_top.specs.CompileForm.{Compiles, IsCompiled}
use Rattle.di_top.specs.Promised.{Promise}

-- the netlist of the content was appended
pub record Appended (basis : Basis) (content before : List ℕ) (out : Change) : Type 0 where
  pub text : List ℕ
  pub compiled : IsCompiled basis content text
  pub gained : out.new ≡ Some (before ++ text)

-- The file compiles exactly where its content is a text of an admitted command that compiles. Then out gained its netlist,
-- and nothing else ever.
pub record Headline (basis : Basis) (content before : List ℕ) (out : Change) (outcome : Outcome) : Type 0 where
  pub exactly : (outcome ≡ Done) ↔ IsSuited (Compiles basis) content
  pub done : outcome ≡ Done → Appended basis content before out
  pub stopped : outcome ≢ Done → out.new ≡ Some before

-- a call with the words `compile wide F` or `compile two F` in which memory was not missing and no count rose
pub record Faultless (basis : Basis) (r : Reading) (file content before : List ℕ) (out say : Change) (back : List View) (outcome : Outcome) : Type 0 where
  pub promise : Promise (Some (Compile basis file)) r out say back outcome
  pub content_told : r.content file ≡ Some content
  pub out_told : out.old ≡ Some before
  pub read : Unread r file → ⊥
  pub written : Failed out → ⊥
  pub said : Failed say → ⊥
  pub memory : outcome ≢ NoMemory
