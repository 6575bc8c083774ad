-- A step by each numbering, from the draft's mode, is the step from the draft by one.
use Rattle.std.proofs.Common.{◌≡◌, ℕ, Bool, List, Result, Ok, Err, ◌∙◌, ap}
use Rattle.std.specs.Prelude.{IfOk}
use Rattle.cmd_text.specs.declared.token.Token as kind
use Rattle.cmd_text.specs.declared.draft.Draft.{Draft}
use Rattle.cmd_text.specs.declared.draft.Mode.{Mode}
use Rattle.cmd_text.specs.Token.{Token}
use Rattle.cmd_text.specs.Mirror.Machine.{step}
use Rattle.cmd_text.specs.Mirror.ScanView.{token_of}
use Rattle.cmd_text.specs.Mirror.Drafts.{state_of, state_at, only_if, Takes}

module _ (d e : Draft) (m : Mode) (same : d.mode ≡ m) (number : List ℕ → ℕ) where
  pub taken_to : (x : Token) (b : Bool) → Takes (state_at m d) x b e → step number (state_of d) x ≡ only_if b (state_of e)
  taken_to x b h = ap (λ k. step number (state_at k d) x) same ∙ h number

  pub taken : (x : Token) {E : Type 0} (r : Result Bool E) → IfOk r (λ b. Takes (state_at m d) x b e) → IfOk r (λ b. step number (state_of d) x ≡ only_if b (state_of e))
  taken x (Ok b) h = taken_to x b h
  taken x (Err u) h = tt

  -- where the token's bytes do not matter
  pub taken_any : (t : kind.Token) (w : List ℕ) {E : Type 0} (r : Result Bool E) → IfOk r (λ b. (word : List ℕ) → Takes (state_at m d) (token_of t word) b e) → IfOk r (λ b. step number (state_of d) (token_of t w) ≡ only_if b (state_of e))
  taken_any t w (Ok b) h = taken_to (token_of t w) b (h w)
  taken_any t w (Err u) h = tt
