-- A step from each place, by any numbering and behind any sentences, is the step from one place.
use Rattle.std.proofs.Common.{◌≡◌, ℕ, List, Option, Result, Ok, Err, ◌∙◌, ap}
use Rattle.std.specs.Prelude.{IfOk}
use Rattle.cmd_text.specs.declared.file.Sentence.{Sentence}
use Rattle.cmd_text.specs.declared.token.Token as kind
use Rattle.cmd_text.specs.declared.spot.Spot as code
use Rattle.cmd_text.specs.Token.{Token}
use Rattle.cmd_text.specs.Mirror.ScanView.{token_of}
use Rattle.cmd_text.specs.Mirror.Reader.{step}
use Rattle.cmd_text.specs.Mirror.ReaderView.{spot_of, Leads, LeadsBehind}

module _ (ss : List Sentence) (s u : code.Spot) (same : s ≡ u) where
  pub led_to : (x : Token) (p : Option ℕ) (o : Option code.Spot) → Leads (λ ts. spot_of ts u) x p o → LeadsBehind (spot_of ss s) x p ss o
  led_to x p o h number = ap (λ v. step number (spot_of ss v) x p) same ∙ h number ss

  pub led : (x : Token) (p : Option ℕ) {E : Type 0} (r : Result (Option code.Spot) E) → IfOk r (Leads (λ ts. spot_of ts u) x p) → IfOk r (LeadsBehind (spot_of ss s) x p ss)
  led x p (Ok o) h = led_to x p o h
  led x p (Err e) h = tt

  -- where the token's bytes and its place do not matter
  pub led_any : (p : Option ℕ) (t : kind.Token) (w : List ℕ) {E : Type 0} (r : Result (Option code.Spot) E)
      → IfOk r (λ o. (word : List ℕ) (q : Option ℕ) → Leads (λ ts. spot_of ts u) (token_of t word) q o) → IfOk r (LeadsBehind (spot_of ss s) (token_of t w) p ss)
  led_any p t w (Ok o) h = led_to (token_of t w) p o (h w p)
  led_any p t w (Err e) h = tt

  pub led_behind : (p : Option ℕ) (t : kind.Token) (w : List ℕ) {E : Type 0} (ts : List Sentence) (r : Result (Option code.Spot) E)
      → IfOk r (λ o. (word : List ℕ) (q : Option ℕ) → LeadsBehind (spot_of ss u) (token_of t word) q ts o) → IfOk r (LeadsBehind (spot_of ss s) (token_of t w) p ts)
  led_behind p t w ts (Ok o) h = λ number. ap (λ v. step number (spot_of ss v) (token_of t w) p) same ∙ h w p number
  led_behind p t w ts (Err e) h = tt
