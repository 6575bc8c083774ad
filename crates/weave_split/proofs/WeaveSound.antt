-- The network of a weave has no hazard.
use Rattle.std.proofs.Common.{ℕ, List, arith}
use Rattle.net_laws.proofs.Webs.{WebSound}
use Rattle.net_laws.proofs.Told.{Tends, web_sound}
use Rattle.weave_split.specs.WeaveChart.{Wire, Take, Copy, Back, Made, Ask, Return, Token, Give, Name, Ties}
use Rattle.weave_split.proofs.WeaveWeb.{Real, web, Tied, lawful}
use Rattle.weave_split.proofs.WeaveLedger.{Low}
use Rattle.weave_split.proofs.WeaveTraces.{traces_begin}
use Rattle.weave_split.proofs.WeaveKept.{Kept}
use Rattle.weave_split.proofs.WeaveSends.{sends}
use Rattle.weave_split.proofs.WeaveLands.{lands}
use Rattle.weave_split.proofs.WeaveSums.{sum_zero}

low_begin : (g : Ties) (w : Wire) → Low g (λ v. 0) 0 w
low_begin g (Take s) = tt
low_begin g (Copy s p) = omega arith
low_begin g (Back s p) = omega arith
low_begin g (Made s p) = tt
low_begin g (Ask s) = λ p a. omega arith
low_begin g (Return p) = omega (arith, sum_zero (g.returns p))
low_begin g (Token p) = omega arith
low_begin g (Give s) = omega arith

module _ (g : Ties) (whole : List ℕ → Type 0) (traces : ℕ → List ℕ → Type 0) (tied : Tied g whole traces) where
  pub kept : Tends Name Wire (web g whole traces) (Real g) (Kept g whole traces tied)
  kept = record {
    begins = record {
      known = λ n. tt;
      close = traces_begin g whole traces tied;
      ledger = record { low = low_begin g; lent = λ p h. omega (arith, sum_zero (g.requests p)) };
    };
    sends = λ t w f i r. sends g whole traces tied t f i w r;
    lands = λ t w f i r e. lands g whole traces tied t f i w r e;
  }

pub weave_sound : (g : Ties) (whole : List ℕ → Type 0) (traces : ℕ → List ℕ → Type 0) → Tied g whole traces → WebSound (web g whole traces)
weave_sound g whole traces tied =
    web_sound Name Wire (web g whole traces) (Real g) (Kept g whole traces tied) (lawful g whole traces) (kept g whole traces tied)
