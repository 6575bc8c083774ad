-- Bytes are one text or have a fault, and a text means one thing.
use Rattle.std.proofs.Common.{◌≡◌, ℕ, List, Err, Result, sym, ◌∙◌, ap}
use Rattle.cmd_text.specs.Source.{IsFaultOfBytes}
use Rattle.cmd_text.specs.Fault.{Fault}
use Rattle.cmd_text.specs.Scan.{Between, scan}
use Rattle.cmd_text.proofs.Scanned.{proper_scan}
use Rattle.cmd_text.proofs.ReadExactly.{ended_well, read_text_exactly, read_fault_exactly, one_file}
use Rattle.cmd_expand.specs.Expansion.{Meant, expansion}
use Rattle.cmd_expand.specs.Pairs.{Refused}
use Rattle.di_top.specs.Sources.{Source}

pub one_source : (bytes : List ℕ) (a b : Result Meant Refused) → Source bytes a → Source bytes b → a ≡ b
one_source bytes a b s t =
    let o = one_file (scan Between 0 bytes).toks s.names t.names s.sentences t.sentences (proper_scan bytes Between 0 tt).tokens s.read.text.text t.read.text.text in
    sym s.same ∙ ap (λ ns. expansion ns s.sentences) o.0 ∙ ap (λ ss. expansion t.names ss) o.1 ∙ t.same

-- bytes with a fault are no text
pub no_source : (bytes : List ℕ) (f : Fault) (is : Result Meant Refused) → IsFaultOfBytes bytes f → Source bytes is → ⊥
no_source bytes f is h s = absurd (ok_err (sym ((read_text_exactly bytes s.names s.sentences).1 (s.read.text, s.read.shallow)) ∙ (read_fault_exactly bytes f).1 h))
  where
    ok_err : ended_well s.names s.sentences ≡ Err f → ⊥
    ok_err e = cc
