-- The reader's answer on bytes is the text that they are, or their fault.
use Rattle.std.proofs.Common.{◌≡◌, ℕ, List, [], ◌∷◌, Option, Some, None, Result, Ok, Err, refl, sym, ◌∙◌, ap, subst}
use Rattle.std.specs.Prelude.{⊤, ◌↔◌}
use Rattle.std.specs.Option.{IfSome, option_and_then, option_map}
use Rattle.std.specs.List.{AllByRecursion}
use Rattle.cmd_text.specs.declared.file.Sentence.{Sentence}
use Rattle.cmd_text.specs.Token.{End}
use Rattle.cmd_text.specs.File.{Placed}
use Rattle.cmd_text.specs.Text.{IsToken, IsText}
use Rattle.cmd_text.specs.Fault.{Fault}
use Rattle.cmd_text.specs.Names.{number_in}
use Rattle.cmd_text.specs.Scan.{Between, scan}
use Rattle.cmd_text.specs.Source.{IsTextOfBytes, IsShallowText, IsFaultOfBytes}
use Rattle.cmd_text.specs.Mirror.Reader.{Spot, AtSentence, AtName, AtDefine, AtFactor, InProcess, AfterName, AtFresh, AtSlash, AtWas, AfterPair, AfterFactor, AtEnd, Finished, put, step}
use Rattle.cmd_text.specs.Mirror.Reading.{Standing, go, reads, begin, answer}
use Rattle.cmd_text.proofs.FileTaken.{nothing, same_some}
use Rattle.cmd_text.proofs.ReaderSteps.{Gone, gone, at_some, read_text, text_read}
use Rattle.cmd_text.proofs.Refusals.{end_refused}
use Rattle.cmd_text.proofs.Verdicts.{fine, fine_back, stops, stops_back, fault_of, stop_of}
use Rattle.cmd_text.proofs.Scanned.{EndsWell, Proper, proper_scan}

-- ---- only a text ends
abbrev pub IsFinished : Spot → Type 0
IsFinished (Finished ss) = ⊤
IsFinished s = ⊥

end_step : (number : List ℕ → ℕ) (s : Spot) (p : ℕ) → IfSome (step number s End (Some p)) IsFinished
end_step number (AtSentence ss) p = tt
end_step number (AtName ss) p = tt
end_step number (AtDefine ss h) p = tt
end_step number (AtFactor q) p = tt
end_step number (InProcess q s) p = subst (λ o. IfSome (option_map (put q) o) IsFinished) (sym (end_refused number s)) tt
end_step number (AfterName q u) p = tt
end_step number (AtFresh q u) p = tt
end_step number (AtSlash q u n r) p = tt
end_step number (AtWas q u n r) p = tt
end_step number (AfterPair q u) p = tt
end_step number (AfterFactor q) p = tt
end_step number (AtEnd ss) p = tt
end_step number (Finished ss) p = tt

end_gone : (st : Standing) (x : Placed) (t : Standing) → x.tok ≡ End → go st x ≡ Some t → IsFinished t.spot
end_gone st x t e g = let w : Gone st x t = gone st x t g in
    at_some (step (number_in t.names) st.spot End (Some x.at)) t.spot IsFinished (ap (λ v. step (number_in t.names) st.spot v (Some x.at)) (sym e) ∙ w.stepped) (end_step (number_in t.names) st.spot x.at)

end_by : (st : Standing) (x : Placed) (xs : List Placed) (t : Standing) (o : Option Standing) → go st x ≡ o → EndsWell (x ∷ xs) → ((u : Standing) → EndsWell xs → reads u xs ≡ Some t → IsFinished t.spot) → option_and_then (λ u. reads u xs) o ≡ Some t → IsFinished t.spot
end_by st x xs t None g w f h = nothing h
end_by st x [] t (Some u) g w f h = subst (λ v. IsFinished v.spot) (same_some h) (end_gone st x u w g)
end_by st x (y ∷ xs) t (Some u) g w f h = f u w h

end_read : (xs : List Placed) (st t : Standing) → EndsWell xs → reads st xs ≡ Some t → IsFinished t.spot
end_read [] st t w h = absurd w
end_read (x ∷ xs) st t w h = end_by st x xs t (go st x) refl w (λ u v g. end_read xs u t v g) h

proper : (bytes : List ℕ) → Proper (scan Between 0 bytes)
proper bytes = proper_scan bytes Between 0 tt

pub read_finished : (bytes : List ℕ) (st : Standing) → answer bytes ≡ Ok st → IsFinished st.spot
read_finished bytes st h =
    let k = fine (scan Between 0 bytes).toks begin (scan Between 0 bytes).fault st h in
    end_read (scan Between 0 bytes).toks begin st ((proper bytes).ends k.0) k.1

abbrev pub ended_well : List (List ℕ) → List Sentence → Result Standing Fault
ended_well names ss = Ok (record { names = names; spot = Finished ss })

pub read_text_exactly : (bytes : List ℕ) (names : List (List ℕ)) (ss : List Sentence) → (answer bytes ≡ ended_well names ss) ↔ (IsTextOfBytes bytes names ss × IsShallowText bytes)
read_text_exactly bytes names ss = (
  (λ h. let k = fine (scan Between 0 bytes).toks begin (scan Between 0 bytes).fault (record { names = names; spot = Finished ss }) h in (record { well = k.0; text = read_text (scan Between 0 bytes).toks names ss k.1 }, k.2)),
  (λ h. fine_back (scan Between 0 bytes).toks begin (scan Between 0 bytes).fault (record { names = names; spot = Finished ss }) (h.0.well, text_read (scan Between 0 bytes).toks names ss (proper bytes).tokens h.0.text, h.1)),
)

pub read_fault_exactly : (bytes : List ℕ) (f : Fault) → (answer bytes ≡ Err f) ↔ IsFaultOfBytes bytes f
read_fault_exactly bytes f = (
  (λ h. fault_of (scan Between 0 bytes).toks (scan Between 0 bytes).fault f (proper bytes).tokens (stops (scan Between 0 bytes).toks begin (scan Between 0 bytes).fault f h)),
  (λ h. stops_back (scan Between 0 bytes).toks begin (scan Between 0 bytes).fault f (stop_of (scan Between 0 bytes).toks (scan Between 0 bytes).fault f (proper bytes).tokens h)),
)

pub one_file : (xs : List Placed) (m n : List (List ℕ)) (ss ts : List Sentence) → AllByRecursion IsToken xs → IsText xs m ss → IsText xs n ts → (m ≡ n) × (ss ≡ ts)
one_file xs m n ss ts a h g =
    let e : ◌≡◌ {A = Option Standing} (Some (record { names = m; spot = Finished ss })) (Some (record { names = n; spot = Finished ts })) = sym (text_read xs m ss a h) ∙ text_read xs n ts a g in
    let s : Finished ss ≡ Finished ts = ap (λ u. u.spot) (same_some e) in
    (ap (λ u. u.names) (same_some e), cc)
