-- What stops a command file, and what it gives, exclude one another.
use Rattle.std.proofs.Common.{◌≡◌, ℕ, ◌≤◌, List, [], Some, Result, Ok, Err, refl, sym, ap, ◌∙◌, subst, inl, inr, arith, length}
use Rattle.std.specs.Prelude.{◌⊎◌}
use Rattle.std.specs.Option.{IfSome}
use Rattle.cmd_tree.specs.declared.tree.Proc.{Proc}
use Rattle.cmd_tree.specs.declared.limits.TheConstants.{MAX_FILE_BYTES}
use Rattle.cmd_text.specs.declared.file.Sentence.{Sentence}
use Rattle.cmd_text.specs.declared.file.Refusal.{Refusal}
use Rattle.cmd_text.specs.declared.file.Refusal.TheVariants as text
use Rattle.cmd_text.specs.Fault as faults
use Rattle.cmd_text.specs.Source.{IsFaultOfBytes, fault_of}
use Rattle.cmd_text.proofs.WholeFile.{one_fault}
use Rattle.di_grammar.specs.declared.answer.Broken.{Broken}
use Rattle.di_grammar.specs.Admitted.{IsBroken}
use Rattle.di_grammar.proofs.Answering.{broken_not_admitted, broken_one}
use Rattle.di_top.specs.declared.outcome.Outcome.{Outcome}
use Rattle.di_top.specs.declared.outcome.Outcome.TheVariants.{Refused, NoMemory}
use Rattle.di_top.specs.declared.outcome.Why.TheVariants as why
use Rattle.cmd_expand.specs.declared.refusal.ExpandRefusal.{ExpandRefusal}
use Rattle.cmd_expand.specs.declared.refusal.ExpandRefusal.TheVariants as expand
use Rattle.cmd_expand.specs.Expansion.{Meant, expansion, refused_of}
use Rattle.cmd_expand.specs.Pairs as wrong
use Rattle.di_top.specs.Sources.{Source, IsFileOf, main}
use Rattle.di_top.specs.CommandFiles.{outcome_of, RefusedAs, told_of_text, told_of_expand, StopsWith, TooLong, Faulty, Refuses, IsAdmittedText}
use Rattle.di_top.specs.Plans.{IsStop}
use Rattle.di_top.proofs.Sourcing.{one_source, no_source}

-- ---- what stops a call
pub text_stops : (bytes : List ℕ) (refusal : Refusal) → length bytes ≤ MAX_FILE_BYTES → IfSome (fault_of refusal) (λ f. IsFaultOfBytes bytes f)
    → (told_of_text refusal ≡ NoMemory) ⊎ StopsWith bytes (told_of_text refusal)
text_stops bytes (text.BadByte at) few h = inr (Faulty (text.BadByte at) (faults.BadByte at) few refl h refl)
text_stops bytes (text.BadToken at) few h = inr (Faulty (text.BadToken at) (faults.BadToken at) few refl h refl)
text_stops bytes (text.Unexpected at) few h = inr (Faulty (text.Unexpected at) (faults.Unexpected at) few refl h refl)
text_stops bytes (text.NameTooLong at) few h = inr (Faulty (text.NameTooLong at) (faults.NameTooLong at) few refl h refl)
text_stops bytes (text.TooDeep at) few h = inr (Faulty (text.TooDeep at) (faults.TooDeep at) few refl h refl)
text_stops bytes text.NoMemory few h = inl refl

source_is : (bytes : List ℕ) (names : List (List ℕ)) (ss : List Sentence) (is : Result Meant wrong.Refused) → IsFileOf bytes names ss → expansion names ss ≡ is → Source bytes is
source_is bytes names ss is f e = record { names = names; sentences = ss; read = f; same = e }

-- what is wrong with the definitions stops a call
wrong_stops : (bytes : List ℕ) (names : List (List ℕ)) (ss : List Sentence) (r : wrong.Refused) → IsFileOf bytes names ss → expansion names ss ≡ Err r
    → StopsWith bytes (outcome_of r)
wrong_stops bytes names ss r f h = Refuses (Err r) (source_is bytes names ss (Err r) f h) refl

pub expand_stops : (bytes : List ℕ) (names : List (List ℕ)) (ss : List Sentence) (refusal : ExpandRefusal) → IsFileOf bytes names ss
    → IfSome (refused_of refusal) (λ r. expansion names ss ≡ Err r) → (told_of_expand refusal ≡ NoMemory) ⊎ StopsWith bytes (told_of_expand refusal)
expand_stops bytes names ss (expand.UnknownName at) f h = inr (wrong_stops bytes names ss (wrong.UnknownName at) f h)
expand_stops bytes names ss (expand.DefinedTwice at) f h = inr (wrong_stops bytes names ss (wrong.DefinedTwice at) f h)
expand_stops bytes names ss (expand.UsedBeforeDefined at) f h = inr (wrong_stops bytes names ss (wrong.UsedBeforeDefined at) f h)
expand_stops bytes names ss (expand.RenamedTwice at) f h = inr (wrong_stops bytes names ss (wrong.RenamedTwice at) f h)
expand_stops bytes names ss (expand.RenameUnknown at) f h = inr (wrong_stops bytes names ss (wrong.RenameUnknown at) f h)
expand_stops bytes names ss (expand.RenameMerges at) f h = inr (wrong_stops bytes names ss (wrong.RenameMerges at) f h)
expand_stops bytes names ss (expand.TooManySymbols n) f h = inr (wrong_stops bytes names ss (wrong.TooManySymbols n) f h)
expand_stops bytes names ss (expand.TooManyProcs n) f h = inr (wrong_stops bytes names ss (wrong.TooManyProcs n) f h)
expand_stops bytes names ss (expand.TooManyPlaces n) f h = inr (wrong_stops bytes names ss (wrong.TooManyPlaces n) f h)
expand_stops bytes names ss expand.NoMemory f h = inl refl

pub grammar_stops : (bytes : List ℕ) (names all : List (List ℕ)) (ss : List Sentence) (procs : List Proc) (b : Broken) → IsFileOf bytes all ss
    → expansion all ss ≡ main names procs → IsBroken procs b → StopsWith bytes (Refused (why.Grammar b))
grammar_stops bytes names all ss procs b f e h = Refuses (main names procs) (source_is bytes all ss (main names procs) f e) (b, h, refl)

-- ---- an admitted text stops no call
pub not_stopped : (bytes : List ℕ) (names : List (List ℕ)) (procs : List Proc) (outcome : Outcome) → IsAdmittedText bytes names procs → StopsWith bytes outcome → ⊥
not_stopped bytes names procs outcome a (TooLong long e) = omega (arith, a.source.read.few, long)
not_stopped bytes names procs outcome a (Faulty refusal fault few told is e) = no_source bytes fault (main names procs) is a.source
not_stopped bytes names procs outcome a (Refuses is s e) =
    let same : is ≡ main names procs = one_source bytes is (main names procs) s a.source in
    let broken = subst (λ (x : Result Meant wrong.Refused). RefusedAs x outcome) same e in
    broken_not_admitted procs broken.0 broken.1 a.admitted

-- two admitted texts of the same bytes are of the same command
pub one_text : (bytes : List ℕ) (names others : List (List ℕ)) (procs qrocs : List Proc) → IsAdmittedText bytes names procs → IsAdmittedText bytes others qrocs
    → procs ≡ qrocs
one_text bytes names others procs qrocs a b = ap procs_of (one_source bytes (main names procs) (main others qrocs) a.source b.source)
  where
    procs_of : Result Meant wrong.Refused → List Proc
    procs_of (Ok m) = m.procs
    procs_of (Err r) = []

-- what stops a call is no end of work
pub stops_are_stops : (bytes : List ℕ) (outcome : Outcome) → StopsWith bytes outcome → IsStop outcome
stops_are_stops bytes outcome (TooLong long e) = let P : Outcome → Type 0 = IsStop in subst P (sym e) tt
stops_are_stops bytes outcome (Faulty refusal fault few told is e) = let P : Outcome → Type 0 = IsStop in subst P (sym e) tt
stops_are_stops bytes outcome (Refuses is s e) = refuses_stop is outcome e
  where
    wrong_stop : (r : wrong.Refused) → IsStop (outcome_of r)
    wrong_stop (wrong.UnknownName at) = tt
    wrong_stop (wrong.DefinedTwice at) = tt
    wrong_stop (wrong.UsedBeforeDefined at) = tt
    wrong_stop (wrong.RenamedTwice at) = tt
    wrong_stop (wrong.RenameUnknown at) = tt
    wrong_stop (wrong.RenameMerges at) = tt
    wrong_stop (wrong.TooManySymbols n) = tt
    wrong_stop (wrong.TooManyProcs n) = tt
    wrong_stop (wrong.TooManyPlaces n) = tt

    refuses_stop : (is : Result Meant wrong.Refused) (outcome : Outcome) → RefusedAs is outcome → IsStop outcome
    refuses_stop (Err r) outcome e = let P : Outcome → Type 0 = IsStop in subst P (sym e) (wrong_stop r)
    refuses_stop (Ok m) outcome e = let P : Outcome → Type 0 = IsStop in subst P (sym e.2) tt

-- a file is refused with one outcome
one_refusal : (is : Result Meant wrong.Refused) (a b : Outcome) → RefusedAs is a → RefusedAs is b → a ≡ b
one_refusal (Err r) a b e h = e ∙ sym h
one_refusal (Ok m) a b e h = e.2 ∙ ap (λ x. Refused (why.Grammar x)) (broken_one m.procs e.0 h.0 e.1 h.1) ∙ sym h.2

-- ---- bytes stop a call with one outcome
abbrev fault_refusal : faults.Fault → Refusal
fault_refusal (faults.BadByte at) = text.BadByte at
fault_refusal (faults.BadToken at) = text.BadToken at
fault_refusal (faults.Unexpected at) = text.Unexpected at
fault_refusal (faults.NameTooLong at) = text.NameTooLong at
fault_refusal (faults.TooDeep at) = text.TooDeep at

refusal_told : (refusal : Refusal) (fault : faults.Fault) → fault_of refusal ≡ Some fault → refusal ≡ fault_refusal fault
refusal_told (text.BadByte at) fault e = let same : faults.BadByte at ≡ fault = cc in ap fault_refusal same
refusal_told (text.BadToken at) fault e = let same : faults.BadToken at ≡ fault = cc in ap fault_refusal same
refusal_told (text.Unexpected at) fault e = let same : faults.Unexpected at ≡ fault = cc in ap fault_refusal same
refusal_told (text.NameTooLong at) fault e = let same : faults.NameTooLong at ≡ fault = cc in ap fault_refusal same
refusal_told (text.TooDeep at) fault e = let same : faults.TooDeep at ≡ fault = cc in ap fault_refusal same
refusal_told text.NoMemory fault e = absurd (cc)

pub one_stop : (bytes : List ℕ) (a b : Outcome) → StopsWith bytes a → StopsWith bytes b → a ≡ b
one_stop bytes a b (TooLong long e) (TooLong longer h) = e ∙ sym h
one_stop bytes a b (TooLong long e) (Faulty refusal fault few told is h) = absurd (omega (arith, long, few))
one_stop bytes a b (TooLong long e) (Refuses is s h) = absurd (omega (arith, long, s.read.few))
one_stop bytes a b (Faulty refusal fault few told is e) (TooLong long h) = absurd (omega (arith, long, few))
one_stop bytes a b (Faulty refusal fault few told is e) (Faulty other kind short said it h) =
    let same : fault ≡ kind = one_fault bytes fault kind is it in
    let alike : refusal ≡ other = refusal_told refusal fault told ∙ ap fault_refusal same ∙ sym (refusal_told other kind said) in
    e ∙ ap (λ x. Refused (why.Text x)) alike ∙ sym h
one_stop bytes a b (Faulty refusal fault few told is e) (Refuses it s h) = absurd (no_source bytes fault it is s)
one_stop bytes a b (Refuses is s e) (TooLong long h) = absurd (omega (arith, long, s.read.few))
one_stop bytes a b (Refuses is s e) (Faulty refusal fault few told it h) = absurd (no_source bytes fault is it s)
one_stop bytes a b (Refuses is s e) (Refuses it t h) =
    let same : is ≡ it = one_source bytes is it s t in
    one_refusal it a b (subst (λ (x : Result Meant wrong.Refused). RefusedAs x a) same e) h
