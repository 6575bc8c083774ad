-- What the forms of words give where the contents of their files are told: one outcome, and Done exactly of those that they admit.
use Rattle.std.proofs.Common.{◌≡◌, arith, ℕ, List, Option, Some, None, refl, sym, ◌∙◌, subst, inl, inr}
use Rattle.std.specs.Prelude.{⊤}
use Rattle.cmd_tree.specs.declared.tree.Proc.{Proc}
use Rattle.cmd_tree.specs.declared.limits.TheConstants.{MAX_FILE_BYTES}
use Rattle.count_sum.specs.declared.counts.Basis.{Basis}
use Rattle.net_text.proofs.CommandLine.{AreRead}
use Rattle.di_top.specs.declared.outcome.Outcome.{Outcome}
use Rattle.di_top.specs.declared.outcome.Outcome.TheVariants.{Done}
use Rattle.di_top.specs.Requests.{Request, Compile, Check, Count, Rules, Run, Drive, files_of}
use Rattle.di_top.specs.Calls.{Reading, Unread, Quiet, Tells}
use Rattle.di_top.specs.CommandFiles as held
use Rattle.di_top.specs.CommandFiles.{command_cap, StopsWith, IsAdmittedText, IsSuited, FileHolds, FileGives, Fault, Bytes, Taken, FileAdmits}
use Rattle.di_top.specs.CompileForm.{Compiles, CompileUses, CompileGives, CompileAdmits}
use Rattle.di_top.specs.CheckForm.{CheckUses, CheckGives, CheckAdmits}
use Rattle.di_top.specs.Outcomes.{FormGives, Gives, Prints, Admits}
use Rattle.di_top.specs.RulesForm.{Judged}
use Rattle.di_top.proofs.Loads.{loaded_whole, whole_loaded, one_load}
use Rattle.di_top.proofs.Stops.{not_stopped, one_text, one_stop, stops_are_stops}
use Rattle.di_top.proofs.ListAnswers.{rules_only, printed_admits, rules_answer, admits_lists}
use Rattle.di_top.proofs.DriveAnswers.{drive_only, drive_printed, drive_answer, drive_admitted}
use Rattle.di_top.proofs.RunAnswers.{run_only, run_printed, run_answer, run_admitted}

-- the file of an admitted command that suits
holds_admits : (Suits : List Proc → Type 0) (r : Reading) (file : List ℕ) (names : List (List ℕ)) (procs : List Proc) → FileHolds r file names procs
    → Suits procs → (all : List ℕ) → r.content file ≡ Some all → FileAdmits Suits r file
holds_admits Suits r file names procs h s all told =
    let P : List ℕ → Type 0 = λ b. IsAdmittedText b names procs in
    let same : h.bytes ≡ all = loaded_whole MAX_FILE_BYTES r file h.bytes h.loaded h.admitted.source.read.few all told in
    record { content = all; told = told; suited = record { names = names; procs = procs; text = subst P same h.admitted; suits = s } }

file_only : (Used : List Proc → Outcome → Type 0) (Suits : List Proc → Type 0) → ((procs : List Proc) → Used procs Done → Suits procs)
    → (r : Reading) (file : List ℕ) → FileGives Used r file Done → (all : List ℕ) → r.content file ≡ Some all → FileAdmits Suits r file
file_only Used Suits suits r file (held.Stopped (Fault rose e)) all told = absurd (cc)
file_only Used Suits suits r file (held.Stopped (Bytes bytes l s)) all told = absurd (stops_are_stops bytes Done s)
file_only Used Suits suits r file (Taken names procs h u) all told = holds_admits Suits r file names procs h (suits procs u) all told

compile_suits : (basis : Basis) (procs : List Proc) → CompileUses basis procs Done → Compiles basis procs
compile_suits basis procs (inl (c, e)) = c
compile_suits basis procs (inr (inl (other, e))) = absurd (cc)
compile_suits basis procs (inr (inr (form, many, e))) = absurd (cc)

compile_only : (basis : Basis) (r : Reading) (file : List ℕ) → CompileGives basis r file Done → (all : List ℕ) → r.content file ≡ Some all → CompileAdmits basis r file
compile_only basis r file g all told = file_only (CompileUses basis) (Compiles basis) (compile_suits basis) r file g all told

check_only : (r : Reading) (file : List ℕ) → CheckGives r file Done → (all : List ℕ) → r.content file ≡ Some all → CheckAdmits r file
check_only r file g all told = file_only CheckUses (λ procs. ⊤) (λ procs u. tt) r file g all told

pub gives_admitted : (request : Option Request) (r : Reading) → Gives request r Done → Tells r (files_of request) → Admits request r
gives_admitted None r (inl e) t = absurd (cc)
gives_admitted None r (inr e) t = absurd (cc)
gives_admitted (Some (Compile basis file)) r (inl e) t = absurd (cc)
gives_admitted (Some (Compile basis file)) r (inr g) t = compile_only basis r file g t.0.0 t.0.1
gives_admitted (Some (Check file)) r (inl e) t = absurd (cc)
gives_admitted (Some (Check file)) r (inr g) t = check_only r file g t.0.0 t.0.1
gives_admitted (Some (Count basis file)) r (inl e) t = absurd (cc)
gives_admitted (Some (Count basis file)) r (inr g) t = check_only r file g t.0.0 t.0.1
gives_admitted (Some (Rules file)) r (inl e) t = absurd (cc)
gives_admitted (Some (Rules file)) r (inr g) t = rules_only r file g t.0.0 t.0.1
gives_admitted (Some (Drive netlist seed steps)) r (inl e) t = absurd (cc)
gives_admitted (Some (Drive netlist seed steps)) r (inr g) t = drive_only r netlist seed steps g t.0
gives_admitted (Some (Run netlist schedule kept)) r (inl e) t = absurd (cc)
gives_admitted (Some (Run netlist schedule kept)) r (inr g) t = run_only r netlist schedule g t.0 t.1.0

pub prints_admitted : (request : Option Request) (r : Reading) (text : List ℕ) → Prints request r text → Tells r (files_of request) → Admits request r
prints_admitted None r text p t = absurd p
prints_admitted (Some (Compile basis file)) r text p t =
    holds_admits (Compiles basis) r file p.command.names p.command.procs p.held p.compiles t.0.0 t.0.1
prints_admitted (Some (Check file)) r text p t = holds_admits (λ procs. ⊤) r file p.names p.procs p.held tt t.0.0 t.0.1
prints_admitted (Some (Count basis file)) r text p t = holds_admits (λ procs. ⊤) r file p.names p.procs p.held tt t.0.0 t.0.1
prints_admitted (Some (Rules file)) r text p t = printed_admits r file p.bytes text p.loaded p.judged t.0.0 t.0.1
prints_admitted (Some (Drive netlist seed steps)) r text p t = drive_printed r netlist seed steps text p t.0
prints_admitted (Some (Run netlist schedule kept)) r text p t = run_printed r netlist schedule kept text p.0 p.1 t.0 t.1.0

-- ---- one outcome
file_answer : (Used : List Proc → Outcome → Type 0) → ((procs : List Proc) (a b : Outcome) → Used procs a → Used procs b → a ≡ b)
    → (r : Reading) (file : List ℕ) → ((all : List ℕ) × (r.content file ≡ Some all)) → (Unread r file → ⊥)
    → (a b : Outcome) → FileGives Used r file a → FileGives Used r file b → a ≡ b
file_answer Used once r file told quiet a b (held.Stopped (Fault rose e)) h = absurd (quiet rose)
file_answer Used once r file told quiet a b (held.Stopped (Bytes bytes l s)) (held.Stopped (Fault rose e)) = absurd (quiet rose)
file_answer Used once r file told quiet a b (held.Stopped (Bytes bytes l s)) (held.Stopped (Bytes others m t)) =
    let P : List ℕ → Type 0 = λ x. StopsWith x a in
    one_stop others a b (subst P (one_load command_cap r file bytes others told l m) s) t
file_answer Used once r file told quiet a b (held.Stopped (Bytes bytes l s)) (Taken names procs h u) =
    let P : List ℕ → Type 0 = λ x. StopsWith x a in
    absurd (not_stopped h.bytes names procs a h.admitted (subst P (one_load command_cap r file bytes h.bytes told l h.loaded) s))
file_answer Used once r file told quiet a b (Taken names procs h u) (held.Stopped (Fault rose e)) = absurd (quiet rose)
file_answer Used once r file told quiet a b (Taken names procs h u) (held.Stopped (Bytes others m t)) =
    let P : List ℕ → Type 0 = λ x. StopsWith x b in
    absurd (not_stopped h.bytes names procs b h.admitted (subst P (one_load command_cap r file others h.bytes told m h.loaded) t))
file_answer Used once r file told quiet a b (Taken names procs h u) (Taken others qrocs k v) =
    let P : List ℕ → Type 0 = λ x. IsAdmittedText x names procs in
    let Q : List Proc → Type 0 = λ ps. Used ps a in
    let t : IsAdmittedText k.bytes names procs = subst P (one_load command_cap r file h.bytes k.bytes told h.loaded k.loaded) h.admitted in
    once qrocs a b (subst Q (one_text k.bytes names others procs qrocs t k.admitted) u) v

compile_once : (basis : Basis) (procs : List Proc) (a b : Outcome) → CompileUses basis procs a → CompileUses basis procs b → a ≡ b
compile_once basis procs a b (inl (c, e)) (inl (d, h)) = e ∙ sym h
compile_once basis procs a b (inl (c, e)) (inr (inl (other, h))) = absurd (other c.form)
compile_once basis procs a b (inl (c, e)) (inr (inr (form, many, h))) = absurd (omega (arith, c.few, many))
compile_once basis procs a b (inr (inl (other, e))) (inl (d, h)) = absurd (other d.form)
compile_once basis procs a b (inr (inl (other, e))) (inr (inl (others, h))) = e ∙ sym h
compile_once basis procs a b (inr (inl (other, e))) (inr (inr (form, many, h))) = absurd (other form)
compile_once basis procs a b (inr (inr (form, many, e))) (inl (d, h)) = absurd (omega (arith, d.few, many))
compile_once basis procs a b (inr (inr (form, many, e))) (inr (inl (other, h))) = absurd (other form)
compile_once basis procs a b (inr (inr (form, many, e))) (inr (inr (forms, more, h))) = e ∙ sym h

check_once : (procs : List Proc) (a b : Outcome) → CheckUses procs a → CheckUses procs b → a ≡ b
check_once procs a b e h = e ∙ sym h

pub one_answer : AreRead → (request : Option Request) (r : Reading) → Tells r (files_of request) → Quiet r (files_of request)
    → (a b : Outcome) → FormGives request r a → FormGives request r b → a ≡ b
one_answer law None r t q a b e h = e ∙ sym h
one_answer law (Some (Compile basis file)) r t q a b g h = file_answer (CompileUses basis) (compile_once basis) r file t.0 q.0 a b g h
one_answer law (Some (Check file)) r t q a b g h = file_answer CheckUses check_once r file t.0 q.0 a b g h
one_answer law (Some (Count basis file)) r t q a b g h = file_answer CheckUses check_once r file t.0 q.0 a b g h
one_answer law (Some (Rules file)) r t q a b g h = rules_answer r file t.0 q.0 a b g h
one_answer law (Some (Drive netlist seed steps)) r t q a b g h = drive_answer r netlist seed steps law t.0 q.0 a b g h
one_answer law (Some (Run netlist schedule kept)) r t q a b g h = run_answer law r netlist schedule t.0 t.1.0 q.0 q.1.0 a b g h

-- ---- what is admitted is done
admits_holds : (Suits : List Proc → Type 0) (r : Reading) (file : List ℕ) (a : FileAdmits Suits r file)
    → FileHolds r file a.suited.names a.suited.procs
admits_holds Suits r file a = record {
  bytes = a.content;
  loaded = whole_loaded MAX_FILE_BYTES r file a.content a.told a.suited.text.source.read.few;
  admitted = a.suited.text;
}

pub admits_told : (request : Option Request) (r : Reading) → Admits request r → Tells r (files_of request)
admits_told None r a = absurd a
admits_told (Some (Compile basis file)) r a = ((a.content, a.told), tt)
admits_told (Some (Check file)) r a = ((a.content, a.told), tt)
admits_told (Some (Count basis file)) r a = ((a.content, a.told), tt)
admits_told (Some (Rules file)) r a = ((a.content, a.told), tt)
admits_told (Some (Drive netlist seed steps)) r a = ((a.bytes, a.told), tt)
admits_told (Some (Run netlist schedule kept)) r a = ((a.bytes, a.told), ((a.more, a.more_told), tt))

pub admits_gives : (request : Option Request) (r : Reading) → Admits request r → FormGives request r Done
admits_gives None r a = absurd a
admits_gives (Some (Compile basis file)) r a =
    Taken a.suited.names a.suited.procs (admits_holds (Compiles basis) r file a) (inl (a.suited.suits, refl))
admits_gives (Some (Check file)) r a = Taken a.suited.names a.suited.procs (admits_holds (λ procs. ⊤) r file a) refl
admits_gives (Some (Count basis file)) r a = Taken a.suited.names a.suited.procs (admits_holds (λ procs. ⊤) r file a) refl
admits_gives (Some (Rules file)) r a = Judged a.names a.dirs a.traces (admits_lists r file a) refl
admits_gives (Some (Drive netlist seed steps)) r a = drive_admitted r netlist seed steps a
admits_gives (Some (Run netlist schedule kept)) r a = run_admitted r netlist schedule a
