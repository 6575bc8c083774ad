-- What the form `rules F` gives where the content of its file is told: one outcome, and Done exactly of the text of a list.
use Rattle.std.proofs.Common.{◌≡◌, ℕ, ◌≤◌, Bool, true, false, true≢false, List, Option, Some, None, arith, refl, sym, ◌∙◌, subst, ap, length, inl, inr, eq-eqb, eqb-true}
use Rattle.std.specs.Prelude.{◌⊎◌, ◌↔◌, IsTrue, nat_eq}
use Rattle.std.specs.List.{Contains}
use Rattle.std.specs.Option.{IfSome}
use Rattle.cmd_tree.specs.declared.tree.Dir.{Dir}
use Rattle.cmd_tree.specs.declared.limits.TheConstants.{MAX_FILE_BYTES}
use Rattle.process_laws.specs.Insensitive.{Insensitive}
use Rattle.trace_laws.specs.declared.check.BrokenRule.{BrokenRule}
use Rattle.trace_laws.specs.declared.list.TraceRefusal.{TraceRefusal}
use Rattle.trace_laws.specs.declared.list.TraceRefusal.TheVariants.{BadLine, NoMemory as NoMemoryForTraces}
use Rattle.trace_laws.specs.Breaks.{LeastBroken}
use Rattle.trace_laws.specs.Listed.{numbers, output_by}
use Rattle.trace_laws.specs.ListText.{IsFaultyLine, line_told}
use Rattle.trace_laws.proofs.WholeListing.{no_fault, one_line}
use Rattle.di_top.specs.declared.outcome.Outcome.{Outcome}
use Rattle.di_top.specs.declared.outcome.Outcome.TheVariants.{Done, Refused, ReadFault, NoMemory}
use Rattle.di_top.specs.declared.outcome.Why.TheVariants.{Traces}
use Rattle.di_top.specs.Requests.{Rules}
use Rattle.di_top.specs.Calls.{Reading, Loaded, Unread}
use Rattle.di_top.specs.CommandFiles.{command_cap}
use Rattle.di_top.specs.RulesForm.{told_of_traces, IsList, ListStops, TooLong, Faulty, FileLists, RulesGives, Unloaded, Stopped, Judged, RulesAdmits, broken_line, verdict_text, Holds, Breaks, IsJudged}
use Rattle.di_top.specs.Outcomes.{Gives, Prints}
use Rattle.di_top.specs.Plans.{IsStop}
use Rattle.di_top.proofs.Loads.{loaded_whole, whole_loaded, one_load}

-- ---- what stops a call
pub traces_stop : (bytes : List ℕ) (refusal : TraceRefusal) → length bytes ≤ MAX_FILE_BYTES → IfSome (line_told refusal) (IsFaultyLine bytes)
    → (told_of_traces refusal ≡ NoMemory) ⊎ ListStops bytes (told_of_traces refusal)
traces_stop bytes (BadLine line) few h = inr (Faulty line few h refl)
traces_stop bytes NoMemoryForTraces few h = inl refl

list_stop : (bytes : List ℕ) (stop : Outcome) → ListStops bytes stop → IsStop stop
list_stop bytes stop (TooLong long e) = let P : Outcome → Type 0 = IsStop in subst P (sym e) tt
list_stop bytes stop (Faulty line few h e) = let P : Outcome → Type 0 = IsStop in subst P (sym e) tt

pub unloaded : (r : Reading) (file : List ℕ) (stop : Outcome) → (stop ≡ NoMemory) ⊎ ((stop ≡ ReadFault 1) × Unread r file)
    → IsStop stop × Gives (Some (Rules file)) r stop
unloaded r file stop (inl e) = let P : Outcome → Type 0 = IsStop in (subst P (sym e) tt, inl e)
unloaded r file stop (inr (e, rose)) = let P : Outcome → Type 0 = IsStop in (subst P (sym e) tt, inr (Unloaded rose e))

pub unlisted : (r : Reading) (file bytes : List ℕ) (stop : Outcome) → Loaded r file command_cap bytes → (stop ≡ NoMemory) ⊎ ListStops bytes stop
    → IsStop stop × Gives (Some (Rules file)) r stop
unlisted r file bytes stop l (inl e) = let P : Outcome → Type 0 = IsStop in (subst P (sym e) tt, inl e)
unlisted r file bytes stop l (inr s) = (list_stop bytes stop s, inr (Stopped bytes l s))

-- ---- what is said of a list
is_one : (present : Bool) (rule : ℕ) → IsTrue present ↔ (rule ≡ 1) → present ≡ nat_eq rule 1
is_one present rule (there, back) = by present (nat_eq rule 1) refl refl
  where
    by : (p q : Bool) → present ≡ p → nat_eq rule 1 ≡ q → present ≡ nat_eq rule 1
    by true q e f = e ∙ sym (eq-eqb rule 1 (there e))
    by false true e f = absurd (true≢false (sym (back (eqb-true rule 1 f)) ∙ e))
    by false false e f = e ∙ sym f

pub judged : (bytes : List ℕ) (names : List (List ℕ)) (dirs : List Dir) (traces : List (List ℕ)) (broken : Option BrokenRule) → IsList bytes names dirs traces
    → ((broken ≡ None) ↔ Insensitive (Contains traces) (output_by dirs))
    → IfSome broken (λ b. LeastBroken (output_by dirs) (Contains traces) b.rule (numbers b.trace.items))
    → IfSome broken (λ b. IsTrue b.present ↔ (b.rule ≡ 1)) → IsJudged bytes (verdict_text names broken)
judged bytes names dirs traces None l holds least present = record {
  names = names;
  dirs = dirs;
  traces = traces;
  list = l;
  is = Holds (holds.0 refl) refl;
}
judged bytes names dirs traces (Some b) l holds least present = record {
  names = names;
  dirs = dirs;
  traces = traces;
  list = l;
  is = Breaks b.rule b.trace.items least (ap (λ p. broken_line names b.rule p b.trace.items) (is_one b.present b.rule present));
}

pub rules_done : (r : Reading) (file bytes text : List ℕ) → Loaded r file command_cap bytes → IsJudged bytes text
    → Gives (Some (Rules file)) r Done × Prints (Some (Rules file)) r text
rules_done r file bytes text l j = (
  inr (Judged j.names j.dirs j.traces (record { bytes = bytes; loaded = l; list = j.list }) refl),
  record { bytes = bytes; loaded = l; judged = j },
)

-- ---- the content is told
lists_admits : (r : Reading) (file bytes : List ℕ) (names : List (List ℕ)) (dirs : List Dir) (traces : List (List ℕ)) → Loaded r file command_cap bytes
    → IsList bytes names dirs traces → (all : List ℕ) → r.content file ≡ Some all → RulesAdmits r file
lists_admits r file bytes names dirs traces l list all told =
    let P : List ℕ → Type 0 = λ b. IsList b names dirs traces in
    record { content = all; told = told; names = names; dirs = dirs; traces = traces; list = subst P (loaded_whole MAX_FILE_BYTES r file bytes l list.few all told) list }

pub rules_only : (r : Reading) (file : List ℕ) → RulesGives r file Done → (all : List ℕ) → r.content file ≡ Some all → RulesAdmits r file
rules_only r file (Unloaded rose e) all told = absurd (cc)
rules_only r file (Stopped bytes l s) all told = absurd (list_stop bytes Done s)
rules_only r file (Judged names dirs traces h e) all told = lists_admits r file h.bytes names dirs traces h.loaded h.list all told

pub printed_admits : (r : Reading) (file bytes text : List ℕ) → Loaded r file command_cap bytes → IsJudged bytes text → (all : List ℕ) → r.content file ≡ Some all
    → RulesAdmits r file
printed_admits r file bytes text l j all told = lists_admits r file bytes j.names j.dirs j.traces l j.list all told

-- ---- one outcome
one_stop : (bytes : List ℕ) (a b : Outcome) → ListStops bytes a → ListStops bytes b → a ≡ b
one_stop bytes a b (TooLong long e) (TooLong longer h) = e ∙ sym h
one_stop bytes a b (TooLong long e) (Faulty line few is h) = absurd (omega (arith, long, few))
one_stop bytes a b (Faulty line few is e) (TooLong long h) = absurd (omega (arith, long, few))
one_stop bytes a b (Faulty line few is e) (Faulty other short it h) = e ∙ ap (λ n. Refused (Traces (BadLine n))) (one_line bytes line other is it) ∙ sym h

not_stopped : (bytes : List ℕ) (names : List (List ℕ)) (dirs : List Dir) (traces : List (List ℕ)) (a : Outcome) → IsList bytes names dirs traces → ListStops bytes a → ⊥
not_stopped bytes names dirs traces a l (TooLong long e) = omega (arith, long, l.few)
not_stopped bytes names dirs traces a l (Faulty line few is e) = no_fault bytes names dirs traces line l.text is

pub rules_answer : (r : Reading) (file : List ℕ) → ((all : List ℕ) × (r.content file ≡ Some all)) → (Unread r file → ⊥)
    → (a b : Outcome) → RulesGives r file a → RulesGives r file b → a ≡ b
rules_answer r file told quiet a b (Unloaded rose e) h = absurd (quiet rose)
rules_answer r file told quiet a b (Stopped bytes l s) (Unloaded rose e) = absurd (quiet rose)
rules_answer r file told quiet a b (Stopped bytes l s) (Stopped others m t) =
    let P : List ℕ → Type 0 = λ x. ListStops x a in
    one_stop others a b (subst P (one_load command_cap r file bytes others told l m) s) t
rules_answer r file told quiet a b (Stopped bytes l s) (Judged names dirs traces h e) =
    let P : List ℕ → Type 0 = λ x. ListStops x a in
    absurd (not_stopped h.bytes names dirs traces a h.list (subst P (one_load command_cap r file bytes h.bytes told l h.loaded) s))
rules_answer r file told quiet a b (Judged names dirs traces h e) (Unloaded rose f) = absurd (quiet rose)
rules_answer r file told quiet a b (Judged names dirs traces h e) (Stopped others m t) =
    let P : List ℕ → Type 0 = λ x. ListStops x b in
    absurd (not_stopped h.bytes names dirs traces b h.list (subst P (one_load command_cap r file others h.bytes told m h.loaded) t))
rules_answer r file told quiet a b (Judged names dirs traces h e) (Judged others dirz tracez k f) = e ∙ sym f

-- ---- what is admitted is done
pub admits_lists : (r : Reading) (file : List ℕ) (a : RulesAdmits r file) → FileLists r file a.names a.dirs a.traces
admits_lists r file a = record {
  bytes = a.content;
  loaded = whole_loaded MAX_FILE_BYTES r file a.content a.told a.list.few;
  list = a.list;
}
