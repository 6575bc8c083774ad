-- What the form `run N S` gives where the contents of its files are told: one outcome, and Done exactly of a schedule that is
-- a run of the netlist.
use Rattle.std.proofs.Common.{◌≡◌, ◌≢◌, ◌⊎◌, inl, inr, ℕ, zero, suc, ◌+◌, List, [], ◌∷◌, Option, Some, None, arith, refl, sym, ◌∙◌, subst, ap, length, take}
use Rattle.std.specs.Prelude.{slice_get}
use Rattle.std.proofs.lemmas.List.{take_all}
use Rattle.std.proofs.lemmas.Option.{slice_get_past}
use Rattle.cmd_tree.specs.declared.limits.TheConstants.{MAX_NETLIST_BYTES}
use Rattle.net_core.specs.Runs.{State, start}
use Rattle.net_core.specs.Wiring.{Circuit}
use Rattle.net_text.proofs.CommandLine.{AreRead}
use Rattle.net_text.proofs.FaultLaw.{not_both, one_net, one_fault}
use Rattle.replay.specs.declared.event.Event.{Event}
use Rattle.replay.specs.declared.event.Answer.{Answer}
use Rattle.replay.specs.declared.event.Answer.TheVariants as answer
use Rattle.replay.specs.declared.schedule.ScheduleRefusal.TheVariants as schedule
use Rattle.replay.specs.Answers.{event_of, left_by, state_after, AreDone, IsStop, IsReplayed}
use Rattle.replay.specs.Probes.{View}
use Rattle.replay.specs.ScheduleText.{IsFaultyLine}
use Rattle.replay.proofs.Answering.{one_answer_to}
use Rattle.replay.proofs.Scheduled.{same_schedule, no_schedule, same_line}
use Rattle.di_top.specs.declared.outcome.Outcome.{Outcome}
use Rattle.di_top.specs.declared.outcome.Outcome.TheVariants.{Done, Refused}
use Rattle.di_top.specs.declared.outcome.Why.TheVariants.{Net, Schedule}
use Rattle.di_top.specs.Calls.{Reading, Unread}
use Rattle.di_top.specs.RunForm.{netlist_cap, names_of, AreLoaded, IsUnread, First, Second, AreTexts, TextsStop, TooLong, MoreTooLong, NoNet, NoSchedule, told_of_answer, told_of_last, RunGives, Unloaded, Unfit, Played, RunAdmits, RunHands}
use Rattle.di_top.proofs.Loads.{loaded_whole, whole_loaded, one_load}

-- ---- a schedule has one end

-- the same end: all events are applied, or the same event has the same answer
abbrev IsSameEnd : ℕ → Option Answer → ℕ → Option Answer → Type 0
IsSameEnd n a m b = ((a ≡ None) × (b ≡ None)) ⊎ ((n ≡ m) × (a ≡ b))

later_end : (n : ℕ) (a : Option Answer) (m : ℕ) (b : Option Answer) → IsSameEnd n a m b → IsSameEnd (suc n) a (suc m) b
later_end n a m b (inl e) = inl e
later_end n a m b (inr (e, f)) = inr (ap suc e, f)

one_end : (c : Circuit) (s : State) (es : List Event) (n : ℕ) (a : Option Answer) (m : ℕ) (b : Option Answer)
    → AreDone c s (take n es) → IsStop c (state_after c s (take n es)) (slice_get es n) a
    → AreDone c s (take m es) → IsStop c (state_after c s (take m es)) (slice_get es m) b → IsSameEnd n a m b
one_end c s [] n None m None d p e q = inl (refl, refl)
one_end c s [] n None m (Some b) d p e q = absurd q
one_end c s [] n (Some a) m b d p e q = absurd p
one_end c s (x ∷ es) zero None m b d p e q = absurd p
one_end c s (x ∷ es) (suc n) a zero None d p e q = absurd q
one_end c s (x ∷ es) zero (Some a) zero None d p e q = absurd q
one_end c s (x ∷ es) zero (Some a) zero (Some b) d p e q =
    inr (refl, ap Some (one_answer_to c s (event_of c x) a b p.0 q.0))
one_end c s (x ∷ es) zero (Some a) (suc m) b d p e q =
    absurd (p.1 (one_answer_to c s (event_of c x) a answer.Done p.0 e.0))
one_end c s (x ∷ es) (suc n) a zero (Some b) d p e q =
    absurd (q.1 (one_answer_to c s (event_of c x) b answer.Done q.0 d.0))
one_end c s (x ∷ es) (suc n) a (suc m) b d p e q =
    later_end n a m b (one_end c (left_by c s (event_of c x)) es n a m b d.1 p e.1 q)

one_outcome : (n : ℕ) (a : Option Answer) (m : ℕ) (b : Option Answer) → IsSameEnd n a m b → told_of_last n a ≡ told_of_last m b
one_outcome n a m b (inl (e, f)) = ap (told_of_last n) e ∙ sym (ap (told_of_last m) f)
one_outcome n a m b (inr (e, f)) = ap (λ k. told_of_last k a) e ∙ ap (told_of_last m) f

-- a schedule whose events are all done
all_replayed : (c : Circuit) (es : List Event) → AreDone c start es → IsReplayed c es (length es) None
all_replayed c es d =
    let all : take (length es) es ≡ es = take_all (length es) es (omega arith) in
    let P : List Event → Type 0 = λ fs. AreDone c start fs in
    let Q : Option Event → Type 0 = λ o. IsStop c (state_after c start (take (length es) es)) o None in
    record { done = subst P (sym all) d; stop = subst Q (sym (slice_get_past es (length es) (omega arith))) tt }

-- an outcome is Done only where all are
done_last : (a : Answer) (n : ℕ) → a ≢ answer.Done → told_of_answer n a ≢ Done
done_last answer.Done n ne e = ne refl
done_last (answer.Clash wire) n ne e = absurd (cc)
done_last (answer.Forbidden component port) n ne e = absurd (cc)
done_last (answer.WrongOutput a) n ne e = absurd (cc)
done_last (answer.CannotFire component) n ne e = absurd (cc)
done_last (answer.EmptyWire wire) n ne e = absurd (cc)
done_last (answer.NotAllowed a) n ne e = absurd (cc)
done_last answer.NoSuch n ne e = absurd (cc)
done_last answer.NoMemory n ne e = absurd (cc)

none_left : (c : Circuit) (s : State) (es : List Event) (n : ℕ) → AreDone c s (take n es) → IsStop c (state_after c s (take n es)) (slice_get es n) None → AreDone c s es
none_left c s [] n d p = tt
none_left c s (x ∷ es) zero d p = absurd p
none_left c s (x ∷ es) (suc n) d p = (d.0, none_left c (left_by c s (event_of c x)) es n d.1 p)

stop_refused : (c : Circuit) (s : State) (o : Option Event) (a : Answer) → IsStop c s o (Some a) → a ≢ answer.Done
stop_refused c s None a p = absurd p
stop_refused c s (Some e) a p = p.1

all_done : (c : Circuit) (es : List Event) (n : ℕ) (last : Option Answer) → IsReplayed c es n last → Done ≡ told_of_last n last → AreDone c start es
all_done c es n None r e = none_left c start es n r.done r.stop
all_done c es n (Some a) r e = absurd (done_last a (n + 1) (stop_refused c (state_after c start (take n es)) (slice_get es n) a r.stop) (sym e))

-- ---- two texts are of one network and one list of events

same_net : AreRead → (bytes more : List ℕ) (c d : Circuit) (es fs : List Event) → AreTexts bytes more c es → AreTexts bytes more d fs → c ≡ d
same_net law bytes more c d es fs t u = one_net law bytes c d t.netlist u.netlist

same_events : (bytes more : List ℕ) (c : Circuit) (es fs : List Event) → AreTexts bytes more c es → AreTexts bytes more c fs → es ≡ fs
same_events bytes more c es fs t u = same_schedule (names_of c) more es fs t.schedule u.schedule

not_stopped : AreRead → (bytes more : List ℕ) (c : Circuit) (es : List Event) (outcome : Outcome) → AreTexts bytes more c es → TextsStop bytes more outcome → ⊥
not_stopped law bytes more c es outcome t (TooLong long e) = omega (arith, long, t.few)
not_stopped law bytes more c es outcome t (MoreTooLong few long e) = omega (arith, long, t.few_more)
not_stopped law bytes more c es outcome t (NoNet refusal few short fault e) = not_both law bytes c refusal t.netlist fault
not_stopped law bytes more c es outcome t (NoSchedule d line few short net faulty e) =
    let P : Circuit → Type 0 = λ x. IsFaultyLine (names_of x) more line in
    no_schedule (names_of c) more es line t.schedule (subst P (one_net law bytes d c net t.netlist) faulty)

one_stop : AreRead → (bytes more : List ℕ) (a b : Outcome) → TextsStop bytes more a → TextsStop bytes more b → a ≡ b
one_stop law bytes more a b (TooLong long e) (TooLong longer h) = e ∙ sym h
one_stop law bytes more a b (TooLong long e) (MoreTooLong few longer h) = absurd (omega (arith, long, few))
one_stop law bytes more a b (TooLong long e) (NoNet refusal few short fault h) = absurd (omega (arith, long, few))
one_stop law bytes more a b (TooLong long e) (NoSchedule c line few short net faulty h) = absurd (omega (arith, long, few))
one_stop law bytes more a b (MoreTooLong few long e) (TooLong longer h) = absurd (omega (arith, few, longer))
one_stop law bytes more a b (MoreTooLong few long e) (MoreTooLong few2 longer h) = e ∙ sym h
one_stop law bytes more a b (MoreTooLong few long e) (NoNet refusal few2 short fault h) = absurd (omega (arith, long, short))
one_stop law bytes more a b (MoreTooLong few long e) (NoSchedule c line few2 short net faulty h) = absurd (omega (arith, long, short))
one_stop law bytes more a b (NoNet refusal few short fault e) (TooLong longer h) = absurd (omega (arith, few, longer))
one_stop law bytes more a b (NoNet refusal few short fault e) (MoreTooLong few2 longer h) = absurd (omega (arith, short, longer))
one_stop law bytes more a b (NoNet refusal few short fault e) (NoNet other few2 short2 fault2 h) =
    e ∙ ap (λ r. Refused (Net r)) (one_fault law bytes refusal other fault fault2) ∙ sym h
one_stop law bytes more a b (NoNet refusal few short fault e) (NoSchedule c line few2 short2 net faulty h) =
    absurd (not_both law bytes c refusal net fault)
one_stop law bytes more a b (NoSchedule c line few short net faulty e) (TooLong longer h) = absurd (omega (arith, few, longer))
one_stop law bytes more a b (NoSchedule c line few short net faulty e) (MoreTooLong few2 longer h) = absurd (omega (arith, short, longer))
one_stop law bytes more a b (NoSchedule c line few short net faulty e) (NoNet refusal few2 short2 fault h) =
    absurd (not_both law bytes c refusal net fault)
one_stop law bytes more a b (NoSchedule c line few short net faulty e) (NoSchedule d other few2 short2 net2 faulty2 h) =
    let P : Circuit → Type 0 = λ x. IsFaultyLine (names_of x) more line in
    let there = subst P (one_net law bytes c d net net2) faulty in
    e ∙ ap (λ n. Refused (Schedule (schedule.BadLine n))) (same_line (names_of d) more line other there faulty2) ∙ sym h

-- ---- one outcome

abbrev IsTold : Reading → List ℕ → Type 0
IsTold r name = (all : List ℕ) × (r.content name ≡ Some all)

unread_one : (r : Reading) (netlist schedule : List ℕ) (a : Outcome) → (Unread r netlist → ⊥) → (Unread r schedule → ⊥) → IsUnread r netlist schedule a → ⊥
unread_one r netlist schedule a quiet still (First rose e) = quiet rose
unread_one r netlist schedule a quiet still (Second rose e) = still rose

module _ (law : AreRead) (r : Reading) (netlist schedule : List ℕ) (told : IsTold r netlist) (more_told : IsTold r schedule) where
  -- what was loaded is the same each time
  stop_there : (bytes more others rest : List ℕ) (a : Outcome) → AreLoaded r netlist schedule bytes more → AreLoaded r netlist schedule others rest
      → TextsStop bytes more a → TextsStop others rest a
  stop_there bytes more others rest a l m s =
      let P : List ℕ → Type 0 = λ x. TextsStop x more a in
      let Q : List ℕ → Type 0 = λ x. TextsStop others x a in
      subst Q (one_load netlist_cap r schedule more rest more_told l.second m.second) (subst P (one_load netlist_cap r netlist bytes others told l.first m.first) s)

  texts_there : (bytes more others rest : List ℕ) (c : Circuit) (es : List Event) → AreLoaded r netlist schedule bytes more
      → AreLoaded r netlist schedule others rest → AreTexts bytes more c es → AreTexts others rest c es
  texts_there bytes more others rest c es l m s =
      let P : List ℕ → Type 0 = λ x. AreTexts x more c es in
      let Q : List ℕ → Type 0 = λ x. AreTexts others x c es in
      subst Q (one_load netlist_cap r schedule more rest more_told l.second m.second) (subst P (one_load netlist_cap r netlist bytes others told l.first m.first) s)

  one_played : (others rest : List ℕ) (c d : Circuit) (es fs : List Event) (n m : ℕ) (x y : Option Answer) → AreTexts others rest c es → AreTexts others rest d fs
      → IsReplayed c es n x → IsReplayed d fs m y → told_of_last n x ≡ told_of_last m y
  one_played others rest c d es fs n m x y t u p q =
      let same : c ≡ d = same_net law others rest c d es fs t u in
      let P : Circuit → Type 0 = λ k. AreTexts others rest k es in
      let R : Circuit → Type 0 = λ k. IsReplayed k es n x in
      let t2 = subst P same t in
      let p2 = subst R same p in
      let alike : es ≡ fs = same_events others rest d es fs t2 u in
      let S : List Event → Type 0 = λ k. IsReplayed d k n x in
      let p3 = subst S alike p2 in
      one_outcome n x m y (one_end d start fs n x m y p3.done p3.stop q.done q.stop)

  pub run_answer : (Unread r netlist → ⊥) → (Unread r schedule → ⊥) → (a b : Outcome) → RunGives r netlist schedule a → RunGives r netlist schedule b → a ≡ b
  run_answer quiet still a b (Unloaded u) h = absurd (unread_one r netlist schedule a quiet still u)
  run_answer quiet still a b (Unfit bytes more l s) (Unloaded u) = absurd (unread_one r netlist schedule b quiet still u)
  run_answer quiet still a b (Unfit bytes more l s) (Unfit others rest m t) = one_stop law others rest a b (stop_there bytes more others rest a l m s) t
  run_answer quiet still a b (Unfit bytes more l s) (Played others rest c es n last m t p e) =
      absurd (not_stopped law others rest c es a t (stop_there bytes more others rest a l m s))
  run_answer quiet still a b (Played bytes more c es n last l t p e) (Unloaded u) = absurd (unread_one r netlist schedule b quiet still u)
  run_answer quiet still a b (Played bytes more c es n last l t p e) (Unfit others rest m s) =
      absurd (not_stopped law others rest c es b (texts_there bytes more others rest c es l m t) s)
  run_answer quiet still a b (Played bytes more c es n last l t p e) (Played others rest d fs k final m u q f) =
      e ∙ one_played others rest c d es fs n k last final (texts_there bytes more others rest c es l m t) u p q ∙ sym f

-- ---- what is done is admitted, and what is admitted is done

texts_told : (r : Reading) (netlist schedule bytes more : List ℕ) (c : Circuit) (es : List Event) → AreLoaded r netlist schedule bytes more → AreTexts bytes more c es
    → (told : IsTold r netlist) (more_told : IsTold r schedule) → AreTexts told.0 more_told.0 c es
texts_told r netlist schedule bytes more c es l t (all, told) (rest, more_told) =
    let P : List ℕ → Type 0 = λ x. AreTexts x more c es in
    let Q : List ℕ → Type 0 = λ x. AreTexts all x c es in
    subst Q (loaded_whole MAX_NETLIST_BYTES r schedule more l.second t.few_more rest more_told)
    (subst P (loaded_whole MAX_NETLIST_BYTES r netlist bytes l.first t.few all told) t)

admitted_by : (r : Reading) (netlist schedule bytes more : List ℕ) (c : Circuit) (es : List Event) → AreLoaded r netlist schedule bytes more → AreTexts bytes more c es
    → AreDone c start es → IsTold r netlist → IsTold r schedule → RunAdmits r netlist schedule
admitted_by r netlist schedule bytes more c es l t d told more_told = record {
  bytes = told.0;
  more = more_told.0;
  told = told.1;
  more_told = more_told.1;
  c = c;
  events = es;
  texts = texts_told r netlist schedule bytes more c es l t told more_told;
  run = d;
}

unread_not_done : (r : Reading) (netlist schedule : List ℕ) → IsUnread r netlist schedule Done → ⊥
unread_not_done r netlist schedule (First rose e) = cc
unread_not_done r netlist schedule (Second rose e) = cc

stop_not_done : (bytes more : List ℕ) → TextsStop bytes more Done → ⊥
stop_not_done bytes more (TooLong long e) = cc
stop_not_done bytes more (MoreTooLong few long e) = cc
stop_not_done bytes more (NoNet refusal few short fault e) = cc
stop_not_done bytes more (NoSchedule c line few short net faulty e) = cc

pub run_only : (r : Reading) (netlist schedule : List ℕ) → RunGives r netlist schedule Done → IsTold r netlist → IsTold r schedule → RunAdmits r netlist schedule
run_only r netlist schedule (Unloaded u) told more_told = absurd (unread_not_done r netlist schedule u)
run_only r netlist schedule (Unfit bytes more l s) told more_told = absurd (stop_not_done bytes more s)
run_only r netlist schedule (Played bytes more c es n last l t p e) told more_told =
    admitted_by r netlist schedule bytes more c es l t (all_done c es n last p e) told more_told

pub run_printed : (r : Reading) (netlist schedule : List ℕ) (kept : List View) (text : List ℕ) (back : List View) → RunHands r netlist schedule kept text back
    → IsTold r netlist → IsTold r schedule → RunAdmits r netlist schedule
run_printed r netlist schedule kept text back h told more_told =
    admitted_by r netlist schedule h.bytes h.more h.c h.events h.loaded h.texts h.run told more_told

-- files that were loaded, and whose schedule is a run
pub run_done : (r : Reading) (netlist schedule bytes more : List ℕ) (c : Circuit) (es : List Event) → AreLoaded r netlist schedule bytes more
    → AreTexts bytes more c es → AreDone c start es → RunGives r netlist schedule Done
run_done r netlist schedule bytes more c es l t d = Played bytes more c es (length es) None l t (all_replayed c es d) refl

pub run_admitted : (r : Reading) (netlist schedule : List ℕ) → RunAdmits r netlist schedule → RunGives r netlist schedule Done
run_admitted r netlist schedule a =
    let loaded : AreLoaded r netlist schedule a.bytes a.more = record {
      first = whole_loaded MAX_NETLIST_BYTES r netlist a.bytes a.told a.texts.few;
      second = whole_loaded MAX_NETLIST_BYTES r schedule a.more a.more_told a.texts.few_more;
    } in
    run_done r netlist schedule a.bytes a.more a.c a.events loaded a.texts a.run
