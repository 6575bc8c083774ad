-- From two texts that were read, and the replay of their events, to what is answered, printed and handed back.
use Rattle.std.proofs.Common.{◌≡◌, ◌≢◌, ◌⊎◌, inl, inr, ℕ, ◌+◌, ◌-◌, ◌≤◌, ◌<◌, List, [], ◌∷◌, ◌++◌, Option, Some, None, arith, refl, sym, ◌∙◌, subst, ap, get_or, length, length-append, take}
use Rattle.std.proofs.lemmas.List.{take_all, take_more}
use Rattle.std.proofs.lemmas.Option.{slice_get-get_or}
use Rattle.std.specs.Prelude.{slice_get}
use Rattle.std.specs.Option.{IfSome}
use Rattle.cmd_tree.specs.declared.command.Command.{Command}
use Rattle.cmd_tree.specs.declared.limits.TheConstants.{MAX_NETLIST_BYTES}
use Rattle.net_core.specs.declared.spec.NodeSpec.TheVariants.{Cmd}
use Rattle.net_core.specs.Runs.{State, start}
use Rattle.net_core.specs.Networks.{IsSpecified}
use Rattle.net_core.specs.Wiring.{Circuit}
use Rattle.net_text.specs.declared.refusal.NetRefusal.{NetRefusal}
use Rattle.net_text.specs.declared.refusal.NetRefusal.TheVariants as net
use Rattle.net_text.specs.NetFault.{NetFault, IsNetlist}
use Rattle.replay.specs.declared.event.Event.{Event}
use Rattle.replay.specs.declared.event.Answer.{Answer}
use Rattle.replay.specs.declared.event.Answer.TheVariants as answer
use Rattle.replay.specs.declared.schedule.ScheduleRefusal.{ScheduleRefusal}
use Rattle.replay.specs.declared.schedule.ScheduleRefusal.TheVariants as schedule
use Rattle.replay.specs.Answers.{Course, IsPlayable, event_of, IsAnswer, left_by, state_after, state_of, AreDone, IsStop as IsEnd}
use Rattle.replay.specs.Probes.{View, seen_of, all_stepped}
use Rattle.replay.specs.ScheduleText.{AreLinesOf, text_of, IsSchedule, IsFaultyLine, line_told}
use Rattle.di_top.specs.declared.outcome.Outcome.{Outcome}
use Rattle.di_top.specs.declared.outcome.Outcome.TheVariants.{NoMemory}
use Rattle.di_top.specs.Requests.{Run}
use Rattle.di_top.specs.Calls.{Reading}
use Rattle.di_top.specs.declared.outcome.Stop.{Stop}
use Rattle.di_top.specs.Plans.{IsStop, names_in, counting, wording_of}
use Rattle.di_top.specs.Ends.{Finishes, Halts}
use Rattle.di_top.specs.Say.{Wording, by_line}
use Rattle.di_top.specs.RunForm.{AreLoaded, IsUnread, First, Second, AreTexts, TextsStop, TooLong, MoreTooLong, NoNet, NoSchedule, told_of_net, told_of_schedule, told_of_answer, watched, names_of, names_of_spec, Unloaded, Unfit, Played, NetNames, RunWording, RunHands}
use Rattle.di_top.specs.Mirror.Replayed.{IsUnderWay, EndsReplay, IsHalted, IsRan}
use Rattle.di_top.proofs.RunAnswers.{run_done}

-- ---- what was read

pub playable : (bytes : List ℕ) (c : Circuit) → IsNetlist bytes c → IsPlayable c
playable bytes c n = record {
  closed = n.told.closed;
  basic = n.told.basic;
  command = n.told.command;
  specified = n.told.specified;
  admitted = n.admitted;
}

pub command_names : (c : Circuit) (k : Command) → IsSpecified c (Cmd k) → names_of c ≡ k.names
command_names c k e = ap names_of_spec e

-- a schedule has no more events than bytes
lines_many : (names : List (List ℕ)) (es : List Event) (lines : List (List ℕ)) → AreLinesOf names es lines → length es ≤ length (text_of lines)
lines_many names [] [] h = omega arith
lines_many names [] (line ∷ lines) h = absurd h
lines_many names (e ∷ es) [] h = absurd h
lines_many names (e ∷ es) (line ∷ lines) h =
    omega (arith, lines_many names es lines h.2, length-append line (10 ∷ text_of lines))

pub few_events : (names : List (List ℕ)) (es : List Event) (bytes : List ℕ) → IsSchedule names es bytes → length es ≤ length bytes
few_events names es bytes s = omega (arith, lines_many names es s.lines s.of, ap length s.text)

-- ---- what stops the reading

pub net_stops : (bytes more : List ℕ) (refusal : NetRefusal) → length bytes ≤ MAX_NETLIST_BYTES → length more ≤ MAX_NETLIST_BYTES
    → (refusal ≡ net.NoMemory) ⊎ NetFault bytes refusal → (told_of_net refusal ≡ NoMemory) ⊎ TextsStop bytes more (told_of_net refusal)
net_stops bytes more refusal few short (inl e) = inl (ap told_of_net e)
net_stops bytes more (net.BadLine line) few short (inr f) = inr (NoNet (net.BadLine line) few short f refl)
net_stops bytes more (net.SpecRefused rule) few short (inr f) = inr (NoNet (net.SpecRefused rule) few short f refl)
net_stops bytes more (net.TooManyComponents line) few short (inr f) = inr (NoNet (net.TooManyComponents line) few short f refl)
net_stops bytes more (net.Truncated line) few short (inr f) = inr (NoNet (net.Truncated line) few short f refl)
net_stops bytes more (net.OpenPort wire) few short (inr f) = inr (NoNet (net.OpenPort wire) few short f refl)
net_stops bytes more net.NoMemory few short (inr f) = inl refl

pub schedule_stops : (bytes more : List ℕ) (c : Circuit) (refusal : ScheduleRefusal) → length bytes ≤ MAX_NETLIST_BYTES → length more ≤ MAX_NETLIST_BYTES
    → IsNetlist bytes c → IfSome (line_told refusal) (IsFaultyLine (names_of c) more)
    → (told_of_schedule refusal ≡ NoMemory) ⊎ TextsStop bytes more (told_of_schedule refusal)
schedule_stops bytes more c (schedule.BadLine line) few short n f = inr (NoSchedule c line few short n f refl)
schedule_stops bytes more c schedule.NoMemory few short n f = inl refl

-- ---- one event more

pub done_more : (c : Circuit) (s : State) (es : List Event) (e : Event) → AreDone c s es → IsAnswer c (state_after c s es) e answer.Done
    → AreDone c s (es ++ e ∷ [])
done_more c s [] e d a = (a, tt)
done_more c s (x ∷ es) e d a = (d.0, done_more c (left_by c s (event_of c x)) es e d.1 a)

pub watched_more : (c : Circuit) (es : List Event) (e : Event) (vs : List View)
    → watched c (es ++ e ∷ []) vs ≡ all_stepped (seen_of c e) (watched c es vs)
watched_more c [] e vs = refl
watched_more c (x ∷ es) e vs = watched_more c es e (all_stepped (seen_of c x) vs)

-- the event after the first n is not applied
pub ends_at : (c : Circuit) (es : List Event) (n : ℕ) (e : Event) (a : Answer) → AreDone c start (take n es) → slice_get es n ≡ Some e
    → IsAnswer c (state_after c start (take n es)) e a → a ≢ answer.Done → EndsReplay c es (told_of_answer (n + 1) a)
ends_at c es n e a d at is ne = record {
  applied = n;
  answer = a;
  replayed = record {
    done = d;
    stop = subst (λ (o : Option Event). stop_of o) (sym at) (is, ne);
  };
  told = refl;
}
  where
    stop_of : Option Event → Type 0
    stop_of o = IsEnd c (state_after c start (take n es)) o (Some a)

-- ---- the events one after the other

pub none_applied : (c : Circuit) (es : List Event) (applied : List Event) (kept : List View) → applied ≡ [] → IsUnderWay c es 0 applied kept kept
none_applied c es applied kept e = record { are = e; done = tt; watched_by = refl }

-- the answer to the next event
answer_there : (c : Circuit) (es : List Event) (i : ℕ) (e : Event) (a : Answer) (r : Course) → r.net ≡ c → r.events ≡ take i es
    → IsAnswer r.net (state_of r) e a → IsAnswer c (state_after c start (take i es)) e a
answer_there c es i e a r same are is =
    let P : Circuit → Type 0 = λ d. IsAnswer d (state_after d start r.events) e a in
    let Q : List Event → Type 0 = λ fs. IsAnswer c (state_after c start fs) e a in
    subst Q are (subst P same is)

pub one_applied : (c : Circuit) (es : List Event) (i : ℕ) (d : Event) (kept now next : List View) (r s : Course) → r.net ≡ c
    → IsUnderWay c es i r.events kept now → i < length es → IsAnswer r.net (state_of r) (get_or es i d) answer.Done
    → s ≡ record r { events = r.events ++ get_or es i d ∷ []; room = r.room - 1 }
    → next ≡ all_stepped (seen_of r.net (get_or es i d)) now → IsUnderWay c es (i + 1) s.events kept next
one_applied c es i d kept now next r s same w less is made seen =
    let e : Event = get_or es i d in
    let more : take (i + 1) es ≡ take i es ++ get_or es i d ∷ [] = take_more es i d less in
    let P : List Event → Type 0 = λ fs. AreDone c start fs in
    record {
      are = ap (λ (u : Course). u.events) made ∙ ap (λ fs. fs ++ get_or es i d ∷ []) w.are ∙ sym more;
      done = subst P (sym more) (done_more c start (take i es) e w.done (answer_there c es i e answer.Done r same w.are is));
      watched_by = seen ∙ ap (λ (k : Circuit). all_stepped (seen_of k (get_or es i d)) now) same
          ∙ ap (all_stepped (seen_of c (get_or es i d))) w.watched_by
          ∙ sym (watched_more c (take i es) (get_or es i d) kept) ∙ sym (ap (λ fs. watched c fs kept) more);
    }

pub one_refused : (c : Circuit) (es : List Event) (i : ℕ) (d : Event) (a : Answer) (kept now : List View) (r : Course) → r.net ≡ c
    → IsUnderWay c es i r.events kept now → i < length es → IsAnswer r.net (state_of r) (get_or es i d) a → a ≢ answer.Done
    → EndsReplay c es (told_of_answer (i + 1) a)
one_refused c es i d a kept now r same w less is ne =
    ends_at c es i (get_or es i d) a w.done (slice_get-get_or es i d less) (answer_there c es i (get_or es i d) a r same w.are is) ne

pub all_applied : (c : Circuit) (es : List Event) (i : ℕ) (applied : List Event) (kept now : List View) → IsUnderWay c es i applied kept now → length es ≤ i
    → AreDone c start es × (applied ≡ es) × (now ≡ watched c es kept)
all_applied c es i applied kept now w past =
    let all : take i es ≡ es = take_all i es past in
    let P : List Event → Type 0 = λ fs. AreDone c start fs in
    (subst P all w.done, w.are ∙ all, w.watched_by ∙ ap (λ fs. watched c fs kept) all)

-- ---- what is answered

-- the outcome of an answer ends a call before anything is written
answer_stops : (n : ℕ) (a : Answer) → a ≢ answer.Done → IsStop (told_of_answer n a)
answer_stops n answer.Done ne = absurd (ne refl)
answer_stops n (answer.Clash wire) ne = tt
answer_stops n (answer.Forbidden component port) ne = tt
answer_stops n (answer.WrongOutput a) ne = tt
answer_stops n (answer.CannotFire component) ne = tt
answer_stops n (answer.EmptyWire wire) ne = tt
answer_stops n (answer.NotAllowed a) ne = tt
answer_stops n answer.NoSuch ne = tt
answer_stops n answer.NoMemory ne = tt

names_told : (r : Reading) (netlist : List ℕ) (names : List (List ℕ)) (n : ℕ) (a : Answer) → NetNames r netlist names
    → RunWording r netlist (told_of_answer n a) (by_line names)
names_told r netlist names n answer.Done h = tt
names_told r netlist names n (answer.Clash wire) h = (h, refl)
names_told r netlist names n (answer.Forbidden component port) h = (h, refl)
names_told r netlist names n (answer.WrongOutput a) h = (h, refl)
names_told r netlist names n (answer.CannotFire component) h = (h, refl)
names_told r netlist names n (answer.EmptyWire wire) h = (h, refl)
names_told r netlist names n (answer.NotAllowed a) h = (h, refl)
names_told r netlist names n answer.NoSuch h = (h, refl)
names_told r netlist names n answer.NoMemory h = tt

end_refused : (c : Circuit) (s : State) (o : Option Event) (a : Answer) → IsEnd c s o (Some a) → a ≢ answer.Done
end_refused c s None a p = absurd p
end_refused c s (Some e) a p = p.1

module _ (r : Reading) (netlist schedule : List ℕ) (kept : List View) where
  no_memory : (wording : Wording) → Halts (Some (Run netlist schedule kept)) r NoMemory wording
  no_memory wording = record { stops = tt; gives = inl refl; named = tt }

  pub unread_halts : (stop : Outcome) → (stop ≡ NoMemory) ⊎ IsUnread r netlist schedule stop → Halts (Some (Run netlist schedule kept)) r stop (by_line [])
  unread_halts stop (inl e) =
      let P : Outcome → Type 0 = λ x. Halts (Some (Run netlist schedule kept)) r x (by_line []) in
      subst P (sym e) (no_memory (by_line []))
  unread_halts stop (inr (First rose e)) =
      let P : Outcome → Type 0 = λ x. Halts (Some (Run netlist schedule kept)) r x (by_line []) in
      subst P (sym e) (record { stops = tt; gives = inr (Unloaded (First rose refl)); named = tt })
  unread_halts stop (inr (Second rose e)) =
      let P : Outcome → Type 0 = λ x. Halts (Some (Run netlist schedule kept)) r x (by_line []) in
      subst P (sym e) (record { stops = tt; gives = inr (Unloaded (Second rose refl)); named = tt })

  module _ (bytes more : List ℕ) (loaded : AreLoaded r netlist schedule bytes more) where
    pub texts_halt : (stop : Outcome) → (stop ≡ NoMemory) ⊎ TextsStop bytes more stop → Halts (Some (Run netlist schedule kept)) r stop (by_line [])
    texts_halt stop (inl e) =
        let P : Outcome → Type 0 = λ x. Halts (Some (Run netlist schedule kept)) r x (by_line []) in
        subst P (sym e) (no_memory (by_line []))
    texts_halt stop (inr (TooLong long e)) =
        let P : Outcome → Type 0 = λ x. Halts (Some (Run netlist schedule kept)) r x (by_line []) in
        subst P (sym e) (record { stops = tt; gives = inr (Unfit bytes more loaded (TooLong long refl)); named = tt })
    texts_halt stop (inr (MoreTooLong few long e)) =
        let P : Outcome → Type 0 = λ x. Halts (Some (Run netlist schedule kept)) r x (by_line []) in
        subst P (sym e) (record { stops = tt; gives = inr (Unfit bytes more loaded (MoreTooLong few long refl)); named = tt })
    texts_halt stop (inr (NoNet refusal few short fault e)) =
        let P : Outcome → Type 0 = λ x. Halts (Some (Run netlist schedule kept)) r x (by_line []) in
        subst P (sym e) (record { stops = tt; gives = inr (Unfit bytes more loaded (NoNet refusal few short fault refl)); named = tt })
    texts_halt stop (inr (NoSchedule c line few short net faulty e)) =
        let P : Outcome → Type 0 = λ x. Halts (Some (Run netlist schedule kept)) r x (by_line []) in
        subst P (sym e) (record { stops = tt; gives = inr (Unfit bytes more loaded (NoSchedule c line few short net faulty refl)); named = tt })

    module _ (c : Circuit) (events : List Event) (texts : AreTexts bytes more c events) where
      pub replay_halts : (stop : Stop) → (stop.outcome ≡ NoMemory) ⊎ IsHalted c events stop
          → Halts (Some (Run netlist schedule kept)) r stop.outcome (wording_of stop)
      replay_halts stop (inl e) =
          let P : Outcome → Type 0 = λ x. Halts (Some (Run netlist schedule kept)) r x (wording_of stop) in
          subst P (sym e) (no_memory (wording_of stop))
      replay_halts stop (inr h) =
          let P : Outcome → Type 0 = λ x. Halts (Some (Run netlist schedule kept)) r x (wording_of stop) in
          let n = h.ends.applied in
          let a = h.ends.answer in
          let names = names_in stop.net in
          let ne = end_refused c (state_after c start (take n events)) (slice_get events n) a h.ends.replayed.stop in
          let known : NetNames r netlist names =
          record { bytes = bytes; loaded = loaded.first; c = c; is_netlist = texts.netlist; are = ap names_in h.kept } in
          let is : wording_of stop ≡ by_line names = ap (λ it. counting it names) h.by_lines in
          let W : Wording → Type 0 = λ w. RunWording r netlist (told_of_answer (n + 1) a) w in
          subst P (sym h.ends.told) (record {
            stops = answer_stops (n + 1) a ne;
            gives = inr (Played bytes more c events n (Some a) loaded texts h.ends.replayed refl);
            named = subst W (sym is) (names_told r netlist names (n + 1) a known);
          })

      pub replay_finishes : (text : List ℕ) (back : List View) → IsRan c events kept text back
          → Finishes (Some (Run netlist schedule kept)) r text back
      replay_finishes text back h =
          let hands : RunHands r netlist schedule kept text back = record {
            bytes = bytes;
            more = more;
            c = c;
            events = events;
            loaded = loaded;
            texts = texts;
            run = h.done;
            seen = h.seen;
            shown = h.shown;
            is = h.is;
            watched_by = h.watched_by;
          } in
          record { gives = inr (run_done r netlist schedule bytes more c events loaded texts h.done); prints = (back, hands); hands = hands }
