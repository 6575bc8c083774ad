-- A schedule whose events are all Done is a run of the network.
use Rattle.std.proofs.Common.{◌≡◌, List, [], ◌∷◌, map, Option, Some, None, refl, sym, ap, ◌∙◌, subst}
use Rattle.net_core.specs.Runs.{State, Enabled, Fits, Run, after, after_all}
use Rattle.net_core.specs.Runs as runs
use Rattle.net_core.specs.Wiring.{Circuit}
use Rattle.net_core.specs.Networks.{fabric}
use Rattle.replay.specs.declared.event.Event.{Event}
use Rattle.replay.specs.declared.event.Answer.TheVariants.{Done}
use Rattle.replay.specs.Answers.{event_of, IsAnswerTo, left_by, state_after, AreDone, AreNamed}

-- a run of the events that these name, to the same state
pub record IsRunOf (c : Circuit) (s : State) (es : List Event) : Type 0 where
  pub events : List runs.Event
  pub named : AreNamed c es events
  pub run : Run (fabric c) s events
  pub after : after_all (fabric c) s events ≡ state_after c s es

done_parts : (c : Circuit) (s : State) (e : runs.Event) → IsAnswerTo c s (Some e) Done → Enabled (fabric c) s e × Fits (fabric c) s e
done_parts c s (runs.Fire n p) d = (d.0, d.1)
done_parts c s (runs.Pass w) d = (d.0, d.1)

parts_done : (c : Circuit) (s : State) (e : runs.Event) → Enabled (fabric c) s e → Fits (fabric c) s e → IsAnswerTo c s (Some e) Done
parts_done c s (runs.Fire n p) e f = (e, f)
parts_done c s (runs.Pass w) e f = (e, f)

pub run_of : (c : Circuit) (s : State) (es : List Event) → AreDone c s es → IsRunOf c s es
run_of c s [] d = record { events = []; named = refl; run = tt; after = refl }
run_of c s (e ∷ es) d = by (event_of c e) refl d.0 d.1 (run_of c (left_by c s (event_of c e)) es d.1)
  where
    by : (o : Option runs.Event) → event_of c e ≡ o → IsAnswerTo c s o Done → AreDone c (left_by c s (event_of c e)) es
        → IsRunOf c (left_by c s (event_of c e)) es → IsRunOf c s (e ∷ es)
    by None q a d r = absurd (cc)
    by (Some ev) q a d r =
        let parts = done_parts c s ev a in
        let state = ap (left_by c s) q in
        record {
          events = ev ∷ r.events;
          named = λ i. sym q i ∷ r.named i;
          run = (parts.0, parts.1, subst (λ u. Run (fabric c) u r.events) state r.run);
          after = ap (λ u. after_all (fabric c) u r.events) (sym state) ∙ r.after;
        }

pub run_done : (c : Circuit) (s : State) (es : List Event) (evs : List runs.Event) → AreNamed c es evs → Run (fabric c) s evs → AreDone c s es
run_done c s [] evs n r = tt
run_done c s (e ∷ es) [] n r = absurd (cc)
run_done c s (e ∷ es) (ev ∷ evs) n r =
    let first : Some ev ≡ event_of c e = cc in
    let rest : map Some evs ≡ map (event_of c) es = cc in (
      subst (λ o. IsAnswerTo c s o Done) first (parts_done c s ev r.0 r.1),
      subst (λ o. AreDone c (left_by c s o) es) first (run_done c (after (fabric c) s ev) es evs rest r.2),
    )
