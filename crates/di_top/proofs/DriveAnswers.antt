-- What the form `drive N SEED STEPS` gives where the content of its file is told: one outcome, and Done exactly of a netlist on
-- which a schedule without hazard is drawn.
use Rattle.std.proofs.Common.{◌≡◌, ℕ, ◌≤◌, List, arith, refl, sym, ◌∙◌, subst, ap, length, Some}
use Rattle.cmd_tree.specs.declared.limits.TheConstants.{MAX_NETLIST_BYTES, MAX_DRIVEN_STEPS}
use Rattle.net_core.specs.Wiring.{Circuit}
use Rattle.net_core.specs.Runs.{start}
use Rattle.net_text.proofs.CommandLine.{AreRead}
use Rattle.net_text.proofs.FaultLaw.{not_both, one_net, one_fault}
use Rattle.replay.specs.declared.event.Event.{Event}
use Rattle.net_drive.specs.declared.driving.Stop.{Stop}
use Rattle.net_drive.specs.declared.driving.Stop.TheVariants as end
use Rattle.net_drive.specs.Drawn.{IsDrawn, generator_of}
use Rattle.net_drive.proofs.Once.{once}
use Rattle.di_top.specs.declared.outcome.Outcome.{Outcome}
use Rattle.di_top.specs.declared.outcome.Outcome.TheVariants.{Done, Refused}
use Rattle.di_top.specs.declared.outcome.Why.TheVariants.{Net}
use Rattle.di_top.specs.Calls.{Reading, Loaded, Unread}
use Rattle.di_top.specs.RunForm.{netlist_cap}
use Rattle.di_top.specs.DriveForm.{IsNetText, NetStops, NetTooLong, NetFaulty, told_of_stop, IsFree, DriveGives, TooMany, Unloaded, Unfit, Driven, DriveAdmits, DrivePrints}
use Rattle.di_top.proofs.Loads.{loaded_whole, whole_loaded, one_load}

abbrev IsTold : Reading → List ℕ → Type 0
IsTold r name = (all : List ℕ) × (r.content name ≡ Some all)

-- ---- bytes are the text of one network, or stop a call by one outcome
not_stopped : AreRead → (bytes : List ℕ) (c : Circuit) (outcome : Outcome) → IsNetText bytes c → NetStops bytes outcome → ⊥
not_stopped law bytes c outcome t (NetTooLong long e) = omega (arith, long, t.few)
not_stopped law bytes c outcome t (NetFaulty refusal few fault e) = not_both law bytes c refusal t.netlist fault

one_stop : AreRead → (bytes : List ℕ) (a b : Outcome) → NetStops bytes a → NetStops bytes b → a ≡ b
one_stop law bytes a b (NetTooLong long e) (NetTooLong longer h) = e ∙ sym h
one_stop law bytes a b (NetTooLong long e) (NetFaulty refusal few fault h) = absurd (omega (arith, long, few))
one_stop law bytes a b (NetFaulty refusal few fault e) (NetTooLong long h) = absurd (omega (arith, long, few))
one_stop law bytes a b (NetFaulty refusal few fault e) (NetFaulty other small more h) =
    e ∙ ap (λ r. Refused (Net r)) (one_fault law bytes refusal other fault more) ∙ sym h

-- ---- one schedule is drawn on a network
one_end : (c d : Circuit) (seed steps : ℕ) (es fs : List Event) (a b : Stop) → c ≡ d → IsDrawn c seed steps es a → IsDrawn d seed steps fs b
    → told_of_stop (length es) a ≡ told_of_stop (length fs) b
one_end c d seed steps es fs a b same p q =
    let P : Circuit → Type 0 = λ x. IsDrawn x seed steps es a in
    let (e, f) = once d steps (generator_of seed) start es fs a b (subst P same p) q in
    ap (λ xs. told_of_stop (length xs) a) e ∙ ap (told_of_stop (length fs)) f

module _ (r : Reading) (netlist : List ℕ) (seed steps : ℕ) where
  -- what was loaded is the same each time
  stop_there : IsTold r netlist → (bytes others : List ℕ) (a : Outcome) → Loaded r netlist netlist_cap bytes → Loaded r netlist netlist_cap others
      → NetStops bytes a → NetStops others a
  stop_there told bytes others a l m s =
      let P : List ℕ → Type 0 = λ x. NetStops x a in
      subst P (one_load netlist_cap r netlist bytes others told l m) s

  text_there : IsTold r netlist → (bytes others : List ℕ) (c : Circuit) → Loaded r netlist netlist_cap bytes → Loaded r netlist netlist_cap others
      → IsNetText bytes c → IsNetText others c
  text_there told bytes others c l m t =
      let P : List ℕ → Type 0 = λ x. IsNetText x c in
      subst P (one_load netlist_cap r netlist bytes others told l m) t

  pub drive_answer : AreRead → IsTold r netlist → (Unread r netlist → ⊥) → (a b : Outcome) → DriveGives r netlist seed steps a → DriveGives r netlist seed steps b
      → a ≡ b
  drive_answer law told quiet a b (TooMany many e) (TooMany more h) = e ∙ sym h
  drive_answer law told quiet a b (TooMany many e) (Unloaded few rose h) = absurd (quiet rose)
  drive_answer law told quiet a b (TooMany many e) (Unfit bytes few l s) = absurd (omega (arith, many, few))
  drive_answer law told quiet a b (TooMany many e) (Driven bytes c es end few l t d h) = absurd (omega (arith, many, few))
  drive_answer law told quiet a b (Unloaded few rose e) h = absurd (quiet rose)
  drive_answer law told quiet a b (Unfit bytes few l s) (TooMany many h) = absurd (omega (arith, many, few))
  drive_answer law told quiet a b (Unfit bytes few l s) (Unloaded small rose h) = absurd (quiet rose)
  drive_answer law told quiet a b (Unfit bytes few l s) (Unfit others small m t) = one_stop law others a b (stop_there told bytes others a l m s) t
  drive_answer law told quiet a b (Unfit bytes few l s) (Driven others c es end small m t d h) =
      absurd (not_stopped law others c a t (stop_there told bytes others a l m s))
  drive_answer law told quiet a b (Driven bytes c es end few l t d e) (TooMany many h) = absurd (omega (arith, many, few))
  drive_answer law told quiet a b (Driven bytes c es end few l t d e) (Unloaded small rose h) = absurd (quiet rose)
  drive_answer law told quiet a b (Driven bytes c es end few l t d e) (Unfit others small m s) =
      absurd (not_stopped law others c b (text_there told bytes others c l m t) s)
  drive_answer law told quiet a b (Driven bytes c es end few l t d e) (Driven others k fs stop small m u q h) =
      let same : c ≡ k = one_net law others c k (text_there told bytes others c l m t).netlist u.netlist in
      e ∙ one_end c k seed steps es fs end stop same d q ∙ sym h

  -- ---- what is done is admitted, and what is admitted is done
  text_told : (bytes : List ℕ) (c : Circuit) → Loaded r netlist netlist_cap bytes → IsNetText bytes c → (told : IsTold r netlist) → IsNetText told.0 c
  text_told bytes c l t (all, told) =
      let P : List ℕ → Type 0 = λ x. IsNetText x c in
      subst P (loaded_whole MAX_NETLIST_BYTES r netlist bytes l t.few all told) t

  admitted_by : (bytes : List ℕ) (c : Circuit) (es : List Event) (end : Stop) → steps ≤ MAX_DRIVEN_STEPS → Loaded r netlist netlist_cap bytes
      → IsNetText bytes c → IsDrawn c seed steps es end → IsFree end → IsTold r netlist → DriveAdmits r netlist seed steps
  admitted_by bytes c es end few l t d free told = record {
    few = few;
    bytes = told.0;
    told = told.1;
    c = c;
    text = text_told bytes c l t told;
    events = es;
    end = end;
    drawn = d;
    free = free;
  }

  free_done : (n : ℕ) (end : Stop) → Done ≡ told_of_stop n end → IsFree end
  free_done n end.All e = tt
  free_done n end.Quiet e = tt
  free_done n (end.Hazard what) e = absurd (cc)

  done_free : (n : ℕ) (end : Stop) → IsFree end → Done ≡ told_of_stop n end
  done_free n end.All f = refl
  done_free n end.Quiet f = refl
  done_free n (end.Hazard what) f = absurd f

  stop_not_done : (bytes : List ℕ) → NetStops bytes Done → ⊥
  stop_not_done bytes (NetTooLong long e) = cc
  stop_not_done bytes (NetFaulty refusal few fault e) = cc

  pub drive_only : DriveGives r netlist seed steps Done → IsTold r netlist → DriveAdmits r netlist seed steps
  drive_only (TooMany many e) told = absurd (cc)
  drive_only (Unloaded few rose e) told = absurd (cc)
  drive_only (Unfit bytes few l s) told = absurd (stop_not_done bytes s)
  drive_only (Driven bytes c es end few l t d e) told = admitted_by bytes c es end few l t d (free_done (length es) end e) told

  pub drive_printed : (text : List ℕ) → DrivePrints r netlist seed steps text → IsTold r netlist → DriveAdmits r netlist seed steps
  drive_printed text p told = admitted_by p.bytes p.c p.events p.end p.few p.loaded p.netlist_text p.drawn p.free told

  pub drive_admitted : DriveAdmits r netlist seed steps → DriveGives r netlist seed steps Done
  drive_admitted a =
      Driven a.bytes a.c a.events a.end a.few (whole_loaded MAX_NETLIST_BYTES r netlist a.bytes a.told a.text.few) a.text a.drawn
      (done_free (length a.events) a.end a.free)

  pub driven_done : (bytes : List ℕ) (c : Circuit) (es : List Event) (end : Stop) → steps ≤ MAX_DRIVEN_STEPS → Loaded r netlist netlist_cap bytes
      → IsNetText bytes c → IsDrawn c seed steps es end → IsFree end → DriveGives r netlist seed steps Done
  driven_done bytes c es end few l t d free = Driven bytes c es end few l t d (done_free (length es) end free)
