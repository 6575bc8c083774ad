-- From the netlist that was read, and the schedule that was drawn on it, to what is answered and printed.
use Rattle.std.proofs.Common.{◌≡◌, ◌⊎◌, inl, inr, ℕ, ◌≤◌, ◌<◌, List, [], Some, arith, refl, sym, ap, subst, length}
use Rattle.cmd_tree.specs.declared.limits.TheConstants.{MAX_NETLIST_BYTES, MAX_DRIVEN_STEPS}
use Rattle.rand_pcg.specs.Lcg.{Lcg}
use Rattle.net_core.specs.Runs.{State}
use Rattle.net_core.specs.Wiring.{Circuit}
use Rattle.net_text.specs.declared.refusal.NetRefusal.{NetRefusal}
use Rattle.net_text.specs.declared.refusal.NetRefusal.TheVariants as net
use Rattle.net_text.specs.NetFault.{NetFault}
use Rattle.replay.specs.declared.event.Event.{Event}
use Rattle.replay.specs.Answers.{IsPlayable}
use Rattle.net_drive.specs.declared.driving.Stop.{Stop as End}
use Rattle.net_drive.specs.declared.driving.Stop.TheVariants as end
use Rattle.net_drive.specs.Drawn.{Drawn as IsDrawnFrom, ended, quiet, hazard, applied}
use Rattle.di_top.specs.declared.outcome.Outcome.{Outcome}
use Rattle.di_top.specs.declared.outcome.Outcome.TheVariants.{Done, NoMemory, ReadFault, Limit}
use Rattle.di_top.specs.declared.outcome.Stop.{Stop}
use Rattle.di_top.specs.declared.drive_form.Drawn.{Drawn}
use Rattle.di_top.specs.Requests.{Drive}
use Rattle.di_top.specs.Calls.{Reading, Loaded, Unread}
use Rattle.di_top.specs.Ends.{Halts}
use Rattle.di_top.specs.Plans.{wording_of}
use Rattle.di_top.specs.Say.{Wording, by_line}
use Rattle.di_top.specs.RunForm.{netlist_cap, names_of, NetNames, told_of_net}
use Rattle.di_top.specs.DriveForm.{IsNetText, NetStops, NetTooLong, NetFaulty, DriveGives, TooMany, Unloaded, Unfit, Driven, DrivePrints, schedule_text}
use Rattle.di_top.specs.Mirror.Drives.{IsDriven, StopsDrive}
use Rattle.di_top.proofs.DriveAnswers.{driven_done}
use Rattle.di_top.proofs.Replays.{playable}

pub net_halts : (bytes : List ℕ) (refusal : NetRefusal) → length bytes ≤ MAX_NETLIST_BYTES
    → (refusal ≡ net.NoMemory) ⊎ NetFault bytes refusal → (told_of_net refusal ≡ NoMemory) ⊎ NetStops bytes (told_of_net refusal)
net_halts bytes refusal few (inl e) = inl (ap told_of_net e)
net_halts bytes (net.BadLine line) few (inr f) = inr (NetFaulty (net.BadLine line) few f refl)
net_halts bytes (net.SpecRefused rule) few (inr f) = inr (NetFaulty (net.SpecRefused rule) few f refl)
net_halts bytes (net.TooManyComponents line) few (inr f) = inr (NetFaulty (net.TooManyComponents line) few f refl)
net_halts bytes (net.Truncated line) few (inr f) = inr (NetFaulty (net.Truncated line) few f refl)
net_halts bytes (net.OpenPort wire) few (inr f) = inr (NetFaulty (net.OpenPort wire) few f refl)
net_halts bytes net.NoMemory few (inr f) = inl refl

pub drivable : (bytes : List ℕ) (c : Circuit) → IsNetText bytes c → IsPlayable c
drivable bytes c t = playable bytes c t.netlist

-- no more events are drawn than there are steps
pub few_drawn : (c : Circuit) (n : ℕ) (g : Lcg) (s : State) (es : List Event) (stop : End) → IsDrawnFrom c n g s es stop → length es ≤ n
few_drawn c n g s es stop (ended _ _) = omega arith
few_drawn c n g s es stop (quiet m _ _ l) = omega arith
few_drawn c n g s es stop (hazard m _ _ e a d h ne) = omega arith
few_drawn c n g s es stop (applied m _ _ e rest _ d h more) = omega (arith, few_drawn c m _ _ rest stop more)

module _ (r : Reading) (netlist : List ℕ) (seed steps : ℕ) where
  no_memory : (wording : Wording) → Halts (Some (Drive netlist seed steps)) r NoMemory wording
  no_memory wording = record { stops = tt; gives = inl refl; named = tt }

  pub many_halt : (stop : Outcome) → (MAX_DRIVEN_STEPS < steps) × (stop ≡ Limit 8 steps) → Halts (Some (Drive netlist seed steps)) r stop (by_line [])
  many_halt stop (many, e) =
      let P : Outcome → Type 0 = λ x. Halts (Some (Drive netlist seed steps)) r x (by_line []) in
      subst P (sym e) (record { stops = tt; gives = inr (TooMany many refl); named = tt })

  module _ (few : steps ≤ MAX_DRIVEN_STEPS) where
    pub unread_halts : (stop : Outcome) → (stop ≡ NoMemory) ⊎ ((stop ≡ ReadFault 1) × Unread r netlist)
        → Halts (Some (Drive netlist seed steps)) r stop (by_line [])
    unread_halts stop (inl e) =
        let P : Outcome → Type 0 = λ x. Halts (Some (Drive netlist seed steps)) r x (by_line []) in
        subst P (sym e) (no_memory (by_line []))
    unread_halts stop (inr (e, rose)) =
        let P : Outcome → Type 0 = λ x. Halts (Some (Drive netlist seed steps)) r x (by_line []) in
        subst P (sym e) (record { stops = tt; gives = inr (Unloaded few rose refl); named = tt })

    module _ (bytes : List ℕ) (loaded : Loaded r netlist netlist_cap bytes) where
      pub text_halts : (stop : Outcome) → (stop ≡ NoMemory) ⊎ NetStops bytes stop → Halts (Some (Drive netlist seed steps)) r stop (by_line [])
      text_halts stop (inl e) =
          let P : Outcome → Type 0 = λ x. Halts (Some (Drive netlist seed steps)) r x (by_line []) in
          subst P (sym e) (no_memory (by_line []))
      text_halts stop (inr (NetTooLong long e)) =
          let P : Outcome → Type 0 = λ x. Halts (Some (Drive netlist seed steps)) r x (by_line []) in
          subst P (sym e) (record { stops = tt; gives = inr (Unfit bytes few loaded (NetTooLong long refl)); named = tt })
      text_halts stop (inr (NetFaulty refusal short fault e)) =
          let P : Outcome → Type 0 = λ x. Halts (Some (Drive netlist seed steps)) r x (by_line []) in
          subst P (sym e) (record { stops = tt; gives = inr (Unfit bytes few loaded (NetFaulty refusal short fault refl)); named = tt })

      module _ (c : Circuit) (text : IsNetText bytes c) where
        pub drive_halts : (stop : Stop) → (stop.outcome ≡ NoMemory) ⊎ StopsDrive c seed steps stop
            → Halts (Some (Drive netlist seed steps)) r stop.outcome (wording_of stop)
        drive_halts stop (inl e) =
            let P : Outcome → Type 0 = λ x. Halts (Some (Drive netlist seed steps)) r x (wording_of stop) in
            subst P (sym e) (no_memory (wording_of stop))
        drive_halts stop (inr h) =
            let P : Stop → Type 0 = λ x. Halts (Some (Drive netlist seed steps)) r x.outcome (wording_of x) in
            let known : NetNames r netlist (names_of c) =
            record { bytes = bytes; loaded = loaded; c = c; is_netlist = text.netlist; are = refl } in
            subst P (sym h.told) (record {
              stops = tt;
              gives = inr (Driven bytes c h.events (end.Hazard h.what) few loaded text h.is refl);
              named = (known, refl);
            })

        pub drive_finishes : (drawn : Drawn) → IsDriven c seed steps drawn
            → DriveGives r netlist seed steps Done × DrivePrints r netlist seed steps (schedule_text (names_of drawn.net) drawn.events.items)
        drive_finishes drawn d = (
          driven_done r netlist seed steps bytes c drawn.events.items d.end few loaded text d.is d.free,
          record {
            few = few;
            bytes = bytes;
            c = c;
            loaded = loaded;
            netlist_text = text;
            events = drawn.events.items;
            end = d.end;
            drawn = d.is;
            free = d.free;
            is = ap (λ (k : Circuit). schedule_text (names_of k) drawn.events.items) d.net;
          },
        )
