-- The table of ends while the ports of a node are noted.
use Rattle.std.proofs.Common.{◌≡◌, ℕ, ◌+◌, ◌<◌, ◌≤◌, Bool, true, false, not, List, length, get_or, set, refl, sym, ap, ◌∙◌, arith, inl, inr}
use Rattle.std.specs.Prelude.{nat_eq}
use Rattle.std.proofs.lemmas.List.{get_or-set_same, get_or-set_other}
use Rattle.std.proofs.lemmas.Bool.{cases_eq}
use Rattle.std.proofs.Math.ListN.{length-set}
use Rattle.net_core.specs.declared.table.End.{End}
use Rattle.net_core.specs.declared.table.End.TheVariants.{At}
use Rattle.net_core.specs.declared.table.Ends.{Ends}
use Rattle.net_core.specs.Mirror.EndTables.{joined, driver_at, receiver_at, no_ends, Added, turned, ports_from}
use Rattle.net_core.proofs.Joining.{joined_assoc, joined_free, left, left_here, left_elsewhere, left_other_side, left_none}

-- the ports before port i are noted
pub record Noted (old now : List Ends) (n : ℕ) (ds : List Bool) (ws : List ℕ) (i : ℕ) : Type 0 where
  pub sized : length now ≡ length old
  pub drivers_left : (v : ℕ) → v < length old → joined (driver_at now v) (left (turned true n) n ds ws i v) ≡ joined (driver_at old v) (left (turned true n) n ds ws 0 v)
  pub receivers_left : (v : ℕ) → v < length old → joined (receiver_at now v) (left (turned false n) n ds ws i v) ≡ joined (receiver_at old v) (left (turned false n) n ds ws 0 v)

not_not : (b : Bool) → not (not b) ≡ b
not_not true = refl
not_not false = refl

module _ (old now : List Ends) (n : ℕ) (ds : List Bool) (ws : List ℕ) (i w : ℕ)
    (k : Noted old now n ds ws i) (in_ds : i < length ds) (in_ws : i < length ws) (at : w ≡ get_or ws i 0) (in_old : w < length old) (x : Ends) where
  set_same : (v : ℕ) → v ≡ w → get_or (set now w x) v no_ends ≡ x
  set_same v e = ap (λ u. get_or (set now w x) u no_ends) e ∙ get_or-set_same now w x no_ends (omega (arith, k.sized))

  -- the side that the port is on, and the other one
  here : (b : Bool) (f : Ends → End) (t : ℕ → End) → get_or ds i false ≡ b → f x ≡ joined (f (get_or now w no_ends)) (At (record { node = n; number = i }))
      → ((v : ℕ) → v < length old → joined (f (get_or now v no_ends)) (left b n ds ws i v) ≡ t v)
      → (v : ℕ) → v < length old → joined (f (get_or (set now w x) v no_ends)) (left b n ds ws (i + 1) v) ≡ t v
  here b f t side is before v in_v = elim (cases_eq v w) [
    | inl e ↦
        ap (λ (u : End). joined u (left b n ds ws (i + 1) v)) (ap f (set_same v e) ∙ is)
        ∙ joined_assoc (f (get_or now w no_ends)) (At (record { node = n; number = i })) (left b n ds ws (i + 1) v)
        ∙ ap (joined (f (get_or now w no_ends))) (sym (left_here b n ds ws i in_ds in_ws v side (e ∙ at)))
        ∙ ap (λ u. joined (f (get_or now u no_ends)) (left b n ds ws i v)) (sym e)
        ∙ before v in_v
    | inr ne ↦
        ap (λ (u : End). joined u (left b n ds ws (i + 1) v)) (ap f (get_or-set_other now w v x no_ends ne))
        ∙ ap (joined (f (get_or now v no_ends))) (sym (left_elsewhere b n ds ws i in_ds in_ws v side (λ same. ne (same ∙ sym at))))
        ∙ before v in_v
  ]

  same_side : (f : Ends → End) → f x ≡ f (get_or now w no_ends) → (v : ℕ) → f (get_or (set now w x) v no_ends) ≡ f (get_or now v no_ends)
  same_side f is v = elim (cases_eq v w) [
    | inl e ↦ ap f (set_same v e) ∙ is ∙ ap (λ u. f (get_or now u no_ends)) (sym e)
    | inr ne ↦ ap f (get_or-set_other now w v x no_ends ne)
  ]

  there : (b : Bool) (f : Ends → End) (t : ℕ → End) → get_or ds i false ≡ not b → f x ≡ f (get_or now w no_ends)
      → ((v : ℕ) → v < length old → joined (f (get_or now v no_ends)) (left b n ds ws i v) ≡ t v)
      → (v : ℕ) → v < length old → joined (f (get_or (set now w x) v no_ends)) (left b n ds ws (i + 1) v) ≡ t v
  there b f t side is before v in_v =
      ap (λ (u : End). joined u (left b n ds ws (i + 1) v)) (same_side f is v)
      ∙ ap (joined (f (get_or now v no_ends))) (sym (left_other_side b n ds ws i in_ds in_ws v side))
      ∙ before v in_v

  pub more_driver : get_or ds i false ≡ not (nat_eq n 0) → x.driver ≡ joined (driver_at now w) (At (record { node = n; number = i })) → x.receiver ≡ receiver_at now w
      → Noted old (set now w x) n ds ws (i + 1)
  more_driver side driver receiver = record {
    sized = length-set now w x ∙ k.sized;
    drivers_left = here (turned true n) (λ (e : Ends). e.driver) (λ v. joined (driver_at old v) (left (turned true n) n ds ws 0 v)) side driver k.drivers_left;
    receivers_left = there (turned false n) (λ (e : Ends). e.receiver) (λ v. joined (receiver_at old v) (left (turned false n) n ds ws 0 v)) side receiver k.receivers_left;
  }

  pub more_receiver : get_or ds i false ≡ nat_eq n 0 → x.receiver ≡ joined (receiver_at now w) (At (record { node = n; number = i })) → x.driver ≡ driver_at now w
      → Noted old (set now w x) n ds ws (i + 1)
  more_receiver side receiver driver = record {
    sized = length-set now w x ∙ k.sized;
    drivers_left = there (turned true n) (λ (e : Ends). e.driver) (λ v. joined (driver_at old v) (left (turned true n) n ds ws 0 v)) (side ∙ sym (not_not (nat_eq n 0))) driver k.drivers_left;
    receivers_left = here (turned false n) (λ (e : Ends). e.receiver) (λ v. joined (receiver_at old v) (left (turned false n) n ds ws 0 v)) side receiver k.receivers_left;
  }

-- all ports are noted
pub noted_all : (old now : List Ends) (n : ℕ) (ds : List Bool) (ws : List ℕ) (i : ℕ) → length ws ≤ i → Noted old now n ds ws i
    → Added old now (ports_from (turned true n) n 0 ds ws) (ports_from (turned false n) n 0 ds ws)
noted_all old now n ds ws i past k = record {
  sized = k.sized;
  drivers_of = λ v in_v. sym (joined_free (driver_at now v)) ∙ ap (joined (driver_at now v)) (sym (left_none (turned true n) n ds ws i v past)) ∙ k.drivers_left v in_v;
  receivers_of = λ v in_v. sym (joined_free (receiver_at now v)) ∙ ap (joined (receiver_at now v)) (sym (left_none (turned false n) n ds ws i v past)) ∙ k.receivers_left v in_v;
}
