-- The rules of nodes by the lists of their wires: a kind, which counts ports, is a rule that counts wires.
use Rattle.std.proofs.Common.{◌≡◌, ◌↔◌, ℕ, suc, ◌+◌, ◌-◌, ◌<◌, ◌≤◌, Bool, List, [], ◌∷◌, ◌++◌, map, length, get_or, ◌⊎◌, inl, inr, refl, sym, ap, subst, ◌∙◌, arith, length-append}
use Rattle.std.specs.List.{AllByRecursion}
use Rattle.std.proofs.lemmas.Bool.{cases_lt}
use Rattle.std.proofs.lemmas.List.{map-append, get_or_append_left, get_or-append_right, get_or_past}
use Rattle.cmd_tree.specs.Rounds.{grown, tally, naught, same_number, counts, Follows, RoundsAt, Rounds}
use Rattle.net_laws.proofs.Webs.{Decides, numbers_decide}
use Rattle.net_laws.proofs.Told.{grown_cases}
use Rattle.net_laws.proofs.Among.{Among, Distinct, among_at, at_among, distinct_at, all_at}
use Rattle.net_laws.proofs.Rows.{all_both}

module _ {W : Type 0} (same : W → W → Bool) (decides : Decides same) (ports : List W) (distinct : Distinct ports) (nothing : W) where
  abbrev label : ℕ → W
  label p = get_or ports p nothing

  -- the counts of ports are those of the wires there
  abbrev pub Agree : (ℕ → ℕ) → (W → ℕ) → Type 0
  Agree c e = (p : ℕ) → p < length ports → c p ≡ e (label p)

  agree_grown : (c : ℕ → ℕ) (e : W → ℕ) → Agree c e → (q : ℕ) → q < length ports → Agree (grown same_number c q) (grown same e (label q))
  agree_grown c e h q low p in_ports = at (grown_cases same_number numbers_decide c q p) (grown_cases same decides e (label q) (label p))
    where
      at : ((p ≡ q) × (grown same_number c q p ≡ suc (c p))) ⊎ ((p ≡ q → ⊥) × (grown same_number c q p ≡ c p))
          → ((label p ≡ label q) × (grown same e (label q) (label p) ≡ suc (e (label p)))) ⊎ ((label p ≡ label q → ⊥) × (grown same e (label q) (label p) ≡ e (label p)))
          → grown same_number c q p ≡ grown same e (label q) (label p)
      at (inl (x, y)) (inl (z, w)) = y ∙ ap suc (h p in_ports) ∙ sym w
      at (inl (x, y)) (inr (z, w)) = absurd (z (ap label x))
      at (inr (x, y)) (inl (z, w)) = absurd (x (distinct_at nothing ports distinct p q in_ports low z))
      at (inr (x, y)) (inr (z, w)) = y ∙ h p in_ports ∙ sym w

  agree_tally : (c : ℕ → ℕ) (e : W → ℕ) → Agree c e → (u : List ℕ) → AllByRecursion (λ p. p < length ports) u → Agree (tally same_number c u) (tally same e (map label u))
  agree_tally c e h [] all = h
  agree_tally c e h (q ∷ u) all = agree_tally (grown same_number c q) (grown same e (label q)) (agree_grown c e h q all.0) u all.1

  pub agree_at : (u : List ℕ) → AllByRecursion (λ p. p < length ports) u → Agree (counts u) (tally same naught (map label u))
  agree_at u all = agree_tally naught naught (λ p low. refl) u all

  module _ (K : (ℕ → ℕ) → ℕ → Type 0) (R : (W → ℕ) → W → Type 0) (inside : (c : ℕ → ℕ) (p : ℕ) → K c p → p < length ports) (never : (e : W → ℕ) → R e nothing → ⊥)
      (agree : (c : ℕ → ℕ) (e : W → ℕ) → Agree c e → (p : ℕ) → p < length ports → K c p ↔ R e (label p)) where
    there : (u : List ℕ) → AllByRecursion (λ p. p < length ports) u → (t : List ℕ) → Follows (λ v p. K (counts v) p) u t
        → Follows (λ v w. R (tally same naught v) w) (map label u) (map label t)
    there u all [] f = tt
    there u all (p ∷ t) f =
        let low : p < length ports = inside (counts u) p f.0 in (
          (agree (counts u) (tally same naught (map label u)) (agree_at u all) p low).0 f.0,
          subst (λ v. Follows (λ v w. R (tally same naught v) w) v (map label t)) (map-append label u (p ∷ []))
              (there (u ++ p ∷ []) (all_both (λ p. p < length ports) u (p ∷ []) all (low, tt)) t f.1),
        )

    back : (u : List ℕ) → AllByRecursion (λ p. p < length ports) u → (t : List ℕ) → Follows (λ v w. R (tally same naught v) w) (map label u) (map label t)
        → Follows (λ v p. K (counts v) p) u t
    back u all [] f = tt
    back u all (p ∷ t) f =
        let low : p < length ports = elim (cases_lt p (length ports)) [
          | inl h ↦ h
          | inr past ↦ absurd (never (tally same naught (map label u)) (subst (λ w. R (tally same naught (map label u)) w) (get_or_past ports p nothing past) f.0))
        ] in (
          (agree (counts u) (tally same naught (map label u)) (agree_at u all) p low).1 f.0,
          back (u ++ p ∷ []) (all_both (λ p. p < length ports) u (p ∷ []) all (low, tt)) t
              (subst (λ v. Follows (λ v w. R (tally same naught v) w) v (map label t)) (sym (map-append label u (p ∷ []))) f.1),
        )

    -- a node whose ports follow K is one whose wires follow R
    pub counted : (t : List ℕ) → Follows (λ v p. K (counts v) p) [] t ↔ Follows (λ v w. R (tally same naught v) w) [] (map label t)
    counted t = (there [] tt t, back [] tt t)

-- ---- the rule of rounds

-- an input may come where no output lags behind it, an output where it lags behind each input
abbrev pub RoundsOn : {W : Type 0} → List W → List W → (W → ℕ) → W → Type 0
RoundsOn ins outs c w = (Among w ins × AllByRecursion (λ o. c w ≡ c o) outs) ⊎ (Among w outs × AllByRecursion (λ i. c w < c i) ins)

all_by : {A : Type 0} (P : A → Type 0) (b : A) (xs : List A) → ((i : ℕ) → i < length xs → P (get_or xs i b)) → AllByRecursion P xs
all_by P b [] h = tt
all_by P b (x ∷ xs) h = (h 0 (omega arith), all_by P b xs (λ i low. h (suc i) (omega arith)))

module _ {W : Type 0} (same : W → W → Bool) (decides : Decides same) (ins outs : List W) (nothing : W) (n m : ℕ) (long_in : length ins ≡ n) (long_out : length outs ≡ m)
    (distinct : Distinct (ins ++ outs)) (R : (W → ℕ) → W → Type 0) (never : (e : W → ℕ) → R e nothing → ⊥) (on : (e : W → ℕ) (w : W) → R e w ↔ RoundsOn ins outs e w) where
  abbrev port : ℕ → W
  port p = get_or (ins ++ outs) p nothing

  long : length (ins ++ outs) ≡ n + m
  long = length-append ins outs ∙ omega arith

  port_in : (i : ℕ) → i < n → port i ≡ get_or ins i nothing
  port_in i low = get_or_append_left ins outs nothing i (omega arith)

  port_out : (j : ℕ) → port (n + j) ≡ get_or outs j nothing
  port_out j = get_or-append_right ins outs n (n + j) nothing long_in (omega arith) ∙ ap (λ k. get_or outs k nothing) (omega arith)

  agree_in : (c : ℕ → ℕ) (e : W → ℕ) → ((p : ℕ) → p < length (ins ++ outs) → c p ≡ e (port p)) → (i : ℕ) → i < n → c i ≡ e (get_or ins i nothing)
  agree_in c e h i low = h i (omega (arith, long)) ∙ ap e (port_in i low)

  agree_out : (c : ℕ → ℕ) (e : W → ℕ) → ((p : ℕ) → p < length (ins ++ outs) → c p ≡ e (port p)) → (j : ℕ) → j < m → c (n + j) ≡ e (get_or outs j nothing)
  agree_out c e h j low = h (n + j) (omega (arith, long)) ∙ ap e (port_out j)

  is_in : (p : ℕ) → p < n + m → Among (port p) ins → p < n
  is_in p low a =
      let (i, h, e) = among_at nothing (port p) ins a in
      let same : i ≡ p = distinct_at nothing (ins ++ outs) distinct i p (omega (arith, long)) (omega (arith, long)) (port_in i (omega arith) ∙ e) in
      omega arith

  is_out : (p : ℕ) → p < n + m → Among (port p) outs → n ≤ p
  is_out p low a =
      let (j, h, e) = among_at nothing (port p) outs a in
      let same : n + j ≡ p = distinct_at nothing (ins ++ outs) distinct (n + j) p (omega (arith, long)) (omega (arith, long)) (port_out j ∙ e) in
      omega arith

  rounds_agree : (c : ℕ → ℕ) (e : W → ℕ) → ((p : ℕ) → p < length (ins ++ outs) → c p ≡ e (port p)) → (p : ℕ) → p < length (ins ++ outs) → RoundsAt n m c p ↔ R e (port p)
  rounds_agree c e h p low = ((λ r. (on e (port p)).1 (there r)), (λ r. back ((on e (port p)).0 r)))
    where
      here : c p ≡ e (port p)
      here = h p low

      there : ((p < n) × ((j : ℕ) → j < m → c p ≡ c (n + j))) ⊎ ((n ≤ p) × (p < n + m) × ((i : ℕ) → i < n → c p < c i)) → RoundsOn ins outs e (port p)
      there (inl (x, f)) = inl (
        subst (λ w. Among w ins) (sym (port_in p x)) (at_among nothing ins p (omega arith)),
        all_by (λ o. e (port p) ≡ e o) nothing outs (λ j y. sym here ∙ f j (omega arith) ∙ agree_out c e h j (omega arith)),
      )
      there (inr (x, y, f)) =
          let j : ℕ = p - n in
          let at : n + j ≡ p = omega arith in inr (
            subst (λ w. Among w outs) (sym (port_out j) ∙ ap port at) (at_among nothing outs j (omega arith)),
            all_by (λ i. e (port p) < e i) nothing ins (λ i z. omega (arith, here, f i (omega arith), agree_in c e h i (omega arith))),
          )

      back : RoundsOn ins outs e (port p) → RoundsAt n m c p
      back (inl (a, f)) = inl (
        is_in p (omega (arith, long)) a,
        (λ j y. here ∙ all_at (λ o. e (port p) ≡ e o) nothing outs f j (omega arith) ∙ sym (agree_out c e h j y)),
      )
      back (inr (a, f)) = inr (
        is_out p (omega (arith, long)) a,
        omega (arith, long),
        (λ i z. omega (arith, here, all_at (λ i. e (port p) < e i) nothing ins f i (omega arith), agree_in c e h i z)),
      )

  rounds_inside : (c : ℕ → ℕ) (p : ℕ) → RoundsAt n m c p → p < length (ins ++ outs)
  rounds_inside c p (inl (x, f)) = omega (arith, long)
  rounds_inside c p (inr (x, y, f)) = omega (arith, long)

  -- a node with n inputs and m outputs by the rule of rounds
  pub rounds_spec : (t : List ℕ) → Rounds n m t ↔ Follows (λ v w. R (tally same naught v) w) [] (map (λ p. get_or (ins ++ outs) p nothing) t)
  rounds_spec t = counted same decides (ins ++ outs) distinct nothing (RoundsAt n m) R rounds_inside never rounds_agree t
