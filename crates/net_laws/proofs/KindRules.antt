-- The rule of a kind by the list of its wires: one law for all ten kinds.
use Rattle.std.proofs.Common.{◌≡◌, ◌↔◌, ℕ, suc, ◌+◌, ◌<◌, ◌≤◌, Bool, List, [], ◌∷◌, ◌++◌, map, length, get_or, ◌⊎◌, inl, inr, refl, sym, ap, subst, ◌∙◌, arith}
use Rattle.std.specs.List.{AllByRecursion}
use Rattle.std.proofs.Math.Path.{fun_ext}
use Rattle.std.proofs.lemmas.Bool.{cases_lt}
use Rattle.std.proofs.lemmas.List.{map-append, get_or_past}
use Rattle.cmd_tree.specs.Rounds.{grown, tally, naught, same_number, counts, Follows}
use Rattle.basic_kinds.specs.declared.kind.Kind.{Kind}
use Rattle.basic_kinds.specs.declared.kind.Kind.TheVariants.{Wire, Iwire, Source, Sink, Fork, C, Merge, Toggle, Dw, Seq}
use Rattle.basic_kinds.specs.Kinds.{inputs_of, outputs_of, IsWide}
use Rattle.basic_kinds.specs.KindCounts.{KindAt}
use Rattle.basic_kinds.proofs.EachKind.{kind_counts}
use Rattle.net_core.specs.declared.spec.NodeSpec.TheVariants.{Kind as Basic}
use Rattle.net_core.specs.Specs.{May}
use Rattle.net_laws.proofs.Webs.{Decides, numbers_decide}
use Rattle.net_laws.proofs.Told.{grown_cases}
use Rattle.net_laws.proofs.Among.{Among, Distinct, at_among, distinct_at}
use Rattle.net_laws.proofs.Rows.{all_both}
use Rattle.net_laws.proofs.Rules.{agree_at}

-- a port that may come is one of the kind's
kind_inside : (k : Kind) (c : ℕ → ℕ) (p : ℕ) → KindAt k c p → p < inputs_of k + outputs_of k
kind_inside Wire c p (inl r) = omega (arith, r.0)
kind_inside Wire c p (inr r) = omega (arith, r.1)
kind_inside Iwire c p (inl r) = omega (arith, r.0)
kind_inside Iwire c p (inr r) = omega (arith, r.0)
kind_inside Source c p r = omega (arith, r.0)
kind_inside Sink c p r = omega (arith, r.0)
kind_inside (Fork n) c p (inl r) = omega (arith, r.0)
kind_inside (Fork n) c p (inr r) = omega (arith, r.1)
kind_inside (C n) c p (inl r) = omega (arith, r.0)
kind_inside (C n) c p (inr r) = omega (arith, r.1)
kind_inside (Merge n) c p (inl r) = omega (arith, r.0)
kind_inside (Merge n) c p (inr r) = omega (arith, r.0)
kind_inside Toggle c p (inl r) = omega (arith, r.0)
kind_inside Toggle c p (inr (inl r)) = omega (arith, r.0)
kind_inside Toggle c p (inr (inr r)) = omega (arith, r.0)
kind_inside (Dw s) c p (inl r) = omega (arith, r.row)
kind_inside (Dw s) c p (inr (inl r)) = omega (arith, r.port, r.within)
kind_inside (Dw s) c p (inr (inr r)) = omega (arith, r.port, r.within)
kind_inside (Seq k) c p (inl r) = omega (arith, r.0)
kind_inside (Seq k) c p (inr (inl r)) = omega (arith, r.0)
kind_inside (Seq k) c p (inr (inr r)) = omega (arith, r.port, r.within)

-- The wire w may come next at a node of the kind with these wires at its ports, where the wires have come e times: it is at a port that may come after
-- the counts of the wires at the ports.
abbrev pub KindOn : {W : Type 0} → Kind → List W → W → (W → ℕ) → W → Type 0
KindOn k ws b e w = (p : ℕ) × (p < length ws) × (w ≡ get_or ws p b) × KindAt k (λ q. e (get_or ws q b)) p

module _ {W : Type 0} (same : W → W → Bool) (decides : Decides same) (ws : List W) (distinct : Distinct ws) (b : W) (away : Among b ws → ⊥) where
  abbrev label : ℕ → W
  label p = get_or ws p b

  port_past : (c : ℕ → ℕ) (u : List ℕ) (q : ℕ) → AllByRecursion (λ p. p < length ws) u → length ws ≤ q → tally same_number c u q ≡ c q
  port_past c [] q all past = refl
  port_past c (p ∷ u) q all past = port_past (grown same_number c p) u q all.1 past ∙ at (grown_cases same_number numbers_decide c p q)
    where
      at : ((q ≡ p) × (grown same_number c p q ≡ suc (c q))) ⊎ ((q ≡ p → ⊥) × (grown same_number c p q ≡ c q)) → grown same_number c p q ≡ c q
      at (inl (e, z)) = absurd (omega (arith, all.0))
      at (inr (e, z)) = z

  wire_past : (e : W → ℕ) (u : List ℕ) → AllByRecursion (λ p. p < length ws) u → tally same e (map label u) b ≡ e b
  wire_past e [] all = refl
  wire_past e (p ∷ u) all = wire_past (grown same e (label p)) u all.1 ∙ at (grown_cases same decides e (label p) b)
    where
      at : ((b ≡ label p) × (grown same e (label p) b ≡ suc (e b))) ⊎ ((b ≡ label p → ⊥) × (grown same e (label p) b ≡ e b)) → grown same e (label p) b ≡ e b
      at (inl (i, z)) = absurd (away (subst (λ w. Among w ws) (sym i) (at_among b ws p all.0)))
      at (inr (i, z)) = z

  -- the counts of all ports are those of the wires, also past the last port, where neither has come
  counts_are : (u : List ℕ) → AllByRecursion (λ p. p < length ws) u → (q : ℕ) → counts u q ≡ tally same naught (map label u) (label q)
  counts_are u all q = elim (cases_lt q (length ws)) [
    | inl low ↦ agree_at same decides ws distinct b u all q low
    | inr past ↦
        port_past naught u q all past
        ∙ sym (ap (tally same naught (map label u)) (get_or_past ws q b past) ∙ wire_past naught u all)
  ]

  module _ (k : Kind) (wide : IsWide k) (long : length ws ≡ inputs_of k + outputs_of k) where
    inside : (c : ℕ → ℕ) (p : ℕ) → KindAt k c p → p < length ws
    inside c p r = omega (arith, kind_inside k c p r)

    there : (u : List ℕ) → AllByRecursion (λ p. p < length ws) u → (t : List ℕ) → Follows (λ v p. KindAt k (counts v) p) u t
        → Follows (λ v w. KindOn k ws b (tally same naught v) w) (map label u) (map label t)
    there u all [] f = tt
    there u all (p ∷ t) f =
        let low : p < length ws = inside (counts u) p f.0 in (
          (p, low, refl, subst (λ (c : ℕ → ℕ). KindAt k c p) (fun_ext (counts_are u all)) f.0),
          subst (λ v. Follows (λ v w. KindOn k ws b (tally same naught v) w) v (map label t)) (map-append label u (p ∷ []))
              (there (u ++ p ∷ []) (all_both (λ p. p < length ws) u (p ∷ []) all (low, tt)) t f.1),
        )

    back : (u : List ℕ) → AllByRecursion (λ p. p < length ws) u → (t : List ℕ)
        → Follows (λ v w. KindOn k ws b (tally same naught v) w) (map label u) (map label t) → Follows (λ v p. KindAt k (counts v) p) u t
    back u all [] f = tt
    back u all (p ∷ t) f =
        let (q, near, is, r) = f.0 in
        let low : p < length ws = elim (cases_lt p (length ws)) [
          | inl h ↦ h
          | inr past ↦ absurd (away (subst (λ w. Among w ws) (sym is ∙ get_or_past ws p b past) (at_among b ws q near)))
        ] in
        let here : p ≡ q = distinct_at b ws distinct p q low near is in (
          subst (λ (c : ℕ → ℕ). KindAt k c p) (sym (fun_ext (counts_are u all))) (subst (λ j. KindAt k (λ i. tally same naught (map label u) (label i)) j) (sym here) r),
          back (u ++ p ∷ []) (all_both (λ p. p < length ws) u (p ∷ []) all (low, tt)) t
              (subst (λ v. Follows (λ v w. KindOn k ws b (tally same naught v) w) v (map label t)) (sym (map-append label u (p ∷ []))) f.1),
        )

    -- the traces of a node of the kind with these wires
    pub kind_spec : (t : List ℕ) → May (Basic k) t ↔ Follows (λ v w. KindOn k ws b (tally same naught v) w) [] (map label t)
    unfolding May
    kind_spec t = ((λ h. there [] tt t ((kind_counts k t wide).0 h)), (λ h. (kind_counts k t wide).1 (back [] tt t h)))
