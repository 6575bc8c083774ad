-- What a network shows its environment: the word of a trace of the environment is a trace of the process.
use Rattle.std.proofs.Common.{◌≡◌, ◌↔◌, ℕ, ◌<◌, List, [], ◌∷◌, ◌++◌, map, sym, ap, ◌∙◌, subst, append_assoc, append-nil}
use Rattle.cmd_tree.specs.Rounds.{Follows}

-- The port p has the wire `label p`; what may come after the trace v is `On v`, and `word v` is what was seen.
module _ {W : Type 0} (T : List ℕ → Type 0) (empty : T []) (closed : (t u : List ℕ) → T (t ++ u) → T t) (names : ℕ) (label : ℕ → W) (word : List W → List ℕ) (On : List W → W → Type 0)
    (low : (v : List W) (p : ℕ) → On v (label p) → p < names) (known : (u : List ℕ) (p : ℕ) → T (u ++ p ∷ []) → p < names)
    (grows : (v : List W) (p : ℕ) → p < names → word (v ++ label p ∷ []) ≡ word v ++ p ∷ []) (on : (v : List W) (p : ℕ) → p < names → On v (label p) ↔ T (word v ++ p ∷ [])) where
  there : (u t : List ℕ) (v : List W) → word v ≡ u → T (u ++ t) → Follows On v (map label t)
  there u [] v e h = tt
  there u (p ∷ t) v e h =
      let more : (u ++ p ∷ []) ++ t ≡ u ++ p ∷ t = append_assoc u (p ∷ []) t in
      let here : T (u ++ p ∷ []) = closed (u ++ p ∷ []) t (subst T (sym more) h) in
      let in_ : p < names = known u p here in (
        (on v p in_).1 (subst (λ z. T (z ++ p ∷ [])) (sym e) here),
        there (u ++ p ∷ []) t (v ++ label p ∷ []) (grows v p in_ ∙ ap (λ z. z ++ p ∷ []) e) (subst T (sym more) h),
      )

  back : (u t : List ℕ) (v : List W) → word v ≡ u → T u → Follows On v (map label t) → T (u ++ t)
  back u [] v e h f = subst T (sym (append-nil u)) h
  back u (p ∷ t) v e h f =
      let more : (u ++ p ∷ []) ++ t ≡ u ++ p ∷ t = append_assoc u (p ∷ []) t in
      let in_ : p < names = low v p f.0 in
      let here : T (u ++ p ∷ []) = subst (λ z. T (z ++ p ∷ [])) e ((on v p in_).0 f.0) in
      subst T more (back (u ++ p ∷ []) t (v ++ label p ∷ []) (grows v p in_ ∙ ap (λ z. z ++ p ∷ []) e) here f.1)

  pub seen_traces : word [] ≡ [] → (t : List ℕ) → T t ↔ Follows On [] (map label t)
  seen_traces e t = ((λ h. there [] t [] e h), (λ f. back [] t [] e empty f))
