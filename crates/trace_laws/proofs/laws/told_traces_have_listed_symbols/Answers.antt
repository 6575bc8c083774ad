use Rattle.std.proofs.Common.{◌≡◌, ◌⊎◌, inl, inr, ℕ, zero, suc, ◌<◌, Bool, List, [], ◌∷◌, ◌++◌, sym, subst}
use Rattle.std.specs.List.{Contains, AllByRecursion}
use Rattle.std.proofs.lemmas.List.Elements.{All-from_recursion, All-contains}
use Rattle.trace_laws.specs.Breaks.{MissingBoth, Breaks}
use Rattle.trace_laws.proofs.WholeListing.{all_append, all_front, all_back}
use Rattle.trace_laws.proofs.laws.told_traces_have_listed_symbols.Goals as goal

module _ (out : ℕ → Bool) (traces : List (List ℕ)) (n : ℕ) (known : AllByRecursion (AllByRecursion (λ a. a < n)) traces) where
  abbrev K : List ℕ → Type 0
  K t = AllByRecursion (λ a. a < n) t

  listed : (t : List ℕ) → Contains traces t → K t
  listed t c = All-contains K traces t (All-from_recursion K traces known) c

  turned : (s u : List ℕ) (a b : ℕ) → K (s ++ a ∷ b ∷ u) → K (s ++ b ∷ a ∷ u)
  turned s u a b k =
      let r = all_back (λ a. a < n) s (a ∷ b ∷ u) k in
      all_append (λ a. a < n) s (b ∷ a ∷ u) (all_front (λ a. a < n) s (a ∷ b ∷ u) k) (r.1.0, (r.0, r.1.1))

  begun : (t : List ℕ) → (t ≡ []) ⊎ ((u : List ℕ) × Contains traces (t ++ u)) → K t
  begun t (inl e) = subst K (sym e) tt
  begun t (inr (u, c)) = all_front (λ a. a < n) t u (listed (t ++ u) c)

  both : (t : List ℕ) → MissingBoth out (Contains traces) t → K t
  both t m =
      let one = listed (m.before ++ m.first ∷ []) m.one in
      let a = all_back (λ a. a < n) m.before (m.first ∷ []) one in
      let b = all_back (λ a. a < n) m.before (m.second ∷ []) (listed (m.before ++ m.second ∷ []) m.other) in
      subst K (sym m.is) (all_append (λ a. a < n) m.before (m.first ∷ m.second ∷ []) (all_front (λ a. a < n) m.before (m.first ∷ []) one) (a.0, (b.0, tt)))

  told : (j : ℕ) (t : List ℕ) → Breaks out (Contains traces) j t → K t
  told zero t m = begun t m.begins
  told (suc zero) t m = listed t m.present
  told (suc (suc zero)) t m = subst K (sym m.is) (turned m.before m.after m.first m.second (listed (m.before ++ m.first ∷ m.second ∷ m.after) m.present))
  told (suc (suc (suc zero))) t m = subst K (sym m.is) (turned m.before (m.after ++ m.last ∷ []) m.first m.second (listed (m.before ++ m.first ∷ m.second ∷ (m.after ++ m.last ∷ [])) m.followed))
  told (suc (suc (suc (suc zero)))) t m = both t m
  told (suc (suc (suc (suc (suc j))))) t m = absurd m

pub returns : goal.returns
returns c = λ out traces n j t k l. told out traces n k j t l.broken
