-- Where one direction comes at a time, and in any order, the rules of delay-insensitivity hold.
use Rattle.std.proofs.Common.{ℕ, Bool, List, [], ◌∷◌, ◌++◌, refl, sym, subst, arith, append_assoc}
use Rattle.cmd_tree.proofs.Bursts.{count_is, count_same}
use Rattle.process_laws.specs.Steady.{Steady}
use Rattle.process_laws.specs.Insensitive.{Insensitive}
use Rattle.process_laws.specs.Phased.{Phased}

pub steady_phased : (T : List ℕ → Type 0) (out : ℕ → Bool) → Steady T out → Phased ℕ out T
steady_phased T out s = record {
  empty = s.empty;
  prefix = s.prefix;
  twice = λ t a r. omega (arith, s.once t (a ∷ a ∷ []) (out a) r (refl, (refl, tt)) a, count_is a (a ∷ a ∷ []), count_same a (a ∷ []), count_same a []);
  swap = s.swaps;
  one = s.one_way;
}

pub phased_insensitive : (T : List ℕ → Type 0) (out : ℕ → Bool) → Phased ℕ out T → Insensitive T out
phased_insensitive T out h = record {
  empty = h.empty;
  prefix = h.prefix;
  twice = h.twice;
  swap = h.swap;
  carry = λ t u a b c differ same r s.
      let first : T (t ++ a ∷ []) = h.prefix (t ++ a ∷ []) (b ∷ (u ++ c ∷ [])) (subst T (sym (append_assoc t (a ∷ []) (b ∷ (u ++ c ∷ [])))) r) in
      let other : T (t ++ b ∷ []) = h.prefix (t ++ b ∷ []) (a ∷ u) (subst T (sym (append_assoc t (b ∷ []) (a ∷ u))) s) in
      absurd (differ (h.one t a b first other));
  both = λ t a b differ r s. absurd (differ (h.one t a b r s));
}

pub phased_by : (S T : List ℕ → Type 0) (out : ℕ → Bool) → ((t : List ℕ) → S t → T t)
    → ((t : List ℕ) → T t → S t) → Phased ℕ out S → Phased ℕ out T
phased_by S T out there back h = record {
  empty = there [] h.empty;
  prefix = λ t u r. there t (h.prefix t u (back (t ++ u) r));
  twice = λ t a r. h.twice t a (back (t ++ a ∷ a ∷ []) r);
  swap = λ t u a b same r. there (t ++ b ∷ a ∷ u) (h.swap t u a b same (back (t ++ a ∷ b ∷ u) r));
  one = λ t a b r s. h.one t a b (back (t ++ a ∷ []) r) (back (t ++ b ∷ []) s);
}
