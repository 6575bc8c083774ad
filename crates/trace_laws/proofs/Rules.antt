-- From the places where rules are broken to the rules.
use Rattle.std.proofs.Common.{◌≡◌, ◌⊎◌, ◌↔◌, inl, inr, ℕ, zero, suc, ◌+◌, ◌<◌, map, List, [], ◌∷◌, ◌++◌, refl, sym, ap, subst, Bool, None}
use Rattle.process_laws.specs.Insensitive.{Insensitive}
use Rattle.trace_laws.specs.Breaks.{Breaks, LeastBroken}
use Rattle.trace_laws.specs.Listed.{numbers, symbol}
use Rattle.std.specs.List.{Contains}
use Rattle.trace_laws.specs.Mirror.Improved.{LeastOf}
use Rattle.trace_laws.specs.Mirror.Links.{Closed}
use Rattle.trace_laws.proofs.Members.{decided}
use Rattle.trace_laws.proofs.Offers.{below_or}

pub numbers_of_symbols : (xs : List ℕ) → numbers (map symbol xs) ≡ xs
numbers_of_symbols [] = refl
numbers_of_symbols (x ∷ xs) = ap (λ l. x ∷ l) (numbers_of_symbols xs)

module _ (out : ℕ → Bool) (T U : List ℕ → Type 0) (to : (t : List ℕ) → T t → U t) (back : (t : List ℕ) → U t → T t) where
  pub breaks_too : (j : ℕ) (t : List ℕ) → Breaks out T j t → Breaks out U j t
  breaks_too zero t b = record { missing = λ h. b.missing (back t h); begins = elim b.begins [ inl e ↦ inl e | inr (u, h) ↦ inr (u, to (t ++ u) h) ] }
  breaks_too (suc zero) t b = record { present = to t b.present; before = b.before; symbol = b.symbol; is = b.is }
  breaks_too (suc (suc zero)) t b = record {
    missing = λ h. b.missing (back t h);
    before = b.before;
    after = b.after;
    first = b.first;
    second = b.second;
    alike = b.alike;
    present = to (b.before ++ b.first ∷ b.second ∷ b.after) b.present;
    is = b.is;
  }
  breaks_too (suc (suc (suc zero))) t b = record {
    missing = λ h. b.missing (back t h);
    before = b.before;
    after = b.after;
    first = b.first;
    second = b.second;
    last = b.last;
    differ = b.differ;
    alike = b.alike;
    followed = to (b.before ++ b.first ∷ b.second ∷ (b.after ++ b.last ∷ [])) b.followed;
    present = to (b.before ++ b.second ∷ b.first ∷ b.after) b.present;
    is = b.is;
  }
  breaks_too (suc (suc (suc (suc zero)))) t b = record {
    missing = λ h. b.missing (back t h);
    before = b.before;
    first = b.first;
    second = b.second;
    differ = b.differ;
    one = to (b.before ++ b.first ∷ []) b.one;
    other = to (b.before ++ b.second ∷ []) b.other;
    is = b.is;
  }
  breaks_too (suc (suc (suc (suc (suc j))))) t b = b

pub least_along : (out : ℕ → Bool) (T U : List ℕ → Type 0) → ((t : List ℕ) → T t ↔ U t) → (rule : ℕ) (t : List ℕ)
    → LeastBroken out T rule t → LeastBroken out U rule t
least_along out T U h rule t l = record {
  broken = breaks_too out T U (λ s. (h s).0) (λ s. (h s).1) rule t l.broken;
  least_rule = λ j u b. l.least_rule j u (breaks_too out U T (λ s. (h s).1) (λ s. (h s).0) j u b);
  least_trace = λ u b. l.least_trace u (breaks_too out U T (λ s. (h s).1) (λ s. (h s).0) rule u b);
}

-- a set that can be decided and in which no rule is broken keeps the rules
pub keeps : (out : ℕ → Bool) (T : List ℕ → Type 0) → ((t : List ℕ) → T t ⊎ (T t → ⊥)) → ((j : ℕ) (u : List ℕ) → Breaks out T j u → ⊥)
    → Insensitive T out
keeps out T d f = record {
  empty = by [] (λ m. f 0 [] (record { missing = m; begins = inl refl }));
  prefix = λ t u h. by t (λ m. f 0 t (record { missing = m; begins = inr (u, h) }));
  twice = λ t a h. f 1 (t ++ a ∷ a ∷ []) (record { present = h; before = t; symbol = a; is = refl });
  swap = λ t u a b e h. by (t ++ b ∷ a ∷ u) (λ m. f 2 (t ++ b ∷ a ∷ u)
      (record { missing = m; before = t; after = u; first = a; second = b; alike = e; present = h; is = refl }));
  carry = λ t u a b c n e g h. by (t ++ b ∷ a ∷ (u ++ c ∷ [])) (λ m. f 3 (t ++ b ∷ a ∷ (u ++ c ∷ []))
      (record { missing = m; before = t; after = u; first = a; second = b; last = c; differ = n; alike = e; followed = g; present = h; is = refl }));
  both = λ t a b n g h. by (t ++ a ∷ b ∷ []) (λ m. f 4 (t ++ a ∷ b ∷ [])
      (record { missing = m; before = t; first = a; second = b; differ = n; one = g; other = h; is = refl }));
} where
  by : (t : List ℕ) → ((T t → ⊥) → ⊥) → T t
  by t g = elim (d t) [ inl h ↦ h | inr m ↦ absurd (g m) ]

pub unbroken : (out : ℕ → Bool) (T : List ℕ → Type 0) → Insensitive T out → (j : ℕ) (u : List ℕ) → Breaks out T j u → ⊥
unbroken out T i zero u b = elim b.begins [ inl e ↦ b.missing (subst T (sym e) i.empty) | inr (v, h) ↦ b.missing (i.prefix u v h) ]
unbroken out T i (suc zero) u b = i.twice b.before b.symbol (subst T b.is b.present)
unbroken out T i (suc (suc zero)) u b = b.missing (subst T (sym b.is) (i.swap b.before b.after b.first b.second b.alike b.present))
unbroken out T i (suc (suc (suc zero))) u b =
    b.missing (subst T (sym b.is) (i.carry b.before b.after b.first b.second b.last b.differ b.alike b.followed b.present))
unbroken out T i (suc (suc (suc (suc zero)))) u b = b.missing (subst T (sym b.is) (i.both b.before b.first b.second b.differ b.one b.other))
unbroken out T i (suc (suc (suc (suc (suc j))))) u b = b

pub rule_more : (out : ℕ → Bool) (T : List ℕ → Type 0) (rule : ℕ) → LeastOf (Breaks out T rule) None
    → ((j : ℕ) → j < rule → (u : List ℕ) → Breaks out T j u → ⊥) → (j : ℕ) → j < rule + 1 → (u : List ℕ) → Breaks out T j u → ⊥
rule_more out T rule l f j h = elim (below_or j rule h) [ inl k ↦ f j k | inr e ↦ λ u b. l u (subst (λ i. Breaks out T i u) e b) ]

-- where no beginning is missing, the front of each listed trace is listed
pub kept_closed : (out : ℕ → Bool) (W : List (List ℕ)) → ((u : List ℕ) → Breaks out (Contains W) 0 u → ⊥) → Closed W
kept_closed out W kept s a h = elim (decided W s) [ inl g ↦ g | inr f ↦ absurd (kept s (record { missing = f; begins = inr (a ∷ [], h) })) ]
