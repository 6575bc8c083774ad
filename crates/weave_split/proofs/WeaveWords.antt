-- What comes at the environment and at the processes, by symbols.
use Rattle.std.proofs.Common.{◌≡◌, ◌⊎◌, inl, inr, ℕ, suc, ◌+◌, true, false, true≢false, List, [], ◌∷◌, ◌++◌, Option, Some, None, refl, sym, ap, ◌∙◌, arith, append-nil, append_assoc}
use Rattle.std.specs.List.{AllByRecursion}
use Rattle.cmd_tree.specs.Rounds.{grown, tally, naught}
use Rattle.place_graph.specs.Tale.{one_if, times}
use Rattle.place_graph.proofs.Sums.{one_same, one_other, times_append}
use Rattle.net_laws.proofs.Told.{grown_cases}
use Rattle.weave_split.specs.WeaveChart.{Wire, Take, Copy, Back, Made, Ask, Return, Token, Give, Name, Env, Process, Ties, same_wire, shown_by, driver, receiver}
use Rattle.weave_split.proofs.WeaveWeb.{wires_decide, Real, symbol, word}

pub word_end : (v : List Wire) (w : Wire) → word (v ++ w ∷ []) ≡ word v ++ symbol w
word_end [] w = append-nil (symbol w)
word_end (x ∷ v) w = ap (λ u. symbol x ++ u) (word_end v w) ∙ sym (append_assoc (symbol x) (word v) (symbol w))

-- the wire has a symbol, and where that is s, it is the wire x
abbrev Tells : Wire → ℕ → Wire → Type 0
Tells x s w = (a : ℕ) × (symbol w ≡ a ∷ []) × (a ≡ s → w ≡ x)

grown_times : (x : Wire) (s : ℕ) → symbol x ≡ s ∷ [] → (c : Wire → ℕ) (w : Wire) → Tells x s w → grown same_wire c w x ≡ c x + times s (symbol w)
grown_times x s e c w (a, has, is) = at (grown_cases same_wire wires_decide c w x)
  where
    one : times s (symbol w) ≡ one_if s a + 0
    one = ap (times s) has

    at : ((x ≡ w) × (grown same_wire c w x ≡ suc (c x))) ⊎ ((x ≡ w → ⊥) × (grown same_wire c w x ≡ c x)) → grown same_wire c w x ≡ c x + times s (symbol w)
    at (inl (p, q)) =
        let same : s ∷ [] ≡ a ∷ [] = sym e ∙ ap symbol p ∙ has in
        let z : s ≡ a = cc in
        omega (arith, q, one, one_same s a z)
    at (inr (p, q)) = omega (arith, q, one, one_other s a (λ z. p (sym (is (sym z)))))

-- a symbol comes as often as the one wire that has it
word_counts : (x : Wire) (s : ℕ) → symbol x ≡ s ∷ [] → (v : List Wire) → AllByRecursion (Tells x s) v → (c : Wire → ℕ) → tally same_wire c v x ≡ c x + times s (word v)
word_counts x s e [] all c = omega arith
word_counts x s e (w ∷ v) all c = omega (
  arith,
  word_counts x s e v all.1 (grown same_wire c w),
  grown_times x s e c w all.0,
  times_append s (symbol w) (word v),
)

all_by : {P Q : Wire → Type 0} → ((w : Wire) → P w → Q w) → (v : List Wire) → AllByRecursion P v → AllByRecursion Q v
all_by f [] all = tt
all_by f (w ∷ v) all = (f w all.0, all_by f v all.1)

pub shown_env : (o : Option ℕ) (s : ℕ) → shown_by o s ≡ Env → ⊥
shown_env None s e = cc
shown_env (Some p) s e = cc

pub shown_process : (o : Option ℕ) (s p : ℕ) → shown_by o s ≡ Process p → ⊥
shown_process None s p e = cc
shown_process (Some q) s p e = cc

module _ (g : Ties) where
  -- a wire that stands for something, at a node
  abbrev pub Stands : Name → Wire → Type 0
  Stands n w = Real g w × ((driver g w ≡ n) ⊎ (receiver g w ≡ n))

  abbrev pub Sided : (ℕ → Wire) → (ℕ → Wire) → Wire → Type 0
  Sided i o w = (a : ℕ) × (((w ≡ i a) × (g.out a ≡ false)) ⊎ ((w ≡ o a) × (g.out a ≡ true)))

  at_process : (p : ℕ) (w : Wire) → Stands (Process p) w → Sided (λ a. Copy a p) (λ a. Made a p) w
  at_process p (Take s) (r, inl e) = absurd (cc)
  at_process p (Take s) (r, inr e) = absurd (cc)
  at_process p (Copy s q) (r, inl e) = absurd (cc)
  at_process p (Copy s q) (r, inr e) = let z : q ≡ p = cc in (s, inl (ap (Copy s) z, r.1))
  at_process p (Back s q) (r, inl e) = absurd (cc)
  at_process p (Back s q) (r, inr e) = absurd (cc)
  at_process p (Made s q) (r, inl e) = let z : q ≡ p = cc in (s, inr (ap (Made s) z, r.1))
  at_process p (Made s q) (r, inr e) = absurd (cc)
  at_process p (Ask s) (r, inl e) = absurd (cc)
  at_process p (Ask s) (r, inr e) = absurd (shown_process (g.owner s) s p e)
  at_process p (Return q) (r, inl e) = absurd (cc)
  at_process p (Return q) (r, inr e) = absurd (cc)
  at_process p (Token q) (r, inl e) = absurd (cc)
  at_process p (Token q) (r, inr e) = absurd (cc)
  at_process p (Give s) (r, inl e) = absurd (shown_process (g.owner s) s p e)
  at_process p (Give s) (r, inr e) = absurd (cc)

  pub at_env : (w : Wire) → Stands Env w → Sided Take Give w
  at_env (Take s) (r, e) = (s, inl (refl, r.1))
  at_env (Copy s q) (r, inl e) = absurd (cc)
  at_env (Copy s q) (r, inr e) = absurd (cc)
  at_env (Back s q) (r, inl e) = absurd (cc)
  at_env (Back s q) (r, inr e) = absurd (cc)
  at_env (Made s q) (r, inl e) = absurd (cc)
  at_env (Made s q) (r, inr e) = absurd (cc)
  at_env (Ask s) (r, inl e) = absurd (cc)
  at_env (Ask s) (r, inr e) = absurd (shown_env (g.owner s) s e)
  at_env (Return q) (r, inl e) = absurd (cc)
  at_env (Return q) (r, inr e) = absurd (cc)
  at_env (Token q) (r, inl e) = absurd (cc)
  at_env (Token q) (r, inr e) = absurd (cc)
  at_env (Give s) (r, e) = (s, inr (refl, r.1))

  tells_in : (i o : ℕ → Wire) → ((a : ℕ) → symbol (i a) ≡ a ∷ []) → ((a : ℕ) → symbol (o a) ≡ a ∷ []) → (s : ℕ) → g.out s ≡ false
      → (w : Wire) → Sided i o w → Tells (i s) s w
  tells_in i o x y s h w (a, inl (e, k)) = (a, ap symbol e ∙ x a, λ z. e ∙ ap i z)
  tells_in i o x y s h w (a, inr (e, k)) = (a, ap symbol e ∙ y a, λ z. absurd (true≢false (sym k ∙ ap g.out z ∙ h)))

  tells_out : (i o : ℕ → Wire) → ((a : ℕ) → symbol (i a) ≡ a ∷ []) → ((a : ℕ) → symbol (o a) ≡ a ∷ []) → (s : ℕ) → g.out s ≡ true
      → (w : Wire) → Sided i o w → Tells (o s) s w
  tells_out i o x y s h w (a, inl (e, k)) = (a, ap symbol e ∙ x a, λ z. absurd (true≢false (sym h ∙ ap g.out (sym z) ∙ k)))
  tells_out i o x y s h w (a, inr (e, k)) = (a, ap symbol e ∙ y a, λ z. e ∙ ap o z)

  pub copies : (p s : ℕ) (v : List Wire) → AllByRecursion (Stands (Process p)) v → g.out s ≡ false → tally same_wire naught v (Copy s p) ≡ times s (word v)
  copies p s v all h = omega (
    arith,
    word_counts (Copy s p) s refl v
        (all_by (λ w k. tells_in (λ a. Copy a p) (λ a. Made a p) (λ a. refl) (λ a. refl) s h w (at_process p w k)) v all) naught,
  )

  pub makes : (p s : ℕ) (v : List Wire) → AllByRecursion (Stands (Process p)) v → g.out s ≡ true → tally same_wire naught v (Made s p) ≡ times s (word v)
  makes p s v all h = omega (
    arith,
    word_counts (Made s p) s refl v
        (all_by (λ w k. tells_out (λ a. Copy a p) (λ a. Made a p) (λ a. refl) (λ a. refl) s h w (at_process p w k)) v all) naught,
  )

  pub takes : (s : ℕ) (v : List Wire) → AllByRecursion (Stands Env) v → g.out s ≡ false → tally same_wire naught v (Take s) ≡ times s (word v)
  takes s v all h = omega (
    arith,
    word_counts (Take s) s refl v
        (all_by (λ w k. tells_in Take Give (λ a. refl) (λ a. refl) s h w (at_env w k)) v all) naught,
  )

  pub gives : (s : ℕ) (v : List Wire) → AllByRecursion (Stands Env) v → g.out s ≡ true → tally same_wire naught v (Give s) ≡ times s (word v)
  gives s v all h = omega (
    arith,
    word_counts (Give s) s refl v
        (all_by (λ w k. tells_out Take Give (λ a. refl) (λ a. refl) s h w (at_env w k)) v all) naught,
  )
