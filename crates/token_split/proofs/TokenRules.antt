-- What the rules of the components say of their wires, and the word of the environment.
use Rattle.std.proofs.Common.{◌≡◌, ◌⊎◌, inl, inr, ℕ, suc, ◌+◌, ◌<◌, ◌≤◌, Bool, true, false, true≢false, List, [], ◌∷◌, ◌++◌, refl, sym, ap, ◌∙◌, arith, if◌then◌else◌, append_assoc, append-nil}
use Rattle.std.proofs.lemmas.Bool.{cases_Bool}
use Rattle.cmd_tree.specs.Rounds.{grown, tally}
use Rattle.place_graph.specs.Tale.{times}
use Rattle.place_graph.proofs.Sums.{one_same, one_other, times_append}
use Rattle.net_laws.proofs.Told.{grown_cases}
use Rattle.net_laws.proofs.Among.{Among, all_among}
use Rattle.plain_split.proofs.SharedLists.{all_by_among}
use Rattle.token_split.specs.TokenChart.{Wire, Take, Burst, Return, Row, Cross, Call, Begin, Put, Exit, Give, same_wire}
use Rattle.token_split.proofs.TokenWeb.{wires_decide, GateOn, JoinOn, ForkOn, seen, word}

-- ---- gates

pub gate_out : {A : Type 0} (xs : List A) (b : Bool) (i o : Wire) (c : Wire → ℕ) → (o ≡ i → ⊥) → GateOn xs b i o c o → c o < (if b then 1 else 0) + c i
gate_out [] false i o c apart r = absurd r
gate_out [] true i o c apart r = omega (arith, r.1)
gate_out (x ∷ xs) false i o c apart (inl (inl e, all)) = absurd (apart e)
gate_out (x ∷ xs) false i o c apart (inl (inr e, all)) = absurd e
gate_out (x ∷ xs) false i o c apart (inr (a, all)) = omega (arith, all.0)
gate_out (x ∷ xs) true i o c apart (inl (e, same)) = omega (arith, same)
gate_out (x ∷ xs) true i o c apart (inr (e, less)) = absurd (apart e)

pub gate_in : {A : Type 0} (xs : List A) (b : Bool) (i o : Wire) (c : Wire → ℕ) (x : A) → Among x xs → (if b then 1 else 0) + c i ≡ c o → GateOn xs b i o c i
gate_in [] b i o c x a e = absurd a
gate_in (y ∷ xs) false i o c x a e = inl (inl refl, (omega (arith, e), tt))
gate_in (y ∷ xs) true i o c x a e = inr (refl, omega (arith, e))

pub gate_some : {A : Type 0} (xs : List A) (b : Bool) (i o : Wire) (c : Wire → ℕ) (w : Wire) → GateOn xs b i o c w → ((x : A) × Among x xs) ⊎ (b ≡ true)
gate_some [] false i o c w r = absurd r
gate_some [] true i o c w r = inr refl
gate_some (x ∷ xs) b i o c w r = inl (x, inl refl)

-- the gate may let through, where it is no more than one ahead
pub gate_may : {A : Type 0} (xs : List A) (b : Bool) (i o : Wire) (c : Wire → ℕ) → (xs ≡ [] → c i ≡ 0) → (if b then 1 else 0) + c i ≤ suc (c o)
    → c o < (if b then 1 else 0) + c i → GateOn xs b i o c o
gate_may [] false i o c h low less = absurd (omega (arith, h refl, less))
gate_may [] true i o c h low less = (refl, omega (arith, h refl, less))
gate_may (x ∷ xs) false i o c h low less = inr (inl refl, (omega (arith, less), tt))
gate_may (x ∷ xs) true i o c h low less = inl (refl, omega (arith, low, less))

-- ---- a C

pub join_out : (is : List Wire) (o : Wire) (c : Wire → ℕ) → ((i : Wire) → Among i is → o ≡ i → ⊥) → JoinOn is o c o → (i : Wire) → Among i is → c o < c i
join_out [] o c apart r i a = absurd a
join_out (x ∷ is) o c apart (inl (b, all)) i a = absurd (apart o b refl)
join_out (x ∷ is) o c apart (inr (b, all)) i a = all_among (λ i. c o < c i) (x ∷ is) all i a

pub join_in : (is : List Wire) (o i : Wire) (c : Wire → ℕ) → Among i is → c i ≡ c o → JoinOn is o c i
join_in [] o i c a e = absurd a
join_in (x ∷ is) o i c a e = inl (a, (e, tt))

pub join_some : (is : List Wire) (o w : Wire) (c : Wire → ℕ) → JoinOn is o c w → (i : Wire) × Among i is
join_some [] o w c r = absurd r
join_some (x ∷ is) o w c r = (x, inl refl)

pub join_may : (is : List Wire) (o i : Wire) (c : Wire → ℕ) → Among i is → ((i : Wire) → Among i is → c o < c i) → JoinOn is o c o
join_may [] o i c a h = absurd a
join_may (x ∷ is) o i c a h = inr (inl refl, all_by_among (λ i. c o < c i) (x ∷ is) h)

-- an input of a C is one of these
pub join_taken : (is : List Wire) (o w : Wire) (c : Wire → ℕ) → (w ≡ o → ⊥) → JoinOn is o c w → Among w is
join_taken [] o w c apart r = absurd r
join_taken (x ∷ is) o w c apart (inl (a, all)) = a
join_taken (x ∷ is) o w c apart (inr (inl e, all)) = absurd (apart e)
join_taken (x ∷ is) o w c apart (inr (inr e, all)) = absurd e

-- ---- a FORK

pub fork_out : (os : List Wire) (i o : Wire) (c : Wire → ℕ) → (o ≡ i → ⊥) → ForkOn i os c o → Among o os × (c o < c i)
fork_out [] i o c apart r = absurd r
fork_out (x ∷ os) i o c apart (inl (inl e, all)) = absurd (apart e)
fork_out (x ∷ os) i o c apart (inl (inr e, all)) = absurd e
fork_out (x ∷ os) i o c apart (inr (a, all)) = (a, all.0)

pub fork_in : (os : List Wire) (i o : Wire) (c : Wire → ℕ) → Among o os → ((o : Wire) → Among o os → c i ≡ c o) → ForkOn i os c i
fork_in [] i o c a h = absurd a
fork_in (x ∷ os) i o c a h = inl (inl refl, all_by_among (λ o. c i ≡ c o) (x ∷ os) h)

pub fork_may : (os : List Wire) (i o : Wire) (c : Wire → ℕ) → Among o os → c o < c i → ForkOn i os c o
fork_may [] i o c a less = absurd a
fork_may (x ∷ os) i o c a less = inr (a, (less, tt))

pub fork_some : (os : List Wire) (i w : Wire) (c : Wire → ℕ) → ForkOn i os c w → (o : Wire) × Among o os
fork_some [] i w c r = absurd r
fork_some (x ∷ os) i w c r = (x, inl refl)

-- ---- the word of the environment

module _ (out : ℕ → Bool) where
  word_end : (v : List Wire) (w : Wire) → word out (v ++ w ∷ []) ≡ word out v ++ seen out w
  word_end [] w = append-nil (seen out w)
  word_end (x ∷ v) w = ap (λ u. seen out x ++ u) (word_end v w) ∙ sym (append_assoc (seen out x) (word out v) (seen out w))

  pub take_end : (v : List Wire) (a : ℕ) → out a ≡ false → word out (v ++ Take a ∷ []) ≡ word out v ++ a ∷ []
  take_end v a e = word_end v (Take a) ∙ ap (λ x. word out v ++ (if x then [] else a ∷ [])) e

  pub give_end : (v : List Wire) (a : ℕ) → out a ≡ true → word out (v ++ Give a ∷ []) ≡ word out v ++ a ∷ []
  give_end v a e = word_end v (Give a) ∙ ap (λ x. word out v ++ (if x then a ∷ [] else [])) e

  other : (c : Wire → ℕ) (w v : Wire) → (v ≡ w → ⊥) → grown same_wire c w v ≡ c v
  other c w v h = elim (grown_cases same_wire wires_decide c w v) [ inl e ↦ absurd (h e.0) | inr e ↦ e.1 ]

  still : (c : Wire → ℕ) (w v : Wire) → (v ≡ w → ⊥) → grown same_wire c w v ≡ c v + 0
  still c w v h = omega (arith, other c w v h)

  -- a symbol of the other direction adds nothing
  seen_other : (a b : ℕ) → (a ≡ b → ⊥) → times a (b ∷ []) ≡ 0
  seen_other a b h = omega (arith, one_other a b h)

  seen_take : (c : Wire → ℕ) (w : Wire) (a : ℕ) → out a ≡ false → grown same_wire c w (Take a) ≡ c (Take a) + times a (seen out w)
  seen_take c (Take b) a o = at (out b) refl (grown_cases same_wire wires_decide c (Take b) (Take a))
    where
      at : (x : Bool) → out b ≡ x → ((Take a ≡ Take b) × (grown same_wire c (Take b) (Take a) ≡ suc (c (Take a)))) ⊎ ((Take a ≡ Take b → ⊥) × (grown same_wire c (Take b) (Take a) ≡ c (Take a)))
          → grown same_wire c (Take b) (Take a) ≡ c (Take a) + times a (if x then [] else b ∷ [])
      at true e (inl (p, q)) = let z : a ≡ b = cc in absurd (true≢false (sym e ∙ ap out (sym z) ∙ o))
      at true e (inr (p, q)) = omega (arith, q)
      at false e (inl (p, q)) = let z : a ≡ b = cc in omega (arith, q, one_same a b z)
      at false e (inr (p, q)) = let z : a ≡ b → ⊥ = λ s. p (ap Take s) in omega (arith, q, one_other a b z)
  seen_take c (Burst b) a o = still c (Burst b) (Take a) (λ e. cc)
  seen_take c (Return x) a o = still c (Return x) (Take a) (λ e. cc)
  seen_take c (Row x) a o = still c (Row x) (Take a) (λ e. cc)
  seen_take c (Cross x b n) a o = still c (Cross x b n) (Take a) (λ e. cc)
  seen_take c (Call n) a o = still c (Call n) (Take a) (λ e. cc)
  seen_take c (Begin n) a o = still c (Begin n) (Take a) (λ e. cc)
  seen_take c (Put n b) a o = still c (Put n b) (Take a) (λ e. cc)
  seen_take c (Exit n x) a o = still c (Exit n x) (Take a) (λ e. cc)
  seen_take c (Give b) a o = elim (cases_Bool (out b)) [
    | inl e ↦
        let z : a ≡ b → ⊥ = λ s. true≢false (sym e ∙ ap out (sym s) ∙ o) in
        omega (arith, other c (Give b) (Take a) (λ e. cc), ap (λ x. times a (if x then b ∷ [] else [])) e, seen_other a b z)
    | inr e ↦ omega (arith, other c (Give b) (Take a) (λ e. cc), ap (λ x. times a (if x then b ∷ [] else [])) e)
  ]

  seen_give : (c : Wire → ℕ) (w : Wire) (a : ℕ) → out a ≡ true → grown same_wire c w (Give a) ≡ c (Give a) + times a (seen out w)
  seen_give c (Give b) a o = at (out b) refl (grown_cases same_wire wires_decide c (Give b) (Give a))
    where
      at : (x : Bool) → out b ≡ x → ((Give a ≡ Give b) × (grown same_wire c (Give b) (Give a) ≡ suc (c (Give a)))) ⊎ ((Give a ≡ Give b → ⊥) × (grown same_wire c (Give b) (Give a) ≡ c (Give a)))
          → grown same_wire c (Give b) (Give a) ≡ c (Give a) + times a (if x then b ∷ [] else [])
      at false e (inl (p, q)) = let z : a ≡ b = cc in absurd (true≢false (sym o ∙ ap out z ∙ e))
      at false e (inr (p, q)) = omega (arith, q)
      at true e (inl (p, q)) = let z : a ≡ b = cc in omega (arith, q, one_same a b z)
      at true e (inr (p, q)) = let z : a ≡ b → ⊥ = λ s. p (ap Give s) in omega (arith, q, one_other a b z)
  seen_give c (Burst b) a o = still c (Burst b) (Give a) (λ e. cc)
  seen_give c (Return x) a o = still c (Return x) (Give a) (λ e. cc)
  seen_give c (Row x) a o = still c (Row x) (Give a) (λ e. cc)
  seen_give c (Cross x b n) a o = still c (Cross x b n) (Give a) (λ e. cc)
  seen_give c (Call n) a o = still c (Call n) (Give a) (λ e. cc)
  seen_give c (Begin n) a o = still c (Begin n) (Give a) (λ e. cc)
  seen_give c (Put n b) a o = still c (Put n b) (Give a) (λ e. cc)
  seen_give c (Exit n x) a o = still c (Exit n x) (Give a) (λ e. cc)
  seen_give c (Take b) a o = elim (cases_Bool (out b)) [
    | inl e ↦ omega (arith, other c (Take b) (Give a) (λ e. cc), ap (λ x. times a (if x then [] else b ∷ [])) e)
    | inr e ↦
        let z : a ≡ b → ⊥ = λ s. true≢false (sym o ∙ ap out s ∙ e) in
        omega (arith, other c (Take b) (Give a) (λ e. cc), ap (λ x. times a (if x then [] else b ∷ [])) e, seen_other a b z)
  ]

  pub word_takes : (c : Wire → ℕ) (v : List Wire) (a : ℕ) → out a ≡ false → tally same_wire c v (Take a) ≡ c (Take a) + times a (word out v)
  word_takes c [] a o = omega arith
  word_takes c (w ∷ v) a o = omega (arith, word_takes (grown same_wire c w) v a o, seen_take c w a o, times_append a (seen out w) (word out v))

  pub word_gives : (c : Wire → ℕ) (v : List Wire) (a : ℕ) → out a ≡ true → tally same_wire c v (Give a) ≡ c (Give a) + times a (word out v)
  word_gives c [] a o = omega arith
  word_gives c (w ∷ v) a o = omega (arith, word_gives (grown same_wire c w) v a o, seen_give c w a o, times_append a (seen out w) (word out v))
