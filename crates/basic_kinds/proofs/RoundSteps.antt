-- The ports of a round: which are still to come, and how many.
use Rattle.std.proofs.Common.{◌≡◌, ◌↔◌, ◌⊎◌, inl, inr, ⊎_elim, ℕ, zero, suc, ◌+◌, ◌-◌, ◌<◌, ◌≤◌, Bool, true, false, true≢false, not, if◌then◌else◌, List, [], ◌∷◌, length, get_or, set, replicate, refl, sym, ap, ◌∙◌, subst, arith, length-set, get_or-set_same, get_or-set_other}
use Rattle.std.proofs.lemmas.Bool.{cases_eq}
use Rattle.std.proofs.lemmas.List.{get_or-replicate, length-replicate}
use Rattle.cmd_tree.proofs.Phases.{Grew}
use Rattle.basic_kinds.specs.declared.kind.Kind.TheVariants.{Fork, C}
use Rattle.basic_kinds.specs.KindCounts.{KindAt}
use Rattle.basic_kinds.specs.Sorts.{how_many}
use Rattle.basic_kinds.specs.Mirror.Machines.{Leads, to_come, RoundOf}

-- ---- the lead

pub leads_by : (b : Bool) (f g : ℕ) → Leads b f g → ((b ≡ true) × (f ≡ suc g)) ⊎ ((b ≡ false) × (f ≡ g))
leads_by true f g h = inl (refl, h)
leads_by false f g h = inr (refl, h)

pub leads_true : (b : Bool) (f g : ℕ) → b ≡ true → Leads b f g → f ≡ suc g
leads_true true f g e h = h
leads_true false f g e h = absurd (true≢false (sym e))

pub leads_false : (b : Bool) (f g : ℕ) → b ≡ false → Leads b f g → f ≡ g
leads_false true f g e h = absurd (true≢false e)
leads_false false f g e h = h

-- ---- how many are to come

come_self : (turn : Bool) → to_come turn turn ≡ false
come_self true = refl
come_self false = refl

come_other : (turn bit : Bool) → to_come turn bit ≡ false → to_come (not turn) bit ≡ true
come_other true true e = refl
come_other true false e = absurd (true≢false e)
come_other false true e = absurd (true≢false e)
come_other false false e = refl

abbrev one_if : Bool → ℕ
one_if b = if b then 1 else 0

count_none : (test : Bool → Bool) (xs : List Bool) → how_many test xs ≡ 0 → (i : ℕ) → i < length xs
    → test (get_or xs i false) ≡ false
count_none test [] e i l = absurd (omega arith)
count_none test (x ∷ xs) e i l = by (test x) refl e (count_none test xs) i l
  where
    by : (b : Bool) → test x ≡ b → one_if b + how_many test xs ≡ 0
        → (how_many test xs ≡ 0 → (i : ℕ) → i < length xs → test (get_or xs i false) ≡ false)
        → (i : ℕ) → i < length (x ∷ xs) → test (get_or (x ∷ xs) i false) ≡ false
    by true q e k i l = absurd (omega (arith, e))
    by false q e k zero l = q
    by false q e k (suc i) l = k (omega (arith, e)) i (omega (arith, l))

none_count : (test : Bool → Bool) (xs : List Bool) → ((i : ℕ) → i < length xs → test (get_or xs i false) ≡ false)
    → how_many test xs ≡ 0
none_count test [] h = refl
none_count test (x ∷ xs) h = omega (
  arith,
  ap one_if (h 0 (omega arith)),
  none_count test xs (λ i l. h (suc i) (omega (arith, l))),
)

count_all : (test : Bool → Bool) (xs : List Bool) → ((i : ℕ) → i < length xs → test (get_or xs i false) ≡ true)
    → how_many test xs ≡ length xs
count_all test [] h = refl
count_all test (x ∷ xs) h = omega (
  arith,
  ap one_if (h 0 (omega arith)),
  count_all test xs (λ i l. h (suc i) (omega (arith, l))),
)

count_set : (test : Bool → Bool) (xs : List Bool) (i : ℕ) (y : Bool) → i < length xs
    → test (get_or xs i false) ≡ true → test y ≡ false → how_many test xs ≡ suc (how_many test (set xs i y))
count_set test [] i y l e f = absurd (omega arith)
count_set test (x ∷ xs) zero y l e f = omega (arith, ap one_if e, ap one_if f)
count_set test (x ∷ xs) (suc i) y l e f = omega (arith, count_set test xs i y (omega (arith, l)) e f)

-- ---- the states

module _ (came : List Bool) (turn : Bool) (left : ℕ) (s : ℕ → ℕ) (round : ℕ) (h : RoundOf came turn left s round) where
  pub round_over : left ≡ 0 → (i : ℕ) → i < length came → s i ≡ round
  round_over e i l = sym (leads_false (to_come turn (get_or came i false)) round (s i)
      (count_none (to_come turn) came (sym h.many ∙ e) i l) (h.each i l))

  pub over_round : ((i : ℕ) → i < length came → s i ≡ round) → left ≡ 0
  over_round e = h.many ∙ none_count (to_come turn) came (λ i l. ⊎_elim
      (λ k. absurd (omega (arith, k.1, e i l)))
      (λ k. k.0)
      (leads_by (to_come turn (get_or came i false)) round (s i) (h.each i l)))

  pub round_awaits : (i : ℕ) → i < length came → to_come turn (get_or came i false) ≡ true → s i < round
  round_awaits i l e = omega (arith, leads_true (to_come turn (get_or came i false)) round (s i) e (h.each i l))

  pub awaits_round : (i : ℕ) → i < length came → s i < round → to_come turn (get_or came i false) ≡ true
  awaits_round i l e = ⊎_elim (λ k. k.0) (λ k. absurd (omega (arith, k.1, e)))
      (leads_by (to_come turn (get_or came i false)) round (s i) (h.each i l))

  pub round_begins : left ≡ 0 → RoundOf came (not turn) (length came) s (suc round)
  round_begins e = record {
    each = λ i l. subst (λ b. Leads b (suc round) (s i)) (sym (next i l)) (ap suc (sym (round_over e i l)));
    many = sym (count_all (to_come (not turn)) came next);
  }
    where
      next : (i : ℕ) → i < length came → to_come (not turn) (get_or came i false) ≡ true
      next i l = come_other turn (get_or came i false) (count_none (to_come turn) came (sym h.many ∙ e) i l)

  pub round_takes : (z : ℕ → ℕ) (i : ℕ) → i < length came → to_come turn (get_or came i false) ≡ true → Grew s i z
      → RoundOf (set came i turn) turn (left - 1) z round
  round_takes z i l e g = record {
    each = λ j m. ⊎_elim (here j m) (other j m) (cases_eq j i);
    many = omega (arith, h.many, count_set (to_come turn) came i turn l e (come_self turn));
  }
    where
      here : (j : ℕ) → j < length (set came i turn) → j ≡ i
          → Leads (to_come turn (get_or (set came i turn) j false)) round (z j)
      here j m q =
          subst (λ x. Leads (to_come turn (get_or (set came i turn) x false)) round (z x)) (sym q)
          (subst (λ b. Leads b round (z i))
          (sym (ap (to_come turn) (get_or-set_same came i turn false l) ∙ come_self turn))
          (omega (arith, leads_true (to_come turn (get_or came i false)) round (s i) e (h.each i l), g.here)))

      other : (j : ℕ) → j < length (set came i turn) → (j ≡ i → ⊥)
          → Leads (to_come turn (get_or (set came i turn) j false)) round (z j)
      other j m q =
          subst (λ b. Leads (to_come turn b) round (z j)) (sym (get_or-set_other came i j turn false q))
          (subst (λ x. Leads (to_come turn (get_or came j false)) round x) (sym (g.elsewhere j q))
          (h.each j (subst (λ n. j < n) (length-set came i turn) m)))

-- ---- before any has come

module _ (came : List Bool) (turn : Bool) (left w : ℕ) (all : came ≡ replicate w false) where
  bit : (i : ℕ) → i < length came → get_or came i false ≡ false
  bit i l = ap (λ xs. get_or xs i false) all ∙ get_or-replicate w i false false (omega (arith, l, size))
    where
      size : length came ≡ w
      size = ap length all ∙ length-replicate w false

  pub round_none : turn ≡ false → left ≡ 0 → RoundOf came turn left (λ i. 0) 0
  round_none t e = record {
    each = λ i l. subst (λ b. Leads b 0 0) (sym (test i l)) refl;
    many = e ∙ sym (none_count (to_come turn) came test);
  }
    where
      test : (i : ℕ) → i < length came → to_come turn (get_or came i false) ≡ false
      test i l = ap (λ b. to_come turn b) (bit i l) ∙ ap (λ t. to_come t false) t

  pub round_begun : turn ≡ true → left ≡ length came → RoundOf came turn left (λ i. 0) 1
  round_begun t e = record {
    each = λ i l. subst (λ b. Leads b 1 0) (sym (test i l)) refl;
    many = e ∙ sym (count_all (to_come turn) came test);
  }
    where
      test : (i : ℕ) → i < length came → to_come turn (get_or came i false) ≡ true
      test i l = ap (λ b. to_come turn b) (bit i l) ∙ ap (λ t. to_come t false) t

pub round_same : (came : List Bool) (turn : Bool) (left : ℕ) (s z : ℕ → ℕ) (round next : ℕ)
    → RoundOf came turn left s round → ((i : ℕ) → i < length came → z i ≡ s i) → next ≡ round
    → RoundOf came turn left z next
round_same came turn left s z round next h e q = record {
  each = λ i l. subst (λ x. Leads (to_come turn (get_or came i false)) x (z i)) (sym q)
      (subst (λ x. Leads (to_come turn (get_or came i false)) round x) (sym (e i l)) (h.each i l));
  many = h.many;
}

-- ---- FORK and C

pub fork_input : (n : ℕ) (c : ℕ → ℕ) (p : ℕ) → p ≡ 0 → ((i : ℕ) → i < n → c (1 + i) ≡ c 0) ↔ KindAt (Fork n) c p
fork_input n c p e = (λ h. inl (omega (arith, e), λ j l. ap c e ∙ sym (h j l)), back)
  where
    back : KindAt (Fork n) c p → (i : ℕ) → i < n → c (1 + i) ≡ c 0
    back (inl h) i l = sym (h.1 i l) ∙ ap c e
    back (inr h) i l = absurd (omega (arith, e, h.0))

pub fork_output : (n : ℕ) (c : ℕ → ℕ) (p : ℕ) → (p ≡ 0 → ⊥)
    → ((p - 1 < n) × (c (1 + (p - 1)) < c 0)) ↔ KindAt (Fork n) c p
fork_output n c p d = (forth, back)
  where
    same : c (1 + (p - 1)) ≡ c p
    same = ap c (omega (arith, d))

    forth : (p - 1 < n) × (c (1 + (p - 1)) < c 0) → KindAt (Fork n) c p
    forth h = inr (
      omega (arith, d),
      omega (arith, d, h.0),
      λ i l. let e : i ≡ 0 = omega arith in
          omega (arith, h.1, same, ap c e),
    )

    back : KindAt (Fork n) c p → (p - 1 < n) × (c (1 + (p - 1)) < c 0)
    back (inl h) = absurd (d (omega (arith, h.0)))
    back (inr h) = (omega (arith, d, h.1), omega (arith, same, h.2 0 (omega arith)))

module _ (came : List Bool) (turn : Bool) (left : ℕ) (c : ℕ → ℕ) (p : ℕ)
    (h : RoundOf came turn left c (suc (c (length came)))) where
  abbrev n : ℕ
  n = length came

  bounds : (i : ℕ) → i < n → (c i ≤ suc (c n)) × (c n ≤ c i)
  bounds i l = ⊎_elim (λ k. (omega (arith, k.1), omega (arith, k.1))) (λ k. (omega (arith, k.1), omega (arith, k.1)))
      (leads_by (to_come turn (get_or came i false)) (suc (c n)) (c i) (h.each i l))

  pub join_output : p ≡ n → ((i : ℕ) → i < n → c i ≡ suc (c n)) ↔ KindAt (C n) c p
  join_output e = (
    λ k. inr (omega (arith, e), omega (arith, e), λ i l. omega (arith, ap c e, k i l)),
    back,
  )
    where
      back : KindAt (C n) c p → (i : ℕ) → i < n → c i ≡ suc (c n)
      back (inl k) i l = absurd (omega (arith, e, k.0))
      back (inr k) i l = omega (arith, ap c e, k.2 i l, bounds i l)

  pub join_input : (p ≡ n → ⊥) → ((p < n) × (c p < suc (c n))) ↔ KindAt (C n) c p
  join_input d = (
    λ k. inl (k.0, λ j l. let e : n + j ≡ n = omega arith in omega (arith, ap c e, k.1, bounds p k.0)),
    back,
  )
    where
      back : KindAt (C n) c p → (p < n) × (c p < suc (c n))
      back (inl k) = let e : n + 0 ≡ n = omega arith in (k.0, omega (arith, ap c e, k.1 0 (omega arith)))
      back (inr k) = absurd (d (omega (arith, k.0, k.1)))

-- the counts of the outputs of a FORK
pub outputs_grow : (c d : ℕ → ℕ) (p : ℕ) → (p ≡ 0 → ⊥) → Grew c p d → Grew (λ i. c (1 + i)) (p - 1) (λ i. d (1 + i))
outputs_grow c d p n g = record {
  here = let e : 1 + (p - 1) ≡ p = omega (arith, n) in omega (arith, ap c e, ap d e, g.here);
  elsewhere = λ q m. g.elsewhere (1 + q) (λ e. m (omega (arith, e)));
}

pub chain : {A B D : Type 0} → (A ↔ B) → (B ↔ D) → A ↔ D
chain f g = (λ a. g.0 (f.0 a), λ d. f.1 (g.1 d))
