-- Where the crossings lead to all acts in turn, each act has one entry.
use Rattle.std.proofs.Common.{◌≡◌, ◌≢◌, ◌⊎◌, inl, inr, ℕ, zero, suc, ◌+◌, ◌-◌, ◌<◌, ◌≤◌, Bool, true, false, true≢false, cond, ◌&&◌, nat_eq, List, [], ◌∷◌, length, count_by, refl, sym, ap, ◌∙◌, subst, arith, eq-eqb, ne_eqb, eqb-true}
use Rattle.std.specs.List.{list_all, range_with_len}
use Rattle.std.proofs.lemmas.Bool.{cases_eq, cases_lt, and_parts}
use Rattle.place_graph.specs.declared.wait_graph.Cross.{Cross}
use Rattle.place_graph.specs.Style.{entries, one_entry_each}
use Rattle.place_graph.specs.Mirror.InTurn.{act_after, are_in_turn}
use Rattle.place_graph.proofs.Counts.{count_more}

-- how often an act comes among the next m in turn, where it is d acts ahead
record Comes (d m t : ℕ) : Type 0 where
  hit : d < m → t ≡ 1
  miss : m ≤ d → t ≡ 0

entries_more : (a : ℕ) (c : Cross) (cs : List Cross) → entries a (c ∷ cs) ≡ cond (nat_eq c.act a) (1 + entries a cs) (entries a cs)
entries_more a c cs = count_more (λ (x : Cross). nat_eq x.act a) c cs

-- the act d acts ahead of x is a
abbrev Ahead : ℕ → ℕ → ℕ → ℕ → Type 0
Ahead k x d a = (x + d ≡ a) ⊎ (x + d ≡ a + suc k)

-- one act on
on_more : (k x d a : ℕ) → x < suc k → a < suc k → Ahead k x (suc d) a → Ahead k (act_after (suc k) x) d a
on_more k x d a l m h = by (nat_eq (x + 1) (suc k)) (cases_eq (x + 1) (suc k)) h
  where
    by : (b : Bool) → (x + 1 ≡ suc k) ⊎ (x + 1 ≢ suc k) → Ahead k x (suc d) a → Ahead k (cond (nat_eq (x + 1) (suc k)) 0 (x + 1)) d a
    by b (inl e) (inl s) = absurd (omega (arith, e, s, m))
    by b (inl e) (inr s) = rw (eq-eqb (x + 1) (suc k) e) (inl (omega (arith, e, s)))
    by b (inr n) (inl s) = rw (ne_eqb (x + 1) (suc k) n) (inl (omega (arith, s)))
    by b (inr n) (inr s) = rw (ne_eqb (x + 1) (suc k) n) (inr (omega (arith, s)))

-- the act itself comes again after all others
on_same : (k x a : ℕ) → x ≡ a → a < suc k → Ahead k (act_after (suc k) x) k a
on_same k x a e m = by (cases_eq (x + 1) (suc k))
  where
    by : (x + 1 ≡ suc k) ⊎ (x + 1 ≢ suc k) → Ahead k (cond (nat_eq (x + 1) (suc k)) 0 (x + 1)) k a
    by (inl h) = rw (eq-eqb (x + 1) (suc k) h) (inl (omega (arith, h, e)))
    by (inr n) = rw (ne_eqb (x + 1) (suc k) n) (inr (omega (arith, e)))

after_low : (k x : ℕ) → x < suc k → act_after (suc k) x < suc k
after_low k x l = by (cases_eq (x + 1) (suc k))
  where
    by : (x + 1 ≡ suc k) ⊎ (x + 1 ≢ suc k) → cond (nat_eq (x + 1) (suc k)) 0 (x + 1) < suc k
    by (inl h) = rw (eq-eqb (x + 1) (suc k) h) (omega arith)
    by (inr n) = rw (ne_eqb (x + 1) (suc k) n) (omega (arith, l, n))

turned : (k a x d : ℕ) (cs : List Cross) → x < suc k → a < suc k → d < suc k → Ahead k x d a → length cs ≤ suc k → are_in_turn (suc k) x cs ≡ true
    → Comes d (length cs) (entries a cs)
turned k a x d [] l m low h few t = record { hit = λ u. absurd (omega (arith, u)); miss = λ u. refl }
turned k a x zero (c ∷ cs) l m low h few t =
    let (is, rest) = and_parts (nat_eq c.act x) (are_in_turn (suc k) (act_after (suc k) x) cs) t in
    let same : x ≡ a = elim h [ inl s ↦ omega (arith, s) | inr s ↦ absurd (omega (arith, s, l)) ] in
    let here : nat_eq c.act a ≡ true = eq-eqb c.act a (eqb-true c.act x is ∙ same) in
    let again = turned k a (act_after (suc k) x) k cs (after_low k x l) m (omega arith) (on_same k x a same m) (omega (arith, few)) rest in
    let none : entries a cs ≡ 0 = again.miss (omega (arith, few)) in
    record {
      hit = λ u. entries_more a c cs ∙ ap (λ b. cond b (1 + entries a cs) (entries a cs)) here ∙ ap (λ n. 1 + n) none;
      miss = λ u. absurd (omega (arith, u));
    }
turned k a x (suc d) (c ∷ cs) l m low h few t =
    let (is, rest) = and_parts (nat_eq c.act x) (are_in_turn (suc k) (act_after (suc k) x) cs) t in
    let apart : c.act ≢ a = λ e. away (sym (eqb-true c.act x is) ∙ e) in
    let there : entries a (c ∷ cs) ≡ entries a cs = entries_more a c cs ∙ ap (λ b. cond b (1 + entries a cs) (entries a cs)) (ne_eqb c.act a apart) in
    let later = turned k a (act_after (suc k) x) d cs (after_low k x l) m (omega (arith, low)) (on_more k x d a l m h) (omega (arith, few)) rest in
    record { hit = λ u. there ∙ later.hit (omega (arith, u)); miss = λ u. there ∙ later.miss (omega (arith, u)) }
  where
    away : x ≡ a → ⊥
    away e = elim h [ inl s ↦ omega (arith, e, s) | inr s ↦ omega (arith, e, s, low) ]

-- how many acts ahead of x the act a is
ahead : (k x a : ℕ) → x < suc k → a < suc k → (d : ℕ) × (d < suc k) × Ahead k x d a
ahead k x a l m = elim (cases_lt a x) [
  | inl before ↦ (a + suc k - x, omega (arith, before, l), inr (omega (arith, before, l)))
  | inr behind ↦ (a - x, omega (arith, behind, m), inl (omega (arith, behind)))
]

all_range : (p : ℕ → Bool) (i m : ℕ) → ((a : ℕ) → a < i + m → p a ≡ true) → list_all p (range_with_len i m) ≡ true
all_range p i zero h = refl
all_range p i (suc m) h = ap (λ b. b && list_all p (range_with_len (i + 1) m)) (h i (omega arith)) ∙ all_range p (i + 1) m (λ a l. h a (omega (arith, l)))

pub each_in_turn : (acts x : ℕ) (cs : List Cross) → length cs ≡ acts → x < acts → are_in_turn acts x cs ≡ true → one_entry_each acts cs ≡ true
each_in_turn zero x cs n l t = absurd (omega (arith, l))
each_in_turn (suc k) x cs n l t = all_range (λ a. nat_eq (entries a cs) 1) 0 (suc k) (λ a m.
    let (d, low, h) = ahead k x a l (omega (arith, m)) in
    eq-eqb (entries a cs) 1 ((turned k a x d cs l (omega (arith, m)) low h (omega (arith, n)) t).hit (omega (arith, low, n))))
