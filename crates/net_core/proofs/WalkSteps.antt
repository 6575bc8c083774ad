-- Walks by their steps: what comes next, where steps lead, what stays, and where the walk ends.
use Rattle.std.proofs.Common.{◌≡◌, ℕ, zero, suc, ◌+◌, ◌<◌, Bool, true, false, not, ◌&&◌, List, [], ◌∷◌, ◌++◌, length, get_or, Option, None, Some, refl, sym, ap, ◌∙◌, subst, arith, inl, inr, lt-ltb, le-ltb, zero-add}
use Rattle.std.specs.Prelude.{◌||◌, nat_eq, slice_get, position, cond}
use Rattle.std.specs.List.{AllByRecursion, range_with_len, position_or_len}
use Rattle.std.proofs.lemmas.Bool.{cases_Bool, false≢true, and_from, not_from_false}
use Rattle.std.proofs.lemmas.List.FromFn.{length-range_with_len}
use Rattle.std.proofs.lemmas.List.Folds.{list_any-append}
use Rattle.std.proofs.lemmas.List.Sums.{position_or_len_is}
use Rattle.std.proofs.lemmas.Option.{none-some, same_Some, slice_get-get_or, slice_get_past}
use Rattle.net_core.specs.Wiring.{Circuit, IsWired, IsClosed}
use Rattle.net_core.specs.Networks.{takes, end_node}
use Rattle.cmd_tree.specs.Lists.{is_in}
use Rattle.net_core.specs.Walk.{Walk, list_node, source_at, or_else, next_left, step_at, walk_step, goes_on, walked, outset, walk_of}
use Rattle.net_core.specs.Mirror.Walking.{Leads, IsVisited}
use Rattle.net_core.proofs.Found.{ranged}
use Rattle.net_core.proofs.Listings.{is_in_last}
use Rattle.net_core.proofs.Walked.{Holds, steps, begun, ended}

-- ---- the node that is next where no wire is left

first_passes : (test : ℕ → Bool) (n k : ℕ) → k < n → test k ≡ true → ((j : ℕ) → j < k → test j ≡ false) → position test (range_with_len 0 n) ≡ Some k
first_passes test n k h passes before =
    let sized = length-range_with_len 0 n in
    let is : position_or_len test (range_with_len 0 n) ≡ k = position_or_len_is test (range_with_len 0 n) k 0 (omega arith)
    (λ j l. ap test (ranged n j (omega arith)) ∙ before j l) (λ l. ap test (ranged n k h) ∙ passes) in
    ap (λ b. cond b (Some (position_or_len test (range_with_len 0 n))) None)
    (lt-ltb (position_or_len test (range_with_len 0 n)) (length (range_with_len 0 n)) (omega arith)) ∙ ap Some is

all_fail : (test : ℕ → Bool) (n : ℕ) → ((j : ℕ) → j < n → test j ≡ false) → position test (range_with_len 0 n) ≡ None
all_fail test n before =
    let sized = length-range_with_len 0 n in
    let is : position_or_len test (range_with_len 0 n) ≡ n = position_or_len_is test (range_with_len 0 n) n 0 (omega arith)
    (λ j l. ap test (ranged n j l) ∙ before j l) (λ l. absurd (omega arith)) in
    ap (λ b. cond b (Some (position_or_len test (range_with_len 0 n))) None)
    (le-ltb (position_or_len test (range_with_len 0 n)) (length (range_with_len 0 n)) (omega arith))

listed_fails : (a b : Bool) → (a ≡ true → b ≡ true) → (a && not b) ≡ false
listed_fails true true h = refl
listed_fails true false h = absurd (false≢true (h refl))
listed_fails false b h = refl

not_true_is : (b : Bool) → b ≡ true → not b ≡ false
not_true_is true e = refl
not_true_is false e = absurd (false≢true e)

module _ (c : Circuit) (ns : List ℕ) where
  pub next_source : (n : ℕ) → n < length c.nodes → source_at (slice_get c.nodes n) ≡ true
      → ((k : ℕ) → k < n → source_at (slice_get c.nodes k) ≡ true → is_in k ns ≡ true) → is_in n ns ≡ false → next_left c ns ≡ Some n
  next_source n h source before new =
      ap (λ o. or_else o (position (λ m. not (is_in m ns)) (range_with_len 0 (length c.nodes))))
      (first_passes (λ m. source_at (slice_get c.nodes m) && not (is_in m ns)) (length c.nodes) n h
      (and_from (source_at (slice_get c.nodes n)) (not (is_in n ns)) source (not_from_false (is_in n ns) new))
      (λ j l. listed_fails (source_at (slice_get c.nodes j)) (is_in j ns) (before j l)))

  module _ (sources : (n : ℕ) → n < length c.nodes → source_at (slice_get c.nodes n) ≡ true → is_in n ns ≡ true) where
    no_source : position (λ m. source_at (slice_get c.nodes m) && not (is_in m ns)) (range_with_len 0 (length c.nodes)) ≡ None
    no_source = all_fail (λ m. source_at (slice_get c.nodes m) && not (is_in m ns)) (length c.nodes)
        (λ j l. listed_fails (source_at (slice_get c.nodes j)) (is_in j ns) (sources j l))

    pub next_other : (n : ℕ) → n < length c.nodes → ((k : ℕ) → k < n → is_in k ns ≡ true) → is_in n ns ≡ false → next_left c ns ≡ Some n
    next_other n h before new =
        ap (λ o. or_else o (position (λ m. not (is_in m ns)) (range_with_len 0 (length c.nodes)))) no_source
        ∙ first_passes (λ m. not (is_in m ns)) (length c.nodes) n h (not_from_false (is_in n ns) new) (λ j l. not_true_is (is_in j ns) (before j l))

    pub nothing_left : ((k : ℕ) → k < length c.nodes → is_in k ns ≡ true) → next_left c ns ≡ None
    nothing_left all =
        ap (λ o. or_else o (position (λ m. not (is_in m ns)) (range_with_len 0 (length c.nodes)))) no_source
        ∙ all_fail (λ m. not (is_in m ns)) (length c.nodes) (λ j l. not_true_is (is_in j ns) (all j l))

-- ---- single steps

module _ (c : Circuit) (w : Walk) where
  pub step_visits : w.visited < length w.numbered
      → walk_step c w ≡ Some (list_node c (end_node (takes c) c (get_or w.numbered w.visited 0)) (record w { visited = suc w.visited }))
  step_visits h = ap (λ a. step_at c w a (next_left c w.listed)) (slice_get-get_or w.numbered w.visited 0 h)

  pub step_lists : (n : ℕ) → IsVisited w → next_left c w.listed ≡ Some n → walk_step c w ≡ Some (list_node c n w)
  step_lists n past e = ap (λ a. step_at c w a (next_left c w.listed)) (slice_get_past w.numbered w.visited past) ∙ ap (step_at c w None) e

  pub step_none : IsVisited w → next_left c w.listed ≡ None → walk_step c w ≡ None
  step_none past e = ap (λ a. step_at c w a (next_left c w.listed)) (slice_get_past w.numbered w.visited past) ∙ ap (step_at c w None) e

pub listed_already : (c : Circuit) (n : ℕ) (w : Walk) → is_in n w.listed ≡ true → list_node c n w ≡ w
listed_already c n w e = rw e refl

pub listed_now : (c : Circuit) (n : ℕ) (w : Walk) → is_in n (list_node c n w).listed ≡ true
listed_now c n w = elim (cases_Bool (is_in n w.listed)) [
  | inl is ↦ ap (λ (v : Walk). is_in n v.listed) (listed_already c n w is) ∙ is
  | inr new ↦ rw new (is_in_last n w.listed)
]

true_or : (a b : Bool) → a ≡ true → (a || b) ≡ true
true_or true b e = refl
true_or false b e = absurd (false≢true e)

in_front : (m : ℕ) (xs ys : List ℕ) → is_in m xs ≡ true → is_in m (xs ++ ys) ≡ true
in_front m xs ys e = list_any-append (nat_eq m) xs ys ∙ true_or (is_in m xs) (is_in m ys) e

listed_stays : (c : Circuit) (n m : ℕ) (w : Walk) → is_in m w.listed ≡ true → is_in m (list_node c n w).listed ≡ true
listed_stays c n m w e = elim (cases_Bool (is_in n w.listed)) [
  | inl is ↦ ap (λ (v : Walk). is_in m v.listed) (listed_already c n w is) ∙ e
  | inr new ↦ rw new (in_front m w.listed (n ∷ []) e)
]

step_stays : (c : Circuit) (m : ℕ) (w : Walk) (a o : Option ℕ) (v : Walk) → step_at c w a o ≡ Some v → is_in m w.listed ≡ true → is_in m v.listed ≡ true
step_stays c m w (Some x) o v e is = subst (λ u. is_in m u.listed ≡ true) (same_Some _ v e) (listed_stays c (end_node (takes c) c x) m (record w { visited = suc w.visited }) is)
step_stays c m w None (Some n) v e is = subst (λ u. is_in m u.listed ≡ true) (same_Some (list_node c n w) v e) (listed_stays c n m w is)
step_stays c m w None None v e is = absurd (none-some v e)

-- ---- many steps

pub walked_stays : (c : Circuit) (w : Walk) → walk_step c w ≡ None → (k : ℕ) → walked c k w ≡ w
unfolding walked
walked_stays c w e zero = refl
walked_stays c w e (suc k) = ap (goes_on w (walked c k)) e

pub walked_first : (c : Circuit) (w v : Walk) → walk_step c w ≡ Some v → (k : ℕ) → walked c (suc k) w ≡ walked c k v
unfolding walked
walked_first c w v e k = ap (goes_on w (walked c k)) e

pub walked_none : (c : Circuit) (w : Walk) → walked c zero w ≡ w
unfolding walked
walked_none c w = refl

walked_more : (c : Circuit) (j k : ℕ) (w : Walk) → walked c (j + k) w ≡ walked c k (walked c j w)
walked_more c zero k w = ap (λ n. walked c n w) (zero-add k) ∙ sym (ap (walked c k) (walked_none c w))
walked_more c (suc j) k w = at (walk_step c w) refl (λ v. walked_more c j k v)
  where
    at : (o : Option Walk) → walk_step c w ≡ o → ((v : Walk) → walked c (j + k) v ≡ walked c k (walked c j v)) → walked c (suc j + k) w ≡ walked c k (walked c (suc j) w)
    at None e f = walked_stays c w e (suc j + k) ∙ sym (ap (walked c k) (walked_stays c w e (suc j)) ∙ walked_stays c w e k)
    at (Some v) e f =
        ap (λ n. walked c n w) (let z : suc j + k ≡ suc (j + k) = omega arith in z) ∙ walked_first c w v e (j + k) ∙ f v
        ∙ sym (ap (walked c k) (walked_first c w v e j))

module _ (c : Circuit) where
  pub leads_same : (w : Walk) → Leads c w w
  leads_same w = (zero, sym (walked_none c w))

  pub leads_step : (v w : Walk) → walk_step c v ≡ Some w → Leads c v w
  leads_step v w e = (suc zero, sym (walked_first c v w e zero ∙ walked_none c w))

  pub leads_then : (u v w : Walk) → Leads c u v → Leads c v w → Leads c u w
  leads_then u v w a b = (a.0 + b.0, b.1 ∙ ap (walked c b.0) a.1 ∙ sym (walked_more c a.0 b.0 u))

  walked_keeps : (m k : ℕ) (w : Walk) → is_in m w.listed ≡ true → is_in m (walked c k w).listed ≡ true
  walked_keeps m zero w is = ap (λ (v : Walk). is_in m v.listed) (walked_none c w) ∙ is
  walked_keeps m (suc k) w is = at (walk_step c w) refl (λ v h. walked_keeps m k v h)
    where
      at : (o : Option Walk) → walk_step c w ≡ o → ((v : Walk) → is_in m v.listed ≡ true → is_in m (walked c k v).listed ≡ true) → is_in m (walked c (suc k) w).listed ≡ true
      at None e f = ap (λ (v : Walk). is_in m v.listed) (walked_stays c w e (suc k)) ∙ is
      at (Some v) e f = ap (λ (v : Walk). is_in m v.listed) (walked_first c w v e k)
          ∙ f v (step_stays c m w (slice_get w.numbered w.visited) (next_left c w.listed) v e is)

  pub leads_keeps : (v w : Walk) → Leads c v w → (m : ℕ) → is_in m v.listed ≡ true → is_in m w.listed ≡ true
  leads_keeps v w a m is = ap (λ (u : Walk). is_in m u.listed) a.1 ∙ walked_keeps m a.0 v is

  -- the node that is next is listed, or it is listed already
  pub leads_next : (n : ℕ) (w : Walk) → IsVisited w → (is_in n w.listed ≡ false → next_left c w.listed ≡ Some n) → Leads c w (list_node c n w)
  leads_next n w past next = elim (cases_Bool (is_in n w.listed)) [
    | inl is ↦ subst (Leads c w) (sym (listed_already c n w is)) (leads_same w)
    | inr new ↦ leads_step w (list_node c n w) (step_lists c w n past (next new))
  ]

  module _ (fit : AllByRecursion (IsWired c.wires) c.nodes) (closed : IsClosed c) where
    walked_holds : (k : ℕ) (w : Walk) → Holds c w → Holds c (walked c k w)
    walked_holds zero w h = subst (Holds c) (sym (walked_none c w)) h
    walked_holds (suc k) w h = at (walk_step c w) refl (λ v holds. walked_holds k v holds)
      where
        at : (o : Option Walk) → walk_step c w ≡ o → ((v : Walk) → Holds c v → Holds c (walked c k v)) → Holds c (walked c (suc k) w)
        at None e f = subst (Holds c) (sym (walked_stays c w e (suc k))) h
        at (Some v) e f = subst (Holds c) (sym (walked_first c w v e k))
            (f v (steps c fit closed w h (slice_get w.numbered w.visited) refl (next_left c w.listed) refl v e).0)

    pub leads_holds : 0 < length c.nodes → (w : Walk) → Leads c (outset c) w → Holds c w
    leads_holds some w a = subst (Holds c) (sym a.1) (walked_holds a.0 (outset c) (begun c fit closed some))

    -- a walk that can go no further is the whole walk
    pub leads_end : 0 < length c.nodes → (w : Walk) → Leads c (outset c) w → walk_step c w ≡ None → w ≡ walk_of c
    leads_end some w a e =
        let N = c.wires + length c.nodes in
        let same : a.0 + N ≡ N + a.0 = omega arith in
        sym (walked_stays c w e N) ∙ ap (walked c N) a.1 ∙ sym (walked_more c a.0 N (outset c)) ∙ ap (λ n. walked c n (outset c)) same
        ∙ walked_more c N a.0 (outset c) ∙ walked_stays c (walk_of c) (ended c fit closed some).1 a.0
