-- What holds at each step of the walk, and where it ends.
use Rattle.std.proofs.Common.{◌≡◌, ◌≢◌, ℕ, zero, suc, ◌+◌, ◌<◌, ◌≤◌, Bool, true, false, not, ◌&&◌, List, [], ◌∷◌, ◌++◌, length, get_or, Option, None, Some, refl, sym, ap, ◌∙◌, subst, arith, inl, inr, length-append, lt-ltb}
use Rattle.std.specs.Prelude.{slice_get, position, cond}
use Rattle.std.specs.List.{AllByRecursion, range_with_len, position_or_len}
use Rattle.std.proofs.lemmas.Bool.{cases_Bool, cases_eq, false≢true, and_parts}
use Rattle.std.proofs.lemmas.List.Quantifiers.{position-Some}
use Rattle.std.proofs.lemmas.List.FromFn.{length-range_with_len, get_or-range_with_len}
use Rattle.std.proofs.lemmas.Option.{none-some, same_Some, get_or_from_slice_get, slice_get_within}
use Rattle.net_core.specs.Specs.{outs_of}
use Rattle.net_core.specs.Wiring.{Node, Circuit, IsWired, IsClosed, count, picked}
use Rattle.net_core.specs.Networks.{directions_at, gives, takes, end_of, end_at, end_node}
use Rattle.cmd_tree.specs.Lists.{is_in}
use Rattle.net_core.specs.Walk.{Walk, with_new, output_wires, list_node, source_at, or_else, next_left, step_at, walk_step, goes_on, walked, ends_at, outset, walk_of}
use Rattle.net_core.proofs.Counting.{count_nil, count_same, count_other, picked_all, all_at}
use Rattle.net_core.proofs.Ends.{later_same}
use Rattle.net_core.proofs.Found.{first_below, port_within, all_nodes, takes_located}
use Rattle.net_core.proofs.Sizes.{all_append}
use Rattle.net_core.proofs.Places.{count_more, count_here, few_below}
use Rattle.net_core.proofs.WithNew.{in_counted, not_in_counted, count_not_last, last_once, new_once, new_all, new_keeps, new_has, new_longer}

-- the wire at an output port is among the picked
picked_at : (ds : List Bool) (ws : List ℕ) (p : ℕ) → get_or ds p false ≡ true → p < length ws → 0 < count (get_or ws p 0) (picked true ds ws)
unfolding picked
picked_at [] ws p e h = absurd (false≢true e)
picked_at (d ∷ ds) [] p e h = absurd (omega arith)
picked_at (true ∷ ds) (w ∷ ws) zero e h = omega (arith, count_same w (picked true ds ws))
picked_at (false ∷ ds) (w ∷ ws) zero e h = absurd (false≢true e)
picked_at (true ∷ ds) (w ∷ ws) (suc p) e h =
    let l : p < length ws = omega arith in
    omega (arith, picked_at ds ws p e l, count_more (get_or ws p 0) w (picked true ds ws))
picked_at (false ∷ ds) (w ∷ ws) (suc p) e h = picked_at ds ws p e (omega arith)

-- a number that is left and passes
least_passes : (test : ℕ → Bool) (n k : ℕ) → position test (range_with_len 0 n) ≡ Some k → (k < n) × (test k ≡ true)
least_passes test n k e =
    let (l, passes, before) = position-Some test (range_with_len 0 n) k 0 e in
    let inside : k < n = omega (arith, length-range_with_len 0 n) in
    let same : get_or (range_with_len 0 n) k 0 ≡ k = omega (arith, get_or-range_with_len 0 n k 0 inside) in
    (inside, ap test (sym same) ∙ passes)

none_passes : (test : ℕ → Bool) (n k : ℕ) → position test (range_with_len 0 n) ≡ None → k < n → test k ≡ false
none_passes test n k e h = elim (cases_Bool (test k)) [
  | inl is ↦ absurd (none-some (position_or_len test (range_with_len 0 n)) (sym e
      ∙ ap (λ b. cond b (Some (position_or_len test (range_with_len 0 n))) None)
      (lt-ltb (position_or_len test (range_with_len 0 n)) (length (range_with_len 0 n))
      (omega (arith, (first_below test n k h is).1, length-range_with_len 0 n)))))
  | inr it ↦ it
]

or_else_some : (a b : Option ℕ) (n : ℕ) (P : Type 0) → or_else a b ≡ Some n → (a ≡ Some n → P) → (a ≡ None → b ≡ Some n → P) → P
or_else_some None b n P e f g = g refl e
or_else_some (Some m) b n P e f g = f e

or_else_none : (a b : Option ℕ) → or_else a b ≡ None → b ≡ None
or_else_none None b e = e
or_else_none (Some m) b e = absurd (none-some m (sym e))

not_true : (b : Bool) → not b ≡ true → b ≡ false
not_true true e = absurd (false≢true e)
not_true false e = refl

not_false : (b : Bool) → not b ≡ false → b ≡ true
not_false true e = refl
not_false false e = absurd (false≢true (sym e))

pub left_is : (c : Circuit) (ns : List ℕ) (n : ℕ) → next_left c ns ≡ Some n → (n < length c.nodes) × (is_in n ns ≡ false)
left_is c ns n e =
    or_else_some (position (λ n. source_at (slice_get c.nodes n) && not (is_in n ns)) (range_with_len 0 (length c.nodes)))
    (position (λ n. not (is_in n ns)) (range_with_len 0 (length c.nodes))) n ((n < length c.nodes) × (is_in n ns ≡ false)) e
    (λ h. let r = least_passes (λ n. source_at (slice_get c.nodes n) && not (is_in n ns)) (length c.nodes) n h in
    (r.0, not_true (is_in n ns) (and_parts (source_at (slice_get c.nodes n)) (not (is_in n ns)) r.1).1))
    (λ none h. let r = least_passes (λ n. not (is_in n ns)) (length c.nodes) n h in (r.0, not_true (is_in n ns) r.1))

-- where the next node is no SOURCE, each SOURCE is listed
pub left_sources : (c : Circuit) (ns : List ℕ) (n : ℕ) → next_left c ns ≡ Some n → source_at (slice_get c.nodes n) ≡ false
    → (m : ℕ) → m < length c.nodes → source_at (slice_get c.nodes m) ≡ true → is_in m ns ≡ true
left_sources c ns n e other m h source =
    or_else_some (position (λ n. source_at (slice_get c.nodes n) && not (is_in n ns)) (range_with_len 0 (length c.nodes)))
    (position (λ n. not (is_in n ns)) (range_with_len 0 (length c.nodes))) n (is_in m ns ≡ true) e
    (λ f. let r = least_passes (λ n. source_at (slice_get c.nodes n) && not (is_in n ns)) (length c.nodes) n f in
    absurd (false≢true (sym other ∙ (and_parts (source_at (slice_get c.nodes n)) (not (is_in n ns)) r.1).0)))
    (λ none f. not_false (is_in m ns) (sym (ap (λ b. b && not (is_in m ns)) source)
    ∙ none_passes (λ n. source_at (slice_get c.nodes n) && not (is_in n ns)) (length c.nodes) m none h))

pub none_left : (c : Circuit) (ns : List ℕ) (n : ℕ) → next_left c ns ≡ None → n < length c.nodes → is_in n ns ≡ true
none_left c ns n e h =
    not_false (is_in n ns) (none_passes (λ n. not (is_in n ns)) (length c.nodes) n
    (or_else_none (position (λ n. source_at (slice_get c.nodes n) && not (is_in n ns)) (range_with_len 0 (length c.nodes)))
    (position (λ n. not (is_in n ns)) (range_with_len 0 (length c.nodes))) e) h)

pub record Holds (c : Circuit) (w : Walk) : Type 0 where
  pub first : get_or w.listed 0 0 ≡ 0
  pub some : 0 < length w.listed
  pub there : AllByRecursion (λ n. n < length c.nodes) w.listed
  pub listed_once : (n : ℕ) → count n w.listed ≤ 1
  pub known : AllByRecursion (λ v. v < c.wires) w.numbered
  pub once : (v : ℕ) → count v w.numbered ≤ 1
  pub seen : w.visited ≤ length w.numbered
  pub driven : (n p : ℕ) → 0 < count n w.listed → gives c n p ≡ true → 0 < count (end_at c n p) w.numbered

abbrev pub progress : Walk → ℕ
progress w = w.visited + length w.listed

pub progress_few : (c : Circuit) (w : Walk) → Holds c w → progress w ≤ c.wires + length c.nodes
progress_few c w h =
    omega (arith, h.seen, few_below c.wires w.numbered h.known h.once, few_below (length c.nodes) w.listed h.there h.listed_once)

first_append : (xs ys : List ℕ) → 0 < length xs → get_or (xs ++ ys) 0 0 ≡ get_or xs 0 0
first_append [] ys h = absurd (omega arith)
first_append (x ∷ xs) ys h = refl

module _ (c : Circuit) (fit : AllByRecursion (IsWired c.wires) c.nodes) where
  outputs_known : (n : ℕ) (o : Option Node) → slice_get c.nodes n ≡ o → AllByRecursion (λ v. v < c.wires) (output_wires o)
  outputs_known n None e = tt
  outputs_known n (Some x) e =
      let fits = all_nodes (IsWired c.wires) c.nodes n x fit e in
      picked_all (λ v. v < c.wires) true (outs_of x.spec) x.ends fits.known

  ends_known : (n : ℕ) (o : Option Node) → slice_get c.nodes n ≡ o → AllByRecursion (λ v. v < c.wires) (ends_at o)
  ends_known n None e = tt
  ends_known n (Some x) e = let fits = all_nodes (IsWired c.wires) c.nodes n x fit e in fits.known

  output_among : (n p : ℕ) → n ≢ 0 → gives c n p ≡ true → 0 < count (end_at c n p) (output_wires (slice_get c.nodes n))
  output_among zero p ne g = absurd (ne refl)
  output_among (suc m) p ne g =
      let (x, e, l) = port_within true c.nodes (suc m) p (slice_get c.nodes (suc m)) refl g in
      let fits = all_nodes (IsWired c.wires) c.nodes (suc m) x fit e in
      let sized = fits.sized in
      let is : get_or (outs_of x.spec) p false ≡ true =
      ap (λ ds. get_or ds p false) (sym (later_same m (Some x)) ∙ ap (directions_at (suc m)) (sym e)) ∙ g in
      subst (λ o. 0 < count (end_of o p) (output_wires o)) (sym e) (picked_at (outs_of x.spec) x.ends p is (omega arith))

  end_among : (p : ℕ) → gives c 0 p ≡ true → 0 < count (end_at c 0 p) (ends_at (slice_get c.nodes 0))
  end_among p g =
      let (x, e, l) = port_within true c.nodes 0 p (slice_get c.nodes 0) refl g in
      let fits = all_nodes (IsWired c.wires) c.nodes 0 x fit e in
      let sized = fits.sized in
      subst (λ o. 0 < count (end_of o p) (ends_at o)) (sym e) (count_here x.ends p (omega arith))

  module _ (n : ℕ) (w : Walk) (inside : n < length c.nodes) (h : Holds c w) (fresh : is_in n w.listed ≡ false) where
    abbrev more : List ℕ
    more = output_wires (slice_get c.nodes n)

    abbrev after : Walk
    after = record { listed = w.listed ++ n ∷ []; numbered = with_new w.numbered more; visited = w.visited }

    counted_zero : count n w.listed ≡ 0
    counted_zero = not_in_counted n w.listed fresh

    not_first : n ≢ 0
    not_first e =
        let one : 0 < count (get_or w.listed 0 0) w.listed = count_here w.listed 0 h.some in
        let same : count (get_or w.listed 0 0) w.listed ≡ count n w.listed = ap (λ m. count m w.listed) (h.first ∙ sym e) in
        omega (arith, counted_zero)

    driven_after : (m p : ℕ) → 0 < count m (w.listed ++ n ∷ []) → gives c m p ≡ true → 0 < count (end_at c m p) (with_new w.numbered more)
    driven_after m p is g = elim (cases_eq m n) [
      | inl e ↦ subst (λ k. 0 < count (end_at c k p) (with_new w.numbered more)) (sym e)
          (new_has w.numbered more (end_at c n p) (output_among n p not_first (subst (λ k. gives c k p ≡ true) e g)))
      | inr ne ↦ omega (arith, h.driven m p (omega (arith, count_not_last m n w.listed ne)) g, new_keeps w.numbered more (end_at c m p))
    ]

    fresh_holds : Holds c after
    fresh_holds = record {
      first = first_append w.listed (n ∷ []) h.some ∙ h.first;
      some = omega (arith, length-append w.listed (n ∷ []));
      there = all_append (λ m. m < length c.nodes) w.listed (n ∷ []) h.there (inside, tt);
      listed_once = last_once n w.listed counted_zero h.listed_once;
      known = new_all (λ v. v < c.wires) w.numbered more h.known (outputs_known n (slice_get c.nodes n) refl);
      once = new_once w.numbered more h.once;
      seen = omega (arith, h.seen, new_longer w.numbered more);
      driven = driven_after;
    }

  -- listing a node, whether it is listed already or not
  listed_holds : (n : ℕ) (w : Walk) → n < length c.nodes → Holds c w → Holds c (list_node c n w) × (progress w ≤ progress (list_node c n w))
  listed_holds n w inside h = elim (cases_Bool (is_in n w.listed)) [
    | inl is ↦ rw is (h, omega arith)
    | inr new ↦ rw new (fresh_holds n w inside h new, omega (arith, length-append w.listed (n ∷ [])))
  ]

  listed_more : (n : ℕ) (w : Walk) → is_in n w.listed ≡ false → suc (progress w) ≤ progress (list_node c n w)
  listed_more n w new = rw new (omega (arith, length-append w.listed (n ∷ [])))

  module _ (closed : IsClosed c) where
    pub receiver_there : (v : ℕ) → v < c.wires → end_node (takes c) c v < length c.nodes
    receiver_there v h = let l = takes_located c fit closed in (l.there (end_node (takes c) c v) _ (l.real v h)).0

    pub visits : (w : Walk) (v : ℕ) → Holds c w → slice_get w.numbered w.visited ≡ Some v → Holds c (record w { visited = suc w.visited }) × (v < c.wires)
    visits w v h e =
        let l = slice_get_within w.numbered w.visited v e in (
          record {
            first = h.first;
            some = h.some;
            there = h.there;
            listed_once = h.listed_once;
            known = h.known;
            once = h.once;
            seen = omega arith;
            driven = h.driven;
          },
          subst (λ u. u < c.wires) (get_or_from_slice_get w.numbered w.visited v 0 e) (all_at (λ u. u < c.wires) w.numbered w.visited h.known l),
        )

    pub steps : (w : Walk) → Holds c w → (a : Option ℕ) → slice_get w.numbered w.visited ≡ a → (o : Option ℕ) → next_left c w.listed ≡ o
        → (v : Walk) → step_at c w a o ≡ Some v → Holds c v × (suc (progress w) ≤ progress v)
    steps w h (Some x) e o f v is =
        let (seen, known) = visits w x h e in
        let (holds, grows) = listed_holds (end_node (takes c) c x) (record w { visited = suc w.visited }) (receiver_there x known) seen in
        subst (λ u. Holds c u × (suc (progress w) ≤ progress u)) (same_Some _ v is) (holds, omega arith)
    steps w h None e (Some n) f v is =
        let (inside, new) = left_is c w.listed n f in
        subst (λ u. Holds c u × (suc (progress w) ≤ progress u)) (same_Some (list_node c n w) v is) ((listed_holds n w inside h).0, listed_more n w new)
    steps w h None e None f v is = absurd (none-some v is)

    abbrev IsEnd : Walk → Type 0
    IsEnd w = Holds c w × (walk_step c w ≡ None)

    ends : (k : ℕ) (w : Walk) → Holds c w → c.wires + length c.nodes ≤ k + progress w → IsEnd (walked c k w)
    unfolding walked
    ends zero w h few = at (walk_step c w) refl
      where
        at : (o : Option Walk) → walk_step c w ≡ o → Holds c w × (walk_step c w ≡ None)
        at None e = (h, e)
        at (Some v) e =
            let (holds, grows) = steps w h (slice_get w.numbered w.visited) refl (next_left c w.listed) refl v e in
            absurd (omega (arith, progress_few c v holds))
    ends (suc k) w h few = at (walk_step c w) refl (λ v holds more. ends k v holds more)
      where
        at : (o : Option Walk) → walk_step c w ≡ o → ((v : Walk) → Holds c v → c.wires + length c.nodes ≤ k + progress v → IsEnd (walked c k v)) → IsEnd (goes_on w (walked c k) o)
        at None e f = (h, e)
        at (Some v) e f =
            let (holds, grows) = steps w h (slice_get w.numbered w.visited) refl (next_left c w.listed) refl v e in
            f v holds (omega arith)

    pub begun : 0 < length c.nodes → Holds c (outset c)
    begun some = record {
      first = refl;
      some = omega arith;
      there = (some, tt);
      listed_once = last_once 0 [] (count_nil 0) (λ v. omega (arith, count_nil v));
      known = new_all (λ v. v < c.wires) [] (ends_at (slice_get c.nodes 0)) tt (ends_known 0 (slice_get c.nodes 0) refl);
      once = new_once [] (ends_at (slice_get c.nodes 0)) (λ v. omega (arith, count_nil v));
      seen = omega arith;
      driven = λ n p is g. only_first n p is g;
    }
      where
        only_first : (n p : ℕ) → 0 < count n (0 ∷ []) → gives c n p ≡ true → 0 < count (end_at c n p) (with_new [] (ends_at (slice_get c.nodes 0)))
        only_first n p is g = elim (cases_eq n 0) [
          | inl e ↦ subst (λ k. 0 < count (end_at c k p) (with_new [] (ends_at (slice_get c.nodes 0)))) (sym e)
              (new_has [] (ends_at (slice_get c.nodes 0)) (end_at c 0 p) (end_among p (subst (λ k. gives c k p ≡ true) e g)))
          | inr ne ↦ absurd (omega (arith, count_other n 0 [] ne, count_nil n))
        ]

    pub ended : 0 < length c.nodes → Holds c (walk_of c) × (walk_step c (walk_of c) ≡ None)
    ended some =
        ends (c.wires + length c.nodes) (outset c) (begun some) (omega arith)

    stopped : (w : Walk) (a o : Option ℕ) → step_at c w a o ≡ None → o ≡ None
    stopped w (Some x) o e = absurd (none-some _ (sym e))
    stopped w None (Some n) e = absurd (none-some _ (sym e))
    stopped w None None e = refl

    -- at the end each node is listed
    pub all_listed : 0 < length c.nodes → (n : ℕ) → n < length c.nodes → 0 < count n (walk_of c).listed
    all_listed some n h =
        let w = walk_of c in
        in_counted n w.listed (none_left c w.listed n (stopped w (slice_get w.numbered w.visited) (next_left c w.listed) (ended some).1) h)
