-- What is passed and what is left make the whole.
use Rattle.std.specs.Prelude.{if◌then◌else◌, nat_eq, Bool, true, false}
use Rattle.std.proofs.lemmas.List.{drop_all, append-nil, take_more}
use Rattle.std.proofs.lemmas.Bool.{eqb-true}
use Rattle.std.proofs.Common.{◌≡◌, ne_eqb, ◌<◌, ◌≤◌, ℕ, zero, suc, ◌+◌, List, [], ◌∷◌, ◌++◌, length, get_or, drop, take, ap, sym, subst, ◌∙◌, refl, add-one, add-zero, drop-cons, append_assoc, arith}
use Rattle.cmd_tree.specs.declared.tree.Item.{Item}
use Rattle.cmd_tree.specs.declared.tree.Proc.{Proc}
use Rattle.cmd_tree.specs.Tree.{TSeq, Then, Done, places_of, places_in, places_among}
use Rattle.cmd_tree.specs.Join.{join}
use Rattle.cmd_tree.specs.Limits.{places_of_proc, places_of_all}
use Rattle.cmd_tree.specs.View.{item_of, seq_of, seqs_of}
use Rattle.tree_walk.specs.declared.edges.ByDirection.{ByDirection}
use Rattle.tree_walk.specs.Bursts.{Burst, firsts_in, lasts_in, lasts_after, firsts_of, lasts_of, firsts_among, lasts_among}
use Rattle.tree_walk.specs.Edges.{by_direction}
use Rattle.tree_walk.specs.Passed.{Passed, nothing, and_then, a_meeting}
use Rattle.tree_walk.specs.Mirror.Walked.{seq_passed, item_passed, seqs_passed}

pub drop_next : {A : Type 0} (xs : List A) (i : ℕ) (x : A) → i < length xs → x ≡ get_or xs i x → drop i xs ≡ x ∷ drop (i + 1) xs
drop_next {A} xs i x h is = rw add-one (drop-cons xs i x h ∙ ap (λ (y : A). y ∷ drop (suc i) xs) (sym is))

pub and_then_assoc : (a b c : Passed) → and_then (and_then a b) c ≡ and_then a (and_then b c)
and_then_assoc a b c = λ i. record {
  bursts = append_assoc a.bursts b.bursts c.bursts i;
  neighbours = append_assoc a.neighbours b.neighbours c.neighbours i;
  choices = append_assoc a.choices b.choices c.choices i;
}

-- so far this is passed, and with the rest of a sequence, after these last bursts, it makes the goal
pub record Midway (K : Passed → Type 0) (before : ByDirection) (rest : List Burst → Passed) (goal : Passed) : Type 0 where
  pub passed : Passed
  pub lasts : List Burst
  pub knows : K passed
  pub after : before ≡ by_direction lasts
  pub whole : and_then passed (rest lasts) ≡ goal

-- the last bursts so far, and with the rest of the sequence those of the whole
pub record Ending (lasts : ByDirection) (rest : List Burst → List Burst) (goal : List Burst) : Type 0 where
  pub bursts : List Burst
  pub are : lasts ≡ by_direction bursts
  pub whole : rest bursts ≡ goal

-- a sequence that goes on
pub joined : (before : List Burst) (k : ℕ) (s t : TSeq)
    → seq_passed before k (join s t) ≡ and_then (seq_passed before k s) (seq_passed (lasts_after before k s) (k + places_of s) t)
joined before k Done t = rw add-zero refl
joined before k (Then i s) t =
    let item = item_passed k i in
    let meets = a_meeting (record { lasts = before; firsts = firsts_in k i }) in
    let piece = seq_passed (lasts_in k i) (k + places_in i) s in
    let after = lasts_after (lasts_in k i) (k + places_in i) s in
    let more : k + places_in i + places_of s ≡ k + (places_in i + places_of s) = omega arith in
    let rest = seq_passed after (k + (places_in i + places_of s)) t in
    ap (λ (w : Passed). and_then item (and_then meets w)) (joined (lasts_in k i) (k + places_in i) s t)
    ∙ ap (λ (n : ℕ). and_then item (and_then meets (and_then piece (seq_passed after n t)))) more
    ∙ ap (λ (w : Passed). and_then item w) (sym (and_then_assoc meets piece rest))
    ∙ sym (and_then_assoc item (and_then meets piece) rest)

pub places_one : (ps : List Proc) (i : ℕ) (p : Proc) → i < length ps → p ≡ get_or ps i p → places_of_proc p ≤ places_of_all ps
places_one [] i p h is = absurd (omega arith)
places_one (q ∷ ps) zero p h is = rw is (omega arith)
places_one (q ∷ ps) (suc i) p h is = omega (arith, places_one ps i p (omega arith) is)

pub places_items : (xs : List Item) (i : ℕ) (x : Item) → i < length xs → x ≡ get_or xs i x
    → places_of (seq_of (drop i xs)) ≡ places_in (item_of x) + places_of (seq_of (drop (i + 1) xs))
places_items xs i x h is = ap (λ (ys : List Item). places_of (seq_of ys)) (drop_next xs i x h is)

pub places_seqs : (xs : List TSeq) (i : ℕ) (x : TSeq) → i < length xs → x ≡ get_or xs i x
    → places_among (seqs_of (drop i xs)) ≡ places_of x + places_among (seqs_of (drop (i + 1) xs))
places_seqs xs i x h is = ap (λ (ys : List TSeq). places_among (seqs_of ys)) (drop_next xs i x h is)

pub midway_next : (K L : Passed → Type 0) (now next : ByDirection) (k : ℕ) (xs : List Item) (i : ℕ) (x : Item) (goal : Passed)
    → i < length xs → x ≡ get_or xs i x
    → ((w : Passed) (bs : List Burst) → now ≡ by_direction bs → K w
    → L (and_then (and_then w (item_passed k (item_of x))) (a_meeting (record { lasts = bs; firsts = firsts_in k (item_of x) }))))
    → next ≡ by_direction (lasts_in k (item_of x))
    → Midway K now (λ bs. seq_passed bs k (seq_of (drop i xs))) goal
    → Midway L next (λ bs. seq_passed bs (k + places_in (item_of x)) (seq_of (drop (i + 1) xs))) goal
midway_next K L now next k xs i x goal h is goes ends m =
    let item = item_passed k (item_of x) in
    let meets = a_meeting (record { lasts = m.lasts; firsts = firsts_in k (item_of x) }) in
    let rest = seq_passed (lasts_in k (item_of x)) (k + places_in (item_of x)) (seq_of (drop (i + 1) xs)) in
    record {
      passed = and_then (and_then m.passed item) meets;
      lasts = lasts_in k (item_of x);
      knows = goes m.passed m.lasts m.after m.knows;
      after = ends;
      whole = and_then_assoc (and_then m.passed item) meets rest
          ∙ and_then_assoc m.passed item (and_then meets rest)
          ∙ sym (ap (λ (ys : List Item). and_then m.passed (seq_passed m.lasts k (seq_of ys))) (drop_next xs i x h is))
          ∙ m.whole;
    }

pub ending_next : (now next : ByDirection) (k : ℕ) (xs : List Item) (i : ℕ) (x : Item) (goal : List Burst)
    → i < length xs → x ≡ get_or xs i x → next ≡ by_direction (lasts_in k (item_of x))
    → Ending now (λ bs. lasts_after bs k (seq_of (drop i xs))) goal
    → Ending next (λ bs. lasts_after bs (k + places_in (item_of x)) (seq_of (drop (i + 1) xs))) goal
ending_next now next k xs i x goal h is ends e = record {
  bursts = lasts_in k (item_of x);
  are = ends;
  whole = sym (ap (λ (ys : List Item). lasts_after e.bursts k (seq_of ys)) (drop_next xs i x h is)) ∙ e.whole;
}

-- so far this is passed, and with the rest of the alternatives it makes the goal
pub record Among (K : Passed → Type 0) (rest goal : Passed) : Type 0 where
  pub passed : Passed
  pub knows : K passed
  pub whole : and_then passed rest ≡ goal

pub among_next : (K L : Passed → Type 0) (k : ℕ) (xs : List TSeq) (i : ℕ) (x : TSeq) (goal : Passed)
    → i < length xs → x ≡ get_or xs i x
    → ((w : Passed) → K w → L (and_then w (seq_passed [] k x)))
    → Among K (seqs_passed k (seqs_of (drop i xs))) goal
    → Among L (seqs_passed (k + places_of x) (seqs_of (drop (i + 1) xs))) goal
among_next K L k xs i x goal h is goes m = record {
  passed = and_then m.passed (seq_passed [] k x);
  knows = goes m.passed m.knows;
  whole = and_then_assoc m.passed (seq_passed [] k x) (seqs_passed (k + places_of x) (seqs_of (drop (i + 1) xs)))
      ∙ sym (ap (λ (ys : List TSeq). and_then m.passed (seqs_passed k (seqs_of ys))) (drop_next xs i x h is))
      ∙ m.whole;
}

-- some bursts so far, and with the rest of the alternatives those of the whole
pub record Found (found : ByDirection) (rest goal : List Burst) : Type 0 where
  pub bursts : List Burst
  pub are : found ≡ by_direction bursts
  pub whole : bursts ++ rest ≡ goal

pub found_next : (now more next : ByDirection) (piece later rest goal : List Burst)
    → ((bs cs : List Burst) → now ≡ by_direction bs → more ≡ by_direction cs → next ≡ by_direction (bs ++ cs))
    → more ≡ by_direction piece → later ≡ piece ++ rest → Found now later goal → Found next rest goal
found_next now more next piece later rest goal joins is splits f = record {
  bursts = f.bursts ++ piece;
  are = joins f.bursts piece f.are is;
  whole = append_assoc f.bursts piece rest ∙ ap (λ (bs : List Burst). f.bursts ++ bs) (sym splits) ∙ f.whole;
}

pub lasts_seqs : (k : ℕ) (xs : List TSeq) (i : ℕ) (x : TSeq) → i < length xs → x ≡ get_or xs i x
    → lasts_among k (seqs_of (drop i xs)) ≡ lasts_of k x ++ lasts_among (k + places_of x) (seqs_of (drop (i + 1) xs))
lasts_seqs k xs i x h is = ap (λ (ys : List TSeq). lasts_among k (seqs_of ys)) (drop_next xs i x h is)

pub firsts_seqs : (k : ℕ) (xs : List TSeq) (i : ℕ) (x : TSeq) → i < length xs → x ≡ get_or xs i x
    → firsts_among k (seqs_of (drop i xs)) ≡ firsts_of k x ++ firsts_among (k + places_of x) (seqs_of (drop (i + 1) xs))
firsts_seqs k xs i x h is = ap (λ (ys : List TSeq). firsts_among k (seqs_of ys)) (drop_next xs i x h is)

pub firsts_next : (index : ℕ) (old new item later goal : ByDirection) → new ≡ (if nat_eq index 0 then item else old)
    → (if nat_eq index 0 then item else old) ≡ goal → (if nat_eq (index + 1) 0 then later else new) ≡ goal
firsts_next index old new item later goal is e = rw (ne_eqb (index + 1) 0 (omega arith)) (is ∙ e)

pub firsts_items : (index : ℕ) (old item goal : ByDirection) (k : ℕ) (xs : List Item) (x : Item) → index < length xs → x ≡ get_or xs index x
    → item ≡ by_direction (firsts_in k (item_of x)) → (if nat_eq index 0 then by_direction (firsts_of k (seq_of (drop index xs))) else old) ≡ goal
    → (if nat_eq index 0 then item else old) ≡ goal
firsts_items index old item goal k xs x h is here e =
    let first : by_direction (firsts_of k (seq_of (drop index xs))) ≡ item
    = ap (λ (ys : List Item). by_direction (firsts_of k (seq_of ys))) (drop_next xs index x h is) ∙ sym here in
    rw first at e

pub firsts_end : (index : ℕ) (k : ℕ) (xs : List Item) (old goal : ByDirection) → length xs ≤ index
    → (index ≡ 0 → old ≡ by_direction [])
    → (if nat_eq index 0 then by_direction (firsts_of k (seq_of (drop index xs))) else old) ≡ goal → old ≡ goal
firsts_end index k xs old goal h begun e = by (nat_eq index 0) refl e where
  by : (b : Bool) → nat_eq index 0 ≡ b → (if b then by_direction (firsts_of k (seq_of (drop index xs))) else old) ≡ goal → old ≡ goal
  by true t e = begun (eqb-true index 0 t) ∙ sym (ap (λ (ys : List Item). by_direction (firsts_of k (seq_of ys))) (drop_all index xs h)) ∙ e
  by false f e = e

pub lasts_end : (now : ByDirection) (k : ℕ) (xs : List Item) (index : ℕ) (goal : List Burst) → length xs ≤ index
    → Ending now (λ bs. lasts_after bs k (seq_of (drop index xs))) goal → now ≡ by_direction goal
lasts_end now k xs index goal h e =
    e.are ∙ ap by_direction (sym (ap (λ (ys : List Item). lasts_after e.bursts k (seq_of ys)) (drop_all index xs h)) ∙ e.whole)

and_then_nothing : (w : Passed) → and_then w nothing ≡ w
and_then_nothing w = λ i. record {
  bursts = append-nil w.bursts i;
  neighbours = append-nil w.neighbours i;
  choices = append-nil w.choices i;
}

pub seq_ends : (K : Passed → Type 0) (now : ByDirection) (k : ℕ) (xs : List Item) (index : ℕ) (goal : Passed) → length xs ≤ index
    → Midway K now (λ bs. seq_passed bs k (seq_of (drop index xs))) goal → K goal
seq_ends K now k xs index goal h m =
    let whole : m.passed ≡ goal = sym (and_then_nothing m.passed)
    ∙ sym (ap (λ (ys : List Item). and_then m.passed (seq_passed m.lasts k (seq_of ys))) (drop_all index xs h)) ∙ m.whole in
    subst K whole m.knows

pub one_more : (ps : List Proc) (i : ℕ) (p : Proc) → i < length ps → p ≡ get_or ps i p → take i ps ++ p ∷ [] ≡ take (i + 1) ps
one_more ps i p h is = ap (λ (q : Proc). take i ps ++ q ∷ []) is ∙ sym (take_more ps i p h)
