-- The symbols of bursts as sets.
use Rattle.std.proofs.Common.{◌≡◌, ◌≢◌, ◌⊎◌, inl, inr, ℕ, suc, ◌+◌, ◌<◌, ◌≤◌, Bool, true, false, true≢false, List, [], ◌∷◌, ◌++◌, length, refl, sym, ap, ◌∙◌, subst, arith, eq-eqb, length-append}
use Rattle.std.proofs.lemmas.Bool.{eqb-true}
use Rattle.std.specs.Prelude.{IsTrue, nat_eq, ◌||◌}
use Rattle.cmd_tree.specs.declared.tree.Mark.{Mark}
use Rattle.cmd_tree.specs.Lists.{is_in}
use Rattle.cmd_tree.specs.Meaning.{symbols}
use Rattle.di_grammar.proofs.Lists.{within_first, within_more, within_cons, within_without, each_within, each_all}
use Rattle.tree_walk.specs.Bursts.{Burst}
use Rattle.di_grammar.specs.Lists.{Each, EachTwo, Within}
use Rattle.di_grammar.specs.Bursts.{SameSet, Overlap}
use Rattle.di_grammar.specs.Overlaps.{EqualOrDisjoint}

-- a is a symbol of these marks
abbrev pub Holds : List Mark → ℕ → Type 0
Holds ms a = IsTrue (is_in a (symbols ms))

or_right : (b c : Bool) → c ≡ true → (b || c) ≡ true
or_right true c h = refl
or_right false c h = h

holds_at : (before after : List Mark) (m : Mark) → Holds (before ++ m ∷ after) m.sym.0
holds_at [] after m = ap (λ (b : Bool). b || is_in m.sym.0 (symbols after)) (eq-eqb m.sym.0 m.sym.0 refl)
holds_at (x ∷ before) after m = or_right (nat_eq m.sym.0 x.sym.0) (is_in m.sym.0 (symbols (before ++ m ∷ after))) (holds_at before after m)

pub holds_mark : (ms : List Mark) (m : Mark) → Within ms m → Holds ms m.sym.0
holds_mark ms m w = subst (λ (xs : List Mark). Holds xs m.sym.0) (sym w.are) (holds_at w.before w.after m)

-- a mark with the symbol a
pub record MarkOf (ms : List Mark) (a : ℕ) : Type 0 where
  pub mark : Mark
  pub within : Within ms mark
  pub same : mark.sym.0 ≡ a

pub mark_of : (ms : List Mark) (a : ℕ) → Holds ms a → MarkOf ms a
mark_of [] a h = absurd (true≢false (sym h))
mark_of (m ∷ ms) a h = by (λ k. mark_of ms a k) (nat_eq a m.sym.0) refl h where
  by : (Holds ms a → MarkOf ms a) → (b : Bool) → nat_eq a m.sym.0 ≡ b → (b || is_in a (symbols ms)) ≡ true → MarkOf (m ∷ ms) a
  by rest true t k = record { mark = m; within = within_first m ms; same = sym (eqb-true a m.sym.0 t) }
  by rest false f k = let r = rest k in record { mark = r.mark; within = within_more m r.mark ms r.within; same = r.same }

pub holds_or : (ms : List Mark) (a : ℕ) → Holds ms a ⊎ (Holds ms a → ⊥)
holds_or ms a = by (is_in a (symbols ms)) refl where
  by : (b : Bool) → is_in a (symbols ms) ≡ b → Holds ms a ⊎ (Holds ms a → ⊥)
  by true t = inl t
  by false f = inr (λ t. true≢false (sym t ∙ f))

pub some_marks : (ms : List Mark) (a : ℕ) → Holds ms a → 0 < length ms
some_marks [] a h = absurd (true≢false (sym h))
some_marks (m ∷ ms) a h = omega arith

abbrev pub Differing : List Mark → Type 0
Differing ms = EachTwo (λ m n. m.sym.0 ≢ n.sym.0) ms

-- symbols that differ, and are all in the others, are no more than those
pub fits_in : (xs ys : List Mark) → Differing xs → ((m : Mark) → Within xs m → Holds ys m.sym.0) → length xs ≤ length ys
fits_in [] ys d sub = omega arith
fits_in (x ∷ xs) ys d sub =
    let y = mark_of ys x.sym.0 (sub x (within_first x xs)) in
    let rest = y.within.before ++ y.within.after in
    let all : length ys ≡ length y.within.before + suc (length y.within.after)
    = ap length y.within.are ∙ length-append y.within.before (y.mark ∷ y.within.after) in
    let few : length rest ≡ length y.within.before + length y.within.after = length-append y.within.before y.within.after in
    omega (arith, fits_in xs rest d.1 (λ m w. kept y m (each_within _ xs m d.0 w) (sub m (within_more x m xs w)))) where
      kept : (y : MarkOf ys x.sym.0) (m : Mark) → x.sym.0 ≢ m.sym.0 → Holds ys m.sym.0 → Holds (y.within.before ++ y.within.after) m.sym.0
      kept y m other h =
          let z = mark_of ys m.sym.0 h in
          let there : Within (y.within.before ++ y.mark ∷ y.within.after) z.mark = subst (λ (ms : List Mark). Within ms z.mark) y.within.are z.within in
          elim (within_without y.within.before y.mark y.within.after z.mark there) [
            | inl e ↦ absurd (other (sym y.same ∙ sym (ap (λ (n : Mark). n.sym.0) e) ∙ z.same))
            | inr w ↦ subst (Holds (y.within.before ++ y.within.after)) z.same (holds_mark _ z.mark w)
          ]

-- symbols that differ, are all in the others and no fewer, are all of those
pub covers : (xs ys : List Mark) → Differing xs → ((m : Mark) → Within xs m → Holds ys m.sym.0) → length ys ≤ length xs → (a : ℕ) → Holds ys a → Holds xs a
covers xs ys d sub few a h = elim (holds_or xs a) [ inl k ↦ k | inr none ↦ absurd (more none) ] where
  more : (Holds xs a → ⊥) → ⊥
  more none =
      let y = mark_of ys a h in
      let differs : Each (λ m. y.mark.sym.0 ≢ m.sym.0) xs = each_all _ xs (λ m w e. none (subst (Holds xs) (sym e ∙ y.same) (holds_mark xs m w))) in
      omega (arith, fits_in (y.mark ∷ xs) ys (differs, d) (λ m w. one m (within_cons y.mark xs m w)))
    where
      one : (m : Mark) → (m ≡ (mark_of ys a h).mark) ⊎ Within xs m → Holds ys m.sym.0
      one m (inl e) = subst (λ (n : Mark). Holds ys n.sym.0) (sym e) (holds_mark ys (mark_of ys a h).mark (mark_of ys a h).within)
      one m (inr w) = sub m w

pub same_size : (b c : Burst) → Differing b.marks → Differing c.marks → SameSet b c → length b.marks ≡ length c.marks
same_size b c d e same =
    let one = fits_in b.marks c.marks d (λ m w. (same m.sym.0).0 (holds_mark b.marks m w)) in
    let other = fits_in c.marks b.marks e (λ m w. (same m.sym.0).1 (holds_mark c.marks m w)) in
    omega arith

pub same_back : (b c : Burst) → SameSet b c → SameSet c b
same_back b c same = λ a. ((same a).1, (same a).0)

pub same_on : (b c d : Burst) → SameSet b c → SameSet c d → SameSet b d
same_on b c d p q = λ a. (λ h. (q a).0 ((p a).0 h), λ h. (p a).1 ((q a).1 h))

pub apart_back : (b c : Burst) → EqualOrDisjoint b c → EqualOrDisjoint c b
apart_back b c e = elim e [ inl s ↦ inl (same_back b c s) | inr d ↦ inr (λ a h k. d a k h) ]

pub apart_on : (b c d : Burst) → EqualOrDisjoint b c → SameSet c d → EqualOrDisjoint b d
apart_on b c d e q = elim e [ inl s ↦ inl (same_on b c d s q) | inr x ↦ inr (λ a h k. x a h ((q a).1 k)) ]

pub apart_no_overlap : (b c : Burst) → EqualOrDisjoint b c → Overlap b c → ⊥
apart_no_overlap b c e o = elim e [ inl s ↦ o.differ s | inr d ↦ d o.symbol o.first o.second ]

-- each symbol of some marks is in others, or one is not
pub all_in_or : (xs ys : List Mark) → ((a : ℕ) → Holds xs a → Holds ys a) ⊎ ((m : Mark) × Within xs m × (Holds ys m.sym.0 → ⊥))
all_in_or [] ys = inl (λ a h. absurd (true≢false (sym h)))
all_in_or (x ∷ xs) ys = by (holds_or ys x.sym.0) (all_in_or xs ys) where
  by : Holds ys x.sym.0 ⊎ (Holds ys x.sym.0 → ⊥) → ((a : ℕ) → Holds xs a → Holds ys a) ⊎ ((m : Mark) × Within xs m × (Holds ys m.sym.0 → ⊥))
      → ((a : ℕ) → Holds (x ∷ xs) a → Holds ys a) ⊎ ((m : Mark) × Within (x ∷ xs) m × (Holds ys m.sym.0 → ⊥))
  by (inr n) r = inr (x, within_first x xs, n)
  by (inl h) (inr r) = inr (r.0, within_more x r.0 xs r.1, r.2)
  by (inl h) (inl r) = inl (λ a k. one a (mark_of (x ∷ xs) a k)) where
    one : (a : ℕ) → MarkOf (x ∷ xs) a → Holds ys a
    one a m = elim (within_cons x xs m.mark m.within) [
      | inl e ↦ subst (Holds ys) (ap (λ (n : Mark). n.sym.0) (sym e) ∙ m.same) h
      | inr w ↦ r a (subst (Holds xs) m.same (holds_mark xs m.mark w))
    ]

-- no symbol of some marks is in others, or one is
pub one_in_or : (xs ys : List Mark) → ((a : ℕ) → Holds xs a → Holds ys a → ⊥) ⊎ ((a : ℕ) × Holds xs a × Holds ys a)
one_in_or [] ys = inl (λ a h k. true≢false (sym h))
one_in_or (x ∷ xs) ys = by (holds_or ys x.sym.0) (one_in_or xs ys) where
  by : Holds ys x.sym.0 ⊎ (Holds ys x.sym.0 → ⊥) → ((a : ℕ) → Holds xs a → Holds ys a → ⊥) ⊎ ((a : ℕ) × Holds xs a × Holds ys a)
      → ((a : ℕ) → Holds (x ∷ xs) a → Holds ys a → ⊥) ⊎ ((a : ℕ) × Holds (x ∷ xs) a × Holds ys a)
  by (inl h) r = inr (x.sym.0, holds_mark (x ∷ xs) x (within_first x xs), h)
  by (inr n) (inr r) = inr (r.0, or_right (nat_eq r.0 x.sym.0) (is_in r.0 (symbols xs)) r.1, r.2)
  by (inr n) (inl r) = inl (λ a h k. one a (mark_of (x ∷ xs) a h) k) where
    one : (a : ℕ) → MarkOf (x ∷ xs) a → Holds ys a → ⊥
    one a m k = elim (within_cons x xs m.mark m.within) [
      | inl e ↦ n (subst (Holds ys) (sym m.same ∙ ap (λ (y : Mark). y.sym.0) e) k)
      | inr w ↦ r a (subst (Holds xs) m.same (holds_mark xs m.mark w)) k
    ]
