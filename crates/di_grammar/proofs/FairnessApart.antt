-- The alternatives of each choice begin with bursts that share no symbol, where first bursts of two
-- alternatives differ as sets, and input bursts are equal or disjoint.
use Rattle.std.proofs.Common.{◌≡◌, ⊎_elim, ℕ, ◌+◌, List, [], ◌∷◌, ◌++◌, refl, sym, ap, ◌∙◌, subst}
use Rattle.cmd_tree.specs.declared.tree.Dir.{Dir}
use Rattle.cmd_tree.specs.declared.tree.Dir.TheVariants.{Input, Output}
use Rattle.cmd_tree.specs.declared.tree.Mark.{Mark}
use Rattle.cmd_tree.specs.Tree.{TItem, TSeq, TSeqs, TBurst, TAlt, Stop, Or, Done, Then, places_of, places_in}
use Rattle.cmd_tree.specs.Residual.{FirstOf, FirstIn, FirstAmong}
use Rattle.process_laws.specs.Shape.{Apart, IsApart, IsApartIn, AreApart}
use Rattle.tree_walk.specs.Bursts.{Burst, dir_of, bursts_of, bursts_in, bursts_among, firsts_of, firsts_in, firsts_among, lasts_of}
use Rattle.tree_walk.specs.Meetings.{Alternative, alternatives, choices_of, choices_in, choices_among}
use Rattle.di_grammar.specs.Lists.{Each, EachTwo}
use Rattle.di_grammar.specs.Bursts.{SameSet, if_input, inputs}
use Rattle.di_grammar.specs.Choices.{IsChoice}
use Rattle.di_grammar.specs.Twins.{Differ}
use Rattle.di_grammar.specs.Overlaps.{EqualOrDisjoint}
use Rattle.di_grammar.proofs.FairnessLists.{each_left, each_right, each_both, two_left, two_right, two_across}
use Rattle.di_grammar.proofs.FairnessShape.{firsts_same}

-- ---- a burst with which a tree can begin is one of its first bursts, and these are among its bursts

mutual
  first_of : (P : Burst → Type 0) (k : ℕ) (s : TSeq) (ms : List Mark) (q : TSeq)
      → Each P (firsts_of k s) → FirstOf s ms q → (x : ℕ) × P (record { place = x; marks = ms })
  first_of P k Done ms q h f = absurd f
  first_of P k (Then i s) ms q h f = first_in P k i ms f.0 h f.1

  first_in : (P : Burst → Type 0) (k : ℕ) (i : TItem) (ms : List Mark) (q : TSeq)
      → Each P (firsts_in k i) → FirstIn i ms q → (x : ℕ) × P (record { place = x; marks = ms })
  first_in P k (TBurst bs) ms q h f =
      (k, subst (λ (ns : List Mark). P (record { place = k; marks = ns })) (sym f.0) h.0)
  first_in P k (TAlt ss) ms q h f = first_among P k ss ms q h f

  first_among : (P : Burst → Type 0) (k : ℕ) (ss : TSeqs) (ms : List Mark) (q : TSeq)
      → Each P (firsts_among k ss) → FirstAmong ss ms q → (x : ℕ) × P (record { place = x; marks = ms })
  first_among P k Stop ms q h f = absurd f
  first_among P k (Or s ss) ms q h f =
      let l = k + places_of s in
      let one = each_left P (firsts_of k s) (firsts_among l ss) h in
      let others = each_right P (firsts_of k s) (firsts_among l ss) h in
      ⊎_elim (first_of P k s ms q one) (first_among P l ss ms q others) f

mutual
  bursts_first : (P : Burst → Type 0) (k : ℕ) (s : TSeq) → Each P (bursts_of k s) → Each P (firsts_of k s)
  bursts_first P k Done h = tt
  bursts_first P k (Then i s) h =
      bursts_first_in P k i (each_left P (bursts_in k i) (bursts_of (k + places_in i) s) h)

  bursts_first_in : (P : Burst → Type 0) (k : ℕ) (i : TItem) → Each P (bursts_in k i)
      → Each P (firsts_in k i)
  bursts_first_in P k (TBurst ms) h = h
  bursts_first_in P k (TAlt ss) h = bursts_first_among P k ss h

  bursts_first_among : (P : Burst → Type 0) (k : ℕ) (ss : TSeqs) → Each P (bursts_among k ss)
      → Each P (firsts_among k ss)
  bursts_first_among P k Stop h = tt
  bursts_first_among P k (Or s ss) h =
      let l = k + places_of s in
      let one = bursts_first P k s (each_left P (bursts_of k s) (bursts_among l ss) h) in
      let others = bursts_first_among P l ss (each_right P (bursts_of k s) (bursts_among l ss) h) in
      each_both P (firsts_of k s) (firsts_among l ss) one others

-- ---- input bursts

abbrev Asks : Burst → Type 0
Asks b = dir_of b.marks ≡ Input

-- what holds of the input bursts
of_inputs : (P : Burst → Type 0) (bs : List Burst) → Each P (inputs bs) → Each (λ b. Asks b → P b) bs
of_inputs P [] h = tt
of_inputs P (b ∷ bs) h = (here (dir_of b.marks) h, of_inputs P bs (later (dir_of b.marks) h))
  where
    here : (d : Dir) → Each P (if_input d b (inputs bs)) → d ≡ Input → P b
    here Input k e = k.0
    here Output k e = absurd (cc)

    later : (d : Dir) → Each P (if_input d b (inputs bs)) → Each P (inputs bs)
    later Input k = k.1
    later Output k = k

more_inputs : (d : Dir) (b : Burst) (xs ys : List Burst) → if_input d b (xs ++ ys) ≡ if_input d b xs ++ ys
more_inputs Input b xs ys = refl
more_inputs Output b xs ys = refl

inputs_append : (xs ys : List Burst) → inputs (xs ++ ys) ≡ inputs xs ++ inputs ys
inputs_append [] ys = refl
inputs_append (b ∷ xs) ys =
    ap (if_input (dir_of b.marks) b) (inputs_append xs ys)
    ∙ more_inputs (dir_of b.marks) b (inputs xs) (inputs ys)

-- each two input bursts of a tree are equal or disjoint
abbrev pub Tidy : List Burst → Type 0
Tidy bs = EachTwo EqualOrDisjoint (inputs bs)

tidy_parts : (xs ys : List Burst) → Tidy (xs ++ ys) → EachTwo EqualOrDisjoint (inputs xs ++ inputs ys)
tidy_parts xs ys h = subst (EachTwo EqualOrDisjoint) (inputs_append xs ys) h

pub tidy_left : (xs ys : List Burst) → Tidy (xs ++ ys) → Tidy xs
tidy_left xs ys h = two_left EqualOrDisjoint (inputs xs) (inputs ys) (tidy_parts xs ys h)

pub tidy_right : (xs ys : List Burst) → Tidy (xs ++ ys) → Tidy ys
tidy_right xs ys h = two_right EqualOrDisjoint (inputs xs) (inputs ys) (tidy_parts xs ys h)

-- an input burst of the one, and one of the other
abbrev Across : List Burst → List Burst → Type 0
Across xs ys = Each (λ x. Each (EqualOrDisjoint x) (inputs ys)) (inputs xs)

tidy_across : (xs ys : List Burst) → Tidy (xs ++ ys) → Across xs ys
tidy_across xs ys h = two_across EqualOrDisjoint (inputs xs) (inputs ys) (tidy_parts xs ys h)

-- ---- two alternatives

abbrev burst_of : List Mark → Burst
burst_of ms = record { place = 0; marks = ms }

abbrev alternative_of : ℕ → TSeq → Alternative
alternative_of k s = record { firsts = firsts_of k s; lasts = lasts_of k s }

-- two alternatives that differ begin with no equal bursts
differ_of : (k l : ℕ) (s t : TSeq) (ms ns : List Mark) (q r : TSeq)
    → Differ (alternative_of k s) (alternative_of l t) → FirstOf s ms q → FirstOf t ns r
    → SameSet (burst_of ms) (burst_of ns) → ⊥
differ_of k l s t ms ns q r h f g =
    let one = first_of (λ x. Each (λ y. SameSet x y → ⊥) (firsts_of l t)) k s ms q h f in
    (first_of (λ y. SameSet (burst_of ms) y → ⊥) l t ns r one.1 g).1

differ_among : (k l : ℕ) (s : TSeq) (ss : TSeqs) (ms ns : List Mark) (q r : TSeq)
    → Each (Differ (alternative_of k s)) (alternatives l ss) → FirstOf s ms q → FirstAmong ss ns r
    → SameSet (burst_of ms) (burst_of ns) → ⊥
differ_among k l s Stop ms ns q r h f g = absurd g
differ_among k l s (Or t ss) ms ns q r h f g = ⊎_elim
    (λ e. differ_of k l s t ms ns q r h.0 f e)
    (λ e. differ_among k (l + places_of t) s ss ms ns q r h.1 f e)
    g

apart_by : (k l : ℕ) (s : TSeq) (ss : TSeqs)
    → Each (Differ (alternative_of k s)) (alternatives l ss) → Each Asks (firsts_of k s)
    → Each Asks (firsts_among l ss) → Across (bursts_of k s) (bursts_among l ss) → Apart s ss
apart_by k l s ss differ asks_one asks_other across ms ns q r f g a m n =
    let asks_ms : dir_of ms ≡ Input = (first_of Asks k s ms q asks_one f).1 in
    let asks_ns : dir_of ns ≡ Input = (first_among Asks l ss ns r asks_other g).1 in
    let bs = bursts_among l ss in
    let With = λ (x : Burst). Each (EqualOrDisjoint x) (inputs bs) in
    let firsts = bursts_first (λ x. Asks x → With x) k s (of_inputs With (bursts_of k s) across) in
    let one = (first_of (λ x. Asks x → With x) k s ms q firsts f).1 asks_ms in
    let Meets = λ (y : Burst). EqualOrDisjoint (burst_of ms) y in
    let others = bursts_first_among (λ y. Asks y → Meets y) l ss (of_inputs Meets bs one) in
    let both = (first_among (λ y. Asks y → Meets y) l ss ns r others g).1 asks_ns in
    ⊎_elim (λ same. differ_among k l s ss ms ns q r differ f g same) (λ disjoint. disjoint a m n) both

-- ---- trees

mutual
  pub apart_of : (k : ℕ) (s : TSeq) → Each IsChoice (choices_of k s)
      → Each (EachTwo Differ) (choices_of k s) → Tidy (bursts_of k s) → IsApart s
  apart_of k Done h d t = tt
  apart_of k (Then i s) h d t = (
    apart_in k i (each_left IsChoice (choices_in k i) (choices_of (k + places_in i) s) h)
        (each_left (EachTwo Differ) (choices_in k i) (choices_of (k + places_in i) s) d)
        (tidy_left (bursts_in k i) (bursts_of (k + places_in i) s) t),
    apart_of (k + places_in i) s (each_right IsChoice (choices_in k i) (choices_of (k + places_in i) s) h)
        (each_right (EachTwo Differ) (choices_in k i) (choices_of (k + places_in i) s) d)
        (tidy_right (bursts_in k i) (bursts_of (k + places_in i) s) t),
  )

  apart_in : (k : ℕ) (i : TItem) → Each IsChoice (choices_in k i) → Each (EachTwo Differ) (choices_in k i)
      → Tidy (bursts_in k i) → IsApartIn i
  apart_in k (TBurst ms) h d t = tt
  apart_in k (TAlt ss) h d t =
      let this = alternatives k ss ∷ [] in
      let within = each_left IsChoice (choices_among k ss) this h in
      let choices = each_right IsChoice (choices_among k ss) this h in
      let choice : IsChoice (alternatives k ss) = choices.0 in
      let differ_within = each_left (EachTwo Differ) (choices_among k ss) this d in
      let differ = each_right (EachTwo Differ) (choices_among k ss) this d in
      apart_among k ss within differ_within differ.0 (subst (Each Asks) (firsts_same k ss) choice.asks) t

  apart_among : (k : ℕ) (ss : TSeqs) → Each IsChoice (choices_among k ss)
      → Each (EachTwo Differ) (choices_among k ss) → EachTwo Differ (alternatives k ss)
      → Each Asks (firsts_among k ss) → Tidy (bursts_among k ss) → AreApart ss
  apart_among k Stop h d two asks t = tt
  apart_among k (Or s ss) h d two asks t = (
    apart_of k s (each_left IsChoice (choices_of k s) (choices_among (k + places_of s) ss) h)
        (each_left (EachTwo Differ) (choices_of k s) (choices_among (k + places_of s) ss) d)
        (tidy_left (bursts_of k s) (bursts_among (k + places_of s) ss) t),
    apart_among (k + places_of s) ss
        (each_right IsChoice (choices_of k s) (choices_among (k + places_of s) ss) h)
        (each_right (EachTwo Differ) (choices_of k s) (choices_among (k + places_of s) ss) d)
        two.1
        (each_right Asks (firsts_of k s) (firsts_among (k + places_of s) ss) asks)
        (tidy_right (bursts_of k s) (bursts_among (k + places_of s) ss) t),
    apart_by k (k + places_of s) s ss two.0
        (each_left Asks (firsts_of k s) (firsts_among (k + places_of s) ss) asks)
        (each_right Asks (firsts_of k s) (firsts_among (k + places_of s) ss) asks)
        (tidy_across (bursts_of k s) (bursts_among (k + places_of s) ss) t),
  )
