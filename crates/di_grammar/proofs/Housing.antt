-- Of some marks the first of a symbol in another process, and where the marks of grants and of other processes stand.
use Rattle.std.proofs.Common.{◌≡◌, ◌⊎◌, inl, inr, ℕ, ◌<◌, ◌≤◌, Bool, true, false, true≢false, List, [], ◌∷◌, ◌++◌, length, get_or, set, Option, Some, None, refl, sym, ap, ◌∙◌, subst, arith, eq-eqb, eqb-true, ne_eqb}
use Rattle.std.proofs.lemmas.Bool.{cases_eq, and_parts, and_from}
use Rattle.std.proofs.lemmas.List.{get_or-set_same, get_or-set_other, length-set}
use Rattle.std.specs.Prelude.{if◌then◌else◌, nat_eq, ◌&&◌, not, is_some}
use Rattle.cmd_tree.specs.declared.limits.TheConstants.{MAX_SYMBOLS}
use Rattle.di_grammar.proofs.Lists.{within_first, within_more, within_cons, none_within, each_within}
use Rattle.di_grammar.specs.declared.spots.Spot.{Spot}
use Rattle.di_grammar.specs.Lists.{Each, EachTwo, Within}
use Rattle.di_grammar.specs.Spots.{first_mark}
use Rattle.di_grammar.specs.Mirror.Seen.{InTable}
use Rattle.di_grammar.specs.Mirror.Homes.{first_such, is_elsewhere, other_mark, second_after, second_mark, SecondMarks, stands_in, GrantsSeen, KnowsHomes, HomesSeen}
use Rattle.di_grammar.proofs.Seeing.{first_here, first_there, first_old, first_new, first_same, kept_marks, entered_mark, small_now}

-- a mark after others
pub such_old : (f : Spot → Bool) (ss ts : List Spot) (s : Spot) → first_such f ss ≡ Some s
    → first_such f (ss ++ ts) ≡ Some s
such_old f [] ts s e = absurd (cc)
such_old f (t ∷ ss) ts s e = by (f t) (such_old f ss ts s) e where
  by : (b : Bool) → (first_such f ss ≡ Some s → first_such f (ss ++ ts) ≡ Some s)
      → (if b then Some t else first_such f ss) ≡ Some s
      → (if b then Some t else first_such f (ss ++ ts)) ≡ Some s
  by true rest e = e
  by false rest e = rest e

pub such_new : (f : Spot → Bool) (ss ts : List Spot) → first_such f ss ≡ None
    → first_such f (ss ++ ts) ≡ first_such f ts
such_new f [] ts e = refl
such_new f (t ∷ ss) ts e = by (f t) (such_new f ss ts) e where
  by : (b : Bool) → (first_such f ss ≡ None → first_such f (ss ++ ts) ≡ first_such f ts)
      → (if b then Some t else first_such f ss) ≡ None
      → (if b then Some t else first_such f (ss ++ ts)) ≡ first_such f ts
  by true rest e = absurd (cc)
  by false rest e = rest e

such_one : (f : Spot → Bool) (s : Spot) (b : Bool) → f s ≡ b
    → first_such f (s ∷ []) ≡ (if b then Some s else None)
such_one f s b e = ap (λ (x : Bool). if x then Some s else None) e

-- one that is not such a one
pub such_same : (f : Spot → Bool) (ss : List Spot) (s : Spot) → f s ≡ false
    → first_such f (ss ++ s ∷ []) ≡ first_such f ss
such_same f [] s n = such_one f s false n
such_same f (t ∷ ss) s n = ap (λ (o : Option Spot). if f t then Some t else o) (such_same f ss s n)

-- the first one is such a one, and stands there
pub such_is : (f : Spot → Bool) (ss : List Spot) (s : Spot) → first_such f ss ≡ Some s
    → (f s ≡ true) × Within ss s
such_is f [] s e = absurd (cc)
such_is f (t ∷ ss) s e = by (f t) refl (such_is f ss s) e where
  by : (b : Bool) → f t ≡ b → (first_such f ss ≡ Some s → (f s ≡ true) × Within ss s)
      → (if b then Some t else first_such f ss) ≡ Some s → (f s ≡ true) × Within (t ∷ ss) s
  by true y rest e =
      let same : t ≡ s = cc in
      (subst (λ (x : Spot). f x ≡ true) same y, subst (Within (t ∷ ss)) same (within_first t ss))
  by false n rest e = let r = rest e in (r.0, within_more t s ss r.1)

pub such_none : (f : Spot → Bool) (ss : List Spot) (s : Spot) → first_such f ss ≡ None → Within ss s
    → f s ≡ true → ⊥
such_none f [] s e w y = none_within s w
such_none f (t ∷ ss) s e w y = by (f t) refl (such_none f ss s) e where
  by : (b : Bool) → f t ≡ b → (first_such f ss ≡ None → Within ss s → f s ≡ true → ⊥)
      → (if b then Some t else first_such f ss) ≡ None → ⊥
  by true m rest e = cc
  by false n rest e = elim (within_cons t ss s w) [
    | inl same ↦ true≢false (sym y ∙ ap f same ∙ n)
    | inr v ↦ rest e v y
  ]

-- of marks in an order, the first such one comes before each other such one
pub such_least : (R : Spot → Spot → Type 0) (f : Spot → Bool) (ss : List Spot) (s u : Spot) → EachTwo R ss
    → first_such f ss ≡ Some s → Within ss u → f u ≡ true
    → (u ≡ s) ⊎ R s u
such_least R f [] s u two e w y = absurd (none_within u w)
such_least R f (t ∷ ss) s u two e w y = by (f t) refl (such_least R f ss s u two.1) e where
  by : (b : Bool) → f t ≡ b → (first_such f ss ≡ Some s → Within ss u → f u ≡ true → (u ≡ s) ⊎ R s u)
      → (if b then Some t else first_such f ss) ≡ Some s
      → (u ≡ s) ⊎ R s u
  by true m rest e =
      let same : t ≡ s = cc in
      elim (within_cons t ss u w) [
        | inl is ↦ inl (is ∙ same)
        | inr v ↦ inr (subst (λ (x : Spot). R x u) same (each_within (R t) ss u two.0 v))
      ]
  by false n rest e = elim (within_cons t ss u w) [
    | inl is ↦ absurd (true≢false (sym y ∙ ap f is ∙ n))
    | inr v ↦ rest e v y
  ]

-- the mark has the symbol a and stands in another process than q
not_true : (b : Bool) → not b ≡ true → b ≡ false
not_true true e = sym e
not_true false e = refl

ne_of : (a b : ℕ) → nat_eq a b ≡ false → a ≡ b → ⊥
ne_of a b n e = true≢false (sym (eq-eqb a b e) ∙ n)

pub elsewhere_is : (a q : ℕ) (s : Spot) → is_elsewhere a q s ≡ true → (s.mark.sym.0 ≡ a) × (s.process ≡ q → ⊥)
elsewhere_is a q s e =
    let both = and_parts (nat_eq s.mark.sym.0 a) (not (nat_eq s.process q)) e in
    (eqb-true s.mark.sym.0 a both.0, ne_of s.process q (not_true (nat_eq s.process q) both.1))

pub is_there : (a q : ℕ) (s : Spot) → s.mark.sym.0 ≡ a → (s.process ≡ q → ⊥) → is_elsewhere a q s ≡ true
is_there a q s e n = and_from (nat_eq s.mark.sym.0 a) (not (nat_eq s.process q)) (eq-eqb s.mark.sym.0 a e) (ap not (ne_eqb s.process q n))

other_symbol : (a q : ℕ) (s : Spot) → (s.mark.sym.0 ≡ a → ⊥) → is_elsewhere a q s ≡ false
other_symbol a q s n = ap (λ (b : Bool). b && not (nat_eq s.process q)) (ne_eqb s.mark.sym.0 a n)

same_process : (a q : ℕ) (s : Spot) → s.process ≡ q → is_elsewhere a q s ≡ false
same_process a q s e = by (nat_eq s.mark.sym.0 a) (nat_eq s.process q) (eq-eqb s.process q e) where
  by : (b c : Bool) → c ≡ true → (b && not c) ≡ false
  by true c e = ap not e
  by false c e = refl

-- what the first mark of the symbol tells
if_other : (a q : ℕ) (s : Spot) (ss : List Spot) → (s.mark.sym.0 ≡ a → ⊥)
    → other_mark a q (s ∷ ss) ≡ other_mark a q ss
if_other a q s ss n = ap (λ (b : Bool). if b then Some s else other_mark a q ss) (other_symbol a q s n)

pub first_none : (a q : ℕ) (ss : List Spot) → first_mark a ss ≡ None → other_mark a q ss ≡ None
first_none a q [] e = refl
first_none a q (t ∷ ss) e = by (cases_eq t.mark.sym.0 a) (first_none a q ss) where
  by : (t.mark.sym.0 ≡ a) ⊎ (t.mark.sym.0 ≡ a → ⊥) → (first_mark a ss ≡ None → other_mark a q ss ≡ None)
      → other_mark a q (t ∷ ss) ≡ None
  by (inl y) rest = let h = first_here a t ss y in absurd (cc)
  by (inr n) rest = if_other a q t ss n ∙ rest (sym (first_there a t ss n) ∙ e)

pub first_other : (a q : ℕ) (ss : List Spot) (f : Spot) → first_mark a ss ≡ Some f → (f.process ≡ q → ⊥)
    → other_mark a q ss ≡ Some f
first_other a q [] f e m = absurd (cc)
first_other a q (t ∷ ss) f e m = by (cases_eq t.mark.sym.0 a) (first_other a q ss f) where
  by : (t.mark.sym.0 ≡ a) ⊎ (t.mark.sym.0 ≡ a → ⊥)
      → (first_mark a ss ≡ Some f → (f.process ≡ q → ⊥) → other_mark a q ss ≡ Some f)
      → other_mark a q (t ∷ ss) ≡ Some f
  by (inl y) rest =
      let h = first_here a t ss y in
      let same : t ≡ f = cc in
      ap (λ (b : Bool). if b then Some t else other_mark a q ss) (is_there a q t y (λ p. m (ap (λ (x : Spot). x.process) (sym same) ∙ p))) ∙ ap Some same
  by (inr n) rest = if_other a q t ss n ∙ rest (sym (first_there a t ss n) ∙ e) m

-- no mark has a symbol that is too great for the tables
pub first_great : (a : ℕ) (ss : List Spot) → MAX_SYMBOLS ≤ a → Each InTable ss → first_mark a ss ≡ None
first_great a [] h e = refl
first_great a (s ∷ ss) h e = first_there a s ss (λ is. omega (arith, e.0, is, h)) ∙ first_great a ss h e.1

-- ---- the tables of the grants

-- the second mark of a symbol where the first is known
second_at : (a : ℕ) (ss : List Spot) (o : Option Spot) → first_mark a ss ≡ o
    → second_mark a ss ≡ second_after a o ss
second_at a ss o e = ap (λ (x : Option Spot). second_after a x ss) e

second_same : (a : ℕ) (ss : List Spot) (s : Spot) → (s.mark.sym.0 ≡ a → ⊥)
    → second_mark a (ss ++ s ∷ []) ≡ second_mark a ss
second_same a ss s n = by (first_mark a ss) refl where
  by : (o : Option Spot) → first_mark a ss ≡ o → second_mark a (ss ++ s ∷ []) ≡ second_mark a ss
  by None e = second_at a (ss ++ s ∷ []) None (first_same a ss s n ∙ e) ∙ sym (second_at a ss None e)
  by (Some f) e = second_at a (ss ++ s ∷ []) (Some f) (first_same a ss s n ∙ e)
      ∙ such_same (is_elsewhere a f.process) ss s (other_symbol a f.process s n)
      ∙ sym (second_at a ss (Some f) e)

-- the second marks stay
kept_second : (second : List (Option Spot)) (ss : List Spot) (s : Spot) → SecondMarks second ss
    → get_or second s.mark.sym.0 None ≡ second_mark s.mark.sym.0 (ss ++ s ∷ [])
    → SecondMarks second (ss ++ s ∷ [])
kept_second second ss s marks here a h = by (cases_eq s.mark.sym.0 a) where
  by : (s.mark.sym.0 ≡ a) ⊎ (s.mark.sym.0 ≡ a → ⊥) → get_or second a None ≡ second_mark a (ss ++ s ∷ [])
  by (inl e) = subst (λ (x : ℕ). get_or second x None ≡ second_mark x (ss ++ s ∷ [])) e here
  by (inr n) = marks a h ∙ sym (second_same a ss s n)

entered_second : (second : List (Option Spot)) (ss : List Spot) (s : Spot) → SecondMarks second ss
    → length second ≡ MAX_SYMBOLS → s.mark.sym.0 < MAX_SYMBOLS
    → second_mark s.mark.sym.0 (ss ++ s ∷ []) ≡ Some s
    → SecondMarks (set second s.mark.sym.0 (Some s)) (ss ++ s ∷ [])
entered_second second ss s marks size small here a h = by (cases_eq s.mark.sym.0 a) where
  by : (s.mark.sym.0 ≡ a) ⊎ (s.mark.sym.0 ≡ a → ⊥)
      → get_or (set second s.mark.sym.0 (Some s)) a None ≡ second_mark a (ss ++ s ∷ [])
  by (inl e) = subst (λ (x : ℕ). get_or (set second s.mark.sym.0 (Some s)) x None ≡ second_mark x (ss ++ s ∷ [])) e
      (get_or-set_same second s.mark.sym.0 (Some s) None (omega arith) ∙ sym here)
  by (inr n) = get_or-set_other second s.mark.sym.0 a (Some s) None (λ e. n (sym e)) ∙ marks a h
      ∙ sym (second_same a ss s n)

-- the first mark of a symbol
pub grant_first : (first second : List (Option Spot)) (ss : List Spot) (s : Spot)
    → get_or first s.mark.sym.0 None ≡ None
    → GrantsSeen first second ss → GrantsSeen (set first s.mark.sym.0 (Some s)) second (ss ++ s ∷ [])
grant_first first second ss s here seen small =
    let few = small_now ss s small in
    let k = seen few.0 in
    let none : first_mark s.mark.sym.0 ss ≡ None = sym (k.firsts s.mark.sym.0 few.1) ∙ here in
    let is_first : first_mark s.mark.sym.0 (ss ++ s ∷ []) ≡ Some s = first_new s.mark.sym.0 ss (s ∷ []) none
    ∙ first_here s.mark.sym.0 s [] refl in
    let no_second : second_mark s.mark.sym.0 (ss ++ s ∷ []) ≡ None
    = second_at s.mark.sym.0 (ss ++ s ∷ []) (Some s) is_first
    ∙ such_new (is_elsewhere s.mark.sym.0 s.process) ss (s ∷ []) (first_none s.mark.sym.0 s.process ss none)
    ∙ such_one (is_elsewhere s.mark.sym.0 s.process) s false (same_process s.mark.sym.0 s.process s refl) in
    record {
      first_size = length-set first s.mark.sym.0 (Some s) ∙ k.first_size;
      second_size = k.second_size;
      firsts = entered_mark first ss s k.firsts k.first_size few.1 here;
      seconds = kept_second second ss s k.seconds (k.seconds s.mark.sym.0 few.1
          ∙ second_at s.mark.sym.0 ss None none ∙ sym no_second);
    }

-- the first one in another process
pub grant_second : (first second : List (Option Spot)) (ss : List Spot) (s f : Spot)
    → get_or first s.mark.sym.0 None ≡ Some f → get_or second s.mark.sym.0 None ≡ None
    → (f.process ≡ s.process → ⊥) → GrantsSeen first second ss
    → GrantsSeen first (set second s.mark.sym.0 (Some s)) (ss ++ s ∷ [])
grant_second first second ss s f here none differ seen small =
    let few = small_now ss s small in
    let k = seen few.0 in
    let known : first_mark s.mark.sym.0 ss ≡ Some f = sym (k.firsts s.mark.sym.0 few.1) ∙ here in
    let no_other : other_mark s.mark.sym.0 f.process ss ≡ None = sym (second_at s.mark.sym.0 ss (Some f) known) ∙ sym (k.seconds s.mark.sym.0 few.1) ∙ none in
    let is_second : second_mark s.mark.sym.0 (ss ++ s ∷ []) ≡ Some s
    = second_at s.mark.sym.0 (ss ++ s ∷ []) (Some f) (first_old s.mark.sym.0 ss (s ∷ []) f known)
    ∙ such_new (is_elsewhere s.mark.sym.0 f.process) ss (s ∷ []) no_other
    ∙ such_one (is_elsewhere s.mark.sym.0 f.process) s true (is_there s.mark.sym.0 f.process s refl (λ e. differ (sym e))) in
    record {
      first_size = k.first_size;
      second_size = length-set second s.mark.sym.0 (Some s) ∙ k.second_size;
      firsts = kept_marks first ss s f k.firsts few.1 here;
      seconds = entered_second second ss s k.seconds k.second_size few.1 is_second;
    }

-- one more in the process of the first
pub grant_same : (first second : List (Option Spot)) (ss : List Spot) (s f : Spot)
    → get_or first s.mark.sym.0 None ≡ Some f
    → f.process ≡ s.process → GrantsSeen first second ss → GrantsSeen first second (ss ++ s ∷ [])
grant_same first second ss s f here same seen small =
    let few = small_now ss s small in
    let k = seen few.0 in
    let known : first_mark s.mark.sym.0 ss ≡ Some f = sym (k.firsts s.mark.sym.0 few.1) ∙ here in
    let kept : second_mark s.mark.sym.0 (ss ++ s ∷ []) ≡ second_mark s.mark.sym.0 ss
    = second_at s.mark.sym.0 (ss ++ s ∷ []) (Some f) (first_old s.mark.sym.0 ss (s ∷ []) f known)
    ∙ such_same (is_elsewhere s.mark.sym.0 f.process) ss s (same_process s.mark.sym.0 f.process s (sym same))
    ∙ sym (second_at s.mark.sym.0 ss (Some f) known) in
    record {
      first_size = k.first_size;
      second_size = k.second_size;
      firsts = kept_marks first ss s f k.firsts few.1 here;
      seconds = kept_second second ss s k.seconds (k.seconds s.mark.sym.0 few.1 ∙ sym kept);
    }

-- or where both are known
pub grant_both : (first second : List (Option Spot)) (ss : List Spot) (s f g : Spot)
    → get_or first s.mark.sym.0 None ≡ Some f → get_or second s.mark.sym.0 None ≡ Some g
    → GrantsSeen first second ss → GrantsSeen first second (ss ++ s ∷ [])
grant_both first second ss s f g here there seen small =
    let few = small_now ss s small in
    let k = seen few.0 in
    let known : first_mark s.mark.sym.0 ss ≡ Some f = sym (k.firsts s.mark.sym.0 few.1) ∙ here in
    let other : other_mark s.mark.sym.0 f.process ss ≡ Some g = sym (second_at s.mark.sym.0 ss (Some f) known)
    ∙ sym (k.seconds s.mark.sym.0 few.1) ∙ there in
    let kept : second_mark s.mark.sym.0 (ss ++ s ∷ []) ≡ Some g
    = second_at s.mark.sym.0 (ss ++ s ∷ []) (Some f) (first_old s.mark.sym.0 ss (s ∷ []) f known)
    ∙ such_old (is_elsewhere s.mark.sym.0 f.process) ss (s ∷ []) g other in
    record {
      first_size = k.first_size;
      second_size = k.second_size;
      firsts = kept_marks first ss s f k.firsts few.1 here;
      seconds = kept_second second ss s k.seconds (there ∙ sym kept);
    }

-- the first mark of a symbol outside a process
pub elsewhere_great : (a q : ℕ) (ss : List Spot) → MAX_SYMBOLS ≤ a → Each InTable ss
    → None ≡ other_mark a q ss
elsewhere_great a q ss h small = sym (first_none a q ss (first_great a ss h small))

pub elsewhere_none : (first second : List (Option Spot)) (ss : List Spot) (a q : ℕ) → a < MAX_SYMBOLS
    → get_or first a None ≡ None → GrantsSeen first second ss → Each InTable ss
    → None ≡ other_mark a q ss
elsewhere_none first second ss a q h here seen small = sym (first_none a q ss (sym ((seen small).firsts a h)
    ∙ here))

pub elsewhere_first : (first second : List (Option Spot)) (ss : List Spot) (a q : ℕ) (f : Spot)
    → a < MAX_SYMBOLS → get_or first a None ≡ Some f → (f.process ≡ q → ⊥)
    → GrantsSeen first second ss → Each InTable ss → Some f ≡ other_mark a q ss
elsewhere_first first second ss a q f h here differ seen small = sym (first_other a q ss f (sym ((seen small).firsts a h) ∙ here) differ)

pub elsewhere_second : (first second : List (Option Spot)) (ss : List Spot) (a q : ℕ) (f : Spot)
    → a < MAX_SYMBOLS → get_or first a None ≡ Some f → f.process ≡ q
    → GrantsSeen first second ss → Each InTable ss → get_or second a None ≡ other_mark a q ss
elsewhere_second first second ss a q f h here same seen small =
    (seen small).seconds a h ∙ second_at a ss (Some f) (sym ((seen small).firsts a h) ∙ here)
    ∙ ap (λ (x : ℕ). other_mark a x ss) same

-- ---- the table of the other processes

pub home_enters : (home : List Bool) (ss : List Spot) (s : Spot) → HomesSeen home ss
    → HomesSeen (set home s.mark.sym.0 true) (ss ++ s ∷ [])
home_enters home ss s seen small =
    let few = small_now ss s small in
    let k = seen few.0 in
    record {
      size = length-set home s.mark.sym.0 true
          ∙ k.size;
      homes = λ a h. by k few.1 a h (cases_eq s.mark.sym.0 a);
    } where
      now : (o : Option Spot) → first_mark s.mark.sym.0 ss ≡ o → stands_in s.mark.sym.0 (ss ++ s ∷ []) ≡ true
      now None e = ap is_some (first_new s.mark.sym.0 ss (s ∷ []) e ∙ first_here s.mark.sym.0 s [] refl)
      now (Some f) e = ap is_some (first_old s.mark.sym.0 ss (s ∷ []) f e)

      by : KnowsHomes home ss → s.mark.sym.0 < MAX_SYMBOLS → (a : ℕ) → a < MAX_SYMBOLS
          → (s.mark.sym.0 ≡ a) ⊎ (s.mark.sym.0 ≡ a → ⊥)
          → get_or (set home s.mark.sym.0 true) a false ≡ stands_in a (ss ++ s ∷ [])
      by k small a h (inl e) = subst (λ (x : ℕ). get_or (set home s.mark.sym.0 true) x false ≡ stands_in x (ss ++ s ∷ [])) e
          (get_or-set_same home s.mark.sym.0 true false (omega (arith, k.size))
          ∙ sym (now (first_mark s.mark.sym.0 ss) refl))
      by k small a h (inr n) = get_or-set_other home s.mark.sym.0 a true false (λ e. n (sym e)) ∙ k.homes a h
          ∙ sym (ap is_some (first_same a ss s n))

pub home_great : (a : ℕ) (ss : List Spot) → MAX_SYMBOLS ≤ a → Each InTable ss → false ≡ stands_in a ss
home_great a ss h small = sym (ap is_some (first_great a ss h small))
