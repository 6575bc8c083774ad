-- The search for twins, burst by burst.
use Rattle.std.proofs.Common.{◌≡◌, ◌⊎◌, inl, inr, ◌<◌, ◌≤◌, ℕ, ◌+◌, true, false, true≢false, List, [], ◌∷◌, ◌++◌, Option, Some, None, is_some, refl, sym, ap, ◌∙◌, subst, append_assoc, arith}
use Rattle.std.proofs.lemmas.List.{append-nil}
use Rattle.cmd_tree.specs.declared.limits.TheConstants.{MAX_SYMBOLS}
use Rattle.cmd_tree.specs.declared.tree.Mark.{Mark}
use Rattle.tree_walk.specs.Bursts.{Burst}
use Rattle.di_grammar.specs.declared.clash.Clash.{Clash}
use Rattle.di_grammar.specs.Bursts.{SameSet}
use Rattle.di_grammar.specs.Clashes.{First}
use Rattle.di_grammar.specs.Lists.{Each, Within, InOrder}
use Rattle.di_grammar.specs.Mirror.Symbols.{SameSymbols, HasNew, IsEntered}
use Rattle.di_grammar.specs.Mirror.Twins.{Climbs, TwinsIn, Against, EqualAt, Nearest, AreEntered, Told}
use Rattle.di_grammar.proofs.Firsts.{first_like}
use Rattle.di_grammar.proofs.Lists.{within_first, none_within, within_cons, within_one, within_front, within_back, within_join, each_within, each_join, each_map, order_front, order_append, order_one, order_none, order_across}
use Rattle.di_grammar.proofs.SymbolSets.{symbol_in, in_marked}

pub climbs_low : (k : ℕ) (bs : List Burst) (b : Burst) → Climbs k bs → Within bs b → k ≤ b.place
climbs_low k [] b c w = absurd (none_within b w)
climbs_low k (a ∷ bs) b c w = elim (within_cons a bs b w) [
  | inl e ↦ subst (λ (x : Burst). k ≤ x.place) (sym e) c.0
  | inr t ↦ let later = climbs_low (a.place + 1) bs b c.1 t in omega (arith, c.0, later)
]

pub climbs_left : (k : ℕ) (bs cs : List Burst) → Climbs k (bs ++ cs) → Climbs k bs
climbs_left k [] cs c = tt
climbs_left k (b ∷ bs) cs c = (c.0, climbs_left (b.place + 1) bs cs c.1)

-- what stands before y has a lower place
pub climbs_before : (k : ℕ) (bs : List Burst) (y : Burst) (cs : List Burst) (b : Burst) → Climbs k (bs ++ y ∷ cs) → Within bs b → b.place < y.place
climbs_before k [] y cs b c w = absurd (none_within b w)
climbs_before k (a ∷ bs) y cs b c w = elim (within_cons a bs b w) [
  | inl e ↦ let low = climbs_low (a.place + 1) (bs ++ y ∷ cs) y c.1 (within_back bs (y ∷ cs) y (within_first y cs)) in
      subst (λ (x : Burst). x.place < y.place) (sym e) (omega (arith, low))
  | inr t ↦ climbs_before (a.place + 1) bs y cs b c.1 t
]

-- and what stands from y on has not
pub climbs_from : (k : ℕ) (bs : List Burst) (y : Burst) (cs : List Burst) (b : Burst) → Climbs k (bs ++ y ∷ cs) → Within (y ∷ cs) b → y.place ≤ b.place
climbs_from k [] y cs b c w = elim (within_cons y cs b w) [
  | inl e ↦ subst (λ (x : Burst). y.place ≤ x.place) (sym e) (omega arith)
  | inr t ↦ let later = climbs_low (y.place + 1) cs b c.1 t in omega (arith, later)
]
climbs_from k (a ∷ bs) y cs b c w = climbs_from (a.place + 1) bs y cs b c.1 w

-- the last burst y, against one before it
pub record LastTwins (bs : List Burst) (y : Burst) (c : Clash) : Type 0 where
  pub first : Burst
  pub within : Within bs first
  pub same : SameSet first y
  pub place : c.place ≡ y.place
  pub other : c.other ≡ first.place
  pub case : c.case ≡ 0

twins_last : (bs : List Burst) (y : Burst) (c : Clash) → TwinsIn (bs ++ y ∷ []) c → TwinsIn bs c ⊎ LastTwins bs y c
twins_last bs y c t = by (order_append bs (y ∷ []) t.first t.second t.order) where
  last : Within bs t.first → t.second ≡ y → LastTwins bs y c
  last w e = record {
    first = t.first;
    within = w;
    same = subst (λ (z : Burst). SameSet t.first z) e t.same;
    place = t.place ∙ ap (λ (z : Burst). z.place) e;
    other = t.other;
    case = t.case;
  }

  by : InOrder bs t.first t.second ⊎ ((Within bs t.first × Within (y ∷ []) t.second) ⊎ InOrder (y ∷ []) t.first t.second) → TwinsIn bs c ⊎ LastTwins bs y c
  by (inl o) = inl (record { first = t.first; second = t.second; order = o; same = t.same; place = t.place; other = t.other; case = t.case })
  by (inr (inl w)) = inr (last w.0 (within_one y t.second w.1))
  by (inr (inr o)) = absurd (order_one y t.first t.second o)

twins_more : (bs : List Burst) (y : Burst) (c : Clash) → TwinsIn bs c → TwinsIn (bs ++ y ∷ []) c
twins_more bs y c t = record {
  first = t.first;
  second = t.second;
  order = order_front bs (y ∷ []) t.first t.second t.order;
  same = t.same;
  place = t.place;
  other = t.other;
  case = t.case;
}

second_within : (bs : List Burst) (x y : Burst) → InOrder bs x y → Within bs y
second_within bs x y o = record {
  before = o.before ++ x ∷ o.between;
  after = o.after;
  are = o.are ∙ sym (append_assoc o.before (x ∷ o.between) (y ∷ o.after));
}

goes_on : (all bs : List Burst) (y : Burst) (rest : List Burst) → all ≡ (bs ++ y ∷ []) ++ rest → all ≡ bs ++ (y ∷ rest)
goes_on all bs y rest is = is ∙ append_assoc bs (y ∷ []) rest

pub told_kept : (all bs : List Burst) (y : Burst) (c : Clash) → Told all bs (Some c) → Told all (bs ++ y ∷ []) (Some c)
told_kept all bs y c told = λ rest is climbs. by rest (goes_on all bs y rest is) climbs (told (y ∷ rest) (goes_on all bs y rest is) climbs) where
  by : (rest : List Burst) → all ≡ bs ++ (y ∷ rest) → Climbs 0 all → First (TwinsIn bs) (Some c) → First (TwinsIn (bs ++ y ∷ [])) (Some c)
  by rest is climbs t =
      let low = climbs_before 0 bs y rest t.0.second (subst (Climbs 0) is climbs) (second_within bs t.0.first t.0.second t.0.order) in (
        twins_more bs y c t.0,
        λ d e p. elim (twins_last bs y d e) [
          | inl g ↦ t.1 d g p
          | inr l ↦ omega (arith, low, t.0.place, l.place, p)
        ],
      )

pub told_new : (entry : ℕ → ℕ) (all bs : List Burst) (y : Burst) → AreEntered entry bs → HasNew entry y.marks → Told all bs None → Told all (bs ++ y ∷ []) None
told_new entry all bs y entered new told = λ rest is climbs d e. elim (twins_last bs y d e) [
  | inl g ↦ told (y ∷ rest) (goes_on all bs y rest is) climbs d g
  | inr l ↦ by l
] where
  one_zero : (n : ℕ) → n ≡ 1 → n ≡ 0 → ⊥
  one_zero n a b = omega (arith, a, b)

  by : {d : Clash} → LastTwins bs y d → ⊥
  by l =
      let a = new.mark.sym.0 in
      let has = (l.same a).1 (symbol_in y.marks new.mark new.within) in
      let m = in_marked l.first.marks a has in
      let small : m.mark.sym.0 < MAX_SYMBOLS = subst (λ (k : ℕ). k < MAX_SYMBOLS) m.is new.small in
      let is = each_within (IsEntered entry) l.first.marks m.mark (each_within (λ (b : Burst). Each (IsEntered entry) b.marks) bs l.first entered l.within) m.within small in
      one_zero (entry a) (ap entry m.is ∙ is) new.new

pub told_twin : (all bs : List Burst) (y : Burst) (f : Option Clash) → (Climbs 0 all → First (Against all y) f) → Told all bs None → Told all (bs ++ y ∷ []) f
told_twin all bs y f against told = λ rest is climbs. by rest (goes_on all bs y rest is) climbs (told (y ∷ rest) (goes_on all bs y rest is) climbs) where
  twin : (rest : List Burst) → all ≡ bs ++ (y ∷ rest) → Climbs 0 all → (d : Clash) → Against all y d → TwinsIn (bs ++ y ∷ []) d
  twin rest is climbs d a =
      let within : Within bs a.first = elim (within_join bs (y ∷ rest) a.first (subst (λ (zs : List Burst). Within zs a.first) is a.within)) [
        | inl w ↦ w
        | inr w ↦ let high = climbs_from 0 bs y rest a.first (subst (Climbs 0) is climbs) w in absurd (omega (arith, high, a.earlier))
      ] in
      record {
        first = a.first;
        second = y;
        order = order_across bs (y ∷ []) a.first y within (within_first y []);
        same = a.same;
        place = a.place;
        other = a.other;
        case = a.case;
      }

  back : (rest : List Burst) → all ≡ bs ++ (y ∷ rest) → Climbs 0 all → ((d : Clash) → TwinsIn bs d → ⊥) → (d : Clash) → TwinsIn (bs ++ y ∷ []) d → Against all y d
  back rest is climbs none d t = elim (twins_last bs y d t) [
    | inl g ↦ absurd (none d g)
    | inr l ↦ record {
      first = l.first;
      within = subst (λ (zs : List Burst). Within zs l.first) (sym is) (within_front bs (y ∷ rest) l.first l.within);
      same = l.same;
      earlier = climbs_before 0 bs y rest l.first (subst (Climbs 0) is climbs) l.within;
      place = l.place;
      other = l.other;
      case = l.case;
    }
  ]

  by : (rest : List Burst) → all ≡ bs ++ (y ∷ rest) → Climbs 0 all → ((d : Clash) → TwinsIn bs d → ⊥) → First (TwinsIn (bs ++ y ∷ [])) f
  by rest is climbs none = first_like (Against all y) (TwinsIn (bs ++ y ∷ [])) f (λ d. (twin rest is climbs d, back rest is climbs none d)) (against climbs)

-- the first burst with the symbols, among one more
pub nearest_kept : (ms : List Mark) (bs : List Burst) (y : Burst) (k : ℕ) → (Climbs 0 bs → EqualAt ms bs k) → Climbs 0 (bs ++ y ∷ []) → EqualAt ms (bs ++ y ∷ []) k
nearest_kept ms bs y k equal climbs =
    let e = equal (climbs_left 0 bs (y ∷ []) climbs) in
    let low = climbs_before 0 bs y [] e.burst climbs e.within in
    record {
      burst = e.burst;
      within = within_front bs (y ∷ []) e.burst e.within;
      same = e.same;
      at = e.at;
      first = λ d w same. elim (within_join bs (y ∷ []) d w) [
        | inl l ↦ e.first d l same
        | inr r ↦ let is : d.place ≡ y.place = ap (λ (z : Burst). z.place) (within_one y d r) in omega (arith, low, e.at, is)
      ];
    }

pub nearest_here : (ms : List Mark) (bs : List Burst) (y : Burst) → (Climbs 0 bs → Nearest ms bs None) → SameSymbols y.marks ms → Climbs 0 (bs ++ y ∷ [])
    → EqualAt ms (bs ++ y ∷ []) y.place
nearest_here ms bs y none same climbs =
    let no_other = none (climbs_left 0 bs (y ∷ []) climbs) in
    record {
      burst = y;
      within = within_back bs (y ∷ []) y (within_first y []);
      same = same;
      at = refl;
      first = λ d w equal. elim (within_join bs (y ∷ []) d w) [
        | inl l ↦ absurd (no_other d l equal)
        | inr r ↦ let is : d.place ≡ y.place = ap (λ (z : Burst). z.place) (within_one y d r) in omega (arith, is)
      ];
    }

pub nearest_not : (ms : List Mark) (bs : List Burst) (y : Burst) → (Climbs 0 bs → Nearest ms bs None) → (SameSymbols y.marks ms → ⊥) → Climbs 0 (bs ++ y ∷ [])
    → Nearest ms (bs ++ y ∷ []) None
nearest_not ms bs y none differ climbs = λ d w equal. elim (within_join bs (y ∷ []) d w) [
  | inl l ↦ none (climbs_left 0 bs (y ∷ []) climbs) d l equal
  | inr r ↦ differ (subst (λ (z : Burst). SameSymbols z.marks ms) (within_one y d r) equal)
]

pub against_none : (all : List Burst) (y : Burst) → Nearest y.marks all None → First (Against all y) None
against_none all y none = λ d a. none a.first a.within a.same

pub against_later : (all : List Burst) (y : Burst) (k : ℕ) → EqualAt y.marks all k → y.place ≤ k → First (Against all y) None
against_later all y k e late = λ d a. let low = e.first a.first a.within a.same in omega (arith, late, low, a.earlier)

pub against_here : (all : List Burst) (y : Burst) (k : ℕ) (c : Clash) → EqualAt y.marks all k → k < y.place → c.place ≡ y.place → c.other ≡ k → c.case ≡ 0
    → First (Against all y) (Some c)
against_here all y k c e early place other case = (
  record { first = e.burst; within = e.within; same = e.same; earlier = omega (arith, early, e.at); place = place; other = other ∙ e.at; case = case },
  λ d a p. let low = e.first a.first a.within a.same in omega (arith, low, place, other, case, a.place, a.other, a.case, p),
)

pub nearest_some : (ms : List Mark) (bs : List Burst) (y : Burst) (p : Option ℕ) → is_some p ≡ true → (Climbs 0 bs → Nearest ms bs p) → Climbs 0 (bs ++ y ∷ [])
    → Nearest ms (bs ++ y ∷ []) p
nearest_some ms bs y None h near climbs = absurd (true≢false (sym h))
nearest_some ms bs y (Some k) h near climbs = nearest_kept ms bs y k near climbs

pub nearest_none : (ms : List Mark) (bs : List Burst) (p : Option ℕ) → is_some p ≡ false → (Climbs 0 bs → Nearest ms bs p) → Climbs 0 bs → Nearest ms bs None
nearest_none ms bs None h near = near
nearest_none ms bs (Some k) h near = absurd (true≢false h)

pub told_some : (all bs : List Burst) (y : Burst) (f : Option Clash) → is_some f ≡ true → Told all bs f → Told all (bs ++ y ∷ []) f
told_some all bs y None h told = absurd (true≢false (sym h))
told_some all bs y (Some c) h told = told_kept all bs y c told

pub told_none : (all bs : List Burst) (f : Option Clash) → is_some f ≡ false → Told all bs f → Told all bs None
told_none all bs None h told = told
told_none all bs (Some c) h told = absurd (true≢false h)

pub entered_more : (old new : ℕ → ℕ) (bs : List Burst) (y : Burst) → ((a : ℕ) → a < MAX_SYMBOLS → old a ≡ 1 → new a ≡ 1) → Each (IsEntered new) y.marks
    → AreEntered old bs → AreEntered new (bs ++ y ∷ [])
entered_more old new bs y kept here entered = each_join (λ (b : Burst). Each (IsEntered new) b.marks) bs (y ∷ [])
    (each_map (λ (b : Burst). Each (IsEntered old) b.marks) (λ (b : Burst). Each (IsEntered new) b.marks) bs
    (λ b each. each_map (IsEntered old) (IsEntered new) b.marks (λ m is small. kept m.sym.0 small (is small)) each) entered)
    (here, tt)

pub told_begun : (all : List Burst) → Told all [] None
told_begun all = λ rest is climbs c t. order_none t.first t.second t.order

pub told_all : (all : List Burst) (f : Option Clash) → Told all all f → Climbs 0 all → First (TwinsIn all) f
told_all all f told climbs = told [] (sym (append-nil all)) climbs
