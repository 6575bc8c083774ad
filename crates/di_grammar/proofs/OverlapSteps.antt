-- The steps of the search for overlaps.
use native.Mathlib.Decide.{ℕ_discrete}
use Rattle.std.proofs.Common.{◌≡◌, ◌≢◌, ◌⊎◌, inl, inr, ◌↔◌, ℕ, ◌+◌, ◌<◌, ◌≤◌, min, true, false, true≢false, List, [], ◌∷◌, ◌++◌, length, Option, Some, None, refl, sym, ap, ◌∙◌, subst, arith}
use Rattle.std.proofs.lemmas.Bool.{cases_lt}
use Rattle.std.proofs.lemmas.List.{append-nil}
use Rattle.std.specs.Prelude.{is_some}
use Rattle.cmd_tree.specs.declared.tree.Dir.{Dir}
use Rattle.cmd_tree.specs.declared.tree.Dir.TheVariants.{Input, Output}
use Rattle.cmd_tree.specs.declared.tree.Mark.{Mark}
use Rattle.cmd_tree.specs.declared.tree.Proc.{Proc}
use Rattle.tree_walk.specs.Bursts.{Burst, dir_of, bursts}
use Rattle.di_grammar.specs.declared.clash.Clash.{Clash}
use Rattle.di_grammar.specs.Clashes.{First, Precedes}
use Rattle.di_grammar.specs.Lists.{Each, EachTwo, Within}
use Rattle.di_grammar.specs.Bursts.{Has, SameSet, Disjoint, Overlap, inputs, if_input}
use Rattle.di_grammar.specs.EvenBursts.{Even}
use Rattle.di_grammar.specs.Grants.{IsGrant}
use Rattle.di_grammar.specs.Overlaps.{EqualOrDisjoint, KeepsOverlaps, BreaksOverlaps}
use Rattle.di_grammar.specs.Mirror.Laid.{IsSmall, Laid}
use Rattle.di_grammar.specs.Mirror.Overlapping.{Distinct, EndsBefore, FirstHas, Stood, StoodAll, Sound, Against, Met, Lowest, StoodAt, Enters, OverlapAmong, KnowsOverlaps}
use Rattle.di_grammar.proofs.BurstSymbols.{Holds, holds_mark, mark_of, holds_or, some_marks, covers, same_size, apart_back, apart_on, apart_no_overlap, all_in_or, one_in_or}
use Rattle.di_grammar.proofs.Laying.{laid_last}
use Rattle.di_grammar.proofs.Lists.{none_within, within_front, within_last, within_next, each_within, each_all, each_map, each_join, each_front, each_back, two_cases, two_join, two_last, two_front, two_ordered, two_all, order_front, order_last, order_second, order_next}

-- The least place of some symbols.

-- the lesser of two places, where 0 is none
pub record IsLower (low place new : ℕ) : Type 0 where
  pub none : place ≡ 0 → new ≡ low
  pub first : low ≡ 0 → new ≡ place
  pub less : 0 < low → 0 < place → new ≡ min low place

pub lowest_next : (places : ℕ → ℕ) (ms : List Mark) (m : Mark) (low new : ℕ) → IsLower low (places m.sym.0) new → Lowest places ms low → Lowest places (ms ++ m ∷ []) new
lowest_next places ms m low new is l = by (cases_lt 0 (places m.sym.0)) l where
  n : ℕ
  n = places m.sym.0

  Fits : ℕ → Mark → Type 0
  Fits k x = (places x.sym.0 ≡ 0) ⊎ (k ≤ places x.sym.0)

  by : (0 < places m.sym.0) ⊎ (places m.sym.0 ≤ 0) → Lowest places ms low → Lowest places (ms ++ m ∷ []) new
  by (inr none) (inl z) = let zero : places m.sym.0 ≡ 0 = omega arith in inl (is.none zero ∙ z.0, each_join _ ms (m ∷ []) z.1 (zero, tt))
  by (inl some) (inl z) =
      let e = is.first z.0 in
      inr (omega arith, (m, within_last ms m, sym e), each_join (λ x. (places x.sym.0 ≡ 0) ⊎ (new ≤ places x.sym.0)) ms (m ∷ []) (each_map _ _ ms (λ x h. inl h) z.1) (inr (omega arith), tt))
  by (inr none) (inr z) =
      let zero : places m.sym.0 ≡ 0 = omega arith in
      let e = is.none zero in
      inr (
        omega (arith, z.0),
        (z.1.0, within_front ms (m ∷ []) z.1.0 z.1.1, z.1.2 ∙ sym e),
        each_join (λ x. (places x.sym.0 ≡ 0) ⊎ (new ≤ places x.sym.0)) ms (m ∷ []) (each_map _ _ ms (λ x h. elim h [ inl a ↦ inl a | inr a ↦ inr (omega arith) ]) z.2) (inl zero, tt),
      )
  by (inl some) (inr z) = less (cases_lt (places m.sym.0) low) (is.less z.0 some) where
    less : (places m.sym.0 < low) ⊎ (low ≤ places m.sym.0) → new ≡ min low (places m.sym.0) → Lowest places (ms ++ m ∷ []) new
    less (inl t) e =
        inr (
          omega (arith, z.0),
          (m, within_last ms m, omega arith),
          each_join (λ x. (places x.sym.0 ≡ 0) ⊎ (new ≤ places x.sym.0)) ms (m ∷ []) (each_map _ _ ms (λ x h. elim h [ inl a ↦ inl a | inr a ↦ inr (omega arith) ]) z.2) (inr (omega arith), tt),
        )
    less (inr t) e =
        inr (
          omega (arith, z.0),
          (z.1.0, within_front ms (m ∷ []) z.1.0 z.1.1, omega (arith, z.1.2)),
          each_join (λ x. (places x.sym.0 ≡ 0) ⊎ (new ≤ places x.sym.0)) ms (m ∷ []) (each_map _ _ ms (λ x h. elim h [ inl a ↦ inl a | inr a ↦ inr (omega arith) ]) z.2) (inr (omega arith), tt),
        )

-- one more symbol is entered
pub enters_next : (old now new : ℕ → ℕ) (n : ℕ) (ms : List Mark) (m : Mark) → new m.sym.0 ≡ n → ((a : ℕ) → a ≢ m.sym.0 → new a ≡ now a)
    → Enters old now n ms → Enters old new n (ms ++ m ∷ [])
enters_next old now new n ms m here others e = (
  each_join _ ms (m ∷ []) (each_map _ _ ms (λ x h. one x h) e.0) (here, tt),
  λ a none. others a (λ k. (each_back _ ms (m ∷ []) none).0 (sym k)) ∙ e.1 a (each_front _ ms (m ∷ []) none),
) where
  one : (x : Mark) → now x.sym.0 ≡ n → new x.sym.0 ≡ n
  one x h = elim (ℕ_discrete x.sym.0 m.sym.0) [ yes k ↦ ap new k ∙ here | no k ↦ others x.sym.0 k ∙ h ]

-- One more input burst.

module _ (bs : List Burst) (b : Burst) (sound : Sound bs b) (places sizes : ℕ → ℕ) (stood : StoodAll bs places sizes) where
  one_place : (f g : Burst) (x y : ℕ) → Within bs f → Within bs g → Has f x → Has g y → f.place ≡ g.place → f ≡ g
  one_place f g x y v w h k e = elim (two_cases EndsBefore bs f g sound.ordered v w) [
    | inl same ↦ same
    | inr other ↦ elim other [
      | inl l ↦ absurd (omega (arith, l, some_marks f.marks x h))
      | inr l ↦ absurd (omega (arith, l, some_marks g.marks y k))
    ]
  ]

  stood_in : (a : ℕ) (f : Burst) → Within bs f → Has f a → (0 < places a) × FirstHas bs a (places a) (sizes a)
  stood_in a f w h = elim (stood a) [ inl n ↦ absurd (n.1 f w h) | inr s ↦ (s.0, s.1) ]

  -- the symbol is not in the burst
  stood_more : (a p s : ℕ) → (Has b a → ⊥) → Stood bs a p s → Stood (bs ++ b ∷ []) a p s
  stood_more a p s none t = elim t [ inl n ↦ inl (n.0, λ f w h. never n.1 f w h) | inr h ↦ inr (h.0, more h.1) ] where
    never : ((f : Burst) → Within bs f → Has f a → ⊥) → (f : Burst) → Within (bs ++ b ∷ []) f → Has f a → ⊥
    never n f w h = elim (within_next bs b f w) [ inl old ↦ n f old h | inr e ↦ none (subst (λ (x : Burst). Has x a) e h) ]

    more : FirstHas bs a p s → FirstHas (bs ++ b ∷ []) a p s
    more h = record {
      burst = h.burst;
      within = within_front bs (b ∷ []) h.burst h.within;
      has = h.has;
      placed = h.placed;
      sized = h.sized;
      first = λ g w k. elim (within_next bs b g w) [ inl old ↦ h.first g old k | inr e ↦ absurd (none (subst (λ (x : Burst). Has x a) e k)) ];
    }

  -- none of its symbols stood before

  none_shared : Each (λ m. places m.sym.0 ≡ 0) b.marks → (a : ℕ) (f : Burst) → Within bs f → Has f a → Has b a → ⊥
  none_shared zeros a f w h k =
      let m = mark_of b.marks a k in
      let zero = each_within _ b.marks m.mark zeros m.within in
      let here : places m.mark.sym.0 ≡ places a = ap places m.same in
      omega (arith, (stood_in a f w h).0)

  disjoint_all : Each (λ m. places m.sym.0 ≡ 0) b.marks → Each (λ f. EqualOrDisjoint f b) bs
  disjoint_all zeros = each_all _ bs (λ f w. inr (λ a h k. none_shared zeros a f w h k))

  entered_all : (new_places new_sizes : ℕ → ℕ) → Each (λ m. places m.sym.0 ≡ 0) b.marks → Enters places new_places b.place b.marks
      → Enters sizes new_sizes (length b.marks) b.marks → StoodAll (bs ++ b ∷ []) new_places new_sizes
  entered_all new_places new_sizes zeros p s = λ a. elim (holds_or b.marks a) [ inl h ↦ inr (entered a h) | inr n ↦ kept a n ] where
    place_at : (a : ℕ) → Has b a → new_places a ≡ b.place
    place_at a h = let m = mark_of b.marks a h in sym (ap new_places m.same) ∙ each_within _ b.marks m.mark p.0 m.within

    size_at : (a : ℕ) → Has b a → new_sizes a ≡ length b.marks
    size_at a h = let m = mark_of b.marks a h in sym (ap new_sizes m.same) ∙ each_within _ b.marks m.mark s.0 m.within

    entered : (a : ℕ) → Has b a → (0 < new_places a) × FirstHas (bs ++ b ∷ []) a (new_places a) (new_sizes a)
    entered a h = (
      let e = place_at a h in omega (arith, sound.begun),
      record {
        burst = b;
        within = within_last bs b;
        has = h;
        placed = place_at a h;
        sized = size_at a h;
        first = λ g w k. elim (within_next bs b g w) [
          | inl old ↦ absurd (none_shared zeros a g old k h)
          | inr e ↦ (let d : g.place ≡ b.place = ap (λ (x : Burst). x.place) e in omega (arith, place_at a h))
        ];
      },
    )

    absent : (a : ℕ) → (Has b a → ⊥) → Each (λ m. m.sym.0 ≢ a) b.marks
    absent a n = each_all _ b.marks (λ m w e. n (subst (Has b) e (holds_mark b.marks m w)))

    kept : (a : ℕ) → (Has b a → ⊥) → Stood (bs ++ b ∷ []) a (new_places a) (new_sizes a)
    kept a n = rw (p.1 a (absent a n), s.1 a (absent a n)) (stood_more a (places a) (sizes a) n (stood a))

  -- some of its symbols stood before

  module _ (low : ℕ) (some : 0 < low) (x : Mark) (has : Within b.marks x) (at : places x.sym.0 ≡ low) where
    there : FirstHas bs x.sym.0 (places x.sym.0) (sizes x.sym.0)
    there = elim (stood x.sym.0) [ inl n ↦ absurd (omega (arith, n.0)) | inr s ↦ s.1 ]

    -- the first burst that has it
    f : Burst
    f = there.burst

    f_place : f.place ≡ low
    unfolding f
    f_place = sym there.placed ∙ at

    f_within : Within bs f
    unfolding f
    f_within = there.within

    f_has : Has f x.sym.0
    unfolding f
    f_has = there.has

    f_size : sizes x.sym.0 ≡ length f.marks
    unfolding f
    f_size = there.sized

    is_f : (a : ℕ) → places a ≡ low → FirstHas bs a (places a) (sizes a) → (Has f a) × (sizes a ≡ length f.marks)
    is_f a e h =
        let same : h.burst ≡ f = one_place h.burst f a x.sym.0 h.within f_within h.has f_has (sym h.placed ∙ e ∙ sym f_place) in
        (subst (λ (g : Burst). Has g a) same h.has, h.sized ∙ ap (λ (g : Burst). length g.marks) same)

    -- all stood in that burst, which has as many

    in_f : Each (StoodAt places sizes low (length b.marks)) b.marks → (m : Mark) → Within b.marks m → Holds f.marks m.sym.0
    in_f all m w =
        let e = each_within _ b.marks m all w in
        elim (stood m.sym.0) [ inl n ↦ absurd (omega (arith, n.0, e.0)) | inr s ↦ (is_f m.sym.0 e.0 s.1).0 ]

    same_f : Each (StoodAt places sizes low (length b.marks)) b.marks → SameSet f b
    same_f all = λ a. (
      covers b.marks f.marks sound.own (in_f all) (omega (arith, f_size, (each_within _ b.marks x all has).1)) a,
      λ h. let m = mark_of b.marks a h in subst (Has f) m.same (in_f all m.mark m.within),
    )

    equal_all : EachTwo EqualOrDisjoint bs → Each (StoodAt places sizes low (length b.marks)) b.marks → Each (λ g. EqualOrDisjoint g b) bs
    equal_all apart all = each_all _ bs (λ g w. elim (two_cases EqualOrDisjoint bs g f apart w f_within) [
      | inl e ↦ inl (subst (λ (h : Burst). SameSet h b) (sym e) (same_f all))
      | inr o ↦ elim o [ inl d ↦ apart_on g f b d (same_f all) | inr d ↦ apart_on g f b (apart_back f g d) (same_f all) ]
    ])

    stood_again : Each (StoodAt places sizes low (length b.marks)) b.marks → StoodAll (bs ++ b ∷ []) places sizes
    stood_again all = λ a. elim (holds_or b.marks a) [
      | inl h ↦ inr (again a (stood_in a f f_within ((same_f all a).1 h)))
      | inr n ↦ stood_more a (places a) (sizes a) n (stood a)
    ] where
      again : (a : ℕ) → (0 < places a) × FirstHas bs a (places a) (sizes a) → (0 < places a) × FirstHas (bs ++ b ∷ []) a (places a) (sizes a)
      again a s = (
        s.0,
        record {
          burst = s.1.burst;
          within = within_front bs (b ∷ []) s.1.burst s.1.within;
          has = s.1.has;
          placed = s.1.placed;
          sized = s.1.sized;
          first = λ g w k. elim (within_next bs b g w) [
            | inl old ↦ s.1.first g old k
            | inr e ↦ (let d : g.place ≡ b.place = ap (λ (y : Burst). y.place) e in
                let l : s.1.burst.place + length s.1.burst.marks ≤ b.place = each_within _ bs s.1.burst sound.before s.1.within in
                omega (arith, s.1.placed))
          ];
        },
      )

    -- not all did

    module _ (least : Each (λ m. (places m.sym.0 ≡ 0) ⊎ (low ≤ places m.sym.0)) b.marks) where
      least_at : (a : ℕ) → Has b a → 0 < places a → low ≤ places a
      least_at a h more =
          let m = mark_of b.marks a h in
          let here : places m.mark.sym.0 ≡ places a = ap places m.same in
          elim (each_within _ b.marks m.mark least m.within) [ inl z ↦ absurd (omega (arith, here)) | inr l ↦ omega (arith, here) ]

      all_stood : SameSet f b → Each (StoodAt places sizes low (length b.marks)) b.marks
      all_stood same = each_all _ b.marks (λ m w. one m (holds_mark b.marks m w)) where
        one : (m : Mark) → Has b m.sym.0 → StoodAt places sizes low (length b.marks) m
        one m h =
            let s = stood_in m.sym.0 f f_within ((same m.sym.0).1 h) in
            let early : places m.sym.0 ≤ f.place = s.1.first f f_within ((same m.sym.0).1 h) in
            let e : places m.sym.0 ≡ low = omega (arith, f_place, least_at m.sym.0 h s.0) in
            (e, (is_f m.sym.0 e s.1).1 ∙ same_size f b (each_within _ bs f sound.distinct f_within) sound.own same)

      against : (Each (StoodAt places sizes low (length b.marks)) b.marks → ⊥)
          → First (Against bs b) (Some (record { place = b.place; case = 0; other = low }))
      against others = (
        record {
          first = f;
          within = f_within;
          overlap = record { symbol = x.sym.0; first = f_has; second = holds_mark b.marks x has; differ = λ same. others (all_stood same) };
          place = refl;
          other = sym f_place;
          case = refl;
        },
        λ d u p. (let y = u.overlap.symbol in
            let s = stood_in y u.first u.within u.overlap.first in
            let early : places y ≤ u.first.place = s.1.first u.first u.within u.overlap.first in
            let l = least_at y u.overlap.second s.0 in
            let at_place = u.place in
            let at_case = u.case in
            let at_other = u.other in
            omega (arith, p)),
      )

  -- What is told of the burst.

  pub met_none : (low : ℕ) (new_places new_sizes : ℕ → ℕ) → low ≡ 0 → Lowest places b.marks low → Enters places new_places b.place b.marks
      → Enters sizes new_sizes (length b.marks) b.marks → Met bs b new_places new_sizes None
  met_none low new_places new_sizes e l p s = elim l [
    | inl z ↦ (disjoint_all z.1, entered_all new_places new_sizes z.1 p s)
    | inr n ↦ absurd (omega (arith, n.0))
  ]

  pub met_same : (low : ℕ) → low ≢ 0 → Lowest places b.marks low → EachTwo EqualOrDisjoint bs → Each (StoodAt places sizes low (length b.marks)) b.marks
      → Met bs b places sizes None
  met_same low e l apart all = elim l [
    | inl z ↦ absurd (e z.0)
    | inr n ↦ (equal_all low n.0 n.1.0 n.1.1 n.1.2 apart all, stood_again low n.0 n.1.0 n.1.1 n.1.2 all)
  ]

  pub met_other : (low : ℕ) → low ≢ 0 → Lowest places b.marks low → (Each (StoodAt places sizes low (length b.marks)) b.marks → ⊥)
      → Met bs b places sizes (Some (record { place = b.place; case = 0; other = low }))
  met_other low e l others = elim l [
    | inl z ↦ absurd (e z.0)
    | inr n ↦ against low n.0 n.1.0 n.1.1 n.1.2 n.2 others
  ]

-- What is known after one more input burst.

no_overlap : (bs : List Burst) → EachTwo EqualOrDisjoint bs → (c : Clash) → OverlapAmong bs c → ⊥
no_overlap bs apart c o = apart_no_overlap o.first o.second (two_ordered EqualOrDisjoint bs o.first o.second apart o.order) o.overlap

pub knows_met : (bs : List Burst) (b : Burst) (places sizes : ℕ → ℕ) (result : Option Clash) → EachTwo EqualOrDisjoint bs → Met bs b places sizes result
    → KnowsOverlaps (bs ++ b ∷ []) places sizes result
knows_met bs b places sizes None apart met = (two_join EqualOrDisjoint bs b apart met.0, met.1)
knows_met bs b places sizes (Some c) apart met = (
  here met.0,
  λ d o. elim (order_next bs b o.first o.second o.order) [
    | inl old ↦ absurd (no_overlap bs apart d (record { first = o.first; second = o.second; order = old; overlap = o.overlap; place = o.place; other = o.other; case = o.case }))
    | inr last ↦ met.1 d (record {
      first = o.first;
      within = last.0;
      overlap = subst (Overlap o.first) last.1 o.overlap;
      place = o.place ∙ ap (λ (x : Burst). x.place) last.1;
      other = o.other;
      case = o.case;
    })
  ],
) where
  here : Against bs b c → OverlapAmong (bs ++ b ∷ []) c
  here a = record { first = a.first; second = b; order = order_last bs b a.first a.within; overlap = a.overlap; place = a.place; other = a.other; case = a.case }

pub knows_kept : (bs : List Burst) (b : Burst) (places sizes : ℕ → ℕ) (c : Clash) → Sound bs b → KnowsOverlaps bs places sizes (Some c)
    → KnowsOverlaps (bs ++ b ∷ []) places sizes (Some c)
knows_kept bs b places sizes c sound known = (
  record { first = o.first; second = o.second; order = order_front bs (b ∷ []) o.first o.second o.order; overlap = o.overlap; place = o.place; other = o.other; case = o.case },
  λ d u. elim (order_next bs b u.first u.second u.order) [
    | inl old ↦ known.1 d (record { first = u.first; second = u.second; order = old; overlap = u.overlap; place = u.place; other = u.other; case = u.case })
    | inr last ↦ later d u last.1
  ],
) where
  o : OverlapAmong bs c
  o = known.0

  before : c.place < b.place
  before =
      let ends : known.0.second.place + length known.0.second.marks ≤ b.place
      = each_within _ bs known.0.second sound.before (order_second bs known.0.first known.0.second known.0.order) in
      omega (arith, ends, known.0.place, some_marks known.0.second.marks known.0.overlap.symbol known.0.overlap.second)

  later : (d : Clash) (u : OverlapAmong (bs ++ b ∷ []) d) → u.second ≡ b → Precedes d c → ⊥
  later d u e p = let at : d.place ≡ b.place = u.place ∙ ap (λ (x : Burst). x.place) e in omega (arith, before, p)

-- where one was found, and where none was
pub knows_some : (bs : List Burst) (b : Burst) (places sizes : ℕ → ℕ) (found : Option Clash) → is_some found ≡ true → Sound bs b → KnowsOverlaps bs places sizes found
    → KnowsOverlaps (bs ++ b ∷ []) places sizes found
knows_some bs b places sizes None t sound known = absurd (true≢false (sym t))
knows_some bs b places sizes (Some c) t sound known = knows_kept bs b places sizes c sound known

pub knows_not : (bs : List Burst) (places sizes : ℕ → ℕ) (found : Option Clash) → is_some found ≡ false → KnowsOverlaps bs places sizes found
    → EachTwo EqualOrDisjoint bs × StoodAll bs places sizes
knows_not bs places sizes None f known = (known.0, known.1)
knows_not bs places sizes (Some c) f known = absurd (true≢false f)

pub knows_none : (places sizes : ℕ → ℕ) → ((a : ℕ) → places a ≡ 0) → KnowsOverlaps [] places sizes None
knows_none places sizes zeros = (tt, λ a. inl (zeros a, λ f w h. none_within f w))

pub knows_told : (bs : List Burst) (places sizes : ℕ → ℕ) (found : Option Clash) → KnowsOverlaps bs places sizes found → First (OverlapAmong bs) found
knows_told bs places sizes None known = no_overlap bs known.0
knows_told bs places sizes (Some c) known = known

pub overlap_of : (p : Proc) → (IsGrant p → ⊥) → (c : Clash) → OverlapAmong (inputs (bursts p)) c ↔ BreaksOverlaps p c
overlap_of p none c = (
  λ o. record { no_grant = none; first = o.first; second = o.second; order = o.order; overlap = o.overlap; place = o.place; other = o.other; case = o.case },
  λ o. record { first = o.first; second = o.second; order = o.order; overlap = o.overlap; place = o.place; other = o.other; case = o.case },
)

-- The input bursts among more bursts.

pub inputs_join : (bs cs : List Burst) → inputs (bs ++ cs) ≡ inputs bs ++ inputs cs
inputs_join [] cs = refl
inputs_join (b ∷ bs) cs = ap (if_input (dir_of b.marks) b) (inputs_join bs cs) ∙ more (dir_of b.marks) where
  more : (d : Dir) → if_input d b (inputs bs ++ inputs cs) ≡ if_input d b (inputs bs) ++ inputs cs
  more Input = refl
  more Output = refl

pub inputs_input : (bs : List Burst) (b : Burst) → dir_of b.marks ≡ Input → inputs (bs ++ b ∷ []) ≡ inputs bs ++ b ∷ []
inputs_input bs b e = inputs_join bs (b ∷ []) ∙ ap (λ (d : Dir). inputs bs ++ if_input d b []) e

pub inputs_output : (bs : List Burst) (b : Burst) → dir_of b.marks ≡ Output → inputs (bs ++ b ∷ []) ≡ inputs bs
inputs_output bs b e = inputs_join bs (b ∷ []) ∙ ap (λ (d : Dir). inputs bs ++ if_input d b []) e ∙ append-nil (inputs bs)

each_inputs : (P : Burst → Type 0) (bs : List Burst) → Each P bs → Each P (inputs bs)
each_inputs P [] h = tt
each_inputs P (b ∷ bs) h = by (dir_of b.marks) (each_inputs P bs h.1) where
  by : (d : Dir) → Each P (inputs bs) → Each P (if_input d b (inputs bs))
  by Input r = (h.0, r)
  by Output r = r

two_inputs : (R : Burst → Burst → Type 0) (bs : List Burst) → EachTwo R bs → EachTwo R (inputs bs)
two_inputs R [] h = tt
two_inputs R (b ∷ bs) h = by (dir_of b.marks) (two_inputs R bs h.1) where
  by : (d : Dir) → EachTwo R (inputs bs) → EachTwo R (if_input d b (inputs bs))
  by Input r = (each_inputs (R b) bs h.0, r)
  by Output r = r

laid_each : (k e : ℕ) (bs : List Burst) → Laid k bs e → Each (λ b. k ≤ b.place) bs
laid_each k e [] l = tt
laid_each k e (b ∷ bs) l = (l.0, each_map _ _ bs (λ c h. omega (arith, l.0)) (laid_each (b.place + length b.marks) e bs l.1))

laid_two : (k e : ℕ) (bs : List Burst) → Laid k bs e → EachTwo EndsBefore bs
laid_two k e [] l = tt
laid_two k e (b ∷ bs) l = (laid_each (b.place + length b.marks) e bs l.1, laid_two (b.place + length b.marks) e bs l.1)

laid_begins : (k e : ℕ) (bs : List Burst) → Laid k bs e → k ≤ e
laid_begins k e [] l = l
laid_begins k e (b ∷ bs) l = omega (arith, l.0, laid_begins (b.place + length b.marks) e bs l.1)

pub sound_inputs : (bs : List Burst) (b : Burst) (e : ℕ) → Laid 1 (bs ++ b ∷ []) e → Each IsSmall (bs ++ b ∷ []) → Each Distinct (bs ++ b ∷ []) → Sound (inputs bs) b
sound_inputs bs b e laid small distinct =
    let two = laid_two 1 e (bs ++ b ∷ []) laid in
    let at = laid_begins 1 b.place bs (laid_last 1 e bs b laid).0 in
    record {
      ordered = two_inputs EndsBefore bs (two_front EndsBefore bs (b ∷ []) two);
      before = each_inputs _ bs (two_last EndsBefore bs b two);
      distinct = each_inputs Distinct bs (each_front Distinct bs (b ∷ []) distinct);
      own = (each_back Distinct bs (b ∷ []) distinct).0;
      small = (each_back IsSmall bs (b ∷ []) small).0;
      begun = omega arith;
    }

pub even_distinct : (bs : List Burst) → Each Even bs → Each Distinct bs
even_distinct bs even = each_map Even Distinct bs (λ b e. e.differ) even

-- The rule is kept where nothing breaks it.

apart_or_overlap : (b c : Burst) → EqualOrDisjoint b c ⊎ Overlap b c
apart_or_overlap b c = by (one_in_or b.marks c.marks) (all_in_or b.marks c.marks) (all_in_or c.marks b.marks) where
  by : Disjoint b c ⊎ ((a : ℕ) × Has b a × Has c a) → ((a : ℕ) → Has b a → Has c a) ⊎ ((m : Mark) × Within b.marks m × (Has c m.sym.0 → ⊥))
      → ((a : ℕ) → Has c a → Has b a) ⊎ ((m : Mark) × Within c.marks m × (Has b m.sym.0 → ⊥)) → EqualOrDisjoint b c ⊎ Overlap b c
  by (inl d) f g = inl (inr d)
  by (inr s) (inl f) (inl g) = inl (inl (λ a. (f a, g a)))
  by (inr s) (inr f) g = inr (record { symbol = s.0; first = s.1; second = s.2; differ = λ same. f.2 ((same f.0.sym.0).0 (holds_mark b.marks f.0 f.1)) })
  by (inr s) (inl f) (inr g) = inr (record { symbol = s.0; first = s.1; second = s.2; differ = λ same. g.2 ((same g.0.sym.0).1 (holds_mark c.marks g.0 g.1)) })

pub keeps_overlaps : (p : Proc) → KeepsOverlaps p ↔ ((c : Clash) → BreaksOverlaps p c → ⊥)
keeps_overlaps p = (
  λ keeps c b. apart_no_overlap b.first b.second (two_ordered EqualOrDisjoint (inputs (bursts p)) b.first b.second (keeps b.no_grant) b.order) b.overlap,
  λ none no_grant. two_all EqualOrDisjoint (inputs (bursts p)) (λ b c order. elim (apart_or_overlap b c) [
    | inl e ↦ e
    | inr o ↦ absurd (none (record { place = c.place; case = 0; other = b.place })
        (record { no_grant = no_grant; first = b; second = c; order = order; overlap = o; place = refl; other = refl; case = refl }))
  ]),
)
