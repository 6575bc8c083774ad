-- Equal first bursts of one choice stand in different alternatives of it, or of a choice within it.
use Rattle.std.proofs.Common.{◌⊎◌, inl, inr, ◌↔◌, ℕ, ◌+◌, List, [], ◌∷◌, ◌++◌, Option, refl, sym, ap, ◌∙◌, subst}
use Rattle.cmd_tree.specs.declared.tree.Proc.{Proc}
use Rattle.cmd_tree.specs.Tree.{TItem, TSeq, TSeqs, TBurst, TAlt, Stop, Or, Done, Then, places_of, places_in}
use Rattle.tree_walk.specs.Bursts.{Burst, text_of, firsts_of, firsts_in, firsts_among, lasts_of}
use Rattle.tree_walk.specs.Meetings.{Alternative, alternatives, choices_of, choices_in, choices_among, choices}
use Rattle.di_grammar.specs.declared.clash.Clash.{Clash}
use Rattle.di_grammar.specs.Bursts.{SameSet}
use Rattle.di_grammar.specs.Choices.{all_firsts}
use Rattle.di_grammar.specs.Clashes.{First}
use Rattle.di_grammar.specs.Grants.{IsGrant}
use Rattle.di_grammar.specs.Lists.{Each, EachTwo, Within, InOrder}
use Rattle.di_grammar.specs.Twins.{Differ, KeepsTwins, BreaksTwins}
use Rattle.di_grammar.specs.Mirror.Stops.{Among}
use Rattle.di_grammar.specs.Mirror.Twins.{HasTwins}
use Rattle.di_grammar.proofs.Choosing.{firsts_alternatives}
use Rattle.di_grammar.proofs.Firsts.{first_like}
use Rattle.di_grammar.proofs.Lists.{within_first, within_more, none_within, within_cons, within_one, within_front, within_back, within_join, each_within, each_all, order_cons, order_none, order_one, order_here, order_there, order_right, order_across, order_append, two_ordered, two_all}

-- x begins an alternative, and y a later one
pub record Across (choice : List Alternative) (x y : Burst) : Type 0 where
  pub one : Alternative
  pub other : Alternative
  pub order : InOrder choice one other
  pub begins_one : Within one.firsts x
  pub begins_other : Within other.firsts y

within_firsts : (choice : List Alternative) (a : Alternative) (x : Burst) → Within choice a → Within a.firsts x → Within (all_firsts choice) x
within_firsts [] a x w b = absurd (none_within a w)
within_firsts (c ∷ choice) a x w b = elim (within_cons c choice a w) [
  | inl e ↦ within_front c.firsts (all_firsts choice) x (subst (λ (d : Alternative). Within d.firsts x) e b)
  | inr t ↦ within_back c.firsts (all_firsts choice) x (within_firsts choice a x t b)
]

across_order : (choice : List Alternative) (x y : Burst) (one other : Alternative) → InOrder choice one other → Within one.firsts x → Within other.firsts y
    → InOrder (all_firsts choice) x y
across_order [] x y one other o b c = absurd (order_none one other o)
across_order (a ∷ choice) x y one other o b c = elim (order_cons a choice one other o) [
  | inl p ↦ order_across a.firsts (all_firsts choice) x y (subst (λ (d : Alternative). Within d.firsts x) p.0 b) (within_firsts choice other y p.1 c)
  | inr t ↦ order_right a.firsts (all_firsts choice) x y (across_order choice x y one other t b c)
]

-- one of these choices has x and y across
pub record Deep (cs : List (List Alternative)) (x y : Burst) : Type 0 where
  pub choice : List Alternative
  pub within : Within cs choice
  pub across : Across choice x y

deep_left : (cs ds : List (List Alternative)) (x y : Burst) → Deep cs x y → Deep (cs ++ ds) x y
deep_left cs ds x y d = record { choice = d.choice; within = within_front cs ds d.choice d.within; across = d.across }

deep_right : (cs ds : List (List Alternative)) (x y : Burst) → Deep ds x y → Deep (cs ++ ds) x y
deep_right cs ds x y d = record { choice = d.choice; within = within_back cs ds d.choice d.within; across = d.across }

-- the alternative that a first burst begins
record Begun (choice : List Alternative) (y : Burst) : Type 0 where
  alternative : Alternative
  within : Within choice alternative
  begins : Within alternative.firsts y

begun : (choice : List Alternative) (y : Burst) → Within (all_firsts choice) y → Begun choice y
begun [] y w = absurd (none_within y w)
begun (a ∷ choice) y w = elim (within_join a.firsts (all_firsts choice) y w) [
  | inl h ↦ record { alternative = a; within = within_first a choice; begins = h }
  | inr t ↦ let b = begun choice y t in record { alternative = b.alternative; within = within_more a b.alternative choice b.within; begins = b.begins }
]

across_there : (a : Alternative) (choice : List Alternative) (x y : Burst) → Across choice x y → Across (a ∷ choice) x y
across_there a choice x y c = record {
  one = c.one;
  other = c.other;
  order = order_there a choice c.one c.other c.order;
  begins_one = c.begins_one;
  begins_other = c.begins_other;
}

across_here : (a : Alternative) (choice : List Alternative) (x y : Burst) → Within a.firsts x → Within (all_firsts choice) y → Across (a ∷ choice) x y
across_here a choice x y w v =
    let b = begun choice y v in
    record { one = a; other = b.alternative; order = order_here a choice b.alternative b.within; begins_one = w; begins_other = b.begins }

either_deep : (cs : List (List Alternative)) (choice : List Alternative) (x y : Burst) → Across choice x y ⊎ Deep cs x y → Deep (cs ++ choice ∷ []) x y
either_deep cs choice x y (inl a) = record { choice = choice; within = within_back cs (choice ∷ []) choice (within_first choice []); across = a }
either_deep cs choice x y (inr d) = deep_left cs (choice ∷ []) x y d

among_deep : (k : ℕ) (s : TSeq) (ss : TSeqs) (x y : Burst) → Across (alternatives (k + places_of s) ss) x y ⊎ Deep (choices_among (k + places_of s) ss) x y
    → Across (alternatives k (Or s ss)) x y ⊎ Deep (choices_among k (Or s ss)) x y
among_deep k s ss x y (inl a) = inl (across_there (record { firsts = firsts_of k s; lasts = lasts_of k s }) (alternatives (k + places_of s) ss) x y a)
among_deep k s ss x y (inr d) = inr (deep_right (choices_of k s) (choices_among (k + places_of s) ss) x y d)

-- two first bursts of a tree stand across in one of its choices
mutual
  apart_of : (k : ℕ) (s : TSeq) (x y : Burst) → InOrder (firsts_of k s) x y → Deep (choices_of k s) x y
  apart_of k Done x y o = absurd (order_none x y o)
  apart_of k (Then i s) x y o = deep_left (choices_in k i) (choices_of (k + places_in i) s) x y (apart_in k i x y o)

  apart_in : (k : ℕ) (i : TItem) (x y : Burst) → InOrder (firsts_in k i) x y → Deep (choices_in k i) x y
  apart_in k (TBurst ms) x y o = absurd (order_one (record { place = k; marks = ms }) x y o)
  apart_in k (TAlt ss) x y o = either_deep (choices_among k ss) (alternatives k ss) x y (apart_among k ss x y o)

  apart_among : (k : ℕ) (ss : TSeqs) (x y : Burst) → InOrder (firsts_among k ss) x y → Across (alternatives k ss) x y ⊎ Deep (choices_among k ss) x y
  apart_among k Stop x y o = absurd (order_none x y o)
  apart_among k (Or s ss) x y o = elim (order_append (firsts_of k s) (firsts_among (k + places_of s) ss) x y o) [
    | inl a ↦ inr (deep_left (choices_of k s) (choices_among (k + places_of s) ss) x y (apart_of k s x y a))
    | inr e ↦ elim e [
      | inl b ↦ inl (across_here (record { firsts = firsts_of k s; lasts = lasts_of k s }) (alternatives (k + places_of s) ss) x y b.0
          (subst (λ (bs : List Burst). Within bs y) (sym (firsts_alternatives (k + places_of s) ss)) b.1))
      | inr c ↦ among_deep k s ss x y (apart_among (k + places_of s) ss x y c)
    ]
  ]

-- so in each of its choices two first bursts do
mutual
  deep_of : (k : ℕ) (s : TSeq) (choice : List Alternative) (x y : Burst) → Within (choices_of k s) choice → InOrder (all_firsts choice) x y → Deep (choices_of k s) x y
  deep_of k Done choice x y w o = absurd (none_within choice w)
  deep_of k (Then i s) choice x y w o = elim (within_join (choices_in k i) (choices_of (k + places_in i) s) choice w) [
    | inl l ↦ deep_left (choices_in k i) (choices_of (k + places_in i) s) x y (deep_in k i choice x y l o)
    | inr r ↦ deep_right (choices_in k i) (choices_of (k + places_in i) s) x y (deep_of (k + places_in i) s choice x y r o)
  ]

  deep_in : (k : ℕ) (i : TItem) (choice : List Alternative) (x y : Burst) → Within (choices_in k i) choice → InOrder (all_firsts choice) x y → Deep (choices_in k i) x y
  deep_in k (TBurst ms) choice x y w o = absurd (none_within choice w)
  deep_in k (TAlt ss) choice x y w o = elim (within_join (choices_among k ss) (alternatives k ss ∷ []) choice w) [
    | inl l ↦ deep_left (choices_among k ss) (alternatives k ss ∷ []) x y (deep_among k ss choice x y l o)
    | inr r ↦ apart_in k (TAlt ss) x y (subst (λ (bs : List Burst). InOrder bs x y)
        (ap all_firsts (within_one (alternatives k ss) choice r) ∙ firsts_alternatives k ss) o)
  ]

  deep_among : (k : ℕ) (ss : TSeqs) (choice : List Alternative) (x y : Burst) → Within (choices_among k ss) choice → InOrder (all_firsts choice) x y
      → Deep (choices_among k ss) x y
  deep_among k Stop choice x y w o = absurd (none_within choice w)
  deep_among k (Or s ss) choice x y w o = elim (within_join (choices_of k s) (choices_among (k + places_of s) ss) choice w) [
    | inl l ↦ deep_left (choices_of k s) (choices_among (k + places_of s) ss) x y (deep_of k s choice x y l o)
    | inr r ↦ deep_right (choices_of k s) (choices_among (k + places_of s) ss) x y (deep_among (k + places_of s) ss choice x y r o)
  ]

twins_breaks : (p : Proc) (c : Clash) → (IsGrant p → ⊥) → Among HasTwins (choices p) c → BreaksTwins p c
twins_breaks p c no_grant m =
    let t = m.breaks in
    let d = deep_of 1 (text_of p) m.one t.first t.second m.within t.order in
    record {
      no_grant = no_grant;
      choice = d.choice;
      within = d.within;
      one = d.across.one;
      other = d.across.other;
      order = d.across.order;
      first = t.first;
      second = t.second;
      begins_one = d.across.begins_one;
      begins_other = d.across.begins_other;
      same = t.same;
      place = t.place;
      earlier = t.other;
      case = t.case;
    }

breaks_twins : (p : Proc) (c : Clash) → BreaksTwins p c → Among HasTwins (choices p) c
breaks_twins p c b = record {
  one = b.choice;
  within = b.within;
  breaks = record {
    first = b.first;
    second = b.second;
    order = across_order b.choice b.first b.second b.one b.other b.order b.begins_one b.begins_other;
    same = b.same;
    place = b.place;
    other = b.earlier;
    case = b.case;
  };
}

pub told_twins : (p : Proc) (f : Option Clash) → (IsGrant p → ⊥) → First (Among HasTwins (choices p)) f → First (BreaksTwins p) f
told_twins p f no_grant = first_like (Among HasTwins (choices p)) (BreaksTwins p) f (λ c. (twins_breaks p c no_grant, breaks_twins p c))

pub keeps_twins : (p : Proc) → KeepsTwins p ↔ ((c : Clash) → BreaksTwins p c → ⊥)
keeps_twins p = (keeps, λ none no_grant. each_all (EachTwo Differ) (choices p) (λ choice within. differs none no_grant choice within)) where
  keeps : KeepsTwins p → (c : Clash) → BreaksTwins p c → ⊥
  keeps k c b =
      let two = each_within (EachTwo Differ) (choices p) b.choice (k b.no_grant) b.within in
      let differ = two_ordered Differ b.choice b.one b.other two b.order in
      each_within (λ (y : Burst). SameSet b.first y → ⊥) b.other.firsts
      b.second (each_within (λ (x : Burst). Each (λ (y : Burst). SameSet x y → ⊥) b.other.firsts) b.one.firsts b.first differ b.begins_one) b.begins_other b.same

  none_same : ((c : Clash) → BreaksTwins p c → ⊥) → (IsGrant p → ⊥) → (choice : List Alternative) → Within (choices p) choice
      → (one other : Alternative) → InOrder choice one other → (x : Burst) → Within one.firsts x → (y : Burst) → Within other.firsts y → SameSet x y → ⊥
  none_same none no_grant choice within one other order x begins y begins_other same =
      let c : Clash = record { place = y.place; case = 0; other = x.place } in
      none c (record {
        no_grant = no_grant;
        choice = choice;
        within = within;
        one = one;
        other = other;
        order = order;
        first = x;
        second = y;
        begins_one = begins;
        begins_other = begins_other;
        same = same;
        place = refl;
        earlier = refl;
        case = refl;
      })

  differs : ((c : Clash) → BreaksTwins p c → ⊥) → (IsGrant p → ⊥) → (choice : List Alternative) → Within (choices p) choice → EachTwo Differ choice
  differs none no_grant choice within = two_all Differ choice (λ one other order.
      each_all (λ (x : Burst). Each (λ (y : Burst). SameSet x y → ⊥) other.firsts) one.firsts (λ x begins.
      each_all (λ (y : Burst). SameSet x y → ⊥) other.firsts (λ y begins_other. none_same none no_grant choice within one other order x begins y begins_other)))
