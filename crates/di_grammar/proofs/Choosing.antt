-- The fourth rule: what is told of it, and what it means that nothing is told.
use Rattle.std.proofs.Common.{◌≡◌, ◌≢◌, ◌⊎◌, inl, inr, ◌↔◌, ℕ, ◌+◌, max, min, List, [], ◌∷◌, ◌++◌, Option, Some, None, refl, sym, ap, ◌∙◌, subst, arith}
use Rattle.cmd_tree.specs.declared.tree.Dir.{Dir}
use Rattle.cmd_tree.specs.declared.tree.Dir.TheVariants.{Input, Output}
use Rattle.cmd_tree.specs.declared.tree.Proc.{Proc}
use Rattle.cmd_tree.specs.Tree.{TSeqs, Stop, Or, places_of}
use Rattle.tree_walk.specs.declared.edges.ByDirection.{ByDirection}
use Rattle.tree_walk.specs.Bursts.{Burst, dir_of, firsts_of, firsts_among, lasts_of, lasts_among}
use Rattle.tree_walk.specs.Edges.{if_input, if_output, first_input, first_output, by_direction}
use Rattle.tree_walk.specs.Meetings.{Alternative, alternatives, choices}
use Rattle.di_grammar.specs.declared.clash.Clash.{Clash}
use Rattle.di_grammar.specs.Clashes.{Precedes, First}
use Rattle.di_grammar.specs.Lists.{Each, Within}
use Rattle.di_grammar.specs.Grants.{IsGrant}
use Rattle.di_grammar.specs.Choices.{all_firsts, all_lasts, IsChoice, KeepsChoices, BeginsWithOutput, EndsApart, BreaksChoices}
use Rattle.di_grammar.specs.Mirror.Lesser.{lesser}
use Rattle.di_grammar.specs.Mirror.Stops.{Among, Rises, Both, Apart, IsBroken}
use Rattle.di_grammar.proofs.Firsts.{first_like, first_either}
use Rattle.di_grammar.proofs.Covers.{first_covers}
use Rattle.di_grammar.proofs.Leading.{Stood, first_stood, first_leads, rises_low, input_output}
use Rattle.di_grammar.proofs.Lists.{each_within, each_all}

pub firsts_alternatives : (k : ℕ) (ss : TSeqs) → all_firsts (alternatives k ss) ≡ firsts_among k ss
firsts_alternatives k Stop = refl
firsts_alternatives k (Or s ss) = ap (λ (bs : List Burst). firsts_of k s ++ bs) (firsts_alternatives (k + places_of s) ss)

pub lasts_alternatives : (k : ℕ) (ss : TSeqs) → all_lasts (alternatives k ss) ≡ lasts_among k ss
lasts_alternatives k Stop = refl
lasts_alternatives k (Or s ss) = ap (λ (bs : List Burst). lasts_of k s ++ bs) (lasts_alternatives (k + places_of s) ss)

begins_here : (choice : List Alternative) (c : Clash) → Both (first_output (all_firsts choice)) (first_output (all_firsts choice)) c → BeginsWithOutput choice c
begins_here choice c b =
    let s = first_stood Output (all_firsts choice) c.place b.place in
    let one : c.other ≡ c.place = by (first_output (all_firsts choice)) b.place b.other in
    record { burst = s.burst; within = s.within; output = s.way; place = s.at; other = one ∙ s.at; case = b.case } where
      by : (o : Option ℕ) → o ≡ Some c.place → o ≡ Some c.other → c.other ≡ c.place
      by o p q = cc

pub begins_first : (choice : List Alternative) (f : Option Clash) → Rises 0 (all_firsts choice)
    → First (Both (first_output (all_firsts choice)) (first_output (all_firsts choice))) f → First (BeginsWithOutput choice) f
begins_first choice f rise =
    first_covers (Both (first_output (all_firsts choice)) (first_output (all_firsts choice))) (BeginsWithOutput choice) f (begins_here choice) (λ d b.
    let l = first_leads Output 0 (all_firsts choice) b.burst rise b.within b.output in
    let clash : Clash = record { place = l.place; case = 0; other = l.place } in
    (clash, record { place = l.first; other = l.first; case = refl }, λ p. omega (arith, b.place, b.other, b.case, l.low, p)))

ends_here : (choice : List Alternative) (c : Clash) (x : Burst) (xs : List Burst) → all_lasts choice ≡ x ∷ xs → Rises x.place xs
    → (v w : Dir) → dir_of x.marks ≡ v → (w ≡ v → ⊥) → (later : ℕ) → Stood w xs later
    → c.place ≡ max x.place later → c.other ≡ min x.place later → c.case ≡ 1 → EndsApart choice c
ends_here choice c x xs are rise v w way ne later s place other case =
    let low = rises_low x.place xs s.burst rise s.within in
    record {
      first = x;
      rest = xs;
      are = are;
      burst = s.burst;
      within = s.within;
      differ = λ same. ne (sym s.way ∙ same ∙ way);
      place = omega (arith, place, low, s.at);
      other = omega (arith, other, low, s.at);
      case = case;
    }

apart_ends : (choice : List Alternative) (c : Clash) → Rises 0 (all_lasts choice)
    → Apart (first_input (all_lasts choice)) (first_output (all_lasts choice)) c → EndsApart choice c
apart_ends choice c = by (all_lasts choice) refl where
  some_same : (j k : ℕ) → Some j ≡ Some k → j ≡ k
  some_same j k e = cc

  at : (x : Burst) (xs : List Burst) → all_lasts choice ≡ x ∷ xs → Rises x.place xs → (v : Dir) → dir_of x.marks ≡ v
      → Apart (if_input v x.place (first_input xs)) (if_output v x.place (first_output xs)) c → EndsApart choice c
  at x xs are rise Input way a =
      let here = some_same x.place a.input a.has_input in
      ends_here choice c x xs are rise Input Output way (λ e. input_output (sym e)) a.output (first_stood Output xs a.output a.has_output)
      (omega (arith, a.place, here)) (omega (arith, a.other, here)) a.case
  at x xs are rise Output way a =
      let here = some_same x.place a.output a.has_output in
      ends_here choice c x xs are rise Output Input way input_output a.input (first_stood Input xs a.input a.has_input)
      (omega (arith, a.place, here)) (omega (arith, a.other, here)) a.case

  by : (xs : List Burst) → all_lasts choice ≡ xs → Rises 0 xs → Apart (first_input xs) (first_output xs) c → EndsApart choice c
  by [] are rise a = absurd (none a.input a.has_input) where
    none : (k : ℕ) → None ≡ Some k → ⊥
    none k e = cc
  by (x ∷ xs) are rise a = at x xs are rise.1 (dir_of x.marks) refl a

pub record Nearer (inputs outputs : Option ℕ) (d : Clash) : Type 0 where
  pub clash : Clash
  pub apart : Apart inputs outputs clash
  pub before : Precedes d clash → ⊥

ends_nearer : (choice : List Alternative) (d : Clash) → Rises 0 (all_lasts choice) → EndsApart choice d
    → Nearer (first_input (all_lasts choice)) (first_output (all_lasts choice)) d
ends_nearer choice d rise e = subst (λ (bs : List Burst). Nearer (first_input bs) (first_output bs) d) (sym e.are)
    (by (subst (Rises 0) e.are rise).1 (dir_of e.first.marks) refl (dir_of e.burst.marks) refl e.differ) where
      by : Rises e.first.place e.rest → (v : Dir) → dir_of e.first.marks ≡ v → (w : Dir) → dir_of e.burst.marks ≡ w
          → (dir_of e.burst.marks ≡ dir_of e.first.marks → ⊥)
          → Nearer (if_input (dir_of e.first.marks) e.first.place (first_input e.rest)) (if_output (dir_of e.first.marks) e.first.place (first_output e.rest)) d
      by rise Input p Input q ne = absurd (ne (q ∙ sym p))
      by rise Output p Output q ne = absurd (ne (q ∙ sym p))
      by rise Input p Output q ne =
          let l = first_leads Output e.first.place e.rest e.burst rise e.within q in
          let s = first_stood Output e.rest l.place l.first in
          let low = rises_low e.first.place e.rest s.burst rise s.within in
          let clash : Clash = record { place = l.place; case = 1; other = e.first.place } in
          record {
            clash = clash;
            apart = record {
              input = e.first.place;
              output = l.place;
              has_input = ap (λ (v : Dir). if_input v e.first.place (first_input e.rest)) p;
              has_output = ap (λ (v : Dir). if_output v e.first.place (first_output e.rest)) p ∙ l.first;
              place = omega (arith, low, s.at);
              other = omega (arith, low, s.at);
              case = refl;
            };
            before = λ r. omega (arith, e.place, e.other, e.case, l.low, r);
          }
      by rise Output p Input q ne =
          let l = first_leads Input e.first.place e.rest e.burst rise e.within q in
          let s = first_stood Input e.rest l.place l.first in
          let low = rises_low e.first.place e.rest s.burst rise s.within in
          let clash : Clash = record { place = l.place; case = 1; other = e.first.place } in
          record {
            clash = clash;
            apart = record {
              input = l.place;
              output = e.first.place;
              has_input = ap (λ (v : Dir). if_input v e.first.place (first_input e.rest)) p ∙ l.first;
              has_output = ap (λ (v : Dir). if_output v e.first.place (first_output e.rest)) p;
              place = omega (arith, low, s.at);
              other = omega (arith, low, s.at);
              case = refl;
            };
            before = λ r. omega (arith, e.place, e.other, e.case, l.low, r);
          }

pub ends_first : (choice : List Alternative) (f : Option Clash) → Rises 0 (all_lasts choice)
    → First (Apart (first_input (all_lasts choice)) (first_output (all_lasts choice))) f → First (EndsApart choice) f
ends_first choice f rise =
    first_covers (Apart (first_input (all_lasts choice)) (first_output (all_lasts choice))) (EndsApart choice) f (λ c a. apart_ends choice c rise a)
    (λ d e. let n = ends_nearer choice d rise e in (n.clash, n.apart, n.before))

pub broken_first : (choice : List Alternative) (x y : ByDirection) (f g : Option Clash) → First (Both x.output x.output) f → First (Apart y.input y.output) g
    → x ≡ by_direction (all_firsts choice) → y ≡ by_direction (all_lasts choice) → Rises 0 (all_firsts choice) → Rises 0 (all_lasts choice)
    → First (IsBroken choice) (lesser f g)
broken_first choice x y f g h k a b rise rises = first_either (BeginsWithOutput choice) (EndsApart choice) f g
    (begins_first choice f rise (subst (λ (z : ByDirection). First (Both z.output z.output) f) a h))
    (ends_first choice g rises (subst (λ (z : ByDirection). First (Apart z.input z.output) g) b k))

pub told_choices : (p : Proc) (f : Option Clash) → (IsGrant p → ⊥) → First (Among IsBroken (choices p)) f → First (BreaksChoices p) f
told_choices p f no_grant = first_like (Among IsBroken (choices p)) (BreaksChoices p) f (λ c. (
  λ m. record { no_grant = no_grant; choice = m.one; within = m.within; broken = m.breaks },
  λ b. record { one = b.choice; within = b.within; breaks = b.broken },
))

same_or : (v w : Dir) → (v ≡ w) ⊎ (v ≢ w)
same_or Input Input = inl refl
same_or Output Output = inl refl
same_or Input Output = inr input_output
same_or Output Input = inr (λ e. input_output (sym e))

choice_whole : (choice : List Alternative) (c : Clash) → IsChoice choice → IsBroken choice c → ⊥
choice_whole choice c is (inl b) = input_output (sym (each_within (λ (x : Burst). dir_of x.marks ≡ Input) (all_firsts choice) b.burst is.asks b.within) ∙ b.output)
choice_whole choice c is (inr e) =
    let each = subst (Each (λ (x : Burst). dir_of x.marks ≡ is.end)) e.are is.ends in
    e.differ (each_within (λ (x : Burst). dir_of x.marks ≡ is.end) e.rest e.burst each.1 e.within ∙ sym each.0)

whole_choice : (choice : List Alternative) → ((c : Clash) → IsBroken choice c → ⊥) → IsChoice choice
whole_choice choice none = by (all_lasts choice) refl where
  asks : (b : Burst) → Within (all_firsts choice) b → (w : Dir) → dir_of b.marks ≡ w → dir_of b.marks ≡ Input
  asks b within Input way = way
  asks b within Output way =
      let c : Clash = record { place = b.place; case = 0; other = b.place } in
      absurd (none c (inl (record { burst = b; within = within; output = way; place = refl; other = refl; case = refl })))

  begins : Each (λ (x : Burst). dir_of x.marks ≡ Input) (all_firsts choice)
  begins = each_all (λ (x : Burst). dir_of x.marks ≡ Input) (all_firsts choice) (λ b within. asks b within (dir_of b.marks) refl)

  ends : (x : Burst) (xs : List Burst) → all_lasts choice ≡ x ∷ xs → (b : Burst) → Within xs b → dir_of b.marks ≡ dir_of x.marks
  ends x xs are b within = elim (same_or (dir_of b.marks) (dir_of x.marks)) [
    | inl e ↦ e
    | inr ne ↦ let c : Clash = record { place = b.place; case = 1; other = x.place } in
        absurd (none c (inr (record { first = x; rest = xs; are = are; burst = b; within = within; differ = ne; place = refl; other = refl; case = refl })))
  ]

  by : (xs : List Burst) → all_lasts choice ≡ xs → IsChoice choice
  by [] are = record { asks = begins; end = Input; ends = subst (Each (λ (x : Burst). dir_of x.marks ≡ Input)) (sym are) tt }
  by (x ∷ xs) are = record {
    asks = begins;
    end = dir_of x.marks;
    ends = subst (Each (λ (y : Burst). dir_of y.marks ≡ dir_of x.marks)) (sym are)
        (refl, each_all (λ (y : Burst). dir_of y.marks ≡ dir_of x.marks) xs (ends x xs are));
  }

pub keeps_choices : (p : Proc) → KeepsChoices p ↔ ((c : Clash) → BreaksChoices p c → ⊥)
keeps_choices p = (
  λ keeps c b. choice_whole b.choice c (each_within IsChoice (choices p) b.choice (keeps b.no_grant) b.within) b.broken,
  λ none no_grant. each_all IsChoice (choices p) (λ choice within. whole_choice choice (λ c broken.
      none c (record { no_grant = no_grant; choice = choice; within = within; broken = broken }))),
)
