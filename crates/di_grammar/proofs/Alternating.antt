-- The second and the third rule: what is told of them, and what it means that nothing is told.
use Rattle.std.proofs.Common.{◌≡◌, ◌≢◌, ◌↔◌, ℕ, Option, refl, sym}
use Rattle.cmd_tree.specs.declared.tree.Proc.{Proc}
use Rattle.tree_walk.specs.Bursts.{Burst, dir_of}
use Rattle.tree_walk.specs.Meetings.{Neighbours, neighbours, turn}
use Rattle.di_grammar.specs.declared.clash.Clash.{Clash}
use Rattle.di_grammar.specs.Clashes.{First}
use Rattle.di_grammar.specs.Lists.{Each, Within}
use Rattle.di_grammar.specs.Alternation.{Alternate, OneWay, KeepsNeighbours, BreaksNeighbours, KeepsRounds, BreaksRounds}
use Rattle.di_grammar.specs.Mirror.Stops.{Among, Meets, SameWay}
use Rattle.di_grammar.proofs.Firsts.{first_like}
use Rattle.di_grammar.proofs.Lists.{each_within, each_all}

meets_one_way : (n : Neighbours) (c : Clash) → Meets n c → OneWay n c.other c.place
meets_one_way n c m = record {
  one = m.other;
  other = m.one;
  ends = m.within_other;
  begins = m.within_one;
  same = sym m.same;
  last_place = m.at_other;
  first_place = m.at_one;
}

one_way_meets : (n : Neighbours) (c : Clash) → c.case ≡ 0 → OneWay n c.other c.place → Meets n c
one_way_meets n c case o = record {
  one = o.other;
  other = o.one;
  within_one = o.begins;
  within_other = o.ends;
  same = sym o.same;
  at_one = o.first_place;
  at_other = o.last_place;
  case = case;
}

pub told_neighbours : (p : Proc) (f : Option Clash) → First (Among Meets (neighbours p)) f → First (BreaksNeighbours p) f
told_neighbours p f = first_like (Among Meets (neighbours p)) (BreaksNeighbours p) f (λ c. (
  λ m. record { meeting = m.one; within = m.within; one_way = meets_one_way m.one c m.breaks; case = m.breaks.case },
  λ b. record { one = b.meeting; within = b.within; breaks = one_way_meets b.meeting c b.case b.one_way },
))

turns_one_way : (n : Neighbours) (c : Clash) → SameWay n.lasts n.firsts c → OneWay n c.place c.other
turns_one_way n c m = record {
  one = m.one;
  other = m.other;
  ends = m.within_one;
  begins = m.within_other;
  same = m.same;
  last_place = m.at_one;
  first_place = m.at_other;
}

one_way_turns : (n : Neighbours) (c : Clash) → c.case ≡ 0 → OneWay n c.place c.other → SameWay n.lasts n.firsts c
one_way_turns n c case o = record {
  one = o.one;
  other = o.other;
  within_one = o.ends;
  within_other = o.begins;
  same = o.same;
  at_one = o.last_place;
  at_other = o.first_place;
  case = case;
}

pub told_rounds : (p : Proc) (f : Option Clash) → First (SameWay (turn p).lasts (turn p).firsts) f → First (BreaksRounds p) f
told_rounds p f = first_like (SameWay (turn p).lasts (turn p).firsts) (BreaksRounds p) f (λ c. (
  λ m. record { one_way = turns_one_way (turn p) c m; case = m.case },
  λ b. one_way_turns (turn p) c b.case b.one_way,
))

alternate_not : (n : Neighbours) (last first : ℕ) → Alternate n → OneWay n last first → ⊥
alternate_not n last first each o =
    each_within (λ (y : Burst). dir_of o.one.marks ≢ dir_of y.marks) n.firsts
    o.other (each_within (λ (x : Burst). Each (λ (y : Burst). dir_of x.marks ≢ dir_of y.marks) n.firsts) n.lasts o.one each o.ends) o.begins o.same

alternate_if : (n : Neighbours) → ((last first : ℕ) → OneWay n last first → ⊥) → Alternate n
alternate_if n none = each_all (λ (x : Burst). Each (λ (y : Burst). dir_of x.marks ≢ dir_of y.marks) n.firsts) n.lasts (λ x ends.
    each_all (λ (y : Burst). dir_of x.marks ≢ dir_of y.marks) n.firsts (λ y begins same.
    none x.place y.place (record { one = x; other = y; ends = ends; begins = begins; same = same; last_place = refl; first_place = refl })))

pub keeps_neighbours : (p : Proc) → KeepsNeighbours p ↔ ((c : Clash) → BreaksNeighbours p c → ⊥)
keeps_neighbours p = (
  λ keeps c b. alternate_not b.meeting c.other c.place (each_within Alternate (neighbours p) b.meeting keeps b.within) b.one_way,
  λ none. each_all Alternate (neighbours p) (λ n within. alternate_if n (λ last first o. by n within last first o none)),
) where
  by : (n : Neighbours) → Within (neighbours p) n → (last first : ℕ) → OneWay n last first → ((c : Clash) → BreaksNeighbours p c → ⊥) → ⊥
  by n within last first o none =
      let c : Clash = record { place = first; case = 0; other = last } in
      none c (record { meeting = n; within = within; one_way = o; case = refl })

pub keeps_rounds : (p : Proc) → KeepsRounds p ↔ ((c : Clash) → BreaksRounds p c → ⊥)
keeps_rounds p = (λ keeps c b. alternate_not (turn p) c.place c.other keeps b.one_way, λ none. alternate_if (turn p) (λ last first o. by last first o none)) where
  by : (last first : ℕ) → OneWay (turn p) last first → ((c : Clash) → BreaksRounds p c → ⊥) → ⊥
  by last first o none =
      let c : Clash = record { place = last; case = 0; other = first } in
      none c (record { one_way = o; case = refl })
