-- The first place of each direction among bursts whose places do not fall.
use Rattle.std.proofs.Common.{◌≡◌, ◌⊎◌, inl, inr, ℕ, ◌≤◌, List, [], ◌∷◌, Option, Some, refl, sym, ap, ◌∙◌, subst, arith}
use Rattle.cmd_tree.specs.declared.tree.Dir.{Dir}
use Rattle.cmd_tree.specs.declared.tree.Dir.TheVariants.{Input, Output}
use Rattle.tree_walk.specs.Bursts.{Burst, dir_of}
use Rattle.tree_walk.specs.declared.edges.ByDirection.{ByDirection}
use Rattle.tree_walk.specs.Edges.{if_input, if_output, first_input, first_output, by_direction}
use Rattle.di_grammar.specs.declared.clash.Clash.{Clash}
use Rattle.di_grammar.specs.Clashes.{Precedes, First}
use Rattle.di_grammar.specs.Lists.{Within}
use Rattle.di_grammar.specs.Mirror.Lesser.{lesser}
use Rattle.di_grammar.specs.Mirror.Stops.{Rises, Both, SameWay}
use Rattle.di_grammar.proofs.Covers.{first_covers}
use Rattle.di_grammar.proofs.Firsts.{first_either}
use Rattle.di_grammar.proofs.Lists.{within_first, within_more, none_within, within_cons}

pub input_output : Input ≡ Output → ⊥
input_output e = cc

-- the first place of a direction
abbrev pub first_of : Dir → List Burst → Option ℕ
first_of Input bs = first_input bs
first_of Output bs = first_output bs

-- a burst of the direction at the place
pub record Stood (d : Dir) (bs : List Burst) (k : ℕ) : Type 0 where
  pub burst : Burst
  pub within : Within bs burst
  pub way : dir_of burst.marks ≡ d
  pub at : k ≡ burst.place

stood_there : (d : Dir) (b : Burst) (bs : List Burst) (k : ℕ) → Stood d bs k → Stood d (b ∷ bs) k
stood_there d b bs k s = record { burst = s.burst; within = within_more b s.burst bs s.within; way = s.way; at = s.at }

stood_here : (d : Dir) (b : Burst) (bs : List Burst) (k : ℕ) → dir_of b.marks ≡ d → Some b.place ≡ Some k → Stood d (b ∷ bs) k
stood_here d b bs k way e = record { burst = b; within = within_first b bs; way = way; at = cc }

pub first_stood : (d : Dir) (bs : List Burst) (k : ℕ) → first_of d bs ≡ Some k → Stood d bs k
first_stood Input [] k e = absurd (cc)
first_stood Output [] k e = absurd (cc)
first_stood Input (b ∷ bs) k e = by (dir_of b.marks) refl (first_stood Input bs k) e where
  by : (w : Dir) → dir_of b.marks ≡ w → (first_input bs ≡ Some k → Stood Input bs k) → if_input w b.place (first_input bs) ≡ Some k → Stood Input (b ∷ bs) k
  by Input way later e = stood_here Input b bs k way e
  by Output way later e = stood_there Input b bs k (later e)
first_stood Output (b ∷ bs) k e = by (dir_of b.marks) refl (first_stood Output bs k) e where
  by : (w : Dir) → dir_of b.marks ≡ w → (first_output bs ≡ Some k → Stood Output bs k) → if_output w b.place (first_output bs) ≡ Some k → Stood Output (b ∷ bs) k
  by Input way later e = stood_there Output b bs k (later e)
  by Output way later e = stood_here Output b bs k way e

pub rises_low : (k : ℕ) (bs : List Burst) (b : Burst) → Rises k bs → Within bs b → k ≤ b.place
rises_low k [] b r w = absurd (none_within b w)
rises_low k (a ∷ bs) b r w = elim (within_cons a bs b w) [
  | inl e ↦ subst (λ (x : Burst). k ≤ x.place) (sym e) r.0
  | inr t ↦ let later = rises_low a.place bs b r.1 t in omega (arith, r.0)
]

-- the first place of the direction is no later than this burst
pub record Leads (d : Dir) (bs : List Burst) (b : Burst) : Type 0 where
  pub place : ℕ
  pub first : first_of d bs ≡ Some place
  pub low : place ≤ b.place

pub first_leads : (d : Dir) (k : ℕ) (bs : List Burst) (b : Burst) → Rises k bs → Within bs b → dir_of b.marks ≡ d → Leads d bs b
first_leads d k [] b r w way = absurd (none_within b w)
first_leads Input k (a ∷ bs) b r w way = by (dir_of a.marks) refl (λ t. first_leads Input a.place bs b r.1 t way) where
  by : (v : Dir) → dir_of a.marks ≡ v → (Within bs b → Leads Input bs b) → Leads Input (a ∷ bs) b
  by Input is later = record { place = a.place; first = ap (λ (v : Dir). if_input v a.place (first_input bs)) is; low = rises_low a.place (a ∷ bs) b (omega arith, r.1) w }
  by Output is later = elim (within_cons a bs b w) [
    | inl e ↦ absurd (input_output (sym way ∙ ap (λ (x : Burst). dir_of x.marks) e ∙ is))
    | inr t ↦ let l = later t in record { place = l.place; first = ap (λ (v : Dir). if_input v a.place (first_input bs)) is ∙ l.first; low = l.low }
  ]
first_leads Output k (a ∷ bs) b r w way = by (dir_of a.marks) refl (λ t. first_leads Output a.place bs b r.1 t way) where
  by : (v : Dir) → dir_of a.marks ≡ v → (Within bs b → Leads Output bs b) → Leads Output (a ∷ bs) b
  by Output is later = record { place = a.place; first = ap (λ (v : Dir). if_output v a.place (first_output bs)) is; low = rises_low a.place (a ∷ bs) b (omega arith, r.1) w }
  by Input is later = elim (within_cons a bs b w) [
    | inl e ↦ absurd (input_output (sym is ∙ sym (ap (λ (x : Burst). dir_of x.marks) e) ∙ way))
    | inr t ↦ let l = later t in record { place = l.place; first = ap (λ (v : Dir). if_output v a.place (first_output bs)) is ∙ l.first; low = l.low }
  ]

same_way : (d : Dir) (bs cs : List Burst) (c : Clash) → Both (first_of d bs) (first_of d cs) c → SameWay bs cs c
same_way d bs cs c b =
    let one = first_stood d bs c.place b.place in
    let other = first_stood d cs c.other b.other in
    record {
      one = one.burst;
      other = other.burst;
      within_one = one.within;
      within_other = other.within;
      same = one.way ∙ sym other.way;
      at_one = one.at;
      at_other = other.at;
      case = b.case;
    }

pub record Sooner (bs cs : List Burst) (d : Dir) (c : Clash) : Type 0 where
  pub clash : Clash
  pub both : Both (first_of d bs) (first_of d cs) clash
  pub before : Precedes c clash → ⊥

-- what is in the way of this clash
sooner : (bs cs : List Burst) → Rises 0 bs → Rises 0 cs → (c : Clash) (s : SameWay bs cs c) → Sooner bs cs (dir_of s.one.marks) c
sooner bs cs rise rises c s =
    let one = first_leads (dir_of s.one.marks) 0 bs s.one rise s.within_one refl in
    let other = first_leads (dir_of s.one.marks) 0 cs s.other rises s.within_other (sym s.same) in
    let clash : Clash = record { place = one.place; case = 0; other = other.place } in
    record {
      clash = clash;
      both = record { place = one.first; other = other.first; case = refl };
      before = λ p. omega (arith, s.at_one, s.at_other, s.case, one.low, other.low, p);
    }

pub same_way_first : (bs cs : List Burst) (f : Option Clash) → Rises 0 bs → Rises 0 cs
    → First (λ c. Both (first_input bs) (first_input cs) c ⊎ Both (first_output bs) (first_output cs) c) f → First (SameWay bs cs) f
same_way_first bs cs f rise rises =
    first_covers (λ c. Both (first_input bs) (first_input cs) c ⊎ Both (first_output bs) (first_output cs) c) (SameWay bs cs) f
    (λ c e. elim e [ inl b ↦ same_way Input bs cs c b | inr b ↦ same_way Output bs cs c b ])
    (λ c s. by c (dir_of s.one.marks) (sooner bs cs rise rises c s)) where
      by : (d : Clash) (w : Dir) → Sooner bs cs w d
          → (c : Clash) × (Both (first_input bs) (first_input cs) c ⊎ Both (first_output bs) (first_output cs) c) × (Precedes d c → ⊥)
      by d Input s = (s.clash, inl s.both, s.before)
      by d Output s = (s.clash, inr s.both, s.before)

pub same_way_of : (x y : ByDirection) (f g : Option Clash) (bs cs : List Burst) → First (Both x.input y.input) f → First (Both x.output y.output) g
    → x ≡ by_direction bs → y ≡ by_direction cs → Rises 0 bs → Rises 0 cs → First (SameWay bs cs) (lesser f g)
same_way_of x y f g bs cs h k a b rise rises =
    same_way_first bs cs (lesser f g) rise rises
    (first_either (Both (first_input bs) (first_input cs)) (Both (first_output bs) (first_output cs)) f g
    (subst (λ (z : ByDirection). First (Both z.input (first_input cs)) f) a (subst (λ (z : ByDirection). First (Both x.input z.input) f) b h))
    (subst (λ (z : ByDirection). First (Both z.output (first_output cs)) g) a (subst (λ (z : ByDirection). First (Both x.output z.output) g) b k)))
