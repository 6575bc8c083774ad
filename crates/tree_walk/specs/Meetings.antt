-- Where bursts come after one another, and where a process chooses.
use Rattle.std.specs.Prelude.{ℕ, ◌+◌, List, [], ◌∷◌, ◌++◌}
use Rattle.cmd_tree.specs.declared.tree.Proc.{Proc}
use Rattle.cmd_tree.specs.Tree.{TItem, TSeq, TSeqs, TBurst, TAlt, Stop, Or, Done, Then, places_of, places_in}
use Rattle.tree_walk.specs.Bursts.{Burst, firsts_of, firsts_in, lasts_of, lasts_in, part, text_of, body_place}

-- Neighbours: after one of the bursts `lasts` comes one of the bursts `firsts`.
pub record Neighbours : Type 0 where
  pub lasts : List Burst
  pub firsts : List Burst

-- An alternative of a choice, by its first bursts and its last bursts.
pub record Alternative : Type 0 where
  pub firsts : List Burst
  pub lasts : List Burst

-- the neighbours in a tree that begins at place k and comes after one of the bursts `before`
abbrev mutual
  pub neighbours_of : List Burst → ℕ → TSeq → List Neighbours
  neighbours_of before k Done = []
  neighbours_of before k (Then i s) = neighbours_in k i ++ record { lasts = before; firsts = firsts_in k i } ∷ neighbours_of (lasts_in k i) (k + places_in i) s

  pub neighbours_in : ℕ → TItem → List Neighbours
  neighbours_in k (TBurst ms) = []
  neighbours_in k (TAlt ss) = neighbours_among k ss

  pub neighbours_among : ℕ → TSeqs → List Neighbours
  neighbours_among k Stop = []
  neighbours_among k (Or s ss) = neighbours_of [] k s ++ neighbours_among (k + places_of s) ss

-- the alternatives of a choice that begins at place k
abbrev pub alternatives : ℕ → TSeqs → List Alternative
alternatives k Stop = []
alternatives k (Or s ss) = record { firsts = firsts_of k s; lasts = lasts_of k s } ∷ alternatives (k + places_of s) ss

-- the choices in a tree that begins at place k, each after those within it
abbrev mutual
  pub choices_of : ℕ → TSeq → List (List Alternative)
  choices_of k Done = []
  choices_of k (Then i s) = choices_in k i ++ choices_of (k + places_in i) s

  pub choices_in : ℕ → TItem → List (List Alternative)
  choices_in k (TBurst ms) = []
  choices_in k (TAlt ss) = choices_among k ss ++ alternatives k ss ∷ []

  pub choices_among : ℕ → TSeqs → List (List Alternative)
  choices_among k Stop = []
  choices_among k (Or s ss) = choices_of k s ++ choices_among (k + places_of s) ss

-- the neighbours in a process, where its lead and its body meet among them, and its choices
abbrev pub neighbours : Proc → List Neighbours
neighbours p = neighbours_of [] 1 (text_of p)

abbrev pub choices : Proc → List (List Alternative)
choices p = choices_of 1 (text_of p)

-- one turn of the body comes after another
abbrev pub turn : Proc → Neighbours
turn p = record {
  lasts = lasts_of (body_place p) (part p.body);
  firsts = firsts_of (body_place p) (part p.body);
}
