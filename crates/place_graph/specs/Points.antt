-- The points of a process, and the bursts that lead from one to another.
-- A point is named by the place at which the tree goes on there, which is that of the first mark of what
-- comes
-- next. The process begins at the point 1. At the point 0, which is no place, it has ended.
use Rattle.std.specs.Prelude.{◌≡◌, ◌⊎◌, ℕ, ◌+◌, List, [], ◌∷◌, ◌++◌}
use Rattle.cmd_tree.specs.declared.tree.Proc.{Proc}
use Rattle.cmd_tree.specs.Tree.{TItem, TSeq, TSeqs, TBurst, TAlt, Stop, Or, Done, Then, places_of, places_in}
use Rattle.cmd_tree.specs.Limits.{of_part}
use Rattle.cmd_tree.specs.Residual.{lead_of}
use Rattle.place_graph.specs.declared.leg.Leg.{Leg}

-- The point before a sequence that stands at place k. An empty one ends where it begins, at the point after.
abbrev pub point : ℕ → TSeq → ℕ → ℕ
point k Done later = later
point k (Then i s) later = k

-- The legs of a tree at place k that is entered at the point `at` and left at the point `later`. Each item
-- leads to the point before the next one. Each alternative of a choice is entered and left where the choice
-- is.
abbrev mutual
  pub legs_of : ℕ → TSeq → ℕ → ℕ → List Leg
  legs_of k Done at later = []
  legs_of k (Then i s) at later = legs_in k i at (point (k + places_in i) s later)
      ++ legs_of (k + places_in i) s (k + places_in i) later

  pub legs_in : ℕ → TItem → ℕ → ℕ → List Leg
  legs_in k (TBurst ms) at later = record { from = at; place = k; marks = ms; to = later } ∷ []
  legs_in k (TAlt ss) at later = legs_among k ss at later

  pub legs_among : ℕ → TSeqs → ℕ → ℕ → List Leg
  legs_among k Stop at later = []
  legs_among k (Or s ss) at later = legs_of k s at later ++ legs_among (k + places_of s) ss at later

-- the place at which the body begins
abbrev pub body_place : Proc → ℕ
body_place p = 1 + of_part 0 places_of p.lead

-- the point at which the lead ends, and each turn of the body: that before the body, or the end of a process
-- without body
abbrev pub turn_point : Proc → ℕ
turn_point p = of_part 0 (λ s. body_place p) p.body

-- the legs of a process, in text order
abbrev pub legs : Proc → List Leg
legs p = legs_of 1 (lead_of p.lead) 1 (turn_point p)
    ++ legs_of (body_place p) (lead_of p.body) (body_place p) (turn_point p)

-- x stands in the list
abbrev pub OneOf : {A : Type 0} → List A → A → Type 0
OneOf [] x = ⊥
OneOf (y ∷ ys) x = (y ≡ x) ⊎ OneOf ys x

-- l is one of the legs
abbrev pub Among : List Leg → Leg → Type 0
Among L l = OneOf L l
