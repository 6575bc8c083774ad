-- Mirror of what the code that walks through a network keeps: marks, tables, and how far it is.
use Rattle.std.specs.Prelude.{◌≡◌, ◌≤◌, ◌<◌, ℕ, Bool, true, false, List, length, slice_get, slice_index_or}
use Rattle.net_core.specs.Wiring.{Circuit}
use Rattle.cmd_tree.specs.Lists.{is_in}
use Rattle.net_core.specs.Walk.{Walk, source_at, walked}

-- numbers in the order in which they came, and a bound that they are below
pub record Listing : Type 0 where
  pub numbers : List ℕ
  pub bound : ℕ

-- the mark of each number tells whether it is in the list
abbrev pub AreMarks : List Bool → List ℕ → Type 0
AreMarks marks ns = (n : ℕ) → n < length marks → slice_index_or marks n false ≡ is_in n ns

-- steps of the walk lead from v to w
abbrev pub Leads : Circuit → Walk → Walk → Type 0
Leads c v w = (k : ℕ) × (w ≡ walked c k v)

-- no wire with a number is left to visit
abbrev pub IsVisited : Walk → Type 0
IsVisited w = length w.numbered ≤ w.visited

-- each SOURCE is listed
abbrev pub AreSourcesListed : Circuit → Walk → Type 0
AreSourcesListed c w = (n : ℕ) → n < length c.nodes → source_at (slice_get c.nodes n) ≡ true → is_in n w.listed ≡ true
