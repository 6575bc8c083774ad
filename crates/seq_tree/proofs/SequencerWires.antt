-- The web of a layer of a SEQ: its wires, its nodes, and what each node may do next. There are K groups of requests, the group k of
-- size k, and L requests that stand alone, each with wires of its own.
use Rattle.std.proofs.Common.{◌≡◌, ℕ, ◌+◌, ◌<◌, Bool, ◌⊎◌, inl, inr, sym}
use native.Mathlib.Decide.{ℕ_discrete}
use Rattle.cmd_tree.specs.Rounds.{tally, naught}
use Rattle.basic_kinds.specs.Totals.{total}
use Rattle.net_laws.proofs.Webs.{Web, Decides, test, test_decides}
use Rattle.net_laws.proofs.Told.{Lawful}
use Rattle.net_laws.proofs.Woven.{Counting}

-- Of request i of the group k: it comes, is chosen by the SEQ of its group, asks for the outer SEQ, waits in a row, wins, is granted, and goes back. Of the
-- group k: its request of the outer SEQ, which is given, and what goes back to the IWIRE and from there to its SEQ. Of the request j that stands alone:
-- it comes, and is granted. And the token.
pub data Wire : Type 0 where
  Request : ℕ → ℕ → Wire
  Chosen : ℕ → ℕ → Wire
  Ask : ℕ → ℕ → Wire
  Row : ℕ → ℕ → Wire
  Won : ℕ → ℕ → Wire
  Grant : ℕ → ℕ → Wire
  Back : ℕ → ℕ → Wire
  Call : ℕ → Wire
  Give : ℕ → Wire
  Return : ℕ → Wire
  Free : ℕ → Wire
  Lone : ℕ → Wire
  Own : ℕ → Wire
  Token : Wire
  deriving Discrete as wire_discrete

-- The environment, the outer SEQ, and of each group its SEQ, the FORKs of its chosen requests, the MERGE of what asks, the DW, the FORKs of what has
-- won, the MERGE of what goes back, and the IWIRE.
pub data Node : Type 0 where
  Env : Node
  Outer : Node
  Inner : ℕ → Node
  Spread : ℕ → ℕ → Node
  Calls : ℕ → Node
  Wait : ℕ → Node
  Share : ℕ → ℕ → Node
  Returns : ℕ → Node
  Gate : ℕ → Node
  deriving Discrete as node_discrete

abbrev pub same_wire : Wire → Wire → Bool
same_wire = test (wire_discrete ℕ_discrete)

pub wires_decide : Decides same_wire
wires_decide = test_decides (wire_discrete ℕ_discrete)

abbrev pub same_node : Node → Node → Bool
same_node = test (node_discrete ℕ_discrete)

pub nodes_decide : Decides same_node
nodes_decide = test_decides (node_discrete ℕ_discrete)

abbrev pub driver : Wire → Node
driver (Request k i) = Env
driver (Chosen k i) = Inner k
driver (Ask k i) = Spread k i
driver (Row k i) = Spread k i
driver (Won k i) = Wait k
driver (Grant k i) = Share k i
driver (Back k i) = Share k i
driver (Call k) = Calls k
driver (Give k) = Outer
driver (Return k) = Returns k
driver (Free k) = Gate k
driver (Lone j) = Env
driver (Own j) = Outer
driver Token = Env

abbrev pub receiver : Wire → Node
receiver (Request k i) = Inner k
receiver (Chosen k i) = Spread k i
receiver (Ask k i) = Calls k
receiver (Row k i) = Wait k
receiver (Won k i) = Share k i
receiver (Grant k i) = Env
receiver (Back k i) = Returns k
receiver (Call k) = Outer
receiver (Give k) = Wait k
receiver (Return k) = Gate k
receiver (Free k) = Inner k
receiver (Lone j) = Outer
receiver (Own j) = Env
receiver Token = Outer

pub clean : (w : Wire) → driver w ≡ receiver w → ⊥
clean (Request k i) e = cc
clean (Chosen k i) e = cc
clean (Ask k i) e = cc
clean (Row k i) e = cc
clean (Won k i) e = cc
clean (Grant k i) e = cc
clean (Back k i) e = cc
clean (Call k) e = cc
clean (Give k) e = cc
clean (Return k) e = cc
clean (Free k) e = cc
clean (Lone j) e = cc
clean (Own j) e = cc
clean Token e = cc

module _ (K : ℕ) (size : ℕ → ℕ) (L : ℕ) where
  abbrev pub There : Wire → Type 0
  There (Request k i) = (k < K) × (i < size k)
  There (Chosen k i) = (k < K) × (i < size k)
  There (Ask k i) = (k < K) × (i < size k)
  There (Row k i) = (k < K) × (i < size k)
  There (Won k i) = (k < K) × (i < size k)
  There (Grant k i) = (k < K) × (i < size k)
  There (Back k i) = (k < K) × (i < size k)
  There (Call k) = k < K
  There (Give k) = k < K
  There (Return k) = k < K
  There (Free k) = k < K
  There (Lone j) = j < L
  There (Own j) = j < L
  There Token = Unit {0}

  -- how often these wires of the group k have come in all
  abbrev pub group : (ℕ → ℕ → Wire) → (Wire → ℕ) → ℕ → ℕ
  group v e k = total (size k) (λ i. e (v k i))

  -- how often the outer SEQ has granted, and how often the environment was granted
  abbrev pub given : (Wire → ℕ) → ℕ
  given e = total K (λ k. e (Give k)) + total L (λ j. e (Own j))

  abbrev pub granted : (Wire → ℕ) → ℕ
  granted e = total K (group Grant e) + total L (λ j. e (Own j))

  -- the driver of a wire may fire it, where the wires at the driver have come e times
  abbrev pub Fires : (Wire → ℕ) → Wire → Type 0
  Fires e (Request k i) = e (Request k i) ≡ e (Grant k i)
  Fires e (Chosen k i) = (e (Chosen k i) < e (Request k i)) × (group Chosen e k < e (Free k))
  Fires e (Ask k i) = e (Ask k i) < e (Chosen k i)
  Fires e (Row k i) = e (Row k i) < e (Chosen k i)
  Fires e (Won k i) = (e (Won k i) < e (Row k i)) × (group Won e k < e (Give k))
  Fires e (Grant k i) = e (Grant k i) < e (Won k i)
  Fires e (Back k i) = e (Back k i) < e (Won k i)
  Fires e (Call k) = e (Call k) < group Ask e k
  Fires e (Give k) = (e (Give k) < e (Call k)) × (given e < e Token)
  Fires e (Return k) = e (Return k) < group Back e k
  Fires e (Free k) = e (Free k) ≡ e (Return k)
  Fires e (Lone j) = e (Lone j) ≡ e (Own j)
  Fires e (Own j) = (e (Own j) < e (Lone j)) × (given e < e Token)
  Fires e Token = e Token ≡ granted e

  -- the receiver of a wire may take it, where the wires at the receiver have come e times
  abbrev pub Takes : (Wire → ℕ) → Wire → Type 0
  Takes e (Request k i) = e (Request k i) ≡ e (Chosen k i)
  Takes e (Chosen k i) = (e (Chosen k i) ≡ e (Ask k i)) × (e (Chosen k i) ≡ e (Row k i))
  Takes e (Ask k i) = group Ask e k ≡ e (Call k)
  Takes e (Row k i) = (j : ℕ) → j < size k → e (Row k j) ≡ e (Won k j)
  Takes e (Won k i) = (e (Won k i) ≡ e (Grant k i)) × (e (Won k i) ≡ e (Back k i))
  Takes e (Grant k i) = (e (Grant k i) < e (Request k i)) × (granted e < e Token)
  Takes e (Back k i) = group Back e k ≡ e (Return k)
  Takes e (Call k) = e (Call k) ≡ e (Give k)
  Takes e (Give k) = e (Give k) ≡ group Won e k
  Takes e (Return k) = e (Return k) < e (Free k)
  Takes e (Free k) = e (Free k) ≡ group Chosen e k
  Takes e (Lone j) = e (Lone j) ≡ e (Own j)
  Takes e (Own j) = (e (Own j) < e (Lone j)) × (granted e < e Token)
  Takes e Token = e Token ≡ given e

  abbrev pub Rule : Node → (Wire → ℕ) → Wire → Type 0
  Rule n e w = ((driver w ≡ n) × There w × Fires e w) ⊎ ((receiver w ≡ n) × There w × Takes e w)

  pub rule_fires : (w : Wire) (e : Wire → ℕ) → Rule (driver w) e w → There w × Fires e w
  rule_fires w e (inl (at, t, f)) = (t, f)
  rule_fires w e (inr (at, t, f)) = absurd (clean w (sym at))

  pub rule_takes : (w : Wire) (e : Wire → ℕ) → Rule (receiver w) e w → There w × Takes e w
  rule_takes w e (inl (at, t, f)) = absurd (clean w at)
  rule_takes w e (inr (at, t, f)) = (t, f)

  pub rule_there : (n : Node) (e : Wire → ℕ) (w : Wire) → Rule n e w → There w
  rule_there n e w (inl (at, t, f)) = t
  rule_there n e w (inr (at, t, f)) = t

  abbrev pub web : Web Node Wire
  web = record {
    same_node = same_node;
    same_wire = same_wire;
    driver = driver;
    receiver = receiver;
    outside = Env;
    rule = λ n t w. Rule n (tally same_wire naught t) w;
  }

  pub lawful : Lawful Node Wire web
  lawful = record { nodes = nodes_decide; wires = wires_decide; clean = clean }

  pub counting : Counting Node Wire web Rule
  counting = record { there = λ n t w k. k; back = λ n t w k. k }
