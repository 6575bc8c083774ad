-- The network of a process whose only burst is taken at each of its waits in turn: a tree of TOGGLEs gives the rounds to the acts.
use Rattle.std.specs.Prelude.{ℕ, zero, suc, ◌+◌, ◌-◌, ◌/◌, Bool, true, false, nat_eq, nat_lt, if◌then◌else◌}

-- A place in the tree of TOGGLEs: the top takes each burst, and of the bursts at a place every second one, beginning with the first, goes on to its
-- odd place, the others to its even place.
pub data Path : Type 0 where
  Top : Path
  Odd : Path → Path
  Even : Path → Path
  deriving Discrete as path_discrete

-- how many TOGGLEs lead to the place
abbrev pub depth : Path → ℕ
depth Top = 0
depth (Odd p) = suc (depth p)
depth (Even p) = suc (depth p)

-- how many of the first n bursts come to the place
abbrev pub share : Path → ℕ → ℕ
share Top n = n
share (Odd p) n = (share p n + 1) / 2
share (Even p) n = share p n / 2

-- 2 to the power e
abbrev pub pow : ℕ → ℕ
pow zero = 1
pow (suc e) = pow e + pow e

-- the first burst that comes to the place
abbrev pub first_at : Path → ℕ
first_at Top = 0
first_at (Odd p) = first_at p
first_at (Even p) = first_at p + pow (depth p)

-- the place below e TOGGLEs to which the burst r comes, for r below 2 to the power e
abbrev pub leaf : ℕ → ℕ → Path
leaf zero r = Top
leaf (suc e) r = if nat_lt r (pow e) then Odd (leaf e r) else Even (leaf e (r - pow e))

-- The act that follows the burst r of k, and the burst before the act y. Acts are numbered in text order; where the process begins with an act, each
-- burst is followed by the next act, and the last one by the first.
abbrev pub act_after : Bool → ℕ → ℕ → ℕ
act_after false k r = r
act_after true k r = if nat_eq (suc r) k then 0 else suc r

abbrev pub burst_before : Bool → ℕ → ℕ → ℕ
burst_before false k y = y
burst_before true k zero = k - 1
burst_before true k (suc y) = y

-- A symbol of the burst, a place of the tree, what an act begins with, an output as the act gives it, and as the environment is shown it.
pub data Wire : Type 0 where
  Sym : ℕ → Wire
  To : Path → Wire
  Go : ℕ → Wire
  Put : ℕ → ℕ → Wire
  Out : ℕ → Wire
  deriving Discrete as wire_discrete

-- The environment, the C of the burst, the TOGGLE at a place, the begin of an act, its FORK, and the MERGE of an output.
pub data Name : Type 0 where
  Env : Name
  Join : Name
  Tog : Path → Name
  Gate : ℕ → Name
  Spread : ℕ → Name
  Shows : ℕ → Name
  deriving Discrete as name_discrete
