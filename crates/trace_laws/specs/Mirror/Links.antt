-- Places of listed traces: of a trace with a symbol more, and of a trace with neighbours exchanged.
use Rattle.std.specs.Prelude.{◌≡◌, ℕ, ◌+◌, ◌<◌, List, [], ◌∷◌, ◌++◌, length, get_or, slice_get, position, Option, Some, None}
use Rattle.std.specs.declared.cmp.Ordering.{Ordering}
use Rattle.std.specs.Ordering.{nat_cmp, ordering_then}
use Rattle.std.specs.BTreeMap.{get}
use Rattle.std.specs.List.{Contains}
use Rattle.std.specs.Str.{bytes_eq}
use Rattle.std.specs.declared.vec.Vec.{Vec}
use Rattle.std.specs.declared.alloc.Global.{Global}
use Rattle.trace_laws.specs.declared.links.Links.{Links}
use Rattle.trace_laws.specs.Mirror.Faults.{exchanged}

-- where the trace is listed
abbrev pub find : List (List ℕ) → List ℕ → Option ℕ
find W x = position (bytes_eq x) W

-- the place of a trace, and a symbol
abbrev pub Key : Type 0
Key = ℕ × ℕ

abbrev pub key_cmp : Key → Key → Ordering
key_cmp x y = ordering_then (nat_cmp x.0 y.0) (nat_cmp x.1 y.1)

-- the front of each listed trace is listed
abbrev pub Closed : List (List ℕ) → Type 0
Closed W = (s : List ℕ) (a : ℕ) → Contains W (s ++ a ∷ []) → Contains W s

-- the table leads from s to s followed by a, where that is among the first n listed traces
pub record Follow (W : List (List ℕ)) (n : ℕ) (at : Key → Option ℕ) : Type 0 where
  pub sound : (s : List ℕ) (a i k : ℕ) → find W s ≡ Some i → at (i, a) ≡ Some k → find W (s ++ a ∷ []) ≡ Some k
  pub whole : (s : List ℕ) (a i j : ℕ) → find W s ≡ Some i → j < n → get_or W j [] ≡ s ++ a ∷ [] → at (i, a) ≡ None → ⊥

-- what the row has of x is right
abbrev pub Known : List (List ℕ) → List ℕ → List (Option ℕ) → Type 0
Known W x row = (i : ℕ) (e : Option ℕ) → slice_get row i ≡ Some e → (i + 1 < length x) × (e ≡ find W (exchanged x i))

-- and it has all of x
pub record RowOf (W : List (List ℕ)) (x : List ℕ) (row : List (Option ℕ)) : Type 0 where
  pub known : Known W x row
  pub whole : (i : ℕ) → i + 1 < length x → slice_get row i ≡ None → ⊥

-- each row is right of the trace at its place
abbrev pub AllKnown : List (List ℕ) → List (Vec (Option ℕ) Global) → Type 0
AllKnown W rows = (k : ℕ) (row : Vec (Option ℕ) Global) → slice_get rows k ≡ Some row → Known W (get_or W k []) row.items

pub record IsLinks (W : List (List ℕ)) (m : Links) : Type 0 where
  pub follow : Follow W (length W) (get key_cmp m.longer)
  pub rows : AllKnown W m.rows.items
