-- A shelf in memory, and what its loads answer.
use Rattle.std.specs.Prelude.{ℕ, zero, suc, ◌+◌, ◌-◌, ◌^◌, Bool, ◌&&◌, ◌||◌, if◌then◌else◌, List, [], ◌∷◌, Option, Some, None, is_some, is_none, nat_eq, nat_lt, bytes_eq, string_bytes}
use Rattle.std.specs.List.{list_any}
use Rattle.std.specs.declared.string.String.{String}
use Rattle.std.specs.declared.vec.Vec.{Vec}
use Rattle.std.specs.declared.alloc.Global.{Global}

-- the files as pairs of a name and a content, the numbers of the loads that fail, and how many
-- loads there were
pub record ShelfState : Type 0 where
  pub files : List (List ℕ × List ℕ)
  pub fails : List ℕ
  pub loads : ℕ

-- the name and the content of a file, as bytes
abbrev pub file_bytes : String Global × Vec ℕ Global → List ℕ × List ℕ
file_bytes file = (string_bytes file.0, file.1.items)

-- the content of the first file with this name
abbrev pub content_of : List (List ℕ × List ℕ) → List ℕ → Option (List ℕ)
content_of [] name = None
content_of (file ∷ files) name = if bytes_eq file.0 name then Some file.1 else content_of files name

-- whether the load of this number is among those that fail
abbrev pub is_listed : List ℕ → ℕ → Bool
is_listed fails load = list_any (λ listed. nat_eq listed load) fails

-- how many different numbers of `fails` lie between 1 and `loads`
abbrev pub failed_loads : List ℕ → ℕ → ℕ
failed_loads fails zero = 0
failed_loads fails (suc loads) = failed_loads fails loads + (if is_listed fails (suc loads) then 1 else 0)

-- the count of faults of a name
abbrev pub faults_of : ShelfState → List ℕ → ℕ
faults_of shelf name = if is_some (content_of shelf.files name) then failed_loads shelf.fails shelf.loads else shelf.loads

-- whether the next load is among those that fail, whatever its name
abbrev pub next_fails : ShelfState → Bool
next_fails shelf = nat_lt shelf.loads (2 ^ 64 - 1) && is_listed shelf.fails (shelf.loads + 1)

-- whether the next load fails, if it asks for this name
abbrev pub load_fails : ShelfState → List ℕ → Bool
load_fails shelf name = is_none (content_of shelf.files name) || next_fails shelf
