-- The names of all symbols of a file: those of its processes, then those that only renamings have, in text order. A symbol
-- is the place of its name in this list.
use Rattle.std.specs.Prelude.{◌≡◌, ℕ, List, [], ◌∷◌, true, ⊤}
use Rattle.std.specs.List.{AllByRecursion, list_any, position_or_len}
use Rattle.std.specs.Str.{bytes_eq}
use Rattle.indexmap.specs.IndexSet.{insert_key}
use Rattle.cmd_text.specs.declared.file.Sentence.{Sentence}
use Rattle.cmd_text.specs.declared.file.Factor.{Factor}
use Rattle.cmd_text.specs.declared.file.Factor.TheVariants.{Own, Named}
use Rattle.cmd_text.specs.declared.file.Rename.{Rename}

-- the name at the end, where it is not in the list
abbrev pub with_name : List (List ℕ) → List ℕ → List (List ℕ)
with_name names n = insert_key bytes_eq names n

abbrev pub with_names : List (List ℕ) → List (List ℕ) → List (List ℕ)
with_names names [] = names
with_names names (n ∷ ns) = with_names (with_name names n) ns

abbrev pub with_pairs : List (List ℕ) → List Rename → List (List ℕ)
with_pairs names [] = names
with_pairs names (r ∷ rs) = with_pairs (with_name (with_name names r.fresh) r.was) rs

abbrev pub with_factor : List (List ℕ) → Factor → List (List ℕ)
with_factor names (Own p) = names
with_factor names (Named u) = with_pairs names u.renames

abbrev pub with_factors : List (List ℕ) → List Factor → List (List ℕ)
with_factors names [] = names
with_factors names (f ∷ fs) = with_factors (with_factor names f) fs

abbrev pub with_sentences : List (List ℕ) → List Sentence → List (List ℕ)
with_sentences names [] = names
with_sentences names (s ∷ ss) = with_sentences (with_factors names s.factors) ss

abbrev pub all_names : List (List ℕ) → List Sentence → List (List ℕ)
all_names names ss = with_sentences names ss

-- the number of a name
abbrev pub number : List (List ℕ) → List ℕ → ℕ
number names n = position_or_len (bytes_eq n) names

-- the name is in the list
abbrev pub IsIn : List (List ℕ) → List ℕ → Type 0
IsIn names n = list_any (bytes_eq n) names ≡ true

-- the names of these renamings are in the list
abbrev pub AreIn : List (List ℕ) → List Rename → Type 0
AreIn names rs = AllByRecursion (λ r. IsIn names r.fresh × IsIn names r.was) rs

abbrev pub IsFactorIn : List (List ℕ) → Factor → Type 0
IsFactorIn names (Own p) = ⊤
IsFactorIn names (Named u) = AreIn names u.renames
