-- Rows of numbers that are filled link by link.
use Rattle.std.specs.Prelude.{ℕ, ◌+◌, List, [], ◌∷◌, ◌++◌, map, filter, get_or, nat_eq}
use Rattle.std.proofs.Math.ListN.{set}
use Rattle.plain_split.specs.declared.rows.Link.{Link}

-- the rows with one link more
abbrev pub with_link : Link → List (List ℕ) → List (List ℕ)
with_link l rows = set rows l.from (get_or rows l.from [] ++ l.to ∷ [])

abbrev pub with_links : List Link → List (List ℕ) → List (List ℕ)
with_links [] rows = rows
with_links (l ∷ ls) rows = with_links ls (with_link l rows)

-- where the links lead from a number, in their order
abbrev pub tos : List Link → ℕ → List ℕ
tos ls k = map (λ l. l.to) (filter (λ l. nat_eq l.from k) ls)

-- the links from each number to the rows that have it, of which the first is row n
abbrev pub back_from : ℕ → List ℕ → List Link
back_from n row = map (λ a. record { from = a; to = n }) row

abbrev pub back : ℕ → List (List ℕ) → List Link
back n [] = []
back n (row ∷ rows) = back_from n row ++ back (n + 1) rows

abbrev pub first_or : ℕ → List ℕ → ℕ
first_or none [] = none
first_or none (x ∷ xs) = x
