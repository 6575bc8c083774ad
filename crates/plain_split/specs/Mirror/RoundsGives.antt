-- Which outputs of acts give each symbol, as a table that is filled act by act.
use Rattle.std.specs.Prelude.{ℕ, ◌+◌, List, [], ◌∷◌, ◌++◌, get_or, map, filter, nat_eq}
use Rattle.std.specs.List.{range_with_len, position_or_len}
use Rattle.std.proofs.Math.ListN.{set}
use Rattle.cmd_tree.specs.Lists.{is_in}
use Rattle.plain_split.specs.declared.gives.Give.{Give}

-- the table with these outputs of the act y, of which the first is its output k
abbrev pub with_outs : ℕ → ℕ → List ℕ → List (List Give) → List (List Give)
with_outs y k [] gs = gs
with_outs y k (a ∷ outs) gs = with_outs y (k + 1) outs (set gs a (get_or gs a [] ++ record { act = y; port = k } ∷ []))

-- the table with the outputs of these acts, of which the first is the act y
abbrev pub with_acts : ℕ → List (List ℕ) → List (List Give) → List (List Give)
with_acts y [] gs = gs
with_acts y (outs ∷ acts) gs = with_acts (y + 1) acts (with_outs y 0 outs gs)

-- the symbol as an output of the act y
abbrev pub give_of : (ℕ → List ℕ) → ℕ → ℕ → Give
give_of outs a y = record { act = y; port = position_or_len (nat_eq a) (outs y) }

-- which of the first k acts give the symbol, and where
abbrev pub gives_of : (ℕ → List ℕ) → ℕ → ℕ → List Give
gives_of outs k a = map (give_of outs a) (filter (λ y. is_in a (outs y)) (range_with_len 0 k))
