-- The process of rounds: it takes all of its inputs in any order, and then gives all of its outputs in any order.
use Rattle.std.specs.Prelude.{◌≡◌, ◌⊎◌, ℕ, ◌<◌, IsTrue, List, map, None, Some}
use Rattle.std.specs.List.{range_with_len}
use Rattle.cmd_tree.specs.declared.tree.Proc.{Proc}
use Rattle.cmd_tree.specs.Tree.{TBurst, Done, Then}
use Rattle.cmd_tree.specs.Marks.{input, output}
use Rattle.cmd_tree.specs.Lists.{is_in}

-- all of the inputs and then all of the outputs, again and again
abbrev pub rounds_of : List ℕ → List ℕ → Proc
rounds_of ins outs = record { lead = None; body = Some (Then (TBurst (map input ins)) (Then (TBurst (map output outs)) Done)) }

-- the same by ports: the inputs are the ports below n, and the outputs are the m ports after them
abbrev pub rounds : ℕ → ℕ → Proc
rounds n m = rounds_of (range_with_len 0 n) (range_with_len n m)

-- An input may come where it has come as often as each output, and an output where it has come less often than each input.
abbrev pub MayCome : List ℕ → List ℕ → (ℕ → ℕ) → ℕ → Type 0
MayCome ins outs c a = (IsTrue (is_in a ins) × ((o : ℕ) → IsTrue (is_in o outs) → c a ≡ c o)) ⊎ (IsTrue (is_in a outs) × ((i : ℕ) → IsTrue (is_in i ins) → c a < c i))
