-- Crossings that lead to acts in turn.
use Rattle.std.specs.Prelude.{ℕ, ◌+◌, Bool, true, ◌&&◌, nat_eq, if◌then◌else◌, List, [], ◌∷◌}
use Rattle.place_graph.specs.declared.wait_graph.Cross.{Cross}

-- the act after this one; behind the last comes the first
abbrev pub act_after : ℕ → ℕ → ℕ
act_after acts act = if nat_eq (act + 1) acts then 0 else act + 1

-- from this act on
abbrev pub are_in_turn : ℕ → ℕ → List Cross → Bool
are_in_turn acts act [] = true
are_in_turn acts act (c ∷ cs) = nat_eq c.act act && are_in_turn acts (act_after acts act) cs
