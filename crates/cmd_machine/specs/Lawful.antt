-- Legs along which a trace tells where it leads.
use Rattle.std.specs.Prelude.{◌≡◌, ℕ, ◌≤◌, List}
use Rattle.cmd_tree.specs.Meaning.{symbols}
use Rattle.place_graph.specs.declared.leg.Leg.{Leg}
use Rattle.place_graph.specs.Points.{Among}
use Rattle.place_graph.specs.Chart.{Has, Increase}
use Rattle.place_graph.specs.Tale.{times}

pub record Lawful (L : List Leg) : Type 0 where
  -- each symbol of a leg stands there once
  pub few : (l : Leg) (a : ℕ) → Among L l → times a (symbols l.marks) ≤ 1
  -- legs from one point share no symbol
  pub one : (l m : Leg) (a : ℕ) → Among L l → Among L m → l.from ≡ m.from → Has l a → Has m a → l ≡ m
  -- no two legs stand at one place
  pub increase : Increase L
