-- What the style of a graph says of the legs.
use Rattle.std.specs.Prelude.{◌≡◌, ℕ, zero, suc, ◌+◌, false, not, List}
use Rattle.place_graph.specs.declared.leg.Leg.{Leg}
use Rattle.place_graph.specs.Points.{Among}
use Rattle.place_graph.specs.Graph.{is_act}
use Rattle.place_graph.specs.Chart.{Has, sum_where}

-- all inputs lead from one point
abbrev pub AtOneWait : List Leg → Type 0
AtOneWait L = (l m : Leg) → Among L l → Among L m → is_act l ≡ false → is_act m ≡ false → l.from ≡ m.from

-- x doubled n times
abbrev pub doubled : ℕ → ℕ → ℕ
doubled zero x = x
doubled (suc n) x = doubled n (x + x)

-- One burst is taken again and again, by this many legs, which are a power of two, and a leg leads back to
-- the
-- begin.
pub record InRounds (L : List Leg) (rounds : ℕ) : Type 0 where
  pub depth : ℕ
  pub number : rounds ≡ doubled depth 1
  pub many : sum_where L (λ l. not (is_act l)) (λ l. 1) ≡ rounds
  pub sole : (l m : Leg) (a : ℕ) → Among L l → Among L m → is_act l ≡ false → is_act m ≡ false
      → Has l a → Has m a
  pub back : Leg
  pub among : Among L back
  pub to_begin : back.to ≡ 1
