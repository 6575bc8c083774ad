-- Paths of wires, and numbers by place.
use Rattle.std.specs.Prelude.{ℕ, zero, suc, Bool, if◌then◌else◌, List, [], ◌∷◌, ◌++◌}
use Rattle.std.specs.List.{position_or_len}

-- from one wire to the next until the test holds, at most so many steps
abbrev pub walk : {W : Type 0} → (W → Bool) → (W → W) → ℕ → W → W
walk stop step zero w = w
walk stop step (suc k) w = if stop w then w else walk stop step k (step w)

-- how many stand before it
abbrev pub place : {A : Type 0} → (A → A → Bool) → List A → A → ℕ
place same xs x = position_or_len (same x) xs

-- one list after the other
abbrev pub joined : {A B : Type 0} → (A → List B) → List A → List B
joined f [] = []
joined f (x ∷ xs) = f x ++ joined f xs
