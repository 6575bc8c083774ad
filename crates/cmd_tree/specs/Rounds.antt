-- The rule of rounds, by how often each port has come. A node with n inputs and then m outputs takes each input once and then gives each output once, and so on.
use Rattle.std.specs.Prelude.{◌≡◌, ◌⊎◌, ℕ, suc, ◌+◌, ◌<◌, ◌≤◌, Bool, ◌==◌, if◌then◌else◌, List, [], ◌∷◌, ◌++◌}

-- the counts after one more w
abbrev pub grown : {W : Type 0} → (W → W → Bool) → (W → ℕ) → W → W → ℕ
grown same c w v = if same v w then suc (c v) else c v

-- the counts after all of t, from the counts c
abbrev pub tally : {W : Type 0} → (W → W → Bool) → (W → ℕ) → List W → W → ℕ
tally same c [] = c
tally same c (w ∷ t) = tally same (grown same c w) t

-- before any has come
abbrev pub naught : {W : Type 0} → W → ℕ
naught w = 0

-- the test by which ports are the same
abbrev pub same_number : ℕ → ℕ → Bool
same_number a b = a == b

-- how often each port is in a trace
abbrev pub counts : List ℕ → ℕ → ℕ
counts t = tally same_number naught t

-- after the trace b the trace t may follow, where a says which symbol may come after a trace
abbrev pub Follows : {W : Type 0} → (List W → W → Type 0) → List W → List W → Type 0
Follows a b [] = Unit {0}
Follows a b (w ∷ t) = a b w × Follows a (b ++ w ∷ []) t

-- Where the counts are c, the port p may come. An input may where no output lags behind it, an output where it lags behind each input.
abbrev pub RoundsAt : ℕ → ℕ → (ℕ → ℕ) → ℕ → Type 0
RoundsAt n m c p = ((p < n) × ((j : ℕ) → j < m → c p ≡ c (n + j))) ⊎ ((n ≤ p) × (p < n + m) × ((i : ℕ) → i < n → c p < c i))

-- Each port of t may come after those before it.
abbrev pub Rounds : ℕ → ℕ → List ℕ → Type 0
Rounds n m t = Follows (λ u p. RoundsAt n m (counts u) p) [] t
