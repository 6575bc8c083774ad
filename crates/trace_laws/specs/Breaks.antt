-- Where a set of traces breaks one of the five rules of delay-insensitivity.
use Rattle.std.specs.Prelude.{◌≡◌, ◌≢◌, ◌<◌, ◌≤◌, ◌⊎◌, ℕ, zero, suc, Bool, List, [], ◌∷◌, ◌++◌, length}
use Rattle.std.specs.Ordering.{nat_cmp}
use Rattle.std.specs.Cmp.Lexicographic.{slice_cmp}
use Rattle.std.specs.declared.cmp.Ordering.TheVariants.{Less}

-- the trace is missing, and begins a trace of the set; the empty one begins all, and may not be missing
pub record MissingBeginning (T : List ℕ → Type 0) (t : List ℕ) : Type 0 where
  pub missing : T t → ⊥
  pub begins : (t ≡ []) ⊎ ((u : List ℕ) × T (t ++ u))

-- the trace ends with one symbol twice
pub record TwiceInARow (T : List ℕ → Type 0) (t : List ℕ) : Type 0 where
  pub present : T t
  pub before : List ℕ
  pub symbol : ℕ
  pub is : t ≡ before ++ symbol ∷ symbol ∷ []

-- the trace is missing, and with two neighbours of one direction in the other order it is not
pub record MissingSwap (out : ℕ → Bool) (T : List ℕ → Type 0) (t : List ℕ) : Type 0 where
  pub missing : T t → ⊥
  pub before : List ℕ
  pub after : List ℕ
  pub first : ℕ
  pub second : ℕ
  pub alike : out first ≡ out second
  pub present : T (before ++ first ∷ second ∷ after)
  pub is : t ≡ before ++ second ∷ first ∷ after

-- the trace is missing, though its last symbol may follow where the neighbours are in the other order, and all but
-- its last symbol is a trace
pub record MissingCarry (out : ℕ → Bool) (T : List ℕ → Type 0) (t : List ℕ) : Type 0 where
  pub missing : T t → ⊥
  pub before : List ℕ
  pub after : List ℕ
  pub first : ℕ
  pub second : ℕ
  pub last : ℕ
  pub differ : out first ≢ out second
  pub alike : out first ≡ out last
  pub followed : T (before ++ first ∷ second ∷ (after ++ last ∷ []))
  pub present : T (before ++ second ∷ first ∷ after)
  pub is : t ≡ before ++ second ∷ first ∷ (after ++ last ∷ [])

-- the trace is missing, though each of its two last symbols may come, and they differ in direction
pub record MissingBoth (out : ℕ → Bool) (T : List ℕ → Type 0) (t : List ℕ) : Type 0 where
  pub missing : T t → ⊥
  pub before : List ℕ
  pub first : ℕ
  pub second : ℕ
  pub differ : out first ≢ out second
  pub one : T (before ++ first ∷ [])
  pub other : T (before ++ second ∷ [])
  pub is : t ≡ before ++ first ∷ second ∷ []

-- the rule with this number, from 0 to 4, is broken at the trace t
abbrev pub Breaks : (ℕ → Bool) → (List ℕ → Type 0) → ℕ → List ℕ → Type 0
Breaks out T zero = MissingBeginning T
Breaks out T (suc zero) = TwiceInARow T
Breaks out T (suc (suc zero)) = MissingSwap out T
Breaks out T (suc (suc (suc zero))) = MissingCarry out T
Breaks out T (suc (suc (suc (suc zero)))) = MissingBoth out T
Breaks out T _ = λ t. ⊥

-- the shorter trace comes first, and of two of one length the one with the lower symbol where they first differ
abbrev pub Precedes : List ℕ → List ℕ → Type 0
Precedes s t = (length s < length t) ⊎ ((length s ≡ length t) × (slice_cmp nat_cmp s t ≡ Less))

-- the least broken rule, and the least trace at which it is broken
pub record LeastBroken (out : ℕ → Bool) (T : List ℕ → Type 0) (rule : ℕ) (t : List ℕ) : Type 0 where
  pub broken : Breaks out T rule t
  pub least_rule : (j : ℕ) (u : List ℕ) → Breaks out T j u → rule ≤ j
  pub least_trace : (u : List ℕ) → Breaks out T rule u → Precedes u t → ⊥
