-- The faults that one listed trace shows, place by place.
use Rattle.std.specs.Prelude.{◌≡◌, ◌≢◌, ◌+◌, ◌-◌, ◌<◌, ℕ, Bool, List, [], ◌∷◌, ◌++◌, length, take, drop, get_or}
use Rattle.std.specs.List.{Contains}
use Rattle.trace_laws.specs.Mirror.Improved.{Below}

-- the trace with the symbols at p and p + 1 in the other order
abbrev pub exchanged : List ℕ → ℕ → List ℕ
exchanged x p = take p x ++ (get_or x (p + 1) 0 ∷ (get_or x p 0 ∷ drop (p + 2) x))

pub record SwapAt (out : ℕ → Bool) (words : List (List ℕ)) (x : List ℕ) (p : ℕ) (t : List ℕ) : Type 0 where
  pub within : p + 1 < length x
  pub alike : out (get_or x p 0) ≡ out (get_or x (p + 1) 0)
  pub is : t ≡ exchanged x p
  pub missing : Contains words t → ⊥

-- x is the front of a listed trace that ends with `last`
pub record CarryAt (out : ℕ → Bool) (words : List (List ℕ)) (x : List ℕ) (last p : ℕ) (t : List ℕ) : Type 0 where
  pub within : p + 1 < length x
  pub differ : out (get_or x p 0) ≢ out (get_or x (p + 1) 0)
  pub alike : out (get_or x p 0) ≡ out last
  pub present : Contains words (exchanged x p)
  pub is : t ≡ exchanged x p ++ last ∷ []
  pub missing : Contains words t → ⊥

-- all but the last symbol, and the last one
abbrev pub front : List ℕ → List ℕ
front x = take (length x - 1) x

abbrev pub last_of : List ℕ → ℕ
last_of x = get_or x (length x - 1) 0

pub record EndsTwice (x : List ℕ) : Type 0 where
  pub before : List ℕ
  pub symbol : ℕ
  pub is : x ≡ before ++ symbol ∷ symbol ∷ []

pub record BeginsAt (words : List (List ℕ)) (x : List ℕ) (t : List ℕ) : Type 0 where
  pub size : ℕ
  pub within : size < length x
  pub is : t ≡ take size x
  pub missing : Contains words t → ⊥

-- what the listed trace x shows to be missing, or to be there in vain
abbrev pub SwapsOf : (ℕ → Bool) → List (List ℕ) → List ℕ → List ℕ → Type 0
SwapsOf out words x = Below (SwapAt out words x) (length x)

abbrev pub CarriesOf : (ℕ → Bool) → List (List ℕ) → List ℕ → List ℕ → Type 0
CarriesOf out words x = Below (CarryAt out words (front x) (last_of x)) (length (front x))

abbrev pub TwiceOf : List ℕ → List ℕ → Type 0
TwiceOf x t = (t ≡ x) × EndsTwice x

-- two listed traces that differ in their last symbols alone, which differ in direction
pub record BothAt (out : ℕ → Bool) (words : List (List ℕ)) (x y : List ℕ) (t : List ℕ) : Type 0 where
  pub some : 0 < length x
  pub long : length x ≡ length y
  pub fronts : front x ≡ front y
  pub differ : out (last_of x) ≢ out (last_of y)
  pub is : t ≡ x ++ last_of y ∷ []
  pub missing : Contains words t → ⊥

-- F at each of the listed traces
abbrev pub OfEach : (List ℕ → List ℕ → Type 0) → List (List ℕ) → ℕ → List ℕ → Type 0
OfEach F words = Below (λ k. F (get_or words k []))

abbrev pub BothOf : (ℕ → Bool) → List (List ℕ) → List ℕ → List ℕ → Type 0
BothOf out words x = OfEach (BothAt out words x) words (length words)
