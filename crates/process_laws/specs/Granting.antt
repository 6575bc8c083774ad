-- The traces of a grant, by how often it has granted and how often it was asked.
use Rattle.std.specs.Prelude.{◌≡◌, ◌↔◌, ◌⊎◌, ℕ, suc, ◌+◌, ◌<◌, ◌≤◌, IsTrue, List, [], ◌∷◌, ◌++◌, count_by}
use Rattle.cmd_tree.specs.Lists.{is_in}
use Rattle.process_laws.specs.GrantForms.{Giving, granted_of, returned_of, Offers}

-- how often symbols of the list xs come in t
abbrev pub times : List ℕ → List ℕ → ℕ
times xs t = count_by (λ a. is_in a xs) t

-- Symbols of `granted` are given one at a time: as many as symbols of `asking` came, and `spare` more.
pub record Granting (granted asking : List ℕ) (spare : ℕ) (T : List ℕ → Type 0) : Type 0 where
  pub empty : T []
  pub prefix : (t u : List ℕ) → T (t ++ u) → T t
  -- no other symbol comes
  pub known : (t : List ℕ) (a : ℕ) → T (t ++ a ∷ []) → IsTrue (is_in a granted) ⊎ IsTrue (is_in a asking)
  -- no more are given than may be, and at most one is still to be given
  pub low : (t : List ℕ) → T t → times granted t ≤ times asking t + spare
  pub high : (t : List ℕ) → T t → times asking t + spare ≤ suc (times granted t)
  -- where one is still to be given, it may be any
  pub gives : (t : List ℕ) (p : ℕ) → IsTrue (is_in p granted)
      → (T (t ++ p ∷ []) ↔ (T t × (times granted t < times asking t + spare)))
  -- and before it is given, nothing else may come
  pub takes : (t : List ℕ) (a : ℕ) → IsTrue (is_in a asking) → T (t ++ a ∷ [])
      → times asking t + spare ≡ times granted t

-- A plain grant: n may come where each n before was answered by one of ps.
pub record PlainGrant (n : ℕ) (ps : List ℕ) (T : List ℕ → Type 0) : Type 0 where
  pub granting : Granting ps (n ∷ []) 0 T
  pub asks : (t : List ℕ) → T (t ++ n ∷ []) ↔ (T t × (times (n ∷ []) t ≡ times ps t))

-- the last symbol of t was granted, and d returns it
pub record Lent (gs : List Giving) (t : List ℕ) (d : ℕ) : Type 0 where
  pub before : List ℕ
  pub given : ℕ
  pub last : t ≡ before ++ given ∷ []
  pub offered : Offers gs given d

-- A grant with release: d may come where the last symbol was granted, and d returns it.
-- So one at most is granted and not returned.
pub record ReleaseGrant (gs : List Giving) (T : List ℕ → Type 0) : Type 0 where
  pub granting : Granting (granted_of gs) (returned_of gs) 1 T
  pub returns : (t : List ℕ) (d : ℕ) → IsTrue (is_in d (returned_of gs))
      → (T (t ++ d ∷ []) ↔ (T t × Lent gs t d))
