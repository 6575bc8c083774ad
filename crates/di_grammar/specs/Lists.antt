-- What holds of each element of a list, of each two, and of two in their order.
use Rattle.std.specs.Prelude.{◌≡◌, List, [], ◌∷◌, ◌++◌, ⊤}

abbrev pub Each : {A : Type 0} → (A → Type 0) → List A → Type 0
Each P [] = ⊤
Each P (x ∷ xs) = P x × Each P xs

-- of each two elements, the earlier one first
abbrev pub EachTwo : {A : Type 0} → (A → A → Type 0) → List A → Type 0
EachTwo R [] = ⊤
EachTwo R (x ∷ xs) = Each (R x) xs × EachTwo R xs

-- x stands in the list
pub record Within {A : Type 0} (xs : List A) (x : A) : Type 0 where
  pub before : List A
  pub after : List A
  pub are : xs ≡ before ++ x ∷ after

-- x stands in the list, and y after it
pub record InOrder {A : Type 0} (xs : List A) (x y : A) : Type 0 where
  pub before : List A
  pub between : List A
  pub after : List A
  pub are : xs ≡ before ++ x ∷ (between ++ y ∷ after)
