-- Counts of wires in lists, and the wires on one side of a node.
use Rattle.std.proofs.Common.{◌≡◌, ◌≢◌, ℕ, zero, suc, ◌+◌, ◌<◌, Bool, true, false, not, List, [], ◌∷◌, ◌++◌, length, refl, arith, get_or}
use Rattle.std.specs.List.{AllByRecursion}
use mathlib.Core.Bool.{beq}
use Rattle.net_core.specs.Wiring.{count, picked}

pub count_nil : (w : ℕ) → count w [] ≡ 0
unfolding count
count_nil w = refl

pub count_same : (w : ℕ) (vs : List ℕ) → count w (w ∷ vs) ≡ suc (count w vs)
unfolding count
count_same w vs = grind arith

pub count_other : (w v : ℕ) (vs : List ℕ) → w ≢ v → count w (v ∷ vs) ≡ count w vs
unfolding count
count_other w v vs h = grind arith

pub count-append : (w : ℕ) (xs ys : List ℕ) → count w (xs ++ ys) ≡ count w xs + count w ys
unfolding count
count-append w [] ys = grind arith
count-append w (x ∷ xs) ys = grind (arith, count-append w xs ys)

pub picked_all : (P : ℕ → Type 0) (b : Bool) (ds : List Bool) (ws : List ℕ) → AllByRecursion P ws → AllByRecursion P (picked b ds ws)
unfolding picked
picked_all P b [] ws all = tt
picked_all P b (d ∷ ds) [] all = tt
picked_all P true (true ∷ ds) (w ∷ ws) all = (all.0, picked_all P true ds ws all.1)
picked_all P true (false ∷ ds) (w ∷ ws) all = picked_all P true ds ws all.1
picked_all P false (true ∷ ds) (w ∷ ws) all = picked_all P false ds ws all.1
picked_all P false (false ∷ ds) (w ∷ ws) all = (all.0, picked_all P false ds ws all.1)

-- one port more of the picked side, and one more of the other
pub picked_here : (b d : Bool) (ds : List Bool) (w : ℕ) (ws : List ℕ) → d ≡ b → picked b (d ∷ ds) (w ∷ ws) ≡ w ∷ picked b ds ws
unfolding picked
picked_here true true ds w ws e = refl
picked_here false false ds w ws e = refl
picked_here true false ds w ws e = absurd (cc)
picked_here false true ds w ws e = absurd (cc)

pub picked_there : (b d : Bool) (ds : List Bool) (w : ℕ) (ws : List ℕ) → d ≡ not b → picked b (d ∷ ds) (w ∷ ws) ≡ picked b ds ws
unfolding picked
picked_there true false ds w ws e = refl
picked_there false true ds w ws e = refl
picked_there true true ds w ws e = absurd (cc)
picked_there false false ds w ws e = absurd (cc)

pub picked_none : (b : Bool) (ds : List Bool) (ws : List ℕ) → length ws ≡ 0 → picked b ds ws ≡ []
unfolding picked
picked_none b [] ws e = refl
picked_none b (d ∷ ds) [] e = refl
picked_none b (d ∷ ds) (w ∷ ws) e = absurd (omega arith)

pub all_at : (P : ℕ → Type 0) (ws : List ℕ) (i : ℕ) → AllByRecursion P ws → i < length ws → P (get_or ws i 0)
all_at P [] i all h = absurd (omega arith)
all_at P (w ∷ ws) zero all h = all.0
all_at P (w ∷ ws) (suc i) all h = all_at P ws i all.1 (omega arith)

pub all_weaker : (P Q : ℕ → Type 0) (ws : List ℕ) → ((w : ℕ) → P w → Q w) → AllByRecursion P ws → AllByRecursion Q ws
all_weaker P Q [] f all = tt
all_weaker P Q (w ∷ ws) f all = (f w all.0, all_weaker P Q ws f all.1)

pub differs : (a b : Bool) → not (beq a b) ≡ true → a ≡ not b
differs true true e = absurd (cc)
differs true false e = refl
differs false true e = refl
differs false false e = absurd (cc)

pub agrees : (a b : Bool) → not (beq a b) ≡ false → a ≡ b
agrees true true e = refl
agrees true false e = absurd (cc)
agrees false true e = absurd (cc)
agrees false false e = refl
