-- Nodes with other numbers for their wires.
use Rattle.std.proofs.Common.{◌≡◌, ℕ, zero, suc, ◌<◌, arith, List, [], ◌∷◌, map, length, get_or, Option, None, Some, refl}
use Rattle.std.specs.Prelude.{slice_get, option_map, nat_eq}
use Rattle.std.specs.List.{AllByRecursion}
use Rattle.std.proofs.lemmas.List.{get_or-map}
use Rattle.net_core.specs.Wiring.{Node, moved}
use Rattle.net_core.specs.Networks.{directions_at, may_of}

pub directions_same : (k n : ℕ) (o : Option Node) → nat_eq k 0 ≡ nat_eq n 0 → directions_at k o ≡ directions_at n o
directions_same k n None e = refl
directions_same k n (Some x) e = rw e refl

pub directions_moved : (f : ℕ → ℕ) (k n : ℕ) (o : Option Node) → nat_eq k 0 ≡ nat_eq n 0 → directions_at k (option_map (moved f) o) ≡ directions_at n o
directions_moved f k n None e = refl
directions_moved f k n (Some x) e = rw e refl

pub may_moved : (f : ℕ → ℕ) (o : Option Node) (t : List ℕ) → may_of (option_map (moved f) o) t ≡ may_of o t
may_moved f None t = refl
may_moved f (Some x) t = refl

pub end_moved : (f : ℕ → ℕ) (xs : List ℕ) (p : ℕ) → p < length xs → get_or (map f xs) p 0 ≡ f (get_or xs p 0)
end_moved f xs p h = get_or-map f xs p 0 0 h

pub all_from : (P : Node → Type 0) (xs : List Node) → ((k : ℕ) (x : Node) → slice_get xs k ≡ Some x → P x) → AllByRecursion P xs
all_from P [] h = tt
all_from P (x ∷ xs) h = (h 0 x refl, all_from P xs (λ k y e. h (suc k) y e))

pub all_moved : (f : ℕ → ℕ) (xs : List ℕ) (j k : ℕ) → ((w : ℕ) → w < j → f w < k) → AllByRecursion (λ w. w < j) xs
    → AllByRecursion (λ w. w < k) (map f xs)
all_moved f [] j k h all = tt
all_moved f (x ∷ xs) j k h all = (h x all.0, all_moved f xs j k h all.1)

-- a number below the length is that of a node
pub node_at : (xs : List Node) (n : ℕ) → n < length xs → (x : Node) × (slice_get xs n ≡ Some x)
node_at [] n h = absurd (omega arith)
node_at (x ∷ xs) zero h = (x, refl)
node_at (x ∷ xs) (suc n) h = node_at xs n (omega arith)
