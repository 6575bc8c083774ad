-- A list of four words is that of its items.
use Rattle.std.proofs.Common.{◌≡◌, ◌≤◌, ◌<◌, List, [], ◌∷◌, length, get_or, arith}

pub four_items : {A : Type 0} (xs : List A) (a b c d : A) → 4 ≤ length xs → length xs < 5 → a ≡ get_or xs 0 a → b ≡ get_or xs 1 b
    → c ≡ get_or xs 2 c → d ≡ get_or xs 3 d → xs ≡ a ∷ b ∷ c ∷ d ∷ []
four_items [] a b c d most few e f g h = absurd (omega arith)
four_items (p ∷ []) a b c d most few e f g h = absurd (omega arith)
four_items (p ∷ q ∷ []) a b c d most few e f g h = absurd (omega arith)
four_items (p ∷ q ∷ r ∷ []) a b c d most few e f g h = absurd (omega arith)
four_items (p ∷ q ∷ r ∷ s ∷ []) a b c d most few e f g h =
    let first : a ≡ p = e in
    let second : b ≡ q = f in
    let third : c ≡ r = g in
    let fourth : d ≡ s = h in
    cc
four_items (p ∷ q ∷ r ∷ s ∷ t ∷ xs) a b c d most few e f g h = absurd (omega arith)
