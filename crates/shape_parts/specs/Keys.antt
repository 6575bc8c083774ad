-- Numbers by their keys.
use Rattle.std.specs.Prelude.{ℕ, Bool, List, length, get_or, nat_eq, filter}
use Rattle.std.specs.List.{range_with_len, list_any}
use Rattle.basic_kinds.specs.Sorts.{how_many_below}

abbrev pub key_at : List ℕ → ℕ → ℕ
key_at keys n = get_or keys n 0

-- the numbers with the key k, rising
abbrev pub with_key : List ℕ → ℕ → List ℕ
with_key keys k = filter (λ n. nat_eq (key_at keys n) k) (range_with_len 0 (length keys))

-- how many numbers below n have its key
abbrev pub rank : List ℕ → ℕ → ℕ
rank keys n = how_many_below n (λ m. nat_eq (key_at keys m) (key_at keys n))

-- the number is one of these
abbrev pub is_among : List ℕ → ℕ → Bool
is_among numbers i = list_any (λ n. nat_eq n i) numbers
