-- Mirror of the code's table of names.
use Rattle.std.specs.Prelude.{◌≡◌, ℕ, ◌+◌, ◌*◌, ◌%◌, ◌^◌, List, position, fold}
use Rattle.std.specs.Str.{bytes_eq}
use Rattle.std.specs.declared.cmp.Ordering.{Ordering}
use Rattle.std.specs.Ordering.{nat_cmp, on, then_cmp}
use Rattle.std.specs.Cmp.Lexicographic.{slice_cmp}
use Rattle.std.specs.BTreeMap.{BTreeMap, get}

abbrev pub next_number : ℕ → ℕ → ℕ
next_number n b = ((n * 256) % 2 ^ 64 + b) % 2 ^ 64

-- the bytes as one number, of which the last 64 bits are kept
unfoldable pub number_of : List ℕ → ℕ
number_of bs = fold next_number 0 bs

-- the order of keys: by that number, and then byte for byte
abbrev pub key_cmp : List ℕ → List ℕ → Ordering
key_cmp = then_cmp (on number_of nat_cmp) (slice_cmp nat_cmp)

-- the map has the place of each name in the list
abbrev pub Finds : BTreeMap (List ℕ) ℕ → List (List ℕ) → Type 0
Finds m ns = (q : List ℕ) → get key_cmp m q ≡ position (bytes_eq q) ns
