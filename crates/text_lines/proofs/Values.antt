-- The numbers that digits write.
use Rattle.std.proofs.Common.{◌≡◌, ℕ, ◌+◌, ◌-◌, ◌*◌, ◌<◌, ◌≤◌, ◌^◌, zero, suc, true, List, [], ◌∷◌, length, get_or, drop, ap, sym, arith, add-one, drop-cons, rules}
use Rattle.std.specs.Str.{all_ascii_digits}
use Rattle.std.specs.Prelude.{decimal}
use Rattle.std.proofs.lemmas.Str.Parse.{IsNumeralModel, numerals_by_fold, tells_all_ascii_digits}
use Rattle.std.proofs.lemmas.Fmt.{digits_decimal, digits_value-decimal, decimal-digits_value, decimal_nonempty, first_decimal, decimal_digit}
use Rattle.text_lines.specs.Decimals.{value_from, value_of, IsDecimal}

model : IsNumeralModel (λ (ds : List ℕ). all_ascii_digits ds ≡ true) value_of
model = numerals_by_fold _ tells_all_ascii_digits value_from (search rules)

-- more digits write no smaller number
pub value_least : (n : ℕ) (ds : List ℕ) → n ≤ value_from n ds
value_least n [] = omega arith
value_least n (d ∷ ds) = omega (arith, value_least (10 * n + (d - 48)) ds)

pub value_next : (n : ℕ) (ds : List ℕ) (i : ℕ) → i < length ds
    → value_from n (drop i ds) ≡ value_from (10 * n + (get_or ds i 0 - 48)) (drop (i + 1) ds)
value_next n ds i h = rw add-one (ap (value_from n) (drop-cons ds i 0 h))

lean_decimal : (n : ℕ) → n < 2 ^ 64 → get_or (decimal n) 0 0 ≡ 48 → length (decimal n) ≡ 1
lean_decimal zero h e = ap length (decimal_digit 0 (omega arith))
lean_decimal (suc n) h e = absurd (omega (arith, first_decimal (suc n) (omega arith) h))

-- what a number is written as is a decimal, and writes that number
pub decimal_is : (n : ℕ) → n < 2 ^ 64 → IsDecimal (decimal n)
decimal_is n h = record {
  some = decimal_nonempty n h;
  digits = digits_decimal model n h;
  lean = lean_decimal n h;
}

pub value-decimal : (n : ℕ) → n < 2 ^ 64 → value_of (decimal n) ≡ n
value-decimal n h = digits_value-decimal model n h

-- a decimal below 2^64 is what its number is written as
pub decimal-value : (bytes : List ℕ) → IsDecimal bytes → value_of bytes < 2 ^ 64
    → bytes ≡ decimal (value_of bytes)
decimal-value bytes d h = sym (decimal-digits_value model bytes d.digits d.some d.lean h)
