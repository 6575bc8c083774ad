-- The words that are numbers below a bound.
use Rattle.std.proofs.Common.{◌≡◌, ℕ, ◌<◌, ◌≤◌, ◌^◌, Bool, true, false, List, Option, Some, None, inl, inr, refl, sym, ap, ◌∙◌, subst, arith}
use Rattle.std.specs.Prelude.{◌&&◌, nat_lt, decimal, if◌then◌else◌}
use Rattle.std.specs.Str.{bytes_eq}
use Rattle.std.proofs.lemmas.Bool.{cases_Bool, lt-ltb, le-ltb, ltb-true}
use Rattle.std.proofs.lemmas.Slice.Eq.{bytes_eq-Decides}
use Rattle.text_lines.specs.Decimals.{value_of, IsDecimal}
use Rattle.text_lines.proofs.Values.{decimal_is, value-decimal, decimal-value}
use Rattle.net_text.specs.Mirror.PartWords.{number_of}

abbrev tested : Bool → Bool → ℕ → Option ℕ
tested a b n = if a && b then Some n else None

both : (a b : Bool) (n : ℕ) → a ≡ true → b ≡ true → tested a b n ≡ Some n
both true true n e f = refl
both true false n e f = absurd (cc)
both false b n e f = absurd (cc)

pub number_some : (bound : ℕ) (w : List ℕ) (n : ℕ) → bound ≤ 2 ^ 32 → IsDecimal w → n ≡ value_of w → n < bound
    → number_of bound w ≡ Some n
number_some bound w n h d e l =
    let small : value_of w < 2 ^ 64 = omega (arith, h, e, l) in
    let below : value_of w < bound = omega (arith, e, l) in
    both (bytes_eq w (decimal (value_of w))) (nat_lt (value_of w) bound) (value_of w)
    ((bytes_eq-Decides w (decimal (value_of w))).1 (decimal-value w d small)) (lt-ltb (value_of w) bound below) ∙ ap Some (sym e)

-- the number of a decimal
pub number_decimal : (bound n : ℕ) → bound ≤ 2 ^ 32 → n < bound → number_of bound (decimal n) ≡ Some n
number_decimal bound n h l =
    let small : n < 2 ^ 64 = omega (arith, h, l) in
    number_some bound (decimal n) n h (decimal_is n small) (sym (value-decimal n small)) l

-- a number is below the bound, and the word is its decimal
pub record IsNumber (bound : ℕ) (w : List ℕ) (n : ℕ) : Type 0 where
  pub is : w ≡ decimal n
  pub below : n < bound

told_by : (a b : Bool) (v n : ℕ) → tested a b v ≡ Some n → (a ≡ true) × (b ≡ true) × (v ≡ n)
told_by true true v n e = (refl, refl, (let s : v ≡ n = cc in s))
told_by true false v n e = absurd (cc)
told_by false b v n e = absurd (cc)

pub number_told : (bound : ℕ) (w : List ℕ) (n : ℕ) → number_of bound w ≡ Some n → IsNumber bound w n
number_told bound w n e =
    let t = told_by (bytes_eq w (decimal (value_of w))) (nat_lt (value_of w) bound) (value_of w) n e in
    let below : value_of w < bound = ltb-true (value_of w) bound t.1 in
    record {
      is = (bytes_eq-Decides w (decimal (value_of w))).0 t.0 ∙ ap decimal t.2;
      below = omega (arith, below, t.2);
    }
