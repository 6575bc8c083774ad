-- Where a word ends in a text, so that equal texts have equal words.
use Rattle.std.proofs.Common.{◌≡◌, ℕ, ◌<◌, ◌^◌, Bool, true, false, List, [], ◌∷◌, ◌++◌, length, refl, sym, ap, ◌∙◌, arith, append_assoc}
use Rattle.std.specs.Prelude.{flat_map, decimal, ⊤}
use Rattle.std.specs.List.{AllByRecursion}
use Rattle.std.specs.Char.{is_ascii_digit}
use Rattle.std.specs.Str.{all_ascii_digits}
use Rattle.std.proofs.lemmas.Bool.{and_parts}
use Rattle.std.proofs.lemmas.Fmt.{decimal_injective}
use Rattle.text_lines.proofs.Values.{decimal_is}

-- each byte passes the test
abbrev pub Word : (ℕ → Bool) → List ℕ → Type 0
Word test bytes = AllByRecursion (λ b. test b ≡ true) bytes

-- the first byte, if there is one, does not pass the test
abbrev pub Gap : (ℕ → Bool) → List ℕ → Type 0
Gap test [] = ⊤
Gap test (b ∷ bs) = test b ≡ false

both_ways : {P : Type 0} (b : Bool) → b ≡ true → b ≡ false → P
both_ways b t f = absurd (let e : true ≡ false = sym t ∙ f in cc)

-- a word ends where the first byte that does not pass the test stands
pub word_apart : (test : ℕ → Bool) (u v a b : List ℕ) → Word test u → Word test v → Gap test a → Gap test b
    → u ++ a ≡ v ++ b → (u ≡ v) × (a ≡ b)
word_apart test [] [] a b h k g f e = (refl, e)
word_apart test [] (y ∷ v) [] b h k g f e = absurd (cc)
word_apart test [] (y ∷ v) (x ∷ a) b h k g f e =
    let s : x ≡ y = cc in
    both_ways (test y) k.0 (ap test (sym s) ∙ g)
word_apart test (x ∷ u) [] a [] h k g f e = absurd (cc)
word_apart test (x ∷ u) [] a (y ∷ b) h k g f e =
    let s : x ≡ y = cc in
    both_ways (test x) h.0 (ap test s ∙ f)
word_apart test (x ∷ u) (y ∷ v) a b h k g f e =
    let s : x ≡ y = cc in
    let t : u ++ a ≡ v ++ b = cc in
    let r = word_apart test u v a b h.1 k.1 g f t in
    ((λ i. s i ∷ r.0 i), r.1)

-- a word begins with a byte that passes the test
pub word_begins : (test : ℕ → Bool) (u a : List ℕ) (m : ℕ) (r : List ℕ) → 0 < length u → Word test u → test m ≡ false
    → u ++ a ≡ m ∷ r → ⊥
word_begins test [] a m r some w g e = absurd (omega (arith, some))
word_begins test (x ∷ u) a m r some w g e =
    let s : x ≡ m = cc in
    both_ways (test x) w.0 (ap test s ∙ g)

-- ---- decimals
digits_word : (ds : List ℕ) → all_ascii_digits ds ≡ true → Word is_ascii_digit ds
digits_word [] h = tt
digits_word (d ∷ ds) h = let p = and_parts (is_ascii_digit d) (all_ascii_digits ds) h in (p.0, digits_word ds p.1)

pub decimal_word : (n : ℕ) → n < 2 ^ 64 → Word is_ascii_digit (decimal n)
decimal_word n h = digits_word (decimal n) (decimal_is n h).digits

pub decimal_apart : (m n : ℕ) (a b : List ℕ) → m < 2 ^ 64 → n < 2 ^ 64 → Gap is_ascii_digit a → Gap is_ascii_digit b
    → decimal m ++ a ≡ decimal n ++ b → (m ≡ n) × (a ≡ b)
decimal_apart m n a b h k g f e =
    let r = word_apart is_ascii_digit (decimal m) (decimal n) a b (decimal_word m h) (decimal_word n k) g f e in
    (decimal_injective m n h k r.0, r.1)

-- a decimal does not begin as anything else
pub decimal_begins : (n : ℕ) (a : List ℕ) (m : ℕ) (r : List ℕ) → n < 2 ^ 64 → is_ascii_digit m ≡ false
    → decimal n ++ a ≡ m ∷ r → ⊥
decimal_begins n a m r h g e = word_begins is_ascii_digit (decimal n) a m r (decimal_is n h).some (decimal_word n h) g e

-- ---- items, each led by a blank
-- what may follow the items: the end of the line, or a blank and a sign
pub data IsEnd : List ℕ → Type 0 where
  line : (r : List ℕ) → IsEnd (10 ∷ r)
  mark : (m : ℕ) (r : List ℕ) → is_ascii_digit m ≡ false → IsEnd (32 ∷ m ∷ r)

-- what each item is written as, behind its blank
pub record IsItemText {A : Type 0} (Small : A → Type 0) (f : A → List ℕ) : Type 0 where
  pub apart : (x y : A) (a b : List ℕ) → Small x → Small y → Gap is_ascii_digit a → Gap is_ascii_digit b
      → f x ++ a ≡ f y ++ b → (x ≡ y) × (a ≡ b)
  pub begins : (x : A) (a : List ℕ) (m : ℕ) (r : List ℕ) → Small x → is_ascii_digit m ≡ false → f x ++ a ≡ m ∷ r → ⊥

abbrev pub led : {A : Type 0} → (A → List ℕ) → A → List ℕ
led f x = 32 ∷ f x

module _ {A : Type 0} (Small : A → Type 0) (f : A → List ℕ) (text : IsItemText Small f) where
  end_gap : (e : List ℕ) → IsEnd e → Gap is_ascii_digit e
  end_gap _ (line r) = refl
  end_gap _ (mark m r g) = refl

  pub items_gap : (xs : List A) (e : List ℕ) → IsEnd e → Gap is_ascii_digit (flat_map (led f) xs ++ e)
  items_gap [] e k = end_gap e k
  items_gap (x ∷ xs) e k = refl

  ended : (e : List ℕ) (y : A) (t : List ℕ) → IsEnd e → Small y → e ≡ 32 ∷ (f y ++ t) → ⊥
  ended _ y t (line r) s h = absurd (let n : ◌≡◌ {A = ℕ} 10 32 = cc in omega (arith, n))
  ended _ y t (mark m r g) s h = let k : f y ++ t ≡ m ∷ r = cc in text.begins y t m r s g k

  regroup : (x : A) (xs : List A) (e : List ℕ)
      → flat_map (led f) (x ∷ xs) ++ e ≡ 32 ∷ (f x ++ (flat_map (led f) xs ++ e))
  regroup x xs e = append_assoc (led f x) (flat_map (led f) xs) e

  pub items_apart : (xs ys : List A) (e g : List ℕ) → AllByRecursion Small xs → AllByRecursion Small ys → IsEnd e → IsEnd g
      → flat_map (led f) xs ++ e ≡ flat_map (led f) ys ++ g → (xs ≡ ys) × (e ≡ g)
  items_apart [] [] e g s t k l h = (refl, h)
  items_apart [] (y ∷ ys) e g s t k l h = absurd (ended e y (flat_map (led f) ys ++ g) k t.0 (h ∙ regroup y ys g))
  items_apart (x ∷ xs) [] e g s t k l h =
      absurd (ended g x (flat_map (led f) xs ++ e) l s.0 (sym h ∙ regroup x xs e))
  items_apart (x ∷ xs) (y ∷ ys) e g s t k l h =
      let q : ◌≡◌ {A = List ℕ} (32 ∷ (f x ++ (flat_map (led f) xs ++ e))) (32 ∷ (f y ++ (flat_map (led f) ys ++ g))) =
      sym (regroup x xs e) ∙ h ∙ regroup y ys g in
      let p : f x ++ (flat_map (led f) xs ++ e) ≡ f y ++ (flat_map (led f) ys ++ g) = cc in
      let one = text.apart x y (flat_map (led f) xs ++ e) (flat_map (led f) ys ++ g) s.0 t.0
      (items_gap xs e k) (items_gap ys g l) p in
      let more = items_apart xs ys e g s.1 t.1 k l one.1 in
      ((λ i. one.0 i ∷ more.0 i), more.1)
