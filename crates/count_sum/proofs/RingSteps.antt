-- What is found to stand for a grant stands for it.
use Rattle.std.specs.Prelude.{is_some, if◌then◌else◌}
use Rattle.std.proofs.Common.{◌≡◌, ℕ, suc, ◌+◌, ◌<◌, ◌≤◌, ◌-◌, inl, inr, Bool, true, false, true≢false, ◌&&◌, ◌||◌, eq-eqb, ne_eqb, get_or, drop, drop-cons, List, [], ◌∷◌, ◌++◌, length, Option, None, Some, refl, sym, ap, ◌∙◌, arith}
use Rattle.cmd_tree.specs.Tree.{TSeq, TSeqs, Stop, Or}
use Rattle.cmd_tree.specs.Limits.{count_of}
use Rattle.cmd_tree.specs.Lists.{is_in}
use Rattle.std.proofs.lemmas.Bool.{cases_eq}
use Rattle.cmd_tree.specs.declared.tree.Item.{Item}
use Rattle.cmd_tree.specs.declared.tree.Item.TheVariants.{Burst, Alt}
use Rattle.cmd_tree.specs.View.{seqs_of, seq_of}
use Rattle.cmd_rename.specs.Table.{entry}
use Rattle.process_laws.specs.GrantForms.{Giving, returned_of}
use Rattle.basic_kinds.specs.Sums.{Counted}
use Rattle.di_grammar.specs.Sums.{gift, loan, put, all_of, of_several, plain_ring, release_ring, each_once, body_ring}
use Rattle.di_grammar.proofs.Forms.{count_seqs}
use Rattle.count_sum.specs.declared.rings.Ring.TheVariants.{Plain, Release}
use Rattle.count_sum.specs.Mirror.Rings.{ring_of, are_gifts, are_loans, return_of, returned_by}

-- what all alternatives are, where each is one
abbrev each_is : {A : Type 0} → (TSeq → Option A) → TSeqs → Bool
each_is one Stop = true
each_is one (Or s ss) = is_some (one s) && each_is one ss

put_some : {A : Type 0} (x : Option A) (xs : Option (List A)) → is_some (put x xs) ≡ (is_some x && is_some xs)
put_some None xs = refl
put_some (Some x) None = refl
put_some (Some x) (Some xs) = refl

all_some : {A : Type 0} (one : TSeq → Option A) (ss : TSeqs) → is_some (all_of one ss) ≡ each_is one ss
all_some one Stop = refl
all_some one (Or s ss) = put_some (one s) (all_of one ss) ∙ ap (λ b. is_some (one s) && b) (all_some one ss)

put_long : {A : Type 0} (x : Option A) (xs : Option (List A)) (n : ℕ) → ((ys : List A) → xs ≡ Some ys → length ys ≡ n) → (zs : List A) → put x xs ≡ Some zs → length zs ≡ n + 1
put_long None xs n h zs e = absurd (cc)
put_long (Some x) None n h zs e = absurd (cc)
put_long (Some x) (Some xs) n h zs e = let z : zs ≡ x ∷ xs = cc in omega (arith, ap length z, h xs refl)

pub all_long : {A : Type 0} (one : TSeq → Option A) (ss : TSeqs) (xs : List A) → all_of one ss ≡ Some xs → length xs ≡ count_of ss
all_long one Stop xs e = let z : xs ≡ [] = cc in ap length z
all_long one (Or s ss) xs e = put_long (one s) (all_of one ss) (count_of ss) (all_long one ss) xs e

none_left : {A : Type 0} (f : List A → List Counted) (o : Option (List A)) → is_some o ≡ false → of_several f o ≡ None
none_left f None e = refl
none_left f (Some xs) e = absurd (true≢false e)

few_left : {A : Type 0} (f : List A → List Counted) (o : Option (List A)) → ((xs : List A) → o ≡ Some xs → length xs ≤ 1) → of_several f o ≡ None
few_left f None h = refl
few_left f (Some []) h = refl
few_left f (Some (x ∷ [])) h = refl
few_left f (Some (x ∷ y ∷ xs)) h = absurd (omega (arith, h (x ∷ y ∷ xs) refl))

several : {A : Type 0} (f : List A → List Counted) (o : Option (List A)) → is_some o ≡ true → ((xs : List A) → o ≡ Some xs → 1 < length xs) → (xs : List A) × (o ≡ Some xs) × (of_several f o ≡ Some (f xs))
several f None e h = absurd (true≢false (sym e))
several f (Some []) e h = absurd (omega (arith, h [] refl))
several f (Some (x ∷ [])) e h = absurd (omega (arith, h (x ∷ []) refl))
several f (Some (x ∷ y ∷ xs)) e h = (x ∷ y ∷ xs, refl, refl)

gifts_are : (ss : TSeqs) → are_gifts ss ≡ each_is gift ss
gifts_are Stop = refl
gifts_are (Or s ss) = ap (λ b. is_some (gift s) && b) (gifts_are ss)

loans_are : (ss : TSeqs) → are_loans ss ≡ each_is loan ss
loans_are Stop = refl
loans_are (Or s ss) = ap (λ b. is_some (loan s) && b) (loans_are ss)

returned_is : (ss : TSeqs) (gs : List Giving) → all_of loan ss ≡ Some gs → returned_by ss ≡ returned_of gs
returned_is Stop gs e = let z : gs ≡ [] = cc in ap returned_of (sym z)
returned_is (Or s ss) gs e = by (loan s) (all_of loan ss) (returned_is ss) gs e
  where
    by : (o : Option Giving) (os : Option (List Giving)) → ((hs : List Giving) → os ≡ Some hs → returned_by ss ≡ returned_of hs) → (gs : List Giving) → put o os ≡ Some gs → return_of o ++ returned_by ss ≡ returned_of gs
    by None os h gs e = absurd (cc)
    by (Some g) None h gs e = absurd (cc)
    by (Some g) (Some hs) h gs e = let z : gs ≡ g ∷ hs = cc in ap (λ ys. g.returned ∷ ys) (h hs refl) ∙ ap returned_of (sym z)

module _ (seqs : List TSeq) where
  abbrev ss : TSeqs
  ss = seqs_of seqs

  pub plain_few : length seqs ≤ 1 → None ≡ of_several plain_ring (all_of gift ss)
  plain_few h = sym (few_left plain_ring (all_of gift ss) (λ xs e. omega (arith, h, all_long gift ss xs e, count_seqs seqs)))

  pub plain_none : are_gifts ss ≡ false → None ≡ of_several plain_ring (all_of gift ss)
  plain_none h = sym (none_left plain_ring (all_of gift ss) (all_some gift ss ∙ sym (gifts_are ss) ∙ h))

  pub plain_is : 1 < length seqs → are_gifts ss ≡ true → (n : ℕ) → n ≡ length seqs → ring_of (Some (Plain n)) ≡ of_several plain_ring (all_of gift ss)
  plain_is many all n long =
      let (xs, e, is) = several plain_ring (all_of gift ss) (all_some gift ss ∙ sym (gifts_are ss) ∙ all) (λ xs e. omega (arith, many, all_long gift ss xs e, count_seqs seqs)) in
      let same : n ≡ length xs = omega (arith, long, all_long gift ss xs e, count_seqs seqs) in
      ap (λ k. ring_of (Some (Plain k))) same ∙ sym is

  pub release_few : length seqs ≤ 1 → None ≡ of_several release_ring (all_of loan ss)
  release_few h = sym (few_left release_ring (all_of loan ss) (λ xs e. omega (arith, h, all_long loan ss xs e, count_seqs seqs)))

  pub release_none : are_loans ss ≡ false → None ≡ of_several release_ring (all_of loan ss)
  release_none h = sym (none_left release_ring (all_of loan ss) (all_some loan ss ∙ sym (loans_are ss) ∙ h))

  pub release_is : 1 < length seqs → are_loans ss ≡ true → (n d : ℕ) → n ≡ length seqs → d ≡ length (each_once (returned_by ss)) → ring_of (Some (Release n d)) ≡ of_several release_ring (all_of loan ss)
  release_is many all n d long returns =
      let (xs, e, is) = several release_ring (all_of loan ss) (all_some loan ss ∙ sym (loans_are ss) ∙ all) (λ xs e. omega (arith, many, all_long loan ss xs e, count_seqs seqs)) in
      let same : n ≡ length xs = omega (arith, long, all_long loan ss xs e, count_seqs seqs) in
      (λ i. ring_of (Some (Release (same i) ((returns ∙ ap (λ ys. length (each_once ys)) (returned_is ss xs e)) i)))) ∙ sym is

-- ---- few or many items

pub gift_many : (xs : List Item) → 2 ≤ length xs → None ≡ gift (seq_of xs)
gift_many [] h = absurd (omega arith)
gift_many (x ∷ []) h = absurd (omega arith)
gift_many (x ∷ y ∷ xs) h = refl

pub loan_few : (xs : List Item) → length xs < 2 → None ≡ loan (seq_of xs)
loan_few [] h = refl
loan_few (x ∷ []) h = refl
loan_few (x ∷ y ∷ xs) h = absurd (omega arith)

pub loan_many : (xs : List Item) → 3 ≤ length xs → None ≡ loan (seq_of xs)
loan_many [] h = absurd (omega arith)
loan_many (x ∷ []) h = absurd (omega arith)
loan_many (x ∷ y ∷ []) h = absurd (omega arith)
loan_many (x ∷ y ∷ z ∷ xs) h = refl

pub body_many : (xs : List Item) → 3 ≤ length xs → None ≡ body_ring (seq_of xs)
body_many [] h = absurd (omega arith)
body_many (x ∷ []) h = absurd (omega arith)
body_many (x ∷ y ∷ []) h = absurd (omega arith)
body_many (Burst a ∷ Burst b ∷ z ∷ xs) h = refl
body_many (Burst a ∷ Alt b ∷ z ∷ xs) h = refl
body_many (Alt a ∷ Burst b ∷ z ∷ xs) h = refl
body_many (Alt a ∷ Alt b ∷ z ∷ xs) h = refl

-- ---- different numbers

last_at : (numbers : List ℕ) (i : ℕ) → i < length numbers → drop (length numbers - (i + 1)) numbers ≡ get_or numbers (length numbers - 1 - i) 0 ∷ drop (length numbers - i) numbers
last_at numbers i low =
    let k : ℕ = length numbers - (i + 1) in
    let here : k ≡ length numbers - 1 - i = omega arith in
    let next : suc k ≡ length numbers - i = omega (arith, low) in
    drop-cons numbers k 0 (omega (arith, low)) ∙ ap (λ m. get_or numbers m 0 ∷ drop (suc k) numbers) here ∙ ap (λ m. get_or numbers (length numbers - 1 - i) 0 ∷ drop m numbers) next

module _ (numbers : List ℕ) (i count : ℕ) (old : List (Option ℕ)) (low : i < length numbers) (counted : count ≡ length (each_once (drop (length numbers - i) numbers)))
    (listed : (a : ℕ) → is_some (entry old a) ≡ is_in a (drop (length numbers - i) numbers)) where
  abbrev x : ℕ
  x = get_or numbers (length numbers - 1 - i) 0

  abbrev rest : List ℕ
  rest = drop (length numbers - i) numbers

  pub count_new : None ≡ entry old x → count + 1 ≡ length (each_once (drop (length numbers - (i + 1)) numbers))
  count_new e =
      let none : is_in x rest ≡ false = sym (listed x) ∙ ap is_some (sym e) in
      let one : length (if is_in x rest then each_once rest else x ∷ each_once rest) ≡ suc (length (each_once rest)) = ap (λ (b : Bool). length (if b then each_once rest else x ∷ each_once rest)) none in
      omega (arith, counted, one, ap (λ ys. length (each_once ys)) (last_at numbers i low))

  pub count_old : (k : ℕ) → Some k ≡ entry old x → count ≡ length (each_once (drop (length numbers - (i + 1)) numbers))
  count_old k e =
      let there : is_in x rest ≡ true = sym (listed x) ∙ ap is_some (sym e) in
      let one : length (if is_in x rest then each_once rest else x ∷ each_once rest) ≡ length (each_once rest) = ap (λ (b : Bool). length (if b then each_once rest else x ∷ each_once rest)) there in
      omega (arith, counted, one, ap (λ ys. length (each_once ys)) (last_at numbers i low))

  pub listed_new : (k : ℕ) (new : List (Option ℕ)) → entry new x ≡ Some k → ((a : ℕ) → (a ≡ x → ⊥) → entry new a ≡ entry old a) → (a : ℕ) → is_some (entry new a) ≡ is_in a (drop (length numbers - (i + 1)) numbers)
  listed_new k new here others a = elim (cases_eq a x) [
    | inl e ↦ ap (λ v. is_some (entry new v)) e ∙ ap is_some here ∙ ap (λ (b : Bool). b || is_in a rest) (sym (eq-eqb a x e)) ∙ ap (is_in a) (sym (last_at numbers i low))
    | inr other ↦ ap is_some (others a other) ∙ listed a ∙ ap (λ (b : Bool). b || is_in a rest) (sym (ne_eqb a x other)) ∙ ap (is_in a) (sym (last_at numbers i low))
  ]

  pub listed_old : (k : ℕ) → Some k ≡ entry old x → (a : ℕ) → is_some (entry old a) ≡ is_in a (drop (length numbers - (i + 1)) numbers)
  listed_old k e a = elim (cases_eq a x) [
    | inl z ↦ ap (λ v. is_some (entry old v)) z ∙ ap is_some (sym e) ∙ ap (λ (b : Bool). b || is_in a rest) (sym (eq-eqb a x z)) ∙ ap (is_in a) (sym (last_at numbers i low))
    | inr other ↦ listed a ∙ ap (λ (b : Bool). b || is_in a rest) (sym (ne_eqb a x other)) ∙ ap (is_in a) (sym (last_at numbers i low))
  ]
