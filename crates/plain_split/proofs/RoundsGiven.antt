-- A table that is filled act by act says which acts give each symbol.
use Rattle.std.specs.Prelude.{filter, if◌then◌else◌, nat_eq}
use Rattle.std.proofs.Common.{◌≡◌, ◌≢◌, ℕ, zero, suc, ◌+◌, ◌<◌, Bool, true, false, List, [], ◌∷◌, ◌++◌, map, length, get_or, inl, inr, refl, sym, ap, ◌∙◌, arith, append-nil, append_assoc, eq-eqb, ne_eqb, replicate}
use Rattle.std.specs.List.{AllByRecursion, range_with_len, position_or_len}
use Rattle.std.proofs.Math.ListN.{set}
use Rattle.std.proofs.lemmas.Bool.{cases_eq}
use Rattle.std.proofs.lemmas.List.{length-set, get_or-set_same, get_or-set_other}
use Rattle.cmd_tree.specs.Lists.{is_in}
use Rattle.net_laws.proofs.Among.{Among, Distinct}
use Rattle.plain_split.specs.declared.gives.Give.{Give}
use Rattle.plain_split.specs.Mirror.RoundsGives.{with_outs, with_acts, give_of, gives_of}
use Rattle.plain_split.proofs.RoundsRoutes.{in_among}

abbrev one_give : ℕ → ℕ → List Give
one_give y k = record { act = y; port = k } ∷ []

-- where the symbol stands in these outputs, the first of which is output k of the act y
abbrev found : ℕ → ℕ → ℕ → List ℕ → List Give
found a y k outs = if is_in a outs then one_give y (k + position_or_len (nat_eq a) outs) else []

pub outs_long : (y k : ℕ) (outs : List ℕ) (gs : List (List Give)) → length (with_outs y k outs gs) ≡ length gs
outs_long y k [] gs = refl
outs_long y k (a ∷ outs) gs =
    outs_long y (k + 1) outs (set gs a (get_or gs a [] ++ record { act = y; port = k } ∷ [])) ∙ length-set gs a (get_or gs a [] ++ record { act = y; port = k } ∷ [])

pub acts_long : (y : ℕ) (acts : List (List ℕ)) (gs : List (List Give)) → length (with_acts y acts gs) ≡ length gs
acts_long y [] gs = refl
acts_long y (outs ∷ acts) gs = acts_long (y + 1) acts (with_outs y 0 outs gs) ∙ outs_long y 0 outs gs

all_low : (n m : ℕ) (xs : List ℕ) → n ≡ m → AllByRecursion (λ a. a < n) xs → AllByRecursion (λ a. a < m) xs
all_low n m [] e h = tt
all_low n m (x ∷ xs) e h = (omega (arith, h.0), all_low n m xs e h.1)

outs_given : (a y k : ℕ) (outs : List ℕ) (gs : List (List Give)) → AllByRecursion (λ a. a < length gs) outs → Distinct outs
    → get_or (with_outs y k outs gs) a [] ≡ get_or gs a [] ++ found a y k outs
outs_given a y k [] gs low one = sym (append-nil (get_or gs a []))
outs_given a y k (x ∷ outs) gs low one =
    outs_given a y (k + 1) outs next (all_low (length gs) (length next) outs (sym (length-set gs x row)) low.1) one.1
    ∙ elim (cases_eq a x) [
      | inl same ↦
          let none : is_in a outs ≡ false = away (is_in a outs) refl (λ i. one.0 (in_x same i)) in
          ap (λ zs. zs ++ found a y (k + 1) outs) (here same)
          ∙ ap (λ (b : Bool). (get_or gs a [] ++ record { act = y; port = k } ∷ []) ++ (if b then one_give y (k + 1 + position_or_len (nat_eq a) outs) else [])) none
          ∙ append-nil (get_or gs a [] ++ record { act = y; port = k } ∷ [])
          ∙ ap (λ zs. get_or gs a [] ++ zs) (sym (first same))
      | inr other ↦ ap (λ zs. zs ++ found a y (k + 1) outs) (get_or-set_other gs x a row [] other) ∙ ap (λ zs. get_or gs a [] ++ zs) (sym (later other))
    ]
  where
    row : List Give
    row = get_or gs x [] ++ record { act = y; port = k } ∷ []

    next : List (List Give)
    next = set gs x row

    away : (b : Bool) → is_in a outs ≡ b → (is_in a outs ≡ true → ⊥) → is_in a outs ≡ false
    away true e h = absurd (h e)
    away false e h = e

    in_x : a ≡ x → is_in a outs ≡ true → Among x outs
    in_x same i = in_among x outs (ap (λ (z : ℕ). is_in z outs) (sym same) ∙ i)

    here : a ≡ x → get_or next a [] ≡ get_or gs a [] ++ record { act = y; port = k } ∷ []
    here same = ap (λ (i : ℕ). get_or next i []) same ∙ get_or-set_same gs x row [] low.0 ∙ ap (λ (i : ℕ). get_or gs i [] ++ record { act = y; port = k } ∷ []) (sym same)

    first : a ≡ x → found a y k (x ∷ outs) ≡ record { act = y; port = k } ∷ []
    first same =
        let e : k + 0 ≡ k = omega arith in
        rw (eq-eqb a x same) (ap (one_give y) e)

    later : a ≢ x → found a y k (x ∷ outs) ≡ found a y (k + 1) outs
    later other =
        let e : k + (1 + position_or_len (nat_eq a) outs) ≡ k + 1 + position_or_len (nat_eq a) outs = omega arith in
        rw (ne_eqb a x other) (ap (λ (i : ℕ). if is_in a outs then one_give y i else []) e)

-- each act's outputs are below the number of symbols, and none stands twice
abbrev pub AreOuts : ℕ → List (List ℕ) → Type 0
AreOuts n acts = AllByRecursion (λ outs. AllByRecursion (λ a. a < n) outs × Distinct outs) acts

acts_given : (F : ℕ → List ℕ) (a y n : ℕ) (acts : List (List ℕ)) (gs : List (List Give)) → ((j : ℕ) → j < length acts → F (y + j) ≡ get_or acts j []) → length gs ≡ n → AreOuts n acts
    → get_or (with_acts y acts gs) a [] ≡ get_or gs a [] ++ map (give_of F a) (filter (λ z. is_in a (F z)) (range_with_len y (length acts)))
acts_given F a y n [] gs is long ok = sym (append-nil (get_or gs a []))
acts_given F a y n (outs ∷ acts) gs is long ok =
    acts_given F a (y + 1) n acts (with_outs y 0 outs gs) (λ j low. let e : y + 1 + j ≡ y + suc j = omega arith in ap F e ∙ is (suc j) (omega arith)) (outs_long y 0 outs gs ∙ long) ok.1
    ∙ ap (λ zs. zs ++ rest) (outs_given a y 0 outs gs (all_low n (length gs) outs (sym long) ok.0.0) ok.0.1)
    ∙ append_assoc (get_or gs a []) (found a y 0 outs) rest
    ∙ ap (λ zs. get_or gs a [] ++ zs) (ap (λ os. found a y 0 os ++ rest) (sym here) ∙ pick (is_in a (F y)))
  where
    rest : List Give
    rest = map (give_of F a) (filter (λ z. is_in a (F z)) (range_with_len (y + 1) (length acts)))

    here : F y ≡ outs
    here = let e : y + 0 ≡ y = omega arith in ap F (sym e) ∙ is 0 (omega arith)

    pick : (b : Bool) → (if b then one_give y (0 + position_or_len (nat_eq a) (F y)) else []) ++ rest
        ≡ map (give_of F a) (if b then y ∷ filter (λ z. is_in a (F z)) (range_with_len (y + 1) (length acts)) else filter (λ z. is_in a (F z)) (range_with_len (y + 1) (length acts)))
    pick true = let e : 0 + position_or_len (nat_eq a) (F y) ≡ position_or_len (nat_eq a) (F y) = omega arith in ap (λ (i : ℕ). one_give y i ++ rest) e
    pick false = refl

none_given : (n a : ℕ) → get_or (replicate {A = List Give} n []) a [] ≡ []
none_given zero a = refl
none_given (suc n) zero = refl
none_given (suc n) (suc a) = none_given n a

pub table_given : (acts : List (List ℕ)) (n a : ℕ) → length (replicate {A = List Give} n []) ≡ n → AreOuts n acts
    → get_or (with_acts 0 acts (replicate n [])) a [] ≡ gives_of (λ y. get_or acts y []) (length acts) a
table_given acts n a long ok =
    acts_given (λ y. get_or acts y []) a 0 n acts (replicate n []) (λ j low. let e : 0 + j ≡ j = omega arith in ap (λ (i : ℕ). get_or acts i []) e) long ok
    ∙ ap (λ zs. zs ++ gives_of (λ y. get_or acts y []) (length acts) a) (none_given n a)
