-- Tables of numbers, one point or one symbol more.
use Rattle.std.proofs.Common.{◌≡◌, ◌≢◌, ⊎_elim, ℕ, ◌<◌, Bool, true, false, true≢false, ◌||◌, nat_eq, List, [], ◌∷◌, ◌++◌, length, get_or, set, refl, sym, ap, ◌∙◌, subst, Option, Some, None, eq-eqb, ne_eqb, get_or-set_same, get_or-set_other, if◌then◌else◌}
use Rattle.std.specs.Prelude.{position, slice_index_or, is_some, not}
use Rattle.std.proofs.lemmas.List.{get_or_default}
use Rattle.std.proofs.Math.ListN.{length-set}
use Rattle.std.specs.List.{list_any}
use Rattle.std.proofs.lemmas.Bool.{cases_eq}
use Rattle.cmd_tree.specs.declared.tree.Sym.{Sym}
use Rattle.place_graph.specs.Graph.{with_new, has_sym, number_at}
use Rattle.place_graph.specs.Mirror.Numbers.{PointNumbers, AreBurstNumbers}
use Rattle.place_graph.proofs.Positions.{any_none, push_here, push_other, push_same, last_grows, last_new, any_push}

pub read_at : (ns : List (Option ℕ)) (i : ℕ) (o : Option ℕ) → i < length ns → o ≡ get_or ns i o
    → slice_index_or ns i None ≡ o
read_at ns i o h e = get_or_default ns i None o h ∙ sym e

pub none_from : (o : Option ℕ) (b : Bool) → is_some o ≡ not b → b ≡ true → o ≡ None
none_from None b e h = refl
none_from (Some n) b e h = absurd (true≢false (e ∙ ap not h))

pub some_from : (o : Option ℕ) (b : Bool) → is_some o ≡ not b → b ≡ false → o ≡ None → ⊥
some_from o b e h n = true≢false (sym (ap is_some (sym n) ∙ e ∙ ap not h))

pub new_point : {A : Type 0} (same : A → A → Bool) (xs : List A) (y : A) → list_any (same y) xs ≡ false
    → with_new same xs (y ∷ []) ≡ xs ++ y ∷ []
new_point same xs y e = ap (λ b. if b then xs else xs ++ y ∷ []) e

pub old_point : {A : Type 0} (same : A → A → Bool) (xs : List A) (y : A) → list_any (same y) xs ≡ true
    → with_new same xs (y ∷ []) ≡ xs
old_point same xs y e = ap (λ b. if b then xs else xs ++ y ∷ []) e

-- the new point has the next number
pub numbers_push : (ns : List (Option ℕ)) (xs : List ℕ) (y : ℕ) → y < length ns → number_at y xs ≡ None
    → ((x : ℕ) → x < length ns → slice_index_or ns x None ≡ number_at x xs)
    → (x : ℕ) → x < length ns → slice_index_or (set ns y (Some (length xs))) x None ≡ number_at x
    (xs ++ y ∷ [])
numbers_push ns xs y inside none each x h = ⊎_elim
    (λ e. subst (λ z. slice_index_or (set ns y (Some (length xs))) z None ≡ number_at z (xs ++ y ∷ []))
    (sym e)
    (get_or-set_same ns y (Some (length xs)) None inside
    ∙ sym (push_here (nat_eq y) xs y (any_none (nat_eq y) xs none) (eq-eqb y y refl))))
    (λ ne. get_or-set_other ns y x (Some (length xs)) None ne ∙ each x h
    ∙ sym (push_other (nat_eq x) xs y (ne_eqb x y ne)))
    (cases_eq x y)

-- ---- the last burst has one symbol more

grows_true : (a s : Sym) (b : List Sym) → has_sym a b ≡ true → has_sym a (b ++ s ∷ []) ≡ true
grows_true a s b h = any_push (λ c. nat_eq a.0 c.0) b s ∙ ap (λ t. t || nat_eq a.0 s.0) h

or_false : (b : Bool) → (b || false) ≡ b
or_false true = refl
or_false false = refl

or_true : (b : Bool) → (b || true) ≡ true
or_true true = refl
or_true false = refl

grows_other : (a s : Sym) (b : List Sym) → a.0 ≢ s.0 → has_sym a b ≡ has_sym a (b ++ s ∷ [])
grows_other a s b ne = sym
    (any_push (λ c. nat_eq a.0 c.0) b s ∙ ap (λ t. has_sym a b || t) (ne_eqb a.0 s.0 ne)
    ∙ or_false (has_sym a b))

grows_here : (a s : Sym) (b : List Sym) → a.0 ≡ s.0 → has_sym a (b ++ s ∷ []) ≡ true
grows_here a s b e = any_push (λ c. nat_eq a.0 c.0) b s ∙ ap (λ t. has_sym a b || t) (eq-eqb a.0 s.0 e)
    ∙ or_true (has_sym a b)

abbrev sym_of : ℕ → Sym
sym_of a = record { 0 = a }

pub marks_new : (ns : List (Option ℕ)) (bs : List (List Sym)) (b : List Sym) (s : Sym) → s.0 < length ns
    → slice_index_or ns s.0 None ≡ None → AreBurstNumbers ns (bs ++ b ∷ [])
    → AreBurstNumbers (set ns s.0 (Some (length bs))) (bs ++ (b ++ s ∷ []) ∷ [])
marks_new ns bs b s inside none each = λ a h. ⊎_elim
    (λ e. subst (λ z. slice_index_or (set ns s.0 (Some (length bs))) z None ≡ position (has_sym (sym_of z))
    (bs ++ (b ++ s ∷ []) ∷ [])) (sym e)
    (get_or-set_same ns s.0 (Some (length bs)) None inside
    ∙ last_new (has_sym s) bs b (b ++ s ∷ []) (sym (each s.0 inside) ∙ none) (grows_here s s b refl)))
    (λ ne. get_or-set_other ns s.0 a (Some (length bs)) None ne
    ∙ each a (subst (λ n. a < n) (length-set ns s.0 (Some (length bs))) h)
    ∙ push_same (has_sym (sym_of a)) bs b (b ++ s ∷ []) (grows_other (sym_of a) s b ne))
    (cases_eq a s.0)

pub marks_old : (ns : List (Option ℕ)) (bs : List (List Sym)) (b : List Sym) (s : Sym) → s.0 < length ns
    → (slice_index_or ns s.0 None ≡ None → ⊥) → AreBurstNumbers ns (bs ++ b ∷ [])
    → AreBurstNumbers ns (bs ++ (b ++ s ∷ []) ∷ [])
marks_old ns bs b s inside some each = λ a h. ⊎_elim
    (λ e. subst (λ z. slice_index_or ns z None ≡ position (has_sym (sym_of z)) (bs ++ (b ++ s ∷ []) ∷ []))
    (sym e)
    (each s.0 inside ∙ last_grows (has_sym s) bs b (b ++ s ∷ []) (λ k. grows_true s s b k)
    (λ n. some (each s.0 inside ∙ n))))
    (λ ne. each a h ∙ push_same (has_sym (sym_of a)) bs b (b ++ s ∷ []) (grows_other (sym_of a) s b ne))
    (cases_eq a s.0)

pub numbers_are : (a b : PointNumbers) → a.points ≡ b.points → a.bound ≡ b.bound → a ≡ b
numbers_are a b e f = λ i. record { points = e i; bound = f i }
