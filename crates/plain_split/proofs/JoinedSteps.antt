-- A table of one row more.
use Rattle.std.proofs.Common.{◌≡◌, ℕ, ◌+◌, Bool, true, false, List, [], ◌∷◌, ◌++◌, map, filter, if◌then◌else◌, append-nil, append_assoc, refl, sym, ap, ◌∙◌, arith}
use Rattle.std.specs.List.{range_with_len}
use Rattle.place_graph.specs.declared.wait_graph.Start.{Start}
use Rattle.plain_split.specs.Mirror.OneWaitTables.{LinkTables}
use Rattle.plain_split.specs.SharedPaths.{joined}
use Rattle.net_laws.proofs.Rows.{range_both}
use Rattle.std.proofs.lemmas.List.{map-append}
use Rattle.std.proofs.lemmas.List.FromFn.{map-range_with_len_more}

pub table_more : {A B : Type 0} (g : A → B) (f : ℕ → B) (xs : List A) (x : A) (i : ℕ) → map g xs ≡ map f (range_with_len 0 i) → g x ≡ f i
    → map g (xs ++ x ∷ []) ≡ map f (range_with_len 0 (i + 1))
table_more g f xs x i h e = map-append g xs (x ∷ []) ∙ ap (λ ys. ys ++ g x ∷ []) h ∙ ap (λ y. map f (range_with_len 0 i) ++ y ∷ []) e ∙ sym (map-range_with_len_more f 0 i i (omega arith))

pub row_more : {B : Type 0} (f : ℕ → B) (xs : List B) (x : B) (i : ℕ) → xs ≡ map f (range_with_len 0 i) → x ≡ f i → xs ++ x ∷ [] ≡ map f (range_with_len 0 (i + 1))
row_more f xs x i h e = ap (λ ys. ys ++ x ∷ []) h ∙ ap (λ y. map f (range_with_len 0 i) ++ y ∷ []) e ∙ sym (map-range_with_len_more f 0 i i (omega arith))

-- what passes a test, below one number more
pub filter_more : (f : ℕ → Bool) (i : ℕ) → filter f (range_with_len 0 (i + 1)) ≡ filter f (range_with_len 0 i) ++ filter f (i ∷ [])
filter_more f i =
    let e : 0 + i ≡ i = omega arith in
    ap (filter f) (sym (range_both 0 i 1)) ∙ filter_both f (range_with_len 0 i) (range_with_len (0 + i) 1) ∙ ap (λ k. filter f (range_with_len 0 i) ++ filter f (k ∷ [])) e
  where
    pick : (b : Bool) (x : ℕ) (p q : List ℕ) → (if b then x ∷ (p ++ q) else (p ++ q)) ≡ (if b then x ∷ p else p) ++ q
    pick true x p q = refl
    pick false x p q = refl

    filter_both : (f : ℕ → Bool) (xs ys : List ℕ) → filter f (xs ++ ys) ≡ filter f xs ++ filter f ys
    filter_both f [] ys = refl
    filter_both f (x ∷ xs) ys = ap (λ zs. if f x then x ∷ zs else zs) (filter_both f xs ys) ∙ pick (f x) x (filter f xs) (filter f ys)

pub filter_kept : (f : ℕ → Bool) (i : ℕ) → f i ≡ true → filter f (range_with_len 0 i) ++ i ∷ [] ≡ filter f (range_with_len 0 (i + 1))
filter_kept f i h = sym (filter_more f i ∙ ap (λ (b : Bool). filter f (range_with_len 0 i) ++ (if b then i ∷ [] else [])) h)

pub filter_left : (f : ℕ → Bool) (i : ℕ) → f i ≡ false → filter f (range_with_len 0 i) ≡ filter f (range_with_len 0 (i + 1))
filter_left f i h = sym (filter_more f i ∙ ap (λ (b : Bool). filter f (range_with_len 0 i) ++ (if b then i ∷ [] else [])) h ∙ append-nil (filter f (range_with_len 0 i)))

pub same_tables : {a a2 b b2 c c2 d d2 f f2 : List (List ℕ)} {e e2 : List ℕ} (s : Start) → a ≡ a2 → b ≡ b2 → c ≡ c2 → d ≡ d2 → e ≡ e2 → f ≡ f2
    → ◌≡◌ {A = LinkTables} (record { symbols = a; leads = b; entries = c; outs = d; homes = e; givers = f; start = s })
    (record { symbols = a2; leads = b2; entries = c2; outs = d2; homes = e2; givers = f2; start = s })
same_tables s p q r t u v = rw (p, q, r, t, u, v) refl

pub joined_both : {A B : Type 0} (f : A → List B) (xs ys : List A) → joined f (xs ++ ys) ≡ joined f xs ++ joined f ys
joined_both f [] ys = refl
joined_both f (x ∷ xs) ys = ap (λ zs. f x ++ zs) (joined_both f xs ys) ∙ sym (append_assoc (f x) (joined f xs) (joined f ys))

-- three items more, after the lists of the numbers below
pub three_more : {A B : Type 0} (g : A → B) (f : ℕ → List B) (xs : List A) (x y z : A) (i : ℕ) → map g xs ≡ joined f (range_with_len 0 i) → g x ∷ g y ∷ g z ∷ [] ≡ f i
    → map g (((xs ++ x ∷ []) ++ y ∷ []) ++ z ∷ []) ≡ joined f (range_with_len 0 (i + 1))
three_more g f xs x y z i h e =
    let a : 0 + i ≡ i = omega arith in
    let after : joined f (range_with_len 0 (i + 1)) ≡ joined f (range_with_len 0 i) ++ (f i ++ []) =
    ap (joined f) (sym (range_both 0 i 1)) ∙ joined_both f (range_with_len 0 i) (range_with_len (0 + i) 1) ∙ ap (λ k. joined f (range_with_len 0 i) ++ (f k ++ [])) a in
    ap (map g) (append_assoc (xs ++ x ∷ []) (y ∷ []) (z ∷ []) ∙ append_assoc xs (x ∷ []) (y ∷ z ∷ []))
    ∙ map-append g xs (x ∷ y ∷ z ∷ []) ∙ ap (λ ys. ys ++ g x ∷ g y ∷ g z ∷ []) h ∙ ap (λ ys. joined f (range_with_len 0 i) ++ ys) (e ∙ sym (append-nil (f i))) ∙ sym after
