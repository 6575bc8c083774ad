-- Each, Within and places in lists that are joined.
use Rattle.std.proofs.Common.{◌≡◌, ◌⊎◌, inl, inr, ℕ, zero, suc, ◌<◌, length, get_or, arith, List, [], ◌∷◌, ◌++◌, refl, sym, ap, ◌∙◌, subst, append_assoc, take, drop, drop-cons}
use Rattle.std.proofs.lemmas.List.{append-nil, take-append-drop}
use Rattle.di_grammar.specs.Lists.{Each, EachTwo, Within, InOrder}

-- x stands in the first of two joined lists
pub record InFront {A : Type 0} (xs ys before after : List A) (x : A) : Type 0 where
  pub rest : List A
  pub are : xs ≡ before ++ x ∷ rest
  pub more : after ≡ rest ++ ys

-- or in the second
pub record InBack {A : Type 0} (xs ys before after : List A) (x : A) : Type 0 where
  pub front : List A
  pub are : ys ≡ front ++ x ∷ after
  pub more : before ≡ xs ++ front

front_more : {A : Type 0} (a b : A) (xs ys before after : List A) (x : A) → a ≡ b → InFront xs ys before after x
    → InFront (a ∷ xs) ys (b ∷ before) after x
front_more a b xs ys before after x e f = record { rest = f.rest; are = let h = f.are in cc; more = f.more }

back_more : {A : Type 0} (a b : A) (xs ys before after : List A) (x : A) → a ≡ b → InBack xs ys before after x
    → InBack (a ∷ xs) ys (b ∷ before) after x
back_more a b xs ys before after x e f = record { front = f.front; are = f.are; more = let h = f.more in cc }

pub in_joined : {A : Type 0} (xs ys before after : List A) (x : A) → xs ++ ys ≡ before ++ x ∷ after
    → InFront xs ys before after x ⊎ InBack xs ys before after x
in_joined [] ys before after x e = inr (record { front = before; are = e; more = refl })
in_joined (a ∷ xs) ys [] after x e = inl (record { rest = xs; are = cc; more = cc })
in_joined {A} (a ∷ xs) ys (b ∷ before) after x e =
    let head : a ≡ b = cc in
    let tail : xs ++ ys ≡ before ++ x ∷ after = cc in
    elim (in_joined xs ys before after x tail) [ inl f ↦ inl (front_more a b xs ys before after x head f) | inr f ↦ inr (back_more a b xs ys before after x head f) ]

pub each_join : {A : Type 0} (P : A → Type 0) (xs ys : List A) → Each P xs → Each P ys → Each P (xs ++ ys)
each_join P [] ys p q = q
each_join P (x ∷ xs) ys p q = (p.0, each_join P xs ys p.1 q)

pub each_front : {A : Type 0} (P : A → Type 0) (xs ys : List A) → Each P (xs ++ ys) → Each P xs
each_front P [] ys p = tt
each_front P (x ∷ xs) ys p = (p.0, each_front P xs ys p.1)

pub each_back : {A : Type 0} (P : A → Type 0) (xs ys : List A) → Each P (xs ++ ys) → Each P ys
each_back P [] ys p = p
each_back P (x ∷ xs) ys p = each_back P xs ys p.1

pub each_within : {A : Type 0} (P : A → Type 0) (xs : List A) (x : A) → Each P xs → Within xs x → P x
each_within {A} P xs x p w = (each_back P w.before (x ∷ w.after) (let e = w.are in rw e at p)).0

pub none_within : {A : Type 0} (x : A) → Within [] x → ⊥
none_within {A} x w = by w.before w.after w.are where
  by : (before after : List A) → [] ≡ before ++ x ∷ after → ⊥
  by [] after e = cc
  by (b ∷ before) after e = cc

pub within_front : {A : Type 0} (xs ys : List A) (x : A) → Within xs x → Within (xs ++ ys) x
within_front xs ys x w = record {
  before = w.before;
  after = w.after ++ ys;
  are = ap (λ zs. zs ++ ys) w.are ∙ append_assoc w.before (x ∷ w.after) ys;
}

pub within_last : {A : Type 0} (xs : List A) (x : A) → Within (xs ++ x ∷ []) x
within_last xs x = record { before = xs; after = []; are = refl }

pub within_next : {A : Type 0} (xs : List A) (y x : A) → Within (xs ++ y ∷ []) x → Within xs x ⊎ (x ≡ y)
within_next {A} xs y x w =
    let last : InBack xs (y ∷ []) w.before w.after x → Within xs x ⊎ (x ≡ y) = λ f. inr (lone f.front f.are) in
    let early : InFront xs (y ∷ []) w.before w.after x → Within xs x ⊎ (x ≡ y) = λ f. inl (record { before = w.before; after = f.rest; are = f.are }) in
    elim (in_joined xs (y ∷ []) w.before w.after x w.are) [ inl f ↦ early f | inr f ↦ last f ] where
      lone : (front : List A) → y ∷ [] ≡ front ++ x ∷ w.after → x ≡ y
      lone [] e = cc
      lone (a ∷ front) e = absurd (none_within x (record { before = front; after = w.after; are = cc }))

pub within_first : {A : Type 0} (x : A) (xs : List A) → Within (x ∷ xs) x
within_first x xs = record { before = []; after = xs; are = refl }

pub within_more : {A : Type 0} (y x : A) (xs : List A) → Within xs x → Within (y ∷ xs) x
within_more y x xs w = record { before = y ∷ w.before; after = w.after; are = ap (λ zs. y ∷ zs) w.are }

pub each_all : {A : Type 0} (P : A → Type 0) (xs : List A) → ((x : A) → Within xs x → P x) → Each P xs
each_all P [] p = tt
each_all P (x ∷ xs) p = (p x (within_first x xs), each_all P xs (λ y w. p y (within_more x y xs w)))

pub each_at : {A : Type 0} (P : A → Type 0) (xs : List A) (i : ℕ) (d : A) → i < length xs → Each P xs → P (get_or xs i d)
each_at P [] i d h p = absurd (omega arith)
each_at P (x ∷ xs) zero d h p = p.0
each_at P (x ∷ xs) (suc i) d h p = each_at P xs i d (omega arith) p.1

-- of each two, also of two at places
pub two_at : {A : Type 0} (R : A → A → Type 0) (xs before more after later : List A) (x y : A) → EachTwo R xs → xs ≡ before ++ x ∷ after
    → xs ≡ more ++ y ∷ later → length before < length more → R x y
two_at R [] before more after later x y two e f h = absurd (none_within x (record { before = before; after = after; are = e }))
two_at R (z ∷ zs) before [] after later x y two e f h = absurd (omega arith)
two_at R (z ∷ zs) [] (w ∷ more) after later x y two e f h =
    let head : z ≡ x = cc in
    let tail : zs ≡ more ++ y ∷ later = cc in
    subst (λ v. R v y) head (each_within (R z) zs y two.0 (record { before = more; after = later; are = tail }))
two_at R (z ∷ zs) (v ∷ before) (w ∷ more) after later x y two e f h =
    let one : zs ≡ before ++ x ∷ after = cc in
    let other : zs ≡ more ++ y ∷ later = cc in
    two_at R zs before more after later x y two.1 one other (omega arith)

pub within_back : {A : Type 0} (xs ys : List A) (x : A) → Within ys x → Within (xs ++ ys) x
within_back xs ys x w = record {
  before = xs ++ w.before;
  after = w.after;
  are = ap (λ zs. xs ++ zs) w.are ∙ sym (append_assoc xs w.before (x ∷ w.after));
}

pub within_join : {A : Type 0} (xs ys : List A) (x : A) → Within (xs ++ ys) x → Within xs x ⊎ Within ys x
within_join xs ys x w =
    elim (in_joined xs ys w.before w.after x w.are) [
      | inl f ↦ inl (record { before = w.before; after = f.rest; are = f.are })
      | inr f ↦ inr (record { before = f.front; after = w.after; are = f.are })
    ]

pub within_cons : {A : Type 0} (y : A) (ys : List A) (x : A) → Within (y ∷ ys) x → (x ≡ y) ⊎ Within ys x
within_cons {A} y ys x w = by w.before w.are where
  by : (before : List A) → y ∷ ys ≡ before ++ x ∷ w.after → (x ≡ y) ⊎ Within ys x
  by [] e = inl (cc)
  by (z ∷ before) e = inr (record { before = before; after = w.after; are = cc })

-- one of a list that is left when another is taken out
pub within_without : {A : Type 0} (xs : List A) (y : A) (ys : List A) (x : A) → Within (xs ++ y ∷ ys) x → (x ≡ y) ⊎ Within (xs ++ ys) x
within_without {A} xs y ys x w = elim (within_join xs (y ∷ ys) x w) [ inl v ↦ inr (within_front xs ys x v) | inr v ↦ back v ] where
  back : Within (y ∷ ys) x → (x ≡ y) ⊎ Within (xs ++ ys) x
  back v = elim (within_cons y ys x v) [ inl e ↦ inl e | inr u ↦ inr (within_back xs ys x u) ]

pub each_map : {A : Type 0} (P Q : A → Type 0) (xs : List A) → ((x : A) → P x → Q x) → Each P xs → Each Q xs
each_map P Q [] f p = tt
each_map P Q (x ∷ xs) f p = (f x p.0, each_map P Q xs f p.1)

pub two_map : {A : Type 0} (R S : A → A → Type 0) (xs : List A) → ((x y : A) → R x y → S x y) → EachTwo R xs → EachTwo S xs
two_map R S [] f p = tt
two_map R S (x ∷ xs) f p = (each_map (R x) (S x) xs (f x) p.0, two_map R S xs f p.1)

pub two_back : {A : Type 0} (R : A → A → Type 0) (xs ys : List A) → EachTwo R (xs ++ ys) → EachTwo R ys
two_back R [] ys p = p
two_back R (x ∷ xs) ys p = two_back R xs ys p.1

pub two_front : {A : Type 0} (R : A → A → Type 0) (xs ys : List A) → EachTwo R (xs ++ ys) → EachTwo R xs
two_front R [] ys p = tt
two_front R (x ∷ xs) ys p = (each_front (R x) xs ys p.0, two_front R xs ys p.1)

pub two_join : {A : Type 0} (R : A → A → Type 0) (xs : List A) (y : A) → EachTwo R xs → Each (λ x. R x y) xs → EachTwo R (xs ++ y ∷ [])
two_join R [] y p q = (tt, tt)
two_join R (x ∷ xs) y p q = (each_join (R x) xs (y ∷ []) p.0 (q.0, tt), two_join R xs y p.1 q.1)

pub two_last : {A : Type 0} (R : A → A → Type 0) (xs : List A) (y : A) → EachTwo R (xs ++ y ∷ []) → Each (λ x. R x y) xs
two_last R [] y p = tt
two_last R (x ∷ xs) y p = ((each_back (R x) xs (y ∷ []) p.0).0, two_last R xs y p.1)

pub two_cases : {A : Type 0} (R : A → A → Type 0) (xs : List A) (x y : A) → EachTwo R xs → Within xs x → Within xs y → (x ≡ y) ⊎ (R x y ⊎ R y x)
two_cases R [] x y p v w = absurd (none_within x v)
two_cases {A} R (z ∷ zs) x y p v w = by (λ a b. two_cases R zs x y p.1 a b) (within_cons z zs x v) (within_cons z zs y w) where
  by : (Within zs x → Within zs y → (x ≡ y) ⊎ (R x y ⊎ R y x)) → (x ≡ z) ⊎ Within zs x → (y ≡ z) ⊎ Within zs y → (x ≡ y) ⊎ (R x y ⊎ R y x)
  by rest (inl a) (inl b) = inl (a ∙ sym b)
  by rest (inl a) (inr b) = inr (inl (subst (λ (u : A). R u y) (sym a) (each_within (R z) zs y p.0 b)))
  by rest (inr a) (inl b) = inr (inr (subst (λ (u : A). R u x) (sym b) (each_within (R z) zs x p.0 a)))
  by rest (inr a) (inr b) = rest a b

pub two_ordered : {A : Type 0} (R : A → A → Type 0) (xs : List A) (x y : A) → EachTwo R xs → InOrder xs x y → R x y
two_ordered {A} R xs x y p o =
    let rest = two_back R o.before (x ∷ (o.between ++ y ∷ o.after)) (subst (EachTwo R) o.are p) in
    (each_back (R x) o.between (y ∷ o.after) rest.0).0

pub two_all : {A : Type 0} (R : A → A → Type 0) (xs : List A) → ((x y : A) → InOrder xs x y → R x y) → EachTwo R xs
two_all R [] f = tt
two_all R (x ∷ xs) f = (
  each_all (R x) xs (λ y w. f x y (record { before = []; between = w.before; after = w.after; are = ap (λ zs. x ∷ zs) w.are })),
  two_all R xs (λ y z o. f y z (record { before = x ∷ o.before; between = o.between; after = o.after; are = ap (λ zs. x ∷ zs) o.are })),
)

pub order_front : {A : Type 0} (xs ys : List A) (x y : A) → InOrder xs x y → InOrder (xs ++ ys) x y
order_front xs ys x y o = record {
  before = o.before;
  between = o.between;
  after = o.after ++ ys;
  are = ap (λ zs. zs ++ ys) o.are ∙ append_assoc o.before (x ∷ (o.between ++ y ∷ o.after)) ys ∙ ap (λ zs. o.before ++ x ∷ zs) (append_assoc o.between (y ∷ o.after) ys);
}

pub order_last : {A : Type 0} (xs : List A) (y x : A) → Within xs x → InOrder (xs ++ y ∷ []) x y
order_last xs y x w = record {
  before = w.before;
  between = w.after;
  after = [];
  are = ap (λ zs. zs ++ y ∷ []) w.are ∙ append_assoc w.before (x ∷ w.after) (y ∷ []);
}

pub order_second : {A : Type 0} (xs : List A) (x y : A) → InOrder xs x y → Within xs y
order_second xs x y o = record {
  before = o.before ++ x ∷ o.between;
  after = o.after;
  are = o.are ∙ sym (append_assoc o.before (x ∷ o.between) (y ∷ o.after));
}

pub order_next : {A : Type 0} (xs : List A) (z x y : A) → InOrder (xs ++ z ∷ []) x y → InOrder xs x y ⊎ (Within xs x × (y ≡ z))
unfolding order_second
order_next {A} xs z x y o = elim (in_joined xs (z ∷ []) (o.before ++ x ∷ o.between) o.after y (order_second (xs ++ z ∷ []) x y o).are) [ inl f ↦ front f | inr f ↦ back f.front f.are f.more ] where
  front : InFront xs (z ∷ []) (o.before ++ x ∷ o.between) o.after y → InOrder xs x y ⊎ (Within xs x × (y ≡ z))
  front f = inl (record {
    before = o.before;
    between = o.between;
    after = f.rest;
    are = f.are ∙ append_assoc o.before (x ∷ o.between) (y ∷ f.rest);
  })

  back : (rest : List A) → z ∷ [] ≡ rest ++ y ∷ o.after → o.before ++ x ∷ o.between ≡ xs ++ rest → InOrder xs x y ⊎ (Within xs x × (y ≡ z))
  back [] e more = inr (record { before = o.before; after = o.between; are = sym (append-nil xs) ∙ sym more }, cc)
  back (a ∷ []) e more = absurd (cc)
  back (a ∷ (b ∷ rest)) e more = absurd (cc)

-- one of a list, and then what comes after that list
pub order_split : {A : Type 0} (xs : List A) (y : A) (zs : List A) (x : A) → Within xs x → InOrder (xs ++ y ∷ zs) x y
order_split xs y zs x w = record {
  before = w.before;
  between = w.after;
  after = zs;
  are = ap (λ us. us ++ y ∷ zs) w.are ∙ append_assoc w.before (x ∷ w.after) (y ∷ zs);
}

pub split_order : {A : Type 0} (xs : List A) (y : A) (zs : List A) (a b : A) → InOrder (xs ++ y ∷ zs) a b → InOrder xs a b ⊎ ((Within xs a × (b ≡ y)) ⊎ Within zs b)
split_order {A} xs y zs a b o =
    let joined : (xs ++ y ∷ []) ++ zs ≡ xs ++ y ∷ zs = append_assoc xs (y ∷ []) zs in
    by (in_joined (xs ++ y ∷ []) zs (o.before ++ a ∷ o.between) o.after b (joined ∙ o.are ∙ sym (append_assoc o.before (a ∷ o.between) (b ∷ o.after)))) where
      by : InFront (xs ++ y ∷ []) zs (o.before ++ a ∷ o.between) o.after b ⊎ InBack (xs ++ y ∷ []) zs (o.before ++ a ∷ o.between) o.after b
          → InOrder xs a b ⊎ ((Within xs a × (b ≡ y)) ⊎ Within zs b)
      by (inl f) = elim (order_next xs y a b (record {
        before = o.before;
        between = o.between;
        after = f.rest;
        are = f.are ∙ append_assoc o.before (a ∷ o.between) (b ∷ f.rest);
      })) [ inl old ↦ inl old | inr last ↦ inr (inl last) ]
      by (inr f) = inr (inr (record { before = f.front; after = o.after; are = f.are }))

pub within_one : {A : Type 0} (y x : A) → Within (y ∷ []) x → x ≡ y
within_one y x w = elim (within_cons y [] x w) [ inl e ↦ e | inr n ↦ absurd (none_within x n) ]

pub within_at : {A : Type 0} (xs : List A) (i : ℕ) (d : A) → i < length xs → Within xs (get_or xs i d)
within_at {A} xs i d h = record {
  before = take i xs;
  after = drop (suc i) xs;
  are = sym (take-append-drop i xs) ∙ ap (λ (ys : List A). take i xs ++ ys) (drop-cons xs i d h);
}

-- y stands after z, or both in the rest
pub order_cons : {A : Type 0} (z : A) (zs : List A) (x y : A) → InOrder (z ∷ zs) x y → ((x ≡ z) × Within zs y) ⊎ InOrder zs x y
order_cons {A} z zs x y o = by o.before o.are where
  by : (before : List A) → z ∷ zs ≡ before ++ x ∷ (o.between ++ y ∷ o.after) → ((x ≡ z) × Within zs y) ⊎ InOrder zs x y
  by [] e =
      let head : x ≡ z = cc in
      let rest : zs ≡ o.between ++ y ∷ o.after = cc in
      inl (head, record { before = o.between; after = o.after; are = rest })
  by (b ∷ before) e =
      let rest : zs ≡ before ++ x ∷ (o.between ++ y ∷ o.after) = cc in
      inr (record { before = before; between = o.between; after = o.after; are = rest })

pub order_none : {A : Type 0} (x y : A) → InOrder [] x y → ⊥
order_none {A} x y o = by o.before o.are where
  by : (before : List A) → [] ≡ before ++ x ∷ (o.between ++ y ∷ o.after) → ⊥
  by [] e = cc
  by (b ∷ before) e = cc

pub order_here : {A : Type 0} (x : A) (xs : List A) (y : A) → Within xs y → InOrder (x ∷ xs) x y
order_here {A} x xs y w = record { before = []; between = w.before; after = w.after; are = ap (λ (zs : List A). x ∷ zs) w.are }

pub order_there : {A : Type 0} (z : A) (zs : List A) (x y : A) → InOrder zs x y → InOrder (z ∷ zs) x y
order_there {A} z zs x y o = record { before = z ∷ o.before; between = o.between; after = o.after; are = ap (λ (ys : List A). z ∷ ys) o.are }

pub order_right : {A : Type 0} (xs ys : List A) (x y : A) → InOrder ys x y → InOrder (xs ++ ys) x y
order_right [] ys x y o = o
order_right (z ∷ xs) ys x y o = order_there z (xs ++ ys) x y (order_right xs ys x y o)

pub order_across : {A : Type 0} (xs ys : List A) (x y : A) → Within xs x → Within ys y → InOrder (xs ++ ys) x y
order_across [] ys x y w v = absurd (none_within x w)
order_across (z ∷ xs) ys x y w v = elim (within_cons z xs x w) [
  | inl e ↦ subst (λ u. InOrder (z ∷ (xs ++ ys)) u y) (sym e) (order_here z (xs ++ ys) y (within_back xs ys y v))
  | inr t ↦ order_there z (xs ++ ys) x y (order_across xs ys x y t v)
]

-- both in the one list, the one in the one and the other in the other, or both in the other
pub order_append : {A : Type 0} (xs ys : List A) (x y : A) → InOrder (xs ++ ys) x y → InOrder xs x y ⊎ ((Within xs x × Within ys y) ⊎ InOrder ys x y)
order_append [] ys x y o = inr (inr o)
order_append {A} (z ∷ xs) ys x y o = elim (order_cons z (xs ++ ys) x y o) [
  | inl p ↦ here p.0 (within_join xs ys y p.1)
  | inr t ↦ later (order_append xs ys x y t)
] where
  here : x ≡ z → Within xs y ⊎ Within ys y → InOrder (z ∷ xs) x y ⊎ ((Within (z ∷ xs) x × Within ys y) ⊎ InOrder ys x y)
  here e (inl w) = inl (subst (λ (u : A). InOrder (z ∷ xs) u y) (sym e) (order_here z xs y w))
  here e (inr w) = inr (inl (subst (λ (u : A). Within (z ∷ xs) u) (sym e) (within_first z xs), w))

  later : InOrder xs x y ⊎ ((Within xs x × Within ys y) ⊎ InOrder ys x y) → InOrder (z ∷ xs) x y ⊎ ((Within (z ∷ xs) x × Within ys y) ⊎ InOrder ys x y)
  later (inl a) = inl (order_there z xs x y a)
  later (inr (inl b)) = inr (inl (within_more z x xs b.0, b.1))
  later (inr (inr c)) = inr (inr c)

pub order_one : {A : Type 0} (z x y : A) → InOrder (z ∷ []) x y → ⊥
order_one z x y o = elim (order_cons z [] x y o) [ inl p ↦ none_within y p.1 | inr t ↦ order_none x y t ]
