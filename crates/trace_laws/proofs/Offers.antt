-- Offers of traces one after the other.
use Rattle.std.proofs.Common.{◌≡◌, ◌⊎◌, ◌↔◌, inl, inr, ℕ, ◌+◌, ◌<◌, ◌≤◌, length, get_or, arith, List, [], refl, sym, ap, ◌∙◌, subst, Option, Some, None}
use Rattle.std.specs.Ordering.{nat_cmp, ordering_reverse, is_eq}
use Rattle.std.specs.Cmp.Lexicographic.{slice_cmp, nat_list_cmp_total}
use Rattle.std.specs.declared.cmp.Ordering.{Ordering}
use Rattle.std.specs.declared.cmp.Ordering.TheVariants.{Less, Equal, Greater}
use Rattle.std.proofs.lemmas.Bool.{cases_order}
use Rattle.std.proofs.lemmas.Map.Text.{is_eq-slice_cmp}
use Rattle.std.proofs.lemmas.Slice.Eq.{bytes_eq-Decides}
use Rattle.trace_laws.specs.Breaks.{Precedes}
use Rattle.std.proofs.lemmas.List.{get_or_read}
use Rattle.trace_laws.specs.Mirror.Faults.{OfEach}
use Rattle.trace_laws.specs.Mirror.Improved.{NotBefore, Improved, LeastOf, Below}

not_less : (r : Ordering) → r ≡ ordering_reverse r → r ≡ Less → ⊥
not_less Less e l = let z : Less ≡ Greater = e in cc
not_less Equal e l = cc
not_less Greater e l = cc

pub not_self : (t : List ℕ) → Precedes t t → ⊥
not_self t (inl h) = absurd (omega arith)
not_self t (inr (e, l)) = not_less (slice_cmp nat_cmp t t) (nat_list_cmp_total.antisymm t t) l

pub chain : (s t u : List ℕ) → Precedes s t → Precedes t u → Precedes s u
chain s t u (inl h) (inl g) = inl (omega arith)
chain s t u (inl h) (inr (e, l)) = inl (omega arith)
chain s t u (inr (e, l)) (inl g) = inl (omega arith)
chain s t u (inr (e, l)) (inr (f, m)) = inr (e ∙ f, nat_list_cmp_total.trans s t u l m)

-- of two different traces one comes first
by_order : (r q : Ordering) (t u : List ℕ) → r ≡ slice_cmp nat_cmp t u → r ≡ ordering_reverse q → (r ≡ Less → ⊥) → (q ≡ Less → ⊥) → t ≡ u
by_order Less q t u e f n m = absurd (n refl)
by_order Greater Less t u e f n m = absurd (m refl)
by_order Greater Equal t u e f n m = cc
by_order Greater Greater t u e f n m = cc
by_order Equal q t u e f n m = (bytes_eq-Decides t u).0 (sym (is_eq-slice_cmp t u) ∙ ap is_eq (sym e))

pub same_traces : (t u : List ℕ) → (Precedes t u → ⊥) → (Precedes u t → ⊥) → t ≡ u
same_traces t u n m = elim (cases_order (length t) (length u)) [
  | inl e ↦ by_order (slice_cmp nat_cmp t u) (slice_cmp nat_cmp u t) t u refl (nat_list_cmp_total.antisymm t u) (λ l. n (inr (e, l))) (λ l. m (inr (sym e, l)))
  | inr (inl l) ↦ absurd (n (inl l))
  | inr (inr l) ↦ absurd (m (inl l))
]

pub none_offered : (F : List ℕ → Type 0) (o : Option (List ℕ)) → ((t : List ℕ) → F t → ⊥) → Improved F o o
none_offered F o f = record { from = inl refl; covers = λ u h. absurd (f u h); keeps = λ u h. h }

pub same_offers : (F G : List ℕ → Type 0) (o n : Option (List ℕ)) → ((t : List ℕ) → F t → G t) → ((t : List ℕ) → G t → F t)
    → Improved F o n → Improved G o n
same_offers F G o n to back i = record {
  from = elim i.from [ inl e ↦ inl e | inr (t, e, f) ↦ inr (t, e, to t f) ];
  covers = λ u g. i.covers u (back u g);
  keeps = i.keeps;
}

pub then_offers : (F G : List ℕ → Type 0) (o m n : Option (List ℕ)) → Improved F o m → Improved G m n
    → Improved (λ t. F t ⊎ G t) o n
then_offers F G o m n i j = record {
  from = by j.from i.from;
  covers = λ u h. elim h [ inl f ↦ j.keeps u (i.covers u f) | inr g ↦ j.covers u g ];
  keeps = λ u h. j.keeps u (i.keeps u h);
} where
  by : (n ≡ m) ⊎ ((t : List ℕ) × (n ≡ Some t) × G t) → (m ≡ o) ⊎ ((t : List ℕ) × (m ≡ Some t) × F t)
      → (n ≡ o) ⊎ ((t : List ℕ) × (n ≡ Some t) × (F t ⊎ G t))
  by (inl e) (inl f) = inl (e ∙ f)
  by (inl e) (inr (t, f, h)) = inr (t, e ∙ f, inl h)
  by (inr (t, e, g)) f = inr (t, e, inr g)

pub below_or : (k i : ℕ) → k < i + 1 → (k < i) ⊎ (k ≡ i)
below_or k i h = grind arith

pub offers_more : (F : ℕ → List ℕ → Type 0) (i : ℕ) (o m n : Option (List ℕ)) → Improved (Below F i) o m → Improved (F i) m n
    → Improved (Below F (i + 1)) o n
offers_more F i o m n a b = same_offers (λ t. Below F i t ⊎ F i t) (Below F (i + 1)) o n to back (then_offers (Below F i) (F i) o m n a b) where
  to : (t : List ℕ) → Below F i t ⊎ F i t → Below F (i + 1) t
  to t (inl (k, l, f)) = (k, omega arith, f)
  to t (inr f) = (i, omega arith, f)

  back : (t : List ℕ) → Below F (i + 1) t → Below F i t ⊎ F i t
  back t (k, l, f) = elim (below_or k i l) [ inl h ↦ inl (k, h, f) | inr e ↦ inr (subst (λ j. F j t) e f) ]

pub least_of : (F : List ℕ → Type 0) (n : Option (List ℕ)) → Improved F None n → LeastOf F n
least_of F None i = i.covers
least_of F (Some t) i = (by i.from, i.covers) where
  by : (Some t ≡ None) ⊎ ((s : List ℕ) × (Some t ≡ Some s) × F s) → F t
  by (inl e) = absurd (cc)
  by (inr (s, e, f)) = let z : s ≡ t = cc in subst F z f

pub offered_first : (w : List ℕ) → Improved (λ t. t ≡ w) None (Some w)
offered_first w = record {
  from = inr (w, refl, refl);
  covers = λ u e p. not_self w (subst (λ v. Precedes v w) e p);
  keeps = λ u h. absurd h;
}

pub offered_lesser : (w t : List ℕ) → Precedes w t → Improved (λ s. s ≡ w) (Some t) (Some w)
offered_lesser w t l = record {
  from = inr (w, refl, refl);
  covers = λ u e p. not_self w (subst (λ v. Precedes v w) e p);
  keeps = λ u h p. h (chain u w t p l);
}

pub offered_other : (w t : List ℕ) → (Precedes w t → ⊥) → Improved (λ s. s ≡ w) (Some t) (Some t)
offered_other w t l = record {
  from = inl refl;
  covers = λ u e p. l (subst (λ v. Precedes v t) e p);
  keeps = λ u h. h;
}

pub later_offers : (v u : List ℕ) (n : Option (List ℕ)) → Precedes v u → NotBefore v n → NotBefore u n
later_offers v u None p h = h
later_offers v u (Some t) p h = λ q. h (chain v u t p q)

-- the loop over the listed traces
pub each_more : (F : List ℕ → List ℕ → Type 0) (W items : List (List ℕ)) (i : ℕ) (x : List ℕ) (o m n : Option (List ℕ)) → items ≡ W
    → i < length items → x ≡ get_or items i x → Improved (OfEach F W i) o m → Improved (F x) m n → Improved (OfEach F W (i + 1)) o n
each_more F W items i x o m n e l r a b =
    let y : x ≡ get_or W i [] = get_or_read items i x l r [] ∙ ap (λ z. get_or z i []) e in
    offers_more (λ k. F (get_or W k [])) i o m n a (subst (λ z. Improved (F z) m n) y b)

pub each_all : (F : List ℕ → List ℕ → Type 0) (G : List ℕ → Type 0) (W items : List (List ℕ)) (i : ℕ) (n : Option (List ℕ)) → items ≡ W
    → length items ≤ i → i ≤ length items → ((t : List ℕ) → OfEach F W (length W) t ↔ G t) → Improved (OfEach F W i) None n → LeastOf G n
each_all F G W items i n e l r h a =
    let q : i ≡ length W = omega (arith, l, r, ap length e) in
    least_of G n (same_offers (OfEach F W (length W)) G None n (λ t. (h t).0) (λ t. (h t).1) (subst (λ j. Improved (OfEach F W j) None n) q a))
