-- The least trace that lacks a sibling gives the least trace that two siblings demand.
use Rattle.std.proofs.Common.{◌≡◌, ◌⊎◌, inl, inr, ℕ, ◌<◌, length, get_or, arith, List, [], ◌∷◌, ◌++◌, refl, sym, ap, ◌∙◌, subst, Bool, true, false, Option, Some, None}
use Rattle.std.proofs.lemmas.List.{length_push, get_or_default}
use Rattle.std.specs.Cmp.{ranked}
use Rattle.std.specs.Cmp.Lexicographic.{slice_cmp}
use Rattle.std.specs.Ordering.{nat_cmp, ordering_then}
use Rattle.std.specs.declared.cmp.Ordering.{Ordering}
use Rattle.std.specs.declared.cmp.Ordering.TheVariants.{Less, Equal, Greater}
use Rattle.std.specs.List.{Contains}
use Rattle.trace_laws.specs.Breaks.{MissingBoth, Precedes}
use Rattle.trace_laws.specs.Mirror.Faults.{front, last_of, BothAt, BothOf, OfEach}
use Rattle.trace_laws.specs.Mirror.Followers.{Lacks, LacksOf}
use Rattle.trace_laws.specs.Mirror.Improved.{Improved, LeastOf}
use Rattle.trace_laws.proofs.Offers.{then_offers, least_of}
use Rattle.trace_laws.proofs.Shown.{boths_show, listed_at, front_last, front_at, last_at}

lower_front : (y x : List ℕ) (d c : ℕ) → length y ≡ length x → slice_cmp nat_cmp (y ++ d ∷ []) (x ++ c ∷ []) ≡ Less
    → (slice_cmp nat_cmp y x ≡ Less) ⊎ (y ≡ x)
lower_front [] [] d c e l = inr refl
lower_front [] (b ∷ x) d c e l = absurd (omega (arith, e))
lower_front (a ∷ y) [] d c e l = absurd (omega (arith, e))
lower_front (a ∷ y) (b ∷ x) d c e l = by (nat_cmp a b) refl l (lower_front y x d c (omega (arith, e))) where
  by : (r : Ordering) → nat_cmp a b ≡ r → ordering_then r (slice_cmp nat_cmp (y ++ d ∷ []) (x ++ c ∷ [])) ≡ Less
      → (slice_cmp nat_cmp (y ++ d ∷ []) (x ++ c ∷ []) ≡ Less → (slice_cmp nat_cmp y x ≡ Less) ⊎ (y ≡ x))
      → (ordering_then (nat_cmp a b) (slice_cmp nat_cmp y x) ≡ Less) ⊎ ((a ∷ y) ≡ (b ∷ x))
  by Less q h f = inl (ap (λ r. ordering_then r (slice_cmp nat_cmp y x)) q)
  by Equal q h f = elim (f h) [ inl m ↦ inl (ap (λ r. ordering_then r (slice_cmp nat_cmp y x)) q ∙ m) | inr m ↦ inr (λ i. ranked a b Equal (sym q) i ∷ m i) ]
  by Greater q h f = absurd (let z : Greater ≡ Less = h in cc)

front_precedes : (y x : List ℕ) (d c : ℕ) → Precedes (y ++ d ∷ []) (x ++ c ∷ []) → Precedes y x ⊎ (y ≡ x)
front_precedes y x d c (inl h) = inl (inl (omega (arith, h, length_push y d, length_push x c)))
front_precedes y x d c (inr (e, l)) =
    let q : length y ≡ length x = omega (arith, e, length_push y d, length_push x c) in
    elim (lower_front y x d c q l) [ inl m ↦ inl (inr (q, m)) | inr m ↦ inr m ]

module _ (out : ℕ → Bool) (W : List (List ℕ)) where
  abbrev Lacking : List ℕ → Type 0
  Lacking x = OfEach (LacksOf out false W) W (length W) x ⊎ OfEach (LacksOf out true W) W (length W) x

  lacks_so : (y z u : List ℕ) → Contains W z → BothAt out W y z u → Lacks out (out (last_of z)) W y
  lacks_so y z u h b = record {
    some = b.some;
    turned = b.differ;
    sibling = last_of z;
    of_side = refl;
    may = subst (Contains W) (front_last z (omega (arith, b.some, b.long)) ∙ ap (λ f. f ++ last_of z ∷ []) (sym b.fronts)) h;
    missing = λ k. b.missing (subst (Contains W) (sym b.is) k);
  }

  lacking_at : (k : ℕ) → k < length W → (s : Bool) → Lacks out s W (get_or W k []) → Lacking (get_or W k [])
  lacking_at k l false h = inl (k, l, (refl, h))
  lacking_at k l true h = inr (k, l, (refl, h))

  both_of_lacks : (x : List ℕ) (s : Bool) → Lacks out s W x → (t : List ℕ) × BothOf out W x t
  both_of_lacks x s h =
      let z : get_or W h.may.0 [] ≡ front x ++ h.sibling ∷ [] = get_or_default W h.may.0 [] (front x ++ h.sibling ∷ []) h.may.1 ∙ h.may.2 in (
        x ++ h.sibling ∷ [],
        (
          h.may.0,
          h.may.1,
          subst (λ y. BothAt out W x y (x ++ h.sibling ∷ [])) (sym z) (record {
            some = h.some;
            long = ap length (front_last x h.some) ∙ length_push (front x) (last_of x) ∙ sym (length_push (front x) h.sibling);
            fronts = sym (front_at (front x) h.sibling);
            differ = λ e. h.turned (e ∙ ap out (last_at (front x) h.sibling) ∙ h.of_side);
            is = ap (λ c. x ++ c ∷ []) (sym (last_at (front x) h.sibling));
            missing = h.missing;
          }),
        ),
      )

  lacking_of : (u : List ℕ) → MissingBoth out (Contains W) u → (y z : List ℕ) × BothAt out W y z u × Lacking y × BothOf out W y u
  lacking_of u m =
      let h : OfEach (BothOf out W) W (length W) u = (boths_show out W u).1 m in (
        get_or W h.0 [],
        get_or W h.2.0 [],
        h.2.2,
        lacking_at h.0 h.1 (out (last_of (get_or W h.2.0 [])))
            (lacks_so (get_or W h.0 []) (get_or W h.2.0 []) u (listed_at W h.2.0 h.2.1) h.2.2),
        h.2,
      )

  none_lacking : LeastOf Lacking None → LeastOf (MissingBoth out (Contains W)) None
  none_lacking f u m = let h = lacking_of u m in f h.0 h.3

  lacks_some : (x : List ℕ) → Lacking x → (k : ℕ) × (k < length W) × (x ≡ get_or W k []) × ((t : List ℕ) × BothOf out W x t)
  lacks_some x (inl (k, l, (e, h))) = (k, l, e, subst (λ y. (t : List ℕ) × BothOf out W y t) (sym e) (both_of_lacks (get_or W k []) false h))
  lacks_some x (inr (k, l, (e, h))) = (k, l, e, subst (λ y. (t : List ℕ) × BothOf out W y t) (sym e) (both_of_lacks (get_or W k []) true h))

  least_at : (x : List ℕ) (o : Option (List ℕ)) → LeastOf Lacking (Some x) → Improved (BothOf out W x) None o → LeastOf (MissingBoth out (Contains W)) o
  least_at x None l i = absurd (let h = lacks_some x l.0 in i.covers h.3.0 h.3.1)
  least_at x (Some t) l i = (broken, covers) where
    both : BothOf out W x t
    both = by i.from where
      by : (Some t ≡ None) ⊎ ((s : List ℕ) × (Some t ≡ Some s) × BothOf out W x s) → BothOf out W x t
      by (inl e) = absurd (cc)
      by (inr (s, e, f)) = let z : s ≡ t = cc in subst (BothOf out W x) z f

    broken : MissingBoth out (Contains W) t
    broken = let h = lacks_some x l.0 in (boths_show out W t).0 (h.0, h.1, subst (λ y. BothOf out W y t) h.2 both)

    covers : (u : List ℕ) → MissingBoth out (Contains W) u → Precedes u t → ⊥
    covers u m p =
        let h = lacking_of u m in
        let q : Precedes (h.0 ++ last_of h.1 ∷ []) (x ++ last_of (get_or W both.0 []) ∷ []) = subst (λ v. Precedes v (x ++ last_of (get_or W both.0 []) ∷ [])) h.2.is (subst (Precedes u) both.2.is p) in
        elim (front_precedes h.0 x (last_of h.1) (last_of (get_or W both.0 [])) q) [ inl g ↦ l.1 h.0 h.3 g | inr e ↦ i.covers u (subst (λ y. BothOf out W y u) e h.4) p ]

  two_sides : (o l : Option (List ℕ)) → Improved (OfEach (LacksOf out false W) W (length W)) None o
      → Improved (OfEach (LacksOf out true W) W (length W)) o l → LeastOf Lacking l
  two_sides o l i j = least_of Lacking l (then_offers (OfEach (LacksOf out false W) W (length W)) (OfEach (LacksOf out true W) W (length W)) None o l i j)

pub lacking_none : (out : ℕ → Bool) (W : List (List ℕ)) (o l : Option (List ℕ)) → Improved (OfEach (LacksOf out false W) W (length W)) None o
    → Improved (OfEach (LacksOf out true W) W (length W)) o l → l ≡ None → LeastOf (MissingBoth out (Contains W)) None
lacking_none out W o l i j e = none_lacking out W (subst (LeastOf (Lacking out W)) e (two_sides out W o l i j))

pub lacking_some : (out : ℕ → Bool) (W : List (List ℕ)) (o l : Option (List ℕ)) (x : List ℕ) (n : Option (List ℕ)) → Improved (OfEach (LacksOf out false W) W (length W)) None o
    → Improved (OfEach (LacksOf out true W) W (length W)) o l → l ≡ Some x → Improved (BothOf out W x) None n → LeastOf (MissingBoth out (Contains W)) n
lacking_some out W o l x n i j e k = least_at out W x n (subst (LeastOf (Lacking out W)) e (two_sides out W o l i j)) k
