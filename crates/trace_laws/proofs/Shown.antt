-- What the listed traces show, place by place, is what breaks the rules.
use Rattle.std.proofs.Common.{◌≡◌, ◌⊎◌, ◌↔◌, inl, inr, ℕ, ◌≤◌, Option, Some, ◌+◌, ◌-◌, ◌<◌, length, get_or, take, drop, arith, List, [], ◌∷◌, ◌++◌, refl, sym, ap, ◌∙◌, subst, Bool, append_assoc, length-append}
use Rattle.std.proofs.lemmas.List.{take-append-drop, drop_more, get_or_at, get_or-append-add, drop_at, drop-drop, take_at, get_or_default, length_push, get_or_push, take_more, take_all, append-nil, drop_all, length-take-le}
use Rattle.std.specs.List.{Contains}
use Rattle.trace_laws.specs.Breaks.{MissingBeginning, TwiceInARow, MissingSwap, MissingCarry, MissingBoth}
use Rattle.std.specs.declared.cmp.Ordering.TheVariants.{Less, Equal}
use Rattle.trace_laws.specs.Breaks.{Precedes}
use Rattle.trace_laws.specs.Mirror.Improved.{NotBefore, Improved, LeastOf}
use Rattle.trace_laws.proofs.Offers.{later_offers, none_offered, below_or}
use Rattle.trace_laws.specs.Mirror.Faults.{exchanged, SwapAt, CarryAt, front, last_of, EndsTwice, BeginsAt, SwapsOf, CarriesOf, TwiceOf, BothAt, BothOf, OfEach}

pub split_two : (x : List ℕ) (p : ℕ) → p + 1 < length x → x ≡ take p x ++ (get_or x p 0 ∷ (get_or x (p + 1) 0 ∷ drop (p + 2) x))
split_two x p l =
    let one : p < length x = omega (arith, l) in
    let e : p + 1 + 1 ≡ p + 2 = omega arith in
    sym (take-append-drop p x) ∙ ap (λ y. take p x ++ y) (drop_more x p 0 one ∙ ap (λ y. get_or x p 0 ∷ y) (drop_more x (p + 1) 0 l ∙ ap (λ n. get_or x (p + 1) 0 ∷ drop n x) e))

module _ (s : List ℕ) (a b : ℕ) (u : List ℕ) where
  whole : List ℕ
  whole = s ++ (a ∷ (b ∷ u))

  first_at : get_or (s ++ (a ∷ (b ∷ u))) (length s) 0 ≡ a
  first_at = get_or_at s a (b ∷ u) 0 (length s) refl

  second_at : get_or (s ++ (a ∷ (b ∷ u))) (length s + 1) 0 ≡ b
  second_at = get_or-append-add s (a ∷ (b ∷ u)) 1 0

  rest_at : drop (length s + 2) (s ++ (a ∷ (b ∷ u))) ≡ u
  rest_at = sym (drop-drop 2 (length s) (s ++ (a ∷ (b ∷ u)))) ∙ ap (drop 2) (drop_at s (a ∷ (b ∷ u)) (length s) refl)

  pub exchanged_at : exchanged (s ++ (a ∷ (b ∷ u))) (length s) ≡ s ++ (b ∷ (a ∷ u))
  exchanged_at = λ i. take_at s (a ∷ (b ∷ u)) (length s) refl i ++ (second_at i ∷ (first_at i ∷ rest_at i))

  within_at : length s + 1 < length (s ++ (a ∷ (b ∷ u)))
  within_at = omega (arith, length-append s (a ∷ (b ∷ u)))

pub listed_at : (W : List (List ℕ)) (k : ℕ) → k < length W → Contains W (get_or W k [])
listed_at W k l = (k, l, get_or_default W k (get_or W k []) [] l)

pub swaps_show : (out : ℕ → Bool) (W : List (List ℕ)) (t : List ℕ) → OfEach (SwapsOf out W) W (length W) t ↔ MissingSwap out (Contains W) t
swaps_show out W t = (λ h. to h, back) where
  to : OfEach (SwapsOf out W) W (length W) t → MissingSwap out (Contains W) t
  to (k, l, (p, q, s)) = record {
    missing = s.missing;
    before = take p (get_or W k []);
    after = drop (p + 2) (get_or W k []);
    first = get_or (get_or W k []) p 0;
    second = get_or (get_or W k []) (p + 1) 0;
    alike = s.alike;
    present = subst (Contains W) (split_two (get_or W k []) p s.within) (listed_at W k l);
    is = s.is;
  }

  at : (m : MissingSwap out (Contains W) t) → SwapAt out W (m.before ++ m.first ∷ m.second ∷ m.after) (length m.before) t
  at m = record {
    within = within_at m.before m.first m.second m.after;
    alike = ap out (first_at m.before m.first m.second m.after) ∙ m.alike ∙ sym (ap out (second_at m.before m.first m.second m.after));
    is = m.is ∙ sym (exchanged_at m.before m.first m.second m.after);
    missing = m.missing;
  }

  near : (m : MissingSwap out (Contains W) t) → SwapsOf out W (m.before ++ m.first ∷ m.second ∷ m.after) t
  near m = (length m.before, omega (arith, within_at m.before m.first m.second m.after), at m)

  back : MissingSwap out (Contains W) t → OfEach (SwapsOf out W) W (length W) t
  back m = (m.present.0, m.present.1, subst (λ x. SwapsOf out W x t) (sym (get_or_default W m.present.0 [] (m.before ++ m.first ∷ m.second ∷ m.after) m.present.1 ∙ m.present.2)) (near m))

pub front_at : (y : List ℕ) (c : ℕ) → front (y ++ c ∷ []) ≡ y
front_at y c = take_at y (c ∷ []) (length (y ++ c ∷ []) - 1) (omega (arith, length_push y c))

pub last_at : (y : List ℕ) (c : ℕ) → last_of (y ++ c ∷ []) ≡ c
last_at y c = get_or_push y c 0 (length (y ++ c ∷ []) - 1) (omega (arith, length_push y c))

pub front_last : (x : List ℕ) → 0 < length x → x ≡ front x ++ last_of x ∷ []
front_last x l =
    let s : length x - 1 < length x = omega arith in
    let e : length x - 1 + 1 ≡ length x = omega arith in
    sym (take_all (length x - 1 + 1) x (omega arith)) ∙ take_more x (length x - 1) 0 s

pub carries_show : (out : ℕ → Bool) (W : List (List ℕ)) (t : List ℕ) → OfEach (CarriesOf out W) W (length W) t ↔ MissingCarry out (Contains W) t
carries_show out W t = (λ h. to h, back) where
  nonempty : (x : List ℕ) (p : ℕ) → p + 1 < length (front x) → 0 < length x
  nonempty [] p h = absurd (omega (arith, h))
  nonempty (a ∷ x) p h = omega arith

  to : OfEach (CarriesOf out W) W (length W) t → MissingCarry out (Contains W) t
  to (k, l, (p, q, s)) = record {
    missing = s.missing;
    before = take p (front (get_or W k []));
    after = drop (p + 2) (front (get_or W k []));
    first = get_or (front (get_or W k [])) p 0;
    second = get_or (front (get_or W k [])) (p + 1) 0;
    last = last_of (get_or W k []);
    differ = s.differ;
    alike = s.alike;
    followed = subst (Contains W) (front_last (get_or W k []) (nonempty (get_or W k []) p s.within)
        ∙ ap (λ y. y ++ last_of (get_or W k []) ∷ []) (split_two (front (get_or W k [])) p s.within)
        ∙ append_assoc (take p (front (get_or W k []))) (get_or (front (get_or W k [])) p 0 ∷ (get_or (front (get_or W k [])) (p + 1) 0 ∷ drop (p + 2) (front (get_or W k [])))) (last_of (get_or W k []) ∷ []))
        (listed_at W k l);
    present = s.present;
    is = s.is ∙ append_assoc (take p (front (get_or W k []))) (get_or (front (get_or W k [])) (p + 1) 0 ∷ (get_or (front (get_or W k [])) p 0 ∷ drop (p + 2) (front (get_or W k [])))) (last_of (get_or W k []) ∷ []);
  }

  at : (m : MissingCarry out (Contains W) t) → CarryAt out W (m.before ++ m.first ∷ m.second ∷ m.after) m.last (length m.before) t
  at m = record {
    within = within_at m.before m.first m.second m.after;
    differ = λ e. m.differ (sym (ap out (first_at m.before m.first m.second m.after)) ∙ e ∙ ap out (second_at m.before m.first m.second m.after));
    alike = ap out (first_at m.before m.first m.second m.after) ∙ m.alike;
    present = subst (Contains W) (sym (exchanged_at m.before m.first m.second m.after)) m.present;
    is = m.is ∙ sym (append_assoc m.before (m.second ∷ (m.first ∷ m.after)) (m.last ∷ [])) ∙ sym (ap (λ y. y ++ m.last ∷ []) (exchanged_at m.before m.first m.second m.after));
    missing = m.missing;
  }

  Of : List ℕ → ℕ → Type 0
  Of y c = (p : ℕ) × (p < length y) × CarryAt out W y c p t

  near : (m : MissingCarry out (Contains W) t) → Of (m.before ++ m.first ∷ m.second ∷ m.after) m.last
  near m = (length m.before, omega (arith, within_at m.before m.first m.second m.after), at m)

  joined : (y : List ℕ) (c : ℕ) → Of y c → CarriesOf out W (y ++ c ∷ []) t
  joined y c o = subst (λ z. Of z (last_of (y ++ c ∷ []))) (sym (front_at y c)) (subst (λ d. Of y d) (sym (last_at y c)) o)

  back : MissingCarry out (Contains W) t → OfEach (CarriesOf out W) W (length W) t
  back m = (
    m.followed.0,
    m.followed.1,
    subst (λ x. CarriesOf out W x t)
        (append_assoc m.before (m.first ∷ (m.second ∷ m.after)) (m.last ∷ []) ∙ sym (get_or_default W m.followed.0 [] (m.before ++ m.first ∷ m.second ∷ (m.after ++ m.last ∷ [])) m.followed.1 ∙ m.followed.2))
        (joined (m.before ++ m.first ∷ m.second ∷ m.after) m.last (near m)),
  )

pub twice_show : (W : List (List ℕ)) (t : List ℕ) → OfEach TwiceOf W (length W) t ↔ TwiceInARow (Contains W) t
twice_show W t = (λ h. to h, back) where
  to : OfEach TwiceOf W (length W) t → TwiceInARow (Contains W) t
  to (k, l, (e, d)) = record { present = subst (Contains W) (sym e) (listed_at W k l); before = d.before; symbol = d.symbol; is = e ∙ d.is }

  back : TwiceInARow (Contains W) t → OfEach TwiceOf W (length W) t
  back m = let e : get_or W m.present.0 [] ≡ t = get_or_default W m.present.0 [] t m.present.1 ∙ m.present.2 in
      (m.present.0, m.present.1, (sym e, record { before = m.before; symbol = m.symbol; is = e ∙ m.is }))

pub ends_twice : (x : List ℕ) (p : ℕ) → p + 2 ≡ length x → get_or x p 0 ≡ get_or x (p + 1) 0 → EndsTwice x
ends_twice x p l e = record {
  before = take p x;
  symbol = get_or x p 0;
  is = split_two x p (omega (arith, l)) ∙ (λ i. take p x ++ (get_or x p 0 ∷ (sym e i ∷ drop_all (p + 2) x (omega (arith, l)) i)));
}

-- where the empty trace is listed, each missing beginning is a front of a listed trace
pub beginnings_show : (W : List (List ℕ)) (t : List ℕ) → Contains W [] → OfEach (BeginsAt W) W (length W) t ↔ MissingBeginning (Contains W) t
beginnings_show W t none = (λ h. to h, back) where
  to : OfEach (BeginsAt W) W (length W) t → MissingBeginning (Contains W) t
  to (k, l, b) = record {
    missing = b.missing;
    begins = inr (
      drop b.size (get_or W k []),
      subst (Contains W) (sym (ap (λ f. f ++ drop b.size (get_or W k [])) b.is ∙ take-append-drop b.size (get_or W k []))) (listed_at W k l),
    );
  }

  shorter : (u : List ℕ) → (Contains W t → ⊥) → Contains W (t ++ u) → length t < length (t ++ u)
  shorter [] f h = absurd (f (subst (Contains W) (append-nil t) h))
  shorter (a ∷ u) f h = omega (arith, length-append t (a ∷ u))

  by : (Contains W t → ⊥) → (t ≡ []) ⊎ ((u : List ℕ) × Contains W (t ++ u)) → OfEach (BeginsAt W) W (length W) t
  by f (inl e) = absurd (f (subst (Contains W) (sym e) none))
  by f (inr (u, (k, l, e))) = (
    k,
    l,
    subst (λ x. BeginsAt W x t) (sym (get_or_default W k [] (t ++ u) l ∙ e))
        (record { size = length t; within = shorter u f (k, l, e); is = sym (take_at t u (length t) refl); missing = f }),
  )

  back : MissingBeginning (Contains W) t → OfEach (BeginsAt W) W (length W) t
  back m = by m.missing m.begins

pub boths_show : (out : ℕ → Bool) (W : List (List ℕ)) (t : List ℕ) → OfEach (BothOf out W) W (length W) t ↔ MissingBoth out (Contains W) t
boths_show out W t = (λ h. to h, back) where
  to : OfEach (BothOf out W) W (length W) t → MissingBoth out (Contains W) t
  to (k, l, (j, m, s)) =
      let x : get_or W k [] ≡ front (get_or W k []) ++ last_of (get_or W k []) ∷ [] = front_last (get_or W k []) s.some in
      let y : get_or W j [] ≡ front (get_or W k []) ++ last_of (get_or W j []) ∷ [] =
      front_last (get_or W j []) (omega (arith, s.some, s.long)) ∙ ap (λ f. f ++ last_of (get_or W j []) ∷ []) (sym s.fronts) in
      record {
        missing = s.missing;
        before = front (get_or W k []);
        first = last_of (get_or W k []);
        second = last_of (get_or W j []);
        differ = s.differ;
        one = subst (Contains W) x (listed_at W k l);
        other = subst (Contains W) y (listed_at W j m);
        is = s.is ∙ ap (λ f. f ++ last_of (get_or W j []) ∷ []) x ∙ append_assoc (front (get_or W k [])) (last_of (get_or W k []) ∷ []) (last_of (get_or W j []) ∷ []);
      }

  at : (m : MissingBoth out (Contains W) t) → BothAt out W (m.before ++ m.first ∷ []) (m.before ++ m.second ∷ []) t
  at m = record {
    some = omega (arith, length_push m.before m.first);
    long = length_push m.before m.first ∙ sym (length_push m.before m.second);
    fronts = front_at m.before m.first ∙ sym (front_at m.before m.second);
    differ = λ e. m.differ (sym (ap out (last_at m.before m.first)) ∙ e ∙ ap out (last_at m.before m.second));
    is = m.is ∙ sym (append_assoc m.before (m.first ∷ []) (m.second ∷ [])) ∙ sym (ap (λ c. (m.before ++ m.first ∷ []) ++ c ∷ []) (last_at m.before m.second));
    missing = m.missing;
  }

  back : MissingBoth out (Contains W) t → OfEach (BothOf out W) W (length W) t
  back m = (
    m.one.0,
    m.one.1,
    (
      m.other.0,
      m.other.1,
      subst (λ x. BothAt out W x (get_or W m.other.0 []) t) (sym (get_or_default W m.one.0 [] (m.before ++ m.first ∷ []) m.one.1 ∙ m.one.2))
          (subst (λ y. BothAt out W (m.before ++ m.first ∷ []) y t) (sym (get_or_default W m.other.0 [] (m.before ++ m.second ∷ []) m.other.1 ∙ m.other.2)) (at m)),
    ),
  )

pub first_missing : (W : List (List ℕ)) (x : List ℕ) (size : ℕ) (w : List ℕ) (o n : Option (List ℕ)) → size < length x → w ≡ take size x
    → (Contains W w → ⊥) → ((k : ℕ) → k < size → Contains W (take k x)) → Improved (λ t. t ≡ w) o n → Improved (BeginsAt W x) o n
first_missing W x size w o n l e f all i = record {
  from = elim i.from [ inl g ↦ inl g | inr (t, g, h) ↦ inr (t, g, record { size = size; within = l; is = h ∙ e; missing = λ c. f (subst (Contains W) h c) }) ];
  covers = λ u b. by u b (where_is b.size);
  keeps = i.keeps;
} where
  where_is : (k : ℕ) → (k < size) ⊎ ((k ≡ size) ⊎ (size < k))
  where_is k = grind arith

  by : (u : List ℕ) (b : BeginsAt W x u) → (b.size < size) ⊎ ((b.size ≡ size) ⊎ (size < b.size)) → NotBefore u n
  by u b (inl h) = absurd (b.missing (subst (Contains W) (sym b.is) (all b.size h)))
  by u b (inr (inl h)) = i.covers u (b.is ∙ ap (λ k. take k x) h ∙ sym e)
  by u b (inr (inr h)) =
      let long : length u ≡ b.size = ap length b.is ∙ length-take-le b.size x (omega (arith, b.within)) in
      let short : length w ≡ size = ap length e ∙ length-take-le size x (omega (arith, l)) in
      let p : length w < length u = omega (arith, long, short, h) in
      later_offers w u n (inl p) (i.covers w refl)

pub all_listed : (W : List (List ℕ)) (x : List ℕ) (size : ℕ) (o : Option (List ℕ)) → length x ≤ size
    → ((k : ℕ) → k < size → Contains W (take k x)) → Improved (BeginsAt W x) o o
all_listed W x size o l all = none_offered (BeginsAt W x) o (λ t b. b.missing (subst (Contains W) (sym b.is) (all b.size (omega (arith, b.within, l)))))

none_first : (u : List ℕ) → Precedes u [] → ⊥
none_first u (inl h) = omega (arith, h)
none_first [] (inr (e, l)) = let z : Equal ≡ Less = l in cc
none_first (a ∷ u) (inr (e, l)) = omega (arith, e)

pub empty_missing : (W : List (List ℕ)) (w : List ℕ) → w ≡ [] → (Contains W w → ⊥) → LeastOf (MissingBeginning (Contains W)) (Some w)
empty_missing W w e f = (record { missing = f; begins = inl e }, λ u m p. none_first u (subst (Precedes u) e p))
