-- Two traces of a process of which one is ahead of the other by a stretch of one direction.
use Rattle.std.proofs.Common.{◌≡◌, ◌⊎◌, inl, inr, ℕ, suc, ◌<◌, ◌≤◌, Bool, List, [], ◌∷◌, ◌++◌, refl, sym, ap, subst, ◌∙◌, arith, append_assoc, append-nil}
use Rattle.std.specs.List.{AllByRecursion}
use Rattle.std.proofs.lemmas.Bool.{cases_eq, cases_lt}
use Rattle.place_graph.specs.Tale.{times}
use Rattle.place_graph.proofs.Sums.{one_same, one_other, times_append}
use Rattle.process_laws.specs.Phased.{Phased}
use Rattle.net_laws.proofs.Rows.{all_both}

module _ (out : ℕ → Bool) (T : List ℕ → Type 0) where
  -- the same may follow both, and each symbol is in both as often
  pub record Alike (u v : List ℕ) : Type 0 where
    pub there : (z : List ℕ) → T (u ++ z) → T (v ++ z)
    pub back : (z : List ℕ) → T (v ++ z) → T (u ++ z)
    pub even : (a : ℕ) → times a u ≡ times a v

  -- v is ahead of u by symbols of the direction d, in any order
  pub record Ahead (d : Bool) (u v : List ℕ) : Type 0 where
    pub more : List ℕ
    pub all : AllByRecursion (λ a. out a ≡ d) more
    pub alike : Alike (u ++ more) v

  -- v is ahead of u by symbols of the direction d, or u is ahead of v by symbols of the direction e
  pub record Apart (d e : Bool) (u v : List ℕ) : Type 0 where
    pub one : T u
    pub two : T v
    pub gap : Ahead d u v ⊎ Ahead e v u

  -- ---- alike

  pub alike_same : (u : List ℕ) → Alike u u
  alike_same u = record { there = λ z h. h; back = λ z h. h; even = λ a. refl }

  pub alike_back : (u v : List ℕ) → Alike u v → Alike v u
  alike_back u v h = record { there = h.back; back = h.there; even = λ a. sym (h.even a) }

  pub alike_then : (u v w : List ℕ) → Alike u v → Alike v w → Alike u w
  alike_then u v w h k = record {
    there = λ z x. k.there z (h.there z x);
    back = λ z x. h.back z (k.back z x);
    even = λ a. h.even a ∙ k.even a;
  }

  pub alike_more : (u v x : List ℕ) → Alike u v → Alike (u ++ x) (v ++ x)
  alike_more u v x h = record {
    there = λ z y. subst T (sym (append_assoc v x z)) (h.there (x ++ z) (subst T (append_assoc u x z) y));
    back = λ z y. subst T (sym (append_assoc u x z)) (h.back (x ++ z) (subst T (append_assoc v x z) y));
    even = λ a. omega (arith, times_append a u x, times_append a v x, h.even a);
  }

  pub alike_trace : (u v : List ℕ) → Alike u v → T u → T v
  alike_trace u v h t = subst T (append-nil v) (h.there [] (subst T (sym (append-nil u)) t))

  pub ahead_more : (d : Bool) (u v : List ℕ) (a : ℕ) → Ahead d u v → out a ≡ d → Ahead d u (v ++ a ∷ [])
  ahead_more d u v a x way = record {
    more = x.more ++ a ∷ [];
    all = all_both (λ b. out b ≡ d) x.more (a ∷ []) x.all (way, tt);
    alike = subst (λ y. Alike y (v ++ a ∷ [])) (append_assoc u x.more (a ∷ [])) (alike_more (u ++ x.more) v (a ∷ []) x.alike);
  }

  -- no symbol of one direction is among those of the other
  times_none : (d e : Bool) (m : List ℕ) (a : ℕ) → (d ≡ e → ⊥) → AllByRecursion (λ b. out b ≡ e) m → out a ≡ d → times a m ≡ 0
  times_none d e [] a apart all way = refl
  times_none d e (b ∷ m) a apart all way =
      omega (arith, one_other a b (λ z. apart (sym way ∙ ap out z ∙ all.0)), times_none d e m a apart all.1 way)

  module _ (rules : Phased ℕ out T) where
    pub together : (d e : Bool) → Apart d e [] []
    together d e = record { one = rules.empty; two = rules.empty; gap = inl (record { more = []; all = tt; alike = alike_same [] }) }

    pub flip : (d e : Bool) (u v : List ℕ) → Apart d e u v → Apart e d v u
    flip d e u v h = record { one = h.two; two = h.one; gap = by h.gap }
      where
        by : Ahead d u v ⊎ Ahead e v u → Ahead e v u ⊎ Ahead d u v
        by (inl x) = inr x
        by (inr x) = inl x

    swapped : (u r : List ℕ) (a b : ℕ) → out a ≡ out b → Alike (u ++ b ∷ a ∷ r) (u ++ a ∷ b ∷ r)
    swapped u r a b same = record {
      there = λ z h. subst T (sym (append_assoc u (a ∷ b ∷ r) z)) (rules.swap u (r ++ z) b a (sym same) (subst T (append_assoc u (b ∷ a ∷ r) z) h));
      back = λ z h. subst T (sym (append_assoc u (b ∷ a ∷ r) z)) (rules.swap u (r ++ z) a b same (subst T (append_assoc u (a ∷ b ∷ r) z) h));
      even = λ c. omega (arith, times_append c u (b ∷ a ∷ r), times_append c u (a ∷ b ∷ r));
    }

    -- a symbol of a stretch may as well come first
    record Front (d : Bool) (u m : List ℕ) (a : ℕ) : Type 0 where
      pub rest : List ℕ
      pub all : AllByRecursion (λ b. out b ≡ d) rest
      pub alike : Alike (u ++ m) (u ++ a ∷ rest)

    to_front : (d : Bool) (u m : List ℕ) (a : ℕ) → AllByRecursion (λ b. out b ≡ d) m → 0 < times a m → out a ≡ d → Front d u m a
    to_front d u [] a all some way = absurd (omega (arith, some))
    to_front d u (b ∷ m) a all some way = elim (cases_eq a b) [
      | inl e ↦ record { rest = m; all = all.1; alike = subst (λ c. Alike (u ++ b ∷ m) (u ++ c ∷ m)) (sym e) (alike_same (u ++ b ∷ m)) }
      | inr apart ↦
          let f : Front d (u ++ b ∷ []) m a = to_front d (u ++ b ∷ []) m a all.1 (omega (arith, some, one_other a b apart)) way in
          let left : Alike (u ++ b ∷ m) ((u ++ b ∷ []) ++ a ∷ f.rest) = subst (λ x. Alike x ((u ++ b ∷ []) ++ a ∷ f.rest)) (append_assoc u (b ∷ []) m) f.alike in
          record {
            rest = b ∷ f.rest;
            all = (all.0, f.all);
            alike = alike_then (u ++ b ∷ m) (u ++ b ∷ a ∷ f.rest) (u ++ a ∷ b ∷ f.rest)
                (subst (λ x. Alike (u ++ b ∷ m) x) (append_assoc u (b ∷ []) (a ∷ f.rest)) left)
                (swapped u f.rest a b (way ∙ sym all.0));
          }
    ]

    first_of_front : (d : Bool) (u m : List ℕ) (a : ℕ) (f : Front d u m a) → T (u ++ m) → T ((u ++ a ∷ []) ++ f.rest)
    first_of_front d u m a f t = subst T (sym (append_assoc u (a ∷ []) f.rest)) (alike_trace (u ++ m) (u ++ a ∷ f.rest) f.alike t)

    -- no symbol comes twice in a stretch
    once : (d : Bool) (u m : List ℕ) (a : ℕ) → T (u ++ m) → AllByRecursion (λ b. out b ≡ d) m → out a ≡ d → times a m ≤ 1
    once d u m a t all way = elim (cases_lt 1 (times a m)) [
      | inl twice ↦
          let f : Front d u m a = to_front d u m a all (omega (arith, twice)) way in
          let left : 0 < times a f.rest = omega (arith, twice, f.alike.even a, times_append a u m, times_append a u (a ∷ f.rest), one_same a a refl) in
          let k : Front d (u ++ a ∷ []) f.rest a = to_front d (u ++ a ∷ []) f.rest a f.all left way in
          let both : T (((u ++ a ∷ []) ++ a ∷ []) ++ k.rest) = first_of_front d (u ++ a ∷ []) f.rest a k (first_of_front d u m a f t) in
          let two : T ((u ++ a ∷ []) ++ a ∷ []) = rules.prefix ((u ++ a ∷ []) ++ a ∷ []) k.rest both in
          absurd (rules.twice u a (subst T (append_assoc u (a ∷ []) (a ∷ [])) two))
      | inr low ↦ low
    ]

    -- ---- one step of one of two traces

    -- v goes on by a symbol of the direction in which it is ahead
    pub lead : (d e : Bool) (u v : List ℕ) (a : ℕ) → (d ≡ e → ⊥) → Apart d e u v → out a ≡ d → T (v ++ a ∷ []) → Apart d e u (v ++ a ∷ [])
    lead d e u v a apart h way t = record { one = h.one; two = t; gap = by h.gap }
      where
        from : (m : List ℕ) → AllByRecursion (λ b. out b ≡ e) m → Alike (v ++ m) u → Ahead d u (v ++ a ∷ []) ⊎ Ahead e (v ++ a ∷ []) u
        from [] all k = inl (record {
          more = a ∷ [];
          all = (way, tt);
          alike = alike_more u v (a ∷ []) (alike_back v u (subst (λ x. Alike x u) (append-nil v) k));
        })
        from (b ∷ m) all k =
            let whole : T (v ++ b ∷ m) = alike_trace u (v ++ b ∷ m) (alike_back (v ++ b ∷ m) u k) h.one in
            let next : T (v ++ b ∷ []) = rules.prefix (v ++ b ∷ []) m (subst T (sym (append_assoc v (b ∷ []) m)) whole) in
            absurd (apart (sym way ∙ rules.one v a b t next ∙ all.0))

        by : Ahead d u v ⊎ Ahead e v u → Ahead d u (v ++ a ∷ []) ⊎ Ahead e (v ++ a ∷ []) u
        by (inl x) = inl (ahead_more d u v a x way)
        by (inr x) = from x.more x.all x.alike

    -- u goes on by a symbol by which it is behind
    pub follow : (d e : Bool) (u v : List ℕ) (a : ℕ) → (d ≡ e → ⊥) → Apart d e u v → out a ≡ d → times a u < times a v → T (u ++ a ∷ []) × Ahead d (u ++ a ∷ []) v
    follow d e u v a apart h way less = by h.gap
      where
        by : Ahead d u v ⊎ Ahead e v u → T (u ++ a ∷ []) × Ahead d (u ++ a ∷ []) v
        by (inl x) =
            let some : 0 < times a x.more = omega (arith, less, x.alike.even a, times_append a u x.more) in
            let f : Front d u x.more a = to_front d u x.more a x.all some way in
            let t : T (u ++ x.more) = alike_trace v (u ++ x.more) (alike_back (u ++ x.more) v x.alike) h.two in (
              rules.prefix (u ++ a ∷ []) f.rest (first_of_front d u x.more a f t),
              record {
                more = f.rest;
                all = f.all;
                alike = subst (λ y. Alike y v) (sym (append_assoc u (a ∷ []) f.rest))
                    (alike_then (u ++ a ∷ f.rest) (u ++ x.more) v (alike_back (u ++ x.more) (u ++ a ∷ f.rest) f.alike) x.alike);
              },
            )
        by (inr x) = absurd (omega (arith, less, x.alike.even a, times_append a v x.more))

    pub followed : (d e : Bool) (u v : List ℕ) (a : ℕ) → (d ≡ e → ⊥) → Apart d e u v → out a ≡ d → times a u < times a v → Apart d e (u ++ a ∷ []) v
    followed d e u v a apart h way less =
        let f : T (u ++ a ∷ []) × Ahead d (u ++ a ∷ []) v = follow d e u v a apart h way less in
        record { one = f.0; two = h.two; gap = inl f.1 }

    pub behind : (d e : Bool) (u v : List ℕ) (a : ℕ) → (d ≡ e → ⊥) → Apart d e u v → out a ≡ d → times a u ≤ times a v
    behind d e u v a apart h way = by h.gap
      where
        by : Ahead d u v ⊎ Ahead e v u → times a u ≤ times a v
        by (inl x) = omega (arith, x.alike.even a, times_append a u x.more)
        by (inr x) = omega (arith, x.alike.even a, times_append a v x.more, times_none d e x.more a apart x.all way)

    pub within : (d e : Bool) (u v : List ℕ) (a : ℕ) → Apart d e u v → out a ≡ d → times a v ≤ suc (times a u)
    within d e u v a h way = by h.gap
      where
        by : Ahead d u v ⊎ Ahead e v u → times a v ≤ suc (times a u)
        by (inl x) =
            let t : T (u ++ x.more) = alike_trace v (u ++ x.more) (alike_back (u ++ x.more) v x.alike) h.two in
            omega (arith, x.alike.even a, times_append a u x.more, once d u x.more a t x.all way)
        by (inr x) = omega (arith, x.alike.even a, times_append a v x.more)
