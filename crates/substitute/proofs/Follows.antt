-- A state of the joined network beside states of its two parts, and the three steps that keep them beside each other.
use Rattle.std.proofs.Common.{◌≡◌, ◌≢◌, ℕ, [], ◌∷◌, ◌++◌, Bool, true, false, ◌&&◌, ◌||◌, Option, None, Some, sym, refl, ap, ◌∙◌, ◌⊎◌, inl, inr}
use Rattle.std.proofs.lemmas.Bool.{cases_eq, false≢true}
use Rattle.net_core.specs.Runs.{Fabric, State, Fire, Pass, after, grow, put}
use Rattle.net_core.proofs.Updates.{grow_same, grow_other, put_same, put_other}
use Rattle.substitute.proofs.Joins.{Joins, mirror}

-- whether the wire of a part carries a transition
abbrev pub hold : (ℕ → Bool) → Option ℕ → Bool
hold b None = false
hold b (Some v) = b v

-- A wire of R is busy where it is in one of its parts, and it is not in both.
pub record Split (x y z : Bool) : Type 0 where
  pub either : x ≡ (y || z)
  pub once : (y && z) ≡ false

pub split_swap : (x y z : Bool) → Split x y z → Split x z y
split_swap x true true h = record { either = h.either; once = h.once }
split_swap x true false h = record { either = h.either; once = h.once }
split_swap x false true h = record { either = h.either; once = h.once }
split_swap x false false h = record { either = h.either; once = h.once }

pub split_free_left : (x y z : Bool) → Split x y z → x ≡ false → y ≡ false
split_free_left x true z h e = sym h.either ∙ e
split_free_left x false z h e = refl

pub split_other : (x y z : Bool) → Split x y z → y ≡ true → z ≡ false
split_other x true z h e = h.once
split_other x false true h e = sym e
split_other x false false h e = refl

pub split_none : (x y z : Bool) → x ≡ false → y ≡ false → z ≡ false → Split x y z
split_none x y z e f g = record { either = rw (e, f, g) refl; once = rw f refl }

pub split_left : (x y z : Bool) → x ≡ true → y ≡ true → z ≡ false → Split x y z
split_left x y z e f g = record { either = rw (e, f) refl; once = rw (f, g) refl }

hold_same : (b : ℕ → Bool) (v : ℕ) (x : Bool) (o : Option ℕ) → o ≡ Some v → hold (put b v x) o ≡ x
hold_same b v x o e = rw e (put_same b v x v refl)

hold_other : (b : ℕ → Bool) (v : ℕ) (x : Bool) (o : Option ℕ) → o ≢ Some v → hold (put b v x) o ≡ hold b o
hold_other b v x None h = refl
hold_other b v x (Some u) h = put_other b v x u (λ e. h (ap Some e))

pub hold_at : (b : ℕ → Bool) (v : ℕ) (o : Option ℕ) → o ≡ Some v → hold b o ≡ b v
hold_at b v o e = rw e refl

pub none_held : (o : Option ℕ) → hold (λ v. false) o ≡ false
none_held None = refl
none_held (Some v) = refl

pub held : (b : ℕ → Bool) (o : Option ℕ) → hold b o ≡ true → (v : ℕ) × (o ≡ Some v) × (b v ≡ true)
held b None e = absurd (false≢true e)
held b (Some v) e = (v, refl, e)

pub record Follows (A : Fabric) (a : ℕ) (B : Fabric) (b : ℕ) (R : Fabric) (k : Joins A a B b R) (s l r : State) : Type 0 where
  pub left : (n : ℕ) → n ≢ a → s.trace (k.i n) ≡ l.trace n
  pub right : (n : ℕ) → n ≢ b → s.trace (k.j n) ≡ r.trace n
  pub lines : (w : ℕ) → Split (s.busy w) (hold l.busy (k.here w)) (hold r.busy (k.there w))

pub swap : (A : Fabric) (a : ℕ) (B : Fabric) (b : ℕ) (R : Fabric) (k : Joins A a B b R) (s l r : State)
    → Follows A a B b R k s l r → Follows B b A a R (mirror k) s r l
swap A a B b R k s l r f = record {
  left = f.right;
  right = f.left;
  lines = λ w. split_swap _ _ _ (f.lines w);
}

pub back : (A : Fabric) (a : ℕ) (B : Fabric) (b : ℕ) (R : Fabric) (k : Joins A a B b R) (s l r : State)
    → Follows B b A a R (mirror k) s r l → Follows A a B b R k s l r
back A a B b R k s l r f = record {
  left = f.right;
  right = f.left;
  lines = λ w. split_swap _ _ _ (f.lines w);
}

module _ (A : Fabric) (a : ℕ) (B : Fabric) (b : ℕ) (R : Fabric) (k : Joins A a B b R) (s l r : State) where
  -- a kept node of A fires onto a wire that B does not hold busy
  pub fire : (n p : ℕ) → n ≢ a → A.fires n p → hold r.busy (k.there (R.wire (k.i n) p)) ≡ false
      → Follows A a B b R k s l r → Follows A a B b R k (after R s (Fire (k.i n) p)) (after A l (Fire n p)) r
  fire n p ne out free f = record {
    left = λ m me. at_left m me (cases_eq m n);
    right = λ m me. grow_other s.trace (k.i n) p (k.j m) (λ e. k.apart n m ne me (sym e)) ∙ f.right m me;
    lines = λ w. at_wire w (cases_eq w (R.wire (k.i n) p));
  }
    where
      at_left : (m : ℕ) → m ≢ a → (m ≡ n) ⊎ (m ≡ n → ⊥) → grow s.trace (k.i n) p (k.i m) ≡ grow l.trace n p m
      at_left m me (inl e) = grow_same s.trace (k.i n) p (k.i m) (ap k.i e) ∙ ap (λ t. t ++ p ∷ []) (f.left m me) ∙ sym (grow_same l.trace n p m e)
      at_left m me (inr h) = grow_other s.trace (k.i n) p (k.i m) (λ e. h (k.left.alone m n me ne e)) ∙ f.left m me ∙ sym (grow_other l.trace n p m h)

      at_wire : (w : ℕ) → (w ≡ R.wire (k.i n) p) ⊎ (w ≡ R.wire (k.i n) p → ⊥)
          → Split (put s.busy (R.wire (k.i n) p) true w) (hold (put l.busy (A.wire n p) true) (k.here w)) (hold r.busy (k.there w))
      at_wire w (inl e) = split_left _ _ _ (put_same s.busy (R.wire (k.i n) p) true w e)
          (hold_same l.busy (A.wire n p) true (k.here w) (ap k.here e ∙ k.left.drives n p ne out))
          (ap (λ x. hold r.busy (k.there x)) e ∙ free)
      at_wire w (inr h) = rw (
        put_other s.busy (R.wire (k.i n) p) true w h,
        hold_other l.busy (A.wire n p) true (k.here w) (λ e. h (k.left.one w (R.wire (k.i n) p) (A.wire n p) e (k.left.drives n p ne out))),
      ) (f.lines w)

  -- a kept node of A receives
  pub pass : (w v : ℕ) → k.here w ≡ Some v → A.to v ≢ a → l.busy v ≡ true
      → Follows A a B b R k s l r → Follows A a B b R k (after R s (Pass w)) (after A l (Pass v)) r
  pass w v is ne busy f = record {
    left = λ m me. at_left m me (cases_eq m (A.to v));
    right = λ m me. grow_other s.trace (R.to w) (R.into w) (k.j m) (λ e. k.apart (A.to v) m ne me (sym (e ∙ k.left.to w v is ne))) ∙ f.right m me;
    lines = λ x. at_wire x (cases_eq x w);
  }
    where
      at_left : (m : ℕ) → m ≢ a → (m ≡ A.to v) ⊎ (m ≡ A.to v → ⊥) → grow s.trace (R.to w) (R.into w) (k.i m) ≡ grow l.trace (A.to v) (A.into v) m
      at_left m me (inl e) = grow_same s.trace (R.to w) (R.into w) (k.i m) (ap k.i e ∙ sym (k.left.to w v is ne))
          ∙ ap (λ t. t ++ R.into w ∷ []) (f.left m me) ∙ ap (λ q. l.trace m ++ q ∷ []) (k.left.into w v is ne) ∙ sym (grow_same l.trace (A.to v) (A.into v) m e)
      at_left m me (inr h) = grow_other s.trace (R.to w) (R.into w) (k.i m) (λ e. h (k.left.alone m (A.to v) me ne (e ∙ k.left.to w v is ne)))
          ∙ f.left m me ∙ sym (grow_other l.trace (A.to v) (A.into v) m h)

      at_wire : (x : ℕ) → (x ≡ w) ⊎ (x ≡ w → ⊥) → Split (put s.busy w false x) (hold (put l.busy v false) (k.here x)) (hold r.busy (k.there x))
      at_wire x (inl e) = split_none _ _ _ (put_same s.busy w false x e) (hold_same l.busy v false (k.here x) (ap k.here e ∙ is))
          (ap (λ y. hold r.busy (k.there y)) e ∙ split_other _ _ _ (f.lines w) (hold_at l.busy v (k.here w) is ∙ busy))
      at_wire x (inr h) = rw (put_other s.busy w false x h, hold_other l.busy v false (k.here x) (λ e. h (k.left.one x w v e is))) (f.lines x)

  -- what a kept node of A may receive, R may hand to it
  pub pass_fits : (w v : ℕ) → k.here w ≡ Some v → A.to v ≢ a → A.may (A.to v) (l.trace (A.to v) ++ A.into v ∷ [])
      → Follows A a B b R k s l r → R.may (R.to w) (s.trace (R.to w) ++ R.into w ∷ [])
  pass_fits w v is ne may f = rw (k.left.to w v is ne, k.left.into w v is ne, f.left (A.to v) ne)
      ((k.left.may (A.to v) ne (l.trace (A.to v) ++ A.into v ∷ [])).1 may)

  -- a receives and b fires the same port, and R does nothing
  pub over : (w v : ℕ) → k.here w ≡ Some v → A.to v ≡ a → l.busy v ≡ true
      → Follows A a B b R k s l r → Follows A a B b R k s (after A l (Pass v)) (after B r (Fire b (A.into v)))
  over w v is at busy f = record {
    left = λ m me. f.left m me ∙ sym (grow_other l.trace (A.to v) (A.into v) m (λ e. me (e ∙ at)));
    right = λ m me. f.right m me ∙ sym (grow_other r.trace b (A.into v) m me);
    lines = λ x. at_wire x (cases_eq x w);
  }
    where
      at_wire : (x : ℕ) → (x ≡ w) ⊎ (x ≡ w → ⊥)
          → Split (s.busy x) (hold (put l.busy v false) (k.here x)) (hold (put r.busy (B.wire b (A.into v)) true) (k.there x))
      at_wire x (inl e) = split_swap _ _ _ (split_left _ _ _
          (ap s.busy e ∙ (f.lines w).either ∙ ap (λ y. y || hold r.busy (k.there w)) (hold_at l.busy v (k.here w) is ∙ busy))
          (hold_same r.busy (B.wire b (A.into v)) true (k.there x) (ap k.there e ∙ k.left.on w v is at))
          (hold_same l.busy v false (k.here x) (ap k.here e ∙ is)))
      at_wire x (inr h) = rw (
        hold_other l.busy v false (k.here x) (λ e. h (k.left.one x w v e is)),
        hold_other r.busy (B.wire b (A.into v)) true (k.there x) (λ e. h (k.right.one x w (B.wire b (A.into v)) e (k.left.on w v is at))),
      ) (f.lines x)
