-- Whole traces of joined sequences, and of what a sequence begins with.
use Rattle.std.proofs.Common.{◌≡◌, inl, inr, ⊎_elim, ℕ, ◌<◌, List, [], ◌∷◌, ◌++◌, IsTrue, refl, sym, ap, ◌∙◌, subst, arith, append_assoc, append-nil, IsPermutation}
use Rattle.std.proofs.lemmas.List.Sorted.{IsPermutation-refl}
use Rattle.cmd_tree.specs.declared.tree.Mark.{Mark}
use Rattle.cmd_tree.specs.Tree.{TItem, TSeq, TSeqs, TBurst, TAlt, Stop, Or, Done, Then}
use Rattle.cmd_tree.specs.Limits.{IsSeq, IsItem, AreSeqs, IsFull, count_of}
use Rattle.cmd_tree.specs.Meaning.{Cut, symbols, Whole, WholeItem, WholeOne}
use Rattle.cmd_tree.specs.Join.{join}
use Rattle.cmd_tree.specs.Lists.{is_in}
use Rattle.cmd_tree.specs.Residual.{without, FirstOf, FirstIn, FirstAmong}
use Rattle.cmd_tree.proofs.Bursts.{take_perm, perm_nil}

-- ---- one sequence after another

pub whole_join : (q s : TSeq) (t : List ℕ) → Whole (join q s) t → Cut (Whole q) (Whole s) t
whole_join Done s t h = record { front = []; back = t; joins = refl; first = refl; second = h }
whole_join (Then i q) s t h =
    let c = whole_join q s h.back h.second in
    record {
      front = h.front ++ c.front;
      back = c.back;
      joins = h.joins ∙ ap (λ x. h.front ++ x) c.joins ∙ sym (append_assoc h.front c.front c.back);
      first = record { front = h.front; back = c.front; joins = refl; first = h.first; second = c.first };
      second = c.second;
    }

pub join_whole : (q s : TSeq) (f b : List ℕ) → Whole q f → Whole s b → Whole (join q s) (f ++ b)
join_whole Done s f b e h = subst (λ x. Whole s (x ++ b)) (sym e) h
join_whole (Then i q) s f b c h = record {
  front = c.front;
  back = c.back ++ b;
  joins = ap (λ x. x ++ b) c.joins ∙ append_assoc c.front c.back b;
  first = c.first;
  second = join_whole q s c.back b c.second h;
}

pub seq_join : (q s : TSeq) → IsSeq q → IsSeq s → IsSeq (join q s)
seq_join Done s hq hs = hs
seq_join (Then i q) s hq hs = (hq.0, seq_join q s hq.1 hs)

pub full_seq : (s : TSeq) → IsFull s → IsSeq s
full_seq Done h = absurd h
full_seq (Then i s) h = h

-- ---- a full sequence has no empty trace, and some trace

front_nil : (f b : List ℕ) → [] ≡ f ++ b → f ≡ []
front_nil [] b e = refl
front_nil (x ∷ f) b e = absurd (cc)

mutual
  pub nonempty_item : (i : TItem) → IsItem i → WholeItem i [] → ⊥
  nonempty_item (TBurst []) h p = omega arith
  nonempty_item (TBurst (m ∷ ms)) h p = let e : m.sym.0 ∷ symbols ms ≡ [] = perm_nil (m.sym.0 ∷ symbols ms) p in cc
  nonempty_item (TAlt ss) h p = nonempty_one ss h.1 p

  pub nonempty_one : (ss : TSeqs) → AreSeqs ss → WholeOne ss [] → ⊥
  nonempty_one Stop h p = p
  nonempty_one (Or s ss) h p = ⊎_elim (λ q. nonempty_full s h.0 q) (λ q. nonempty_one ss h.1 q) p

  pub nonempty_full : (s : TSeq) → IsFull s → Whole s [] → ⊥
  nonempty_full Done h p = h
  nonempty_full (Then i s) h p = nonempty_item i h.0 (subst (λ f. WholeItem i f) (front_nil p.front p.back p.joins) p.first)

mutual
  pub some_item : (i : TItem) → IsItem i → (u : List ℕ) × WholeItem i u
  some_item (TBurst ms) h = (symbols ms, IsPermutation-refl (symbols ms))
  some_item (TAlt ss) h = some_one ss h.1 (omega (arith, h.0))

  pub some_one : (ss : TSeqs) → AreSeqs ss → 0 < count_of ss → (u : List ℕ) × WholeOne ss u
  some_one Stop h l = absurd (omega (arith, l))
  some_one (Or s ss) h l = let w = some_whole s (full_seq s h.0) in (w.0, inl w.1)

  pub some_whole : (s : TSeq) → IsSeq s → (u : List ℕ) × Whole s u
  some_whole Done h = ([], refl)
  some_whole (Then i s) h =
      let a = some_item i h.0 in
      let b = some_whole s h.1 in
      (a.0 ++ b.0, record { front = a.0; back = b.0; joins = refl; first = a.1; second = b.1 })

-- ---- the first symbol of a trace is of a burst that the sequence can begin with

pub record Begins (F : List Mark → TSeq → Type 0) (a : ℕ) (w : List ℕ) : Type 0 where
  pub marks : List Mark
  pub rest : TSeq
  pub is_first : F marks rest
  pub there : IsTrue (is_in a (symbols marks))
  pub left : Cut (IsPermutation (without a (symbols marks))) (Whole rest) w

begins_then : (i : TItem) (s : TSeq) (a : ℕ) (w f b : List ℕ) → a ∷ w ≡ f ++ b → WholeItem i f → Whole s b → (WholeItem i [] → ⊥) → ((v : List ℕ) → WholeItem i (a ∷ v) → Begins (FirstIn i) a v) → Begins (FirstOf (Then i s)) a w
begins_then i s a w [] b e p q none go = absurd (none p)
begins_then i s a w (x ∷ f) b e p q none go =
    let same : x ≡ a = cc in
    let after : w ≡ f ++ b = cc in
    let g : Begins (FirstIn i) a f = go f (subst (λ y. WholeItem i (y ∷ f)) same p) in
    record {
      marks = g.marks;
      rest = join g.rest s;
      is_first = (g.rest, g.is_first, refl);
      there = g.there;
      left = record {
        front = g.left.front;
        back = g.left.back ++ b;
        joins = after ∙ ap (λ y. y ++ b) g.left.joins ∙ append_assoc g.left.front g.left.back b;
        first = g.left.first;
        second = join_whole g.rest s g.left.back b g.left.second q;
      };
    }

widen : (F G : List Mark → TSeq → Type 0) (a : ℕ) (w : List ℕ) → ((ms : List Mark) (r : TSeq) → F ms r → G ms r) → Begins F a w → Begins G a w
widen F G a w f g = record { marks = g.marks; rest = g.rest; is_first = f g.marks g.rest g.is_first; there = g.there; left = g.left }

mutual
  pub begins_item : (i : TItem) → IsItem i → (a : ℕ) (w : List ℕ) → WholeItem i (a ∷ w) → Begins (FirstIn i) a w
  begins_item (TBurst ms) h a w p =
      let t = take_perm (symbols ms) a w p in
      record {
        marks = ms;
        rest = Done;
        is_first = (refl, refl);
        there = t.0;
        left = record { front = w; back = []; joins = sym (append-nil w); first = t.1; second = refl };
      }
  begins_item (TAlt ss) h a w p = begins_one ss h.1 a w p

  pub begins_one : (ss : TSeqs) → AreSeqs ss → (a : ℕ) (w : List ℕ) → WholeOne ss (a ∷ w) → Begins (FirstAmong ss) a w
  begins_one Stop h a w p = absurd p
  begins_one (Or s ss) h a w p = ⊎_elim
      (λ q. widen (FirstOf s) (FirstAmong (Or s ss)) a w (λ ms r x. inl x) (begins_seq s (full_seq s h.0) a w q))
      (λ q. widen (FirstAmong ss) (FirstAmong (Or s ss)) a w (λ ms r x. inr x) (begins_one ss h.1 a w q))
      p

  pub begins_seq : (s : TSeq) → IsSeq s → (a : ℕ) (w : List ℕ) → Whole s (a ∷ w) → Begins (FirstOf s) a w
  begins_seq Done h a w e = absurd (cc)
  begins_seq (Then i s) h a w c = begins_then i s a w c.front c.back c.joins c.first c.second (nonempty_item i h.0) (λ v p. begins_item i h.0 a v p)

-- ---- and the other way round

mutual
  pub whole_in : (i : TItem) (ms : List Mark) (r : TSeq) → FirstIn i ms r → (f b : List ℕ) → IsPermutation (symbols ms) f → Whole r b → WholeItem i (f ++ b)
  whole_in (TBurst bs) ms r h f b p w =
      let none : b ≡ [] = subst (λ q. Whole q b) h.1 w in
      let all : f ++ b ≡ f = ap (λ x. f ++ x) none ∙ append-nil f in
      subst (λ x. IsPermutation (symbols bs) x) (sym all) (subst (λ x. IsPermutation (symbols x) f) h.0 p)
  whole_in (TAlt ss) ms r h f b p w = whole_among ss ms r h f b p w

  pub whole_among : (ss : TSeqs) (ms : List Mark) (r : TSeq) → FirstAmong ss ms r → (f b : List ℕ) → IsPermutation (symbols ms) f → Whole r b → WholeOne ss (f ++ b)
  whole_among Stop ms r h f b p w = absurd h
  whole_among (Or s ss) ms r h f b p w = ⊎_elim (λ q. inl (whole_of s ms r q f b p w)) (λ q. inr (whole_among ss ms r q f b p w)) h

  pub whole_of : (s : TSeq) (ms : List Mark) (r : TSeq) → FirstOf s ms r → (f b : List ℕ) → IsPermutation (symbols ms) f → Whole r b → Whole s (f ++ b)
  whole_of Done ms r h f b p w = absurd h
  whole_of (Then i s) ms r h f b p w =
      let c = whole_join h.0 s b (subst (λ q. Whole q b) h.2 w) in
      record {
        front = f ++ c.front;
        back = c.back;
        joins = ap (λ x. f ++ x) c.joins ∙ sym (append_assoc f c.front c.back);
        first = whole_in i ms h.0 h.1 f c.front p c.first;
        second = c.second;
      }

-- what is left of a whole sequence is whole
mutual
  pub left_in : (i : TItem) (ms : List Mark) (r : TSeq) → IsItem i → FirstIn i ms r → IsSeq r
  left_in (TBurst bs) ms r h f = subst (λ q. IsSeq q) (sym f.1) tt
  left_in (TAlt ss) ms r h f = left_among ss ms r h.1 f

  pub left_among : (ss : TSeqs) (ms : List Mark) (r : TSeq) → AreSeqs ss → FirstAmong ss ms r → IsSeq r
  left_among Stop ms r h f = absurd f
  left_among (Or s ss) ms r h f = ⊎_elim (λ q. left_of s ms r (full_seq s h.0) q) (λ q. left_among ss ms r h.1 q) f

  pub left_of : (s : TSeq) (ms : List Mark) (r : TSeq) → IsSeq s → FirstOf s ms r → IsSeq r
  left_of Done ms r h f = absurd f
  left_of (Then i s) ms r h f = subst (λ q. IsSeq q) (sym f.2) (seq_join f.0 s (left_in i ms f.0 h.0 f.1) h.1)
