-- The steps of the search for uneven bursts.
use Rattle.std.proofs.Common.{◌≡◌, ◌≢◌, ◌⊎◌, inl, inr, ◌↔◌, ℕ, zero, suc, ◌+◌, ◌<◌, ◌≤◌, List, [], ◌∷◌, ◌++◌, length, take, get_or, Option, Some, None, refl, sym, ap, ◌∙◌, subst, arith, append_assoc, length-append}
use native.Mathlib.Decide.{ℕ_discrete}
use Rattle.std.proofs.lemmas.List.{append-nil}
use Rattle.cmd_tree.specs.declared.tree.Mark.{Mark}
use Rattle.cmd_tree.specs.declared.tree.Dir.{Dir}
use Rattle.cmd_tree.specs.declared.tree.Dir.TheVariants.{Input, Output}
use Rattle.cmd_tree.specs.declared.tree.Proc.{Proc}
use Rattle.tree_walk.specs.Bursts.{Burst, dir_of, bursts}
use Rattle.di_grammar.specs.Lists.{Each, EachTwo}
use Rattle.di_grammar.specs.declared.clash.Clash.{Clash}
use Rattle.di_grammar.specs.Clashes.{First}
use Rattle.di_grammar.specs.Bursts.{Stands}
use Rattle.di_grammar.specs.EvenBursts.{Even, IsUneven, Repeats, TurnsWithin, KeepsBursts, BreaksBursts}
use Rattle.di_grammar.specs.Mirror.Uneven.{Seen, burst_of, Tells, TellsAll, RepeatsOne, TurnsHere, MarkUneven, UnevenAmong}
use Rattle.di_grammar.specs.Mirror.Lesser.{lesser}
use Rattle.di_grammar.proofs.Firsts.{first_like, first_either}
use Rattle.di_grammar.proofs.Lists.{InFront, InBack, in_joined, none_within, within_front, within_last, within_next, each_within, each_all, two_at}

module _ (k : ℕ) (ms : List Mark) (m : Mark) where
  abbrev now : Burst
  now = burst_of k ms

  abbrev next : Burst
  next = burst_of k (ms ++ m ∷ [])

  pub still_stands : (n : ℕ) (x : Mark) → Stands now n x → Stands next n x
  still_stands n x s = record {
    before = s.before;
    after = s.after ++ m ∷ [];
    are = ap (λ xs. xs ++ m ∷ []) s.are ∙ append_assoc s.before (x ∷ s.after) (m ∷ []);
    at = s.at;
  }

  pub stands_last : (n : ℕ) → n ≡ k + length ms → Stands next n m
  stands_last n e = record { before = ms; after = []; are = refl; at = e }

  pub stands_next : (n : ℕ) (x : Mark) → Stands next n x → Stands now n x ⊎ ((n ≡ k + length ms) × (x ≡ m))
  stands_next n x s =
      let early : InFront ms (m ∷ []) s.before s.after x → Stands now n x ⊎ ((n ≡ k + length ms) × (x ≡ m))
      = λ f. inl (record { before = s.before; after = f.rest; are = f.are; at = s.at }) in
      let late : InBack ms (m ∷ []) s.before s.after x → Stands now n x ⊎ ((n ≡ k + length ms) × (x ≡ m))
      = λ f. inr (lone f.front f.are f.more) in
      elim (in_joined ms (m ∷ []) s.before s.after x s.are) [ inl f ↦ early f | inr f ↦ late f ] where
        lone : (front : List Mark) → m ∷ [] ≡ front ++ x ∷ s.after → s.before ≡ ms ++ front → (n ≡ k + length ms) × (x ≡ m)
        lone [] e are = (s.at ∙ ap (λ (xs : List Mark). k + length xs) (are ∙ append-nil ms), cc)
        lone (a ∷ []) e are = absurd (cc)
        lone (a ∷ (b ∷ front)) e are = absurd (cc)

  seen_within : (a n : ℕ) → Seen now a n → (k ≤ n) × (n < k + length ms)
  seen_within a n s =
      let all : length ms ≡ length s.stands.before + suc (length s.stands.after)
      = ap length s.stands.are ∙ length-append s.stands.before (s.mark ∷ s.stands.after) in
      let here : n ≡ k + length s.stands.before = s.stands.at in
      (omega arith, omega arith)

  still_seen : (a n : ℕ) → Seen now a n → Seen next a n
  still_seen a n s = record { mark = s.mark; stands = still_stands n s.mark s.stands; same = s.same }

  seen_next : (a n : ℕ) → Seen next a n → Seen now a n ⊎ ((n ≡ k + length ms) × (m.sym.0 ≡ a))
  seen_next a n s = elim (stands_next n s.mark s.stands) [
    | inl h ↦ inl (record { mark = s.mark; stands = h; same = s.same })
    | inr l ↦ inr (l.0, ap (λ (x : Mark). x.sym.0) (sym l.1) ∙ s.same)
  ]

  -- a symbol that is not that of the mark is told of as before
  tells_other : (a n : ℕ) → (m.sym.0 ≡ a → ⊥) → Tells now a n → Tells next a n
  tells_other a n other t = elim t [
    | inl l ↦ inl (l.0, λ p s. elim (seen_next a p s) [ inl h ↦ l.1 p h | inr e ↦ other e.1 ])
    | inr r ↦ inr (still_seen a n r.0, λ p s. elim (seen_next a p s) [ inl h ↦ r.1 p h | inr e ↦ absurd (other e.1) ])
  ]

  -- the mark repeats a symbol
  repeats_tells : (a n : ℕ) → k ≤ n → Tells now a n → Tells next a n
  repeats_tells a n here t = elim t [
    | inl l ↦ absurd (omega (arith, l.0))
    | inr r ↦ inr (still_seen a n r.0, λ p s. elim (seen_next a p s) [ inl h ↦ r.1 p h | inr e ↦ omega (arith, e.0, seen_within a n r.0) ])
  ]

  -- the mark has a symbol that did not stand in the burst
  new_tells : (a n : ℕ) → n < k → Tells now a n → m.sym.0 ≡ a → Tells next a (k + length ms)
  new_tells a n before t same =
      inr (
        record { mark = m; stands = stands_last (k + length ms) refl; same = same },
        λ p s. elim (seen_next a p s) [ inl h ↦ earlier p h t | inr e ↦ omega (arith, e.0) ],
      ) where
        earlier : (p : ℕ) → Seen now a p → Tells now a n → k + length ms ≤ p
        earlier p h (inl l) = absurd (l.1 p h)
        earlier p h (inr r) = absurd (omega (arith, seen_within a n r.0))

  pub tells_repeated : (table : ℕ → ℕ) → k ≤ table m.sym.0 → TellsAll now table → TellsAll next table
  tells_repeated table here all = λ a. elim (ℕ_discrete m.sym.0 a) [
    | yes e ↦ repeats_tells a (table a) (subst (λ (b : ℕ). k ≤ table b) e here) (all a)
    | no other ↦ tells_other a (table a) other (all a)
  ]

  pub tells_new : (old new : ℕ → ℕ) (here : ℕ) → here ≡ k + length ms → old m.sym.0 < k → new m.sym.0 ≡ here
      → ((a : ℕ) → a ≢ m.sym.0 → new a ≡ old a) → TellsAll now old → TellsAll next new
  tells_new old new here at before put kept all = λ a. elim (ℕ_discrete m.sym.0 a) [
    | yes e ↦ subst (Tells next a) (sym at ∙ sym put ∙ ap new e) (new_tells a (old m.sym.0) before (subst (λ (b : ℕ). Tells now b (old m.sym.0)) e (all m.sym.0)) e)
    | no other ↦ subst (Tells next a) (sym (kept a (λ e. other (sym e)))) (tells_other a (old a) other (all a))
  ]

  pub repeats_first : (here earlier : ℕ) → here ≡ k + length ms → k ≤ earlier → Tells now m.sym.0 earlier
      → First (MarkUneven now m) (Some (record { place = here; case = 0; other = earlier }))
  repeats_first here earlier at late t = elim t [ inl l ↦ absurd (omega (arith, l.0)) | inr r ↦ told r.0 r.1 ] where
    told : Seen now m.sym.0 earlier → ((p : ℕ) → Seen now m.sym.0 p → earlier ≤ p)
        → First (MarkUneven now m) (Some (record { place = here; case = 0; other = earlier }))
    told seen least = (
      inl (record { seen = seen; place = at; case = refl }),
      λ d u. elim u [
        | inl r ↦ λ p. (let a = r.place in let b = r.case in omega (arith, p, least d.other r.seen))
        | inr r ↦ λ p. (let a = r.place in let b = r.case in omega (arith, p))
      ],
    )

  -- a burst that has a mark begins as before when it grows
  same_dir : (n : ℕ) (x : Mark) → Stands now n x → dir_of ms ≡ dir_of (ms ++ m ∷ [])
  same_dir n x s = by ms s.before s.are where
    by : (xs before : List Mark) → xs ≡ before ++ x ∷ s.after → dir_of xs ≡ dir_of (xs ++ m ∷ [])
    by [] [] e = absurd (cc)
    by [] (b ∷ before) e = absurd (cc)
    by (y ∷ xs) before e = refl

  repeats_more : (c : Clash) → Repeats now c → Repeats next c
  repeats_more c r = record {
    first = r.first;
    second = r.second;
    there = still_stands c.other r.first r.there;
    here = still_stands c.place r.second r.here;
    later = r.later;
    same = r.same;
    case = r.case;
  }

  turns_more : (c : Clash) → TurnsWithin now c → TurnsWithin next c
  turns_more c t = record {
    mark = t.mark;
    here = still_stands c.place t.mark t.here;
    turned = λ e. t.turned (e ∙ sym (same_dir c.place t.mark t.here));
    there = t.there;
    case = t.case;
  }

  repeats_now : (c : Clash) → RepeatsOne now m c → Repeats next c
  repeats_now c r = record {
    first = r.seen.mark;
    second = m;
    there = still_stands c.other r.seen.mark r.seen.stands;
    here = stands_last c.place r.place;
    later = let e = r.place in omega (arith, seen_within m.sym.0 c.other r.seen);
    same = r.seen.same;
    case = r.case;
  }

  turns_now : (c : Clash) → TurnsHere now m c → TurnsWithin next c
  turns_now c t = record { mark = m; here = stands_last c.place t.place; turned = t.turned; there = t.other; case = t.case }

  repeats_before : (c : Clash) → Repeats next c → Repeats now c ⊎ RepeatsOne now m c
  repeats_before c r = by (stands_next c.place r.second r.here) (stands_next c.other r.first r.there) where
    by : Stands now c.place r.second ⊎ ((c.place ≡ k + length ms) × (r.second ≡ m)) → Stands now c.other r.first ⊎ ((c.other ≡ k + length ms) × (r.first ≡ m))
        → Repeats now c ⊎ RepeatsOne now m c
    by (inl here) (inl there) = inl (record { first = r.first; second = r.second; there = there; here = here; later = r.later; same = r.same; case = r.case })
    by (inr here) (inl there) = inr (record {
      seen = record { mark = r.first; stands = there; same = r.same ∙ ap (λ (x : Mark). x.sym.0) here.1 };
      place = here.0;
      case = r.case;
    })
    by (inl here) (inr there) =
        absurd (let h = r.later in omega (arith, there.0, seen_within r.second.sym.0 c.place (record { mark = r.second; stands = here; same = refl })))
    by (inr here) (inr there) = absurd (let h = r.later in omega (arith, there.0, here.0))

  turns_before : (c : Clash) → TurnsWithin next c → TurnsWithin now c ⊎ TurnsHere now m c
  turns_before c t = elim (stands_next c.place t.mark t.here) [
    | inl here ↦ inl (record { mark = t.mark; here = here; turned = λ e. t.turned (e ∙ same_dir c.place t.mark here); there = t.there; case = t.case })
    | inr here ↦ inr (record { turned = λ e. t.turned (ap (λ (x : Mark). x.dir) here.1 ∙ e); place = here.0; other = t.there; case = t.case })
  ]

  pub uneven_next : (c : Clash) → (IsUneven now c ⊎ MarkUneven now m c) ↔ IsUneven next c
  uneven_next c = (forth, back) where
    forth : IsUneven now c ⊎ MarkUneven now m c → IsUneven next c
    forth (inl (inl r)) = inl (repeats_more c r)
    forth (inl (inr t)) = inr (turns_more c t)
    forth (inr (inl r)) = inl (repeats_now c r)
    forth (inr (inr t)) = inr (turns_now c t)

    back : IsUneven next c → IsUneven now c ⊎ MarkUneven now m c
    back (inl r) = elim (repeats_before c r) [ inl n ↦ inl (inl n) | inr l ↦ inr (inl l) ]
    back (inr t) = elim (turns_before c t) [ inl n ↦ inl (inr n) | inr l ↦ inr (inr l) ]

-- what is told after one more mark of a burst
pub told_next : (k : ℕ) (marks : List Mark) (i : ℕ) (m : Mark) (f g : Option Clash) → take i marks ++ m ∷ [] ≡ take (i + 1) marks
    → First (IsUneven (burst_of k (take i marks))) f → First (MarkUneven (burst_of k (take i marks)) m) g
    → First (IsUneven (burst_of k (take (i + 1) marks))) (lesser f g)
told_next k marks i m f g e told here =
    subst (λ (xs : List Mark). First (IsUneven (burst_of k xs)) (lesser f g)) e
    (first_like _ _ (lesser f g) (uneven_next k (take i marks) m) (first_either _ _ f g told here))

-- nothing is told of no marks
pub none_uneven : (k : ℕ) → First (IsUneven (burst_of k [])) None
none_uneven k = λ c u. elim u [ inl r ↦ none_stands r.second c.place r.here | inr t ↦ none_stands t.mark c.place t.here ] where
  none_stands : (x : Mark) (n : ℕ) → Stands (burst_of k []) n x → ⊥
  none_stands x n s = none_within x (record { before = s.before; after = s.after; are = s.are })

pub none_seen : (k : ℕ) (table : ℕ → ℕ) → ((a : ℕ) → table a < k) → TellsAll (burst_of k []) table
none_seen k table before = λ a. inl (before a, λ p s. none_within s.mark (record { before = s.stands.before; after = s.stands.after; are = s.stands.are }))

-- the direction of a burst is that of its first mark, however many of its marks are there
pub dir_so_far : (marks : List Mark) (i : ℕ) (d : Mark) → i < length marks → dir_of marks ≡ dir_of (take i marks ++ get_or marks i d ∷ [])
dir_so_far [] i d h = absurd (omega arith)
dir_so_far (m ∷ ms) zero d h = refl
dir_so_far (m ∷ ms) (suc i) d h = refl

-- a clash of some bursts and one more
pub among_next : (bs : List Burst) (b : Burst) (c : Clash) → (UnevenAmong bs c ⊎ IsUneven b c) ↔ UnevenAmong (bs ++ b ∷ []) c
among_next bs b c = (forth, back) where
  forth : UnevenAmong bs c ⊎ IsUneven b c → UnevenAmong (bs ++ b ∷ []) c
  forth (inl u) = record { burst = u.burst; within = within_front bs (b ∷ []) u.burst u.within; uneven = u.uneven }
  forth (inr u) = record { burst = b; within = within_last bs b; uneven = u }

  back : UnevenAmong (bs ++ b ∷ []) c → UnevenAmong bs c ⊎ IsUneven b c
  back u = elim (within_next bs b u.burst u.within) [
    | inl w ↦ inl (record { burst = u.burst; within = w; uneven = u.uneven })
    | inr e ↦ inr (subst (λ (x : Burst). IsUneven x c) e u.uneven)
  ]

pub none_among : First (UnevenAmong []) None
none_among = λ c u. none_within u.burst u.within

pub among_of : (p : Proc) (c : Clash) → UnevenAmong (bursts p) c ↔ BreaksBursts p c
among_of p c = (
  λ u. record { burst = u.burst; within = u.within; uneven = u.uneven },
  λ u. record { burst = u.burst; within = u.within; uneven = u.uneven },
)

-- The rule is kept where nothing breaks it.

repeats_none : (k : ℕ) (before : List Mark) (m : Mark) (ms : List Mark) → ((c : Clash) → IsUneven (burst_of k (before ++ m ∷ ms)) c → ⊥)
    → Each (λ n. m.sym.0 ≢ n.sym.0) ms
repeats_none k before m ms none = each_all _ ms (λ n w e. none (record { place = k + length before + 1 + length w.before; case = 0; other = k + length before })
    (inl (record {
      first = m;
      second = n;
      there = record { before = before; after = ms; are = refl; at = refl };
      here = record {
        before = before ++ m ∷ w.before;
        after = w.after;
        are = ap (λ xs. before ++ m ∷ xs) w.are ∙ sym (append_assoc before (m ∷ w.before) (n ∷ w.after));
        at = omega (arith, length-append before (m ∷ w.before));
      };
      later = omega arith;
      same = e;
      case = refl;
    })))

differ_none : (k : ℕ) (before ms : List Mark) → ((c : Clash) → IsUneven (burst_of k (before ++ ms)) c → ⊥) → EachTwo (λ m n. m.sym.0 ≢ n.sym.0) ms
differ_none k before [] none = tt
differ_none k before (m ∷ ms) none = (
  repeats_none k before m ms none,
  differ_none k (before ++ m ∷ []) ms (λ c u. none c (subst (λ xs. IsUneven (burst_of k xs) c) (append_assoc before (m ∷ []) ms) u)),
)

dirs_differ : (d e : Dir) → (d ≢ e → ⊥) → d ≡ e
dirs_differ Input Input h = refl
dirs_differ Input Output h = absurd (h (λ e. cc))
dirs_differ Output Input h = absurd (h (λ e. cc))
dirs_differ Output Output h = refl

even_none : (b : Burst) → ((c : Clash) → IsUneven b c → ⊥) → Even b
even_none b none = record {
  differ = differ_none b.place [] b.marks none;
  one_way = each_all _ b.marks (λ m w. dirs_differ m.dir (dir_of b.marks) (λ turned. none (record { place = b.place + length w.before; case = 1; other = b.place })
      (inr (record {
        mark = m;
        here = record { before = w.before; after = w.after; are = w.are; at = refl };
        turned = turned;
        there = refl;
        case = refl;
      }))));
}

none_even : (b : Burst) (c : Clash) → Even b → IsUneven b c → ⊥
none_even b c even u = elim u [ inl r ↦ repeated r | inr t ↦ t.turned (each_within _ b.marks t.mark even.one_way (record { before = t.here.before; after = t.here.after; are = t.here.are })) ] where
  repeated : Repeats b c → ⊥
  repeated r = two_at _ b.marks r.there.before r.here.before r.there.after r.here.after r.first r.second even.differ r.there.are r.here.are
      (let l = r.later in omega (arith, r.there.at, r.here.at)) r.same

pub keeps_bursts : (p : Proc) → KeepsBursts p ↔ ((c : Clash) → BreaksBursts p c → ⊥)
keeps_bursts p = (
  λ keeps c u. none_even u.burst c (each_within Even (bursts p) u.burst keeps u.within) u.uneven,
  λ none. each_all Even (bursts p) (λ b w. even_none b (λ c u. none c (record { burst = b; within = w; uneven = u }))),
)
