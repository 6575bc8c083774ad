-- A process whose states are told by counts: its traces follow the rule of its counts.
use Rattle.std.proofs.Common.{◌≡◌, ◌↔◌, ℕ, Bool, true, false, true≢false, cond, ◌||◌, List, [], ◌∷◌, ◌++◌, nat_eq, IsTrue, refl, sym, ap, ◌∙◌, subst, append-nil, filter, eqb-true, eq-eqb, if◌then◌else◌}
use Rattle.std.specs.List.{AllByRecursion}
use Rattle.cmd_tree.specs.declared.tree.Mark.{Mark}
use Rattle.cmd_tree.specs.declared.tree.Proc.{Proc}
use Rattle.cmd_tree.specs.Tree.{TSeq}
use Rattle.cmd_tree.specs.Limits.{IsProc, marks_of_proc, marks_of_all}
use Rattle.cmd_tree.specs.Meaning.{symbols, TraceOf, Trace, has_symbol}
use Rattle.cmd_tree.specs.Lists.{is_in}
use Rattle.cmd_tree.specs.Residual.{without, Left, Next, Step, within, opens, Runs, start}
use Rattle.cmd_tree.specs.Rounds.{counts, naught, Follows}
use Rattle.cmd_tree.proofs.Paths.{trace_runs}
use Rattle.cmd_tree.proofs.Phases.{Grew, counts_grow}

-- ---- states that are told by counts

-- Q are the states, with what is left in each, and At is the rule of the counts
module _ (p : Proc) (Q : Type 0) (left : Q → Left) (Goes : Q → ℕ → Q → Type 0)
    (At : (ℕ → ℕ) → ℕ → Type 0) (Stands : (ℕ → ℕ) → Q → Type 0) where
  -- the steps of what is left are those of the states, and the counts stand at them
  pub record Machine (begin : Q) : Type 0 where
    pub begins : left begin ≡ start p
    pub stands : Stands naught begin
    pub steps : (q : Q) (a : ℕ) (m : Left) → Step p.body (left q) a m → (r : Q) × (m ≡ left r) × Goes q a r
    pub goes : (q : Q) (a : ℕ) (r : Q) → Goes q a r → Step p.body (left q) a (left r)
    pub sound : (c d : ℕ → ℕ) (q : Q) (a : ℕ) (r : Q) → Stands c q → Goes q a r → Grew c a d → At c a
        × Stands d r

  -- a state goes on by each port that may come
  abbrev pub Ready : Type 0
  Ready = (c : ℕ → ℕ) (q : Q) (a : ℕ) → Stands c q → At c a → (r : Q) × Goes q a r

  -- several states stand at the same counts: some goes on by each port that may come, and each state after
  -- it is_in one before it
  pub record Chosen (begin : Q) : Type 0 where
    pub some : (c : ℕ → ℕ) (q : Q) (a : ℕ) → Stands c q → At c a → (o r : Q) × Stands c o × Goes o a r
    pub before : (c d : ℕ → ℕ) (q : Q) (a : ℕ) (r : Q) → Stands c q → At c a → Grew c a d → Stands d r
        → (o : Q) × Stands c o × Goes o a r
    pub only : (q : Q) → Stands naught q → q ≡ begin

  abbrev pub Rule : List ℕ → ℕ → Type 0
  Rule u a = At (counts u) a

  module _ (whole : IsProc p) (begin : Q) (k : Machine begin) where
    forth : (t u : List ℕ) (q : Q) → Stands (counts u) q → Runs p.body (left q) t → Follows Rule u t
    forth [] u q s r = tt
    forth (a ∷ t) u q s r =
        let g = k.steps q a r.0 r.1 in
        let n = k.sound (counts u) (counts (u ++ a ∷ [])) q a g.0 s g.2 (counts_grow u a) in
        (n.0, forth t (u ++ a ∷ []) g.0 n.1 (subst (λ l. Runs p.body l t) g.1 r.2))

    back : Ready → (t u : List ℕ) (q : Q) → Stands (counts u) q → Follows Rule u t → Runs p.body (left q) t
    back ready [] u q s f = tt
    back ready (a ∷ t) u q s f =
        let g = ready (counts u) q a s f.0 in
        let n = k.sound (counts u) (counts (u ++ a ∷ [])) q a g.0 s g.1 (counts_grow u a) in
        (left g.0, k.goes q a g.0 g.1, back ready t (u ++ a ∷ []) g.0 n.1 f.1)

    back_chosen : Chosen begin → (t u : List ℕ) (q : Q) → Stands (counts u) q → Follows Rule u t → (o : Q)
        × Stands (counts u) o × Runs p.body (left o) t
    back_chosen h [] u q s f = (q, s, tt)
    back_chosen h (a ∷ t) u q s f =
        let grew = counts_grow u a in
        let g = h.some (counts u) q a s f.0 in
        let n = k.sound (counts u) (counts (u ++ a ∷ [])) g.0 a g.1 g.2 g.3 grew in
        let r = back_chosen h t (u ++ a ∷ []) g.1 n.1 f.1 in
        let o = h.before (counts u) (counts (u ++ a ∷ [])) q a r.0 s f.0 grew r.1 in
        (o.0, o.1, (left r.0, k.goes o.0 a r.0 o.2, r.2))

    from_start : (t : List ℕ) → TraceOf p t → Follows Rule [] t
    from_start t h = forth t [] begin k.stands
        (subst (λ l. Runs p.body l t) (sym k.begins) ((trace_runs p whole t).0 h))

    to_start : (t : List ℕ) → Runs p.body (left begin) t → TraceOf p t
    to_start t r = (trace_runs p whole t).1 (subst (λ l. Runs p.body l t) k.begins r)

    pub traces_ready : Ready → (t : List ℕ) → TraceOf p t ↔ Follows Rule [] t
    traces_ready ready t = (from_start t, λ f. to_start t (back ready t [] begin k.stands f))

    pub traces_chosen : Chosen begin → (t : List ℕ) → TraceOf p t ↔ Follows Rule [] t
    traces_chosen h t = (
      from_start t,
      λ f.
          let r = back_chosen h t [] begin k.stands f in
          to_start t (subst (λ q. Runs p.body (left q) t) (h.only r.0 r.1) r.2),
    )

-- ---- one symbol

pub is_in_one : (a x : ℕ) → IsTrue (is_in a (x ∷ [])) → a ≡ x
is_in_one a x h = eqb-true a x (by (nat_eq a x) h)
  where
    by : (b : Bool) → (b || false) ≡ true → b ≡ true
    by true h = refl
    by false h = h

pub one_is_in : (a x : ℕ) → a ≡ x → IsTrue (is_in a (x ∷ []))
one_is_in a x e = ap (λ b. b || false) (eq-eqb a x e)

pub without_one : (a x : ℕ) → a ≡ x → without a (x ∷ []) ≡ []
without_one a x e = ap (λ b. if b then [] else (x ∷ [])) (eq-eqb a x e)

-- ---- where a process takes one symbol at a time

module _ (p : Proc) (Q : Type 0) (rest : Q → TSeq) (Goes : Q → ℕ → Q → Type 0) where
  -- nothing is pending in any state
  abbrev pub at_rest : Q → Left
  at_rest q = record { pending = []; rest = rest q }

  -- from each state bursts of one symbol come, which are the steps of the states
  pub record Singles : Type 0 where
    pub next : (q : Q) (ms : List Mark) (s : TSeq) → Next p.body (rest q) ms s → (m : Mark) × (ms ≡ m ∷ [])
        × (r : Q) × (s ≡ rest r) × Goes q m.sym.0 r
    pub come : (q : Q) (a : ℕ) (r : Q) → Goes q a r → (m : Mark) × (m.sym.0 ≡ a)
        × Next p.body (rest q) (m ∷ []) (rest r)

  module _ (k : Singles) where
    left_is : (x : List ℕ) (s : TSeq) (r : Q) → x ≡ [] → s ≡ rest r → record { pending = x; rest = s }
        ≡ at_rest r
    left_is x s r e f = λ i. record { pending = e i; rest = f i }

    step_from : (l : Left) (a : ℕ) (m : Left) → Step p.body l a m → (q : Q) → l.pending ≡ [] → l.rest
        ≡ rest q → (r : Q) × (m ≡ at_rest r) × Goes q a r
    step_from _ _ _ (within l a there) q e f =
        absurd (true≢false (sym (subst (λ x. IsTrue (is_in a x)) e there)))
    step_from _ _ _ (opens l a ms s none n there) q e f =
        let g = k.next q ms s (subst (λ y. Next p.body y ms s) f n) in
        let same : a ≡ g.0.sym.0 = is_in_one a g.0.sym.0
        (subst (λ y. IsTrue (is_in a (symbols y))) g.1 there) in
        let gone : without a (symbols ms) ≡ [] =
        ap (λ y. without a (symbols y)) g.1 ∙ without_one a g.0.sym.0 same in
        (g.2, left_is (without a (symbols ms)) s g.2 gone g.3, subst (λ x. Goes q x g.2) (sym same) g.4)

    pub single_steps : (q : Q) (a : ℕ) (m : Left) → Step p.body (at_rest q) a m → (r : Q) × (m ≡ at_rest r)
        × Goes q a r
    single_steps q a m s = step_from (at_rest q) a m s q refl refl

    pub single_goes : (q : Q) (a : ℕ) (r : Q) → Goes q a r → Step p.body (at_rest q) a (at_rest r)
    single_goes q a r h =
        let g = k.come q a r h in
        let same : a ≡ g.0.sym.0 = sym g.1 in
        subst (λ l. Step p.body (at_rest q) a l)
        (left_is (without a (symbols (g.0 ∷ []))) (rest r) r (without_one a g.0.sym.0 same) refl)
        (opens (at_rest q) a (g.0 ∷ []) (rest r) refl g.2 (one_is_in a g.0.sym.0 same))

-- ---- a command of one process

-- where each element passes, a filter leaves the list as it is
filter_all : (test : ℕ → Bool) (t : List ℕ) → AllByRecursion (λ x. IsTrue (test x)) t → filter test t ≡ t
filter_all test [] h = refl
filter_all test (x ∷ t) h = ap (λ b. cond b (x ∷ filter test t) (filter test t)) h.0
    ∙ ap (λ u. x ∷ u) (filter_all test t h.1)

all_by : (P Q : ℕ → Type 0) → ((x : ℕ) → P x → Q x) → (t : List ℕ) → AllByRecursion P t → AllByRecursion Q t
all_by P Q f [] h = tt
all_by P Q f (x ∷ t) h = (f x h.0, all_by P Q f t h.1)

pub follows_each : (A : List ℕ → ℕ → Type 0) (P : ℕ → Type 0) → ((u : List ℕ) (a : ℕ) → A u a → P a)
    → (t u : List ℕ) → Follows A u t → AllByRecursion P t
follows_each A P f [] u h = tt
follows_each A P f (a ∷ t) u h = (f u a h.0, follows_each A P f t (u ++ a ∷ []) h.1)

pub one_process : (p : Proc) (A : List ℕ → ℕ → Type 0)
    → ((u : List ℕ) (a : ℕ) → A u a → IsTrue (has_symbol (marks_of_proc p) a))
    → ((t : List ℕ) → TraceOf p t ↔ Follows A [] t) → (t : List ℕ) → Trace (p ∷ []) t ↔ Follows A [] t
one_process p A known law t = (forth, back)
  where
    same : (x : ℕ) → has_symbol (marks_of_all (p ∷ [])) x ≡ has_symbol (marks_of_proc p) x
    same x = ap (λ ms. has_symbol ms x) (append-nil (marks_of_proc p))

    forth : Trace (p ∷ []) t → Follows A [] t
    forth k =
        let here = all_by (λ x. IsTrue (has_symbol (marks_of_all (p ∷ [])) x))
        (λ x. IsTrue (has_symbol (marks_of_proc p) x)) (λ x h. sym (same x) ∙ h) t k.known in
        (law t).0 (subst (λ u. TraceOf p u) (filter_all (has_symbol (marks_of_proc p)) t here) k.each.0)

    back : Follows A [] t → Trace (p ∷ []) t
    back f =
        let here = follows_each A (λ x. IsTrue (has_symbol (marks_of_proc p) x)) known t [] f in
        record {
          known = all_by (λ x. IsTrue (has_symbol (marks_of_proc p) x))
              (λ x. IsTrue (has_symbol (marks_of_all (p ∷ [])) x)) (λ x h. same x ∙ h) t here;
          each = (
            subst (λ u. TraceOf p u) (sym (filter_all (has_symbol (marks_of_proc p)) t here))
                ((law t).1 f),
            tt,
          );
        }
