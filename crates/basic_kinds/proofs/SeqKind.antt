-- A SEQ by counts: a weave of one process for each request and one for the token.
use Rattle.std.proofs.Common.{◌≡◌, ◌↔◌, ◌⊎◌, inl, inr, ⊎_elim, ℕ, zero, suc, ◌+◌, ◌-◌, ◌<◌, ◌≤◌, Bool, true, false, true≢false, ◌||◌, nat_eq, List, [], ◌∷◌, ◌++◌, map, IsTrue, refl, sym, ap, ◌∙◌, subst, arith, eqb-true}
use Rattle.std.specs.List.{AllByRecursion, range_with_len}
use Rattle.std.proofs.lemmas.Bool.{cases_eq, cases_lt}
use Rattle.cmd_tree.specs.declared.tree.Mark.{Mark}
use Rattle.cmd_tree.specs.Tree.{marks_in}
use Rattle.cmd_tree.specs.Limits.{marks_of_proc, marks_of_all}
use Rattle.cmd_tree.specs.Meaning.{TraceOf, has_symbol, project}
use Rattle.cmd_tree.specs.Rounds.{counts, Follows}
use Rattle.cmd_tree.specs.Marks.{input, output}
use Rattle.cmd_tree.proofs.Phases.{Grew}
use Rattle.cmd_tree.proofs.RoundsRule.{follows_by}
use Rattle.basic_kinds.specs.declared.kind.Kind.TheVariants.{Seq}
use Rattle.basic_kinds.specs.KindTraces.{one, any_one, granted, grants, procs_of, KindTrace}
use Rattle.basic_kinds.specs.KindCounts.{KindAt, KindFollows, grants_in}
use Rattle.basic_kinds.proofs.Totals.{total_same, total_none}
use Rattle.basic_kinds.proofs.Items.{In, one_opens, range_opens, range_item, in_range, any_marks}
use Rattle.basic_kinds.proofs.Turns.{TurnAt, Counted, turns}
use Rattle.basic_kinds.proofs.Machines.{follows_each, one_is_in, is_in_one}
use Rattle.basic_kinds.proofs.SmallKinds.{PairAt, pair_turns, one_whole, has_front, has_back, row_known, row_grows, row_stays}
use Rattle.basic_kinds.proofs.Projections.{all_front, front_all, range_all, all_range, follows_family, follows_both, each_follows, from_projection, to_projection}

-- ---- symbols of lists of marks

pub has_split : (xs ys : List Mark) (a : ℕ) → IsTrue (has_symbol (xs ++ ys) a) → IsTrue (has_symbol xs a)
    ⊎ IsTrue (has_symbol ys a)
has_split [] ys a h = inr h
has_split (x ∷ xs) ys a h = by (nat_eq a x.sym.0) h (has_split xs ys a)
  where
    by : (b : Bool) → IsTrue (b || has_symbol (xs ++ ys) a)
        → (IsTrue (has_symbol (xs ++ ys) a) → IsTrue (has_symbol xs a) ⊎ IsTrue (has_symbol ys a))
        → IsTrue (b || has_symbol xs a) ⊎ IsTrue (has_symbol ys a)
    by true h k = inl refl
    by false h k = k h

pub has_member : (ms : List Mark) (a : ℕ) → IsTrue (has_symbol ms a) → (m : Mark) × In m ms × (a ≡ m.sym.0)
has_member [] a h = absurd (true≢false (sym h))
has_member (m ∷ ms) a h = ⊎_elim
    (λ e. (m, inl refl, e))
    (λ k. let r = has_member ms a k in (r.0, inr r.1, r.2))
    (by (nat_eq a m.sym.0) refl h)
  where
    by : (b : Bool) → nat_eq a m.sym.0 ≡ b → IsTrue (b || has_symbol ms a) → (a ≡ m.sym.0)
        ⊎ IsTrue (has_symbol ms a)
    by true e h = inl (eqb-true a m.sym.0 e)
    by false e h = inr h

pub row_has : (f : ℕ → Mark) → ((x : ℕ) → (f x).sym.0 ≡ x) → (s n a : ℕ)
    → IsTrue (has_symbol (map f (range_with_len s n)) a) → (s ≤ a) × (a < s + n)
row_has f num s n a h =
    let m = has_member (map f (range_with_len s n)) a h in
    let i = in_range f s n m.0 m.1 in
    let e : a ≡ i.0 = m.2 ∙ ap (λ (y : Mark). y.sym.0) i.3 ∙ num i.0 in
    (omega (arith, e, i.1), omega (arith, e, i.2))

module _ (k : ℕ) (wide : 2 ≤ k) where
  -- ---- the process of one request

  abbrev of_request : ℕ → ℕ → Bool
  of_request i a = has_symbol (marks_of_proc (granted k i)) a

  apart : (i : ℕ) → i ≡ k + 1 + i → ⊥
  apart i e = omega arith

  abbrev RequestAt : ℕ → (ℕ → ℕ) → ℕ → Type 0
  RequestAt i c a = PairAt (input i) (output (k + 1 + i)) (apart i) c a

  request_has : (i a : ℕ) → IsTrue (of_request i a) → (a ≡ i) ⊎ (a ≡ k + 1 + i)
  request_has i a h = ⊎_elim (λ l. inl (is_in_one a i l)) (λ r. inr (is_in_one a (k + 1 + i) r))
      (has_split (input i ∷ []) (output (k + 1 + i) ∷ []) a h)

  has_request : (i a : ℕ) → a ≡ i → IsTrue (of_request i a)
  has_request i a e = has_front (input i ∷ []) (output (k + 1 + i) ∷ []) a (one_is_in a i e)

  has_grant : (i a : ℕ) → a ≡ k + 1 + i → IsTrue (of_request i a)
  has_grant i a e = has_back (input i ∷ []) (output (k + 1 + i) ∷ []) a (one_is_in a (k + 1 + i) e)

  request_agree : (i : ℕ) (c d : ℕ → ℕ) → ((x : ℕ) → IsTrue (of_request i x) → c x ≡ d x) → (a : ℕ)
      → RequestAt i c a → RequestAt i d a
  request_agree i c d e a (inl h) =
      inl (h.0, omega (arith, h.1, e i (has_request i i refl), e (k + 1 + i) (has_grant i (k + 1 + i) refl)))
  request_agree i c d e a (inr h) =
      inr (h.0, omega (arith, h.1, e i (has_request i i refl), e (k + 1 + i) (has_grant i (k + 1 + i) refl)))

  -- ---- the process of the token

  abbrev is_token : ℕ → Type 0
  is_token a = a ≡ k

  abbrev is_grant : ℕ → Type 0
  is_grant a = (k + 1 ≤ a) × (a < k + 1 + k)

  abbrev all_grants : List Mark
  all_grants = map output (range_with_len (k + 1) k)

  abbrev TokenAt : (ℕ → ℕ) → ℕ → Type 0
  TokenAt c a = TurnAt (one (input k)) (any_one all_grants) is_token is_grant (λ c. c k) (grants_in k) c a

  token_counted : Counted (one (input k)) (any_one all_grants) is_token is_grant (λ c. c k) (grants_in k)
  token_counted = record {
    begins = sym (total_none k (λ i. 0) (λ i h. refl));
    first = λ c d a e g. let h = subst (λ x. Grew c x d) e g in
        (h.here, row_stays k (k + 1) c d k (λ j l z. omega arith) h);
    second = λ c d a b g. (g.elsewhere k (λ z. omega (arith, b.0)), grows c d a b.0 b.1 g);
  }
    where
      grows : (c d : ℕ → ℕ) (a : ℕ) → k + 1 ≤ a → a < k + 1 + k → Grew c a d → grants_in k d
          ≡ suc (grants_in k c)
      grows c d a low high g =
          let e : a ≡ k + 1 + (a - (k + 1)) = omega arith in
          row_grows k (k + 1) c d (a - (k + 1)) (omega arith) (subst (λ x. Grew c x d) e g)

  token_turns : (t : List ℕ) → TraceOf (grants k) t ↔ Follows (λ u a. TokenAt (counts u) a) [] t
  token_turns = turns (one (input k)) (any_one all_grants) is_token is_grant (λ c. c k) (grants_in k)
      (one_opens (input k)) (range_opens output (λ x. refl) (k + 1) k) token_counted (one_whole (input k))
      (range_item output (k + 1) k wide)

  abbrev of_token : ℕ → Bool
  of_token a = has_symbol (marks_of_proc (grants k)) a

  token_has : (a : ℕ) → IsTrue (of_token a) → (a ≡ k) ⊎ is_grant a
  token_has a h = ⊎_elim (λ l. inl (is_in_one a k l)) (λ r. inr (behind r))
      (has_split (input k ∷ []) (marks_in (any_one all_grants) ++ []) a h)
    where
      behind : IsTrue (has_symbol (marks_in (any_one all_grants) ++ []) a) → is_grant a
      behind r = ⊎_elim
          (λ l. row_has output (λ x. refl) (k + 1) k a
          (subst (λ ms. IsTrue (has_symbol ms a)) (any_marks all_grants) l))
          (λ n. absurd (true≢false (sym n)))
          (has_split (marks_in (any_one all_grants)) [] a r)

  has_token : (a : ℕ) → a ≡ k → IsTrue (of_token a)
  has_token a e = has_front (input k ∷ []) (marks_in (any_one all_grants) ++ []) a (one_is_in a k e)

  has_any_grant : (a : ℕ) → is_grant a → IsTrue (of_token a)
  has_any_grant a h = has_back (input k ∷ []) (marks_in (any_one all_grants) ++ []) a
      (has_front (marks_in (any_one all_grants)) [] a
      (subst (λ ms. IsTrue (has_symbol ms a)) (sym (any_marks all_grants))
      (row_known output (λ x. refl) (k + 1) k a h.0 h.1)))

  token_agree : (c d : ℕ → ℕ) → ((x : ℕ) → IsTrue (of_token x) → c x ≡ d x) → (a : ℕ) → TokenAt c a
      → TokenAt d a
  token_agree c d e a h = at h
    where
      sums : grants_in k c ≡ grants_in k d
      sums = total_same k (λ i. c (k + 1 + i)) (λ i. d (k + 1 + i))
          (λ i l. e (k + 1 + i) (has_any_grant (k + 1 + i) (omega arith, omega arith)))

      tokens : c k ≡ d k
      tokens = e k (has_token k refl)

      at : TokenAt c a → TokenAt d a
      at (inl h) = inl (h.0, sym tokens ∙ h.1 ∙ sums)
      at (inr h) = inr (h.0, omega (arith, h.1, sums, tokens))

  -- ---- the ports

  abbrev is_port : ℕ → Type 0
  is_port a = a < k + 1 + k

  known_in : (s n a : ℕ) → s + n ≤ k
      → IsTrue (has_symbol (marks_of_all (map (granted k) (range_with_len s n) ++ grants k ∷ [])) a)
      → is_port a
  known_in s zero a l h = ⊎_elim
      (λ t. ⊎_elim (λ (e : a ≡ k). omega arith) (λ g. g.1) (token_has a t))
      (λ n. absurd (true≢false (sym n)))
      (has_split (marks_of_proc (grants k)) [] a h)
  known_in s (suc n) a l h = ⊎_elim
      (λ r. ⊎_elim (λ (e : a ≡ s). omega arith) (λ (e : a ≡ k + 1 + s). omega arith) (request_has s a r))
      (known_in (s + 1) n a (omega arith))
      (has_split (marks_of_proc (granted k s))
      (marks_of_all (map (granted k) (range_with_len (s + 1) n) ++ grants k ∷ [])) a h)

  token_known : (s n a : ℕ) → IsTrue (of_token a)
      → IsTrue (has_symbol (marks_of_all (map (granted k) (range_with_len s n) ++ grants k ∷ [])) a)
  token_known s zero a h = has_front (marks_of_proc (grants k)) [] a h
  token_known s (suc n) a h = has_back (marks_of_proc (granted k s))
      (marks_of_all (map (granted k) (range_with_len (s + 1) n) ++ grants k ∷ [])) a
      (token_known (s + 1) n a h)

  request_known : (s n a : ℕ) → s ≤ a → a < s + n
      → IsTrue (has_symbol (marks_of_all (map (granted k) (range_with_len s n) ++ grants k ∷ [])) a)
  request_known s zero a low high = absurd (omega arith)
  request_known s (suc n) a low high = ⊎_elim
      (λ e. has_front (marks_of_proc (granted k s))
      (marks_of_all (map (granted k) (range_with_len (s + 1) n) ++ grants k ∷ [])) a (has_request s a e))
      (λ d. has_back (marks_of_proc (granted k s))
      (marks_of_all (map (granted k) (range_with_len (s + 1) n) ++ grants k ∷ [])) a
      (request_known (s + 1) n a (omega arith) (omega arith)))
      (cases_eq a s)

  port_known : (a : ℕ) → is_port a → IsTrue (has_symbol (marks_of_all (procs_of (Seq k))) a)
  port_known a h = ⊎_elim
      (λ l. request_known 0 k a (omega arith) (omega arith))
      (λ g. token_known 0 k a (⊎_elim (has_token a) (λ d. has_any_grant a (omega arith, h)) (cases_eq a k)))
      (cases_lt a k)

  -- ---- the rule of the SEQ is that of its processes

  abbrev Together : (ℕ → ℕ) → ℕ → Type 0
  Together c a = is_port a × ((i : ℕ) → i < k → IsTrue (of_request i a) → RequestAt i c a)
      × (IsTrue (of_token a) → TokenAt c a)

  from_request : (c : ℕ → ℕ) (a : ℕ) → a < k → RequestAt a c a → KindAt (Seq k) c a
  from_request c a l (inl h) = inl (l, h.1)
  from_request c a l (inr h) = absurd (omega (arith, h.0))

  from_token : (c : ℕ → ℕ) (a : ℕ) → a ≡ k → TokenAt c a → KindAt (Seq k) c a
  from_token c a e (inl h) = inr (inl (e, h.1))
  from_token c a e (inr h) = absurd (omega (arith, e, h.0.0))

  from_grant : (c : ℕ → ℕ) (a i : ℕ) → i < k → a ≡ k + 1 + i → RequestAt i c a → TokenAt c a
      → KindAt (Seq k) c a
  from_grant c a i l e (inl h) t = absurd (omega (arith, e, h.0))
  from_grant c a i l e (inr h) (inl t) = absurd (omega (arith, e, t.0))
  from_grant c a i l e (inr h) (inr t) =
      inr (inr (record {
        request = i;
        port = e;
        within = l;
        waits = omega (arith, h.1, ap c e);
        token = t.1;
      }))

  from_together : (c : ℕ → ℕ) (a : ℕ) → Together c a → KindAt (Seq k) c a
  from_together c a h = ⊎_elim
      (λ l. from_request c a l (h.1 a l (has_request a a refl)))
      (λ g. ⊎_elim
      (λ e. from_token c a e (h.2 (has_token a e)))
      (λ d.
      let i : ℕ = a - (k + 1) in
      let e : a ≡ k + 1 + i = omega (arith, h.0) in
      let l : i < k = omega (arith, h.0) in
      from_grant c a i l e (h.1 i l (has_grant i a e)) (h.2 (has_any_grant a (omega arith, h.0))))
      (cases_eq a k))
      (cases_lt a k)

  to_together : (c : ℕ → ℕ) (a : ℕ) → KindAt (Seq k) c a → Together c a
  to_together c a (inl h) = (
    omega (arith, h.0),
    λ i l z. ⊎_elim (λ (e : a ≡ i). inl (e, sym (ap c e) ∙ h.1 ∙ ap (λ x. c (k + 1 + x)) e))
        (λ (e : a ≡ k + 1 + i). absurd (omega (arith, h.0))) (request_has i a z),
    λ z. ⊎_elim (λ (e : a ≡ k). absurd (omega (arith, h.0)))
        (λ (g : is_grant a). absurd (omega (arith, h.0))) (token_has a z),
  )
  to_together c a (inr (inl h)) = (
    omega (arith, h.0),
    λ i l z. ⊎_elim (λ (e : a ≡ i). absurd (omega (arith, h.0)))
        (λ (e : a ≡ k + 1 + i). absurd (omega (arith, h.0))) (request_has i a z),
    λ z. inl h,
  )
  to_together c a (inr (inr h)) = (
    omega (arith, h.port, h.within),
    λ i l z. ⊎_elim
        (λ (e : a ≡ i). absurd (omega (arith, h.port)))
        (λ (e : a ≡ k + 1 + i). let same : h.request ≡ i = omega (arith, h.port) in
        inr (e, omega (arith, h.waits, ap c same, ap c e)))
        (request_has i a z),
    λ z. inr ((omega (arith, h.port), omega (arith, h.port, h.within)), h.token),
  )

  -- ---- the law

  abbrev Requests : List ℕ → ℕ → Type 0
  Requests v a = (i : ℕ) → i < k → IsTrue (of_request i a) → RequestAt i (counts v) a

  abbrev Tokens : List ℕ → ℕ → Type 0
  Tokens v a = IsTrue (of_token a) → TokenAt (counts v) a

  seq_forth : (t : List ℕ) → KindTrace (Seq k) t → KindFollows (Seq k) t
  seq_forth t h =
      let parts = all_front (λ p. TraceOf p (project p t)) (map (granted k) (range_with_len 0 k))
      (grants k ∷ []) h.each in
      let requests : Follows Requests [] t =
      follows_family (λ i. i < k) (λ i v a. IsTrue (of_request i a) → RequestAt i (counts v) a) t []
      (λ i l. from_projection (of_request i) (RequestAt i) (request_agree i) t []
      ((pair_turns (input i) (output (k + 1 + i)) (apart i) (project (granted k i) t)).0
      (all_range (λ p. TraceOf p (project p t)) (granted k) 0 k parts.0 i (omega arith) (omega arith))))
      in
      let tokens : Follows Tokens [] t =
      from_projection of_token TokenAt token_agree t []
      ((token_turns (project (grants k) t)).0 parts.1.0) in
      let ports = each_follows (λ a. IsTrue (has_symbol (marks_of_all (procs_of (Seq k))) a)) t [] h.known in
      follows_by _ (λ u a. KindAt (Seq k) (counts u) a)
      (λ u a r. from_together (counts u) a (known_in 0 k a (omega arith) r.0, r.1.0, r.1.1)) [] t
      (follows_both (λ v a. IsTrue (has_symbol (marks_of_all (procs_of (Seq k))) a))
      (λ v a. Requests v a × Tokens v a) t [] ports (follows_both Requests Tokens t [] requests tokens))

  seq_back : (t : List ℕ) → KindFollows (Seq k) t → KindTrace (Seq k) t
  seq_back t f = record {
    known = follows_each (λ u a. KindAt (Seq k) (counts u) a)
        (λ a. IsTrue (has_symbol (marks_of_all (procs_of (Seq k))) a))
        (λ u a r. port_known a (to_together (counts u) a r).0) t [] f;
    each = front_all (λ p. TraceOf p (project p t)) (map (granted k) (range_with_len 0 k)) (grants k ∷ [])
        requests (token, tt);
  }
    where
      requests : AllByRecursion (λ p. TraceOf p (project p t)) (map (granted k) (range_with_len 0 k))
      requests = range_all (λ p. TraceOf p (project p t)) (granted k) 0 k
          (λ i low high. (pair_turns (input i) (output (k + 1 + i)) (apart i) (project (granted k i) t)).1
          (to_projection (of_request i) (RequestAt i) (request_agree i) t []
          (follows_by (λ u a. KindAt (Seq k) (counts u) a)
          (λ v a. IsTrue (of_request i a) → RequestAt i (counts v) a)
          (λ u a r. (to_together (counts u) a r).1 i (omega (arith, high))) [] t f)))

      token : TraceOf (grants k) (project (grants k) t)
      token = (token_turns (project (grants k) t)).1 (to_projection of_token TokenAt token_agree t []
          (follows_by (λ u a. KindAt (Seq k) (counts u) a) Tokens (λ u a r. (to_together (counts u) a r).2)
          [] t f))

  pub seq_counts : (t : List ℕ) → KindTrace (Seq k) t ↔ KindFollows (Seq k) t
  seq_counts t = (seq_forth t, seq_back t)
