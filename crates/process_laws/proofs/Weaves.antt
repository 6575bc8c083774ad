-- A weave keeps the rules of delay-insensitivity where each of its processes does.
use Rattle.std.proofs.Common.{◌≡◌, ◌≢◌, ◌⊎◌, inl, inr, ⊎_elim, ℕ, Bool, true, false, true≢false, cond, ◌||◌, nat_eq, List, [], ◌∷◌, ◌++◌, IsTrue, refl, sym, subst, append-nil}
use Rattle.std.specs.List.{AllByRecursion}
use Rattle.std.proofs.lemmas.List.Elements.{filter-append}
use Rattle.cmd_tree.specs.declared.tree.Mark.{Mark}
use Rattle.cmd_tree.specs.declared.tree.Proc.{Proc}
use Rattle.cmd_tree.specs.Limits.{marks_of_proc, marks_of_all}
use Rattle.cmd_tree.specs.Meaning.{TraceOf, Trace, has_symbol, project}
use Rattle.cmd_tree.proofs.Prefixes.{AllByRecursion-front}
use Rattle.process_laws.specs.Insensitive.{Insensitive}

-- ---- one process sees some of the symbols

-- a where x is true, b where y is true, and then w
abbrev seen : Bool → Bool → ℕ → ℕ → List ℕ → List ℕ
seen x y a b w = cond x (a ∷ cond y (b ∷ w) w) (cond y (b ∷ w) w)

module _ (T : List ℕ → Type 0) (out : ℕ → Bool) (rules : Insensitive T out) where
  twice_seen : (s : List ℕ) (a : ℕ) (x : Bool) → x ≡ true → T (s ++ seen x x a a []) → ⊥
  twice_seen s a true e h = rules.twice s a h
  twice_seen s a false e h = true≢false (sym e)

  swap_seen : (s w : List ℕ) (a b : ℕ) (x y : Bool) → out a ≡ out b → T (s ++ seen x y a b w)
      → T (s ++ seen y x b a w)
  swap_seen s w a b true true same h = rules.swap s w a b same h
  swap_seen s w a b true false same h = h
  swap_seen s w a b false true same h = h
  swap_seen s w a b false false same h = h

  carry_seen : (s w : List ℕ) (a b c : ℕ) (x y z : Bool) → out a ≢ out b → out a ≡ out c
      → T (s ++ seen x y a b (w ++ cond z (c ∷ []) [])) → T (s ++ seen y x b a w)
      → T (s ++ seen y x b a (w ++ cond z (c ∷ []) []))
  carry_seen s w a b c x y false differ same h k =
      subst (λ v. T (s ++ seen y x b a v)) (sym (append-nil w)) k
  carry_seen s w a b c true true true differ same h k = rules.carry s w a b c differ same h k
  carry_seen s w a b c true false true differ same h k = h
  carry_seen s w a b c false true true differ same h k = h
  carry_seen s w a b c false false true differ same h k = h

  both_seen : (s : List ℕ) (a b : ℕ) (x y : Bool) → out a ≢ out b → T (s ++ cond x (a ∷ []) [])
      → T (s ++ cond y (b ∷ []) []) → T (s ++ seen x y a b [])
  both_seen s a b true true differ h k = rules.both s a b differ h k
  both_seen s a b true false differ h k = h
  both_seen s a b false true differ h k = k
  both_seen s a b false false differ h k = h

-- ---- the projections on one process

module _ (p : Proc) (out : ℕ → Bool) (rules : Insensitive (TraceOf p) out) where
  abbrev keep : ℕ → Bool
  keep = has_symbol (marks_of_proc p)

  -- the projection is a trace of p
  abbrev Fits : List ℕ → Type 0
  Fits t = TraceOf p (project p t)

  cut : (t u : List ℕ) → Fits (t ++ u) → TraceOf p (project p t ++ project p u)
  cut t u h = subst (TraceOf p) (filter-append keep t u) h

  joins : (t u : List ℕ) → TraceOf p (project p t ++ project p u) → Fits (t ++ u)
  joins t u h = subst (TraceOf p) (sym (filter-append keep t u)) h

  prefix_fits : (t u : List ℕ) → Fits (t ++ u) → Fits t
  prefix_fits t u h = rules.prefix (project p t) (project p u) (cut t u h)

  twice_fits : (t : List ℕ) (a : ℕ) → IsTrue (keep a) → Fits (t ++ a ∷ a ∷ []) → ⊥
  twice_fits t a here h =
      twice_seen (TraceOf p) out rules (project p t) a (keep a) here (cut t (a ∷ a ∷ []) h)

  swap_fits : (t u : List ℕ) (a b : ℕ) → out a ≡ out b → Fits (t ++ a ∷ b ∷ u) → Fits (t ++ b ∷ a ∷ u)
  swap_fits t u a b same h =
      let k = cut t (a ∷ b ∷ u) h in
      joins t (b ∷ a ∷ u)
      (swap_seen (TraceOf p) out rules (project p t) (project p u) a b (keep a) (keep b) same k)

  carry_fits : (t u : List ℕ) (a b c : ℕ) → out a ≢ out b → out a ≡ out c
      → Fits (t ++ a ∷ b ∷ (u ++ c ∷ [])) → Fits (t ++ b ∷ a ∷ u) → Fits (t ++ b ∷ a ∷ (u ++ c ∷ []))
  carry_fits t u a b c differ same h k =
      let s = project p t in
      let w = project p u in
      let x = keep a in
      let y = keep b in
      let last : project p (u ++ c ∷ []) ≡ w ++ cond (keep c) (c ∷ []) [] = filter-append keep u (c ∷ []) in
      let one = subst (λ v. TraceOf p (s ++ seen x y a b v)) last (cut t (a ∷ b ∷ (u ++ c ∷ [])) h) in
      let other = cut t (b ∷ a ∷ u) k in
      let both = carry_seen (TraceOf p) out rules s w a b c x y (keep c) differ same one other in
      joins t (b ∷ a ∷ (u ++ c ∷ [])) (subst (λ v. TraceOf p (s ++ seen y x b a v)) (sym last) both)

  both_fits : (t : List ℕ) (a b : ℕ) → out a ≢ out b → Fits (t ++ a ∷ []) → Fits (t ++ b ∷ [])
      → Fits (t ++ a ∷ b ∷ [])
  both_fits t a b differ h k =
      let one = cut t (a ∷ []) h in
      let other = cut t (b ∷ []) k in
      joins t (a ∷ b ∷ [])
      (both_seen (TraceOf p) out rules (project p t) a b (keep a) (keep b) differ one other)

-- ---- all processes

abbrev Parts : (ℕ → Bool) → List Proc → Type 0
Parts out = AllByRecursion (λ p. Insensitive (TraceOf p) out)

-- each projection is a trace of its process
abbrev Fit : List Proc → List ℕ → Type 0
Fit ps t = AllByRecursion (λ p. TraceOf p (project p t)) ps

each_empty : (out : ℕ → Bool) (ps : List Proc) → Parts out ps → Fit ps []
each_empty out [] rules = tt
each_empty out (p ∷ ps) rules = (rules.0.empty, each_empty out ps rules.1)

-- what follows for each process of one fact, and of two
each_so : (out : ℕ → Bool) (ps : List Proc) (t u : List ℕ)
    → ((p : Proc) → Insensitive (TraceOf p) out → TraceOf p (project p t) → TraceOf p (project p u))
    → Parts out ps → Fit ps t → Fit ps u
each_so out [] t u f rules h = tt
each_so out (p ∷ ps) t u f rules h = (f p rules.0 h.0, each_so out ps t u f rules.1 h.1)

each_so_two : (out : ℕ → Bool) (ps : List Proc) (t u v : List ℕ)
    → ((p : Proc) → Insensitive (TraceOf p) out
    → TraceOf p (project p t) → TraceOf p (project p u) → TraceOf p (project p v))
    → Parts out ps → Fit ps t → Fit ps u → Fit ps v
each_so_two out [] t u v f rules h k = tt
each_so_two out (p ∷ ps) t u v f rules h k =
    (f p rules.0 h.0 k.0, each_so_two out ps t u v f rules.1 h.1 k.1)

-- a symbol of two lists of marks is of one of them
of_either : (ms ns : List Mark) (a : ℕ) → IsTrue (has_symbol (ms ++ ns) a)
    → IsTrue (has_symbol ms a) ⊎ IsTrue (has_symbol ns a)
of_either [] ns a h = inr h
of_either (m ∷ ms) ns a h = by (nat_eq a m.sym.0) h (of_either ms ns a)
  where
    by : (b : Bool) → IsTrue (b || has_symbol (ms ++ ns) a)
        → (IsTrue (has_symbol (ms ++ ns) a) → IsTrue (has_symbol ms a) ⊎ IsTrue (has_symbol ns a))
        → IsTrue (b || has_symbol ms a) ⊎ IsTrue (has_symbol ns a)
    by true h f = inl refl
    by false h f = f h

not_twice : (out : ℕ → Bool) (ps : List Proc) (t : List ℕ) (a : ℕ) → Parts out ps
    → IsTrue (has_symbol (marks_of_all ps) a) → Fit ps (t ++ a ∷ a ∷ []) → ⊥
not_twice out [] t a rules known h = absurd (true≢false (sym known))
not_twice out (p ∷ ps) t a rules known h = ⊎_elim
    (λ here. twice_fits p out rules.0 t a here h.0)
    (λ there. not_twice out ps t a rules.1 there h.1)
    (of_either (marks_of_proc p) (marks_of_all ps) a known)

-- ---- the symbols of a trace

module _ (P : ℕ → Type 0) where
  all_back : (t u : List ℕ) → AllByRecursion P (t ++ u) → AllByRecursion P u
  all_back [] u h = h
  all_back (x ∷ t) u h = all_back t u h.1

  all_joined : (t u : List ℕ) → AllByRecursion P t → AllByRecursion P u → AllByRecursion P (t ++ u)
  all_joined [] u h k = k
  all_joined (x ∷ t) u h k = (h.0, all_joined t u h.1 k)

  all_swapped : (t u : List ℕ) (a b : ℕ) → AllByRecursion P (t ++ a ∷ b ∷ u)
      → AllByRecursion P (t ++ b ∷ a ∷ u)
  all_swapped t u a b h =
      let k = all_back t (a ∷ b ∷ u) h in
      all_joined t (b ∷ a ∷ u) (AllByRecursion-front P t (a ∷ b ∷ u) h) (k.1.0, (k.0, k.1.1))

pub weave_insensitive : (out : ℕ → Bool) (ps : List Proc)
    → AllByRecursion (λ p. Insensitive (TraceOf p) out) ps → Insensitive (Trace ps) out
weave_insensitive out ps rules =
    let Known = λ (x : ℕ). IsTrue (has_symbol (marks_of_all ps) x) in
    record {
      empty = record { known = tt; each = each_empty out ps rules };
      prefix = λ t u h. record {
        known = AllByRecursion-front Known t u h.known;
        each = each_so out ps (t ++ u) t (λ p r. prefix_fits p out r t u) rules h.each;
      };
      twice = λ t a h. not_twice out ps t a rules (all_back Known t (a ∷ a ∷ []) h.known).0 h.each;
      swap = λ t u a b same h. record {
        known = all_swapped Known t u a b h.known;
        each = each_so out ps (t ++ a ∷ b ∷ u) (t ++ b ∷ a ∷ u)
            (λ p r. swap_fits p out r t u a b same) rules h.each;
      };
      carry = λ t u a b c differ same h k. record {
        known = all_swapped Known t (u ++ c ∷ []) a b h.known;
        each = each_so_two out ps
            (t ++ a ∷ b ∷ (u ++ c ∷ [])) (t ++ b ∷ a ∷ u) (t ++ b ∷ a ∷ (u ++ c ∷ []))
            (λ p r. carry_fits p out r t u a b c differ same) rules h.each k.each;
      };
      both = λ t a b differ h k. record {
        known = all_joined Known t (a ∷ b ∷ []) (AllByRecursion-front Known t (a ∷ []) h.known)
            ((all_back Known t (a ∷ []) h.known).0, all_back Known t (b ∷ []) k.known);
        each = each_so_two out ps (t ++ a ∷ []) (t ++ b ∷ []) (t ++ a ∷ b ∷ [])
            (λ p r. both_fits p out r t a b differ) rules h.each k.each;
      };
    }
