-- Where alternatives begin with bursts that share no symbol, a trace tells where its moves lead.
use Rattle.std.proofs.Common.{◌≡◌, ◌≢◌, inl, inr, ⊎_elim, ◌↔◌, ℕ, ◌+◌, Bool, true, false, ◌||◌, nat_eq, List, [], ◌∷◌, ◌++◌, IsTrue, refl, sym, subst, eqb-true}
use Rattle.cmd_tree.specs.declared.tree.Mark.{Mark}
use Rattle.cmd_tree.specs.declared.tree.Proc.{Proc}
use Rattle.cmd_tree.specs.Tree.{TSeq}
use Rattle.cmd_tree.specs.Limits.{IsProc}
use Rattle.cmd_tree.specs.Lists.{is_in}
use Rattle.cmd_tree.specs.Marks.{output}
use Rattle.cmd_tree.specs.Meaning.{symbols, TraceOf}
use Rattle.cmd_tree.specs.Residual.{FirstAmong}
use Rattle.process_laws.specs.Shape.{AreApart}
use Rattle.process_laws.specs.GrantForms.{gifts, Giving, loans, granted_of}
use Rattle.di_grammar.specs.Lists.{Each, EachTwo}
use Rattle.di_grammar.specs.Grants.{Gift, gifts_from, GrantsPlainly, GrantsWithRelease, Grants}
use Rattle.di_grammar.specs.Granted.{KeepsGranted}
use Rattle.place_graph.specs.Points.{OneOf, legs}
use Rattle.place_graph.specs.Walks.{Here, Move, Moves, Reaches, begin}
use Rattle.place_graph.specs.Apart.{HasApart}
use Rattle.place_graph.proofs.Walking.{trace_moves}
use Rattle.place_graph.proofs.Charted.{leg_apart}
use Rattle.place_graph.proofs.Tales.{same_state, moves_split, moves_join}

-- ---- states

module _ (p : Proc) (h : IsProc p) where
  reaches_moves : (t : List ℕ) (c d : Here) → Reaches (legs p) c t d → Moves (legs p) c t
  reaches_moves [] c d r = tt
  reaches_moves (a ∷ t) c d r = (r.0, r.1, reaches_moves t r.0 d r.2)

  moves_reach : (t : List ℕ) (c : Here) → Moves (legs p) c t → (d : Here) × Reaches (legs p) c t d
  moves_reach [] c m = (c, refl)
  moves_reach (a ∷ t) c m = let k = moves_reach t m.0 m.2 in (k.0, (m.0, m.1, k.1))

  pub reached : (t : List ℕ) → TraceOf p t ↔ ((c : Here) × Reaches (legs p) begin t c)
  reached t = (
    λ k. moves_reach t begin ((trace_moves p h t).0 k),
    λ k. (trace_moves p h t).1 (reaches_moves t begin k.0 k.1),
  )

  module _ (apart : HasApart p) where
    pub one_state : (t : List ℕ) (c d : Here) → Reaches (legs p) begin t c → Reaches (legs p) begin t d
        → c ≡ d
    one_state t c d r s = same_state (legs p) (leg_apart (λ a. false) p h apart) t begin c d r s

    pub can_move : (t : List ℕ) (a : ℕ) (c : Here) → Reaches (legs p) begin t c
        → TraceOf p (t ++ a ∷ []) ↔ ((d : Here) × Move (legs p) c a d)
    can_move t a c r = (
      λ k.
          let s = moves_split (legs p) t begin a ((trace_moves p h (t ++ a ∷ [])).0 k) in
          (s.after, subst (λ x. Move (legs p) x a s.after) (one_state t s.before c s.reached r) s.move),
      λ m. (trace_moves p h (t ++ a ∷ [])).1 (moves_join (legs p) t begin c a m.0 r m.1),
    )

-- ---- grants

in_single : (a p : ℕ) (ms : List Mark) → ms ≡ output p ∷ [] → IsTrue (is_in a (symbols ms)) → a ≡ p
in_single a p ms e h = eqb-true a p (last (nat_eq a p) (subst (λ ns. IsTrue (is_in a (symbols ns))) e h))
  where
    last : (b : Bool) → (b || false) ≡ true → b ≡ true
    last true k = refl
    last false k = k

gift_symbol : (ps : List ℕ) (ms : List Mark) (q : TSeq) (a : ℕ) → FirstAmong (gifts ps) ms q
    → IsTrue (is_in a (symbols ms)) → OneOf ps a
gift_symbol [] ms q a f h = absurd f
gift_symbol (p ∷ ps) ms q a f h = ⊎_elim
    (λ g. inl (sym (in_single a p ms g.1.0 h)))
    (λ g. inr (gift_symbol ps ms q a g h))
    f

loan_symbol : (gs : List Giving) (ms : List Mark) (q : TSeq) (a : ℕ) → FirstAmong (loans gs) ms q
    → IsTrue (is_in a (symbols ms)) → OneOf (granted_of gs) a
loan_symbol [] ms q a f h = absurd f
loan_symbol (g ∷ gs) ms q a f h = ⊎_elim
    (λ k. inl (sym (in_single a g.granted ms k.1.0 h)))
    (λ k. inr (loan_symbol gs ms q a k h))
    f

none_same : (p : ℕ) (ps : List ℕ) → Each (λ x. p ≢ x) ps → OneOf ps p → ⊥
none_same p [] h o = o
none_same p (x ∷ ps) h o = ⊎_elim (λ e. h.0 (sym e)) (λ k. none_same p ps h.1 k) o

gifts_apart : (ps : List ℕ) → EachTwo (λ x y. x ≢ y) ps → AreApart (gifts ps)
gifts_apart [] h = tt
gifts_apart (p ∷ ps) h = (
  (tt, tt),
  gifts_apart ps h.1,
  λ ms ns q r f g a x y. none_same p ps h.0
      (subst (OneOf ps) (in_single a p ms f.1.0 x) (gift_symbol ps ns r a g y)),
)

loans_apart : (gs : List Giving) → EachTwo (λ x y. x ≢ y) (granted_of gs) → AreApart (loans gs)
loans_apart [] h = tt
loans_apart (g ∷ gs) h = (
  (tt, (tt, tt)),
  loans_apart gs h.1,
  λ ms ns q r f k a x y. none_same g.granted (granted_of gs) h.0
      (subst (OneOf (granted_of gs)) (in_single a g.granted ms f.1.0 x) (loan_symbol gs ns r a k y)),
)

each_symbol : (p k step : ℕ) (ps : List ℕ) → Each (λ (h : Gift). p ≢ h.symbol) (gifts_from k step ps)
    → Each (λ x. p ≢ x) ps
each_symbol p k step [] h = tt
each_symbol p k step (x ∷ ps) h = (h.0, each_symbol p (k + step) step ps h.1)

two_symbols : (k step : ℕ) (ps : List ℕ)
    → EachTwo (λ (g h : Gift). g.symbol ≢ h.symbol) (gifts_from k step ps) → EachTwo (λ x y. x ≢ y) ps
two_symbols k step [] h = tt
two_symbols k step (x ∷ ps) h = (each_symbol x (k + step) step ps h.0, two_symbols (k + step) step ps h.1)

pub grant_apart : (p : Proc) → KeepsGranted p → (gs : List Gift) → Grants p gs → HasApart p
grant_apart p keeps gs grants = ⊎_elim
    (λ (g : GrantsPlainly p gs).
    let differ = two_symbols 2 1 g.symbols
    (subst (λ xs. EachTwo (λ (x y : Gift). x.symbol ≢ y.symbol) xs) g.gives (keeps gs grants)) in
    subst HasApart (sym g.is) (record { lead = tt; body = (tt, ((gifts_apart g.symbols differ), tt)) }))
    (λ (g : GrantsWithRelease p gs).
    let differ = two_symbols 1 2 (granted_of g.givings)
    (subst (λ xs. EachTwo (λ (x y : Gift). x.symbol ≢ y.symbol) xs) g.gives (keeps gs grants)) in
    subst HasApart (sym g.is) (record { lead = tt; body = (loans_apart g.givings differ, tt) }))
    grants
