-- The symbols of one burst among those of another.
use Rattle.std.proofs.Common.{◌≡◌, ◌↔◌, inl, inr, ℕ, Bool, true, false, true≢false, IsTrue, nat_eq, List, [], ◌∷◌, refl, sym, ap, ◌∙◌, eq-eqb}
use Rattle.std.proofs.lemmas.Bool.{eqb-true, and_parts, and_from}
use Rattle.std.specs.Prelude.{◌||◌}
use Rattle.std.specs.List.{list_all}
use Rattle.cmd_tree.specs.declared.tree.Mark.{Mark}
use Rattle.cmd_tree.specs.Lists.{is_in}
use Rattle.cmd_tree.specs.Meaning.{symbols}
use Rattle.di_grammar.proofs.Lists.{within_cons, none_within}
use Rattle.di_grammar.specs.Lists.{Within}
use Rattle.di_grammar.specs.Mirror.Symbols.{SameSymbols, is_of}

of_in : (ms : List Mark) (n : Mark) → is_of ms n ≡ is_in n.sym.0 (symbols ms)
of_in [] n = refl
of_in (m ∷ ms) n = ap (λ (b : Bool). nat_eq n.sym.0 m.sym.0 || b) (of_in ms n)

all_among : (ms ns : List Mark) → list_all (is_of ms) ns ≡ true → (a : ℕ) → is_in a (symbols ns) ≡ true → is_in a (symbols ms) ≡ true
all_among ms [] all a h = absurd (true≢false (sym h))
all_among ms (n ∷ ns) all a h =
    let parts = and_parts (is_of ms n) (list_all (is_of ms) ns) all in
    by parts.0 (all_among ms ns parts.1 a) (nat_eq a n.sym.0) refl h where
      by : is_of ms n ≡ true → (is_in a (symbols ns) ≡ true → is_in a (symbols ms) ≡ true)
          → (t : Bool) → nat_eq a n.sym.0 ≡ t → (t || is_in a (symbols ns)) ≡ true → is_in a (symbols ms) ≡ true
      by here later true e h = ap (λ (b : ℕ). is_in b (symbols ms)) (eqb-true a n.sym.0 e) ∙ sym (of_in ms n) ∙ here
      by here later false e h = later h

among_all : (ms ns : List Mark) → ((a : ℕ) → is_in a (symbols ns) ≡ true → is_in a (symbols ms) ≡ true) → list_all (is_of ms) ns ≡ true
among_all ms [] among = refl
among_all ms (n ∷ ns) among = and_from (is_of ms n) (list_all (is_of ms) ns)
    (of_in ms n ∙ among n.sym.0 (ap (λ (b : Bool). b || is_in n.sym.0 (symbols ns)) (eq-eqb n.sym.0 n.sym.0 refl)))
    (among_all ms ns (λ a h. among a (later (nat_eq a n.sym.0) (is_in a (symbols ns)) h))) where
      later : (x y : Bool) → y ≡ true → (x || y) ≡ true
      later true y h = refl
      later false y h = h

pub same_then : (ms ns : List Mark) (r s : Bool) → r ≡ list_all (is_of ns) ms → r ≡ true → s ≡ list_all (is_of ms) ns → IsTrue s ↔ SameSymbols ms ns
same_then ms ns r s p t q = (
  λ h a. (all_among ns ms (sym p ∙ t) a, all_among ms ns (sym q ∙ h) a),
  λ same. q ∙ among_all ms ns (λ a. (same a).1),
)

pub same_else : (ms ns : List Mark) (r : Bool) → r ≡ list_all (is_of ns) ms → r ≡ false → IsTrue r ↔ SameSymbols ms ns
same_else ms ns r p f = (
  λ h. absurd (true≢false (sym h ∙ f)),
  λ same. p ∙ among_all ns ms (λ a. (same a).0),
)

-- a mark's symbol stands among the symbols
pub symbol_in : (ms : List Mark) (m : Mark) → Within ms m → is_in m.sym.0 (symbols ms) ≡ true
symbol_in [] m w = absurd (none_within m w)
symbol_in (n ∷ ms) m w = elim (within_cons n ms m w) [
  | inl e ↦ ap (λ (b : Bool). b || is_in m.sym.0 (symbols ms)) (eq-eqb m.sym.0 n.sym.0 (ap (λ (k : Mark). k.sym.0) e))
  | inr t ↦ later (nat_eq m.sym.0 n.sym.0) (is_in m.sym.0 (symbols ms)) (symbol_in ms m t)
] where
  later : (x y : Bool) → y ≡ true → (x || y) ≡ true
  later true y h = refl
  later false y h = h

-- the mark by which a symbol stands among the symbols
pub record Marked (ms : List Mark) (a : ℕ) : Type 0 where
  pub mark : Mark
  pub within : Within ms mark
  pub is : a ≡ mark.sym.0

pub in_marked : (ms : List Mark) (a : ℕ) → is_in a (symbols ms) ≡ true → Marked ms a
in_marked [] a h = absurd (true≢false (sym h))
in_marked (m ∷ ms) a h = by (nat_eq a m.sym.0) refl h (in_marked ms a) where
  by : (t : Bool) → nat_eq a m.sym.0 ≡ t → (t || is_in a (symbols ms)) ≡ true → (is_in a (symbols ms) ≡ true → Marked ms a) → Marked (m ∷ ms) a
  by true e h later = record { mark = m; within = record { before = []; after = ms; are = refl }; is = eqb-true a m.sym.0 e }
  by false e h later =
      let l = later h in
      record { mark = l.mark; within = record { before = m ∷ l.within.before; after = l.within.after; are = ap (λ (ns : List Mark). m ∷ ns) l.within.are }; is = l.is }
