-- The test of crossings, and their words.
use Rattle.std.proofs.Common.{◌≡◌, ℕ, zero, suc, ◌-◌, ◌<◌, ◌≤◌, Bool, true, false, List, [], ◌∷◌, length, take, drop, get_or, None, refl, sym, ap, ◌∙◌, arith}
use Rattle.std.specs.Prelude.{◌&&◌, nat_lt, nat_eq, IsTrue, slice_index_or, ◌↔◌}
use Rattle.std.specs.List.{list_all, list_any}
use Rattle.std.proofs.lemmas.List.{take_all}
use Rattle.std.proofs.lemmas.Bool.{and_parts, ltb-true, lt-ltb}
use Rattle.std.proofs.lemmas.Bool.Decides.{nat_tests}
use Rattle.basic_kinds.specs.Shapes.{IsShape, is_before, is_rising, is_within}
use Rattle.net_text.specs.Mirror.Crossings.{is_chain, is_placed, side}
use Rattle.net_text.specs.Mirror.PartWords.{crossing_in, crossing_of}
use Rattle.text_lines.specs.Pieces.{pieces}
use Rattle.text_lines.proofs.Cuts.{cut}

before_joined : (p q r : ℕ × ℕ) → is_before p q ≡ true → is_before q r ≡ true → is_before p r ≡ true
before_joined p q r e f = grind (arith, nat_tests)

and_both : (a b : Bool) → a ≡ true → b ≡ true → (a && b) ≡ true
and_both true true e f = refl
and_both true false e f = absurd (cc)
and_both false b e f = absurd (cc)

-- ---- a chain rises
chain_above : (p q : ℕ × ℕ) (qs : List (ℕ × ℕ)) → is_before p q ≡ true → is_chain q qs ≡ true → list_all (is_before p) qs ≡ true
chain_above p q [] e f = refl
chain_above p q (r ∷ qs) e f =
    let parts = and_parts (is_before q r) (is_chain r qs) f in
    let here = before_joined p q r e parts.0 in
    and_both (is_before p r) (list_all (is_before p) qs) here (chain_above p r qs here parts.1)

chain_rises : (p : ℕ × ℕ) (ps : List (ℕ × ℕ)) → is_chain p ps ≡ true → is_rising (p ∷ ps) ≡ true
chain_rises p [] e = refl
chain_rises p (q ∷ qs) e =
    let parts = and_parts (is_before p q) (is_chain q qs) e in
    and_both (is_before p q && list_all (is_before p) qs) (is_rising (q ∷ qs))
    (and_both (is_before p q) (list_all (is_before p) qs) parts.0 (chain_above p q qs parts.0 parts.1)) (chain_rises q qs parts.1)

rises_chain : (p : ℕ × ℕ) (ps : List (ℕ × ℕ)) → is_rising (p ∷ ps) ≡ true → is_chain p ps ≡ true
rises_chain p [] e = refl
rises_chain p (q ∷ qs) e =
    let parts = and_parts (is_before p q && list_all (is_before p) qs) (is_rising (q ∷ qs)) e in
    let first = and_parts (is_before p q) (list_all (is_before p) qs) parts.0 in
    and_both (is_before p q) (is_chain q qs) first.0 (rises_chain q qs parts.1)

same_truth : (a b : Bool) → (a ≡ true → b ≡ true) → (b ≡ true → a ≡ true) → a ≡ b
same_truth true true f g = refl
same_truth true false f g = sym (f refl)
same_truth false true f g = g refl
same_truth false false f g = refl

chain_rising : (p : ℕ × ℕ) (ps : List (ℕ × ℕ)) → is_chain p ps ≡ is_rising (p ∷ ps)
chain_rising p ps = same_truth (is_chain p ps) (is_rising (p ∷ ps)) (chain_rises p ps) (rises_chain p ps)

pub chain_slice : (ps : List (ℕ × ℕ)) → 1 ≤ length ps
    → is_chain (get_or ps 0 (0, 0)) (take (length ps - 1) (drop 1 ps)) ≡ is_rising ps
chain_slice [] l = absurd (omega (arith, l))
chain_slice (p ∷ ps) l = ap (is_chain p) (take_all (length (p ∷ ps) - 1) ps (omega arith)) ∙ chain_rising p ps

-- ---- each row is met
all_there : (ms : List Bool) → list_all (λ m. m) ms ≡ true → (i : ℕ) → i < length ms → slice_index_or ms i false ≡ true
all_there [] e i l = absurd (omega (arith, l))
all_there (m ∷ ms) e zero l = (and_parts m (list_all (λ m. m) ms) e).0
all_there (m ∷ ms) e (suc i) l = all_there ms (and_parts m (list_all (λ m. m) ms) e).1 i (omega (arith, l))

there_all : (ms : List Bool) → ((i : ℕ) → i < length ms → slice_index_or ms i false ≡ true) → list_all (λ m. m) ms ≡ true
there_all [] f = refl
there_all (m ∷ ms) f = and_both m (list_all (λ m. m) ms) (f 0 (omega arith)) (there_all ms (λ i l. f (suc i) (omega (arith, l))))

pub all_met : (ms : List Bool) (n : ℕ) (f : ℕ → Bool) → length ms ≡ n → ((i : ℕ) → i < n → slice_index_or ms i false ≡ f i)
    → IsTrue (list_all (λ m. m) ms) ↔ ((i : ℕ) → i < n → IsTrue (f i))
all_met ms n f e each = (
  (λ t i l. sym (each i l) ∙ all_there ms t i (omega (arith, e, l))),
  (λ g. there_all ms (λ i l. each i (omega (arith, e, l)) ∙ g i (omega (arith, e, l)))),
)

-- ---- a shape
abbrev pub AreMet : ℕ → Bool → List (ℕ × ℕ) → Type 0
AreMet many by_row cross = (i : ℕ) → i < many → IsTrue (list_any (λ p. nat_eq (side by_row p) i) cross)

pub shape_whole : (rows cols : ℕ) (cross : List (ℕ × ℕ)) → is_placed rows cols cross ≡ true → AreMet rows true cross
    → AreMet cols false cross → IsShape rows cols cross
shape_whole rows cols cross e f g =
    let last = and_parts (nat_lt 0 rows && nat_lt 0 cols && is_rising cross) (list_all (is_within rows cols) cross) e in
    let third = and_parts (nat_lt 0 rows && nat_lt 0 cols) (is_rising cross) last.0 in
    let second = and_parts (nat_lt 0 rows) (nat_lt 0 cols) third.0 in
    record {
      some_row = ltb-true 0 rows second.0;
      some_column = ltb-true 0 cols second.1;
      rising = third.1;
      within = last.1;
      each_row = f;
      each_column = g;
    }

-- both tests are passed by shapes alone
pub shape_by : (rows cols : ℕ) (cross : List (ℕ × ℕ)) (by_rows by_cols : Bool) → is_placed rows cols cross ≡ true
    → IsTrue by_rows ↔ AreMet rows true cross → IsTrue by_cols ↔ AreMet cols false cross
    → IsTrue (by_rows && by_cols) ↔ IsShape rows cols cross
shape_by rows cols cross by_rows by_cols e f g = (
  (λ t. let p = and_parts by_rows by_cols t in shape_whole rows cols cross e (f.0 p.0) (g.0 p.1)),
  (λ w. and_both by_rows by_cols (f.1 w.each_row) (g.1 w.each_column)),
)

-- where the first is passed, the second decides
pub shape_by_columns : (rows cols : ℕ) (cross : List (ℕ × ℕ)) (by_rows by_cols : Bool) → by_rows ≡ true
    → is_placed rows cols cross ≡ true → IsTrue by_rows ↔ AreMet rows true cross → IsTrue by_cols ↔ AreMet cols false cross
    → IsTrue by_cols ↔ IsShape rows cols cross
shape_by_columns rows cols cross true by_cols t e f g = shape_by rows cols cross true by_cols e f g
shape_by_columns rows cols cross false by_cols t e f g = absurd (cc)

-- ---- a word with two dots is no crossing
two_dots : (a b : List ℕ) (ps : List (List ℕ)) → (first : List ℕ) (more : List (List ℕ)) → ps ≡ first ∷ more
    → crossing_in (a ∷ b ∷ ps) ≡ None
two_dots a b ps first more e = ap (λ (qs : List (List ℕ)). crossing_in (a ∷ b ∷ qs)) e

pub crossing_long : (word behind more row col : List ℕ) → pieces 46 word ≡ row ∷ pieces 46 behind
    → pieces 46 behind ≡ col ∷ pieces 46 more → crossing_of word ≡ None
crossing_long word behind more row col e f =
    let c = cut 46 more in
    ap crossing_in (e ∙ ap (λ (ps : List (List ℕ)). row ∷ ps) f) ∙ two_dots row col (pieces 46 more) c.first c.more c.is
