-- The walk that prints a line at the first mark of each symbol.
use Rattle.std.proofs.Common.{◌≡◌, ◌≢◌, ℕ, ◌+◌, ◌<◌, ◌≤◌, Bool, List, [], ◌∷◌, ◌++◌, length, drop, max, get_or, refl, ap, sym, subst, ◌∙◌, arith, add-one, drop-cons, append_assoc, inl, inr}
use Rattle.std.specs.Prelude.{codes}
use Rattle.std.proofs.lemmas.List.{drop_all}
use Rattle.std.proofs.Math.Nat.{eq-or-lt_of_le}
use Rattle.cmd_tree.specs.declared.tree.Mark.{Mark}
use Rattle.cmd_tree.specs.declared.tree.Dir.{Dir}
use Rattle.cmd_tree.specs.declared.tree.Dir.TheVariants.{Input, Output}
use Rattle.cmd_tree.specs.Limits.{IsNumbered}
use Rattle.cmd_text.specs.Canonical.{sign}
use Rattle.cmd_tree.specs.Marks.{is_output}
use Rattle.net_core.specs.Specs.{gives_symbol}
use Rattle.text_lines.specs.Lines.{numbered_line}
use Rattle.di_io.specs.Printing.{Printing, prints}
use Rattle.di_io.proofs.Prints.{prints_twice, prints_none}
use Rattle.net_text.specs.NetText.{mark_sign, port_line, ports_text}
use Rattle.net_text.specs.Mirror.Ports.{PortWalk, mark_line, walk_mark, walk_marks}

pub walk_append : (names : List (List ℕ)) (w : PortWalk) (ms ns : List Mark)
    → walk_marks names w (ms ++ ns) ≡ walk_marks names (walk_marks names w ms) ns
unfolding walk_marks
walk_append names w [] ns = refl
walk_append names w (m ∷ ms) ns = walk_append names (walk_mark names w m) ms ns

pub walk_none : (names : List (List ℕ)) (w : PortWalk) → walk_marks names w [] ≡ w
unfolding walk_marks
walk_none names w = refl

-- what is still to be walked, and its first piece
pub walk_rest : (names : List (List ℕ)) (w v r : PortWalk) (now piece rest : List Mark) → now ≡ piece ++ rest
    → v ≡ walk_marks names w piece → walk_marks names w now ≡ r → walk_marks names v rest ≡ r
walk_rest names w v r now piece rest opened walked whole =
    ap (λ (a : PortWalk). walk_marks names a rest) walked ∙ sym (walk_append names w piece rest)
    ∙ ap (walk_marks names w) (sym opened) ∙ whole

-- and its first mark
pub walk_next : (names : List (List ℕ)) (w v r : PortWalk) (ms : List Mark) (i : ℕ) (d : Mark) → i < length ms
    → v ≡ walk_mark names w (get_or ms i d) → walk_marks names w (drop i ms) ≡ r
    → walk_marks names v (drop (i + 1) ms) ≡ r
unfolding walk_marks
walk_next names w v r ms i d below walked whole =
    let opened : drop i ms ≡ get_or ms i d ∷ drop (i + 1) ms = rw add-one (drop-cons ms i d below) in
    ap (λ (a : PortWalk). walk_marks names a (drop (i + 1) ms)) walked
    ∙ ap (walk_marks names w) (sym opened) ∙ whole

-- nothing is still to be walked
pub walk_end : (names : List (List ℕ)) (w r : PortWalk) (rest : List Mark) → rest ≡ []
    → walk_marks names w rest ≡ r → w ≡ r
unfolding walk_marks
walk_end names w r rest none whole = ap (walk_marks names w) (sym none) ∙ whole

pub walk_first_mark : (names : List (List ℕ)) (p : Printing) (k : ℕ) (m : Mark) → m.sym.0 ≡ k
    → walk_mark names (p, k) m ≡ (prints p (mark_line names m), k + 1)
unfolding walk_mark
walk_first_mark names p k m same = grind arith

pub walk_other_mark : (names : List (List ℕ)) (p : Printing) (k : ℕ) (m : Mark) → m.sym.0 ≢ k
    → walk_mark names (p, k) m ≡ (p, k)
unfolding walk_mark
walk_other_mark names p k m other = grind arith

-- the lines depend on the directions from the first number on alone
ports_same : (f g : ℕ → Bool) (k : ℕ) (names : List (List ℕ)) → ((i : ℕ) → k ≤ i → f i ≡ g i)
    → ports_text f k names ≡ ports_text g k names
ports_same f g k [] same = refl
ports_same f g k (name ∷ names) same =
    let here : f k ≡ g k = same k (omega arith) in
    let rest : ports_text f (k + 1) names ≡ ports_text g (k + 1) names =
    ports_same f g (k + 1) names (λ (i : ℕ) (h : k + 1 ≤ i). same i (omega arith)) in
    ap (λ (b : Bool). port_line name b k ++ ports_text f (k + 1) names) here
    ∙ ap (λ (t : List ℕ). port_line name (g k) k ++ t) rest

-- no fewer symbols are met than were
met_before : (k : ℕ) (ms : List Mark) (n : ℕ) → IsNumbered k ms n → k ≤ n
met_before k [] n h = omega (arith, h)
met_before k (m ∷ ms) n h = omega (arith, met_before (max k (m.sym.0 + 1)) ms n h.1)

gives_first : (m : Mark) (ms : List Mark) (k : ℕ) → m.sym.0 ≡ k → gives_symbol (m ∷ ms) k ≡ is_output m.dir
gives_first m ms k same = grind arith

gives_later : (m : Mark) (ms : List Mark) (k i : ℕ) → m.sym.0 < k → k ≤ i
    → gives_symbol (m ∷ ms) i ≡ gives_symbol ms i
gives_later m ms k i below above = grind arith

sign_same : (d : Dir) → sign d ≡ mark_sign (is_output d)
sign_same Input = refl
sign_same Output = refl

-- the line of the symbol k
abbrev line_of : List (List ℕ) → Mark → ℕ → List ℕ
line_of names m k = port_line (get_or names k []) (is_output m.dir) k

-- the lines of the symbols from k on, of which these are the marks
abbrev lines_from : List (List ℕ) → List Mark → ℕ → List ℕ
lines_from names ms k = ports_text (gives_symbol ms) k (drop k names)

-- a mark's line is that of its symbol
line_same : (names : List (List ℕ)) (k : ℕ) (m : Mark) → m.sym.0 ≡ k → mark_line names m ≡ line_of names m k
unfolding mark_line
line_same names k m same =
    let number : ℕ → List ℕ = λ j. numbered_line (codes " ") j in
    let name : ℕ → List ℕ = λ j. get_or names j [] in
    ap (λ (t : List ℕ). codes "port " ++ (name m.sym.0 ++ t) ++ number m.sym.0) (sign_same m.dir)
    ∙ ap (λ (j : ℕ). codes "port " ++ (name j ++ mark_sign (is_output m.dir)) ++ number j) same
    ∙ ap (λ (t : List ℕ). t ++ number k)
    (sym (append_assoc (codes "port ") (name k) (mark_sign (is_output m.dir))))

-- the first line of those that are left, and the rest
lines_next : (names : List (List ℕ)) (m : Mark) (ms : List Mark) (k : ℕ) → m.sym.0 ≡ k → k < length names
    → line_of names m k ++ lines_from names ms (k + 1) ≡ lines_from names (m ∷ ms) k
lines_next names m ms k same below =
    let opened : drop k names ≡ get_or names k [] ∷ drop (k + 1) names =
    rw add-one (drop-cons names k [] below) in
    let rest : lines_from names ms (k + 1) ≡ lines_from names (m ∷ ms) (k + 1) =
    ports_same (gives_symbol ms) (gives_symbol (m ∷ ms)) (k + 1) (drop (k + 1) names)
    (λ (i : ℕ) (h : k + 1 ≤ i). sym (gives_later m ms (k + 1) i (omega arith) h)) in
    ap (λ (b : Bool). port_line (get_or names k []) b k ++ lines_from names ms (k + 1))
    (sym (gives_first m ms k same))
    ∙ ap (λ (t : List ℕ). port_line (get_or names k []) (gives_symbol (m ∷ ms) k) k ++ t) rest
    ∙ ap (ports_text (gives_symbol (m ∷ ms)) k) (sym opened)

-- the first k symbols were met before, and all the others are met by then
abbrev all_met : List (List ℕ) → Printing → ℕ → List Mark → PortWalk
all_met names p k ms = (prints p (lines_from names ms k), length names)

walk_new : (names : List (List ℕ)) (p : Printing) (k : ℕ) (m : Mark) (ms : List Mark) → m.sym.0 ≡ k
    → k < length names
    → walk_marks names (prints p (line_of names m k), k + 1) ms
    ≡ all_met names (prints p (line_of names m k)) (k + 1) ms
    → walk_marks names (walk_mark names (p, k) m) ms ≡ all_met names p k (m ∷ ms)
walk_new names p k m ms same below rest =
    let met : walk_mark names (p, k) m ≡ (prints p (line_of names m k), k + 1) =
    walk_first_mark names p k m same ∙ ap (λ (t : List ℕ). (prints p t, k + 1)) (line_same names k m same) in
    let lines = lines_next names m ms k same below in
    ap (λ (w : PortWalk). walk_marks names w ms) met ∙ rest
    ∙ ap (λ (q : Printing). (q, length names))
    (prints_twice p (line_of names m k) (lines_from names ms (k + 1)) ∙ ap (prints p) lines)

walk_known : (names : List (List ℕ)) (p : Printing) (k : ℕ) (m : Mark) (ms : List Mark) → m.sym.0 < k
    → walk_marks names (p, k) ms ≡ all_met names p k ms
    → walk_marks names (walk_mark names (p, k) m) ms ≡ all_met names p k (m ∷ ms)
walk_known names p k m ms below rest =
    let same : lines_from names ms k ≡ lines_from names (m ∷ ms) k =
    ports_same (gives_symbol ms) (gives_symbol (m ∷ ms)) k (drop k names)
    (λ (i : ℕ) (h : k ≤ i). sym (gives_later m ms k i below h)) in
    ap (λ (w : PortWalk). walk_marks names w ms) (walk_other_mark names p k m (omega arith)) ∙ rest
    ∙ ap (λ (t : List ℕ). (prints p t, length names)) same

-- the lines of the symbols that were not met before are printed
pub walk_all : (names : List (List ℕ)) (p : Printing) (k : ℕ) (ms : List Mark)
    → IsNumbered k ms (length names) → walk_marks names (p, k) ms ≡ all_met names p k ms
unfolding walk_marks
walk_all names p k [] h =
    let none : drop k names ≡ [] = drop_all k names (omega (arith, h)) in
    let nothing : prints p (lines_from names [] k) ≡ p =
    ap (λ (ns : List (List ℕ)). prints p (ports_text (gives_symbol []) k ns)) none ∙ prints_none p in
    ap (λ (q : Printing). (q, k)) (sym nothing) ∙ ap (λ (n : ℕ). (prints p (lines_from names [] k), n)) h
walk_all names p k (m ∷ ms) h =
    let P : ℕ → Type 0 = λ j. IsNumbered j ms (length names) in
    elim (eq-or-lt_of_le h.0) [
      | inl same ↦
          let grows : max k (m.sym.0 + 1) ≡ k + 1 = omega arith in
          let later : IsNumbered (k + 1) ms (length names) = subst P grows h.1 in
          walk_new names p k m ms same (omega (arith, met_before (k + 1) ms (length names) later))
          (walk_all names (prints p (line_of names m k)) (k + 1) ms later)
      | inr below ↦
          let stays : max k (m.sym.0 + 1) ≡ k = omega arith in
          walk_known names p k m ms below (walk_all names p k ms (subst P stays h.1))
    ]
