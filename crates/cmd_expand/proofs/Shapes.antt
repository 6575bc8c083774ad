-- A line that is one use has the processes of a line before it under other symbols.
use Rattle.std.proofs.Common.{◌≡◌, ℕ, zero, suc, ◌+◌, ◌<◌, ◌≤◌, Bool, true, false, ◌||◌, List, [], ◌∷◌, ◌++◌, map, length, get_or, take, drop, ◌-◌, min, refl, sym, ap, ◌∙◌, arith, subst, append-nil, append_assoc, eqb-true}
use Rattle.std.specs.Prelude.{IsTrue, nat_eq, if◌then◌else◌}
use Rattle.std.specs.List.{AllByRecursion}
use Rattle.std.proofs.lemmas.List.{length-map, map-append, take_more, drop_more}
use Rattle.cmd_tree.specs.declared.tree.Proc.{Proc}
use Rattle.cmd_tree.specs.Limits.{marks_of_all}
use Rattle.cmd_tree.specs.Lists.{is_in}
use Rattle.cmd_rename.specs.Renaming.{ren_proc, ren_all}
use Rattle.cmd_rename.specs.Symbols.{symbols_in, put_each, symbols_of, rank, renumbered, counted}
use Rattle.cmd_rename.proofs.Laws.{ren_twice, ren_agree}
use Rattle.cmd_rename.proofs.Numbering.{ranks}
use Rattle.cmd_rename.proofs.Orders.{symbols_added, each_apart, in_each}
use Rattle.cmd_expand.specs.declared.plan.Part.{Part}
use Rattle.cmd_expand.specs.declared.plan.Line.{Line}
use Rattle.cmd_expand.specs.Mirror.Plan.{assigned, procs_of_part, procs_of_parts, IsShape, own, other, IsLine, AreLines}
use Rattle.cmd_expand.specs.Mirror.Pieces.{numbered_by, procs_of_stack, procs_of_piece, IsPieceBelow}
use Rattle.cmd_expand.specs.declared.unfolding.Piece.{Piece}

map_both : {A B C : Type 0} → (f : A → B) (g : B → C) (xs : List A) → map g (map f xs) ≡ map (λ x. g (f x)) xs
map_both f g [] = refl
map_both f g (x ∷ xs) = ap (λ u. g (f x) ∷ u) (map_both f g xs)

-- as many symbols as before: none were merged
apart_symbols : (f : ℕ → ℕ) (qs : List Proc) → length (symbols_of (ren_all f qs)) ≡ length (symbols_of qs) → symbols_of (ren_all f qs) ≡ map f (symbols_of qs)
apart_symbols f qs h =
    let e : put_each [] (map f (symbols_of qs)) ≡ symbols_of (ren_all f qs) = symbols_added f [] qs in
    sym e ∙ each_apart [] (map f (symbols_of qs)) (ap length e ∙ h ∙ sym (length-map (symbols_of qs) f) ∙ none (length (map f (symbols_of qs))))
  where
    none : (n : ℕ) → n ≡ 0 + n
    none n = omega arith

composed : (ms : List (List Proc)) (n of shape : ℕ) → IsShape ms of (get_or ms of []) shape → of < n → (f : ℕ → ℕ) (ps : List Proc) → ps ≡ ren_all f (get_or ms of []) → symbols_of ps ≡ map f (symbols_of (get_or ms of [])) → IsShape ms n ps shape
composed ms n of _ own l f ps e s = other of l f e s
composed ms n of _ (other shape k h d t) l f ps e s =
    other shape (omega (arith, k, l)) (λ a. f (h a)) (e ∙ ap (ren_all f) d ∙ ren_twice h f (get_or ms shape [])) (s ∙ ap (map f) t ∙ map_both h f (symbols_of (get_or ms shape [])))

pub shape_use : (ms : List (List Proc)) (ls : List Line) (part : Part) (f : ℕ → ℕ) (of symbols : ℕ) (line : Line) → procs_of_part ms part ≡ ren_all f (get_or ms of []) → AreLines ms ls
    → symbols ≡ length (symbols_of (procs_of_parts ms (part ∷ []))) → of < length ls → line ≡ get_or ls of line → length line.symbols.items ≡ symbols → IsShape ms (length ls) (procs_of_parts ms (part ∷ [])) line.shape
shape_use ms ls part f of symbols line one a s l h n =
    let qs = get_or ms of [] in
    let at : IsLine ms of line qs = subst (λ u. IsLine ms of u qs) (sym h) (a.line of line l) in
    let same : procs_of_parts ms (part ∷ []) ≡ ren_all f qs = append-nil (procs_of_part ms part) ∙ one in
    let many : length (symbols_of (ren_all f qs)) ≡ length (symbols_of qs) = ap (λ u. length (symbols_of u)) (sym same) ∙ sym s ∙ sym n ∙ ap length at.symbols in
    composed ms (length ls) of line.shape at.shape l f (procs_of_parts ms (part ∷ [])) same (ap symbols_of same ∙ apart_symbols f qs many)

-- ---- numbers by position
assigned_map : (f : ℕ → ℕ) (xs : List ℕ) (a : ℕ) → IsTrue (is_in a xs) → assigned xs (map f xs) a ≡ f a
assigned_map f [] a h = absurd (cc)
assigned_map f (x ∷ xs) a h = by (nat_eq a x) refl h (λ k. assigned_map f xs a k)
  where
    by : (b : Bool) → nat_eq a x ≡ b → IsTrue (b || is_in a xs) → (IsTrue (is_in a xs) → assigned xs (map f xs) a ≡ f a) → (if b then f x else assigned xs (map f xs) a) ≡ f a
    by true e k g = ap f (sym (eqb-true a x e))
    by false e k g = g k

pub numbered_map : (f : ℕ → ℕ) (ps : List Proc) → numbered_by ps (map f (symbols_of ps)) ≡ ren_all f ps
numbered_map f ps = ren_agree (assigned (symbols_of ps) (map f (symbols_of ps))) f ps (λ a h. assigned_map f (symbols_of ps) a (in_each [] (symbols_in (marks_of_all ps)) a h))

unfolded : (ms : List (List Proc)) (of shape : ℕ) → IsShape ms of (get_or ms of []) shape → (q : ℕ → ℕ) (ns : List ℕ) → ns ≡ map q (symbols_of (get_or ms of [])) → numbered_by (get_or ms shape []) ns ≡ ren_all q (get_or ms of [])
unfolded ms of _ own q ns e = ap (numbered_by (get_or ms of [])) e ∙ numbered_map q (get_or ms of [])
unfolded ms of _ (other shape k h d t) q ns e =
    let ps = get_or ms shape [] in
    ap (numbered_by ps) (e ∙ ap (map q) t ∙ map_both h q (symbols_of ps)) ∙ numbered_map (λ a. q (h a)) ps ∙ sym (ren_twice h q ps) ∙ ap (ren_all q) (sym d)

pub use_unfolded : (ms : List (List Proc)) (ls : List Line) (of : ℕ) (line : Line) (f g : ℕ → ℕ) (ns : List ℕ) → AreLines ms ls → of < length ls → line ≡ get_or ls of line
    → ns ≡ map (λ a. g (f a)) line.symbols.items → numbered_by (get_or ms line.shape []) ns ≡ ren_all g (ren_all f (get_or ms of []))
use_unfolded ms ls of line f g ns a l h e =
    let at : IsLine ms of line (get_or ms of []) = subst (λ u. IsLine ms of u (get_or ms of [])) (sym h) (a.line of line l) in
    unfolded ms of line.shape at.shape (λ x. g (f x)) ns (e ∙ ap (map (λ x. g (f x))) at.symbols) ∙ sym (ren_twice f g (get_or ms of []))

-- the line itself, by its shape
pub line_unfolded : (ms : List (List Proc)) (ls : List Line) (of : ℕ) (line : Line) (q : ℕ → ℕ) (ns : List ℕ) → AreLines ms ls → of < length ls → line ≡ get_or ls of line
    → ns ≡ map q line.symbols.items → numbered_by (get_or ms line.shape []) ns ≡ ren_all q (get_or ms of [])
line_unfolded ms ls of line q ns a l h e =
    let at : IsLine ms of line (get_or ms of []) = subst (λ u. IsLine ms of u (get_or ms of [])) (sym h) (a.line of line l) in
    unfolded ms of line.shape at.shape q ns (e ∙ ap (map q) at.symbols)

pub assigned_end : (xs ns : List ℕ) (m : ℕ) (a : ℕ) → min (length xs) (length ns) ≤ m → assigned (drop m xs) (drop m ns) a ≡ 0
assigned_end [] ns zero a h = refl
assigned_end [] ns (suc m) a h = refl
assigned_end (x ∷ xs) [] zero a h = refl
assigned_end (x ∷ xs) [] (suc m) a h = by (drop m xs)
  where
    by : (us : List ℕ) → assigned us [] a ≡ 0
    by [] = refl
    by (u ∷ us) = refl
assigned_end (x ∷ xs) (n ∷ ns) zero a h = absurd (omega arith)
assigned_end (x ∷ xs) (n ∷ ns) (suc m) a h = assigned_end xs ns m a (omega arith)

pub stack_pushed : (ms : List (List Proc)) (ps : List Piece) (q : Piece) → procs_of_stack ms (ps ++ q ∷ []) ≡ procs_of_piece ms q ++ procs_of_stack ms ps
stack_pushed ms [] q = sym (append-nil (procs_of_piece ms q))
stack_pushed ms (p ∷ ps) q = ap (λ u. u ++ procs_of_piece ms p) (stack_pushed ms ps q) ∙ append_assoc (procs_of_piece ms q) (procs_of_stack ms ps) (procs_of_piece ms p)

pub parts_more : (ms : List (List Proc)) (g : ℕ → ℕ) (parts : List Part) (left : ℕ) (part : Part) → 0 < left → left ≤ length parts → part ≡ get_or parts (left - 1) part
    → ren_all g (procs_of_part ms part) ++ ren_all g (procs_of_parts ms (drop left parts)) ≡ ren_all g (procs_of_parts ms (drop (left - 1) parts))
parts_more ms g parts left part l f h =
    let next : (left - 1) + 1 ≡ left = omega (arith, l) in
    let e : drop (left - 1) parts ≡ part ∷ drop left parts = drop_more parts (left - 1) part (omega (arith, l, f)) ∙ (λ k. sym h k ∷ drop (next k) parts) in
    sym (map-append (ren_proc g) (procs_of_part ms part) (procs_of_parts ms (drop left parts))) ∙ ap (λ u. ren_all g (procs_of_parts ms u)) (sym e)

pub map_more : (f : ℕ → ℕ) (xs : List ℕ) (i d : ℕ) → i < length xs → map f (take (i + 1) xs) ≡ map f (take i xs) ++ f (get_or xs i d) ∷ []
map_more f xs i d h = ap (map f) (take_more xs i d h) ∙ map-append f (take i xs) (get_or xs i d ∷ [])

pub stack_taken : (ms : List (List Proc)) (ps qs : List Piece) (q : Piece) (xs ys zs w : List Proc) → ps ≡ qs ++ q ∷ [] → procs_of_piece ms q ≡ zs → ys ≡ xs ++ zs → xs ++ procs_of_stack ms ps ≡ w → ys ++ procs_of_stack ms qs ≡ w
stack_taken ms ps qs q xs ys zs w e o y h =
    ap (λ u. u ++ procs_of_stack ms qs) y ∙ append_assoc xs zs (procs_of_stack ms qs) ∙ ap (λ u. xs ++ (u ++ procs_of_stack ms qs)) (sym o)
    ∙ ap (λ u. xs ++ u) (sym (stack_pushed ms qs q) ∙ ap (procs_of_stack ms) (sym e)) ∙ h

both_below : (n : ℕ) (qs : List Piece) (q : Piece) → AllByRecursion (IsPieceBelow n) (qs ++ q ∷ []) → AllByRecursion (IsPieceBelow n) qs × IsPieceBelow n q
both_below n [] q h = (tt, h.0)
both_below n (p ∷ qs) q h = let r = both_below n qs q h.1 in ((h.0, r.0), r.1)

pub last_below : (n : ℕ) (ps qs : List Piece) (q : Piece) → ps ≡ qs ++ q ∷ [] → AllByRecursion (IsPieceBelow n) ps → AllByRecursion (IsPieceBelow n) qs × IsPieceBelow n q
last_below n ps qs q e h = both_below n qs q (subst (λ (u : List Piece). AllByRecursion (IsPieceBelow n) u) e h)

pub line_symbols : (ms : List (List Proc)) (ls : List Line) (of : ℕ) (line : Line) → AreLines ms ls → of < length ls → line ≡ get_or ls of line → line.symbols.items ≡ symbols_of (get_or ms of [])
line_symbols ms ls of line a l h = (subst (λ u. IsLine ms of u (get_or ms of [])) (sym h) (a.line of line l)).symbols

pub main_unfolded : (ms : List (List Proc)) (ls : List Line) (of : ℕ) (line : Line) (ns : List ℕ) → AreLines ms ls → of < length ls → line ≡ get_or ls of line → ns ≡ counted (length line.symbols.items)
    → numbered_by (get_or ms line.shape []) ns ≡ renumbered (get_or ms of [])
main_unfolded ms ls of line ns a l h e =
    let ps = get_or ms of [] in
    let s = line_symbols ms ls of line a l h in
    line_unfolded ms ls of line (rank (symbols_of ps)) ns a l h (e ∙ ap (λ u. counted (length u)) s ∙ sym (ranks ps) ∙ ap (map (rank (symbols_of ps))) (sym s))
