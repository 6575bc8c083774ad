-- Parts that are added to what is gathered of a sentence.
use Rattle.std.proofs.Common.{◌≡◌, ℕ, ◌+◌, List, [], ◌∷◌, ◌++◌, map, length, refl, sym, ap, ◌∙◌, arith, append_assoc, append-nil, length-append, subst}
use Rattle.cmd_tree.specs.declared.tree.Proc.{Proc}
use Rattle.cmd_tree.specs.Limits.{marks_of_proc, places_of_all}
use Rattle.cmd_rename.specs.Renaming.{ren_all}
use Rattle.cmd_rename.specs.Symbols.{symbols_in, put_each, symbols_of}
use Rattle.cmd_rename.proofs.Laws.{symbols_places, places_of_both, ren_places, ren_length}
use Rattle.cmd_rename.proofs.Orders.{symbols_added, symbols_joined}
use Rattle.cmd_expand.specs.declared.plan.Part.{Part}
use Rattle.cmd_expand.specs.declared.plan.Line.{Line}
use Rattle.cmd_expand.specs.declared.plan.Draft.{Draft}
use Rattle.cmd_expand.specs.Mirror.Plan.{procs_of_part, procs_of_parts, IsLine, IsDraft, Added}

pub parts_both : (ms : List (List Proc)) (xs ys : List Part) → procs_of_parts ms (xs ++ ys) ≡ procs_of_parts ms xs ++ procs_of_parts ms ys
parts_both ms [] ys = refl
parts_both ms (x ∷ xs) ys = ap (λ u. procs_of_part ms x ++ u) (parts_both ms xs ys) ∙ sym (append_assoc (procs_of_part ms x) (procs_of_parts ms xs) (procs_of_parts ms ys))

pub added_by : (ms : List (List Proc)) (d e : Draft) (q : Part) → e.parts.items ≡ d.parts.items ++ q ∷ []
    → e.symbols.items ≡ symbols_of (procs_of_parts ms d.parts.items ++ procs_of_part ms q) → e.procs ≡ length (procs_of_parts ms d.parts.items ++ procs_of_part ms q)
    → e.places ≡ places_of_all (procs_of_parts ms d.parts.items ++ procs_of_part ms q) → Added ms d e (procs_of_part ms q)
added_by ms d e q h s p n =
    let same : procs_of_parts ms e.parts.items ≡ procs_of_parts ms d.parts.items ++ procs_of_part ms q
    = ap (procs_of_parts ms) h ∙ parts_both ms d.parts.items (q ∷ []) ∙ ap (λ u. procs_of_parts ms d.parts.items ++ u) (append-nil (procs_of_part ms q)) in
    record {
      draft = record { symbols = s ∙ ap symbols_of (sym same); procs = p ∙ ap length (sym same); places = n ∙ ap places_of_all (sym same) };
      procs = same;
    }

one_symbols : (ps : List Proc) (p : Proc) → put_each (symbols_of ps) (symbols_in (marks_of_proc p)) ≡ symbols_of (ps ++ p ∷ [])
one_symbols ps p = ap (λ u. put_each (symbols_of ps) (symbols_in u)) (sym (append-nil (marks_of_proc p))) ∙ symbols_joined ps (p ∷ [])

one_places : (ps : List Proc) (p : Proc) → places_of_all (ps ++ p ∷ []) ≡ places_of_all ps + length (symbols_in (marks_of_proc p))
one_places ps p = omega (arith, places_of_both ps (p ∷ []), symbols_places p)

pub own_added : (ms : List (List Proc)) (d e : Draft) (q : Part) (p : Proc) (symbols : List ℕ) → procs_of_part ms q ≡ p ∷ [] → e.parts.items ≡ d.parts.items ++ q ∷ []
    → symbols ≡ symbols_in (marks_of_proc p) → e.symbols.items ≡ put_each d.symbols.items symbols → e.procs ≡ d.procs + 1 → e.places ≡ d.places + length symbols → IsDraft ms d → Added ms d e (p ∷ [])
own_added ms d e q p symbols one h s a b c i =
    let ps = procs_of_parts ms d.parts.items in
    let x : e.symbols.items ≡ symbols_of (ps ++ p ∷ []) = a ∙ (λ k. put_each (i.symbols k) (s k)) ∙ one_symbols ps p in
    let y : e.procs ≡ length (ps ++ p ∷ []) = b ∙ ap (λ u. u + 1) i.procs ∙ sym (length-append ps (p ∷ [])) in
    let z : e.places ≡ places_of_all (ps ++ p ∷ []) = c ∙ (λ k. i.places k + length (s k)) ∙ sym (one_places ps p) in
    subst (λ u. Added ms d e u) one (added_by ms d e q h (x ∙ ap (λ u. symbols_of (ps ++ u)) (sym one)) (y ∙ ap (λ u. length (ps ++ u)) (sym one)) (z ∙ ap (λ u. places_of_all (ps ++ u)) (sym one)))

use_length : (f : ℕ → ℕ) (ps qs : List Proc) → length (ps ++ ren_all f qs) ≡ length ps + length qs
use_length f ps qs = length-append ps (ren_all f qs) ∙ ap (λ u. length ps + u) (ren_length f qs)

use_places : (f : ℕ → ℕ) (ps qs : List Proc) → places_of_all (ps ++ ren_all f qs) ≡ places_of_all ps + places_of_all qs
use_places f ps qs = places_of_both ps (ren_all f qs) ∙ ap (λ u. places_of_all ps + u) (ren_places f qs)

-- the definition qs, whose line is l, under the renaming f
pub use_added : (ms : List (List Proc)) (d e : Draft) (q : Part) (f : ℕ → ℕ) (qs : List Proc) (l : Line) (n : ℕ) (fresh : List ℕ) → procs_of_part ms q ≡ ren_all f qs → IsLine ms n l qs
    → e.parts.items ≡ d.parts.items ++ q ∷ [] → fresh ≡ map f l.symbols.items → e.symbols.items ≡ put_each d.symbols.items fresh → e.procs ≡ d.procs + l.procs → e.places ≡ d.places + l.places
    → IsDraft ms d → Added ms d e (ren_all f qs)
use_added ms d e q f qs l n fresh one line h s a b c i =
    let ps = procs_of_parts ms d.parts.items in
    let x : e.symbols.items ≡ symbols_of (ps ++ ren_all f qs) = a ∙ (λ k. put_each (i.symbols k) ((s ∙ ap (map f) line.symbols) k)) ∙ symbols_added f ps qs in
    let y : e.procs ≡ length (ps ++ ren_all f qs) = b ∙ (λ k. i.procs k + line.procs k) ∙ sym (use_length f ps qs) in
    let z : e.places ≡ places_of_all (ps ++ ren_all f qs) = c ∙ (λ k. i.places k + line.places k) ∙ sym (use_places f ps qs) in
    subst (λ u. Added ms d e u) one (added_by ms d e q h (x ∙ ap (λ u. symbols_of (ps ++ u)) (sym one)) (y ∙ ap (λ u. length (ps ++ u)) (sym one)) (z ∙ ap (λ u. places_of_all (ps ++ u)) (sym one)))
