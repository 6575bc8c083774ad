-- The names of a text of `main` alone are numbered by first occurrence in its processes, and are names.
use Rattle.std.proofs.Common.{◌≡◌, ℕ, suc, ◌+◌, ◌≤◌, ◌<◌, Bool, true, false, ◌||◌, List, [], ◌∷◌, ◌++◌, map, length, max, Option, Some, None, refl, sym, ◌∙◌, ap, subst, arith, append_assoc, append-nil}
use Rattle.std.specs.Prelude.{⊤, IsTrue, if◌then◌else◌}
use Rattle.std.specs.List.{AllByRecursion}
use Rattle.std.specs.Str.{bytes_eq}
use Rattle.std.proofs.lemmas.Slice.Eq.{bytes_eq-Decides}
use Rattle.indexmap.specs.IndexSet.{insert_key}
use Rattle.cmd_tree.specs.declared.tree.Dir.{Dir}
use Rattle.cmd_tree.specs.declared.tree.Dir.TheVariants.{Input, Output}
use Rattle.cmd_tree.specs.declared.tree.Mark.{Mark}
use Rattle.cmd_tree.specs.Tree.{TItem, TSeq, TSeqs, TBurst, TAlt, Stop, Or, Done, Then, marks_of, marks_in, marks_among}
use Rattle.cmd_tree.specs.Limits.{of_part, marks_of_proc, marks_of_all, IsNumbered, is_name}
use Rattle.cmd_text.specs.Token.{Token, Main, Pref, Define, Dot, Semi, Bar, Open, Close, LeftSq, RightSq, Star, Ask, Bang, End, Word}
use Rattle.cmd_text.specs.Process.{sign_of, mark, more_marks, burst, seq, more, item, among, more_among, process, body_of, Written, proc_of}
use Rattle.cmd_text.specs.Names.{name_in, number_in, with_word, noted, names_after}
use Rattle.cmd_text.specs.File.{Placed}
use Rattle.cmd_text.specs.Text.{tokens, IsWord, IsToken}
use Rattle.cmd_text.proofs.FileSound.{all-push}
use Rattle.cmd_text.proofs.NamesKept.{true_false, is_in, in_inserted, Grew, Apart, member-number, number_name}
use Rattle.cmd_text.proofs.MainTokens.{more_written, all_written}

-- ---- a token that is no word leaves nothing to be noted
abbrev IsSign : Token → Type 0
IsSign (Word n) = ⊥
IsSign x = ⊤

sign_word : (ns : List (List ℕ)) (p : Token) → IsSign p → with_word ns p ≡ ns
sign_word ns (Word n) h = absurd h
sign_word ns p h = refl

sign_noted : (ns : List (List ℕ)) (p x : Token) → IsSign p → noted ns p x ≡ noted ns Dot x
sign_noted ns p Ask h = sign_word ns p h
sign_noted ns p Bang h = sign_word ns p h
sign_noted ns p x h = refl

passed : (ns : List (List ℕ)) (p : Token) (r : List Token) → IsSign p → names_after ns p r ≡ names_after ns Dot r
passed ns p [] h = refl
passed ns p (x ∷ r) h = ap (λ u. names_after u x r) (sign_noted ns p x h)

module _ (name : ℕ → List ℕ) where
  -- the names after these marks
  abbrev pub learned : List (List ℕ) → List Mark → List (List ℕ)
  learned ns [] = ns
  learned ns (m ∷ ms) = learned (insert_key bytes_eq ns (name m.sym.0)) ms

  learned_both : (ms ks : List Mark) (ns : List (List ℕ)) → learned ns (ms ++ ks) ≡ learned (learned ns ms) ks
  learned_both [] ks ns = refl
  learned_both (m ∷ ms) ks ns = learned_both ms ks (insert_key bytes_eq ns (name m.sym.0))

  sign_hears : (d : Dir) (n : List ℕ) (ns : List (List ℕ)) (r : List Token) → names_after ns (Word n) (sign_of d ∷ r) ≡ names_after (insert_key bytes_eq ns n) Dot r
  sign_hears Input n ns r = passed (insert_key bytes_eq ns n) Ask r tt
  sign_hears Output n ns r = passed (insert_key bytes_eq ns n) Bang r tt

  mark_hears : (m : Mark) (ns : List (List ℕ)) (r : List Token) → names_after ns Dot (mark name m r) ≡ names_after (insert_key bytes_eq ns (name m.sym.0)) Dot r
  mark_hears m ns r = sign_hears m.dir (name m.sym.0) ns r

  marks_hear : (ms : List Mark) (ns : List (List ℕ)) (r : List Token) → names_after ns Dot (more_marks name ms r) ≡ names_after (learned ns ms) Dot r
  marks_hear [] ns r = refl
  marks_hear (m ∷ ms) ns r = mark_hears m ns (more_marks name ms r) ∙ marks_hear ms (insert_key bytes_eq ns (name m.sym.0)) r

  burst_hears : (ms : List Mark) (ns : List (List ℕ)) (r : List Token) → names_after ns Dot (burst name ms r) ≡ names_after (learned ns ms) Dot r
  burst_hears [] ns r = refl
  burst_hears (m ∷ []) ns r = mark_hears m ns r
  burst_hears (m ∷ k ∷ ms) ns r = mark_hears m ns (more_marks name (k ∷ ms) (Close ∷ r))
      ∙ marks_hear (k ∷ ms) (insert_key bytes_eq ns (name m.sym.0)) (Close ∷ r)
      ∙ passed (learned ns (m ∷ k ∷ ms)) Close r tt

  -- the names after two parts
  two : (ms ks : List Mark) (ns : List (List ℕ)) (r : List Token) → names_after (learned (learned ns ms) ks) Dot r ≡ names_after (learned ns (ms ++ ks)) Dot r
  two ms ks ns r = ap (λ u. names_after u Dot r) (sym (learned_both ms ks ns))

  mutual
    seq_hears : (s : TSeq) (ns : List (List ℕ)) (r : List Token) → names_after ns Dot (seq name s r) ≡ names_after (learned ns (marks_of s)) Dot r
    seq_hears Done ns r = refl
    seq_hears (Then i s) ns r = item_hears i ns (more name s r) ∙ more_hears s (learned ns (marks_in i)) r ∙ two (marks_in i) (marks_of s) ns r

    more_hears : (s : TSeq) (ns : List (List ℕ)) (r : List Token) → names_after ns Dot (more name s r) ≡ names_after (learned ns (marks_of s)) Dot r
    more_hears Done ns r = refl
    more_hears (Then i s) ns r = passed ns Semi (item name i (more name s r)) tt
        ∙ item_hears i ns (more name s r) ∙ more_hears s (learned ns (marks_in i)) r ∙ two (marks_in i) (marks_of s) ns r

    item_hears : (i : TItem) (ns : List (List ℕ)) (r : List Token) → names_after ns Dot (item name i r) ≡ names_after (learned ns (marks_in i)) Dot r
    item_hears (TBurst ms) ns r = burst_hears ms ns r
    item_hears (TAlt ss) ns r = passed ns Open (among name ss (Close ∷ r)) tt ∙ among_hears ss ns (Close ∷ r) ∙ passed (learned ns (marks_among ss)) Close r tt

    among_hears : (ss : TSeqs) (ns : List (List ℕ)) (r : List Token) → names_after ns Dot (among name ss r) ≡ names_after (learned ns (marks_among ss)) Dot r
    among_hears Stop ns r = refl
    among_hears (Or s ss) ns r = seq_hears s ns (more_among name ss r) ∙ more_among_hears ss (learned ns (marks_of s)) r ∙ two (marks_of s) (marks_among ss) ns r

    more_among_hears : (ss : TSeqs) (ns : List (List ℕ)) (r : List Token) → names_after ns Dot (more_among name ss r) ≡ names_after (learned ns (marks_among ss)) Dot r
    more_among_hears Stop ns r = refl
    more_among_hears (Or s ss) ns r = passed ns Bar (seq name s (more_among name ss r)) tt
        ∙ seq_hears s ns (more_among name ss r) ∙ more_among_hears ss (learned ns (marks_of s)) r ∙ two (marks_of s) (marks_among ss) ns r

  body_marks : (body : TSeqs) → marks_among body ≡ marks_of (body_of body)
  body_marks Stop = refl
  body_marks (Or s Stop) = append-nil (marks_of s)
  body_marks (Or s (Or t ss)) = sym (append-nil (marks_among (Or s (Or t ss))))

  star_hears : (body : TSeqs) (ns : List (List ℕ)) (r : List Token) → names_after ns Dot (Star ∷ LeftSq ∷ among name body (RightSq ∷ r)) ≡ names_after (learned ns (marks_of (body_of body))) Dot r
  star_hears body ns r = passed ns LeftSq (among name body (RightSq ∷ r)) tt ∙ among_hears body ns (RightSq ∷ r) ∙ passed (learned ns (marks_among body)) RightSq r tt
      ∙ ap (λ u. names_after (learned ns u) Dot r) (body_marks body)

  process_hears : (lead : Option TSeq) (body : TSeqs) (ns : List (List ℕ)) (r : List Token) → names_after ns Dot (process name lead body r) ≡ names_after (learned ns (of_part [] marks_of lead ++ marks_of (body_of body))) Dot r
  process_hears None body ns r = star_hears body ns r
  process_hears (Some l) body ns r = passed ns LeftSq (seq name l (Semi ∷ Star ∷ LeftSq ∷ among name body (RightSq ∷ RightSq ∷ r))) tt
      ∙ seq_hears l ns (Semi ∷ Star ∷ LeftSq ∷ among name body (RightSq ∷ RightSq ∷ r))
      ∙ star_hears body (learned ns (marks_of l)) (RightSq ∷ r)
      ∙ passed (learned (learned ns (marks_of l)) (marks_of (body_of body))) RightSq r tt
      ∙ two (marks_of l) (marks_of (body_of body)) ns r

  more_written_hear : (ws : List Written) (ns : List (List ℕ)) (r : List Token) → names_after ns Dot (more_written name ws r) ≡ names_after (learned ns (marks_of_all (map proc_of ws))) Dot r
  more_written_hear [] ns r = refl
  more_written_hear (w ∷ ws) ns r = passed ns Pref (process name w.lead w.body (more_written name ws r)) tt
      ∙ process_hears w.lead w.body ns (more_written name ws r)
      ∙ more_written_hear ws (learned ns (marks_of_proc (proc_of w))) r
      ∙ two (marks_of_proc (proc_of w)) (marks_of_all (map proc_of ws)) ns r

  written_hear : (ws : List Written) (ns : List (List ℕ)) (r : List Token) → names_after ns Dot (all_written name ws r) ≡ names_after (learned ns (marks_of_all (map proc_of ws))) Dot r
  written_hear [] ns r = refl
  written_hear (w ∷ ws) ns r = more_written_hear (w ∷ ws) ns r

  pub main_hears : (ws : List Written) → names_after [] End (Main ∷ Define ∷ all_written name ws (Dot ∷ End ∷ [])) ≡ learned [] (marks_of_all (map proc_of ws))
  main_hears ws = passed [] Define (all_written name ws (Dot ∷ End ∷ [])) tt ∙ written_hear ws [] (Dot ∷ End ∷ [])

  -- ---- names only grow
  grew_insert : (ns : List (List ℕ)) (n : List ℕ) (b : Bool) → Grew ns (if b then ns else ns ++ n ∷ [])
  grew_insert ns n true = record { more = []; is = sym (append-nil ns) }
  grew_insert ns n false = record { more = n ∷ []; is = refl }

  grew_then : (ns ms ks : List (List ℕ)) → Grew ns ms → Grew ms ks → Grew ns ks
  grew_then ns ms ks g h = record { more = g.more ++ h.more; is = h.is ∙ ap (λ u. u ++ h.more) g.is ∙ append_assoc ns g.more h.more }

  grew_learned : (ms : List Mark) (ns : List (List ℕ)) → Grew ns (learned ns ms)
  grew_learned [] ns = record { more = []; is = sym (append-nil ns) }
  grew_learned (m ∷ ms) ns = grew_then ns (insert_key bytes_eq ns (name m.sym.0)) (learned ns (m ∷ ms)) (grew_insert ns (name m.sym.0) (is_in (name m.sym.0) ns)) (grew_learned ms (insert_key bytes_eq ns (name m.sym.0)))

-- ---- the number of a name that is there, and of a new one
below_by : (ms : List (List ℕ)) (n : List ℕ) (b : Bool) → (is_in n ms ≡ true → number_in ms n < length ms) → (b || is_in n ms) ≡ true → (if b then 0 else suc (number_in ms n)) < suc (length ms)
below_by ms n true f h = omega arith
below_by ms n false f h = omega (arith, f h)

below : (ns : List (List ℕ)) (n : List ℕ) → is_in n ns ≡ true → number_in ns n < length ns
below [] n h = true_false (sym h)
below (m ∷ ms) n h = below_by ms n (bytes_eq n m) (λ g. below ms n g) h

eq_self : (n : List ℕ) → bytes_eq n n ≡ true
eq_self n = (bytes_eq-Decides n n).1 refl

last_by : (ms : List (List ℕ)) (n : List ℕ) (b : Bool) → (is_in n ms ≡ false → number_in (ms ++ n ∷ []) n ≡ length ms) → (b || is_in n ms) ≡ false → (if b then 0 else suc (number_in (ms ++ n ∷ []) n)) ≡ suc (length ms)
last_by ms n true f h = true_false h
last_by ms n false f h = ap suc (f h)

last_number : (ns : List (List ℕ)) (n : List ℕ) → is_in n ns ≡ false → number_in (ns ++ n ∷ []) n ≡ length ns
last_number [] n h = ap (λ b. if b then 0 else suc (number_in [] n)) (eq_self n)
last_number (m ∷ ms) n h = last_by ms n (bytes_eq n m) (λ g. last_number ms n g) h

pub push_length : (ns : List (List ℕ)) (n : List ℕ) → length (ns ++ n ∷ []) ≡ length ns + 1
push_length [] n = refl
push_length (m ∷ ns) n = ap suc (push_length ns n) ∙ (omega arith)

-- a mark of the number s comes after k names
old_next : (k s n : ℕ) (ms : List Mark) → s < k → IsNumbered k ms n → (s ≤ k) × IsNumbered (max k (s + 1)) ms n
old_next k s n ms l h = let e : k ≡ max k (s + 1) = omega (arith, l) in (omega (arith, l), subst (λ u. IsNumbered u ms n) e h)

new_next : (k s j n : ℕ) (ms : List Mark) → s ≡ k → j ≡ k + 1 → IsNumbered j ms n → (s ≤ k) × IsNumbered (max k (s + 1)) ms n
new_next k s j n ms e f h = let g : j ≡ max k (s + 1) = omega (arith, e, f) in (omega (arith, e), subst (λ u. IsNumbered u ms n) g h)

numbered : (names : List (List ℕ)) → Apart names → (ms : List Mark) (ns : List (List ℕ)) → learned (name_in names) ns ms ≡ names → IsNumbered (length ns) ms (length names)
numbered names a [] ns e = ap length e
numbered names a (m ∷ ms) ns e = next (is_in (name_in names m.sym.0) ns) refl e
    (number_of (insert_key bytes_eq ns (name_in names m.sym.0)) (in_inserted ns (name_in names m.sym.0)) (grew_learned (name_in names) ms (insert_key bytes_eq ns (name_in names m.sym.0))))
    (λ ks g. numbered names a ms ks g)
  where
    number_of : (ks : List (List ℕ)) → is_in (name_in names m.sym.0) ks ≡ true → Grew ks (learned (name_in names) ks ms) → learned (name_in names) ks ms ≡ names → number_in ks (name_in names m.sym.0) ≡ m.sym.0
    number_of ks i g f = sym (member-number ks g.more (name_in names m.sym.0) i)
        ∙ ap (λ u. number_in u (name_in names m.sym.0)) (sym g.is ∙ f)
        ∙ number_name names a m.sym.0

    next : (b : Bool) → is_in (name_in names m.sym.0) ns ≡ b → learned (name_in names) (if b then ns else ns ++ name_in names m.sym.0 ∷ []) ms ≡ names
        → (learned (name_in names) (if b then ns else ns ++ name_in names m.sym.0 ∷ []) ms ≡ names → number_in (if b then ns else ns ++ name_in names m.sym.0 ∷ []) (name_in names m.sym.0) ≡ m.sym.0)
        → ((ks : List (List ℕ)) → learned (name_in names) ks ms ≡ names → IsNumbered (length ks) ms (length names))
        → (m.sym.0 ≤ length ns) × IsNumbered (max (length ns) (m.sym.0 + 1)) ms (length names)
    next true i f g h = old_next (length ns) m.sym.0 (length names) ms (subst (λ u. u < length ns) (g f) (below ns (name_in names m.sym.0) i)) (h ns f)
    next false i f g h = new_next (length ns) m.sym.0 (length (ns ++ name_in names m.sym.0 ∷ [])) (length names) ms (sym (g f) ∙ last_number ns (name_in names m.sym.0) i) (push_length ns (name_in names m.sym.0)) (h (ns ++ name_in names m.sym.0 ∷ []) f)

pub marks_numbered : (names : List (List ℕ)) (ms : List Mark) → Apart names → learned (name_in names) [] ms ≡ names → IsNumbered 0 ms (length names)
marks_numbered names ms a e = numbered names a ms [] e

-- ---- words before `?` and `!` are names
abbrev AreNames : List (List ℕ) → Type 0
AreNames ns = AllByRecursion (λ n. IsTrue (is_name n)) ns

named_insert : (ns : List (List ℕ)) (n : List ℕ) (b : Bool) → AreNames ns → IsTrue (is_name n) → AreNames (if b then ns else ns ++ n ∷ [])
named_insert ns n true h g = h
named_insert ns n false h g = all-push (λ m. IsTrue (is_name m)) ns n h g

named_word : (ns : List (List ℕ)) (p : Token) → AreNames ns → IsWord p → AreNames (with_word ns p)
named_word ns (Word n) h g = named_insert ns n (is_in n ns) h g
named_word ns p h g = h

named_noted : (ns : List (List ℕ)) (p x : Token) → AreNames ns → IsWord p → AreNames (noted ns p x)
named_noted ns p Ask h g = named_word ns p h g
named_noted ns p Bang h g = named_word ns p h g
named_noted ns p x h g = h

pub named_after : (xs : List Placed) (ns : List (List ℕ)) (p : Token) → AllByRecursion (λ n. IsTrue (is_name n)) ns → IsWord p → AllByRecursion IsToken xs → AllByRecursion (λ n. IsTrue (is_name n)) (names_after ns p (tokens xs))
named_after [] ns p h g a = h
named_after (x ∷ xs) ns p h g a = named_after xs (noted ns p x.tok) x.tok (named_noted ns p x.tok h g) a.0 a.1
