-- Texts joined one after another: the first of the rest of a list, and then the rest after it.
use Rattle.std.proofs.Common.{◌≡◌, ◌<◌, ◌≤◌, ◌+◌, ℕ, suc, List, [], ◌∷◌, ◌++◌, length, get_or, drop, ap, add-one, drop-cons, sym, ◌∙◌, subst, refl, arith, None, slice_get}
use Rattle.std.proofs.lemmas.List.{drop_all}
use Rattle.std.specs.Prelude.{codes}
use Rattle.cmd_tree.specs.declared.tree.Item.{Item}
use Rattle.cmd_tree.specs.declared.tree.Mark.{Mark}
use Rattle.cmd_tree.specs.declared.tree.Proc.{Proc}
use Rattle.cmd_tree.specs.Tree.{TSeq}
use Rattle.std.proofs.lemmas.Option.{unwrap_or-slice_get}
use Rattle.cmd_tree.specs.View.{item_of, seq_of, seqs_of}
use Rattle.cmd_text.specs.Canonical.{mark_text, marks_led, items_led, item_text, seqs_led, seq_text, bare_text, body_text, proc_text, procs_led}

drop_next : {A : Type 0} (xs : List A) (i : ℕ) (x : A) → i < length xs → x ≡ get_or xs i x → drop i xs ≡ x ∷ drop (i + 1) xs
drop_next {A} xs i x h is = rw add-one (drop-cons xs i x h ∙ ap (λ (y : A). y ∷ drop (suc i) xs) (sym is))

pub marks_none : (names : List (List ℕ)) (led : List ℕ) (xs : List Mark) (i : ℕ) → length xs ≤ i → marks_led names led (drop i xs) ≡ []
marks_none names led xs i h = ap (λ (ys : List Mark). marks_led names led ys) (drop_all i xs h)

pub items_next : (names : List (List ℕ)) (led : List ℕ) (xs : List Item) (i : ℕ) (x : Item) → i < length xs → x ≡ get_or xs i x
    → items_led names led (seq_of (drop i xs)) ≡ led ++ item_text names (item_of x) ++ items_led names (codes ";") (seq_of (drop (i + 1) xs))
items_next names led xs i x h is = ap (λ (ys : List Item). items_led names led (seq_of ys)) (drop_next xs i x h is)

pub items_none : (names : List (List ℕ)) (led : List ℕ) (xs : List Item) (i : ℕ) → length xs ≤ i → items_led names led (seq_of (drop i xs)) ≡ []
items_none names led xs i h = ap (λ (ys : List Item). items_led names led (seq_of ys)) (drop_all i xs h)

pub seqs_next : (names : List (List ℕ)) (led : List ℕ) (xs : List TSeq) (i : ℕ) (x : TSeq) → i < length xs → x ≡ get_or xs i x
    → seqs_led names led (seqs_of (drop i xs)) ≡ led ++ items_led names [] x ++ seqs_led names (codes "|") (seqs_of (drop (i + 1) xs))
seqs_next names led xs i x h is = ap (λ (ys : List TSeq). seqs_led names led (seqs_of ys)) (drop_next xs i x h is)

pub seqs_none : (names : List (List ℕ)) (led : List ℕ) (xs : List TSeq) (i : ℕ) → length xs ≤ i → seqs_led names led (seqs_of (drop i xs)) ≡ []
seqs_none names led xs i h = ap (λ (ys : List TSeq). seqs_led names led (seqs_of ys)) (drop_all i xs h)

pub procs_next : (names : List (List ℕ)) (led : List ℕ) (xs : List Proc) (i : ℕ) (x : Proc) → i < length xs → x ≡ get_or xs i x
    → procs_led names led (drop i xs) ≡ led ++ proc_text names x ++ procs_led names (codes "||") (drop (i + 1) xs)
procs_next names led xs i x h is = ap (λ (ys : List Proc). procs_led names led ys) (drop_next xs i x h is)

pub procs_none : (names : List (List ℕ)) (led : List ℕ) (xs : List Proc) (i : ℕ) → length xs ≤ i → procs_led names led (drop i xs) ≡ []
procs_none names led xs i h = ap (λ (ys : List Proc). procs_led names led ys) (drop_all i xs h)

pub marks_at : (names : List (List ℕ)) (led : List ℕ) (xs : List Mark) (i : ℕ) (d : Mark) → i < length xs
    → marks_led names led (drop i xs) ≡ led ++ mark_text names (get_or xs i d) ++ marks_led names (codes "||") (drop (i + 1) xs)
marks_at names led xs i d h = rw add-one (ap (λ (ys : List Mark). marks_led names led ys) (drop-cons xs i d h))

-- what is left of each list, with its next item and with none
pub ruleset joined = (marks_at, marks_none, items_next, items_none, seqs_next, seqs_none, procs_next, procs_none)

-- a body of no item, of one, and of more
pub body_none : (names : List (List ℕ)) (xs : List Item) (s : TSeq) → length xs < 1 → seq_of xs ≡ s → [] ≡ body_text names s
body_none names [] s h e = ap (λ (t : TSeq). body_text names t) e
body_none names (x ∷ xs) s h e = absurd (omega arith)

pub body_one : (names : List (List ℕ)) (xs : List Item) (s : TSeq) (x : Item) → 1 ≤ length xs → length xs < 2 → x ≡ get_or xs 0 x → seq_of xs ≡ s
    → bare_text names (item_of x) ≡ body_text names s
body_one names [] s x h l is e = absurd (omega arith)
body_one names (y ∷ []) s x h l is e = ap (λ (z : Item). bare_text names (item_of z)) is ∙ ap (λ (t : TSeq). body_text names t) e
body_one names (y ∷ z ∷ xs) s x h l is e = absurd (omega arith)

pub body_more : (names : List (List ℕ)) (xs : List Item) (s : TSeq) → 2 ≤ length xs → seq_of xs ≡ s → seq_text names s ≡ body_text names s
body_more names [] s h e = absurd (omega arith)
body_more names (x ∷ []) s h e = absurd (omega arith)
body_more names (x ∷ y ∷ xs) s h e = let P : TSeq → Type 0 = λ t. seq_text names t ≡ body_text names t in subst P e refl

pub name_none : (names : List (List ℕ)) (i : ℕ) → slice_get names i ≡ None → [] ≡ get_or names i []
name_none names i h = rw h at (unwrap_or-slice_get names i [])
