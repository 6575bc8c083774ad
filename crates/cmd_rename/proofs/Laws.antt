-- What a renaming keeps of trees.
use Rattle.std.proofs.Common.{◌≡◌, ℕ, ◌+◌, ◌<◌, Bool, true, false, ◌||◌, List, [], ◌∷◌, ◌++◌, map, length, max, Option, Some, None, refl, sym, ap, ◌∙◌, arith, append_assoc, eq-eqb}
use Rattle.std.specs.Prelude.{IsTrue, nat_eq, nat_lt, is_some, if◌then◌else◌}
use Rattle.std.proofs.lemmas.List.{map-append}
use Rattle.cmd_tree.specs.declared.tree.Mark.{Mark}
use Rattle.cmd_tree.specs.declared.tree.Proc.{Proc}
use Rattle.cmd_tree.specs.Tree.{TItem, TSeq, TSeqs, TBurst, TAlt, Stop, Or, Done, Then, places_of, places_in, places_among, marks_of, marks_in, marks_among}
use Rattle.cmd_tree.specs.Limits.{of_part, places_of_proc, places_of_all, marks_of_proc, marks_of_all, count_of, IsSeq, IsItem, AreSeqs, IsFull, IsPart, IsProc, brackets_of, brackets_in, brackets_among, brackets_of_body, brackets_of_proc}
use Rattle.cmd_tree.specs.Lists.{is_in}
use Rattle.cmd_rename.specs.Renaming.{ren_mark, ren_marks, ren_seq, ren_item, ren_seqs, ren_part, ren_proc, ren_all}
use Rattle.cmd_rename.specs.Symbols.{symbols_in}

-- ---- one renaming after another
marks_twice : (f g : ℕ → ℕ) (ms : List Mark) → ren_marks g (ren_marks f ms) ≡ ren_marks (λ a. g (f a)) ms
marks_twice f g [] = refl
marks_twice f g (m ∷ ms) = ap (λ u. ren_mark (λ a. g (f a)) m ∷ u) (marks_twice f g ms)

mutual
  seq_twice : (f g : ℕ → ℕ) (s : TSeq) → ren_seq g (ren_seq f s) ≡ ren_seq (λ a. g (f a)) s
  seq_twice f g Done = refl
  seq_twice f g (Then i s) = λ k. Then (item_twice f g i k) (seq_twice f g s k)

  item_twice : (f g : ℕ → ℕ) (i : TItem) → ren_item g (ren_item f i) ≡ ren_item (λ a. g (f a)) i
  item_twice f g (TBurst ms) = λ k. TBurst (marks_twice f g ms k)
  item_twice f g (TAlt ss) = λ k. TAlt (seqs_twice f g ss k)

  seqs_twice : (f g : ℕ → ℕ) (ss : TSeqs) → ren_seqs g (ren_seqs f ss) ≡ ren_seqs (λ a. g (f a)) ss
  seqs_twice f g Stop = refl
  seqs_twice f g (Or s ss) = λ k. Or (seq_twice f g s k) (seqs_twice f g ss k)

part_twice : (f g : ℕ → ℕ) (s : Option TSeq) → ren_part g (ren_part f s) ≡ ren_part (λ a. g (f a)) s
part_twice f g None = refl
part_twice f g (Some s) = λ k. Some (seq_twice f g s k)

pub ren_twice : (f g : ℕ → ℕ) (ps : List Proc) → ren_all g (ren_all f ps) ≡ ren_all (λ a. g (f a)) ps
ren_twice f g [] = refl
ren_twice f g (p ∷ ps) = λ k. record { lead = part_twice f g p.lead k; body = part_twice f g p.body k } ∷ ren_twice f g ps k

-- ---- renamings that agree on the symbols
abbrev pub Agree : (ℕ → ℕ) → (ℕ → ℕ) → List ℕ → Type 0
Agree f g xs = (a : ℕ) → IsTrue (is_in a xs) → f a ≡ g a

or_first : (b c : Bool) → IsTrue b → IsTrue (b || c)
or_first true c h = refl
or_first false c h = absurd (cc)

or_second : (b c : Bool) → IsTrue c → IsTrue (b || c)
or_second true c h = refl
or_second false c h = h

pub in_left : (a : ℕ) (xs ys : List ℕ) → IsTrue (is_in a xs) → IsTrue (is_in a (xs ++ ys))
in_left a [] ys h = absurd (cc)
in_left a (x ∷ xs) ys h = by (nat_eq a x) h (λ k. in_left a xs ys k)
  where
    by : (b : Bool) → IsTrue (b || is_in a xs) → (IsTrue (is_in a xs) → IsTrue (is_in a (xs ++ ys))) → IsTrue (b || is_in a (xs ++ ys))
    by true k f = refl
    by false k f = f k

pub in_right : (a : ℕ) (xs ys : List ℕ) → IsTrue (is_in a ys) → IsTrue (is_in a (xs ++ ys))
in_right a [] ys h = h
in_right a (x ∷ xs) ys h = or_second (nat_eq a x) (is_in a (xs ++ ys)) (in_right a xs ys h)

agree_left : (f g : ℕ → ℕ) (ms ks : List Mark) → Agree f g (symbols_in (ms ++ ks)) → Agree f g (symbols_in ms)
agree_left f g ms ks h = λ a i. h a (rw (map-append (λ (m : Mark). m.sym.0) ms ks) (in_left a (symbols_in ms) (symbols_in ks) i))

agree_right : (f g : ℕ → ℕ) (ms ks : List Mark) → Agree f g (symbols_in (ms ++ ks)) → Agree f g (symbols_in ks)
agree_right f g ms ks h = λ a i. h a (rw (map-append (λ (m : Mark). m.sym.0) ms ks) (in_right a (symbols_in ms) (symbols_in ks) i))

eq_true : (a : ℕ) (b : Bool) → IsTrue (nat_eq a a || b)
eq_true a b = or_first (nat_eq a a) b (eq-eqb a a refl)

marks_agree : (f g : ℕ → ℕ) (ms : List Mark) → Agree f g (symbols_in ms) → ren_marks f ms ≡ ren_marks g ms
marks_agree f g [] h = refl
marks_agree f g (m ∷ ms) h = λ k. record { sym = record { 0 = h m.sym.0 (eq_true m.sym.0 (is_in m.sym.0 (symbols_in ms))) k }; dir = m.dir }
    ∷ marks_agree f g ms (λ a i. h a (or_second (nat_eq a m.sym.0) (is_in a (symbols_in ms)) i)) k

mutual
  seq_agree : (f g : ℕ → ℕ) (s : TSeq) → Agree f g (symbols_in (marks_of s)) → ren_seq f s ≡ ren_seq g s
  seq_agree f g Done h = refl
  seq_agree f g (Then i s) h = λ k. Then (item_agree f g i (agree_left f g (marks_in i) (marks_of s) h) k) (seq_agree f g s (agree_right f g (marks_in i) (marks_of s) h) k)

  item_agree : (f g : ℕ → ℕ) (i : TItem) → Agree f g (symbols_in (marks_in i)) → ren_item f i ≡ ren_item g i
  item_agree f g (TBurst ms) h = λ k. TBurst (marks_agree f g ms h k)
  item_agree f g (TAlt ss) h = λ k. TAlt (seqs_agree f g ss h k)

  seqs_agree : (f g : ℕ → ℕ) (ss : TSeqs) → Agree f g (symbols_in (marks_among ss)) → ren_seqs f ss ≡ ren_seqs g ss
  seqs_agree f g Stop h = refl
  seqs_agree f g (Or s ss) h = λ k. Or (seq_agree f g s (agree_left f g (marks_of s) (marks_among ss) h) k) (seqs_agree f g ss (agree_right f g (marks_of s) (marks_among ss) h) k)

part_agree : (f g : ℕ → ℕ) (s : Option TSeq) → Agree f g (symbols_in (of_part [] marks_of s)) → ren_part f s ≡ ren_part g s
part_agree f g None h = refl
part_agree f g (Some s) h = λ k. Some (seq_agree f g s h k)

proc_agree : (f g : ℕ → ℕ) (p : Proc) → Agree f g (symbols_in (marks_of_proc p)) → ren_proc f p ≡ ren_proc g p
proc_agree f g p h = λ k. record {
  lead = part_agree f g p.lead (agree_left f g (of_part [] marks_of p.lead) (of_part [] marks_of p.body) h) k;
  body = part_agree f g p.body (agree_right f g (of_part [] marks_of p.lead) (of_part [] marks_of p.body) h) k;
}

pub ren_agree : (f g : ℕ → ℕ) (ps : List Proc) → Agree f g (symbols_in (marks_of_all ps)) → ren_all f ps ≡ ren_all g ps
ren_agree f g [] h = refl
ren_agree f g (p ∷ ps) h = λ k. proc_agree f g p (agree_left f g (marks_of_proc p) (marks_of_all ps) h) k ∷ ren_agree f g ps (agree_right f g (marks_of_proc p) (marks_of_all ps) h) k

-- ---- marks, symbols and numbers
both : {A : Type 0} → (xs ys us vs : List A) → xs ≡ us → ys ≡ vs → xs ++ ys ≡ us ++ vs
both xs ys us vs e h = λ k. e k ++ h k

marks_both : (f : ℕ → ℕ) (ms ks us vs : List Mark) → us ≡ ren_marks f ms → vs ≡ ren_marks f ks → us ++ vs ≡ ren_marks f (ms ++ ks)
marks_both f ms ks us vs e h = both us vs (ren_marks f ms) (ren_marks f ks) e h ∙ sym (map-append (ren_mark f) ms ks)

mutual
  seq_marks : (f : ℕ → ℕ) (s : TSeq) → marks_of (ren_seq f s) ≡ ren_marks f (marks_of s)
  seq_marks f Done = refl
  seq_marks f (Then i s) = marks_both f (marks_in i) (marks_of s) (marks_in (ren_item f i)) (marks_of (ren_seq f s)) (item_marks f i) (seq_marks f s)

  item_marks : (f : ℕ → ℕ) (i : TItem) → marks_in (ren_item f i) ≡ ren_marks f (marks_in i)
  item_marks f (TBurst ms) = refl
  item_marks f (TAlt ss) = seqs_marks f ss

  seqs_marks : (f : ℕ → ℕ) (ss : TSeqs) → marks_among (ren_seqs f ss) ≡ ren_marks f (marks_among ss)
  seqs_marks f Stop = refl
  seqs_marks f (Or s ss) = marks_both f (marks_of s) (marks_among ss) (marks_of (ren_seq f s)) (marks_among (ren_seqs f ss)) (seq_marks f s) (seqs_marks f ss)

part_marks : (f : ℕ → ℕ) (s : Option TSeq) → of_part [] marks_of (ren_part f s) ≡ ren_marks f (of_part [] marks_of s)
part_marks f None = refl
part_marks f (Some s) = seq_marks f s

proc_marks : (f : ℕ → ℕ) (p : Proc) → marks_of_proc (ren_proc f p) ≡ ren_marks f (marks_of_proc p)
proc_marks f p = marks_both f (of_part [] marks_of p.lead) (of_part [] marks_of p.body) _ _ (part_marks f p.lead) (part_marks f p.body)

pub ren_marks_of : (f : ℕ → ℕ) (ps : List Proc) → marks_of_all (ren_all f ps) ≡ ren_marks f (marks_of_all ps)
ren_marks_of f [] = refl
ren_marks_of f (p ∷ ps) = marks_both f (marks_of_proc p) (marks_of_all ps) _ _ (proc_marks f p) (ren_marks_of f ps)

symbols_renamed : (f : ℕ → ℕ) (ms : List Mark) → symbols_in (ren_marks f ms) ≡ map f (symbols_in ms)
symbols_renamed f [] = refl
symbols_renamed f (m ∷ ms) = ap (λ u. f m.sym.0 ∷ u) (symbols_renamed f ms)

pub proc_symbols : (f : ℕ → ℕ) (p : Proc) → symbols_in (marks_of_proc (ren_proc f p)) ≡ map f (symbols_in (marks_of_proc p))
proc_symbols f p = ap symbols_in (proc_marks f p) ∙ symbols_renamed f (marks_of_proc p)

pub ren_symbols : (f : ℕ → ℕ) (ps : List Proc) → symbols_in (marks_of_all (ren_all f ps)) ≡ map f (symbols_in (marks_of_all ps))
ren_symbols f ps = ap symbols_in (ren_marks_of f ps) ∙ symbols_renamed f (marks_of_all ps)

pub marks_of_both : (ps qs : List Proc) → marks_of_all (ps ++ qs) ≡ marks_of_all ps ++ marks_of_all qs
marks_of_both [] qs = refl
marks_of_both (p ∷ ps) qs = ap (λ u. marks_of_proc p ++ u) (marks_of_both ps qs) ∙ sym (append_assoc (marks_of_proc p) (marks_of_all ps) (marks_of_all qs))

pub places_of_both : (ps qs : List Proc) → places_of_all (ps ++ qs) ≡ places_of_all ps + places_of_all qs
places_of_both [] qs = omega arith
places_of_both (p ∷ ps) qs = omega (arith, places_of_both ps qs)

marks_length : (f : ℕ → ℕ) (ms : List Mark) → length (ren_marks f ms) ≡ length ms
marks_length f [] = refl
marks_length f (m ∷ ms) = omega (arith, marks_length f ms)

-- as many marks as symbol places
length_both : {A : Type 0} → (xs ys : List A) → length (xs ++ ys) ≡ length xs + length ys
length_both [] ys = omega arith
length_both (x ∷ xs) ys = omega (arith, length_both xs ys)

mutual
  seq_places : (s : TSeq) → length (marks_of s) ≡ places_of s
  seq_places Done = refl
  seq_places (Then i s) = omega (arith, length_both (marks_in i) (marks_of s), item_places i, seq_places s)

  item_places : (i : TItem) → length (marks_in i) ≡ places_in i
  item_places (TBurst ms) = refl
  item_places (TAlt ss) = seqs_places ss

  seqs_places : (ss : TSeqs) → length (marks_among ss) ≡ places_among ss
  seqs_places Stop = refl
  seqs_places (Or s ss) = omega (arith, length_both (marks_of s) (marks_among ss), seq_places s, seqs_places ss)

part_places : (s : Option TSeq) → length (of_part [] marks_of s) ≡ of_part 0 places_of s
part_places None = refl
part_places (Some s) = seq_places s

symbols_length : (ms : List Mark) → length (symbols_in ms) ≡ length ms
symbols_length [] = refl
symbols_length (m ∷ ms) = omega (arith, symbols_length ms)

proc_places : (p : Proc) → length (marks_of_proc p) ≡ places_of_proc p
proc_places p = omega (arith, length_both (of_part [] marks_of p.lead) (of_part [] marks_of p.body), part_places p.lead, part_places p.body)

pub symbols_places : (p : Proc) → length (symbols_in (marks_of_proc p)) ≡ places_of_proc p
symbols_places p = symbols_length (marks_of_proc p) ∙ proc_places p

all_places : (ps : List Proc) → length (marks_of_all ps) ≡ places_of_all ps
all_places [] = refl
all_places (p ∷ ps) = omega (arith, length_both (marks_of_proc p) (marks_of_all ps), proc_places p, all_places ps)

pub ren_places : (f : ℕ → ℕ) (ps : List Proc) → places_of_all (ren_all f ps) ≡ places_of_all ps
ren_places f ps = sym (all_places (ren_all f ps)) ∙ ap length (ren_marks_of f ps) ∙ marks_length f (marks_of_all ps) ∙ all_places ps

pub ren_length : (f : ℕ → ℕ) (ps : List Proc) → length (ren_all f ps) ≡ length ps
ren_length f [] = refl
ren_length f (p ∷ ps) = omega (arith, ren_length f ps)

-- ---- shape and brackets
some_marks : (f : ℕ → ℕ) (ms : List Mark) → 0 < length ms → 0 < length (ren_marks f ms)
some_marks f ms h = omega (arith, h, marks_length f ms)

seqs_count : (f : ℕ → ℕ) (ss : TSeqs) → count_of (ren_seqs f ss) ≡ count_of ss
seqs_count f Stop = refl
seqs_count f (Or s ss) = omega (arith, seqs_count f ss)

mutual
  seq_kept : (f : ℕ → ℕ) (s : TSeq) → IsSeq s → IsSeq (ren_seq f s)
  seq_kept f Done h = tt
  seq_kept f (Then i s) h = (item_kept f i h.0, seq_kept f s h.1)

  item_kept : (f : ℕ → ℕ) (i : TItem) → IsItem i → IsItem (ren_item f i)
  item_kept f (TBurst ms) h = some_marks f ms h
  item_kept f (TAlt ss) h = (omega (arith, h.0, seqs_count f ss), seqs_kept f ss h.1)

  seqs_kept : (f : ℕ → ℕ) (ss : TSeqs) → AreSeqs ss → AreSeqs (ren_seqs f ss)
  seqs_kept f Stop h = tt
  seqs_kept f (Or s ss) h = (full_kept f s h.0, seqs_kept f ss h.1)

  full_kept : (f : ℕ → ℕ) (s : TSeq) → IsFull s → IsFull (ren_seq f s)
  full_kept f Done h = h
  full_kept f (Then i s) h = (item_kept f i h.0, seq_kept f s h.1)

part_kept : (f : ℕ → ℕ) (s : Option TSeq) → IsPart s → IsPart (ren_part f s)
part_kept f None h = tt
part_kept f (Some s) h = full_kept f s h

part_some : (f : ℕ → ℕ) (s : Option TSeq) → is_some (ren_part f s) ≡ is_some s
part_some f None = refl
part_some f (Some s) = refl

pub proc_kept : (f : ℕ → ℕ) (p : Proc) → IsProc p → IsProc (ren_proc f p)
proc_kept f p h = ((λ k. part_some f p.lead k || part_some f p.body k) ∙ h.0, part_kept f p.lead h.1, part_kept f p.body h.2)

pub body_kept : (f : ℕ → ℕ) (p : Proc) → IsTrue (is_some p.body) → IsTrue (is_some (ren_proc f p).body)
body_kept f p h = part_some f p.body ∙ h

mutual
  seq_brackets : (f : ℕ → ℕ) (s : TSeq) → brackets_of (ren_seq f s) ≡ brackets_of s
  seq_brackets f Done = refl
  seq_brackets f (Then i s) = λ k. max (item_brackets f i k) (seq_brackets f s k)

  item_brackets : (f : ℕ → ℕ) (i : TItem) → brackets_in (ren_item f i) ≡ brackets_in i
  item_brackets f (TBurst ms) = λ k. if nat_lt 1 (marks_length f ms k) then 1 else 0
  item_brackets f (TAlt ss) = λ k. seqs_brackets f ss k + 1

  seqs_brackets : (f : ℕ → ℕ) (ss : TSeqs) → brackets_among (ren_seqs f ss) ≡ brackets_among ss
  seqs_brackets f Stop = refl
  seqs_brackets f (Or s ss) = λ k. max (seq_brackets f s k) (seqs_brackets f ss k)

body_brackets : (f : ℕ → ℕ) (s : TSeq) → brackets_of_body (ren_seq f s) ≡ brackets_of_body s
body_brackets f Done = refl
body_brackets f (Then (TBurst ms) s) = seq_brackets f (Then (TBurst ms) s)
body_brackets f (Then (TAlt ss) Done) = seqs_brackets f ss
body_brackets f (Then (TAlt ss) (Then i s)) = seq_brackets f (Then (TAlt ss) (Then i s))

lead_brackets : (f : ℕ → ℕ) (s : Option TSeq) → of_part 0 brackets_of (ren_part f s) ≡ of_part 0 brackets_of s
lead_brackets f None = refl
lead_brackets f (Some s) = seq_brackets f s

rest_brackets : (f : ℕ → ℕ) (s : Option TSeq) → of_part 0 brackets_of_body (ren_part f s) ≡ of_part 0 brackets_of_body s
rest_brackets f None = refl
rest_brackets f (Some s) = body_brackets f s

pub proc_brackets : (f : ℕ → ℕ) (p : Proc) → brackets_of_proc (ren_proc f p) ≡ brackets_of_proc p
proc_brackets f p = λ k. max (lead_brackets f p.lead k) (rest_brackets f p.body k)
