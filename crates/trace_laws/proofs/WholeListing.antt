-- Bytes are read as the list whose text they are, and else their first faulty line is told.
use Rattle.std.proofs.Common.{◌≡◌, ℕ, ◌+◌, ◌-◌, ◌<◌, ◌≤◌, List, [], ◌∷◌, ◌++◌, length, map, replicate, Result, Ok, Err, refl, sym, ◌∙◌, ap, subst, append_assoc, append-nil, length-append, ⊎_elim, ◌⊎◌, inl, inr, arith}
use Rattle.std.specs.Prelude.{codes}
use Rattle.std.specs.List.{AllByRecursion, IsDistinct, join_with_byte}
use Rattle.std.specs.Str.{bytes_eq}
use Rattle.std.proofs.lemmas.Bool.{cases_order}
use Rattle.std.proofs.lemmas.List.{length-map}
use Rattle.std.proofs.lemmas.List.Splits.{join_with_byte-slice_split}
use Rattle.cmd_tree.specs.declared.tree.Dir.{Dir}
use Rattle.cmd_tree.specs.declared.tree.Dir.TheVariants.{Input, Output}
use Rattle.trace_laws.specs.ListText.{text_of, trace_line, lines_of, IsLine, IsListText, Begins, IsFaultyLine}
use Rattle.text_lines.specs.Pieces.{line_of}
use Rattle.trace_laws.specs.Mirror.Reading.{and_then, Headed, headed, with_traces, trace_of, Listing, after_outputs, after_inputs, listed, listing, dirs_of}
use Rattle.text_lines.specs.Pieces.{pieces}
use Rattle.trace_laws.proofs.ListLines.{lines_cut, lines_back, lines_rest}
use Rattle.text_lines.proofs.Cuts.{cut, clean_pieces, one_piece}
use Rattle.text_lines.specs.Pieces.{IsPiece}
use Rattle.trace_laws.proofs.Naming.{ok_err, AreNames, distinct_none, distinct_front}
use Rattle.trace_laws.proofs.Listings.{then_ok, then_err, names_pieces, words_line, header_read, read_header, refused_header, AllKnown, names_of, traces_read, read_traces, refused_traces, Header, Finished, name_at}

pub all_append : {A : Type 0} (P : A → Type 0) (xs ys : List A) → AllByRecursion P xs → AllByRecursion P ys → AllByRecursion P (xs ++ ys)
all_append P [] ys h k = k
all_append P (x ∷ xs) ys h k = (h.0, all_append P xs ys h.1 k)

pub all_front : {A : Type 0} (P : A → Type 0) (xs ys : List A) → AllByRecursion P (xs ++ ys) → AllByRecursion P xs
all_front P [] ys h = tt
all_front P (x ∷ xs) ys h = (h.0, all_front P xs ys h.1)

pub all_back : {A : Type 0} (P : A → Type 0) (xs ys : List A) → AllByRecursion P (xs ++ ys) → AllByRecursion P ys
all_back P [] ys h = h
all_back P (x ∷ xs) ys h = all_back P xs ys h.1

text_append : (ls ms : List (List ℕ)) → text_of (ls ++ ms) ≡ text_of ls ++ text_of ms
text_append [] ms = refl
text_append (l ∷ ls) ms = ap (λ t. l ++ 10 ∷ t) (text_append ls ms) ∙ sym (append_assoc l (10 ∷ text_of ls) (text_of ms))

-- ---- the two words
in_piece : (c : ℕ) → c < 100 → IsPiece c (codes "in")
in_piece c l = ((λ e. omega (arith, e, l)), ((λ e. omega (arith, e, l)), tt))

out_piece : (c : ℕ) → c < 100 → IsPiece c (codes "out")
out_piece c l = ((λ e. omega (arith, e, l)), ((λ e. omega (arith, e, l)), ((λ e. omega (arith, e, l)), tt)))

-- ---- the lines of a list
abbrev listed_as : ℕ → List (List ℕ) → List (List ℕ) → Result Listing ℕ
listed_as n names ts = Ok (record { inputs = n; names = names; traces = ts })

module _ (inputs outputs : List (List ℕ)) (formed : AreNames (inputs ++ outputs)) (distinct : IsDistinct bytes_eq (inputs ++ outputs)) where
  traces_lines : (vs : List (List ℕ)) → AllKnown (inputs ++ outputs) vs → AllByRecursion IsLine (map (trace_line (inputs ++ outputs)) vs)
  traces_lines [] k = tt
  traces_lines (v ∷ vs) k = (words_line (map (name_at (inputs ++ outputs)) v) (names_pieces 10 refl (map (name_at (inputs ++ outputs)) v) (names_of (inputs ++ outputs) v formed k.0)), traces_lines vs k.1)

  are_lines : (vs : List (List ℕ)) → AllKnown (inputs ++ outputs) vs → AllByRecursion IsLine (lines_of inputs outputs vs)
  are_lines vs k = (
    words_line (codes "in" ∷ inputs) (in_piece 10 (omega arith), names_pieces 10 refl inputs (all_front _ inputs outputs formed)),
    (words_line (codes "out" ∷ outputs) (out_piece 10 (omega arith), names_pieces 10 refl outputs (all_back _ inputs outputs formed)), traces_lines vs k),
  )

  -- lines of a list are read, whatever follows
  front_read : (vs : List (List ℕ)) (m : List ℕ) (ms : List (List ℕ)) → AllKnown (inputs ++ outputs) vs
      → listed (lines_of inputs outputs vs ++ m ∷ ms) ≡ and_then (with_traces (3 + length vs) (inputs ++ outputs) vs (m ∷ ms)) (listed_as (length inputs) (inputs ++ outputs))
  front_read vs m ms k =
      ap (λ r. and_then r after_inputs) (header_read 1 (codes "in") [] inputs (line_of (codes "out" ∷ outputs)) (map (trace_line (inputs ++ outputs)) vs ++ m ∷ ms) (in_piece 32 (omega arith)) (all_front _ inputs outputs formed) (distinct_front inputs outputs distinct))
      ∙ outputs_read (map (trace_line (inputs ++ outputs)) vs ++ m ∷ ms) (some vs)
      ∙ ap (λ r. and_then r (listed_as (length inputs) (inputs ++ outputs))) (traces_read 3 (inputs ++ outputs) [] vs m ms formed distinct k)
    where
      some : (us : List (List ℕ)) → (q : List ℕ) × (qs : List (List ℕ)) × (map (trace_line (inputs ++ outputs)) us ++ m ∷ ms ≡ q ∷ qs)
      some [] = (m, ms, refl)
      some (u ∷ us) = (trace_line (inputs ++ outputs) u, map (trace_line (inputs ++ outputs)) us ++ m ∷ ms, refl)

      outputs_read : (ps : List (List ℕ)) → (q : List ℕ) × (qs : List (List ℕ)) × (ps ≡ q ∷ qs)
          → and_then (headed 2 (codes "out") inputs (line_of (codes "out" ∷ outputs) ∷ ps)) (after_outputs (length inputs)) ≡ after_outputs (length inputs) (record { names = inputs ++ outputs; lines = ps })
      outputs_read ps (q, qs, e) =
          subst (λ rs. and_then (headed 2 (codes "out") inputs (line_of (codes "out" ∷ outputs) ∷ rs)) (after_outputs (length inputs)) ≡ after_outputs (length inputs) (record { names = inputs ++ outputs; lines = rs })) (sym e)
          (ap (λ r. and_then r (after_outputs (length inputs))) (header_read 2 (codes "out") inputs outputs q qs (out_piece 32 (omega arith)) (all_back _ inputs outputs formed) distinct))

  whole_text : (vs : List (List ℕ)) → AllKnown (inputs ++ outputs) vs → IsListText (text_of (lines_of inputs outputs vs)) (inputs ++ outputs) (replicate (length inputs) Input ++ replicate (length outputs) Output) vs
  whole_text vs k = record { inputs = inputs; outputs = outputs; numbered = refl; directed = refl; formed = formed; distinct = distinct; known = k; text = refl }

-- ---- a text is read as its list
pub text_read : (bytes : List ℕ) (names : List (List ℕ)) (dirs : List Dir) (traces : List (List ℕ)) (w : IsListText bytes names dirs traces) → listing bytes ≡ Ok (record { inputs = length w.inputs; names = names; traces = traces })
text_read bytes names dirs traces w =
    let d : IsDistinct bytes_eq (w.inputs ++ w.outputs) = subst (IsDistinct bytes_eq) w.numbered w.distinct in
    let f : AreNames (w.inputs ++ w.outputs) = subst AreNames w.numbered w.formed in
    let k : AllKnown (w.inputs ++ w.outputs) traces = subst (λ ns. AllKnown ns traces) w.numbered w.known in
    ap listing (w.text ∙ sym (append-nil (text_of (lines_of w.inputs w.outputs traces))))
    ∙ ap listed (lines_cut (lines_of w.inputs w.outputs traces) [] (are_lines w.inputs w.outputs f d traces k))
    ∙ front_read w.inputs w.outputs f d traces [] [] k
    ∙ (λ i. Ok (record { inputs = length w.inputs; names = sym w.numbered i; traces = traces }))

-- ---- what is read is the list of the text
pub read_text : (bytes : List ℕ) (r : Listing) → listing bytes ≡ Ok r → IsListText bytes r.names (dirs_of r) r.traces
read_text bytes r e =
    let a = then_ok (headed 1 (codes "in") [] (pieces 10 bytes)) after_inputs r e in
    let b = then_ok (headed 2 (codes "out") a.0.names a.0.lines) (after_outputs (length a.0.names)) r a.2 in
    let c = then_ok (with_traces 3 b.0.names [] b.0.lines) (listed_as (length a.0.names) b.0.names) r b.2 in
    let h = read_header 1 (codes "in") [] (pieces 10 bytes) a.0 distinct_none a.1 in
    let k = read_header 2 (codes "out") a.0.names a.0.lines b.0 h.put.distinct b.1 in
    let t = read_traces 3 b.0.names [] b.0.lines c.0 c.1 in
    let same : record { inputs = length a.0.names; names = b.0.names; traces = c.0 } ≡ r = cc in
    subst (λ (q : Listing). IsListText bytes q.names (dirs_of q) q.traces) same (built bytes a.0 b.0 c.0 h k t)
  where
    built : (bytes : List ℕ) (a b : Headed) (ts : List (List ℕ)) → (h : Header (codes "in") [] (pieces 10 bytes) a) → (k : Header (codes "out") a.names a.lines b) → Finished 3 b.names [] b.lines ts
        → IsListText bytes b.names (replicate (length a.names) Input ++ replicate (length b.names - length a.names) Output) ts
    built bytes a b ts h k t = record {
      inputs = a.names;
      outputs = k.own;
      numbered = k.put.is;
      directed = let n : length b.names - length a.names ≡ length k.own = omega (arith, ap length k.put.is, length-append a.names k.own) in ap (λ j. replicate (length a.names) Input ++ replicate j Output) n;
      formed = subst AreNames (sym k.put.is) (all_append _ a.names k.own (subst AreNames (sym h.put.is) h.put.formed) k.put.formed);
      distinct = k.put.distinct;
      known = subst (AllKnown b.names) (sym t.all) t.known;
      text = lines_back bytes [] (lines_of a.names k.own ts) cut_so ∙ append-nil (text_of (lines_of a.names k.own ts));
    }
      where
        cut_so : pieces 10 bytes ≡ lines_of a.names k.own ts ++ [] ∷ []
        cut_so = h.is ∙ (λ i. line_of (codes "in" ∷ sym h.put.is i) ∷ (k.is ∙ (λ j. line_of (codes "out" ∷ k.own) ∷ (t.is ∙ ap (λ us. map (trace_line b.names) us ++ [] ∷ []) (sym t.all) ∙ ap (λ ns. map (trace_line ns) ts ++ [] ∷ []) k.put.is) j)) i)

-- ---- lines that begin a text
begins_front : (ls ms names : List (List ℕ)) (dirs : List Dir) (traces : List (List ℕ)) → IsListText (text_of (ls ++ ms)) names dirs traces → Begins (text_of ls)
begins_front ls ms names dirs traces w = record { more = text_of ms; names = names; dirs = dirs; traces = traces; whole = subst (λ t. IsListText t names dirs traces) (text_append ls ms) w }

begins_less : (ls ms : List (List ℕ)) → Begins (text_of (ls ++ ms)) → Begins (text_of ls)
begins_less ls ms b = record {
  more = text_of ms ++ b.more;
  names = b.names;
  dirs = b.dirs;
  traces = b.traces;
  whole = subst (λ t. IsListText t b.names b.dirs b.traces) (ap (λ t. t ++ b.more) (text_append ls ms) ∙ append_assoc (text_of ls) (text_of ms) b.more) b.whole;
}

nothing_begins : Begins []
nothing_begins = begins_front [] (lines_of [] [] []) [] [] [] (whole_text [] [] tt distinct_none [] tt)

header_begins : (ns : List (List ℕ)) → AreNames ns → IsDistinct bytes_eq ns → Begins (text_of (line_of (codes "in" ∷ ns) ∷ []))
header_begins ns f d = begins_front (line_of (codes "in" ∷ ns) ∷ []) (line_of (codes "out" ∷ []) ∷ []) (ns ++ []) _ [] (whole_text ns [] (subst AreNames (sym (append-nil ns)) f) (subst (IsDistinct bytes_eq) (sym (append-nil ns)) d) [] tt)

-- ---- a line that is refused is the first faulty one
fault : (bytes : List ℕ) (n : ℕ) (before : List (List ℕ)) (line : List ℕ) (left : List (List ℕ)) → listing bytes ≡ Err n → pieces 10 bytes ≡ before ++ line ∷ left → n ≡ length before + 1 → Begins (text_of before)
    → (left ≡ []) ⊎ ((m : List ℕ) (ms : List (List ℕ)) → (k : ℕ) × (listed (before ++ line ∷ m ∷ ms) ≡ Err k))
    → IsFaultyLine bytes n
fault bytes n before line left e p number b always = record {
  before = before;
  line = line;
  number = number;
  are_lines = clean;
  begins = b;
  faulty = by left p always;
}
  where
    clean : AllByRecursion IsLine (before ++ line ∷ [])
    clean = all_front IsLine (before ++ line ∷ []) left (subst (AllByRecursion IsLine) (p ∙ sym (append_assoc before (line ∷ []) left)) (clean_pieces 10 bytes))

    no_text : (names : List (List ℕ)) (dirs : List Dir) (traces : List (List ℕ)) → IsListText bytes names dirs traces → ⊥
    no_text names dirs traces w = ok_err (sym (text_read bytes names dirs traces w) ∙ e)

    no_more : ((m : List ℕ) (ms : List (List ℕ)) → (k : ℕ) × (listed (before ++ line ∷ m ∷ ms) ≡ Err k)) → Begins (text_of (before ++ line ∷ [])) → ⊥
    no_more always g =
        let c = cut 10 g.more in
        let a = always c.first c.more in
        let q : pieces 10 (text_of (before ++ line ∷ []) ++ g.more) ≡ before ++ line ∷ c.first ∷ c.more = lines_cut (before ++ line ∷ []) g.more clean ∙ ap (λ ps. (before ++ line ∷ []) ++ ps) c.is ∙ append_assoc before (line ∷ []) (c.first ∷ c.more) in
        ok_err (sym (text_read (text_of (before ++ line ∷ []) ++ g.more) g.names g.dirs g.traces g.whole) ∙ ap listed q ∙ a.1)

    at_end : pieces 10 bytes ≡ before ++ line ∷ [] → bytes ≡ text_of before ++ line
    at_end q = lines_back bytes line before q

    by : (left : List (List ℕ)) → pieces 10 bytes ≡ before ++ line ∷ left → (left ≡ []) ⊎ ((m : List ℕ) (ms : List (List ℕ)) → (k : ℕ) × (listed (before ++ line ∷ m ∷ ms) ≡ Err k))
        → ((rest : List ℕ) × (bytes ≡ text_of (before ++ line ∷ []) ++ rest) × (Begins (text_of (before ++ line ∷ [])) → ⊥))
        ⊎ ((bytes ≡ text_of before ++ line) × ((names : List (List ℕ)) (dirs : List Dir) (traces : List (List ℕ)) → IsListText bytes names dirs traces → ⊥))
    by [] q a = inr (at_end q, no_text)
    by (m ∷ ms) q (inl z) = absurd (cc)
    by (m ∷ ms) q (inr a) = inl (join_with_byte 10 (m ∷ ms), sym (join_with_byte-slice_split 10 bytes) ∙ ap (join_with_byte 10) (q ∙ sym (append_assoc before (line ∷ []) (m ∷ ms))) ∙ lines_rest (before ++ line ∷ []) ms m, no_more a)

pub refused_line : (bytes : List ℕ) (n : ℕ) → listing bytes ≡ Err n → IsFaultyLine bytes n
refused_line bytes n e = ⊎_elim first_refused (λ s. ⊎_elim (second_refused s.0 s.1) (λ t. ⊎_elim (third_refused s.0 s.1 t.0 t.1) (λ u. ok_err u.2) (then_err (with_traces 3 t.0.names [] t.0.lines) (listed_as (length s.0.names) t.0.names) n t.2)) (then_err (headed 2 (codes "out") s.0.names s.0.lines) (after_outputs (length s.0.names)) n s.2)) (then_err (headed 1 (codes "in") [] (pieces 10 bytes)) after_inputs n e)
  where
    first_refused : headed 1 (codes "in") [] (pieces 10 bytes) ≡ Err n → IsFaultyLine bytes n
    first_refused f =
        let c = cut 10 bytes in
        let u = refused_header 1 (codes "in") [] c.first c.more n (ap (headed 1 (codes "in") []) (sym c.is) ∙ f) in
        fault bytes n [] c.first c.more e c.is u.number nothing_begins (⊎_elim (λ z. inl z) (λ a. inr (λ m ms. (1, ap (λ r. and_then r after_inputs) (a m ms)))) u.always)

    second_refused : (a : Headed) → headed 1 (codes "in") [] (pieces 10 bytes) ≡ Ok a → headed 2 (codes "out") a.names a.lines ≡ Err n → IsFaultyLine bytes n
    second_refused a o f =
        let h = read_header 1 (codes "in") [] (pieces 10 bytes) a distinct_none o in
        let u = refused_header 2 (codes "out") a.names h.next h.more n (ap (headed 2 (codes "out") a.names) (sym h.left) ∙ f) in
        let d : IsDistinct bytes_eq h.own = subst (IsDistinct bytes_eq) h.put.is h.put.distinct in
        fault bytes n (line_of (codes "in" ∷ h.own) ∷ []) h.next h.more e (h.is ∙ ap (λ ls. line_of (codes "in" ∷ h.own) ∷ ls) h.left) u.number (header_begins h.own h.put.formed d)
        (⊎_elim (λ z. inl z) (λ b. inr (λ m ms. (2, ap (λ r. and_then r after_inputs) (header_read 1 (codes "in") [] h.own h.next (m ∷ ms) (in_piece 32 (omega arith)) h.put.formed d) ∙ ap (λ r. and_then r (after_outputs (length h.own))) (subst (λ ns. headed 2 (codes "out") ns (h.next ∷ m ∷ ms) ≡ Err 2) h.put.is (b m ms))))) u.always)

    third_refused : (a : Headed) → headed 1 (codes "in") [] (pieces 10 bytes) ≡ Ok a → (b : Headed) → headed 2 (codes "out") a.names a.lines ≡ Ok b → with_traces 3 b.names [] b.lines ≡ Err n → IsFaultyLine bytes n
    third_refused a o b p f =
        let h = read_header 1 (codes "in") [] (pieces 10 bytes) a distinct_none o in
        let k = read_header 2 (codes "out") a.names a.lines b h.put.distinct p in
        let u = refused_traces 3 b.names [] k.next k.more n (ap (with_traces 3 b.names []) (sym k.left) ∙ f) in
        let ns : b.names ≡ h.own ++ k.own = k.put.is ∙ ap (λ q. q ++ k.own) h.put.is in
        let d : IsDistinct bytes_eq (h.own ++ k.own) = subst (IsDistinct bytes_eq) ns k.put.distinct in
        let g : AreNames (h.own ++ k.own) = all_append _ h.own k.own h.put.formed k.put.formed in
        let v : AllKnown (h.own ++ k.own) u.vs = subst (λ q. AllKnown q u.vs) ns u.known in
        let before = lines_of h.own k.own u.vs in
        let dirs : List Dir = replicate (length h.own) Input ++ replicate (length k.own) Output in
        fault bytes n before u.last u.left e
        (h.is ∙ (λ i. line_of (codes "in" ∷ h.own) ∷ (k.is ∙ (λ j. line_of (codes "out" ∷ k.own) ∷ (k.left ∙ u.is ∙ ap (λ q. map (trace_line q) u.vs ++ u.last ∷ u.left) ns) j)) i))
        (u.number ∙ counted h.own k.own u.vs b.names)
        (begins_front before [] (h.own ++ k.own) dirs u.vs (subst (λ ls. IsListText (text_of ls) (h.own ++ k.own) dirs u.vs) (sym (append-nil before)) (whole_text h.own k.own g d u.vs v)))
        (⊎_elim (λ z. inl z) (λ w. inr (λ m ms. (n, front_read h.own k.own g d u.vs u.last (m ∷ ms) v ∙ ap (λ r. and_then r (listed_as (length h.own) (h.own ++ k.own))) (again h.own k.own b.names u.vs u.last m ms ns u.number w)))) u.always)
      where
        counted : (xs ys us names : List (List ℕ)) → 3 + length us ≡ length (lines_of xs ys us) + 1
        counted xs ys us names = omega (arith, length-map us (trace_line (xs ++ ys)))

        again : (xs ys names us : List (List ℕ)) (last m : List ℕ) (ms : List (List ℕ)) → names ≡ xs ++ ys → n ≡ 3 + length us → trace_of n names last ≡ Err n → with_traces (3 + length us) (xs ++ ys) us (last ∷ m ∷ ms) ≡ Err n
        again xs ys names us last m ms q l t = ap (λ r. and_then r (λ t. with_traces (3 + length us + 1) (xs ++ ys) (us ++ t ∷ []) (m ∷ ms))) (subst (λ j. trace_of j (xs ++ ys) last ≡ Err n) l (subst (λ ns. trace_of n ns last ≡ Err n) q t))

-- ---- a text has no faulty line, and there is one first one
pub no_fault : (bytes : List ℕ) (names : List (List ℕ)) (dirs : List Dir) (traces : List (List ℕ)) (n : ℕ) → IsListText bytes names dirs traces → IsFaultyLine bytes n → ⊥
no_fault bytes names dirs traces n w f = by f.faulty
  where
    by : ((rest : List ℕ) × (bytes ≡ text_of (f.before ++ f.line ∷ []) ++ rest) × (Begins (text_of (f.before ++ f.line ∷ [])) → ⊥))
        ⊎ ((bytes ≡ text_of f.before ++ f.line) × ((names : List (List ℕ)) (dirs : List Dir) (traces : List (List ℕ)) → IsListText bytes names dirs traces → ⊥)) → ⊥
    by (inl (rest, e, g)) = g (record { more = rest; names = names; dirs = dirs; traces = traces; whole = subst (λ t. IsListText t names dirs traces) e w })
    by (inr (e, g)) = g names dirs traces w

record Shape (bytes : List ℕ) (n : ℕ) : Type 0 where
  before : List (List ℕ)
  line : List ℕ
  left : List (List ℕ)
  number : n ≡ length before + 1
  begins : Begins (text_of before)
  is : pieces 10 bytes ≡ before ++ line ∷ left
  ends : (left ≡ []) ⊎ (Begins (text_of (before ++ line ∷ [])) → ⊥)

shape : (bytes : List ℕ) (n : ℕ) → IsFaultyLine bytes n → Shape bytes n
shape bytes n f = by f.faulty
  where
    by : ((rest : List ℕ) × (bytes ≡ text_of (f.before ++ f.line ∷ []) ++ rest) × (Begins (text_of (f.before ++ f.line ∷ [])) → ⊥))
        ⊎ ((bytes ≡ text_of f.before ++ f.line) × ((names : List (List ℕ)) (dirs : List Dir) (traces : List (List ℕ)) → IsListText bytes names dirs traces → ⊥)) → Shape bytes n
    by (inl (rest, e, g)) = record {
      before = f.before;
      line = f.line;
      left = pieces 10 rest;
      number = f.number;
      begins = f.begins;
      is = ap (pieces 10) e ∙ lines_cut (f.before ++ f.line ∷ []) rest f.are_lines ∙ append_assoc f.before (f.line ∷ []) (pieces 10 rest);
      ends = inr g;
    }
    by (inr (e, g)) = record {
      before = f.before;
      line = f.line;
      left = [];
      number = f.number;
      begins = f.begins;
      is = ap (pieces 10) e ∙ lines_cut f.before f.line (all_front IsLine f.before (f.line ∷ []) f.are_lines) ∙ ap (λ ps. f.before ++ ps) (one_piece 10 f.line (all_back IsLine f.before (f.line ∷ []) f.are_lines).0);
      ends = inl refl;
    }

longer : {A : Type 0} (xs ys : List A) (x y : A) (us vs : List A) → xs ++ x ∷ us ≡ ys ++ y ∷ vs → length xs < length ys → (z : List A) × (ys ≡ (xs ++ x ∷ []) ++ z) × (us ≡ z ++ y ∷ vs)
longer xs [] x y us vs e l = absurd (omega (arith, l))
longer [] (k ∷ ys) x y us vs e l = (ys, (let s : k ≡ x = cc in ap (λ q. q ∷ ys) s), (let s : us ≡ ys ++ y ∷ vs = cc in s))
longer (j ∷ xs) (k ∷ ys) x y us vs e l =
    let r = longer xs ys x y us vs (let s : xs ++ x ∷ us ≡ ys ++ y ∷ vs = cc in s) (omega (arith, l)) in
    let s : k ≡ j = cc in
    (r.0, (λ i. s i ∷ r.1 i), r.2)

not_before : (bytes : List ℕ) (m n : ℕ) (s : Shape bytes m) (t : Shape bytes n) → length s.before < length t.before → ⊥
not_before bytes m n s t l =
    let r = longer s.before t.before s.line t.line s.left t.left (sym s.is ∙ t.is) l in
    ⊎_elim (λ z. some r.0 (sym r.2 ∙ z)) (λ g. g (begins_less (s.before ++ s.line ∷ []) r.0 (subst (λ b. Begins (text_of b)) r.1 t.begins))) s.ends
  where
    some : (z : List (List ℕ)) → z ++ t.line ∷ t.left ≡ [] → ⊥
    some [] e = cc
    some (x ∷ z) e = cc

pub one_line : (bytes : List ℕ) (m n : ℕ) → IsFaultyLine bytes m → IsFaultyLine bytes n → m ≡ n
one_line bytes m n f g =
    let s = shape bytes m f in
    let t = shape bytes n g in
    ⊎_elim (λ e. s.number ∙ ap (λ k. k + 1) e ∙ sym t.number)
    (λ o. ⊎_elim (λ l. absurd (not_before bytes m n s t l)) (λ l. absurd (not_before bytes n m t s l)) o)
    (cases_order (length s.before) (length t.before))

-- ---- one or the other
pub text_or_line : (bytes : List ℕ) → ((names : List (List ℕ)) × (dirs : List Dir) × (traces : List (List ℕ)) × IsListText bytes names dirs traces) ⊎ ((n : ℕ) × IsFaultyLine bytes n)
text_or_line bytes = by (listing bytes) refl
  where
    by : (r : Result Listing ℕ) → listing bytes ≡ r → ((names : List (List ℕ)) × (dirs : List Dir) × (traces : List (List ℕ)) × IsListText bytes names dirs traces) ⊎ ((n : ℕ) × IsFaultyLine bytes n)
    by (Ok r) e = inl (r.names, dirs_of r, r.traces, read_text bytes r e)
    by (Err n) e = inr (n, refused_line bytes n e)

-- a text has one list
pub one_list : (bytes : List ℕ) (names ns : List (List ℕ)) (dirs ds : List Dir) (traces ts : List (List ℕ)) → IsListText bytes names dirs traces → IsListText bytes ns ds ts → (names ≡ ns) × (dirs ≡ ds) × (traces ≡ ts)
one_list bytes names ns dirs ds traces ts w v =
    let e : ◌≡◌ {A = Result Listing ℕ} (Ok (record { inputs = length w.inputs; names = names; traces = traces })) (Ok (record { inputs = length v.inputs; names = ns; traces = ts })) = sym (text_read bytes names dirs traces w) ∙ text_read bytes ns ds ts v in
    let s : ◌≡◌ {A = Listing} (record { inputs = length w.inputs; names = names; traces = traces }) (record { inputs = length v.inputs; names = ns; traces = ts }) = cc in
    let n : names ≡ ns = ap (λ (r : Listing). r.names) s in
    let i : length w.inputs ≡ length v.inputs = ap (λ (r : Listing). r.inputs) s in
    let o : length w.outputs ≡ length v.outputs = omega (arith, i, ap length n, ap length w.numbered, ap length v.numbered, length-append w.inputs w.outputs, length-append v.inputs v.outputs) in
    (n, w.directed ∙ (λ k. replicate (i k) Input ++ replicate (o k) Output) ∙ sym v.directed, ap (λ (r : Listing). r.traces) s)

-- ---- the parts of a list, read one after another
pub parts_read : (bytes : List ℕ) (ns ms ls ks ts : List (List ℕ)) → headed 1 (codes "in") [] (pieces 10 bytes) ≡ Ok (record { names = ns; lines = ls }) → headed 2 (codes "out") ns ls ≡ Ok (record { names = ms; lines = ks }) → with_traces 3 ms [] ks ≡ Ok ts
    → listing bytes ≡ Ok (record { inputs = length ns; names = ms; traces = ts })
parts_read bytes ns ms ls ks ts e f g = ap (λ r. and_then r after_inputs) e ∙ ap (λ r. and_then r (after_outputs (length ns))) f ∙ ap (λ r. and_then r (listed_as (length ns) ms)) g

pub names_grow : (line : ℕ) (word : List ℕ) (names ls : List (List ℕ)) (h : Headed) → IsDistinct bytes_eq names → headed line word names ls ≡ Ok h → length names ≤ length h.names
names_grow line word names ls h d e = let p = read_header line word names ls h d e in omega (arith, ap length p.put.is, length-append names p.own)
