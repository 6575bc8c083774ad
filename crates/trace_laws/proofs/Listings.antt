-- What the lines of a text are read as.
use Rattle.std.proofs.Common.{◌≡◌, ℕ, zero, suc, ◌+◌, ◌<◌, Bool, true, false, ◌&&◌, ◌||◌, eqb, cond, List, [], ◌∷◌, ◌++◌, length, map, get_or, Result, Ok, Err, refl, sym, ◌∙◌, ap, subst, append_assoc, append-nil, length-append, ⊎_elim, ◌⊎◌, inl, inr, arith}
use Rattle.std.specs.Prelude.{IsTrue, nat_le, nat_lt, nat_eq}
use Rattle.std.specs.List.{AllByRecursion, IsDistinct, list_all, position_or_len}
use Rattle.std.specs.Str.{bytes_eq}
use Rattle.std.proofs.lemmas.Bool.{cases_Bool, and_parts, ltb-true, lt-ltb, eqb-true, or_left}
use Rattle.std.proofs.lemmas.Slice.Eq.{bytes_eq-Decides}
use Rattle.cmd_tree.specs.Limits.{is_name, is_tail, is_letter, begins_with_letter}
use Rattle.trace_laws.specs.ListText.{trace_line, IsLine}
use Rattle.text_lines.specs.Pieces.{line_of}
use Rattle.trace_laws.specs.Mirror.Reading.{and_then, with_names, with_header, Headed, headed, symbol_of, with_symbols, trace_of, with_traces}
use Rattle.text_lines.specs.Pieces.{pieces}
use Rattle.text_lines.proofs.Cuts.{words_cut, words_back}
use Rattle.text_lines.specs.Pieces.{IsPiece}
use Rattle.trace_laws.proofs.Naming.{true_false, ok_err, AreNames, Put, put_names, names_put, names_line, own_place, found_name}

-- ---- one step after another
module _ {A B : Type 0} where
  pub then_ok : (r : Result A ℕ) (f : A → Result B ℕ) (b : B) → and_then r f ≡ Ok b → (a : A) × (r ≡ Ok a) × (f a ≡ Ok b)
  then_ok (Ok a) f b e = (a, refl, e)
  then_ok (Err n) f b e = ok_err (sym e)

  pub then_err : (r : Result A ℕ) (f : A → Result B ℕ) (n : ℕ) → and_then r f ≡ Err n → (r ≡ Err n) ⊎ ((a : A) × (r ≡ Ok a) × (f a ≡ Err n))
  then_err (Ok a) f n e = inr (a, refl, e)
  then_err (Err m) f n e = inl (let s : m ≡ n = cc in ap Err s)

ok_same : {A : Type 0} (a b : A) → ◌≡◌ {A = Result A ℕ} (Ok a) (Ok b) → a ≡ b
ok_same a b e = cc

err_same : {A : Type 0} (m n : ℕ) → ◌≡◌ {A = Result A ℕ} (Err m) (Err n) → m ≡ n
err_same m n e = cc

-- ---- the bytes of names
tails_apart : (c : ℕ) → is_tail c ≡ false → (bs : List ℕ) → list_all is_tail bs ≡ true → IsPiece c bs
tails_apart c f [] h = tt
tails_apart c f (b ∷ bs) h = let p = and_parts (is_tail b) (list_all is_tail bs) h in (λ e. true_false (sym p.0 ∙ ap is_tail e ∙ f), tails_apart c f bs p.1)

letter_tail : (b : ℕ) → is_letter b ≡ true → is_tail b ≡ true
letter_tail b h = or_left (is_letter b || (nat_le 48 b && nat_le b 57)) (nat_eq b 95) (or_left (is_letter b) (nat_le 48 b && nat_le b 57) h)

begins : (n : List ℕ) → IsTrue (is_name n) → begins_with_letter n ≡ true
begins n h = (and_parts _ (begins_with_letter n) (and_parts _ _ h).0).1

all_tails : (n : List ℕ) → begins_with_letter n ≡ true → list_all is_tail n ≡ true
all_tails [] h = refl
all_tails (b ∷ bs) h = let p = and_parts (is_letter b) (list_all is_tail bs) h in ap (λ t. t && list_all is_tail bs) (letter_tail b p.0) ∙ p.1

pub name_piece : (c : ℕ) → is_tail c ≡ false → (n : List ℕ) → IsTrue (is_name n) → IsPiece c n
name_piece c f n h = tails_apart c f n (all_tails n (begins n h))

some_begins : (n : List ℕ) → begins_with_letter n ≡ true → 0 < length n
some_begins [] h = true_false (sym h)
some_begins (b ∷ bs) h = omega arith

pub name_some : (n : List ℕ) → IsTrue (is_name n) → 0 < length n
name_some n h = some_begins n (begins n h)

pub names_pieces : (c : ℕ) → is_tail c ≡ false → (ns : List (List ℕ)) → AreNames ns → AllByRecursion (IsPiece c) ns
names_pieces c f [] h = tt
names_pieces c f (n ∷ ns) h = (name_piece c f n h.0, names_pieces c f ns h.1)

-- ---- a line of words without line feeds has none
lines_append : (s t : List ℕ) → IsLine s → IsLine t → IsLine (s ++ t)
lines_append [] t h k = k
lines_append (b ∷ s) t h k = (h.0, lines_append s t h.1 k)

pub words_line : (ws : List (List ℕ)) → AllByRecursion IsLine ws → IsLine (line_of ws)
words_line [] h = tt
words_line (w ∷ []) h = h.0
words_line (w ∷ v ∷ ws) h = lines_append w (32 ∷ line_of (v ∷ ws)) h.0 (blank, words_line (v ∷ ws) h.1)
  where
    blank : ◌≡◌ {A = ℕ} 32 10 → ⊥
    blank e = omega (arith, e)

-- ---- the header of a line
pub header_read : (line : ℕ) (word : List ℕ) (names ns : List (List ℕ)) (m : List ℕ) (ls : List (List ℕ)) → IsPiece 32 word → AreNames ns → IsDistinct bytes_eq (names ++ ns)
    → headed line word names (line_of (word ∷ ns) ∷ m ∷ ls) ≡ Ok (record { names = names ++ ns; lines = m ∷ ls })
header_read line word names ns m ls p n d =
    ap (λ ws. and_then (with_header line word names ws) (λ all. Ok (record { names = all; lines = m ∷ ls }))) (words_cut word ns (p, names_pieces 32 refl ns n))
    ∙ ap (λ b. and_then (cond b (with_names line names ns) (Err line)) (λ all. Ok (record { names = all; lines = m ∷ ls }))) ((bytes_eq-Decides word word).1 refl)
    ∙ ap (λ r. and_then r (λ all. Ok (record { names = all; lines = m ∷ ls }))) (names_put line names ns n d)

pub record Header (word : List ℕ) (names : List (List ℕ)) (ls : List (List ℕ)) (h : Headed) : Type 0 where
  pub own : List (List ℕ)
  pub put : Put names own h.names
  pub is : ls ≡ line_of (word ∷ own) ∷ h.lines
  pub next : List ℕ
  pub more : List (List ℕ)
  pub left : h.lines ≡ next ∷ more

header_words : (line : ℕ) (word : List ℕ) (names ws all : List (List ℕ)) → with_header line word names ws ≡ Ok all → (ns : List (List ℕ)) × (ws ≡ word ∷ ns) × (with_names line names ns ≡ Ok all)
header_words line word names [] all e = ok_err (sym e)
header_words line word names (w ∷ ws) all e = ⊎_elim
    (λ t. (ws, ap (λ v. v ∷ ws) ((bytes_eq-Decides w word).0 t), sym (ap (λ b. cond b (with_names line names ws) (Err line)) t) ∙ e))
    (λ f. ok_err (sym (sym (ap (λ b. cond b (with_names line names ws) (Err line)) f) ∙ e)))
    (cases_Bool (bytes_eq w word))

pub read_header : (line : ℕ) (word : List ℕ) (names ls : List (List ℕ)) (h : Headed) → IsDistinct bytes_eq names → headed line word names ls ≡ Ok h → Header word names ls h
read_header line word names [] h d e = ok_err (sym e)
read_header line word names (l ∷ []) h d e = ok_err (sym e)
read_header line word names (l ∷ m ∷ ls) h d e =
    let t = then_ok (with_header line word names (pieces 32 l)) (λ all. Ok (record { names = all; lines = m ∷ ls })) h e in
    let w = header_words line word names (pieces 32 l) t.0 t.1 in
    let s : record { names = t.0; lines = m ∷ ls } ≡ h = ok_same _ h t.2 in
    record {
      own = w.0;
      next = m;
      more = ls;
      put = subst (λ (k : Headed). Put names w.0 k.names) s (put_names line names w.0 t.0 d w.2);
      left = sym (ap (λ (k : Headed). k.lines) s);
      is = (λ i. (sym (words_back l) ∙ ap line_of w.1) i ∷ (s i).lines);
    }

header_line : (line : ℕ) (word : List ℕ) (names ws : List (List ℕ)) (n : ℕ) → with_header line word names ws ≡ Err n → n ≡ line
header_line line word names [] n e = sym (err_same line n e)
header_line line word names (w ∷ ws) n e = by (bytes_eq w word) e
  where
    by : (b : Bool) → cond b (with_names line names ws) (Err line) ≡ Err n → n ≡ line
    by true h = names_line line names ws n h
    by false h = sym (err_same line n h)

-- a header that is refused is refused whatever follows
pub record Unheaded (line : ℕ) (word : List ℕ) (names : List (List ℕ)) (l : List ℕ) (ls : List (List ℕ)) (n : ℕ) : Type 0 where
  pub number : n ≡ line
  pub always : (ls ≡ []) ⊎ ((m : List ℕ) (ms : List (List ℕ)) → headed line word names (l ∷ m ∷ ms) ≡ Err line)

pub refused_header : (line : ℕ) (word : List ℕ) (names : List (List ℕ)) (l : List ℕ) (ls : List (List ℕ)) (n : ℕ) → headed line word names (l ∷ ls) ≡ Err n → Unheaded line word names l ls n
refused_header line word names l [] n e = record { number = sym (err_same line n e); always = inl refl }
refused_header line word names l (m ∷ ls) n e = ⊎_elim
    (λ f. let k = header_line line word names (pieces 32 l) n f in record {
      number = k;
      always = inr (λ q qs. ap (λ r. and_then r (λ all. Ok (record { names = all; lines = q ∷ qs }))) (f ∙ ap Err k));
    })
    (λ t. ok_err t.2)
    (then_err (with_header line word names (pieces 32 l)) (λ all. Ok (record { names = all; lines = m ∷ ls })) n e)

-- ---- the symbols of a trace
abbrev pub name_at : List (List ℕ) → ℕ → List ℕ
name_at names a = get_or names a []

abbrev pub AreKnown : List (List ℕ) → List ℕ → Type 0
AreKnown names trace = AllByRecursion (λ a. a < length names) trace

symbol_read : (line : ℕ) (names : List (List ℕ)) (a : ℕ) → IsDistinct bytes_eq names → a < length names → symbol_of line names (name_at names a) ≡ Ok a
symbol_read line names a d l =
    ap (λ k. cond (nat_lt k (length names)) (Ok k) (Err line)) (own_place names a d l)
    ∙ ap (λ b. cond b (Ok a) (Err line)) (lt-ltb a (length names) l)

read_symbol : (line : ℕ) (names : List (List ℕ)) (w : List ℕ) (a : ℕ) → symbol_of line names w ≡ Ok a → (a < length names) × (name_at names a ≡ w)
read_symbol line names w a e = ⊎_elim
    (λ t. let s : position_or_len (bytes_eq w) names ≡ a = ok_same _ a (sym (ap (λ b. cond b (Ok (position_or_len (bytes_eq w) names)) (Err line)) t) ∙ e) in
    let l = ltb-true (position_or_len (bytes_eq w) names) (length names) t in
    (subst (λ k. k < length names) s l, subst (λ k. name_at names k ≡ w) s (found_name w names l)))
    (λ f. ok_err (sym (sym (ap (λ b. cond b (Ok (position_or_len (bytes_eq w) names)) (Err line)) f) ∙ e)))
    (cases_Bool (nat_lt (position_or_len (bytes_eq w) names) (length names)))

symbol_line : (line : ℕ) (names : List (List ℕ)) (w : List ℕ) (n : ℕ) → symbol_of line names w ≡ Err n → n ≡ line
symbol_line line names w n e = by (nat_lt (position_or_len (bytes_eq w) names) (length names)) e
  where
    by : (b : Bool) → cond b (Ok (position_or_len (bytes_eq w) names)) (Err line) ≡ Err n → n ≡ line
    by true h = ok_err h
    by false h = sym (err_same line n h)

symbols_read : (line : ℕ) (names : List (List ℕ)) (t v : List ℕ) → IsDistinct bytes_eq names → AreKnown names v → with_symbols line names t (map (name_at names) v) ≡ Ok (t ++ v)
symbols_read line names t [] d k = ap Ok (sym (append-nil t))
symbols_read line names t (a ∷ v) d k =
    ap (λ r. and_then r (λ b. with_symbols line names (t ++ b ∷ []) (map (name_at names) v))) (symbol_read line names a d k.0)
    ∙ symbols_read line names (t ++ a ∷ []) v d k.1
    ∙ ap Ok (append_assoc t (a ∷ []) v)

record Symbols (names : List (List ℕ)) (t : List ℕ) (ws : List (List ℕ)) (u : List ℕ) : Type 0 where
  more : List ℕ
  is : u ≡ t ++ more
  known : AreKnown names more
  named : map (name_at names) more ≡ ws

read_symbols : (line : ℕ) (names : List (List ℕ)) (t : List ℕ) (ws : List (List ℕ)) (u : List ℕ) → with_symbols line names t ws ≡ Ok u → Symbols names t ws u
read_symbols line names t [] u e = record { more = []; is = sym (ok_same t u e) ∙ sym (append-nil t); known = tt; named = refl }
read_symbols line names t (w ∷ ws) u e =
    let s = then_ok (symbol_of line names w) (λ b. with_symbols line names (t ++ b ∷ []) ws) u e in
    let a = read_symbol line names w s.0 s.1 in
    let r = read_symbols line names (t ++ s.0 ∷ []) ws u s.2 in
    record { more = s.0 ∷ r.more; is = r.is ∙ append_assoc t (s.0 ∷ []) r.more; known = (a.0, r.known); named = (λ i. a.1 i ∷ r.named i) }

symbols_line : (line : ℕ) (names : List (List ℕ)) (t : List ℕ) (ws : List (List ℕ)) (n : ℕ) → with_symbols line names t ws ≡ Err n → n ≡ line
symbols_line line names t [] n e = ok_err e
symbols_line line names t (w ∷ ws) n e = ⊎_elim (λ f. symbol_line line names w n f) (λ s. symbols_line line names (t ++ s.0 ∷ []) ws n s.2)
    (then_err (symbol_of line names w) (λ b. with_symbols line names (t ++ b ∷ []) ws) n e)

-- ---- the line of a trace
some_trace : (line : ℕ) (names : List (List ℕ)) (l : List ℕ) → 0 < length l → trace_of line names l ≡ with_symbols line names [] (pieces 32 l)
some_trace line names [] h = absurd (omega (arith, h))
some_trace line names (b ∷ bs) h = refl

named_at : (names : List (List ℕ)) (a : ℕ) → AreNames names → a < length names → IsTrue (is_name (name_at names a))
named_at [] a n l = absurd (omega (arith, l))
named_at (m ∷ ms) zero n l = n.0
named_at (m ∷ ms) (suc a) n l = named_at ms a n.1 (omega (arith, l))

pub names_of : (names : List (List ℕ)) (t : List ℕ) → AreNames names → AreKnown names t → AreNames (map (name_at names) t)
names_of names [] n k = tt
names_of names (a ∷ t) n k = (named_at names a n k.0, names_of names t n k.1)

some_line : (w : List ℕ) (ws : List (List ℕ)) → 0 < length w → 0 < length (line_of (w ∷ ws))
some_line w [] h = h
some_line w (v ∷ ws) h = omega (arith, h, length-append w (32 ∷ line_of (v ∷ ws)))

pub trace_read : (line : ℕ) (names : List (List ℕ)) (t : List ℕ) → AreNames names → IsDistinct bytes_eq names → AreKnown names t → trace_of line names (trace_line names t) ≡ Ok t
trace_read line names [] n d k = refl
trace_read line names (a ∷ t) n d k =
    let ns = names_of names (a ∷ t) n k in
    some_trace line names (trace_line names (a ∷ t)) (some_line (name_at names a) (map (name_at names) t) (name_some (name_at names a) ns.0))
    ∙ ap (with_symbols line names []) (words_cut (name_at names a) (map (name_at names) t) (names_pieces 32 refl (map (name_at names) (a ∷ t)) ns))
    ∙ symbols_read line names [] (a ∷ t) d k

pub read_trace : (line : ℕ) (names : List (List ℕ)) (l t : List ℕ) → trace_of line names l ≡ Ok t → (trace_line names t ≡ l) × AreKnown names t
read_trace line names [] t e = subst (λ u. (trace_line names u ≡ []) × AreKnown names u) (ok_same [] t e) (refl, tt)
read_trace line names (b ∷ bs) t e =
    let r = read_symbols line names [] (pieces 32 (b ∷ bs)) t e in
    (ap (trace_line names) r.is ∙ ap line_of r.named ∙ words_back (b ∷ bs), subst (AreKnown names) (sym r.is) r.known)

pub trace_number : (line : ℕ) (names : List (List ℕ)) (l : List ℕ) (n : ℕ) → trace_of line names l ≡ Err n → n ≡ line
trace_number line names [] n e = ok_err e
trace_number line names (b ∷ bs) n e = symbols_line line names [] (pieces 32 (b ∷ bs)) n e

-- ---- the lines of traces
abbrev pub AllKnown : List (List ℕ) → List (List ℕ) → Type 0
AllKnown names ts = AllByRecursion (AreKnown names) ts

-- traces that are known are read, whatever follows
pub traces_read : (line : ℕ) (names ts vs : List (List ℕ)) (m : List ℕ) (ms : List (List ℕ)) → AreNames names → IsDistinct bytes_eq names → AllKnown names vs
    → with_traces line names ts (map (trace_line names) vs ++ m ∷ ms) ≡ with_traces (line + length vs) names (ts ++ vs) (m ∷ ms)
traces_read line names ts [] m ms n d k = let e : line ≡ line + 0 = omega arith in λ i. with_traces (e i) names (sym (append-nil ts) i) (m ∷ ms)
traces_read line names ts (v ∷ vs) m ms n d k = step (map (trace_line names) vs ++ m ∷ ms) (some vs) ∙ traces_read (line + 1) names (ts ++ v ∷ []) vs m ms n d k.1 ∙ same
  where
    some : (us : List (List ℕ)) → (q : List ℕ) × (qs : List (List ℕ)) × (map (trace_line names) us ++ m ∷ ms ≡ q ∷ qs)
    some [] = (m, ms, refl)
    some (u ∷ us) = (trace_line names u, map (trace_line names) us ++ m ∷ ms, refl)

    step : (ps : List (List ℕ)) → (q : List ℕ) × (qs : List (List ℕ)) × (ps ≡ q ∷ qs) → with_traces line names ts (trace_line names v ∷ ps) ≡ with_traces (line + 1) names (ts ++ v ∷ []) ps
    step ps (q, qs, e) =
        ap (λ rs. with_traces line names ts (trace_line names v ∷ rs)) e
        ∙ ap (λ r. and_then r (λ t. with_traces (line + 1) names (ts ++ t ∷ []) (q ∷ qs))) (trace_read line names v n d k.0)
        ∙ ap (with_traces (line + 1) names (ts ++ v ∷ [])) (sym e)

    same : with_traces (line + 1 + length vs) names ((ts ++ v ∷ []) ++ vs) (m ∷ ms) ≡ with_traces (line + length (v ∷ vs)) names (ts ++ v ∷ vs) (m ∷ ms)
    same = let e : line + 1 + length vs ≡ line + length (v ∷ vs) = omega arith in λ i. with_traces (e i) names (append_assoc ts (v ∷ []) vs i) (m ∷ ms)

-- the traces that were read, behind which nothing is left
pub record Finished (line : ℕ) (names ts ls us : List (List ℕ)) : Type 0 where
  pub vs : List (List ℕ)
  pub all : us ≡ ts ++ vs
  pub known : AllKnown names vs
  pub is : ls ≡ map (trace_line names) vs ++ [] ∷ []

no_bytes : (l : List ℕ) → eqb (length l) 0 ≡ true → l ≡ []
no_bytes [] h = refl
no_bytes (b ∷ bs) h = absurd (omega (arith, eqb-true (length (b ∷ bs)) 0 h))

pub read_traces : (line : ℕ) (names ts ls us : List (List ℕ)) → with_traces line names ts ls ≡ Ok us → Finished line names ts ls us
read_traces line names ts [] us e = ok_err (sym e)
read_traces line names ts (l ∷ []) us e = ⊎_elim
    (λ t. record { vs = []; all = sym (ok_same ts us (sym (ap (λ b. cond b (Ok ts) (Err line)) t) ∙ e)) ∙ sym (append-nil ts); known = tt; is = ap (λ k. k ∷ []) (no_bytes l t) })
    (λ f. ok_err (sym (sym (ap (λ b. cond b (Ok ts) (Err line)) f) ∙ e)))
    (cases_Bool (eqb (length l) 0))
read_traces line names ts (l ∷ m ∷ ls) us e =
    let s = then_ok (trace_of line names l) (λ t. with_traces (line + 1) names (ts ++ t ∷ []) (m ∷ ls)) us e in
    let t = read_trace line names l s.0 s.1 in
    let r = read_traces (line + 1) names (ts ++ s.0 ∷ []) (m ∷ ls) us s.2 in
    record { vs = s.0 ∷ r.vs; all = r.all ∙ append_assoc ts (s.0 ∷ []) r.vs; known = (t.1, r.known); is = (λ i. sym t.0 i ∷ r.is i) }

-- The traces before the line that is refused; it is refused wherever a line feed stands behind it, or it is the last
-- piece and not empty.
pub record Untraced (line : ℕ) (names ls : List (List ℕ)) (n : ℕ) : Type 0 where
  pub vs : List (List ℕ)
  pub known : AllKnown names vs
  pub number : n ≡ line + length vs
  pub last : List ℕ
  pub left : List (List ℕ)
  pub is : ls ≡ map (trace_line names) vs ++ last ∷ left
  pub always : (left ≡ []) ⊎ (trace_of n names last ≡ Err n)

pub refused_traces : (line : ℕ) (names ts : List (List ℕ)) (l : List ℕ) (ls : List (List ℕ)) (n : ℕ) → with_traces line names ts (l ∷ ls) ≡ Err n → Untraced line names (l ∷ ls) n
refused_traces line names ts l [] n e = by (eqb (length l) 0) e
  where
    by : (b : Bool) → cond b (Ok ts) (Err line) ≡ Err n → Untraced line names (l ∷ []) n
    by true h = ok_err h
    by false h = record { vs = []; known = tt; number = sym (err_same line n h) ∙ (let z : line ≡ line + 0 = omega arith in z); last = l; left = []; is = refl; always = inl refl }
refused_traces line names ts l (m ∷ ls) n e = ⊎_elim
    (λ f. let k = trace_number line names l n f in record {
      vs = [];
      known = tt;
      number = k ∙ (let z : line ≡ line + 0 = omega arith in z);
      last = l;
      left = m ∷ ls;
      is = refl;
      always = inr (subst (λ j. trace_of j names l ≡ Err n) (sym k) f);
    })
    (λ s. let t = read_trace line names l s.0 s.1 in
    let r = refused_traces (line + 1) names (ts ++ s.0 ∷ []) m ls n s.2 in
    record {
      vs = s.0 ∷ r.vs;
      known = (t.1, r.known);
      number = r.number ∙ (let z : line + 1 + length r.vs ≡ line + length (s.0 ∷ r.vs) = omega arith in z);
      last = r.last;
      left = r.left;
      is = (λ i. sym t.0 i ∷ r.is i);
      always = r.always;
    })
    (then_err (trace_of line names l) (λ t. with_traces (line + 1) names (ts ++ t ∷ []) (m ∷ ls)) n e)
