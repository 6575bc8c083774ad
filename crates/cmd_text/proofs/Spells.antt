-- One token written before others: its bytes are scanned as that token, and the rest as before.
use Rattle.std.proofs.lemmas.Bool.{and_parts}
use Rattle.std.proofs.Common.{◌≡◌, ℕ, ◌+◌, Bool, true, false, List, [], ◌∷◌, ◌++◌, length, None, refl, sym, ◌∙◌, ap, subst, arith, append_assoc, append-nil}
use Rattle.std.specs.Prelude.{⊤, IsTrue, ◌&&◌, ◌||◌, not, nat_lt, nat_le, nat_eq, codes, if◌then◌else◌}
use Rattle.std.specs.List.{list_all}
use Rattle.std.specs.Str.{bytes_eq}
use Rattle.std.proofs.lemmas.Bool.Decides.{nat_tests}
use Rattle.cmd_tree.specs.Limits.{is_letter, is_tail, is_name, is_word, begins_with_letter}
use Rattle.cmd_text.specs.Token.{Token, Let, Main, Pref, Dot, Bar, Par, End, Word}
use Rattle.cmd_text.specs.Text.{tokens}
use Rattle.cmd_text.specs.Fault.{NameTooLong}
use Rattle.cmd_text.specs.Scan.{Scanned, then_token, faulty, is_blank, word, then_word, Mode, Between, InWord, start, scan}
use Rattle.cmd_text.proofs.NamesKept.{true_false}

-- a scan of these tokens, of which none is faulty
pub record Reads (r : List Token) (s : Scanned) : Type 0 where
  pub clean : s.fault ≡ None
  pub toks : tokens s.toks ≡ r

-- from any place the bytes are scanned as these tokens
pub record Spells (r : List Token) (q : List ℕ) : Type 0 where
  pub read : (at : ℕ) → Reads r (scan Between at q)

-- no bar comes first
abbrev pub IsUnbarred : List ℕ → Type 0
IsUnbarred [] = ⊤
IsUnbarred (b ∷ bs) = nat_eq b 124 ≡ false

-- the bytes may also stand behind a single bar
pub record Starts (r : List Token) (q : List ℕ) : Type 0 where
  pub spells : Spells r q
  pub unbarred : IsUnbarred q

-- a text in three parts, grouped from the left
pub regroup : (P : List ℕ → Type 0) (a b q : List ℕ) → P (a ++ (b ++ q)) → P ((a ++ b) ++ q)
regroup P a b q h = subst P (sym (append_assoc a b q)) h

pub reads_then : (t : Token) (at : ℕ) (r : List Token) (s : Scanned) → Reads r s → Reads (t ∷ r) (then_token t at s)
reads_then t at r s h = record { clean = h.clean; toks = ap (λ u. t ∷ u) h.toks }

-- ---- signs
pub sign_then : (b : ℕ) (t : Token) (r : List Token) (q : List ℕ) → ((at : ℕ) (next : Mode → Scanned) → start at b next ≡ then_token t at (next Between)) → Spells r q → Spells (t ∷ r) (b ∷ q)
sign_then b t r q e h = record { read = λ at. subst (λ s. Reads (t ∷ r) s) (sym (e at (λ m. scan m (at + 1) q))) (reads_then t at r (scan Between (at + 1) q) (h.read (at + 1))) }

pub par_then : (r : List Token) (q : List ℕ) → Spells r q → Spells (Par ∷ r) (124 ∷ 124 ∷ q)
par_then r q h = record { read = λ at. reads_then Par at r (scan Between (at + 1 + 1) q) (h.read (at + 1 + 1)) }

pub bar_then : (r : List Token) (q : List ℕ) → Starts r q → Spells (Bar ∷ r) (124 ∷ q)
bar_then r [] h = record { read = λ at. reads_then Bar at r (scan Between (at + 1) []) (h.spells.read (at + 1)) }
bar_then r (b ∷ bs) h = record {
  read = λ at. subst (λ u. Reads (Bar ∷ r) (if u then then_token Par at (scan Between (at + 1 + 1) bs) else then_token Bar at (scan Between (at + 1) (b ∷ bs)))) (sym h.unbarred)
      (reads_then Bar at r (scan Between (at + 1) (b ∷ bs)) (h.spells.read (at + 1)));
}

pub dot_last : Spells (Dot ∷ End ∷ []) (codes ".")
dot_last = record { read = λ at. record { clean = refl; toks = refl } }

-- ---- words
word_ends : (t : Token) (p : ℕ) (w : List ℕ) (r : List Token) (s : Scanned) → nat_lt 32 (length w) ≡ false → word w ≡ t → Reads r s → Reads (t ∷ r) (then_word p w s)
word_ends t p w r s l e h = subst (λ u. Reads (t ∷ r) (if u then faulty (NameTooLong p) else then_token (word w) p s)) (sym l)
    (subst (λ u. Reads (u ∷ r) (then_token (word w) p s)) e (reads_then (word w) p r s h))

-- the word v, of which w was scanned and bs is to come
in_word : (t : Token) (bs w v : List ℕ) (c p at : ℕ) (r : List Token) (q : List ℕ) → list_all is_tail bs ≡ true → is_tail c ≡ false → nat_lt 32 (length v) ≡ false → word v ≡ t → w ++ bs ≡ v → Spells r (c ∷ q) → Reads (t ∷ r) (scan (InWord p w) at (bs ++ c ∷ q))
in_word t [] w v c p at r q a f l g e h =
    let same : v ≡ w = sym e ∙ append-nil w in
    subst (λ u. Reads (t ∷ r) (if u then scan (InWord p (w ++ c ∷ [])) (at + 1) q else then_word p w (scan Between at (c ∷ q)))) (sym f)
    (word_ends t p w r (scan Between at (c ∷ q)) (subst (λ u. nat_lt 32 (length u) ≡ false) same l) (ap word (sym same) ∙ g) (h.read at))
in_word t (b ∷ bs) w v c p at r q a f l g e h =
    subst (λ u. Reads (t ∷ r) (if u then scan (InWord p (w ++ b ∷ [])) (at + 1) (bs ++ c ∷ q) else then_word p w (scan Between at (b ∷ (bs ++ c ∷ q))))) (sym (and_parts (is_tail b) (list_all is_tail bs) a).0)
    (in_word t bs (w ++ b ∷ []) v c p (at + 1) r q (and_parts (is_tail b) (list_all is_tail bs) a).1 f l g (append_assoc w (b ∷ []) bs ∙ e) h)

pub pref_then : (c : ℕ) (r : List Token) (q : List ℕ) → is_tail c ≡ false → Spells r (c ∷ q) → Spells (Pref ∷ r) (codes "pref" ++ c ∷ q)
pref_then c r q f h = record { read = λ at. in_word Pref (codes "ref") (codes "p") (codes "pref") c at (at + 1) r q refl f refl refl refl h }

-- ---- names
letter_dark : (b : ℕ) → is_letter b ≡ true → is_blank b ≡ false
letter_dark b h = grind (arith, nat_tests)

letter_not_hash : (b : ℕ) → is_letter b ≡ true → nat_eq b 35 ≡ false
letter_not_hash b h = grind (arith, nat_tests)

letter_not_bar : (b : ℕ) → is_letter b ≡ true → nat_eq b 124 ≡ false
letter_not_bar b h = grind (arith, nat_tests)

third : {A : Type 0} → (x y z w : A) (a b c : Bool) → a ≡ false → b ≡ false → c ≡ true → (if a then x else if b then y else if c then z else w) ≡ z
third x y z w true b c e f g = true_false e
third x y z w false true c e f g = true_false f
third x y z w false false true e f g = refl
third x y z w false false false e f g = true_false (sym g)

letter_starts : (at b : ℕ) (next : Mode → Scanned) → is_letter b ≡ true → start at b next ≡ next (InWord at (b ∷ []))
letter_starts at b next h = third _ _ _ _ (is_blank b) (nat_eq b 35) (is_letter b) (letter_dark b h) (letter_not_hash b h) h

no_word : (a b c : Bool) (n : List ℕ) → not (a || b || c) ≡ true → (if a then Let else if b then Main else if c then Pref else Word n) ≡ Word n
no_word true b c n h = true_false (sym h)
no_word false true c n h = true_false (sym h)
no_word false false true n h = true_false (sym h)
no_word false false false n h = refl

short_name : (k : ℕ) → nat_le k 32 ≡ true → nat_lt 32 k ≡ false
short_name k h = grind (arith, nat_tests)

-- a name is a word of the text
pub name_then : (n : List ℕ) (c : ℕ) (r : List Token) (q : List ℕ) → IsTrue (is_name n) → is_tail c ≡ false → Spells r (c ∷ q) → Starts (Word n ∷ r) (n ++ c ∷ q)
name_then [] c r q h f g = true_false (sym h)
name_then (b ∷ bs) c r q h f g =
    let n = b ∷ bs in
    let formed : (nat_le (length n) 32 && begins_with_letter n) ≡ true = (and_parts (nat_le (length n) 32 && begins_with_letter n) (not (is_word n)) h).0 in
    let free : not (is_word n) ≡ true = (and_parts (nat_le (length n) 32 && begins_with_letter n) (not (is_word n)) h).1 in
    let short : nat_le (length n) 32 ≡ true = (and_parts (nat_le (length n) 32) (begins_with_letter n) formed).0 in
    let begins : (is_letter b && list_all is_tail bs) ≡ true = (and_parts (nat_le (length n) 32) (begins_with_letter n) formed).1 in
    let first : is_letter b ≡ true = (and_parts (is_letter b) (list_all is_tail bs) begins).0 in
    record {
      spells = record {
        read = λ at. subst (λ s. Reads (Word n ∷ r) s) (sym (letter_starts at b (λ m. scan m (at + 1) (bs ++ c ∷ q)) first))
            (in_word (Word n) bs (b ∷ []) n c at (at + 1) r q (and_parts (is_letter b) (list_all is_tail bs) begins).1 f (short_name (length n) short) (no_word (bytes_eq n (codes "let")) (bytes_eq n (codes "main")) (bytes_eq n (codes "pref")) n free) refl g);
      };
      unbarred = letter_not_bar b first;
    }
