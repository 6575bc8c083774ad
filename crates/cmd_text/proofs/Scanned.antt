-- What the scan of bytes gives: words are names, and where no token is faulty the last one is the end.
use Rattle.std.proofs.Common.{◌≡◌, ℕ, ◌+◌, ◌≤◌, Bool, true, false, List, [], ◌∷◌, ◌++◌, length, Option, Some, None, refl, sym, ◌∙◌, arith}
use Rattle.std.specs.Prelude.{⊤, ◌&&◌, ◌||◌, not, nat_lt, nat_le, nat_eq, codes, if◌then◌else◌}
use Rattle.std.specs.Option.{IfSome}
use Rattle.std.specs.List.{AllByRecursion, list_all}
use Rattle.std.specs.Str.{bytes_eq}
use Rattle.std.proofs.lemmas.Bool.{and_parts, ltb-false, leb-false}
use Rattle.std.proofs.lemmas.List.Folds.{list_all-append}
use Rattle.cmd_tree.specs.Limits.{is_word, is_letter, is_tail, begins_with_letter}
use Rattle.cmd_text.specs.Token.{Token, Let, Main, Pref, Define, Bar, Par, End, Word}
use Rattle.cmd_text.specs.File.{Placed}
use Rattle.cmd_text.specs.Text.{IsWord, IsToken}
use Rattle.cmd_text.specs.Fault.{Fault, BadByte, BadToken, NameTooLong}
use Rattle.cmd_text.specs.Scan.{Scanned, then_token, faulty, end_at, is_blank, is_digit, is_comment, sign, word, then_word, Mode, Between, InComment, InWord, AfterColon, AfterBar, then_sign, start, scan}
use Rattle.cmd_text.proofs.NamesKept.{true_false}

pub if_case : {A : Type 0} (P : A → Type 0) (b : Bool) (x y : A) → (b ≡ true → P x) → (b ≡ false → P y) → P (if b then x else y)
if_case P true x y f g = f refl
if_case P false x y f g = g refl

pub if_both : {A : Type 0} (P : A → Type 0) (b : Bool) (x y : A) → P x → P y → P (if b then x else y)
if_both P true x y f g = f
if_both P false x y f g = g

-- tokens are tokens of texts; and the last one is the end, where none is faulty
abbrev pub EndsWell : List Placed → Type 0
EndsWell [] = ⊥
EndsWell (x ∷ []) = x.tok ≡ End
EndsWell (x ∷ y ∷ xs) = EndsWell (y ∷ xs)

ends_more : (x : Placed) (xs : List Placed) → EndsWell xs → EndsWell (x ∷ xs)
ends_more x [] h = absurd h
ends_more x (y ∷ xs) h = h

pub record Proper (s : Scanned) : Type 0 where
  pub tokens : AllByRecursion IsToken s.toks
  pub ends : s.fault ≡ None → EndsWell s.toks

proper_fault : (f : Fault) → Proper (faulty f)
proper_fault f = record { tokens = tt; ends = λ e. absurd (cc) }

proper_end : (at : ℕ) → Proper (end_at at)
proper_end at = record { tokens = (tt, tt); ends = λ e. refl }

proper_then : (t : Token) (at : ℕ) (s : Scanned) → IsWord t → Proper s → Proper (then_token t at s)
proper_then t at s w p = record { tokens = (w, p.tokens); ends = λ e. ends_more (record { tok = t; at = at }) s.toks (p.ends e) }

name_by : (a b : Bool) → a ≡ true → b ≡ true → (c : Bool) → c ≡ false → (a && b && not c) ≡ true
name_by true true e f false g = refl
name_by true true e f true g = true_false g
name_by true false e f c g = true_false (sym f)
name_by false b e f c g = true_false (sym e)

no_word : (a b c : Bool) → a ≡ false → b ≡ false → c ≡ false → (a || b || c) ≡ false
no_word false false false d e f = refl
no_word true b c d e f = true_false d
no_word false true c d e f = true_false e
no_word false false true d e f = true_false f

short_by : (n : ℕ) (b : Bool) → nat_le n 32 ≡ b → n ≤ 32 → b ≡ true
short_by n true e h = refl
short_by n false e h = absurd (omega (arith, leb-false n 32 e))

short : (n : ℕ) → nat_lt 32 n ≡ false → nat_le n 32 ≡ true
short n e = short_by n (nat_le n 32) refl (ltb-false 32 n e)

pub is_token_word : (w : List ℕ) → nat_lt 32 (length w) ≡ false → begins_with_letter w ≡ true → IsWord (word w)
is_token_word w l b = if_case IsWord (bytes_eq w (codes "let")) Let (if bytes_eq w (codes "main") then Main else if bytes_eq w (codes "pref") then Pref else Word w) (λ e. tt) (λ d.
    if_case IsWord (bytes_eq w (codes "main")) Main (if bytes_eq w (codes "pref") then Pref else Word w) (λ e. tt) (λ e.
    if_case IsWord (bytes_eq w (codes "pref")) Pref (Word w) (λ f. tt) (λ f.
    name_by (nat_le (length w) 32) (begins_with_letter w) (short (length w) l) b (is_word w) (no_word (bytes_eq w (codes "let")) (bytes_eq w (codes "main")) (bytes_eq w (codes "pref")) d e f))))

proper_word : (at : ℕ) (w : List ℕ) (s : Scanned) → begins_with_letter w ≡ true → Proper s → Proper (then_word at w s)
proper_word at w s b p = if_case Proper (nat_lt 32 (length w)) (faulty (NameTooLong at)) (then_token (word w) at s) (λ e. proper_fault (NameTooLong at)) (λ e. proper_then (word w) at s (is_token_word w e b) p)

sign_word : (b : ℕ) → IfSome (sign b) IsWord
sign_word b = if_both P (nat_eq b 46) _ _ tt (if_both P (nat_eq b 59) _ _ tt (if_both P (nat_eq b 40) _ _ tt (if_both P (nat_eq b 41) _ _ tt (if_both P (nat_eq b 91) _ _ tt (if_both P (nat_eq b 93) _ _ tt (if_both P (nat_eq b 42) _ _ tt (if_both P (nat_eq b 63) _ _ tt (if_both P (nat_eq b 33) _ _ tt (if_both P (nat_eq b 44) _ _ tt (if_both P (nat_eq b 47) _ _ tt tt))))))))))
  where
    P : Option Token → Type 0
    P o = IfSome o IsWord

proper_sign : (o : Option Token) (at : ℕ) (s : Scanned) → IfSome o IsWord → Proper s → Proper (then_sign o at s)
proper_sign None at s w p = proper_fault (BadByte at)
proper_sign (Some t) at s w p = proper_then t at s w p

pub proper_start : (at b : ℕ) (next : Mode → Scanned) → Proper (next Between) → Proper (next InComment) → (is_letter b ≡ true → Proper (next (InWord at (b ∷ [])))) → Proper (next (AfterColon at)) → Proper (next (AfterBar at)) → Proper (start at b next)
proper_start at b next p q w c r = if_both Proper (is_blank b) _ _ p (if_both Proper (nat_eq b 35) _ _ q (if_case Proper (is_letter b) _ _ w (λ e.
    if_both Proper (nat_eq b 58) _ _ c (if_both Proper (nat_eq b 124) _ _ r (if_both Proper (is_digit b || nat_eq b 95) _ _ (proper_fault (BadToken at)) (proper_sign (sign b) at (next Between) (sign_word b) p))))))

abbrev pub GoodMode : Mode → Type 0
GoodMode (InWord p w) = begins_with_letter w ≡ true
GoodMode m = ⊤

and_true : (a b : Bool) → a ≡ true → b ≡ true → (a && b) ≡ true
and_true true b e f = f
and_true false b e f = true_false (sym e)

pub longer : (w : List ℕ) (b : ℕ) → begins_with_letter w ≡ true → is_tail b ≡ true → begins_with_letter (w ++ b ∷ []) ≡ true
longer [] b e f = true_false (sym e)
longer (c ∷ w) b e f = and_true (is_letter c) (list_all is_tail (w ++ b ∷ [])) (and_parts (is_letter c) (list_all is_tail w) e).0
    (list_all-append is_tail w (b ∷ []) ∙ and_true (list_all is_tail w) (is_tail b && true) (and_parts (is_letter c) (list_all is_tail w) e).1 (and_true (is_tail b) true f refl))

pub letter_word : (b : ℕ) → is_letter b ≡ true → begins_with_letter (b ∷ []) ≡ true
letter_word b e = and_true (is_letter b) true e refl

pub proper_scan : (bs : List ℕ) (m : Mode) (at : ℕ) → GoodMode m → Proper (scan m at bs)
proper_scan [] Between at g = proper_end at
proper_scan [] InComment at g = proper_end at
proper_scan [] (InWord p w) at g = proper_word p w (end_at at) g (proper_end at)
proper_scan [] (AfterColon p) at g = proper_fault (BadToken p)
proper_scan [] (AfterBar p) at g = proper_then Bar p (end_at at) tt (proper_end at)
proper_scan (b ∷ bs) Between at g = proper_start at b (λ m. scan m (at + 1) bs) (proper_scan bs Between (at + 1) tt) (proper_scan bs InComment (at + 1) tt) (λ e. proper_scan bs (InWord at (b ∷ [])) (at + 1) (letter_word b e)) (proper_scan bs (AfterColon at) (at + 1) tt) (proper_scan bs (AfterBar at) (at + 1) tt)
proper_scan (b ∷ bs) InComment at g = if_both Proper (nat_eq b 10) _ _ (proper_scan bs Between (at + 1) tt) (if_both Proper (is_comment b) _ _ (proper_scan bs InComment (at + 1) tt) (proper_fault (BadByte at)))
proper_scan (b ∷ bs) (InWord p w) at g = if_case Proper (is_tail b) _ _ (λ e. proper_scan bs (InWord p (w ++ b ∷ [])) (at + 1) (longer w b g e)) (λ e.
    proper_word p w (start at b (λ m. scan m (at + 1) bs)) g
    (proper_start at b (λ m. scan m (at + 1) bs) (proper_scan bs Between (at + 1) tt) (proper_scan bs InComment (at + 1) tt) (λ f. proper_scan bs (InWord at (b ∷ [])) (at + 1) (letter_word b f)) (proper_scan bs (AfterColon at) (at + 1) tt) (proper_scan bs (AfterBar at) (at + 1) tt)))
proper_scan (b ∷ bs) (AfterColon p) at g = if_both Proper (nat_eq b 61) _ _ (proper_then Define p (scan Between (at + 1) bs) tt (proper_scan bs Between (at + 1) tt)) (proper_fault (BadToken p))
proper_scan (b ∷ bs) (AfterBar p) at g = if_both Proper (nat_eq b 124) _ _ (proper_then Par p (scan Between (at + 1) bs) tt (proper_scan bs Between (at + 1) tt))
    (proper_then Bar p (start at b (λ m. scan m (at + 1) bs)) tt
    (proper_start at b (λ m. scan m (at + 1) bs) (proper_scan bs Between (at + 1) tt) (proper_scan bs InComment (at + 1) tt) (λ f. proper_scan bs (InWord at (b ∷ [])) (at + 1) (letter_word b f)) (proper_scan bs (AfterColon at) (at + 1) tt) (proper_scan bs (AfterBar at) (at + 1) tt)))
