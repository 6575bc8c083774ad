-- One step of a scan at a place of the bytes.
use Rattle.std.proofs.Common.{◌≡◌, ℕ, suc, ◌+◌, ◌-◌, ◌<◌, ◌≤◌, Bool, true, false, List, [], ◌∷◌, ◌++◌, length, get_or, take, drop, refl, sym, ◌∙◌, ap, arith, add-one, length-drop, length-take, get_or-drop}
use Rattle.std.specs.Prelude.{nat_eq, nat_lt, codes, if◌then◌else◌}
use Rattle.std.specs.Str.{bytes_eq}
use Rattle.std.proofs.lemmas.Bool.{ltb-true}
use Rattle.std.proofs.lemmas.Bool.Decides.{Decides-ltb}
use Rattle.std.specs.List.{slice_range}
use Rattle.std.proofs.Math.Seq.{drop-cons, take-suc}
use Rattle.cmd_tree.specs.Limits.{is_tail}
use Rattle.cmd_text.specs.declared.token.Token.{Token}
use Rattle.cmd_text.specs.declared.token.Token.TheVariants as code
use Rattle.cmd_text.specs.Mirror.ScanView.{token_of, after, IsPlain}
use Rattle.cmd_text.specs.Token.{Define, Bar, Par, End, Let, Main, Pref, Word}
use Rattle.cmd_text.specs.Fault.{BadByte, BadToken, NameTooLong}
use Rattle.cmd_text.specs.Scan.{Scanned, then_token, faulty, end_at, is_comment, word, then_word, Between, InComment, InWord, AfterColon, AfterBar, start, scan}

drop_here : (bs : List ℕ) (i : ℕ) → i < length bs → drop i bs ≡ get_or bs i 0 ∷ drop (i + 1) bs
drop_here bs i h = drop-cons bs i 0 h ∙ ap (λ j. get_or bs i 0 ∷ drop j bs) (sym (add-one i))

drop_past : (bs : List ℕ) (i : ℕ) → length bs ≤ i → drop i bs ≡ []
drop_past bs i h = nil (drop i bs) (omega (arith, length-drop i bs))
  where
    nil : (xs : List ℕ) → length xs ≡ 0 → xs ≡ []
    nil [] e = refl
    nil (x ∷ xs) e = absurd (omega arith)

pub between_step : (bs : List ℕ) (i : ℕ) → i < length bs → scan Between i (drop i bs) ≡ start i (get_or bs i 0) (λ m. scan m (i + 1) (drop (i + 1) bs))
between_step bs i h = ap (λ xs. scan Between i xs) (drop_here bs i h)

pub between_out : (bs : List ℕ) (i : ℕ) → length bs ≤ i → scan Between i (drop i bs) ≡ end_at i
between_out bs i h = ap (λ xs. scan Between i xs) (drop_past bs i h)

pub comment_step : (bs : List ℕ) (i : ℕ) → i < length bs → scan InComment i (drop i bs) ≡ (if nat_eq (get_or bs i 0) 10 then scan Between (i + 1) (drop (i + 1) bs) else if is_comment (get_or bs i 0) then scan InComment (i + 1) (drop (i + 1) bs) else faulty (BadByte i))
comment_step bs i h = ap (λ xs. scan InComment i xs) (drop_here bs i h)

pub comment_out : (bs : List ℕ) (i : ℕ) → length bs ≤ i → scan InComment i (drop i bs) ≡ scan Between i (drop i bs)
comment_out bs i h = ap (λ xs. scan InComment i xs) (drop_past bs i h) ∙ sym (between_out bs i h)

pub word_step : (bs : List ℕ) (p : ℕ) (w : List ℕ) (i : ℕ) → i < length bs → scan (InWord p w) i (drop i bs) ≡ (if is_tail (get_or bs i 0) then scan (InWord p (w ++ get_or bs i 0 ∷ [])) (i + 1) (drop (i + 1) bs) else then_word p w (scan Between i (drop i bs)))
word_step bs p w i h = ap (λ xs. scan (InWord p w) i xs) (drop_here bs i h)
    ∙ ap (λ s. if is_tail (get_or bs i 0) then scan (InWord p (w ++ get_or bs i 0 ∷ [])) (i + 1) (drop (i + 1) bs) else then_word p w s) (sym (between_step bs i h))

pub word_out : (bs : List ℕ) (p : ℕ) (w : List ℕ) (i : ℕ) → length bs ≤ i → scan (InWord p w) i (drop i bs) ≡ then_word p w (scan Between i (drop i bs))
word_out bs p w i h = ap (λ xs. scan (InWord p w) i xs) (drop_past bs i h) ∙ ap (λ s. then_word p w s) (sym (between_out bs i h))

pub bar_step : (bs : List ℕ) (p i : ℕ) → i < length bs → scan (AfterBar p) i (drop i bs) ≡ (if nat_eq (get_or bs i 0) 124 then then_token Par p (scan Between (i + 1) (drop (i + 1) bs)) else then_token Bar p (scan Between i (drop i bs)))
bar_step bs p i h = ap (λ xs. scan (AfterBar p) i xs) (drop_here bs i h)
    ∙ ap (λ s. if nat_eq (get_or bs i 0) 124 then then_token Par p (scan Between (i + 1) (drop (i + 1) bs)) else then_token Bar p s) (sym (between_step bs i h))

pub bar_out : (bs : List ℕ) (p i : ℕ) → length bs ≤ i → scan (AfterBar p) i (drop i bs) ≡ then_token Bar p (scan Between i (drop i bs))
bar_out bs p i h = ap (λ xs. scan (AfterBar p) i xs) (drop_past bs i h) ∙ ap (λ s. then_token Bar p s) (sym (between_out bs i h))

pub colon_step : (bs : List ℕ) (p i : ℕ) → i < length bs → scan (AfterColon p) i (drop i bs) ≡ (if nat_eq (get_or bs i 0) 61 then then_token Define p (scan Between (i + 1) (drop (i + 1) bs)) else faulty (BadToken p))
colon_step bs p i h = ap (λ xs. scan (AfterColon p) i xs) (drop_here bs i h)

pub colon_out : (bs : List ℕ) (p i : ℕ) → length bs ≤ i → scan (AfterColon p) i (drop i bs) ≡ faulty (BadToken p)
colon_out bs p i h = ap (λ xs. scan (AfterColon p) i xs) (drop_past bs i h)

-- ---- what a word has
pub range_first : (bs : List ℕ) (p : ℕ) → p < length bs → slice_range bs p (p + 1) ≡ get_or bs p 0 ∷ []
range_first bs p h = let e : (p + 1) - p ≡ 1 = omega arith in ap (λ xs. take ((p + 1) - p) xs) (drop_here bs p h) ∙ ap (λ n. take n (get_or bs p 0 ∷ drop (p + 1) bs)) e

pub range_more : (bs : List ℕ) (p i : ℕ) → p ≤ i → i < length bs → slice_range bs p (i + 1) ≡ slice_range bs p i ++ get_or bs i 0 ∷ []
range_more bs p i h l =
    let k : i - p < length (drop p bs) = omega (arith, length-drop p bs) in
    let e : (i + 1) - p ≡ suc (i - p) = omega arith in
    let j : p + (i - p) ≡ i = omega arith in
    let g : get_or (drop p bs) (i - p) 0 ≡ get_or bs i 0 = get_or-drop p bs (i - p) 0 ∙ ap (λ j. get_or bs j 0) j in
    ap (λ n. take n (drop p bs)) e ∙ take-suc (drop p bs) (i - p) 0 k ∙ ap (λ x. take (i - p) (drop p bs) ++ x ∷ []) g

-- a plain sign needs no bytes, and is not the end
pub plain_sign : (t : Token) (at : ℕ) (w : List ℕ) (next : ℕ) (bs : List ℕ) → IsPlain t → then_token (token_of t []) at (scan Between next (drop next bs)) ≡ then_token (token_of t w) at (after t next bs)
plain_sign code.End at w next bs h = absurd h
plain_sign code.Word at w next bs h = absurd h
plain_sign t at w next bs h = refl

-- a word is not the end
pub word_after : (t : Token) (w : List ℕ) (next : ℕ) (bs : List ℕ) → token_of t w ≡ word w → after t next bs ≡ scan Between next (drop next bs)
word_after code.End w next bs h = absurd (not_end (bytes_eq w (codes "let")) (bytes_eq w (codes "main")) (bytes_eq w (codes "pref")) w h)
  where
    not_end : (a b c : Bool) (v : List ℕ) → End ≡ (if a then Let else if b then Main else if c then Pref else Word v) → ⊥
    not_end true b c v e = cc
    not_end false true c v e = cc
    not_end false false true v e = cc
    not_end false false false v e = cc
word_after code.Let w next bs h = refl
word_after t w next bs h = refl

range_length : (bs : List ℕ) (p next : ℕ) → next ≤ length bs → length (slice_range bs p next) ≡ next - p
range_length bs p next h = omega (arith, length-take (next - p) (drop p bs), length-drop p bs)

if_true : {A : Type 0} (b : Bool) (x y : A) → b ≡ true → (if b then x else y) ≡ x
if_true true x y e = refl
if_true false x y e = absurd (cc)

if_false : {A : Type 0} (b : Bool) (x y : A) → b ≡ false → (if b then x else y) ≡ y
if_false true x y e = absurd (cc)
if_false false x y e = refl

word_here : (bs : List ℕ) (at : ℕ) (s : Scanned) → at < length bs → scan (InWord at (slice_range bs at (at + 1))) (at + 1) (drop (at + 1) bs) ≡ s → scan (InWord at (get_or bs at 0 ∷ [])) (at + 1) (drop (at + 1) bs) ≡ s
word_here bs at s h e = ap (λ w. scan (InWord at w) (at + 1) (drop (at + 1) bs)) (sym (range_first bs at h)) ∙ e

long_test : (n : ℕ) → 32 < n → nat_lt 32 n ≡ true
long_test n h = (Decides-ltb 32 n).1 h

short_by : (n : ℕ) (b : Bool) → nat_lt 32 n ≡ b → n ≤ 32 → b ≡ false
short_by n true e h = absurd (omega (arith, ltb-true 32 n e))
short_by n false e h = refl

pub too_long : (bs : List ℕ) (at next : ℕ) → at < length bs → next ≤ length bs → 32 < next - at → scan (InWord at (slice_range bs at (at + 1))) (at + 1) (drop (at + 1) bs) ≡ then_word at (slice_range bs at next) (scan Between next (drop next bs)) → scan (InWord at (get_or bs at 0 ∷ [])) (at + 1) (drop (at + 1) bs) ≡ faulty (NameTooLong at)
too_long bs at next h l m e = word_here bs at (then_word at (slice_range bs at next) (scan Between next (drop next bs))) h e
    ∙ if_true (nat_lt 32 (length (slice_range bs at next))) (faulty (NameTooLong at)) (then_token (word (slice_range bs at next)) at (scan Between next (drop next bs))) (ap (λ n. nat_lt 32 n) (range_length bs at next l) ∙ long_test (next - at) m)

pub well_named : (bs : List ℕ) (at next : ℕ) (t : Token) → at < length bs → next ≤ length bs → next - at ≤ 32 → token_of t (slice_range bs at next) ≡ word (slice_range bs at next) → scan (InWord at (slice_range bs at (at + 1))) (at + 1) (drop (at + 1) bs) ≡ then_word at (slice_range bs at next) (scan Between next (drop next bs)) → scan (InWord at (get_or bs at 0 ∷ [])) (at + 1) (drop (at + 1) bs) ≡ then_token (token_of t (slice_range bs at next)) at (after t next bs)
well_named bs at next t h l m k e = word_here bs at (then_word at (slice_range bs at next) (scan Between next (drop next bs))) h e
    ∙ if_false (nat_lt 32 (length (slice_range bs at next))) (faulty (NameTooLong at)) (then_token (word (slice_range bs at next)) at (scan Between next (drop next bs))) (ap (λ n. nat_lt 32 n) (range_length bs at next l) ∙ short_by (next - at) (nat_lt 32 (next - at)) refl m)
    ∙ ap (λ u. then_token u at (scan Between next (drop next bs))) (sym k)
    ∙ ap (λ v. then_token (token_of t (slice_range bs at next)) at v) (sym (word_after t (slice_range bs at next) next bs k))

pub ruleset cuts = (between_step, between_out, comment_step, comment_out, word_step, word_out, bar_step, bar_out, colon_step, colon_out, range_first, range_more, plain_sign)
