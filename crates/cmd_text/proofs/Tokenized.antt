-- The scan of bytes gives their tokens: gaps and tokens in order, each as long as it can be.
use Rattle.std.proofs.Common.{◌≡◌, ℕ, ◌+◌, Bool, true, false, List, [], ◌∷◌, ◌++◌, length, Option, Some, None, refl, sym, ◌∙◌, ap, subst, append_assoc, append-nil, length-append, arith}
use Rattle.std.specs.Prelude.{◌&&◌, ◌||◌, nat_lt, nat_eq, IsTrue, codes, if◌then◌else◌}
use Rattle.std.specs.Option.{IfSome}
use Rattle.std.specs.List.{AllByRecursion, list_any, list_all}
use Rattle.std.specs.Str.{bytes_eq}
use Rattle.std.proofs.lemmas.Bool.{eqb-true, ltb-true}
use Rattle.std.proofs.lemmas.Bool.Decides.{nat_tests}
use Rattle.std.proofs.lemmas.Slice.Eq.{bytes_eq-Decides}
use Rattle.cmd_tree.specs.Limits.{is_letter, is_tail, begins_with_letter}
use Rattle.cmd_text.specs.Token.{Token, Let, Main, Pref, Define, Dot, Semi, Bar, Par, Open, Close, LeftSq, RightSq, Star, Ask, Bang, Comma, Slash, End, Word}
use Rattle.cmd_text.specs.File.{Placed}
use Rattle.cmd_text.specs.Text.{IsWord}
use Rattle.cmd_text.specs.Fault.{Fault, BadByte, BadToken, NameTooLong}
use Rattle.cmd_text.specs.Scan.{Scanned, then_token, faulty, end_at, is_blank, is_digit, is_comment, sign, word, then_word, Mode, Between, InComment, InWord, AfterColon, AfterBar, then_sign, start, scan, bytes_of}
use Rattle.cmd_text.specs.Tokens.{signs, is_spelled, IsComment, IsGap, nothing, blank, comment, IsLastGap, plain, open_comment, IsLongest, BeginsNothing, is_stump, Spells, IsStop, AreTokens, ends, stops, goes_on}
use Rattle.cmd_text.specs.Tokens as tokens
use Rattle.cmd_text.proofs.NamesKept.{true_false}
use Rattle.cmd_text.proofs.Scanned.{if_case, is_token_word, longer, letter_word}

-- ---- gaps before gaps
gap_append : (g h : List ℕ) → IsGap g → IsGap h → IsGap (g ++ h)
gap_append _ h nothing k = k
gap_append _ h (blank b g e i) k = blank b (g ++ h) e (gap_append g h i k)
gap_append _ h (comment c g e i) k = subst IsGap (sym (append_assoc c (10 ∷ g) h)) (comment c (g ++ h) e (gap_append g h i k))

gap_last : (g h : List ℕ) → IsGap g → IsLastGap h → IsLastGap (g ++ h)
gap_last g _ k (plain h i) = plain (g ++ h) (gap_append g h k i)
gap_last g _ k (open_comment h c i e) = subst IsLastGap (append_assoc g h c) (open_comment (g ++ h) c (gap_append g h k i) e)

further : (p q : ℕ) (g h : List ℕ) → q ≡ p + length g → p + length (g ++ h) ≡ q + length h
further p q g h e = omega (arith, length-append g h)

behind : (p q : ℕ) (g bs : List ℕ) (xs : List Placed) (f : Option Fault) → q ≡ p + length g → IsGap g → AreTokens q bs xs f → AreTokens p (g ++ bs) xs f
behind p q g _ _ _ e k (ends _ h i) = subst (λ n. AreTokens p (g ++ h) (record { tok = End; at = n } ∷ []) None) (further p q g h e) (ends p (g ++ h) (gap_last g h k i))
behind p q g _ _ _ e k (stops _ h rest f i s) = subst (λ v. AreTokens p v [] (Some f)) (append_assoc g h rest)
    (stops p (g ++ h) rest f (gap_append g h k i) (subst (λ n. IsStop n rest f) (sym (further p q g h e)) s))
behind p q g _ _ _ e k (goes_on _ h w rest t xs f i l s r) = subst (λ v. AreTokens p v (record { tok = t; at = q + length h } ∷ xs) f) (append_assoc g h (w ++ rest))
    (subst (λ n. AreTokens p ((g ++ h) ++ (w ++ rest)) (record { tok = t; at = n } ∷ xs) f) (further p q g h e)
    (goes_on p (g ++ h) w rest t xs f (gap_append g h k i) l s (subst (λ n. AreTokens (n + length w) rest xs f) (sym (further p q g h e)) r)))

-- ---- one token, one fault, the end, with no gap before
abbrev At : ℕ → List ℕ → Scanned → Type 0
At p bs s = AreTokens p bs s.toks s.fault

nil_place : (p : ℕ) → p + length {A = ℕ} [] ≡ p
nil_place p = omega arith

token_here : (p q : ℕ) (w rest : List ℕ) (t : Token) (s : Scanned) → q ≡ p + length w → IsLongest w rest → Spells w t → At q rest s → At p (w ++ rest) (then_token t p s)
token_here p q w rest t s e l k r = subst (λ n. AreTokens p (w ++ rest) (record { tok = t; at = n } ∷ s.toks) s.fault) (nil_place p)
    (goes_on p [] w rest t s.toks s.fault nothing l k (subst (λ n. At n rest s) (let z : q ≡ p + length {A = ℕ} [] + length w = omega arith in z) r))

stop_here : (p : ℕ) (rest : List ℕ) (f : Fault) → IsStop p rest f → At p rest (faulty f)
stop_here p rest f s = stops p [] rest f nothing (subst (λ n. IsStop n rest f) (sym (nil_place p)) s)

end_here : (p : ℕ) → At p [] (end_at p)
end_here p = subst (λ n. AreTokens p [] (record { tok = End; at = n } ∷ []) None) (nil_place p) (ends p [] (plain [] nothing))

-- ---- what is not spelled
peel : (t : Bool) (x : Token) (r : Option Token) → (if t then Some x else r) ≡ None → (t ≡ false) × (r ≡ None)
peel true x r e = absurd (cc)
peel false x r e = (refl, e)

neither : (t r u : Bool) → t ≡ false → u ≡ false → ((t && r) || u) ≡ false
neither true r u e f = true_false e
neither false r u e f = f

unsigned : (b : ℕ) (v : List ℕ) → nat_eq b 58 ≡ false → nat_eq b 124 ≡ false → sign b ≡ None → list_any (bytes_eq (b ∷ v)) signs ≡ false
unsigned b v c r e0 =
    let (d, e1) = peel (nat_eq b 46) Dot _ e0 in
    let (s, e2) = peel (nat_eq b 59) Semi _ e1 in
    let (o, e3) = peel (nat_eq b 40) Open _ e2 in
    let (q, e4) = peel (nat_eq b 41) Close _ e3 in
    let (l, e5) = peel (nat_eq b 91) LeftSq _ e4 in
    let (m, e6) = peel (nat_eq b 93) RightSq _ e5 in
    let (n, e7) = peel (nat_eq b 42) Star _ e6 in
    let (a, e8) = peel (nat_eq b 63) Ask _ e7 in
    let (g, e9) = peel (nat_eq b 33) Bang _ e8 in
    let (k, e10) = peel (nat_eq b 44) Comma _ e9 in
    let (h, e11) = peel (nat_eq b 47) Slash _ e10 in
    neither (nat_eq b 58) _ _ c (neither (nat_eq b 46) _ _ d (neither (nat_eq b 59) _ _ s (neither (nat_eq b 124) _ _ r (neither (nat_eq b 124) _ _ r
    (neither (nat_eq b 40) _ _ o (neither (nat_eq b 41) _ _ q (neither (nat_eq b 91) _ _ l (neither (nat_eq b 93) _ _ m (neither (nat_eq b 42) _ _ n
    (neither (nat_eq b 63) _ _ a (neither (nat_eq b 33) _ _ g (neither (nat_eq b 44) _ _ k (neither (nat_eq b 47) _ _ h refl)))))))))))))

digit_unsigned : (b : ℕ) → (is_digit b || nat_eq b 95) ≡ true → sign b ≡ None
digit_unsigned b h = grind (arith, nat_tests)

letter_apart : (b : ℕ) → is_letter b ≡ true → (nat_eq b 58 ≡ false) × (nat_eq b 124 ≡ false) × (sign b ≡ None)
letter_apart b h = (grind (arith, nat_tests), grind (arith, nat_tests), grind (arith, nat_tests))

-- the first of a text that is cut in two
same_first : {b x : ℕ} {rest v : List ℕ} → b ∷ rest ≡ x ∷ v → b ≡ x
same_first e = cc

unspelled : (b : ℕ) (v : List ℕ) → is_letter b ≡ false → nat_eq b 58 ≡ false → nat_eq b 124 ≡ false → sign b ≡ None → is_spelled (b ∷ v) ≡ false
unspelled b v l c r s = by (list_any (bytes_eq (b ∷ v)) signs) (is_letter b) (list_all is_tail v) (unsigned b v c r s) l
  where
    by : (t u w : Bool) → t ≡ false → u ≡ false → (t || (u && w)) ≡ false
    by true u w e f = true_false e
    by false true w e f = true_false f
    by false false w e f = refl

begins_nothing : (b : ℕ) (rest : List ℕ) → is_letter b ≡ false → nat_eq b 58 ≡ false → nat_eq b 124 ≡ false → sign b ≡ None → BeginsNothing (b ∷ rest)
begins_nothing b rest l c r s [] u e = refl
begins_nothing b rest l c r s (x ∷ v) u e = subst (λ y. is_spelled (y ∷ v) ≡ false) (same_first e) (unspelled b v l c r s)

colon_alone : (rest : List ℕ) → ((b : ℕ) (bs : List ℕ) → rest ≡ b ∷ bs → nat_eq b 61 ≡ false) → BeginsNothing (58 ∷ rest)
colon_alone rest h [] u e = refl
colon_alone rest h (x ∷ []) u e = subst (λ y. is_spelled (y ∷ []) ≡ false) (same_first e) refl
colon_alone rest h (x ∷ y ∷ v) u e = subst (λ k. is_spelled (k ∷ y ∷ v) ≡ false) (same_first e) (by (h y (v ++ u) (same_rest e)))
  where
    same_rest : {a b : ℕ} {r s : List ℕ} → a ∷ r ≡ b ∷ s → r ≡ s
    same_rest k = cc

    by : nat_eq y 61 ≡ false → is_spelled (58 ∷ y ∷ v) ≡ false
    by k = rw k refl

-- ---- words
word_spells : (w : List ℕ) → nat_lt 32 (length w) ≡ false → begins_with_letter w ≡ true → Spells w (word w)
word_spells w short letter = record { bytes = by; word = is_token_word w short letter }
  where
    P : Token → Type 0
    P t = bytes_of t ≡ w

    same : (v : List ℕ) → bytes_eq w v ≡ true → v ≡ w
    same v e = sym ((bytes_eq-Decides w v).0 e)

    by : bytes_of (word w) ≡ w
    by = if_case P (bytes_eq w (codes "let")) Let _ (same (codes "let")) (λ d. if_case P (bytes_eq w (codes "main")) Main _ (same (codes "main")) (λ e. if_case P (bytes_eq w (codes "pref")) Pref (Word w) (same (codes "pref")) (λ f. refl)))

-- what comes next is no part of a word
abbrev StopsWord : List ℕ → Type 0
StopsWord rest = (x : ℕ) (v : List ℕ) → rest ≡ x ∷ v → is_tail x ≡ false

no_tail : (w : List ℕ) (x : ℕ) (v : List ℕ) → is_tail x ≡ false → list_all is_tail (w ++ x ∷ v) ≡ false
no_tail [] x v e = by (is_tail x) (list_all is_tail v) e
  where
    by : (a b : Bool) → a ≡ false → (a && b) ≡ false
    by true b f = true_false f
    by false b f = refl
no_tail (c ∷ w) x v e = by (is_tail c) (list_all is_tail (w ++ x ∷ v)) (no_tail w x v e)
  where
    by : (a b : Bool) → b ≡ false → (a && b) ≡ false
    by true b f = f
    by false b f = refl

word_longest : (w rest : List ℕ) → begins_with_letter w ≡ true → StopsWord rest → IsLongest w rest
word_longest w rest letter stop = record { spelled = or_last (list_any (bytes_eq w) signs) (begins_with_letter w) letter; longest = λ x v u e. longer_not w letter x v (stop x (v ++ u) e) }
  where
    or_last : (a b : Bool) → b ≡ true → (a || b) ≡ true
    or_last true b e = refl
    or_last false b e = e

    first_letter : (c : ℕ) (k : List ℕ) → begins_with_letter (c ∷ k) ≡ true → is_letter c ≡ true
    first_letter c k e = by (is_letter c) (list_all is_tail k) e
      where
        by : (a b : Bool) → (a && b) ≡ true → a ≡ true
        by true b f = refl
        by false b f = true_false (sym f)

    longer_not : (k : List ℕ) → begins_with_letter k ≡ true → (x : ℕ) (v : List ℕ) → is_tail x ≡ false → is_spelled (k ++ x ∷ v) ≡ false
    longer_not [] e x v f = true_false (sym e)
    longer_not (c ∷ k) e x v f = let a = letter_apart c (first_letter c k e) in by (list_any (bytes_eq (c ∷ (k ++ x ∷ v))) signs) (is_letter c) (list_all is_tail (k ++ x ∷ v)) (unsigned c (k ++ x ∷ v) a.0 a.1 a.2) (no_tail k x v f)
      where
        by : (s l r : Bool) → s ≡ false → r ≡ false → (s || (l && r)) ≡ false
        by true l r g h = true_false g
        by false true r g h = h
        by false false r g h = refl

word_here : (p q : ℕ) (w rest : List ℕ) (s : Scanned) → begins_with_letter w ≡ true → q ≡ p + length w → StopsWord rest → At q rest s → At p (w ++ rest) (then_word p w s)
word_here p q w rest s letter e stop k = if_case (At p (w ++ rest)) (nat_lt 32 (length w)) (faulty (NameTooLong p)) (then_token (word w) p s)
    (λ l. stop_here p (w ++ rest) (NameTooLong p) (tokens.long w rest (word_longest w rest letter stop) letter (ltb-true 32 (length w) l)))
    (λ l. token_here p q w rest (word w) s e (word_longest w rest letter stop) (word_spells w l letter) k)

-- ---- signs
abbrev SignAt : List ℕ → ℕ → Token → Type 0
SignAt rest b t = IsLongest (b ∷ []) rest × Spells (b ∷ []) t

sign_at : (b : ℕ) (rest : List ℕ) → IfSome (sign b) (SignAt rest b)
sign_at b rest =
    if_case P (nat_eq b 46) (Some Dot) _ (λ e. at 46 Dot e (one 46 Dot (λ x v. refl) refl refl tt)) (λ e0.
    if_case P (nat_eq b 59) (Some Semi) _ (λ e. at 59 Semi e (one 59 Semi (λ x v. refl) refl refl tt)) (λ e1.
    if_case P (nat_eq b 40) (Some Open) _ (λ e. at 40 Open e (one 40 Open (λ x v. refl) refl refl tt)) (λ e2.
    if_case P (nat_eq b 41) (Some Close) _ (λ e. at 41 Close e (one 41 Close (λ x v. refl) refl refl tt)) (λ e3.
    if_case P (nat_eq b 91) (Some LeftSq) _ (λ e. at 91 LeftSq e (one 91 LeftSq (λ x v. refl) refl refl tt)) (λ e4.
    if_case P (nat_eq b 93) (Some RightSq) _ (λ e. at 93 RightSq e (one 93 RightSq (λ x v. refl) refl refl tt)) (λ e5.
    if_case P (nat_eq b 42) (Some Star) _ (λ e. at 42 Star e (one 42 Star (λ x v. refl) refl refl tt)) (λ e6.
    if_case P (nat_eq b 63) (Some Ask) _ (λ e. at 63 Ask e (one 63 Ask (λ x v. refl) refl refl tt)) (λ e7.
    if_case P (nat_eq b 33) (Some Bang) _ (λ e. at 33 Bang e (one 33 Bang (λ x v. refl) refl refl tt)) (λ e8.
    if_case P (nat_eq b 44) (Some Comma) _ (λ e. at 44 Comma e (one 44 Comma (λ x v. refl) refl refl tt)) (λ e9.
    if_case P (nat_eq b 47) (Some Slash) None (λ e. at 47 Slash e (one 47 Slash (λ x v. refl) refl refl tt)) (λ e10. tt)))))))))))
  where
    P : Option Token → Type 0
    P o = IfSome o (SignAt rest b)

    one : (k : ℕ) (t : Token) → ((x : ℕ) (v : List ℕ) → is_spelled (k ∷ x ∷ v) ≡ false) → is_spelled (k ∷ []) ≡ true → bytes_of t ≡ k ∷ [] → IsWord t → SignAt rest k t
    one k t apart ends_so same word = (record { spelled = ends_so; longest = λ x v u e. apart x v }, record { bytes = same; word = word })

    at : (k : ℕ) (t : Token) → nat_eq b k ≡ true → SignAt rest k t → SignAt rest b t
    at k t e h = subst (λ y. SignAt rest y t) (sym (eqb-true b k e)) h

-- ---- the modes of the scan, each with the bytes that it has read of its token
abbrev pub Holds : Mode → ℕ → List ℕ → Type 0
Holds Between q bs = At q bs (scan Between q bs)
Holds InComment q bs = (p : ℕ) (c : List ℕ) → IsComment c → q ≡ p + length c → At p (c ++ bs) (scan InComment q bs)
Holds (InWord p w) q bs = begins_with_letter w ≡ true → q ≡ p + length w → At p (w ++ bs) (scan (InWord p w) q bs)
Holds (AfterColon p) q bs = q ≡ p + 1 → At p (58 ∷ bs) (scan (AfterColon p) q bs)
Holds (AfterBar p) q bs = q ≡ p + 1 → At p (124 ∷ bs) (scan (AfterBar p) q bs)

one_more : (q b : ℕ) → q + 1 ≡ q + length (b ∷ [])
one_more q b = omega arith

started : (q b : ℕ) (bs : List ℕ) → ((m : Mode) → Holds m (q + 1) bs) → At q (b ∷ bs) (start q b (λ m. scan m (q + 1) bs))
started q b bs h =
    if_case P (is_blank b) _ _ (λ e. behind q (q + 1) (b ∷ []) bs _ _ (one_more q b) (blank b [] e nothing) (h Between)) (λ white.
    if_case P (nat_eq b 35) _ _ (λ e. h InComment q (b ∷ []) (record { inside = []; marked = ap (λ k. k ∷ []) (eqb-true b 35 e); plain = tt }) (one_more q b)) (λ hash.
    if_case P (is_letter b) _ _ (λ e. h (InWord q (b ∷ [])) (letter_word b e) (one_more q b)) (λ letter.
    if_case P (nat_eq b 58) _ _ (λ e. subst (λ k. At q (k ∷ bs) (scan (AfterColon q) (q + 1) bs)) (sym (eqb-true b 58 e)) (h (AfterColon q) refl)) (λ colon.
    if_case P (nat_eq b 124) _ _ (λ e. subst (λ k. At q (k ∷ bs) (scan (AfterBar q) (q + 1) bs)) (sym (eqb-true b 124 e)) (h (AfterBar q) refl)) (λ bar.
    if_case P (is_digit b || nat_eq b 95) _ _
    (λ e. stop_here q (b ∷ bs) (BadToken q) (tokens.stump b bs (digit_stump e) (begins_nothing b bs letter colon bar (digit_unsigned b e))))
    (λ digit. by_sign (sign b) refl white hash letter colon bar digit))))))
  where
    P : Scanned → Type 0
    P s = At q (b ∷ bs) s

    digit_stump : (is_digit b || nat_eq b 95) ≡ true → is_stump b ≡ true
    digit_stump e = grind (arith, nat_tests)

    by_sign : (o : Option Token) → sign b ≡ o → is_blank b ≡ false → nat_eq b 35 ≡ false → is_letter b ≡ false → nat_eq b 58 ≡ false → nat_eq b 124 ≡ false → (is_digit b || nat_eq b 95) ≡ false
        → At q (b ∷ bs) (then_sign o q (scan Between (q + 1) bs))
    by_sign None e white hash letter colon bar digit = stop_here q (b ∷ bs) (BadByte q) (tokens.stray b bs (stray_stump colon digit) white hash (begins_nothing b bs letter colon bar e))
      where
        stray_stump : nat_eq b 58 ≡ false → (is_digit b || nat_eq b 95) ≡ false → is_stump b ≡ false
        stray_stump c d = grind (arith, nat_tests)
    by_sign (Some t) e white hash letter colon bar digit =
        let k : SignAt bs b t = subst (λ o. IfSome o (SignAt bs b)) e (sign_at b bs) in
        token_here q (q + 1) (b ∷ []) bs t (scan Between (q + 1) bs) (one_more q b) k.0 k.1 (h Between)

colon_token : (rest : List ℕ) → IsLongest (58 ∷ 61 ∷ []) rest
colon_token rest = record { spelled = refl; longest = λ x v u e. refl }

bars_token : (rest : List ℕ) → IsLongest (124 ∷ 124 ∷ []) rest
bars_token rest = record { spelled = refl; longest = λ x v u e. refl }

bar_token : (rest : List ℕ) → ((x : ℕ) (v : List ℕ) → rest ≡ x ∷ v → nat_eq x 124 ≡ false) → IsLongest (124 ∷ []) rest
bar_token rest h = record { spelled = refl; longest = λ x v u e. by x v (h x (v ++ u) e) }
  where
    by : (x : ℕ) (v : List ℕ) → nat_eq x 124 ≡ false → is_spelled (124 ∷ x ∷ v) ≡ false
    by x v k = rw k refl

pub tokens_scanned : (bs : List ℕ) (m : Mode) (q : ℕ) → Holds m q bs
tokens_scanned [] Between q = end_here q
tokens_scanned [] InComment q = λ p c k e. subst (λ v. AreTokens p v (record { tok = End; at = q } ∷ []) None) (sym (append-nil c))
    (subst (λ n. AreTokens p c (record { tok = End; at = n } ∷ []) None) (sym e) (ends p c (open_comment [] c nothing k)))
tokens_scanned [] (InWord p w) q = λ l e. word_here p q w [] (end_at q) l e (λ x v f. absurd (cc)) (end_here q)
tokens_scanned [] (AfterColon p) q = λ e. stop_here p (58 ∷ []) (BadToken p) (tokens.stump 58 [] refl (colon_alone [] (λ b bs f. absurd (cc))))
tokens_scanned [] (AfterBar p) q = λ e. token_here p q (124 ∷ []) [] Bar (end_at q) (e ∙ one_more p 124) (bar_token [] (λ x v f. absurd (cc))) (record { bytes = refl; word = tt }) (end_here q)
tokens_scanned (b ∷ bs) Between q = started q b bs (λ m. tokens_scanned bs m (q + 1))
tokens_scanned (b ∷ bs) InComment q = λ p c k e. if_case (At p (c ++ b ∷ bs)) (nat_eq b 10) (scan Between (q + 1) bs) (if is_comment b then scan InComment (q + 1) bs else faulty (BadByte q))
    (λ f. subst (λ v. At p v (scan Between (q + 1) bs)) (append_assoc c (b ∷ []) bs) (behind p (q + 1) (c ++ b ∷ []) bs _ _ (longer_by p q c b e) (subst (λ n. IsGap (c ++ n ∷ [])) (sym (eqb-true b 10 f)) (comment c [] k nothing)) (tokens_scanned bs Between (q + 1))))
    (λ f. if_case (At p (c ++ b ∷ bs)) (is_comment b) (scan InComment (q + 1) bs) (faulty (BadByte q))
    (λ g. subst (λ v. At p v (scan InComment (q + 1) bs)) (append_assoc c (b ∷ []) bs) (tokens_scanned bs InComment (q + 1) p (c ++ b ∷ []) (comment_more c b k g) (longer_by p q c b e)))
    (λ g. subst (λ n. At p (c ++ b ∷ bs) (faulty (BadByte n))) (sym e) (stop_here p (c ++ b ∷ bs) (BadByte (p + length c)) (tokens.comment c b bs k g f))))
  where
    longer_by : (p n : ℕ) (c : List ℕ) (x : ℕ) → n ≡ p + length c → n + 1 ≡ p + length (c ++ x ∷ [])
    longer_by p n c x e = omega (arith, length-append c (x ∷ []))

    all_more : (xs : List ℕ) (x : ℕ) → AllByRecursion (λ y. IsTrue (is_comment y)) xs → is_comment x ≡ true → AllByRecursion (λ y. IsTrue (is_comment y)) (xs ++ x ∷ [])
    all_more [] x h e = (e, tt)
    all_more (y ∷ xs) x h e = (h.0, all_more xs x h.1 e)

    comment_more : (c : List ℕ) (x : ℕ) → IsComment c → is_comment x ≡ true → IsComment (c ++ x ∷ [])
    comment_more c x k e = record { inside = k.inside ++ x ∷ []; marked = ap (λ v. v ++ x ∷ []) k.marked; plain = all_more k.inside x k.plain e }
tokens_scanned (b ∷ bs) (InWord p w) q = λ l e. if_case (At p (w ++ b ∷ bs)) (is_tail b) (scan (InWord p (w ++ b ∷ [])) (q + 1) bs) (then_word p w (scan Between q (b ∷ bs)))
    (λ f. subst (λ v. At p v (scan (InWord p (w ++ b ∷ [])) (q + 1) bs)) (append_assoc w (b ∷ []) bs) (tokens_scanned bs (InWord p (w ++ b ∷ [])) (q + 1) (longer w b l f) (longer_by e)))
    (λ f. word_here p q w (b ∷ bs) (scan Between q (b ∷ bs)) l e (λ x v g. subst (λ k. is_tail k ≡ false) (same_first g) f) (started q b bs (λ m. tokens_scanned bs m (q + 1))))
  where
    longer_by : q ≡ p + length w → q + 1 ≡ p + length (w ++ b ∷ [])
    longer_by e = omega (arith, length-append w (b ∷ []))
tokens_scanned (b ∷ bs) (AfterColon p) q = λ e. if_case (At p (58 ∷ b ∷ bs)) (nat_eq b 61) (then_token Define p (scan Between (q + 1) bs)) (faulty (BadToken p))
    (λ f. subst (λ k. At p (58 ∷ k ∷ bs) (then_token Define p (scan Between (q + 1) bs))) (sym (eqb-true b 61 f))
    (token_here p (q + 1) (58 ∷ 61 ∷ []) bs Define (scan Between (q + 1) bs) (two e) (colon_token bs) (record { bytes = refl; word = tt }) (tokens_scanned bs Between (q + 1))))
    (λ f. stop_here p (58 ∷ b ∷ bs) (BadToken p) (tokens.stump 58 (b ∷ bs) refl (colon_alone (b ∷ bs) (λ x v g. subst (λ k. nat_eq k 61 ≡ false) (same_first g) f))))
  where
    two : q ≡ p + 1 → q + 1 ≡ p + length {A = ℕ} (58 ∷ 61 ∷ [])
    two e = omega arith
tokens_scanned (b ∷ bs) (AfterBar p) q = λ e. if_case (At p (124 ∷ b ∷ bs)) (nat_eq b 124) (then_token Par p (scan Between (q + 1) bs)) (then_token Bar p (scan Between q (b ∷ bs)))
    (λ f. subst (λ k. At p (124 ∷ k ∷ bs) (then_token Par p (scan Between (q + 1) bs))) (sym (eqb-true b 124 f))
    (token_here p (q + 1) (124 ∷ 124 ∷ []) bs Par (scan Between (q + 1) bs) (two e) (bars_token bs) (record { bytes = refl; word = tt }) (tokens_scanned bs Between (q + 1))))
    (λ f. token_here p q (124 ∷ []) (b ∷ bs) Bar (scan Between q (b ∷ bs)) (e ∙ one_more p 124) (bar_token (b ∷ bs) (λ x v g. subst (λ k. nat_eq k 124 ≡ false) (same_first g) f)) (record { bytes = refl; word = tt }) (started q b bs (λ m. tokens_scanned bs m (q + 1))))
  where
    two : q ≡ p + 1 → q + 1 ≡ p + length {A = ℕ} (124 ∷ 124 ∷ [])
    two e = omega arith

pub scan_tokens : (bs : List ℕ) → AreTokens 0 bs (scan Between 0 bs).toks (scan Between 0 bs).fault
scan_tokens bs = tokens_scanned bs Between 0
