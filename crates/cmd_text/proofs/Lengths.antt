-- There are at most as many symbol places as tokens, and hardly more tokens than bytes.
use Rattle.std.proofs.Common.{ℕ, ◌+◌, ◌≤◌, List, [], ◌∷◌, ◌++◌, map, length, Option, Some, None, arith}
use Rattle.std.specs.Prelude.{◌||◌, nat_lt, nat_eq}
use Rattle.cmd_tree.specs.declared.tree.Mark.{Mark}
use Rattle.cmd_tree.specs.Tree.{TItem, TSeq, TSeqs, TBurst, TAlt, Stop, Or, Done, Then, places_of, places_in, places_among}
use Rattle.cmd_tree.specs.Limits.{of_part, places_of_all, is_letter, is_tail}
use Rattle.cmd_text.specs.Token.{Token, Semi, Close, LeftSq, RightSq, Star}
use Rattle.cmd_text.specs.Process.{more_marks, burst, seq, more, item, among, more_among, process, body_of, Written, proc_of}
use Rattle.cmd_text.specs.Fault.{NameTooLong}
use Rattle.cmd_text.specs.Scan.{Scanned, then_token, faulty, end_at, is_blank, is_digit, is_comment, sign, word, then_word, Mode, Between, InComment, InWord, AfterColon, AfterBar, then_sign, start, scan}
use Rattle.cmd_text.proofs.Scanned.{if_both}
use Rattle.cmd_text.proofs.MainTokens.{more_written, all_written}

module _ (name : ℕ → List ℕ) where
  marks_long : (ms : List Mark) (r : List Token) → length ms + length r ≤ length (more_marks name ms r)
  marks_long [] r = omega arith
  marks_long (m ∷ ms) r = omega (arith, marks_long ms r)

  burst_long : (ms : List Mark) (r : List Token) → length ms + length r ≤ length (burst name ms r)
  burst_long [] r = omega arith
  burst_long (m ∷ []) r = omega arith
  burst_long (m ∷ k ∷ ms) r = omega (arith, marks_long (k ∷ ms) (Close ∷ r))

  mutual
    seq_long : (s : TSeq) (r : List Token) → places_of s + length r ≤ length (seq name s r)
    seq_long Done r = omega arith
    seq_long (Then i s) r = omega (arith, item_long i (more name s r), more_long s r)

    more_long : (s : TSeq) (r : List Token) → places_of s + length r ≤ length (more name s r)
    more_long Done r = omega arith
    more_long (Then i s) r = omega (arith, item_long i (more name s r), more_long s r)

    item_long : (i : TItem) (r : List Token) → places_in i + length r ≤ length (item name i r)
    item_long (TBurst ms) r = burst_long ms r
    item_long (TAlt ss) r = omega (arith, among_long ss (Close ∷ r))

    among_long : (ss : TSeqs) (r : List Token) → places_among ss + length r ≤ length (among name ss r)
    among_long Stop r = omega arith
    among_long (Or s ss) r = omega (arith, seq_long s (more_among name ss r), more_among_long ss r)

    more_among_long : (ss : TSeqs) (r : List Token) → places_among ss + length r ≤ length (more_among name ss r)
    more_among_long Stop r = omega arith
    more_among_long (Or s ss) r = omega (arith, seq_long s (more_among name ss r), more_among_long ss r)

  body_places : (body : TSeqs) → places_of (body_of body) ≤ places_among body
  body_places Stop = omega arith
  body_places (Or s Stop) = omega arith
  body_places (Or s (Or t ss)) = omega arith

  process_long : (lead : Option TSeq) (body : TSeqs) (r : List Token) → (of_part 0 places_of lead + places_of (body_of body)) + length r ≤ length (process name lead body r)
  process_long None body r = omega (arith, body_places body, among_long body (RightSq ∷ r))
  process_long (Some l) body r = omega (arith, body_places body, among_long body (RightSq ∷ RightSq ∷ r), seq_long l (Semi ∷ Star ∷ LeftSq ∷ among name body (RightSq ∷ RightSq ∷ r)))

  more_written_long : (ws : List Written) (r : List Token) → places_of_all (map proc_of ws) + length r ≤ length (more_written name ws r)
  more_written_long [] r = omega arith
  more_written_long (w ∷ ws) r = omega (arith, process_long w.lead w.body (more_written name ws r), more_written_long ws r)

  pub written_long : (ws : List Written) (r : List Token) → places_of_all (map proc_of ws) + length r ≤ length (all_written name ws r)
  written_long [] r = omega arith
  written_long (w ∷ ws) r = omega (arith, process_long w.lead w.body (more_written name ws r), more_written_long ws r)

-- ---- at most k tokens
abbrev Few : ℕ → Scanned → Type 0
Few k s = length s.toks ≤ k

few_sign : (o : Option Token) (at k : ℕ) (s : Scanned) → Few k s → Few (k + 1) (then_sign o at s)
few_sign None at k s f = omega arith
few_sign (Some t) at k s f = omega (arith, f)

few_word : (at : ℕ) (w : List ℕ) (k : ℕ) (s : Scanned) → Few k s → Few (k + 1) (then_word at w s)
few_word at w k s f = if_both (Few (k + 1)) (nat_lt 32 (length w)) (faulty (NameTooLong at)) (then_token (word w) at s) (omega arith) (omega (arith, f))

few_start : (at b k : ℕ) (next : Mode → Scanned) → Few k (next Between) → Few k (next InComment) → Few (k + 1) (next (InWord at (b ∷ []))) → Few (k + 1) (next (AfterColon at)) → Few (k + 1) (next (AfterBar at)) → Few (k + 1) (start at b next)
few_start at b k next p q w c r = if_both P (is_blank b) _ _ (omega (arith, p)) (if_both P (nat_eq b 35) _ _ (omega (arith, q)) (if_both P (is_letter b) _ _ w
    (if_both P (nat_eq b 58) _ _ c (if_both P (nat_eq b 124) _ _ r (if_both P (is_digit b || nat_eq b 95) _ _ (omega arith) (few_sign (sign b) at k (next Between) p))))))
  where
    P : Scanned → Type 0
    P s = Few (k + 1) s

-- a token that has begun is one more
abbrev most : Mode → List ℕ → ℕ
most Between bs = length bs + 1
most InComment bs = length bs + 1
most (InWord p w) bs = length bs + 1 + 1
most (AfterColon p) bs = length bs + 1 + 1
most (AfterBar p) bs = length bs + 1 + 1

abbrev FewIn : List ℕ → Type 0
FewIn bs = (m : Mode) (at : ℕ) → Few (most m bs) (scan m at bs)

few_next : (b : ℕ) (bs : List ℕ) (at : ℕ) → FewIn bs → Few (length bs + 1 + 1) (start at b (λ m. scan m (at + 1) bs))
few_next b bs at f = few_start at b (length bs + 1) (λ m. scan m (at + 1) bs) (f Between (at + 1)) (f InComment (at + 1)) (f (InWord at (b ∷ [])) (at + 1)) (f (AfterColon at) (at + 1)) (f (AfterBar at) (at + 1))

few_tokens : (bs : List ℕ) → FewIn bs
few_tokens [] Between at = omega arith
few_tokens [] InComment at = omega arith
few_tokens [] (InWord p w) at = few_word p w 1 (end_at at) (omega arith)
few_tokens [] (AfterColon p) at = omega arith
few_tokens [] (AfterBar p) at = omega arith
few_tokens (b ∷ bs) Between at = omega (arith, few_next b bs at (few_tokens bs))
few_tokens (b ∷ bs) InComment at = if_both (Few (length (b ∷ bs) + 1)) (nat_eq b 10) _ _ (omega (arith, few_tokens bs Between (at + 1))) (if_both (Few (length (b ∷ bs) + 1)) (is_comment b) _ _ (omega (arith, few_tokens bs InComment (at + 1))) (omega arith))
few_tokens (b ∷ bs) (InWord p w) at = if_both (Few (length (b ∷ bs) + 1 + 1)) (is_tail b) _ _ (omega (arith, few_tokens bs (InWord p (w ++ b ∷ [])) (at + 1))) (omega (arith, few_word p w (length bs + 1 + 1) (start at b (λ m. scan m (at + 1) bs)) (few_next b bs at (few_tokens bs))))
few_tokens (b ∷ bs) (AfterColon p) at = if_both (Few (length (b ∷ bs) + 1 + 1)) (nat_eq b 61) _ _ (omega (arith, few_tokens bs Between (at + 1))) (omega arith)
few_tokens (b ∷ bs) (AfterBar p) at = if_both (Few (length (b ∷ bs) + 1 + 1)) (nat_eq b 124) _ _ (omega (arith, few_tokens bs Between (at + 1))) (omega (arith, few_next b bs at (few_tokens bs)))

pub scanned_few : (bytes : List ℕ) → length (scan Between 0 bytes).toks ≤ length bytes + 1
scanned_few bytes = few_tokens bytes Between 0
