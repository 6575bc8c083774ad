-- Lines of a list, cut and put together again.
use Rattle.std.proofs.Common.{◌≡◌, ℕ, List, [], ◌∷◌, ◌++◌, refl, sym, ◌∙◌, ap, append_assoc}
use Rattle.std.specs.List.{join_with_byte, AllByRecursion}
use Rattle.std.proofs.lemmas.List.Splits.{join_with_byte-slice_split}
use Rattle.text_lines.specs.Pieces.{pieces}
use Rattle.text_lines.proofs.Cuts.{first_cut}
use Rattle.trace_laws.specs.ListText.{text_of, IsLine}

pub lines_cut : (ls : List (List ℕ)) (rest : List ℕ) → AllByRecursion IsLine ls → pieces 10 (text_of ls ++ rest) ≡ ls ++ pieces 10 rest
lines_cut [] rest h = refl
lines_cut (l ∷ ls) rest h = ap (pieces 10) (append_assoc l (10 ∷ text_of ls) rest) ∙ first_cut 10 l (text_of ls ++ rest) h.0 ∙ ap (λ ps. l ∷ ps) (lines_cut ls rest h.1)

lines_joined : (ls : List (List ℕ)) (last : List ℕ) → join_with_byte 10 (ls ++ last ∷ []) ≡ text_of ls ++ last
lines_joined [] last = refl
lines_joined (l ∷ []) last = sym (append_assoc l (10 ∷ []) last)
lines_joined (l ∷ m ∷ ls) last = ap (λ t. l ++ 10 ∷ t) (lines_joined (m ∷ ls) last) ∙ sym (append_assoc l (10 ∷ text_of (m ∷ ls)) last)

pub lines_back : (bytes last : List ℕ) (ls : List (List ℕ)) → pieces 10 bytes ≡ ls ++ last ∷ [] → bytes ≡ text_of ls ++ last
lines_back bytes last ls e = sym (join_with_byte-slice_split 10 bytes) ∙ ap (join_with_byte 10) e ∙ lines_joined ls last

-- the pieces behind some lines are those of a rest
pub lines_rest : (ls : List (List ℕ)) (more : List (List ℕ)) (m : List ℕ) → join_with_byte 10 (ls ++ m ∷ more) ≡ text_of ls ++ join_with_byte 10 (m ∷ more)
lines_rest [] more m = refl
lines_rest (l ∷ []) more m = sym (append_assoc l (10 ∷ []) (join_with_byte 10 (m ∷ more)))
lines_rest (l ∷ k ∷ ls) more m = ap (λ t. l ++ 10 ∷ t) (lines_rest (k ∷ ls) more m) ∙ sym (append_assoc l (10 ∷ text_of (k ∷ ls)) (join_with_byte 10 (m ∷ more)))
