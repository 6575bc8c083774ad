-- The lines of a text, and their first fault.
use Rattle.std.proofs.Common.{◌≡◌, ℕ, zero, suc, ◌+◌, ◌<◌, ◌≤◌, Bool, true, false, List, [], ◌∷◌, ◌++◌, length, drop, get_or, refl, sym, ap, ◌∙◌, subst, arith, append_assoc, add-one, drop-cons}
use Rattle.std.specs.Prelude.{not, codes}
use Rattle.std.specs.List.{AllByRecursion, join_with_byte}
use Rattle.std.specs.Str.{bytes_eq}
use Rattle.std.proofs.lemmas.List.{drop_all}
use Rattle.std.proofs.lemmas.List.FromFn.{get_or-map-range_with_len, length-map-range_with_len}
use Rattle.std.proofs.lemmas.List.Splits.{join_with_byte-slice_split}
use Rattle.std.proofs.lemmas.Slice.Eq.{bytes_eq-Decides}
use Rattle.cmd_tree.specs.declared.command.Command.{Command}
use Rattle.cmd_tree.specs.Limits.{IsCommand, marks_of_all}
use Rattle.cmd_tree.specs.declared.tree.Proc.{Proc}
use Rattle.cmd_text.specs.Canonical.{procs_text}
use Rattle.di_grammar.specs.declared.answer.Broken.{Broken}
use Rattle.di_grammar.specs.Admitted.{IsBroken}
use Rattle.net_core.specs.declared.spec.NodeSpec.TheVariants.{Cmd}
use Rattle.net_core.specs.Specs.{outs_of, gives_symbol}
use Rattle.net_text.specs.declared.refusal.NetRefusal.{NetRefusal}
use Rattle.net_text.specs.declared.refusal.NetRefusal.TheVariants as told
use Rattle.net_text.specs.NetFault.{IsLine, Spec, Ports, behind_spec, spec_line, symbol_line, symbol_lines, port_lines, port, IsFaulty, bad, refused, IsFirstFault, later, here, cut as cut_off}
use Rattle.text_lines.specs.Pieces.{pieces}
use Rattle.net_text.specs.Mirror.Stages.{text_of}
use Rattle.text_lines.proofs.Cuts.{cut, clean_pieces, first_cut}
use Rattle.text_lines.specs.Pieces.{IsPiece}

-- ---- the first piece
pub joined_at : (c : ℕ) (text piece rest : List ℕ) → pieces c text ≡ piece ∷ pieces c rest → text ≡ piece ++ c ∷ rest
joined_at c text piece rest e =
    let r = cut c rest in
    sym (join_with_byte-slice_split c text) ∙ ap (join_with_byte c) (e ∙ ap (λ (ps : List (List ℕ)). piece ∷ ps) r.is)
    ∙ ap (λ (u : List ℕ). piece ++ c ∷ u) (ap (join_with_byte c) (sym r.is) ∙ join_with_byte-slice_split c rest)

pub first_clean : (c : ℕ) (text piece : List ℕ) (ps : List (List ℕ)) → pieces c text ≡ piece ∷ ps → IsPiece c piece
first_clean c text piece ps e = (subst (AllByRecursion (IsPiece c)) e (clean_pieces c text)).0

pub line_back : (text line rest : List ℕ) → pieces 10 text ≡ line ∷ pieces 10 rest → (text ≡ line ++ 10 ∷ rest) × IsLine line
line_back text line rest e = (joined_at 10 text line rest e, first_clean 10 text line (pieces 10 rest) e)

pub last_back : (text line : List ℕ) → pieces 10 text ≡ line ∷ [] → IsLine text
last_back text line e = subst IsLine (sym (sym (join_with_byte-slice_split 10 text) ∙ ap (join_with_byte 10) e)) (first_clean 10 text line [] e)

pub same_line : (x y z : List ℕ) → false ≡ not (bytes_eq x y) → y ≡ z → x ≡ z
same_line x y z f e = at (bytes_eq x y) refl f
  where
    at : (b : Bool) → bytes_eq x y ≡ b → false ≡ not b → x ≡ z
    at true t g = (bytes_eq-Decides x y).0 t ∙ e
    at false t g = absurd (cc)

pub other_line : (x y z : List ℕ) → true ≡ not (bytes_eq x y) → y ≡ z → x ≡ z → ⊥
other_line x y z f e g = let z : true ≡ false = f ∙ ap not ((bytes_eq-Decides x y).1 (g ∙ sym e)) in absurd (cc)

-- ---- the line of the command
spec_clean : IsPiece 32 (codes "spec")
spec_clean = (
  (λ (e : 115 ≡ 32). absurd (omega (arith, e))),
  (
    (λ (e : 112 ≡ 32). absurd (omega (arith, e))),
    ((λ (e : 101 ≡ 32). absurd (omega (arith, e))), ((λ (e : 99 ≡ 32). absurd (omega (arith, e))), tt)),
  ),
)

abbrev text_in : Command → List ℕ
text_in c = procs_text c.names c.procs

module _ (line word : List ℕ) (left : List (List ℕ)) (parted : pieces 32 line ≡ word ∷ left) where
  spec_parted : (c : Command) → line ≡ spec_line c → ◌≡◌ {A = List (List ℕ)} (codes "spec" ∷ pieces 32 (text_in c)) (word ∷ left)
  spec_parted c e = sym (ap (pieces 32) e ∙ first_cut 32 (codes "spec") (text_in c) spec_clean) ∙ parted

  spec_word : (c : Command) → line ≡ spec_line c → word ≡ codes "spec"
  spec_word c e =
      let both = spec_parted c e in
      let same : codes "spec" ≡ word = cc in
      sym same

  spec_left : (c : Command) → line ≡ spec_line c → left ≡ pieces 32 (text_in c)
  spec_left c e =
      let both = spec_parted c e in
      let same : pieces 32 (text_in c) ≡ left = cc in
      sym same

  pub no_spec_word : (word ≡ codes "spec" → ⊥) → IsFaulty Spec 2 line (told.BadLine 2)
  no_spec_word other = bad Spec 2 line (λ f. other (spec_word f.0 f.1))

  pub no_spec_text : left ≡ [] → IsFaulty Spec 2 line (told.BadLine 2)
  no_spec_text none = bad Spec 2 line (λ f.
      let c = cut 32 (text_in f.0) in
      let z : ◌≡◌ {A = List (List ℕ)} [] (c.first ∷ c.more) = sym none ∙ spec_left f.0 f.1 ∙ c.is in
      absurd (cc))

  pub no_command : (text : List ℕ) → left ≡ pieces 32 text
      → ((names : List (List ℕ)) (procs : List Proc) → IsCommand names procs → text ≡ procs_text names procs → ⊥)
      → IsFaulty Spec 2 line (told.BadLine 2)
  no_command text e none = bad Spec 2 line (λ f.
      none f.0.names f.0.procs f.0.valid (sym (join_with_byte-slice_split 32 text) ∙ ap (join_with_byte 32) (sym e ∙ spec_left f.0 f.1)
      ∙ join_with_byte-slice_split 32 (text_in f.0)))

  pub spec_is : (text : List ℕ) (c : Command) → left ≡ pieces 32 text → word ≡ codes "spec" → text ≡ text_in c → line ≡ spec_line c
  spec_is text c e w t = joined_at 32 line word text (parted ∙ ap (λ (ps : List (List ℕ)). word ∷ ps) e)
      ∙ (λ i. w i ++ 32 ∷ t i)

pub spec_refused : (line : List ℕ) (c : Command) (b : Broken) → line ≡ spec_line c → IsBroken c.procs b → IsFaulty Spec 2 line (told.SpecRefused b.rule)
spec_refused line c b e h = refused 2 line c b e h

-- ---- the lines of the symbols
symbol_many : (f : ℕ → Bool) (k : ℕ) (names : List (List ℕ)) → length (symbol_lines f k names) ≡ length names
symbol_many f k [] = refl
symbol_many f k (n ∷ names) = ap suc (symbol_many f (k + 1) names)

symbol_at : (f : ℕ → Bool) (k : ℕ) (names : List (List ℕ)) (i j : ℕ) → i < length names → k + i ≡ j
    → get_or (symbol_lines f k names) i [] ≡ symbol_line (get_or names i []) (f j) j
symbol_at f k [] i j l e = absurd (omega (arith, l))
symbol_at f k (n ∷ names) zero j l e = ap (λ (m : ℕ). symbol_line n (f m) m) (omega (arith, e))
symbol_at f k (n ∷ names) (suc i) j l e = symbol_at f (k + 1) names i j (omega (arith, l)) (omega (arith, e))

module _ (c : Command) (outs : List Bool) (are : outs ≡ outs_of (Cmd c)) (i : ℕ) (low : i < length c.names) where
  abbrev Line : List ℕ
  Line = symbol_line (get_or c.names i []) (get_or outs i false) i

  abbrev Behind : List (List ℕ)
  Behind = drop (i + 1) (port_lines c)

  pub outs_many : i < length outs
  outs_many = omega (arith, low, ap length are, length-map-range_with_len (gives_symbol (marks_of_all c.procs)) 0 (length c.names))

  ports_from : drop i (port_lines c) ≡ Line ∷ Behind
  ports_from =
      let f = gives_symbol (marks_of_all c.procs) in
      let many = symbol_many f 0 c.names in
      let out : get_or outs i false ≡ f i = ap (λ (bs : List Bool). get_or bs i false) are
      ∙ get_or-map-range_with_len f 0 (length c.names) i i false low (omega arith) in
      rw add-one (drop-cons (port_lines c) i [] (omega (arith, low, many)))
      ∙ ap (λ (l : List ℕ). l ∷ Behind) (symbol_at f 0 c.names i i low (omega arith)
      ∙ ap (λ (b : Bool). symbol_line (get_or c.names i []) b i) (sym out))

  abbrev At : ℕ → List ℕ → NetRefusal → Type 0
  At n rest r = IsFirstFault (behind_spec c (drop i (port_lines c))) n rest r

  at_line : (n : ℕ) (rest : List ℕ) (r : NetRefusal) → IsFirstFault (Ports c Line Behind) n rest r → At n rest r
  at_line n rest r f = subst (λ (ls : List (List ℕ)). IsFirstFault (behind_spec c ls) n rest r) (sym ports_from) f

  pub ports_cut : (n : ℕ) (rest : List ℕ) → IsLine rest → At n rest (told.Truncated n)
  ports_cut n rest h = at_line n rest (told.Truncated n) (cut_off (Ports c Line Behind) n rest h tt)

  pub ports_bad : (n : ℕ) (rest line more : List ℕ) → (rest ≡ line ++ 10 ∷ more) × IsLine line → (line ≡ Line → ⊥) → At n rest (told.BadLine n)
  ports_bad n rest line more h other = at_line n rest (told.BadLine n)
      (here (Ports c Line Behind) n rest line more (told.BadLine n) h.0 h.1 (bad (Ports c Line Behind) n line other))

  pub ports_later : (n : ℕ) (rest line more : List ℕ) → (rest ≡ line ++ 10 ∷ more) × IsLine line → line ≡ Line → (r : NetRefusal)
      → IsFirstFault (behind_spec c Behind) (n + 1) more r → At n rest r
  ports_later n rest line more h e r f = at_line n rest r
      (later (Ports c Line Behind) (behind_spec c Behind) n rest line more r h.0 h.1
      (port c Line Behind line e) f)

  pub ports_text : (rest line more t : List ℕ) → (rest ≡ line ++ 10 ∷ more) × IsLine line → line ≡ Line → more ≡ text_of Behind ++ t
      → rest ≡ text_of (drop i (port_lines c)) ++ t
  ports_text rest line more t h e m = h.0 ∙ (λ j. e j ++ 10 ∷ m j) ∙ sym (append_assoc Line (10 ∷ text_of Behind) t)
      ∙ ap (λ (ls : List (List ℕ)). text_of ls ++ t) (sym ports_from)

pub ports_none : (c : Command) (i : ℕ) → length c.names ≤ i → drop i (port_lines c) ≡ []
ports_none c i h = drop_all i (port_lines c) (omega (arith, h, symbol_many (gives_symbol (marks_of_all c.procs)) 0 c.names))

-- an item, whatever stands for one that is missing
pub name_at : (names : List (List ℕ)) (i : ℕ) (n : List ℕ) → i < length names → n ≡ get_or names i n → n ≡ get_or names i []
name_at names i n h e =
    let one : drop i names ≡ get_or names i n ∷ drop (suc i) names = drop-cons names i n h in
    let two : drop i names ≡ get_or names i [] ∷ drop (suc i) names = drop-cons names i [] h in
    let same : get_or names i n ≡ get_or names i [] = cc in
    e ∙ same
