-- Reading the lines of components, and from stage to stage.
use Rattle.std.proofs.Common.{◌≡◌, ◌⊎◌, ℕ, ◌+◌, ◌<◌, ◌≤◌, true, false, List, [], ◌∷◌, ◌++◌, length, inl, inr, refl, sym, ap, ◌∙◌, subst, arith, append_assoc, append-nil}
use Rattle.std.specs.Prelude.{codes, flat_map, Option, Some, None, MatchOption, Result, Ok, Err, IfOk, IfErr}
use Rattle.std.specs.List.{join_with_byte, range_with_len}
use Rattle.std.specs.Str.{bytes_eq}
use Rattle.std.proofs.lemmas.Grind.{flat_map-append}
use Rattle.std.proofs.lemmas.List.Splits.{join_with_byte-slice_split}
use Rattle.std.proofs.lemmas.Slice.Eq.{bytes_eq-Decides}
use Rattle.cmd_tree.specs.declared.command.Command.{Command}
use Rattle.cmd_tree.specs.declared.limits.TheConstants.{MAX_COMPONENTS}
use Rattle.di_grammar.specs.Admitted.{Admitted}
use Rattle.net_core.specs.declared.spec.NodeSpec.{NodeSpec}
use Rattle.net_core.specs.declared.spec.NodeSpec.TheVariants.{Cmd}
use Rattle.net_core.specs.Wiring.{Node, Circuit, IsOnce}
use Rattle.net_text.specs.declared.refusal.NetRefusal.{NetRefusal}
use Rattle.net_text.specs.declared.refusal.NetRefusal.TheVariants as told
use Rattle.net_text.specs.NetText.{node_line}
use Rattle.net_text.specs.NetFault.{IsLine, Place, Version, Spec, Parts, Over, behind_spec, version_line, spec_line, port_lines, IsPartLine, IsNoPartLine, version, spec, part, last, bad, many, IsDue, with_parts, network, IsLeastOpen, IsFirstFault, later, here, cut as cut_off, behind, NetFault}
use Rattle.text_lines.specs.Pieces.{pieces}
use Rattle.net_text.specs.Mirror.Stages.{Refuses, RefusesLine, text_of, parts_text as of_parts, IsNetOf, IsNetFromSpec}
use Rattle.text_lines.proofs.Cuts.{cut}
use Rattle.net_text.proofs.NetLines.{first_clean, last_back}

pub empty_is : (xs : List ℕ) → length xs ≡ 0 → xs ≡ []
empty_is [] e = refl
empty_is (x ∷ xs) e = absurd (omega (arith, e))

pub eq_so : (n m z : List ℕ) → true ≡ bytes_eq n m → m ≡ z → n ≡ z
eq_so n m z t e = (bytes_eq-Decides n m).0 (sym t) ∙ e

pub eq_else : (n m z : List ℕ) → false ≡ bytes_eq n m → m ≡ z → n ≡ z → ⊥
eq_else n m z t e f = let z : true ≡ false = sym ((bytes_eq-Decides n m).1 (f ∙ sym e)) ∙ sym t in absurd (cc)

-- the first line of a text, where it has one
pub record HasLine (bytes : List ℕ) : Type 0 where
  pub line : List ℕ
  pub rest : List ℕ
  pub is : bytes ≡ line ++ 10 ∷ rest
  pub clean : IsLine line

pub line_or_last : (bytes : List ℕ) → HasLine bytes ⊎ IsLine bytes
line_or_last bytes = let c = cut 10 bytes in at c.first c.more c.is
  where
    at : (first : List ℕ) (more : List (List ℕ)) → pieces 10 bytes ≡ first ∷ more → HasLine bytes ⊎ IsLine bytes
    at first [] e = inr (last_back bytes first e)
    at first (m ∷ ms) e = inl (record {
      line = first;
      rest = join_with_byte 10 (m ∷ ms);
      is = sym (join_with_byte-slice_split 10 bytes) ∙ ap (join_with_byte 10) e;
      clean = first_clean 10 bytes first (m ∷ ms) e;
    })

-- nothing may stand behind the last line
over_fault : (c : Command) (xs : List Node) (n : ℕ) (bytes : List ℕ) → 0 < length bytes → IsFirstFault (Over c xs) n bytes (told.BadLine n)
over_fault c xs n bytes some = elim (line_or_last bytes) [
  | inl h ↦ here (Over c xs) n bytes h.line h.rest (told.BadLine n) h.is h.clean (bad (Over c xs) n h.line (λ f. f))
  | inr l ↦ behind c xs n bytes l some
]

abbrev IsCut : List ℕ → List ℕ → List ℕ → Type 0
IsCut bytes line rest = (bytes ≡ line ++ 10 ∷ rest) × IsLine line

-- ---- the lines of components
module _ (c : Command) (xs : List Node) (n : ℕ) where
  pub parts_cut : (bytes : List ℕ) → IsLine bytes → IsFirstFault (Parts c xs) n bytes (told.Truncated n)
  parts_cut bytes h = cut_off (Parts c xs) n bytes h tt

  module _ (bytes line rest : List ℕ) (h : IsCut bytes line rest) where
    pub parts_over : line ≡ codes "end" → (r : NetRefusal) → IsFirstFault (Over c xs) (n + 1) rest r → IsFirstFault (Parts c xs) n bytes r
    parts_over e r f = later (Parts c xs) (Over c xs) n bytes line rest r h.0 h.1
        (last c xs line e) f

    pub parts_behind : line ≡ codes "end" → 0 < length rest → IsFirstFault (Parts c xs) n bytes (told.BadLine (n + 1))
    parts_behind e some = parts_over e (told.BadLine (n + 1)) (over_fault c xs (n + 1) rest some)

    pub parts_bad : (line ≡ codes "end" → ⊥) → IsNoPartLine line → IsFirstFault (Parts c xs) n bytes (told.BadLine n)
    parts_bad other none = here (Parts c xs) n bytes line rest (told.BadLine n) h.0 h.1
        (bad (Parts c xs) n line (λ f. elim f [ inl p ↦ none p.0 p.1 | inr e ↦ other e ]))

    pub parts_many : (x : Node) → IsPartLine line x → MAX_COMPONENTS ≤ length xs → IsFirstFault (Parts c xs) n bytes (told.TooManyComponents n)
    parts_many x p m = here (Parts c xs) n bytes line rest (told.TooManyComponents n) h.0 h.1 (many c xs n line x m p)

    pub parts_later : (x : Node) → IsPartLine line x → length xs < MAX_COMPONENTS → (r : NetRefusal)
        → IsFirstFault (Parts c (xs ++ x ∷ [])) (n + 1) rest r → IsFirstFault (Parts c xs) n bytes r
    parts_later x p m r f = later (Parts c xs) (Parts c (xs ++ x ∷ [])) n bytes line rest r h.0 h.1 (part c xs x line m p) f

pub parts_text : (text bytes line rest : List ℕ) (xs : List Node) (x : Node) → text ≡ flat_map node_line xs ++ bytes
    → bytes ≡ line ++ 10 ∷ rest → node_line x ≡ line ++ codes "\n" → text ≡ flat_map node_line (xs ++ x ∷ []) ++ rest
parts_text text bytes line rest xs x e f g =
    let front : List ℕ = flat_map node_line xs in
    e ∙ ap (λ (u : List ℕ). front ++ u) (f ∙ sym (append_assoc line (codes "\n") rest) ∙ ap (λ (u : List ℕ). u ++ rest) (sym g))
    ∙ sym (append_assoc front (node_line x) rest)
    ∙ ap (λ (u : List ℕ). (front ++ u) ++ rest) (sym (append-nil (node_line x)))
    ∙ ap (λ (u : List ℕ). u ++ rest) (sym (flat_map-append node_line xs (x ∷ [])))

-- ---- from stage to stage
pub refuses : (p : Place) (n : ℕ) (bytes : List ℕ) (r : NetRefusal) → IsFirstFault p n bytes r → Refuses p n bytes r
refuses p n bytes told.NoMemory f = tt
refuses p n bytes (told.BadLine k) f = f
refuses p n bytes (told.SpecRefused k) f = f
refuses p n bytes (told.TooManyComponents k) f = f
refuses p n bytes (told.Truncated k) f = f
refuses p n bytes (told.OpenPort k) f = f

pub refuses_more : (p q : Place) (m n : ℕ) (bytes rest : List ℕ) → ((r : NetRefusal) → IsFirstFault q m rest r → IsFirstFault p n bytes r)
    → (r : NetRefusal) → Refuses q m rest r → Refuses p n bytes r
refuses_more p q m n bytes rest f told.NoMemory h = tt
refuses_more p q m n bytes rest f (told.BadLine k) h = f (told.BadLine k) h
refuses_more p q m n bytes rest f (told.SpecRefused k) h = f (told.SpecRefused k) h
refuses_more p q m n bytes rest f (told.TooManyComponents k) h = f (told.TooManyComponents k) h
refuses_more p q m n bytes rest f (told.Truncated k) h = f (told.Truncated k) h
refuses_more p q m n bytes rest f (told.OpenPort k) h = f (told.OpenPort k) h

pub refuses_line : (p : Place) (n : ℕ) (bytes line rest : List ℕ) → IsCut bytes line rest → (r : NetRefusal) → RefusesLine p n line r
    → Refuses p n bytes r
refuses_line p n bytes line rest h told.NoMemory f = tt
refuses_line p n bytes line rest h (told.BadLine k) f = here p n bytes line rest (told.BadLine k) h.0 h.1 f
refuses_line p n bytes line rest h (told.SpecRefused k) f = here p n bytes line rest (told.SpecRefused k) h.0 h.1 f
refuses_line p n bytes line rest h (told.TooManyComponents k) f = here p n bytes line rest (told.TooManyComponents k) h.0 h.1 f
refuses_line p n bytes line rest h (told.Truncated k) f = here p n bytes line rest (told.Truncated k) h.0 h.1 f
refuses_line p n bytes line rest h (told.OpenPort k) f = here p n bytes line rest (told.OpenPort k) h.0 h.1 f

pub refused_or : (bytes : List ℕ) (r : NetRefusal) → Refuses Version 1 bytes r → (r ≡ told.NoMemory) ⊎ NetFault bytes r
refused_or bytes told.NoMemory f = inl refl
refused_or bytes (told.BadLine k) f = inr f
refused_or bytes (told.SpecRefused k) f = inr f
refused_or bytes (told.TooManyComponents k) f = inr f
refused_or bytes (told.Truncated k) f = inr f
refused_or bytes (told.OpenPort k) f = inr f

pub spec_later : (c : Command) (n : ℕ) (bytes line rest : List ℕ) → IsCut bytes line rest → line ≡ spec_line c → Admitted c.procs
    → (r : NetRefusal) → IsFirstFault (behind_spec c (port_lines c)) (n + 1) rest r → IsFirstFault Spec n bytes r
spec_later c n bytes line rest h e a r f = later Spec (behind_spec c (port_lines c)) n bytes line rest r h.0 h.1
    (spec c line e a) f

pub version_later : (bytes line rest : List ℕ) → IsCut bytes line rest → line ≡ version_line → (r : NetRefusal)
    → IsFirstFault Spec 2 rest r → NetFault bytes r
version_later bytes line rest h e r f = later Version Spec 1 bytes line rest r h.0 h.1
    (version line e) f

pub version_bad : (bytes line rest : List ℕ) → IsCut bytes line rest → (line ≡ version_line → ⊥) → NetFault bytes (told.BadLine 1)
version_bad bytes line rest h other = here Version 1 bytes line rest (told.BadLine 1) h.0 h.1 (bad Version 1 line other)

pub cut_short : (p : Place) (n : ℕ) (bytes : List ℕ) → IsLine bytes → IsDue p → IsFirstFault p n bytes (told.Truncated n)
cut_short p n bytes h d = cut_off p n bytes h d

-- ---- the network
pub matched_none : {A : Type 0} (P : Type 0) (Q : A → Type 0) (o : Option A) → o ≡ None → MatchOption o P Q → P
matched_none P Q o e h = subst (λ u. MatchOption u P Q) e h

pub matched_some : {A : Type 0} (P : Type 0) (Q : A → Type 0) (o : Option A) (x : A) → o ≡ Some x → MatchOption o P Q → Q x
matched_some P Q o x e h = subst (λ u. MatchOption u P Q) e h

abbrev OpenAt : Circuit → ℕ → Type 0
OpenAt c w = (w < c.wires) × (IsOnce c w → ⊥) × ((v : ℕ) → v < w → IsOnce c v)

pub least_open : (net d : Circuit) (w : ℕ) → net ≡ d → OpenAt net w → IsLeastOpen d w
least_open net d w e h =
    let f : OpenAt d w = subst (λ (c : Circuit). OpenAt c w) e h in
    record { known = f.0; open_end = f.1; least = f.2 }

pub network_is : (c : Command) (s : NodeSpec) (ends : List ℕ) (xs : List Node) (n symbols wires : ℕ) → s ≡ Cmd c → symbols ≡ length c.names
    → ends ≡ range_with_len 0 symbols → n ≡ with_parts wires xs → wires ≡ symbols
    → ◌≡◌ {A = Circuit} (record { nodes = record { spec = s; ends = ends } ∷ xs; wires = n }) (network c xs)
network_is c s ends xs n symbols wires e m f g h =
    let all : ends ≡ range_with_len 0 (length c.names) = f ∙ ap (range_with_len 0) m in
    let many : n ≡ with_parts (length c.names) xs = g ∙ ap (λ (k : ℕ). with_parts k xs) (h ∙ m) in
    λ i. record { nodes = record { spec = e i; ends = all i } ∷ xs; wires = many i }

pub ok_more : {A E : Type 0} (r : Result A E) (P Q : A → Type 0) → ((x : A) → P x → Q x) → IfOk r P → IfOk r Q
ok_more (Ok x) P Q f h = f x h
ok_more (Err e) P Q f h = tt

pub err_more : {A E : Type 0} (r : Result A E) (P Q : E → Type 0) → ((x : E) → P x → Q x) → IfErr r P → IfErr r Q
err_more (Ok x) P Q f h = tt
err_more (Err e) P Q f h = f e h

pub net_from_spec : (c : Command) (text line rest : List ℕ) (net : Circuit) → IsCut text line rest → line ≡ spec_line c → Admitted c.procs
    → IsNetOf c (text_of (port_lines c)) rest net → IsNetFromSpec text net
net_from_spec c text line rest net h e a f = record {
  command = c;
  admitted = a;
  net_of = record {
    parts = f.parts;
    is = f.is;
    closed = f.closed;
    small = f.small;
    few = f.few;
    good = f.good;
    text = h.0 ∙ (λ i. e i ++ 10 ∷ f.text i) ∙ sym (append_assoc (spec_line c) (10 ∷ text_of (port_lines c)) (of_parts f.parts));
  };
}
