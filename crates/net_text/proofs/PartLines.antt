-- The line of a component, and its words.
use Rattle.std.proofs.Common.{◌≡◌, ◌≢◌, ◌⊎◌, ℕ, ◌+◌, ◌<◌, ◌^◌, Bool, true, false, List, [], ◌∷◌, ◌++◌, map, length, take, drop, Option, Some, None, inl, inr, refl, sym, ap, ◌∙◌, subst, arith, append_assoc, append-nil, length-append}
use Rattle.std.specs.Prelude.{IsTrue, ⊤, IfOk, IfSome, IsNone, Result, Ok, Err, nat_lt, flat_map, codes, decimal, replicate, if◌then◌else◌}
use Rattle.std.specs.List.{AllByRecursion, list_all, join_with_byte}
use Rattle.std.specs.Str.{bytes_eq}
use Rattle.std.specs.Char.{is_ascii_digit, is_ascii_uppercase}
use Rattle.std.proofs.lemmas.Bool.{cases_Bool, and_parts, ltb-true}
use Rattle.std.proofs.lemmas.List.{append_cancel_right, take-append-drop, length-take-le, length-drop, length-replicate}
use Rattle.std.proofs.Math.Seq.{take-append_seam, drop-append_seam}
use Rattle.std.proofs.lemmas.List.Splits.{join_with_byte-slice_split}
use Rattle.std.proofs.lemmas.Slice.Eq.{bytes_eq-Decides}
use Rattle.cmd_tree.specs.declared.command.Command.{Command}
use Rattle.cmd_tree.specs.declared.limits.TheConstants.{MAX_NETLIST_WIRES}
use Rattle.basic_kinds.specs.declared.shape.Shape.{Shape}
use Rattle.basic_kinds.specs.declared.kind.Kind.{Kind}
use Rattle.basic_kinds.specs.declared.kind.Kind.TheVariants.{Wire, Iwire, Source, Sink, Fork, C, Merge, Toggle, Dw, Seq}
use Rattle.basic_kinds.specs.Kinds.{inputs_of, outputs_of, IsWellFormed}
use Rattle.basic_kinds.specs.Shapes.{is_within}
use Rattle.basic_kinds.proofs.Projections.{all_front}
use Rattle.net_core.specs.declared.spec.NodeSpec.{NodeSpec}
use Rattle.net_core.specs.declared.spec.NodeSpec.TheVariants.{Kind as Basic, Cmd}
use Rattle.net_core.specs.Wiring.{Node}
use Rattle.net_core.specs.Specs.{sides}
use Rattle.net_core.proofs.Sizes.{all_append}
use Rattle.net_text.specs.NetText.{component_line, node_line}
use Rattle.net_text.specs.NetFault.{IsPart, IsPartLine, IsNoPartLine}
use Rattle.net_text.specs.Mirror.PartWords.{number_of, and_then, items_until, inputs_in, numbers_in, Ends, ends_behind, ends_in, crossing_in, crossing_of, crossings_in, number_in, Wait, wait_ends, wait_crossings, wait_cols, wait_in, name_of, IsPlain, IsPlainPart, IsNoPlainPart, IsWaitPart, IsNoWaitPart}
use Rattle.text_lines.specs.Pieces.{pieces}
use Rattle.net_text.proofs.Words.{Word, led, decimal_word, decimal_begins}
use Rattle.text_lines.proofs.Cuts.{words_cut, words_back, first_cut, one_piece}
use Rattle.text_lines.specs.Pieces.{IsPiece, line_of}
use Rattle.net_text.proofs.ComponentLine.{pair, shape_of, wires_then, line_opened, name_word}
use Rattle.net_text.proofs.Numerals.{number_decimal, number_told}

-- ---- the words of a line
-- what stands behind the name of a kind
abbrev behind_name : Kind → List (List ℕ) → List (List ℕ)
behind_name Wire r = r
behind_name Iwire r = r
behind_name Source r = r
behind_name Sink r = r
behind_name (Fork n) r = r
behind_name (C n) r = r
behind_name (Merge n) r = r
behind_name Toggle r = r
behind_name (Dw s) r = decimal s.rows ∷ decimal s.cols ∷ (map pair s.cross ++ codes ":" ∷ r)
behind_name (Seq k) r = r

abbrev wire_words : List ℕ → List ℕ → List (List ℕ)
wire_words ins outs = map decimal ins ++ codes ">" ∷ map decimal outs

abbrev part_words : Kind → List ℕ → List ℕ → List (List ℕ)
part_words k ins outs = name_of k ∷ behind_name k (wire_words ins outs)

abbrev blank : List ℕ → List ℕ
blank w = 32 ∷ w

words_opened : (w : List ℕ) (ws : List (List ℕ)) → line_of (w ∷ ws) ≡ w ++ flat_map blank ws
words_opened w [] = sym (append-nil w)
words_opened w (v ∷ ws) = ap (λ (t : List ℕ). w ++ 32 ∷ t) (words_opened v ws)

led_map : {A : Type 0} (f : A → List ℕ) (xs : List A) (ws : List (List ℕ)) (t : List ℕ)
    → flat_map blank (map f xs ++ ws) ++ t ≡ flat_map (led f) xs ++ (flat_map blank ws ++ t)
led_map f [] ws t = refl
led_map f (x ∷ xs) ws t = append_assoc (blank (f x)) (flat_map blank (map f xs ++ ws)) t
    ∙ ap (λ (u : List ℕ). blank (f x) ++ u) (led_map f xs ws t)
    ∙ sym (append_assoc (led f x) (flat_map (led f) xs) (flat_map blank ws ++ t))

led_only : {A : Type 0} (f : A → List ℕ) (xs : List A) → flat_map blank (map f xs) ≡ flat_map (led f) xs
led_only f [] = refl
led_only f (x ∷ xs) = ap (λ (u : List ℕ). blank (f x) ++ u) (led_only f xs)

wires_opened : (ins outs t : List ℕ) → flat_map blank (wire_words ins outs) ++ (10 ∷ t) ≡ wires_then ins outs t
wires_opened ins outs t = led_map decimal ins (codes ">" ∷ map decimal outs) (10 ∷ t)
    ∙ ap (λ (u : List ℕ). flat_map (led decimal) ins ++ (32 ∷ (62 ∷ (u ++ (10 ∷ t))))) (led_only decimal outs)

shape_words : (s : Shape) (r : List (List ℕ)) (t : List ℕ)
    → flat_map blank (behind_name (Dw s) r) ++ t ≡ shape_of (Dw s) (flat_map blank r ++ t)
shape_words s r t =
    let x : List ℕ = flat_map blank (map pair s.cross ++ codes ":" ∷ r) in
    append_assoc (blank (decimal s.rows)) (blank (decimal s.cols) ++ x) t
    ∙ ap (λ (u : List ℕ). blank (decimal s.rows) ++ u) (append_assoc (blank (decimal s.cols)) x t)
    ∙ ap (λ (u : List ℕ). blank (decimal s.rows) ++ (blank (decimal s.cols) ++ u)) (led_map pair s.cross (codes ":" ∷ r) t)

behind_opened : (k : Kind) (r : List (List ℕ)) (t : List ℕ) → flat_map blank (behind_name k r) ++ t ≡ shape_of k (flat_map blank r ++ t)
behind_opened Wire r t = refl
behind_opened Iwire r t = refl
behind_opened Source r t = refl
behind_opened Sink r t = refl
behind_opened (Fork n) r t = refl
behind_opened (C n) r t = refl
behind_opened (Merge n) r t = refl
behind_opened Toggle r t = refl
behind_opened (Dw s) r t = shape_words s r t
behind_opened (Seq k) r t = refl

line_words : (k : Kind) (ins outs : List ℕ) → component_line k ins outs ≡ line_of (part_words k ins outs) ++ codes "\n"
line_words k ins outs =
    let r = wire_words ins outs in
    sym (append-nil (component_line k ins outs)) ∙ line_opened k ins outs []
    ∙ ap (λ (u : List ℕ). name_of k ++ shape_of k u) (sym (wires_opened ins outs []))
    ∙ ap (λ (u : List ℕ). name_of k ++ u) (sym (behind_opened k r (10 ∷ [])))
    ∙ sym (append_assoc (name_of k) (flat_map blank (behind_name k r)) (10 ∷ []))
    ∙ ap (λ (u : List ℕ). u ++ (10 ∷ [])) (sym (words_opened (name_of k) (behind_name k r)))

-- ---- no word has a blank
pub word_clean : (test : ℕ → Bool) (c : ℕ) (bs : List ℕ) → test c ≡ false → Word test bs → IsPiece c bs
word_clean test c [] f w = tt
word_clean test c (b ∷ bs) f w =
    ((λ (e : b ≡ c). absurd (let z : true ≡ false = sym w.0 ∙ ap test e ∙ f in cc)), word_clean test c bs f w.1)

abbrev Few : ℕ → Type 0
Few n = n < 2 ^ 64

pub decimal_clean : (c n : ℕ) → is_ascii_digit c ≡ false → Few n → IsPiece c (decimal n)
decimal_clean c n f h = word_clean is_ascii_digit c (decimal n) f (decimal_word n h)

abbrev FewPair : ℕ × ℕ → Type 0
FewPair p = Few p.0 × Few p.1

-- the byte stands in no word of a component line
pub record IsApart (c : ℕ) : Type 0 where
  pub digit : is_ascii_digit c ≡ false
  pub upper : is_ascii_uppercase c ≡ false
  pub dot : 46 ≢ c
  pub arrow : 62 ≢ c
  pub colon : 58 ≢ c

blank_apart : IsApart 32
blank_apart = record {
  digit = refl;
  upper = refl;
  dot = λ (e : 46 ≡ 32). absurd (omega (arith, e));
  arrow = λ (e : 62 ≡ 32). absurd (omega (arith, e));
  colon = λ (e : 58 ≡ 32). absurd (omega (arith, e));
}

pair_clean : (c : ℕ) → IsApart c → (p : ℕ × ℕ) → FewPair p → IsPiece c (pair p)
pair_clean c a p h = all_append (λ (b : ℕ). b ≢ c) (decimal p.0) (46 ∷ decimal p.1) (decimal_clean c p.0 a.digit h.0)
    (a.dot, decimal_clean c p.1 a.digit h.1)

map_clean : {A : Type 0} (c : ℕ) (P : A → Type 0) (f : A → List ℕ) → ((x : A) → P x → IsPiece c (f x)) → (xs : List A) → AllByRecursion P xs
    → AllByRecursion (IsPiece c) (map f xs)
map_clean c P f g [] h = tt
map_clean c P f g (x ∷ xs) h = (g x h.0, map_clean c P f g xs h.1)

sign_clean : (c m : ℕ) → m ≢ c → IsPiece c (m ∷ [])
sign_clean c m h = (h, tt)

wires_clean : (c : ℕ) → IsApart c → (ins outs : List ℕ) → AllByRecursion Few ins → AllByRecursion Few outs
    → AllByRecursion (IsPiece c) (wire_words ins outs)
wires_clean c a ins outs f g = all_append (IsPiece c) (map decimal ins) (codes ">" ∷ map decimal outs)
    (map_clean c Few decimal (λ n h. decimal_clean c n a.digit h) ins f)
    (sign_clean c 62 a.arrow, map_clean c Few decimal (λ n h. decimal_clean c n a.digit h) outs g)

-- what a shape has is small
abbrev FewShape : Kind → Type 0
FewShape Wire = ⊤
FewShape Iwire = ⊤
FewShape Source = ⊤
FewShape Sink = ⊤
FewShape (Fork n) = ⊤
FewShape (C n) = ⊤
FewShape (Merge n) = ⊤
FewShape Toggle = ⊤
FewShape (Dw s) = Few s.rows × Few s.cols × AllByRecursion FewPair s.cross
FewShape (Seq k) = ⊤

behind_clean : (c : ℕ) → IsApart c → (k : Kind) (r : List (List ℕ)) → FewShape k → AllByRecursion (IsPiece c) r
    → AllByRecursion (IsPiece c) (behind_name k r)
behind_clean c a Wire r f h = h
behind_clean c a Iwire r f h = h
behind_clean c a Source r f h = h
behind_clean c a Sink r f h = h
behind_clean c a (Fork n) r f h = h
behind_clean c a (C n) r f h = h
behind_clean c a (Merge n) r f h = h
behind_clean c a Toggle r f h = h
behind_clean c a (Dw s) r f h = (
  decimal_clean c s.rows a.digit f.0,
  (
    decimal_clean c s.cols a.digit f.1,
    all_append (IsPiece c) (map pair s.cross) (codes ":" ∷ r) (map_clean c FewPair pair (pair_clean c a) s.cross f.2)
        (sign_clean c 58 a.colon, h),
  ),
)
behind_clean c a (Seq k) r f h = h

words_clean : (c : ℕ) → IsApart c → (k : Kind) (ins outs : List ℕ) → FewShape k → AllByRecursion Few ins → AllByRecursion Few outs
    → AllByRecursion (IsPiece c) (part_words k ins outs)
words_clean c a k ins outs s f g =
    (word_clean is_ascii_uppercase c (name_of k) a.upper (name_word k), behind_clean c a k (wire_words ins outs) s (wires_clean c a ins outs f g))

-- ---- a line and its words
line_cut : (k : Kind) (ins outs line : List ℕ) → FewShape k → AllByRecursion Few ins → AllByRecursion Few outs
    → component_line k ins outs ≡ line ++ codes "\n" → pieces 32 line ≡ part_words k ins outs
line_cut k ins outs line s f g e =
    let same : line ≡ line_of (part_words k ins outs) = append_cancel_right line (line_of (part_words k ins outs)) (codes "\n")
    (sym e ∙ line_words k ins outs) in
    ap (pieces 32) same ∙ words_cut (name_of k) (behind_name k (wire_words ins outs))
    (words_clean 32 blank_apart k ins outs s f g)

line_joined : (k : Kind) (ins outs line : List ℕ) → pieces 32 line ≡ part_words k ins outs
    → component_line k ins outs ≡ line ++ codes "\n"
line_joined k ins outs line e = line_words k ins outs
    ∙ ap (λ (u : List ℕ). u ++ codes "\n") (ap line_of (sym e) ∙ words_back line)

-- ---- items up to a sign
module _ {A : Type 0} (item : List ℕ → Option A) (text : A → List ℕ) (Fits : A → Type 0) (sign : List ℕ) where
  pub record AreItems (xs : List A) (ws : List (List ℕ)) (ys : List A) (rest : List (List ℕ)) : Type 0 where
    pub more : List A
    pub all : ys ≡ xs ++ more
    pub words : ws ≡ map text more ++ sign ∷ rest
    pub fit : AllByRecursion Fits more

  abbrev Told : Type 0
  Told = (x : A) → Fits x → (item (text x) ≡ Some x) × (bytes_eq (text x) sign ≡ false)

  abbrev Back : Type 0
  Back = (w : List ℕ) (x : A) → item w ≡ Some x → (w ≡ text x) × Fits x

  items_told : Told → (xs more : List A) (rest : List (List ℕ)) → AllByRecursion Fits more
      → items_until item sign xs (map text more ++ sign ∷ rest) ≡ Some (xs ++ more, rest)
  items_told told xs [] rest h =
      let same : bytes_eq sign sign ≡ true = (bytes_eq-Decides sign sign).1 refl in
      (λ i. if same i then Some (xs, rest) else and_then (item sign) (λ x. items_until item sign (xs ++ x ∷ []) rest))
      ∙ ap (λ (ys : List A). Some (ys, rest)) (sym (append-nil xs))
  items_told told xs (x ∷ more) rest h =
      let t = told x h.0 in
      let ws : List (List ℕ) = map text more ++ sign ∷ rest in
      (λ i. if t.1 i then Some (xs, ws) else and_then (t.0 i) (λ y. items_until item sign (xs ++ y ∷ []) ws))
      ∙ items_told told (xs ++ x ∷ []) more rest h.1 ∙ ap (λ (ys : List A). Some (ys, rest)) (append_assoc xs (x ∷ []) more)

  items_back : Back → (xs : List A) (ws : List (List ℕ)) (ys : List A) (rest : List (List ℕ))
      → items_until item sign xs ws ≡ Some (ys, rest) → AreItems xs ws ys rest
  items_back back xs [] ys rest e = absurd (cc)
  items_back back xs (w ∷ ws) ys rest e = at (bytes_eq w sign) refl (item w) refl (λ x f. items_back back (xs ++ x ∷ []) ws ys rest f) e
    where
      at : (b : Bool) → bytes_eq w sign ≡ b → (o : Option A) → item w ≡ o
          → ((x : A) → items_until item sign (xs ++ x ∷ []) ws ≡ Some (ys, rest) → AreItems (xs ++ x ∷ []) ws ys rest)
          → (if b then Some (xs, ws) else and_then o (λ x. items_until item sign (xs ++ x ∷ []) ws)) ≡ Some (ys, rest)
          → AreItems xs (w ∷ ws) ys rest
      at true t o f next g =
          let same : ◌≡◌ {A = List A × List (List ℕ)} (xs, ws) (ys, rest) = cc in
          record {
            more = [];
            all = sym (ap (λ (p : List A × List (List ℕ)). p.0) same) ∙ sym (append-nil xs);
            words = λ i. (bytes_eq-Decides w sign).0 t i ∷ (same i).1;
            fit = tt;
          }
      at false t None f next g = absurd (cc)
      at false t (Some x) f next g =
          let b = back w x f in
          let r = next x g in
          record {
            more = x ∷ r.more;
            all = r.all ∙ append_assoc xs (x ∷ []) r.more;
            words = λ i. b.0 i ∷ r.words i;
            fit = (b.1, r.fit);
          }

-- ---- wires
abbrev Wired : ℕ → Type 0
Wired n = n < MAX_NETLIST_WIRES

no_sign : (n m : ℕ) → Few n → is_ascii_digit m ≡ false → bytes_eq (decimal n) (m ∷ []) ≡ false
no_sign n m h g = elim (cases_Bool (bytes_eq (decimal n) (m ∷ []))) [
  | inl t ↦ absurd (decimal_begins n [] m [] h g (append-nil (decimal n) ∙ (bytes_eq-Decides (decimal n) (m ∷ [])).0 t))
  | inr f ↦ f
]

wire_told : (n : ℕ) → Wired n → (number_of MAX_NETLIST_WIRES (decimal n) ≡ Some n) × (bytes_eq (decimal n) (codes ">") ≡ false)
wire_told n h = (number_decimal MAX_NETLIST_WIRES n (omega arith) h, no_sign n 62 (omega (arith, h)) refl)

wire_back : (w : List ℕ) (n : ℕ) → number_of MAX_NETLIST_WIRES w ≡ Some n → (w ≡ decimal n) × Wired n
wire_back w n e = let t = number_told MAX_NETLIST_WIRES w n e in (t.is, t.below)

numbers_told : (ns more : List ℕ) → AllByRecursion Wired more → numbers_in ns (map decimal more) ≡ Some (ns ++ more)
numbers_told ns [] h = ap Some (sym (append-nil ns))
numbers_told ns (n ∷ more) h =
    (λ i. and_then ((wire_told n h.0).0 i) (λ m. numbers_in (ns ++ m ∷ []) (map decimal more)))
    ∙ numbers_told (ns ++ n ∷ []) more h.1 ∙ ap Some (append_assoc ns (n ∷ []) more)

-- what is asked first was there
opened : {A B : Type 0} (o : Option A) (f : A → Option B) (b : B) → and_then o f ≡ Some b → (a : A) × (o ≡ Some a) × (f a ≡ Some b)
opened None f b e = absurd (cc)
opened (Some a) f b e = (a, refl, e)

pub record AreNumbers (ns : List ℕ) (ws : List (List ℕ)) (all : List ℕ) : Type 0 where
  pub more : List ℕ
  pub all_of : all ≡ ns ++ more
  pub words : ws ≡ map decimal more
  pub fit : AllByRecursion Wired more

numbers_back : (ns : List ℕ) (ws : List (List ℕ)) (all : List ℕ) → numbers_in ns ws ≡ Some all → AreNumbers ns ws all
numbers_back ns [] all e =
    record { more = []; all_of = (let s : ns ≡ all = cc in sym s) ∙ sym (append-nil ns); words = refl; fit = tt }
numbers_back ns (w ∷ ws) all e =
    let o = opened (number_of MAX_NETLIST_WIRES w) (λ m. numbers_in (ns ++ m ∷ []) ws) all e in
    let b = wire_back w o.0 o.1 in
    let r = numbers_back (ns ++ o.0 ∷ []) ws all o.2 in
    record {
      more = o.0 ∷ r.more;
      all_of = r.all_of ∙ append_assoc ns (o.0 ∷ []) r.more;
      words = λ i. b.0 i ∷ r.words i;
      fit = (b.1, r.fit);
    }

abbrev as_ends : List ℕ → List ℕ → Ends
as_ends ins outs = record { inputs = length ins; ends = ins ++ outs }

ends_told : (ins outs : List ℕ) → AllByRecursion Wired ins → AllByRecursion Wired outs
    → ends_in (wire_words ins outs) ≡ Some (as_ends ins outs)
ends_told ins outs f g =
    ap (λ (o : Option (List ℕ × List (List ℕ))). and_then o ends_behind)
    (items_told (number_of MAX_NETLIST_WIRES) decimal Wired (codes ">") wire_told [] ins (map decimal outs) f)
    ∙ ap (λ (o : Option (List ℕ)). and_then o (λ ns. Some (record { inputs = length ins; ends = ns }))) (numbers_told ins outs g)

pub record AreEnds (ws : List (List ℕ)) (e : Ends) : Type 0 where
  pub ins : List ℕ
  pub outs : List ℕ
  pub is : e ≡ as_ends ins outs
  pub words : ws ≡ wire_words ins outs
  pub fit_ins : AllByRecursion Wired ins
  pub fit_outs : AllByRecursion Wired outs

ends_back : (ws : List (List ℕ)) (e : Ends) → ends_in ws ≡ Some e → AreEnds ws e
ends_back ws e h =
    let o = opened (inputs_in [] ws) ends_behind e h in
    let i = items_back (number_of MAX_NETLIST_WIRES) decimal Wired (codes ">") wire_back [] ws o.0.0 o.0.1 o.1 in
    let q = opened (numbers_in o.0.0 o.0.1) (λ ns. Some (record { inputs = length o.0.0; ends = ns })) e o.2 in
    let r = numbers_back o.0.0 o.0.1 q.0 q.1 in
    let last : Some (record { inputs = length o.0.0; ends = q.0 }) ≡ Some e = q.2 in
    record {
      ins = i.more;
      outs = r.more;
      is = (let s : record { inputs = length o.0.0; ends = q.0 } ≡ e = cc in sym s)
          ∙ (λ k. record { inputs = length (i.all k); ends = (r.all_of ∙ ap (λ (u : List ℕ). u ++ r.more) i.all) k });
      words = i.words ∙ ap (λ (u : List (List ℕ)). map decimal i.more ++ codes ">" ∷ u) r.words;
      fit_ins = i.fit;
      fit_outs = r.fit;
    }

-- ---- crossings
abbrev Paired : ℕ × ℕ → Type 0
Paired p = (p.0 < 2 ^ 32) × (p.1 < 2 ^ 32)

crossing_told : (p : ℕ × ℕ) → Paired p → (crossing_of (pair p) ≡ Some p) × (bytes_eq (pair p) (codes ":") ≡ false)
crossing_told p h =
    let a : Few p.0 = omega (arith, h.0) in
    let b : Few p.1 = omega (arith, h.1) in
    let cut : pieces 46 (pair p) ≡ decimal p.0 ∷ decimal p.1 ∷ [] = first_cut 46 (decimal p.0) (decimal p.1) (decimal_clean 46 p.0 refl a)
    ∙ ap (λ (ps : List (List ℕ)). decimal p.0 ∷ ps) (one_piece 46 (decimal p.1) (decimal_clean 46 p.1 refl b)) in (
      ap crossing_in cut
          ∙ ap (λ (o : Option ℕ). and_then o (λ i. and_then (number_of (2 ^ 32) (decimal p.1)) (λ j. Some (i, j)))) (number_decimal (2 ^ 32) p.0 (omega arith) h.0)
          ∙ ap (λ (o : Option ℕ). and_then o (λ j. Some (p.0, j))) (number_decimal (2 ^ 32) p.1 (omega arith) h.1),
      elim (cases_Bool (bytes_eq (pair p) (codes ":"))) [
        | inl t ↦ absurd (decimal_begins p.0 (46 ∷ decimal p.1) 58 [] a refl ((bytes_eq-Decides (pair p) (codes ":")).0 t))
        | inr f ↦ f
      ],
    )

crossing_back : (w : List ℕ) (p : ℕ × ℕ) → crossing_of w ≡ Some p → (w ≡ pair p) × Paired p
crossing_back w p e = at (pieces 46 w) refl e
  where
    at : (ps : List (List ℕ)) → pieces 46 w ≡ ps → crossing_in ps ≡ Some p → (w ≡ pair p) × Paired p
    at [] c e = absurd (cc)
    at (a ∷ []) c e = absurd (cc)
    at (a ∷ b ∷ d ∷ ps) c e = absurd (cc)
    at (a ∷ b ∷ []) c e =
        let o = opened (number_of (2 ^ 32) a) (λ i. and_then (number_of (2 ^ 32) b) (λ j. Some (i, j))) p e in
        let q = opened (number_of (2 ^ 32) b) (λ j. Some (o.0, j)) p o.2 in
        let m = number_told (2 ^ 32) a o.0 o.1 in
        let n = number_told (2 ^ 32) b q.0 q.1 in
        let some : Some (o.0, q.0) ≡ Some p = q.2 in
        let same : (o.0, q.0) ≡ p = cc in
        let row : o.0 ≡ p.0 = ap (λ (r : ℕ × ℕ). r.0) same in
        let col : q.0 ≡ p.1 = ap (λ (r : ℕ × ℕ). r.1) same in (
          sym (join_with_byte-slice_split 46 w) ∙ ap (join_with_byte 46) c
              ∙ (λ i. (m.is ∙ ap decimal row) i ++ 46 ∷ (n.is ∙ ap decimal col) i),
          (omega (arith, m.below, row), omega (arith, n.below, col)),
        )

-- ---- decision waits
abbrev Numbered : ℕ → Type 0
Numbered n = n < 2 ^ 32

first_told : (n : ℕ) (ws : List (List ℕ)) → Numbered n → number_in (decimal n ∷ ws) ≡ Some (n, ws)
first_told n ws h = ap (λ (o : Option ℕ). and_then o (λ m. Some (m, ws))) (number_decimal (2 ^ 32) n (omega arith) h)

pub record IsFirst (ws : List (List ℕ)) (p : ℕ × List (List ℕ)) : Type 0 where
  pub words : ws ≡ decimal p.0 ∷ p.1
  pub fit : Numbered p.0

first_back : (ws : List (List ℕ)) (p : ℕ × List (List ℕ)) → number_in ws ≡ Some p → IsFirst ws p
first_back [] p e = absurd (cc)
first_back (w ∷ ws) p e =
    let o = opened (number_of (2 ^ 32) w) (λ n. Some (n, ws)) p e in
    let m = number_told (2 ^ 32) w o.0 o.1 in
    let last : ◌≡◌ {A = Option (ℕ × List (List ℕ))} (Some (o.0, ws)) (Some p) = o.2 in
    let same : ◌≡◌ {A = ℕ × List (List ℕ)} (o.0, ws) p = cc in
    let number : o.0 ≡ p.0 = ap (λ (q : ℕ × List (List ℕ)). q.0) same in
    record { words = λ i. (m.is ∙ ap decimal number) i ∷ (same i).1; fit = omega (arith, m.below, number) }

abbrev wait_words : ℕ → ℕ → List (ℕ × ℕ) → List ℕ → List ℕ → List (List ℕ)
wait_words rows cols cross ins outs = decimal rows ∷ decimal cols ∷ (map pair cross ++ codes ":" ∷ wire_words ins outs)

abbrev as_wait : ℕ → ℕ → List (ℕ × ℕ) → Ends → Wait
as_wait rows cols cross e = record { rows = rows; cols = cols; cross = cross; ends = e }

wait_told : (rows cols : ℕ) (cross : List (ℕ × ℕ)) (ins outs : List ℕ) → Numbered rows → Numbered cols → AllByRecursion Paired cross
    → AllByRecursion Wired ins → AllByRecursion Wired outs
    → wait_in (wait_words rows cols cross ins outs) ≡ Some (as_wait rows cols cross (as_ends ins outs))
wait_told rows cols cross ins outs r c x f g =
    let wires = wire_words ins outs in
    let crosses : List (List ℕ) = map pair cross ++ codes ":" ∷ wires in
    ap (λ (o : Option (ℕ × List (List ℕ))). and_then o wait_cols) (first_told rows (decimal cols ∷ crosses) r)
    ∙ ap (λ (o : Option (ℕ × List (List ℕ))). and_then o (wait_crossings rows)) (first_told cols crosses c)
    ∙ ap (λ (o : Option (List (ℕ × ℕ) × List (List ℕ))). and_then o (wait_ends rows cols))
    (items_told crossing_of pair Paired (codes ":") crossing_told [] cross wires x)
    ∙ ap (λ (o : Option Ends). and_then o (λ e. Some (as_wait rows cols cross e))) (ends_told ins outs f g)

pub record IsWaitWritten (ws : List (List ℕ)) (w : Wait) : Type 0 where
  pub ins : List ℕ
  pub outs : List ℕ
  pub words : ws ≡ wait_words w.rows w.cols w.cross ins outs
  pub ends : w.ends ≡ as_ends ins outs
  pub fit_ins : AllByRecursion Wired ins
  pub fit_outs : AllByRecursion Wired outs

wait_back : (ws : List (List ℕ)) (w : Wait) → wait_in ws ≡ Some w → IsWaitWritten ws w
wait_back ws w e =
    let r = opened (number_in ws) wait_cols w e in
    let c = opened (number_in r.0.1) (wait_crossings r.0.0) w r.2 in
    let x = opened (crossings_in [] c.0.1) (wait_ends r.0.0 c.0.0) w c.2 in
    let n = opened (ends_in x.0.1) (λ e. Some (as_wait r.0.0 c.0.0 x.0.0 e)) w x.2 in
    let rows = first_back ws r.0 r.1 in
    let cols = first_back r.0.1 c.0 c.1 in
    let items = items_back crossing_of pair Paired (codes ":") crossing_back [] c.0.1 x.0.0 x.0.1 x.1 in
    let ends = ends_back x.0.1 n.0 n.1 in
    let last : Some (as_wait r.0.0 c.0.0 x.0.0 n.0) ≡ Some w = n.2 in
    let same : as_wait r.0.0 c.0.0 x.0.0 n.0 ≡ w = cc in
    record {
      ins = ends.ins;
      outs = ends.outs;
      words = rows.words ∙ ap (λ (u : List (List ℕ)). decimal r.0.0 ∷ u) (cols.words ∙ ap (λ (u : List (List ℕ)). decimal c.0.0 ∷ u)
          (items.words ∙ (λ i. map pair (sym items.all i) ++ codes ":" ∷ ends.words i)))
          ∙ (λ i. wait_words (same i).rows (same i).cols (same i).cross ends.ins ends.outs);
      ends = sym (ap (λ (v : Wait). v.ends) same) ∙ ends.is;
      fit_ins = ends.fit_ins;
      fit_outs = ends.fit_outs;
    }

-- ---- kinds
plain_or_shape : (k : Kind) → ((s : Shape) × (k ≡ Dw s)) ⊎ IsPlain k
plain_or_shape Wire = inr tt
plain_or_shape Iwire = inr tt
plain_or_shape Source = inr tt
plain_or_shape Sink = inr tt
plain_or_shape (Fork n) = inr tt
plain_or_shape (C n) = inr tt
plain_or_shape (Merge n) = inr tt
plain_or_shape Toggle = inr tt
plain_or_shape (Dw s) = inl (s, refl)
plain_or_shape (Seq k) = inr tt

plain_behind : (k : Kind) → IsPlain k → (r : List (List ℕ)) → behind_name k r ≡ r
plain_behind Wire p r = refl
plain_behind Iwire p r = refl
plain_behind Source p r = refl
plain_behind Sink p r = refl
plain_behind (Fork n) p r = refl
plain_behind (C n) p r = refl
plain_behind (Merge n) p r = refl
plain_behind Toggle p r = refl
plain_behind (Dw s) p r = absurd p
plain_behind (Seq k) p r = refl

plain_few : (k : Kind) → IsPlain k → FewShape k
plain_few Wire p = tt
plain_few Iwire p = tt
plain_few Source p = tt
plain_few Sink p = tt
plain_few (Fork n) p = tt
plain_few (C n) p = tt
plain_few (Merge n) p = tt
plain_few Toggle p = tt
plain_few (Dw s) p = absurd p
plain_few (Seq k) p = tt

differs : (n : List ℕ) → bytes_eq n (codes "DW") ≡ false → n ≡ codes "DW" → ⊥
differs n f e = let z : true ≡ false = sym ((bytes_eq-Decides n (codes "DW")).1 e) ∙ f in absurd (cc)

plain_name : (k : Kind) → IsPlain k → name_of k ≡ codes "DW" → ⊥
plain_name Wire p = differs (codes "WIRE") refl
plain_name Iwire p = differs (codes "IWIRE") refl
plain_name Source p = differs (codes "SOURCE") refl
plain_name Sink p = differs (codes "SINK") refl
plain_name (Fork n) p = differs (codes "FORK") refl
plain_name (C n) p = differs (codes "C") refl
plain_name (Merge n) p = differs (codes "MERGE") refl
plain_name Toggle p = differs (codes "TOGGLE") refl
plain_name (Dw s) p = absurd p
plain_name (Seq k) p = differs (codes "SEQ") refl

sides_long : (n m : ℕ) → length (sides n m) ≡ n + m
sides_long n m = length-append (replicate n false) (replicate m true) ∙ (λ i. length-replicate n false i + length-replicate m true i)

wired_few : (ns : List ℕ) → AllByRecursion Wired ns → AllByRecursion Few ns
wired_few [] h = tt
wired_few (n ∷ ns) h = (omega (arith, h.0), wired_few ns h.1)

abbrev node_of : Kind → List ℕ → Node
node_of k ends = record { spec = Basic k; ends = ends }

-- the inputs and the outputs of a component
pub record HasSides (k : Kind) (ends : List ℕ) : Type 0 where
  pub ins : length (take (inputs_of k) ends) ≡ inputs_of k
  pub outs : length (drop (inputs_of k) ends) ≡ outputs_of k
  pub fit_ins : AllByRecursion Wired (take (inputs_of k) ends)
  pub fit_outs : AllByRecursion Wired (drop (inputs_of k) ends)

has_sides : (k : Kind) (ends : List ℕ) → IsPart (node_of k ends) → HasSides k ends
has_sides k ends p =
    let many : length ends ≡ inputs_of k + outputs_of k = p.sized ∙ sides_long (inputs_of k) (outputs_of k) in
    let both = all_front Wired (take (inputs_of k) ends) (drop (inputs_of k) ends)
    (subst (AllByRecursion Wired) (sym (take-append-drop (inputs_of k) ends)) p.small) in
    record {
      ins = length-take-le (inputs_of k) ends (omega (arith, many));
      outs = omega (arith, length-drop (inputs_of k) ends, many);
      fit_ins = both.0;
      fit_outs = both.1;
    }

-- the line of a component, given its inputs and outputs
joined_part : (k : Kind) (ends ins outs line : List ℕ) → ends ≡ ins ++ outs → inputs_of k ≡ length ins
    → pieces 32 line ≡ part_words k ins outs → node_line (node_of k ends) ≡ line ++ codes "\n"
joined_part k ends ins outs line e n w =
    let front : take (inputs_of k) ends ≡ ins = (λ i. take (n i) (e i)) ∙ take-append_seam ins outs in
    let rest : drop (inputs_of k) ends ≡ outs = (λ i. drop (n i) (e i)) ∙ drop-append_seam ins outs in
    (λ i. component_line k (front i) (rest i)) ∙ line_joined k ins outs line w

whole_part : (k : Kind) (ends ins outs : List ℕ) → ends ≡ ins ++ outs → IsWellFormed k → inputs_of k + outputs_of k ≡ length ends
    → AllByRecursion Wired ins → AllByRecursion Wired outs → IsPart (node_of k ends)
whole_part k ends ins outs e f n g h = record {
  basic = refl;
  sized = sym n ∙ sym (sides_long (inputs_of k) (outputs_of k));
  formed = f;
  small = subst (AllByRecursion Wired) (sym e) (all_append Wired ins outs g h);
}

pub plain_back : (line name : List ℕ) (ws : List (List ℕ)) (inputs : ℕ) (ends : List ℕ) (x : Node) → pieces 32 line ≡ name ∷ ws
    → ends_in ws ≡ Some (record { inputs = inputs; ends = ends }) → IsPlainPart name inputs ends x → IsPartLine line x
plain_back line name ws inputs ends x cut read p =
    let k = p.kind in
    let b = ends_back ws (record { inputs = inputs; ends = ends }) read in
    let first : inputs ≡ length b.ins = ap (λ (e : Ends). e.inputs) b.is in
    let all : ends ≡ b.ins ++ b.outs = ap (λ (e : Ends). e.ends) b.is in
    let words : pieces 32 line ≡ part_words k b.ins b.outs = cut ∙ (λ i. sym p.named i ∷ b.words i)
    ∙ ap (λ (r : List (List ℕ)). name_of k ∷ r) (sym (plain_behind k p.plain (wire_words b.ins b.outs))) in
    let many : inputs_of k + outputs_of k ≡ length ends = ap (λ (n : ℕ). n + outputs_of k) p.ins ∙ p.outs in
    let formed : IsWellFormed k = record { wide = p.wide; few = omega (arith, many, p.few) } in
    subst (IsPartLine line) (sym p.is)
    (whole_part k ends b.ins b.outs all formed many b.fit_ins b.fit_outs, joined_part k ends b.ins b.outs line all (p.ins ∙ first) words)

pub wait_part_back : (line name : List ℕ) (ws : List (List ℕ)) (w : Wait) (x : Node) → pieces 32 line ≡ name ∷ ws → name ≡ codes "DW"
    → wait_in ws ≡ Some w → IsWaitPart w x → IsPartLine line x
wait_part_back line name ws w x cut named read p =
    let k : Kind = Dw p.shape in
    let b = wait_back ws w read in
    let first : w.ends.inputs ≡ length b.ins = ap (λ (e : Ends). e.inputs) b.ends in
    let all : w.ends.ends ≡ b.ins ++ b.outs = ap (λ (e : Ends). e.ends) b.ends in
    let words : pieces 32 line ≡ part_words k b.ins b.outs = cut ∙ (λ i. named i ∷ b.words i)
    ∙ (λ i. codes "DW" ∷ wait_words (sym p.rows i) (sym p.cols i) (sym p.cross i) b.ins b.outs) in
    let ins : inputs_of k ≡ w.ends.inputs = (λ i. p.rows i + p.cols i) ∙ p.ins in
    let many : inputs_of k + outputs_of k ≡ length w.ends.ends = (λ i. ins i + length (p.cross i)) ∙ p.outs in
    let formed : IsWellFormed k = record { wide = tt; few = omega (arith, many, p.few) } in
    subst (IsPartLine line) (sym p.is)
    (whole_part k w.ends.ends b.ins b.outs all formed many b.fit_ins b.fit_outs, joined_part k w.ends.ends b.ins b.outs line all (ins ∙ first) words)

-- ---- what a right line tells
crossings_paired : (rows cols : ℕ) (xs : List (ℕ × ℕ)) → Numbered rows → Numbered cols → IsTrue (list_all (is_within rows cols) xs)
    → AllByRecursion Paired xs
crossings_paired rows cols [] h k w = tt
crossings_paired rows cols (x ∷ xs) h k w =
    let p = and_parts (is_within rows cols x) (list_all (is_within rows cols) xs) w in
    let q = and_parts (nat_lt x.0 rows) (nat_lt x.1 cols) p.0 in
    ((omega (arith, ltb-true x.0 rows q.0, h), omega (arith, ltb-true x.1 cols q.1, k)), crossings_paired rows cols xs h k p.1)

paired_few : (xs : List (ℕ × ℕ)) → AllByRecursion Paired xs → AllByRecursion FewPair xs
paired_few [] h = tt
paired_few (x ∷ xs) h = ((omega (arith, h.0.0), omega (arith, h.0.1)), paired_few xs h.1)

pub record IsPlainTold (name : List ℕ) (ws : List (List ℕ)) (x : Node) : Type 0 where
  pub inputs : ℕ
  pub ends : List ℕ
  pub read : ends_in ws ≡ Some (record { inputs = inputs; ends = ends })
  pub part : IsPlainPart name inputs ends x

pub record IsWaitTold (ws : List (List ℕ)) (x : Node) : Type 0 where
  pub wait : Wait
  pub read : wait_in ws ≡ Some wait
  pub part : IsWaitPart wait x

module _ (line name : List ℕ) (ws : List (List ℕ)) (cut : pieces 32 line ≡ name ∷ ws) where
  -- the words of the line of a component
  words_of : (k : Kind) (ends : List ℕ) → FewShape k → IsPartLine line (node_of k ends)
      → part_words k (take (inputs_of k) ends) (drop (inputs_of k) ends) ≡ name ∷ ws
  words_of k ends few h =
      let s = has_sides k ends h.0 in
      sym (line_cut k (take (inputs_of k) ends) (drop (inputs_of k) ends) line few (wired_few (take (inputs_of k) ends) s.fit_ins)
      (wired_few (drop (inputs_of k) ends) s.fit_outs) h.1) ∙ cut

  shape_few : (s : Shape) (ends : List ℕ) → IsPart (node_of (Dw s) ends) → Numbered s.rows × Numbered s.cols × AllByRecursion Paired s.cross
  shape_few s ends p =
      let r : Numbered s.rows = omega (arith, p.formed.few) in
      let c : Numbered s.cols = omega (arith, p.formed.few) in
      (r, c, crossings_paired s.rows s.cols s.cross r c s.whole.within)

  shape_kind_few : (s : Shape) (ends : List ℕ) → IsPart (node_of (Dw s) ends) → FewShape (Dw s)
  shape_kind_few s ends p =
      let f = shape_few s ends p in
      (omega (arith, f.0), omega (arith, f.1), paired_few s.cross f.2)

  plain_at : (k : Kind) (ends : List ℕ) → IsPlain k → IsPartLine line (node_of k ends) → IsPlainTold name ws (node_of k ends)
  plain_at k ends p h =
      let s = has_sides k ends h.0 in
      let ins : List ℕ = take (inputs_of k) ends in
      let outs : List ℕ = drop (inputs_of k) ends in
      let both = words_of k ends (plain_few k p) h in
      let named : name_of k ≡ name = cc in
      let behind : behind_name k (wire_words ins outs) ≡ ws = cc in
      record {
        inputs = length ins;
        ends = ins ++ outs;
        read = ap ends_in (sym behind ∙ plain_behind k p (wire_words ins outs)) ∙ ends_told ins outs s.fit_ins s.fit_outs;
        part = record {
          kind = k;
          is = ap (node_of k) (sym (take-append-drop (inputs_of k) ends));
          plain = p;
          named = named;
          wide = h.0.formed.wide;
          ins = sym s.ins;
          outs = omega (arith, s.outs, length-append ins outs);
          few = omega (arith, h.0.formed.few, s.ins, s.outs, length-append ins outs);
        };
      }

  shape_at : (s : Shape) (ends : List ℕ) → IsPartLine line (node_of (Dw s) ends) → IsWaitTold ws (node_of (Dw s) ends)
  shape_at s ends h =
      let k : Kind = Dw s in
      let d = has_sides k ends h.0 in
      let few = shape_few s ends h.0 in
      let ins : List ℕ = take (inputs_of k) ends in
      let outs : List ℕ = drop (inputs_of k) ends in
      let both = words_of k ends (shape_kind_few s ends h.0) h in
      let behind : wait_words s.rows s.cols s.cross ins outs ≡ ws = cc in
      record {
        wait = as_wait s.rows s.cols s.cross (as_ends ins outs);
        read = ap wait_in (sym behind) ∙ wait_told s.rows s.cols s.cross ins outs few.0 few.1 few.2 d.fit_ins d.fit_outs;
        part = record {
          shape = s;
          is = ap (node_of k) (sym (take-append-drop (inputs_of k) ends));
          rows = refl;
          cols = refl;
          cross = refl;
          ins = sym d.ins;
          outs = omega (arith, d.outs, length-append ins outs);
          few = omega (arith, h.0.formed.few, d.ins, d.outs, length-append ins outs);
        };
      }

  -- a decision wait has its name, and it alone
  shape_name : (s : Shape) (ends : List ℕ) → IsPartLine line (node_of (Dw s) ends) → name ≡ codes "DW"
  shape_name s ends h =
      let both = words_of (Dw s) ends (shape_kind_few s ends h.0) h in
      let named : codes "DW" ≡ name = cc in
      sym named

  plain_named : (k : Kind) (ends : List ℕ) → IsPlain k → IsPartLine line (node_of k ends) → name_of k ≡ name
  plain_named k ends p h =
      let both = words_of k ends (plain_few k p) h in
      cc

  no_part : {P : Type 0} (c : Command) (ends : List ℕ) → IsPart (record { spec = Cmd c; ends = ends }) → P
  no_part c ends p = let h : false ≡ true = p.basic in absurd (cc)

  plain_spec : (s : NodeSpec) (ends : List ℕ) → (name ≡ codes "DW" → ⊥) → IsPartLine line (record { spec = s; ends = ends })
      → IsPlainTold name ws (record { spec = s; ends = ends })
  plain_spec (Cmd c) ends other h = no_part c ends h.0
  plain_spec (Basic k) ends other h = elim (plain_or_shape k) [
    | inl (s, e) ↦ absurd (other (shape_name s ends (subst (λ (l : Kind). IsPartLine line (node_of l ends)) e h)))
    | inr p ↦ plain_at k ends p h
  ]

  shape_spec : (s : NodeSpec) (ends : List ℕ) → name ≡ codes "DW" → IsPartLine line (record { spec = s; ends = ends })
      → IsWaitTold ws (record { spec = s; ends = ends })
  shape_spec (Cmd c) ends named h = no_part c ends h.0
  shape_spec (Basic k) ends named h = elim (plain_or_shape k) [
    | inl (s, e) ↦ subst (λ (l : Kind). IsWaitTold ws (node_of l ends)) (sym e)
        (shape_at s ends (subst (λ (l : Kind). IsPartLine line (node_of l ends)) e h))
    | inr p ↦ absurd (plain_name k p (plain_named k ends p h ∙ named))
  ]

  abbrev Other : Type 0
  Other = name ≡ codes "DW" → ⊥

  pub plain_unread : ends_in ws ≡ None → Other → IsNoPartLine line
  plain_unread none other x h =
      let t = plain_spec x.spec x.ends other h in
      let read : ends_in ws ≡ Some (record { inputs = t.inputs; ends = t.ends }) = t.read in
      absurd (cc)

  pub plain_none : (inputs : ℕ) (ends : List ℕ) → ends_in ws ≡ Some (record { inputs = inputs; ends = ends })
      → IsNoPlainPart name inputs ends → Other → IsNoPartLine line
  plain_none inputs ends read none other x h =
      let t = plain_spec x.spec x.ends other h in
      let same_read : ◌≡◌ {A = Option Ends} (Some (record { inputs = t.inputs; ends = t.ends })) (Some (record { inputs = inputs; ends = ends })) = sym t.read ∙ read in
      let same : ◌≡◌ {A = Ends} (record { inputs = t.inputs; ends = t.ends }) (record { inputs = inputs; ends = ends }) = cc in
      none x (subst (λ (e : Ends). IsPlainPart name e.inputs e.ends x) same t.part)

  pub wait_unread : wait_in ws ≡ None → name ≡ codes "DW" → IsNoPartLine line
  wait_unread none named x h =
      let t = shape_spec x.spec x.ends named h in
      let read : wait_in ws ≡ Some t.wait = t.read in
      absurd (cc)

  pub wait_none : (w : Wait) → wait_in ws ≡ Some w → IsNoWaitPart w → name ≡ codes "DW" → IsNoPartLine line
  wait_none w read none named x h =
      let t = shape_spec x.spec x.ends named h in
      let same_read : Some t.wait ≡ Some w = sym t.read ∙ read in
      let same : t.wait ≡ w = cc in
      none x (subst (λ (v : Wait). IsWaitPart v x) same t.part)

pub named_so : (n m : List ℕ) → true ≡ bytes_eq n m → m ≡ codes "DW" → n ≡ codes "DW"
named_so n m t e = (bytes_eq-Decides n m).0 (sym t) ∙ e

pub named_else : (n m : List ℕ) → false ≡ bytes_eq n m → m ≡ codes "DW" → n ≡ codes "DW" → ⊥
named_else n m t e f = let z : true ≡ false = sym ((bytes_eq-Decides n m).1 (f ∙ sym e)) ∙ sym t in absurd (cc)

pub some_more : {A : Type 0} (o : Option A) (P Q : A → Type 0) → ((x : A) → P x → Q x) → IfSome o P → IfSome o Q
some_more None P Q f h = tt
some_more (Some x) P Q f h = f x h

pub ok_some_more : {A E : Type 0} (r : Result (Option A) E) (P Q : A → Type 0) → ((x : A) → P x → Q x) → IfOk r (λ o. IfSome o P)
    → IfOk r (λ o. IfSome o Q)
ok_some_more (Ok o) P Q f h = some_more o P Q f h
ok_some_more (Err e) P Q f h = tt

pub ok_none_more : {A E : Type 0} (r : Result (Option A) E) (P Q : Type 0) → (P → Q) → IfOk r (λ o. IsNone o → P)
    → IfOk r (λ o. IsNone o → Q)
ok_none_more (Ok o) P Q f h = λ n. f (h n)
ok_none_more (Err e) P Q f h = tt

-- ---- the line of a component has no line feed
feed_apart : IsApart 10
feed_apart = record {
  digit = refl;
  upper = refl;
  dot = λ (e : 46 ≡ 10). absurd (omega (arith, e));
  arrow = λ (e : 62 ≡ 10). absurd (omega (arith, e));
  colon = λ (e : 58 ≡ 10). absurd (omega (arith, e));
}

joined_clean : (w : List ℕ) (ws : List (List ℕ)) → AllByRecursion (IsPiece 10) (w ∷ ws) → IsPiece 10 (line_of (w ∷ ws))
joined_clean w [] h = h.0
joined_clean w (v ∷ ws) h = all_append (λ (b : ℕ). b ≢ 10) w (32 ∷ line_of (v ∷ ws)) h.0
    ((λ (e : 32 ≡ 10). absurd (omega (arith, e))), joined_clean v ws h.1)

pub record HasPartLine (x : Node) : Type 0 where
  pub line : List ℕ
  pub is : node_line x ≡ line ++ codes "\n"
  pub clean : IsPiece 10 line

kind_few : (k : Kind) (ends : List ℕ) → IsPart (node_of k ends) → FewShape k
kind_few k ends p = elim (plain_or_shape k) [
  | inl (s, e) ↦ subst FewShape (sym e)
      (let q : IsPart (node_of (Dw s) ends) = subst (λ (l : Kind). IsPart (node_of l ends)) e p in
      let r : Numbered s.rows = omega (arith, q.formed.few) in
      let c : Numbered s.cols = omega (arith, q.formed.few) in
      (omega (arith, r), omega (arith, c), paired_few s.cross (crossings_paired s.rows s.cols s.cross r c s.whole.within)))
  | inr p ↦ plain_few k p
]

kind_line : (k : Kind) (ends : List ℕ) → IsPart (node_of k ends) → HasPartLine (node_of k ends)
kind_line k ends p =
    let s = has_sides k ends p in
    let ins : List ℕ = take (inputs_of k) ends in
    let outs : List ℕ = drop (inputs_of k) ends in
    record {
      line = line_of (part_words k ins outs);
      is = line_words k ins outs;
      clean = joined_clean (name_of k) (behind_name k (wire_words ins outs))
          (words_clean 10 feed_apart k ins outs (kind_few k ends p) (wired_few ins s.fit_ins) (wired_few outs s.fit_outs));
    }

spec_has_line : (s : NodeSpec) (ends : List ℕ) → IsPart (record { spec = s; ends = ends }) → HasPartLine (record { spec = s; ends = ends })
spec_has_line (Cmd c) ends p = let h : false ≡ true = p.basic in absurd (cc)
spec_has_line (Basic k) ends p = kind_line k ends p

pub part_has_line : (x : Node) → IsPart x → HasPartLine x
part_has_line x p = spec_has_line x.spec x.ends p
