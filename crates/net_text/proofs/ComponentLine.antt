-- The line of a component tells its kind and its wires.
use Rattle.std.proofs.Common.{◌≡◌, ◌⊎◌, inl, inr, ℕ, ◌<◌, false, List, [], ◌∷◌, ◌++◌, length, Some, None, refl, sym, ap, ◌∙◌, subst, arith, append_assoc}
use Rattle.std.specs.Prelude.{IsTrue, nat_lt, flat_map, codes, decimal}
use Rattle.std.specs.List.{AllByRecursion, list_all}
use Rattle.std.specs.Char.{is_ascii_digit, is_ascii_uppercase}
use Rattle.std.proofs.lemmas.Bool.{and_parts, ltb-true}
use Rattle.basic_kinds.specs.declared.shape.Shape.{Shape}
use Rattle.basic_kinds.specs.declared.kind.Kind.{Kind}
use Rattle.basic_kinds.specs.declared.kind.Kind.TheVariants.{Wire, Iwire, Source, Sink, Fork, C, Merge, Toggle, Dw, Seq}
use Rattle.basic_kinds.specs.Kinds.{inputs_of, outputs_of, IsWellFormed}
use Rattle.basic_kinds.specs.Shapes.{IsShape, IsShape-prop, is_within}
use Rattle.text_lines.specs.Lines.{worded}
use Rattle.net_text.specs.NetText.{number_text, crossing_text, kind_text, component_line}
use Rattle.net_text.specs.Told.{Small, AreWiresOf}
use Rattle.net_text.specs.Mirror.PartWords.{name_of, kind_named}
use Rattle.net_text.proofs.Words.{Word, Gap, word_apart, word_begins, decimal_apart, decimal_begins, line, mark, IsItemText, led, items_gap, items_apart}

-- ---- wires and crossings
decimals : IsItemText Small decimal
decimals = record {
  apart = λ m n a b h k g f e. decimal_apart m n a b h k g f e;
  begins = λ n a m r h g e. decimal_begins n a m r h g e;
}

abbrev pub SmallPair : ℕ × ℕ → Type 0
SmallPair p = Small p.0 × Small p.1

abbrev pub pair : ℕ × ℕ → List ℕ
pair p = decimal p.0 ++ 46 ∷ decimal p.1

pair_apart : (p q : ℕ × ℕ) (a b : List ℕ) → SmallPair p → SmallPair q → Gap is_ascii_digit a → Gap is_ascii_digit b
    → pair p ++ a ≡ pair q ++ b → (p ≡ q) × (a ≡ b)
pair_apart p q a b h k g f e =
    let opened : decimal p.0 ++ (46 ∷ (decimal p.1 ++ a)) ≡ decimal q.0 ++ (46 ∷ (decimal q.1 ++ b)) =
    sym (append_assoc (decimal p.0) (46 ∷ decimal p.1) a) ∙ e ∙ append_assoc (decimal q.0) (46 ∷ decimal q.1) b in
    let one = decimal_apart p.0 q.0 (46 ∷ (decimal p.1 ++ a)) (46 ∷ (decimal q.1 ++ b)) h.0 k.0 refl refl opened in
    let rest : ◌≡◌ {A = List ℕ} (46 ∷ (decimal p.1 ++ a)) (46 ∷ (decimal q.1 ++ b)) = one.1 in
    let behind : decimal p.1 ++ a ≡ decimal q.1 ++ b = cc in
    let two = decimal_apart p.1 q.1 a b h.1 k.1 g f behind in
    ((λ i. (one.0 i, two.0 i)), two.1)

pair_begins : (p : ℕ × ℕ) (a : List ℕ) (m : ℕ) (r : List ℕ) → SmallPair p → is_ascii_digit m ≡ false
    → pair p ++ a ≡ m ∷ r → ⊥
pair_begins p a m r h g e = decimal_begins p.0 (46 ∷ (decimal p.1 ++ a)) m r h.0 g
    (sym (append_assoc (decimal p.0) (46 ∷ decimal p.1) a) ∙ e)

pairs : IsItemText SmallPair pair
pairs = record {
  apart = λ p q a b h k g f e. pair_apart p q a b h k g f e;
  begins = λ p a m r h g e. pair_begins p a m r h g e;
}

numbers_led : (xs : List ℕ) → flat_map number_text xs ≡ flat_map (led decimal) xs
unfolding worded
numbers_led [] = refl
numbers_led (x ∷ xs) = ap (λ (t : List ℕ). led decimal x ++ t) (numbers_led xs)

crossings_led : (xs : List (ℕ × ℕ)) → flat_map crossing_text xs ≡ flat_map (led pair) xs
unfolding worded
crossings_led [] = refl
crossings_led (x ∷ xs) = ap (λ (t : List ℕ). led pair x ++ t) (crossings_led xs)

-- ---- what stands between the name of a kind and its wires
-- a shape, and a text behind it
abbrev pub shape_then : Shape → List ℕ → List ℕ
shape_then s t = 32 ∷ (decimal s.rows ++ (32 ∷ (decimal s.cols ++ (flat_map (led pair) s.cross ++ (32 ∷ (58 ∷ t))))))

abbrev pub shape_of : Kind → List ℕ → List ℕ
shape_of Wire t = t
shape_of Iwire t = t
shape_of Source t = t
shape_of Sink t = t
shape_of (Fork n) t = t
shape_of (C n) t = t
shape_of (Merge n) t = t
shape_of Toggle t = t
shape_of (Dw s) t = shape_then s t
shape_of (Seq k) t = t

shape_opened : (s : Shape) (t : List ℕ) → kind_text (Dw s) ++ t ≡ codes "DW" ++ shape_then s t
unfolding worded
shape_opened s t =
    let r : List ℕ = decimal s.rows in
    let c : List ℕ = 32 ∷ decimal s.cols in
    let x : List ℕ = flat_map (led pair) s.cross in
    let behind : List ℕ = 32 ∷ (58 ∷ t) in
    ap (λ (u : List ℕ). (codes "DW " ++ r) ++ c ++ u ++ codes " :" ++ t) (crossings_led s.cross)
    ∙ append_assoc ((codes "DW " ++ r) ++ c ++ x) (codes " :") t
    ∙ append_assoc ((codes "DW " ++ r) ++ c) x behind
    ∙ append_assoc (codes "DW " ++ r) c (x ++ behind)
    ∙ append_assoc (codes "DW ") r (c ++ (x ++ behind))

kind_opened : (k : Kind) (t : List ℕ) → kind_text k ++ t ≡ name_of k ++ shape_of k t
kind_opened Wire t = refl
kind_opened Iwire t = refl
kind_opened Source t = refl
kind_opened Sink t = refl
kind_opened (Fork n) t = refl
kind_opened (C n) t = refl
kind_opened (Merge n) t = refl
kind_opened Toggle t = refl
kind_opened (Dw s) t = shape_opened s t
kind_opened (Seq k) t = refl

pub name_word : (k : Kind) → Word is_ascii_uppercase (name_of k)
name_word Wire = (refl, (refl, (refl, (refl, tt))))
name_word Iwire = (refl, (refl, (refl, (refl, (refl, tt)))))
name_word Source = (refl, (refl, (refl, (refl, (refl, (refl, tt))))))
name_word Sink = (refl, (refl, (refl, (refl, tt))))
name_word (Fork n) = (refl, (refl, (refl, (refl, tt))))
name_word (C n) = (refl, tt)
name_word (Merge n) = (refl, (refl, (refl, (refl, (refl, tt)))))
name_word Toggle = (refl, (refl, (refl, (refl, (refl, (refl, tt))))))
name_word (Dw s) = (refl, (refl, tt))
name_word (Seq k) = (refl, (refl, (refl, tt)))

name_gap : (k : Kind) (t : List ℕ) → Gap is_ascii_uppercase t → Gap is_ascii_uppercase (shape_of k t)
name_gap Wire t g = g
name_gap Iwire t g = g
name_gap Source t g = g
name_gap Sink t g = g
name_gap (Fork n) t g = g
name_gap (C n) t g = g
name_gap (Merge n) t g = g
name_gap Toggle t g = g
name_gap (Dw s) t g = refl
name_gap (Seq k) t g = g

-- a kind without a shape is known by its name and its numbers of wires
pub record IsNamed (k : Kind) : Type 0 where
  pub named : kind_named (name_of k) (inputs_of k) (outputs_of k) ≡ Some k
  pub bare : (t : List ℕ) → shape_of k t ≡ t

shape_or_named : (k : Kind) → ((s : Shape) × (k ≡ Dw s)) ⊎ IsNamed k
shape_or_named Wire = inr (record { named = refl; bare = λ t. refl })
shape_or_named Iwire = inr (record { named = refl; bare = λ t. refl })
shape_or_named Source = inr (record { named = refl; bare = λ t. refl })
shape_or_named Sink = inr (record { named = refl; bare = λ t. refl })
shape_or_named (Fork n) = inr (record { named = refl; bare = λ t. refl })
shape_or_named (C n) = inr (record { named = refl; bare = λ t. refl })
shape_or_named (Merge n) = inr (record { named = refl; bare = λ t. refl })
shape_or_named Toggle = inr (record { named = refl; bare = λ t. refl })
shape_or_named (Dw s) = inl (s, refl)
shape_or_named (Seq k) = inr (record { named = refl; bare = λ t. refl })

-- ---- shapes
abbrev as_shape : (rows cols : ℕ) (cross : List (ℕ × ℕ)) → IsShape rows cols cross → Shape
as_shape rows cols cross w = record { rows = rows; cols = cols; cross = cross; whole = w }

same_given : (m n c d : ℕ) (x y : List (ℕ × ℕ)) (v : IsShape m c x) (w : IsShape n d y) → m ≡ n → c ≡ d → x ≡ y
    → as_shape m c x v ≡ as_shape n d y w
same_given m n c d x y v w e f g =
    let one : (u : IsShape m c x) → as_shape m c x v ≡ as_shape m c x u = λ u. ap (as_shape m c x) (IsShape-prop m c x v u) in
    let two : (u : IsShape m c y) → as_shape m c x v ≡ as_shape m c y u =
    subst (λ (z : List (ℕ × ℕ)). (u : IsShape m c z) → as_shape m c x v ≡ as_shape m c z u) g one in
    let three : (u : IsShape m d y) → as_shape m c x v ≡ as_shape m d y u =
    subst (λ (b : ℕ). (u : IsShape m b y) → as_shape m c x v ≡ as_shape m b y u) f two in
    subst (λ (a : ℕ). (u : IsShape a d y) → as_shape m c x v ≡ as_shape a d y u) e three w

same_shape : (s t : Shape) → s.rows ≡ t.rows → s.cols ≡ t.cols → s.cross ≡ t.cross → s ≡ t
same_shape s t e f g = same_given s.rows t.rows s.cols t.cols s.cross t.cross s.whole t.whole e f g

pub crossings_small : (rows cols : ℕ) (xs : List (ℕ × ℕ)) → Small rows → Small cols → IsTrue (list_all (is_within rows cols) xs)
    → AllByRecursion SmallPair xs
crossings_small rows cols [] h k w = tt
crossings_small rows cols (x ∷ xs) h k w =
    let p = and_parts (is_within rows cols x) (list_all (is_within rows cols) xs) w in
    let q = and_parts (nat_lt x.0 rows) (nat_lt x.1 cols) p.0 in
    ((omega (arith, ltb-true x.0 rows q.0), omega (arith, ltb-true x.1 cols q.1)), crossings_small rows cols xs h k p.1)

-- the shape behind a name tells the shape
shape_apart : (s t : Shape) (a b : List ℕ) → IsWellFormed (Dw s) → IsWellFormed (Dw t) → shape_then s a ≡ shape_then t b
    → (s ≡ t) × (a ≡ b)
shape_apart s t a b f g e =
    let sr : Small s.rows = omega (arith, f.few) in
    let sc : Small s.cols = omega (arith, f.few) in
    let tr : Small t.rows = omega (arith, g.few) in
    let tc : Small t.cols = omega (arith, g.few) in
    let sx : List ℕ = flat_map (led pair) s.cross ++ (32 ∷ (58 ∷ a)) in
    let tx : List ℕ = flat_map (led pair) t.cross ++ (32 ∷ (58 ∷ b)) in
    let opened : decimal s.rows ++ (32 ∷ (decimal s.cols ++ sx)) ≡ decimal t.rows ++ (32 ∷ (decimal t.cols ++ tx)) = cc in
    let one = decimal_apart s.rows t.rows (32 ∷ (decimal s.cols ++ sx)) (32 ∷ (decimal t.cols ++ tx)) sr tr refl refl opened in
    let behind : ◌≡◌ {A = List ℕ} (32 ∷ (decimal s.cols ++ sx)) (32 ∷ (decimal t.cols ++ tx)) = one.1 in
    let next : decimal s.cols ++ sx ≡ decimal t.cols ++ tx = cc in
    let two = decimal_apart s.cols t.cols sx tx sc tc (items_gap SmallPair pair pairs s.cross (32 ∷ (58 ∷ a)) (mark 58 a refl))
    (items_gap SmallPair pair pairs t.cross (32 ∷ (58 ∷ b)) (mark 58 b refl)) next in
    let three = items_apart SmallPair pair pairs s.cross t.cross (32 ∷ (58 ∷ a)) (32 ∷ (58 ∷ b))
    (crossings_small s.rows s.cols s.cross sr sc s.whole.within) (crossings_small t.rows t.cols t.cross tr tc t.whole.within)
    (mark 58 a refl) (mark 58 b refl) two.1 in
    let end : ◌≡◌ {A = List ℕ} (32 ∷ (58 ∷ a)) (32 ∷ (58 ∷ b)) = three.1 in
    (same_shape s t one.0 two.0 three.0, (let done : a ≡ b = cc in done))

-- ---- the wires
-- the wires of a component, and a text behind its line
abbrev pub wires_then : List ℕ → List ℕ → List ℕ → List ℕ
wires_then ins outs t = flat_map (led decimal) ins ++ (32 ∷ (62 ∷ (flat_map (led decimal) outs ++ (10 ∷ t))))

wires_gap : (ins outs t : List ℕ) → Gap is_ascii_uppercase (wires_then ins outs t)
wires_gap [] outs t = refl
wires_gap (w ∷ ins) outs t = refl

wires_apart : (ins jns outs puts r s : List ℕ) → AllByRecursion Small ins → AllByRecursion Small jns
    → AllByRecursion Small outs → AllByRecursion Small puts → wires_then ins outs r ≡ wires_then jns puts s
    → (ins ≡ jns) × (outs ≡ puts) × (r ≡ s)
wires_apart ins jns outs puts r s a b c d e =
    let x : List ℕ = flat_map (led decimal) outs ++ (10 ∷ r) in
    let y : List ℕ = flat_map (led decimal) puts ++ (10 ∷ s) in
    let one = items_apart Small decimal decimals ins jns (32 ∷ (62 ∷ x)) (32 ∷ (62 ∷ y)) a b (mark 62 x refl) (mark 62 y refl) e in
    let behind : ◌≡◌ {A = List ℕ} (32 ∷ (62 ∷ x)) (32 ∷ (62 ∷ y)) = one.1 in
    let next : x ≡ y = cc in
    let two = items_apart Small decimal decimals outs puts (10 ∷ r) (10 ∷ s) c d (line r) (line s) next in
    let end : ◌≡◌ {A = List ℕ} (10 ∷ r) (10 ∷ s) = two.1 in
    (one.0, two.0, (let done : r ≡ s = cc in done))

-- ---- the line
pub line_opened : (k : Kind) (ins outs t : List ℕ) → component_line k ins outs ++ t ≡ name_of k ++ shape_of k (wires_then ins outs t)
line_opened k ins outs t =
    let i : List ℕ = flat_map (led decimal) ins in
    let o : List ℕ = flat_map (led decimal) outs in
    (λ z. kind_text k ++ numbers_led ins z ++ codes " >" ++ numbers_led outs z ++ codes "\n" ++ t)
    ∙ append_assoc (kind_text k ++ i ++ codes " >" ++ o) (codes "\n") t
    ∙ append_assoc (kind_text k ++ i ++ codes " >") o (10 ∷ t)
    ∙ append_assoc (kind_text k ++ i) (codes " >") (o ++ (10 ∷ t))
    ∙ append_assoc (kind_text k) i (32 ∷ (62 ∷ (o ++ (10 ∷ t))))
    ∙ kind_opened k (wires_then ins outs t)

module _ (ins jns outs puts r s : List ℕ) where
  abbrev Told : Kind → Kind → Type 0
  Told k l = AreWiresOf k ins outs → AreWiresOf l jns puts → name_of k ≡ name_of l
      → shape_of k (wires_then ins outs r) ≡ shape_of l (wires_then jns puts s)
      → (k ≡ l) × (ins ≡ jns) × (outs ≡ puts) × (r ≡ s)

  both_shapes : (p q : Shape) → Told (Dw p) (Dw q)
  both_shapes p q f g n e =
      let same = shape_apart p q (wires_then ins outs r) (wires_then jns puts s) f.formed g.formed e in
      let wires = wires_apart ins jns outs puts r s f.small_inputs g.small_inputs f.small_outputs g.small_outputs same.1 in
      (ap Dw same.0, wires.0, wires.1, wires.2)

  both_named : (k l : Kind) → IsNamed k → IsNamed l → Told k l
  both_named k l a b f g n e =
      let same = sym (a.bare (wires_then ins outs r)) ∙ e ∙ b.bare (wires_then jns puts s) in
      let wires = wires_apart ins jns outs puts r s f.small_inputs g.small_inputs f.small_outputs g.small_outputs same in
      let many : inputs_of k ≡ inputs_of l = sym f.all_inputs ∙ ap length wires.0 ∙ g.all_inputs in
      let few : outputs_of k ≡ outputs_of l = sym f.all_outputs ∙ ap length wires.1 ∙ g.all_outputs in
      let told : Some k ≡ Some l = sym a.named ∙ (λ i. kind_named (n i) (many i) (few i)) ∙ b.named in
      ((let kind : k ≡ l = cc in kind), wires.0, wires.1, wires.2)

  -- no kind without a shape has the name of a DW
  no_shape : (l : Kind) → IsNamed l → codes "DW" ≡ name_of l → ⊥
  no_shape l b n =
      let told : None ≡ Some l = ap (λ (m : List ℕ). kind_named m (inputs_of l) (outputs_of l)) n ∙ b.named in
      absurd (cc)

  told : (k l : Kind) → Told k l
  told k l = elim (shape_or_named k) [
    | inl (p, a) ↦ elim (shape_or_named l) [
      | inl (q, b) ↦ subst (λ (x : Kind). Told x l) (sym a) (subst (λ (y : Kind). Told (Dw p) y) (sym b) (both_shapes p q))
      | inr b ↦ subst (λ (x : Kind). Told x l) (sym a) (λ f g n e. absurd (no_shape l b n))
    ]
    | inr a ↦ elim (shape_or_named l) [
      | inl (q, b) ↦ subst (λ (y : Kind). Told k y) (sym b) (λ f g n e. absurd (no_shape k a (sym n)))
      | inr b ↦ both_named k l a b
    ]
  ]

  pub line_apart : (k l : Kind) → AreWiresOf k ins outs → AreWiresOf l jns puts
      → component_line k ins outs ++ r ≡ component_line l jns puts ++ s → (k ≡ l) × (ins ≡ jns) × (outs ≡ puts) × (r ≡ s)
  line_apart k l f g e =
      let opened = sym (line_opened k ins outs r) ∙ e ∙ line_opened l jns puts s in
      let parted = word_apart is_ascii_uppercase (name_of k) (name_of l) (shape_of k (wires_then ins outs r))
      (shape_of l (wires_then jns puts s)) (name_word k) (name_word l) (name_gap k (wires_then ins outs r) (wires_gap ins outs r))
      (name_gap l (wires_then jns puts s) (wires_gap jns puts s)) opened in
      told k l f g parted.0 parted.1

-- a kind has a name, of which no byte is the one that the last line begins with
name_some : (k : Kind) → 0 < length (name_of k)
name_some Wire = omega arith
name_some Iwire = omega arith
name_some Source = omega arith
name_some Sink = omega arith
name_some (Fork n) = omega arith
name_some (C n) = omega arith
name_some (Merge n) = omega arith
name_some Toggle = omega arith
name_some (Dw s) = omega arith
name_some (Seq k) = omega arith

pub line_begins : (k : Kind) (ins outs t r : List ℕ) → component_line k ins outs ++ t ≡ 101 ∷ r → ⊥
line_begins k ins outs t r e = word_begins is_ascii_uppercase (name_of k) (shape_of k (wires_then ins outs t)) 101 r
    (name_some k) (name_word k) refl (sym (line_opened k ins outs t) ∙ e)

pub lines_told : (k l : Kind) (ins outs jns puts : List ℕ) → AreWiresOf k ins outs → AreWiresOf l jns puts
    → component_line k ins outs ≡ component_line l jns puts → (k ≡ l) × (ins ≡ jns) × (outs ≡ puts)
lines_told k l ins outs jns puts f g e =
    let told = line_apart ins jns outs puts [] [] k l f g (ap (λ (t : List ℕ). t ++ []) e) in
    (told.0, told.1, told.2)
