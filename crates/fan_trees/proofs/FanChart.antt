-- A layer from names to numbers: what FORKs, Cs and MERGEs share. A half of one port is a node of the web that is left out.
use Rattle.std.proofs.Common.{◌≡◌, ◌↔◌, ℕ, zero, suc, ◌+◌, ◌<◌, ◌≤◌, List, [], ◌∷◌, ◌++◌, map, length, get_or, ◌⊎◌, inl, inr, refl, sym, ap, subst, ◌∙◌, arith}
use Rattle.std.specs.List.{AllByRecursion, range_with_len}
use Rattle.std.proofs.lemmas.Bool.{cases_lt}
use Rattle.std.proofs.lemmas.List.{map-append}
use Rattle.cmd_tree.specs.Rounds.{tally, naught, Follows}
use Rattle.basic_kinds.specs.declared.kind.Kind.{Kind}
use Rattle.basic_kinds.specs.Kinds.{inputs_of, outputs_of, IsWide}
use Rattle.net_core.specs.declared.spec.NodeSpec.TheVariants.{Kind as Basic}
use Rattle.net_core.specs.Specs.{IsFormed, May}
use Rattle.net_laws.proofs.Among.{Among, Distinct, all_among}
use Rattle.net_laws.proofs.Rows.{row, among_row, row_among, row_all, distinct_row, range_both, among_left, among_right, among_either, all_both, distinct_both}
use Rattle.net_laws.proofs.KindRules.{KindOn}
use Rattle.fan_trees.specs.FanLayers.{by_width}
use Rattle.fan_trees.proofs.FanRules.{Looks, FanOn}
use Rattle.fan_trees.proofs.FanWires.{Wire, Root, Mid, Leaf, same_wire, above, below, two_ends, size, There, leaves, row_long, leaves_long, Rule, env_on, hub_on, half_on, both, flip, may_by}

pub by_one : {A : Type 0} (n : ℕ) (a b : A) → n ≡ 1 → by_width n a b ≡ a
by_one zero a b e = refl
by_one (suc zero) a b e = refl
by_one (suc (suc n)) a b e = absurd (omega arith)

pub by_more : {A : Type 0} (n : ℕ) (a b : A) → 2 ≤ n → by_width n a b ≡ b
by_more zero a b e = absurd (omega arith)
by_more (suc zero) a b e = absurd (omega arith)
by_more (suc (suc n)) a b e = refl

pub one_or_more : (n : ℕ) → 0 < n → (n ≡ 1) ⊎ (2 ≤ n)
one_or_more n some = elim (cases_lt n 2) [ inl low ↦ inl (omega arith) | inr more ↦ inr more ]

zero_one : ◌≡◌ {A = ℕ} 0 1 → ⊥
zero_one e = omega arith

among_all : {A : Type 0} (P : A → Type 0) (xs : List A) → ((x : A) → Among x xs → P x) → AllByRecursion P xs
among_all P [] k = tt
among_all P (x ∷ xs) k = (k x (inl refl), among_all P xs (λ y a. k y (inr a)))

pub all_by : {A : Type 0} (P Q : A → Type 0) → ((x : A) → P x → Q x) → (xs : List A) → AllByRecursion P xs → AllByRecursion Q xs
all_by P Q k [] all = tt
all_by P Q k (x ∷ xs) all = (k x all.0, all_by P Q k xs all.1)

-- how the ports of a node stand: from the wire of its narrow side and those of its wide side
pub record Ordering (order : Wire → List Wire → List Wire) : Type 0 where
  pub narrow : (x : Wire) (ws : List Wire) → Among x (order x ws)
  pub wide : (w x : Wire) (ws : List Wire) → Among w ws → Among w (order x ws)
  pub either : (w x : Wire) (ws : List Wire) → Among w (order x ws) → (w ≡ x) ⊎ Among w ws
  pub once : (x : Wire) (ws : List Wire) → Distinct ws → (Among x ws → ⊥) → Distinct (order x ws)
  pub long : (x : Wire) (ws : List Wire) → length (order x ws) ≡ suc (length ws)

-- a node of the web that stands in the network
abbrev pub Kept : ℕ → ℕ → ℕ → Type 0
Kept h r zero = Unit {0}
Kept h r (suc zero) = Unit {0}
Kept h r (suc (suc g)) = 2 ≤ size h r g

-- the same of those that there are
abbrev pub Good : ℕ → ℕ → ℕ → Type 0
Good h r zero = Unit {0}
Good h r (suc zero) = Unit {0}
Good h r (suc (suc g)) = (g < 2) × (2 ≤ size h r g)

-- how many ports are on the wide side of a node, and the wires of both sides
abbrev pub width_of : ℕ → ℕ → ℕ → ℕ
width_of h r zero = h + r
width_of h r (suc zero) = 2
width_of h r (suc (suc g)) = size h r g

abbrev pub narrow_of : ℕ → Wire
narrow_of zero = Root
narrow_of (suc zero) = Root
narrow_of (suc (suc g)) = Mid g

abbrev pub wides_of : ℕ → ℕ → ℕ → List Wire
wides_of h r zero = leaves h r
wides_of h r (suc zero) = row Mid 2
wides_of h r (suc (suc g)) = row (Leaf g) (size h r g)

-- the number of the first wire of a half, and that of the wire to its component
abbrev pub start_of : ℕ → ℕ → ℕ
start_of h zero = 0
start_of h (suc g) = h

abbrev pub mid_number : ℕ → ℕ → ℕ → ℕ
mid_number h r zero = h + r + 1
mid_number h r (suc g) = h + r + 2

-- the wire at the narrow port has the number a, those at the wide ports the numbers from s on
abbrev pub number_of : ℕ → ℕ → ℕ → ℕ → Wire → ℕ
number_of h r a s Root = a
number_of h r a s (Mid g) = by_width (size h r g) (s + start_of h g) (mid_number h r g)
number_of h r a s (Leaf g i) = s + (start_of h g + i)

-- the name of the line of a wire, and the end of a line that is nearer to the narrow port. The other end has its name.
abbrev pub root_of : ℕ → ℕ → Wire → Wire
root_of h r Root = Root
root_of h r (Mid g) = by_width (size h r g) (Leaf g 0) (Mid g)
root_of h r (Leaf g i) = Leaf g i

abbrev pub top_of : ℕ → ℕ → Wire → Wire
top_of h r Root = Root
top_of h r (Mid g) = Mid g
top_of h r (Leaf g i) = by_width (size h r g) (Mid g) (Leaf g i)

module _ (h r : ℕ) (wide : 2 ≤ h) (some : 0 < r) where
  abbrev There' : Wire → Type 0
  There' = There h r

  abbrev Keep : ℕ → Type 0
  Keep = Kept h r

  abbrev root : Wire → Wire
  root = root_of h r

  abbrev top : Wire → Wire
  top = top_of h r

  pub half_cases : (g : ℕ) → (size h r g ≡ 1) ⊎ (2 ≤ size h r g)
  half_cases zero = inr wide
  half_cases (suc g) = one_or_more r some

  size_le : (g : ℕ) → size h r g ≤ h + r
  size_le zero = omega arith
  size_le (suc g) = omega arith

  abbrev pub mid_lines : List Wire
  mid_lines = Mid 0 ∷ by_width r [] (Mid 1 ∷ [])

  -- the nodes of the halves
  abbrev pub halves : List ℕ
  halves = 2 ∷ by_width r [] (3 ∷ [])

  mids_all : (P : Wire → Type 0) → ((g : ℕ) → g < 2 → 2 ≤ size h r g → P (Mid g)) → AllByRecursion P mid_lines
  mids_all P k = (k 0 (omega arith) wide, at r refl)
    where
      at : (n : ℕ) → r ≡ n → AllByRecursion P (by_width n [] (Mid 1 ∷ []))
      at zero e = tt
      at (suc zero) e = tt
      at (suc (suc n)) e = (k 1 (omega arith) (let z : 2 ≤ r = omega arith in z), tt)

  mid_among : (g : ℕ) → g < 2 → 2 ≤ size h r g → Among (Mid g) mid_lines
  mid_among zero low more = inl refl
  mid_among (suc zero) low more = inr (subst (Among (Mid 1)) (sym (by_more r [] (Mid 1 ∷ []) more)) (inl refl))
  mid_among (suc (suc g)) low more = absurd (omega arith)

  pub halves_all : (P : ℕ → Type 0) → ((g : ℕ) → g < 2 → 2 ≤ size h r g → P (suc (suc g))) → AllByRecursion P halves
  halves_all P k = (k 0 (omega arith) wide, at r refl)
    where
      at : (n : ℕ) → r ≡ n → AllByRecursion P (by_width n [] (3 ∷ []))
      at zero e = tt
      at (suc zero) e = tt
      at (suc (suc n)) e = (k 1 (omega arith) (let z : 2 ≤ r = omega arith in z), tt)

  pub half_among : (g : ℕ) → g < 2 → 2 ≤ size h r g → Among {A = ℕ} (suc (suc g)) halves
  half_among zero low more = inl refl
  half_among (suc zero) low more = inr (subst (Among {A = ℕ} 3) (sym (by_more r [] (3 ∷ []) more)) (inl refl))
  half_among (suc (suc g)) low more = absurd (omega arith)

  leaves_all : (P : Wire → Type 0) → ((g i : ℕ) → g < 2 → i < size h r g → P (Leaf g i)) → AllByRecursion P (leaves h r)
  leaves_all P k = all_both P (row (Leaf 0) h) (row (Leaf 1) r) (row_all P (Leaf 0) h (λ i low. k 0 i (omega arith) low)) (row_all P (Leaf 1) r (λ i low. k 1 i (omega arith) low))

  pub leaf_among : (g i : ℕ) → g < 2 → i < size h r g → Among (Leaf g i) (leaves h r)
  leaf_among zero i low inside = among_left (Leaf 0 i) (row (Leaf 0) h) (row (Leaf 1) r) (row_among (Leaf 0) h i inside)
  leaf_among (suc zero) i low inside = among_right (Leaf 1 i) (row (Leaf 0) h) (row (Leaf 1) r) (row_among (Leaf 1) r i inside)
  leaf_among (suc (suc g)) i low inside = absurd (omega arith)

  leaf_in : (w : Wire) → Among w (leaves h r) → (g : ℕ) × (i : ℕ) × (w ≡ Leaf g i)
  leaf_in w a = elim (among_either w (row (Leaf 0) h) (row (Leaf 1) r) a) [
    | inl b ↦ let (i, low, e) = among_row (Leaf 0) h w b in (0, i, e)
    | inr b ↦ let (i, low, e) = among_row (Leaf 1) r w b in (1, i, e)
  ]

  leaves_once : Distinct (leaves h r)
  leaves_once = distinct_both (row (Leaf 0) h) (row (Leaf 1) r) (distinct_row (Leaf 0) (λ i j e. cc) h) (distinct_row (Leaf 1) (λ i j e. cc) r)
      (λ x a b.
      let (i, low, e) = among_row (Leaf 0) h x a in
      let (j, high, f) = among_row (Leaf 1) r x b in
      let z : Leaf 0 i ≡ Leaf 1 j = sym e ∙ f in
      let y : ◌≡◌ {A = ℕ} 0 1 = cc in zero_one y)

  -- ---- the nodes

  wides_once : (n : ℕ) → Distinct (wides_of h r n)
  wides_once zero = leaves_once
  wides_once (suc zero) = distinct_row Mid (λ i j e. cc) 2
  wides_once (suc (suc g)) = distinct_row (Leaf g) (λ i j e. cc) (size h r g)

  narrow_away : (n : ℕ) → Among (narrow_of n) (wides_of h r n) → ⊥
  narrow_away zero a = let (g, i, e) = leaf_in Root a in cc
  narrow_away (suc zero) a = let (i, low, e) = among_row Mid 2 Root a in cc
  narrow_away (suc (suc g)) a = let (i, low, e) = among_row (Leaf g) (size h r g) (Mid g) a in cc

  none_wide : (n : ℕ) → Among (Mid 2) (wides_of h r n) → ⊥
  none_wide zero a = let (g, i, e) = leaf_in (Mid 2) a in cc
  none_wide (suc zero) a = let (i, low, e) = among_row Mid 2 (Mid 2) a in let z : 2 ≡ i = cc in omega arith
  none_wide (suc (suc g)) a = let (i, low, e) = among_row (Leaf g) (size h r g) (Mid 2) a in cc

  none_narrow : (n : ℕ) → Good h r n → Mid 2 ≡ narrow_of n → ⊥
  none_narrow zero good e = cc
  none_narrow (suc zero) good e = cc
  none_narrow (suc (suc g)) good e = let z : 2 ≡ g = cc in let low = good.0 in omega arith

  wides_long : (n : ℕ) → length (wides_of h r n) ≡ width_of h r n
  wides_long zero = leaves_long h r
  wides_long (suc zero) = refl
  wides_long (suc (suc g)) = row_long (Leaf g) (size h r g)

  width_more : (n : ℕ) → Good h r n → 2 ≤ width_of h r n
  width_more zero good = omega arith
  width_more (suc zero) good = omega arith
  width_more (suc (suc g)) good = good.1

  width_less : (n : ℕ) → width_of h r n ≤ h + r
  width_less zero = omega arith
  width_less (suc zero) = omega arith
  width_less (suc (suc g)) = size_le g

  pub good_kept : (n : ℕ) → Good h r n → Keep n
  good_kept zero good = tt
  good_kept (suc zero) good = tt
  good_kept (suc (suc g)) good = good.1

  narrow_there : (n : ℕ) → Good h r n → There' (narrow_of n)
  narrow_there zero good = tt
  narrow_there (suc zero) good = tt
  narrow_there (suc (suc g)) good = good.0

  wides_there : (n : ℕ) → Good h r n → AllByRecursion There' (wides_of h r n)
  wides_there zero good = leaves_all There' (λ g i low inside. (low, inside))
  wides_there (suc zero) good = row_all There' Mid 2 (λ g low. low)
  wides_there (suc (suc g)) good = row_all There' (Leaf g) (size h r g) (λ i inside. (good.0, inside))

  -- where the wires of a node but the environment end
  pub narrow_below : (n : ℕ) → below (narrow_of (suc n)) ≡ suc n
  narrow_below zero = refl
  narrow_below (suc g) = refl

  pub wides_above : (n : ℕ) → AllByRecursion (λ w. above w ≡ suc n) (wides_of h r (suc n))
  wides_above zero = row_all (λ w. above w ≡ 1) Mid 2 (λ g low. refl)
  wides_above (suc g) = row_all (λ w. above w ≡ suc (suc g)) (Leaf g) (size h r g) (λ i low. refl)

  pub leaves_below : AllByRecursion (λ w. below w ≡ 0) (leaves h r)
  leaves_below = leaves_all (λ w. below w ≡ 0) (λ g i low inside. refl)

  -- ---- the lines

  pub keep_above : (w : Wire) → There' w → Keep (above w) ⊎ (Keep (above w) → ⊥)
  keep_above Root t = inl tt
  keep_above (Mid g) t = inl tt
  keep_above (Leaf g i) t = elim (half_cases g) [ inl one ↦ inr (λ k. omega arith) | inr more ↦ inl more ]

  pub keep_below : (w : Wire) → There' w → Keep (below w) ⊎ (Keep (below w) → ⊥)
  keep_below Root t = inl tt
  keep_below (Mid g) t = elim (half_cases g) [ inl one ↦ inr (λ k. omega arith) | inr more ↦ inl more ]
  keep_below (Leaf g i) t = inl tt

  top_leaf : (g i : ℕ) → g < 2 → i < size h r g → There' (top (Leaf g i)) × Keep (above (top (Leaf g i))) × (root (top (Leaf g i)) ≡ Leaf g i)
  top_leaf g i low inside = elim (half_cases g) [
    | inl one ↦ subst (λ w. There' w × Keep (above w) × (root w ≡ Leaf g i)) (sym (by_one (size h r g) (Mid g) (Leaf g i) one))
        (low, tt, by_one (size h r g) (Leaf g 0) (Mid g) one ∙ ap (Leaf g) (let z : 0 ≡ i = omega arith in z))
    | inr more ↦ subst (λ w. There' w × Keep (above w) × (root w ≡ Leaf g i)) (sym (by_more (size h r g) (Mid g) (Leaf g i) more))
        ((low, inside), more, refl)
  ]

  -- a wire at a port of two kept nodes, or the path through a half of one port
  pub leaf_path : (P : Wire → Wire → Type 0) → ((g : ℕ) → g < 2 → size h r g ≡ 1 → P (Mid g) (Leaf g 0)) → ((w : Wire) → P w w)
      → (g i : ℕ) → g < 2 → i < size h r g → P (top (Leaf g i)) (Leaf g i)
  leaf_path P hop here g i low inside = elim (half_cases g) [
    | inl one ↦ subst (λ w. P w (Leaf g i)) (sym (by_one (size h r g) (Mid g) (Leaf g i) one))
        (subst (λ k. P (Mid g) (Leaf g k)) (let z : 0 ≡ i = omega arith in z) (hop g low one))
    | inr more ↦ subst (λ w. P w (Leaf g i)) (sym (by_more (size h r g) (Mid g) (Leaf g i) more)) (here (Leaf g i))
  ]

  module _ (order : Wire → List Wire → List Wire) (o : Ordering order) where
    abbrev pub ports_of : ℕ → List Wire
    ports_of n = order (narrow_of n) (wides_of h r n)

    abbrev pub lines : List Wire
    lines = order Root (leaves h r) ++ mid_lines

    order_all : (P : Wire → Type 0) (x : Wire) (ws : List Wire) → P x → AllByRecursion P ws → AllByRecursion P (order x ws)
    order_all P x ws a all = among_all P (order x ws) (λ w in_order. at w (o.either w x ws in_order))
      where
        at : (w : Wire) → (w ≡ x) ⊎ Among w ws → P w
        at w (inl e) = subst P (sym e) a
        at w (inr b) = all_among P ws all w b

    pub lines_all : (P : Wire → Type 0) → P Root → ((g i : ℕ) → g < 2 → i < size h r g → P (Leaf g i)) → ((g : ℕ) → g < 2 → 2 ≤ size h r g → P (Mid g)) → AllByRecursion P lines
    lines_all P a b k = all_both P (order Root (leaves h r)) mid_lines (order_all P Root (leaves h r) a (leaves_all P b)) (mids_all P k)

    root_line : Among Root lines
    root_line = among_left Root (order Root (leaves h r)) mid_lines (o.narrow Root (leaves h r))

    leaf_line : (g i : ℕ) → g < 2 → i < size h r g → Among (Leaf g i) lines
    leaf_line g i low inside = among_left (Leaf g i) (order Root (leaves h r)) mid_lines (o.wide (Leaf g i) Root (leaves h r) (leaf_among g i low inside))

    mid_line : (g : ℕ) → g < 2 → 2 ≤ size h r g → Among (Mid g) lines
    mid_line g low more = among_right (Mid g) (order Root (leaves h r)) mid_lines (mid_among g low more)

    pub begins_above : (w : Wire) → There' w → Keep (above w) → Among (root w) lines × (top (root w) ≡ w)
    begins_above Root t k = (root_line, refl)
    begins_above (Mid g) t k = elim (half_cases g) [
      | inl one ↦ subst (λ v. Among v lines × (top v ≡ Mid g)) (sym (by_one (size h r g) (Leaf g 0) (Mid g) one))
          (leaf_line g 0 t (let z : 0 < size h r g = omega arith in z), by_one (size h r g) (Mid g) (Leaf g 0) one)
      | inr more ↦ subst (λ v. Among v lines × (top v ≡ Mid g)) (sym (by_more (size h r g) (Leaf g 0) (Mid g) more)) (mid_line g t more, refl)
    ]
    begins_above (Leaf g i) t k = (leaf_line g i t.0 t.1, by_more (size h r g) (Mid g) (Leaf g i) k)

    pub ends_below : (w : Wire) → There' w → Keep (below w) → Among (root w) lines × (root w ≡ w)
    ends_below Root t k = (root_line, refl)
    ends_below (Mid g) t k = subst (λ v. Among v lines × (v ≡ Mid g)) (sym (by_more (size h r g) (Leaf g 0) (Mid g) k)) (mid_line g t k, refl)
    ends_below (Leaf g i) t k = (leaf_line g i t.0 t.1, refl)

    pub tops : AllByRecursion (λ v. There' (top v) × Keep (above (top v)) × (root (top v) ≡ v)) lines
    tops = lines_all (λ v. There' (top v) × Keep (above (top v)) × (root (top v) ≡ v)) (tt, tt, refl) top_leaf
        (λ g low more. (low, tt, by_more (size h r g) (Leaf g 0) (Mid g) more))

    pub bottoms : AllByRecursion (λ v. There' v × Keep (below v) × (root v ≡ v)) lines
    bottoms = lines_all (λ v. There' v × Keep (below v) × (root v ≡ v)) (tt, tt, refl) (λ g i low inside. ((low, inside), tt, refl))
        (λ g low more. (low, more, by_more (size h r g) (Leaf g 0) (Mid g) more))

    pub line_ends : AllByRecursion (λ v. above (top v) ≡ below v → ⊥) lines
    line_ends = lines_all (λ v. above (top v) ≡ below v → ⊥) (two_ends Root)
        (leaf_path (λ w v. above w ≡ below v → ⊥) (λ g low one e. omega arith) two_ends) (λ g low more. two_ends (Mid g))

    -- ---- the numbers

    module _ (a s : ℕ) (numbered : map (number_of h r a s) (order Root (leaves h r)) ≡ range_with_len 0 (h + r + 1)) where
      abbrev number : Wire → ℕ
      number = number_of h r a s

      abbrev pub many : ℕ
      many = by_width r (h + r + 2) (h + r + 3)

      first_mid : number (Mid 0) ≡ h + r + 1
      first_mid = by_more h (s + 0) (h + r + 1) wide

      pub numbers_are : map number lines ≡ range_with_len 0 many
      numbers_are =
          map-append number (order Root (leaves h r)) mid_lines
          ∙ ap (λ l. l ++ number (Mid 0) ∷ map number (by_width r [] (Mid 1 ∷ []))) numbered
          ∙ ap (λ k. range_with_len 0 (h + r + 1) ++ k ∷ map number (by_width r [] (Mid 1 ∷ []))) first_mid
          ∙ at r refl some
        where
          at : (n : ℕ) → r ≡ n → 0 < n
              → range_with_len 0 (h + r + 1) ++ (h + r + 1) ∷ map number (by_width n [] (Mid 1 ∷ [])) ≡ range_with_len 0 (by_width n (h + r + 2) (h + r + 3))
          at zero e pos = absurd (omega arith)
          at (suc zero) e pos =
              ap (λ k. range_with_len 0 (h + r + 1) ++ k ∷ []) (let z : h + r + 1 ≡ 0 + (h + r + 1) = omega arith in z)
              ∙ range_both 0 (h + r + 1) 1 ∙ ap (range_with_len 0) (let z : h + r + 1 + 1 ≡ h + r + 2 = omega arith in z)
          at (suc (suc n)) e pos =
              let second : number (Mid 1) ≡ h + r + 2 = by_more r (s + h) (h + r + 2) (omega arith) in
              ap (λ k. range_with_len 0 (h + r + 1) ++ (h + r + 1) ∷ k ∷ []) second
              ∙ ap (λ k. range_with_len 0 (h + r + 1) ++ k ∷ (h + r + 2) ∷ []) (let z : h + r + 1 ≡ 0 + (h + r + 1) = omega arith in z)
              ∙ ap (λ k. range_with_len 0 (h + r + 1) ++ (0 + (h + r + 1)) ∷ k ∷ []) (let z : h + r + 2 ≡ 0 + (h + r + 1) + 1 = omega arith in z)
              ∙ range_both 0 (h + r + 1) 2 ∙ ap (range_with_len 0) (let z : h + r + 1 + 2 ≡ h + r + 3 = omega arith in z)

      pub number_root : (w : Wire) → There' w → number w ≡ number (root w)
      number_root Root t = refl
      number_root (Leaf g i) t = refl
      number_root (Mid g) t = elim (half_cases g) [
        | inl one ↦
            by_one (size h r g) (s + start_of h g) (mid_number h r g) one ∙ (let z : s + start_of h g ≡ s + (start_of h g + 0) = omega arith in z)
            ∙ ap number (sym (by_one (size h r g) (Leaf g 0) (Mid g) one))
        | inr more ↦ ap number (sym (by_more (size h r g) (Leaf g 0) (Mid g) more))
      ]

    -- ---- the ports and the traces of the nodes

    module _ (parts : List ℕ) (hub_part : Among 1 parts) (half_part : (g : ℕ) → g < 2 → 2 ≤ size h r g → Among {A = ℕ} (suc (suc g)) parts)
        (good : AllByRecursion (Good h r) (0 ∷ parts)) where
      pub at_above : (w : Wire) → There' w → Keep (above w) → Among {A = ℕ} (above w) (0 ∷ parts) × Among w (ports_of (above w))
      at_above Root t k = (inl refl, o.narrow Root (leaves h r))
      at_above (Mid g) t k = (inr hub_part, o.wide (Mid g) Root (row Mid 2) (row_among Mid 2 g t))
      at_above (Leaf g i) t k = (inr (half_part g t.0 k), o.wide (Leaf g i) (Mid g) (row (Leaf g) (size h r g)) (row_among (Leaf g) (size h r g) i t.1))

      pub at_below : (w : Wire) → There' w → Keep (below w) → Among {A = ℕ} (below w) (0 ∷ parts) × Among w (ports_of (below w))
      at_below Root t k = (inr hub_part, o.narrow Root (row Mid 2))
      at_below (Mid g) t k = (inr (half_part g t k), o.narrow (Mid g) (row (Leaf g) (size h r g)))
      at_below (Leaf g i) t k = (inl refl, o.wide (Leaf g i) Root (leaves h r) (leaf_among g i t.0 t.1))

      pub parts_kept : AllByRecursion Keep (0 ∷ parts)
      parts_kept = all_by (Good h r) Keep good_kept (0 ∷ parts) good

      pub ports_once : AllByRecursion (λ n. Distinct (ports_of n)) (0 ∷ parts)
      ports_once = all_by (Good h r) (λ n. Distinct (ports_of n)) (λ n k. o.once (narrow_of n) (wides_of h r n) (wides_once n) (narrow_away n)) (0 ∷ parts) good

      pub ports_there : AllByRecursion (λ n. AllByRecursion There' (ports_of n)) (0 ∷ parts)
      ports_there = all_by (Good h r) (λ n. AllByRecursion There' (ports_of n))
          (λ n k. order_all There' (narrow_of n) (wides_of h r n) (narrow_there n k) (wides_there n k)) (0 ∷ parts) good

      pub ports_long : (n : ℕ) → length (ports_of n) ≡ suc (width_of h r n)
      ports_long n = o.long (narrow_of n) (wides_of h r n) ∙ ap suc (wides_long n)

      module _ (kind : ℕ → Kind) (formed : (n : ℕ) → 2 ≤ n → n ≤ h + r → IsFormed (Basic (kind n))) where
        pub parts_formed : AllByRecursion (λ n. IsFormed (Basic (kind (width_of h r n)))) (0 ∷ parts)
        parts_formed = all_by (Good h r) (λ n. IsFormed (Basic (kind (width_of h r n))))
            (λ n k. formed (width_of h r n) (width_more n k) (width_less n)) (0 ∷ parts) good

        module _ (Narrow : ℕ → ℕ → (ℕ → ℕ) → Type 0) (Wide : ℕ → ℕ → (ℕ → ℕ) → ℕ → Type 0) (looks : Looks Narrow Wide)
            (total_ports : (n : ℕ) → inputs_of (kind n) + outputs_of (kind n) ≡ suc n) (is_wide : (n : ℕ) → 2 ≤ n → IsWide (kind n))
            (kind_on : (x : Wire) (ws : List Wire) (n : ℕ) → length ws ≡ n → (e : Wire → ℕ) (w : Wire) → KindOn (kind n) (order x ws) (Mid 2) e w ↔ FanOn Narrow Wide n x ws (Mid 2) e w) where
          rule_on : (n : ℕ) → Good h r n → (e : Wire → ℕ) (w : Wire) → Rule Narrow Wide h r n e w ↔ FanOn Narrow Wide (width_of h r n) (narrow_of n) (wides_of h r n) (Mid 2) e w
          rule_on zero k e w = env_on Narrow Wide h r e w
          rule_on (suc zero) k e w = hub_on Narrow Wide h r looks e w
          rule_on (suc (suc g)) k e w = half_on Narrow Wide h r looks g k.0 e w

          pub parts_may : AllByRecursion (λ n. (t : List ℕ) → May (Basic (kind (width_of h r n))) t
              ↔ Follows (λ v w. Rule Narrow Wide h r n (tally same_wire naught v) w) [] (map (λ p. get_or (ports_of n) p (Mid 2)) t)) (0 ∷ parts)
          parts_may = all_by (Good h r) (λ n. (t : List ℕ) → May (Basic (kind (width_of h r n))) t
              ↔ Follows (λ v w. Rule Narrow Wide h r n (tally same_wire naught v) w) [] (map (λ p. get_or (ports_of n) p (Mid 2)) t))
              (λ n k t. may_by (kind (width_of h r n)) (ports_of n) (o.once (narrow_of n) (wides_of h r n) (wides_once n) (narrow_away n)) (away n k)
              (is_wide (width_of h r n) (width_more n k)) (ports_long n ∙ sym (total_ports (width_of h r n))) (Rule Narrow Wide h r n)
              (λ e w. both (rule_on n k e w) (flip (kind_on (narrow_of n) (wides_of h r n) (width_of h r n) (wides_long n) e w))) t) (0 ∷ parts) good
            where
              away : (n : ℕ) → Good h r n → Among (Mid 2) (ports_of n) → ⊥
              away n k a = elim (o.either (Mid 2) (narrow_of n) (wides_of h r n) a) [ inl e ↦ none_narrow n k e | inr b ↦ none_wide n b ]
