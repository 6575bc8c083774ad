-- What the tables of the parts of a network of rounds say, row by row.
use Rattle.std.specs.Prelude.{if◌then◌else◌, nat_eq}
use Rattle.std.proofs.Common.{Vec, Global, ne_eqb, eq-eqb, true≢false, subst, ◌≤◌, ◌≡◌, ℕ, zero, suc, ◌<◌, Bool, true, false, List, [], ◌∷◌, map, length, get_or, None, Some, refl, sym, ap, ◌∙◌, arith}
use Rattle.std.proofs.lemmas.List.{length-map, get_or-map}
use Rattle.net_core.specs.Specs.{outs_of}
use Rattle.plain_split.specs.declared.gives.Give.{Give}
use Rattle.plain_split.specs.declared.round_parts.RoundParts.{RoundParts}
use Rattle.std.specs.List.{AllByRecursion}
use Rattle.net_laws.proofs.Among.{all_at}
use Rattle.plain_split.proofs.RoundsDeal.{leaf_deep, leaf_first}
use Rattle.plain_split.specs.RoundsNet.{pow, depth, leaf, act_after, Put, Out, To, Go}
use Rattle.plain_split.specs.RoundsChart.{is_single, sole, givers, is_out, begins_process, act_at, on_put, on_go}
use Rattle.plain_split.specs.Mirror.RoundsGives.{give_of}
use Rattle.plain_split.specs.Mirror.RoundsTables.{parts_by, end_of, end_at, IsTabled}

-- one alone
abbrev pub is_one : {A : Type 0} → List A → Bool
is_one [] = false
is_one (x ∷ []) = true
is_one (x ∷ y ∷ xs) = false

pub one_long : {A : Type 0} (xs : List A) → is_one xs ≡ nat_eq (length xs) 1
one_long [] = refl
one_long (x ∷ []) = refl
one_long (x ∷ y ∷ xs) = sym (ne_eqb (length (x ∷ y ∷ xs)) 1 (λ e. omega arith))

pub one_none : {A : Type 0} (xs : List A) → length xs < 1 → is_one xs ≡ false
one_none [] low = refl
one_none (x ∷ xs) low = absurd (omega arith)

pub one_yes : {A : Type 0} (xs : List A) → 1 ≤ length xs → length xs < 2 → is_one xs ≡ true
one_yes [] some low = absurd (omega arith)
one_yes (x ∷ []) some low = refl
one_yes (x ∷ y ∷ xs) some low = absurd (omega arith)

pub one_many : {A : Type 0} (xs : List A) → 2 ≤ length xs → is_one xs ≡ false
one_many [] some = absurd (omega arith)
one_many (x ∷ []) some = absurd (omega arith)
one_many (x ∷ y ∷ xs) some = refl

pub single_first : (xs : List ℕ) → 1 ≤ length xs → length xs < 2 → xs ≡ get_or xs 0 0 ∷ []
single_first [] some low = absurd (omega arith)
single_first (x ∷ []) some low = refl
single_first (x ∷ y ∷ xs) some low = absurd (omega arith)

pub single_one_of : (xs : List ℕ) → is_single xs ≡ is_one xs
single_one_of [] = refl
single_one_of (x ∷ []) = refl
single_one_of (x ∷ y ∷ xs) = refl

one_map : {A B : Type 0} (f : A → B) (xs : List A) → is_one (map f xs) ≡ is_one xs
one_map f [] = refl
one_map f (x ∷ []) = refl
one_map f (x ∷ y ∷ xs) = refl

-- a row of a table of vectors
pub row_is : {V X : Type 0} (f : V → List X) (vs : List V) (v : V) (i : ℕ) → i < length vs → v ≡ get_or vs i v → f v ≡ get_or (map f vs) i []
row_is f vs v i low e = ap f e ∙ sym (get_or-map f vs i v [] low)

module _ (t : RoundParts) (h : IsTabled t) where
  -- the acts that give a symbol are as many as its row says
  pub gives_single : (a : ℕ) (row : List Give) → a < length (outs_of t.spec) → row ≡ get_or (map (λ v. v.items) t.gives.items) a [] → is_single (givers (parts_by t) a) ≡ is_one row
  gives_single a row low e = single_one_of (givers (parts_by t) a) ∙ sym (one_map (give_of (parts_by t).outs a) (givers (parts_by t) a)) ∙ ap is_one (sym (e ∙ h.gives a low))

  pub gives_long : (a : ℕ) (row : List Give) → a < length (outs_of t.spec) → row ≡ get_or (map (λ v. v.items) t.gives.items) a [] → length row ≡ length (givers (parts_by t) a)
  gives_long a row low e = ap length (e ∙ h.gives a low) ∙ length-map (givers (parts_by t) a) (give_of (parts_by t).outs a)

  pub put_ends_at : (y a : ℕ) (row : List Give) → a < length (outs_of t.spec) → row ≡ get_or (map (λ v. v.items) t.gives.items) a []
      → end_of (on_put (parts_by t) y a) ≡ (if is_one row then Some a else None)
  put_ends_at y a row low e = ap (λ b. end_of (if b then Out a else Put y a)) (gives_single a row low e) ∙ at (is_one row)
    where
      at : (b : Bool) → end_of (if b then Out a else Put y a) ≡ (if b then Some a else None)
      at true = refl
      at false = refl

  -- the end of what begins an act, by its outputs
  pub go_ends_at : (y : ℕ) → end_of (on_go (parts_by t) y) ≡ (if is_single ((parts_by t).outs y) then end_of (on_put (parts_by t) y (sole ((parts_by t).outs y))) else None)
  go_ends_at y = at (is_single ((parts_by t).outs y))
    where
      at : (b : Bool) → end_of (if b then on_put (parts_by t) y (sole ((parts_by t).outs y)) else Go y) ≡ (if b then end_of (on_put (parts_by t) y (sole ((parts_by t).outs y))) else None)
      at true = refl
      at false = refl

  pub put_end_at : (y a : ℕ) (v : Vec Give Global) (row : List Give) → a < length (outs_of t.spec) → v ≡ get_or t.gives.items a v → row ≡ v.items
      → end_of (on_put (parts_by t) y a) ≡ (if is_one row then Some a else None)
  put_end_at y a v row low is e = put_ends_at y a row low (e ∙ row_is (λ v. v.items) t.gives.items v a (omega (arith, h.names)) is)

  pub outs_row : (y : ℕ) (v : Vec ℕ Global) (row : List ℕ) → y < pow t.levels → v ≡ get_or t.outs.items y v → row ≡ v.items → row ≡ (parts_by t).outs y
  outs_row y v row low is e = e ∙ row_is (λ v. v.items) t.outs.items v y (omega (arith, h.acts)) is

  pub outs_low : (y i : ℕ) (row : List ℕ) → y < pow t.levels → row ≡ (parts_by t).outs y → i < length row → get_or row i 0 < length (outs_of t.spec)
  outs_low y i row low e less =
      all_at (λ a. a < length (outs_of t.spec)) 0 row (subst (λ os. AllByRecursion (λ a. a < length (outs_of t.spec)) os) (sym e) (h.ready.outs_known y low)) i less

  -- ---- the ends of places of the tree

  pub inner_end : (d i : ℕ) → (d ≡ t.levels → ⊥) → end_at (parts_by t) (To (leaf d i)) ≡ None
  inner_end d i ne = at (nat_eq (depth (leaf d i)) t.levels) (ne_eqb (depth (leaf d i)) t.levels (λ e. ne (sym (leaf_deep d i) ∙ e)))
    where
      at : (b : Bool) → b ≡ false
          → end_of (if b then (if begins_process (parts_by t) (act_at (parts_by t) (leaf d i)) then To (leaf d i) else on_go (parts_by t) (act_at (parts_by t) (leaf d i))) else To (leaf d i)) ≡ None
      at true e = absurd (true≢false e)
      at false e = refl

  pub leaf_at : (i : ℕ) → i < pow t.levels → end_at (parts_by t) (To (leaf t.levels i))
      ≡ (if begins_process (parts_by t) (act_after t.opens (pow t.levels) i) then None else end_of (on_go (parts_by t) (act_after t.opens (pow t.levels) i)))
  leaf_at i low =
      let y : ℕ = act_after t.opens (pow t.levels) i in
      let same : act_at (parts_by t) (leaf t.levels i) ≡ act_after t.opens (pow t.levels) i = ap (act_after t.opens (pow t.levels)) (leaf_first t.levels i low) in
      at (nat_eq (depth (leaf t.levels i)) t.levels) (eq-eqb (depth (leaf t.levels i)) t.levels (leaf_deep t.levels i)) (begins_process (parts_by t) (act_at (parts_by t) (leaf t.levels i)))
      ∙ ap (λ (x : ℕ). if begins_process (parts_by t) x then None else end_of (on_go (parts_by t) x)) same
    where
      at : (b : Bool) → b ≡ true → (c : Bool)
          → end_of (if b then (if c then To (leaf t.levels i) else on_go (parts_by t) (act_at (parts_by t) (leaf t.levels i))) else To (leaf t.levels i))
          ≡ (if c then None else end_of (on_go (parts_by t) (act_at (parts_by t) (leaf t.levels i))))
      at false e c = absurd (true≢false (sym e))
      at true e true = refl
      at true e false = refl

  -- ---- which symbols are shown

  pub gives_len : (a : ℕ) (v : Vec Give Global) (k : ℕ) → a < length (outs_of t.spec) → v ≡ get_or t.gives.items a v → k ≡ length v.items → is_single (givers (parts_by t) a) ≡ nat_eq k 1
  gives_len a v k low is long =
      gives_single a v.items low (row_is (λ v. v.items) t.gives.items v a (omega (arith, h.names)) is) ∙ one_long v.items ∙ ap (λ (n : ℕ). nat_eq n 1) (sym long)

  any_rest : (bs : List Bool) (i : ℕ) (d e : Bool) → i < length bs → get_or bs i d ≡ get_or bs i e
  any_rest [] i d e low = absurd (omega arith)
  any_rest (b ∷ bs) zero d e low = refl
  any_rest (b ∷ bs) (suc i) d e low = any_rest bs i d e (omega arith)

  pub side_true : (a : ℕ) (b : Bool) → a < length (outs_of t.spec) → b ≡ get_or t.sides.items a b → b ≡ true → is_out (parts_by t) a ≡ true
  side_true a b low is yes_out = any_rest (outs_of t.spec) a false b low ∙ ap (λ bs. get_or bs a b) (sym h.sides) ∙ sym is ∙ yes_out
