-- Tables that grow by one.
use Rattle.std.proofs.Common.{◌≡◌, ℕ, zero, suc, ◌+◌, ◌/◌, ◌<◌, ◌≤◌, List, [], ◌∷◌, ◌++◌, map, length, get_or, drop, refl, sym, ap, ◌∙◌, arith}
use Rattle.std.specs.List.{AllByRecursion, range_with_len}
use Rattle.std.proofs.Math.ListN.{set}
use Rattle.std.proofs.Math.Seq.{drop-cons}
use Rattle.std.proofs.lemmas.List.{map-set, get_or-map, length-map}
use Rattle.std.proofs.lemmas.List.FromFn.{length-map-range_with_len, get_or-map-range_with_len}
use Rattle.plain_split.specs.RoundsNet.{pow}
use Rattle.plain_split.proofs.RoundsDeal.{pow_some}
use Rattle.net_laws.proofs.Among.{all_at}
use Rattle.net_laws.proofs.Rows.{range_both}
use Rattle.plain_split.specs.declared.gives.Give.{Give}
use Rattle.plain_split.specs.Mirror.RoundsGives.{with_outs}

-- the table with one output more
pub gives_step : {V : Type 0} (f : V → List Give) (d v : V) (y k : ℕ) (outs : List ℕ) (gs : List V) (end : List (List Give)) → k < length outs → AllByRecursion (λ a. a < length gs) outs
    → f v ≡ f (get_or gs (get_or outs k 0) d) ++ record { act = y; port = k } ∷ [] → with_outs y k (drop k outs) (map f gs) ≡ end
    → with_outs y (k + 1) (drop (k + 1) outs) (map f (set gs (get_or outs k 0) v)) ≡ end
gives_step f d v y k outs gs end low known is rest =
    let a : ℕ = get_or outs k 0 in
    let inside : a < length gs = all_at (λ a. a < length gs) 0 outs known k low in
    let next : suc k ≡ k + 1 = omega arith in
    ap (with_outs y (k + 1) (drop (k + 1) outs)) (map-set f gs a v
    ∙ ap (set (map f gs) a) (is ∙ ap (λ xs. xs ++ record { act = y; port = k } ∷ []) (sym (get_or-map f gs a d [] inside))))
    ∙ ap (λ (i : ℕ). with_outs y (k + 1) (drop i outs) (set (map f gs) a (get_or (map f gs) a [] ++ record { act = y; port = k } ∷ []))) (sym next)
    ∙ sym (ap (λ os. with_outs y k os (map f gs)) (drop-cons outs k 0 low)) ∙ rest

pub range_more : (k : ℕ) → range_with_len 0 (k + 1) ≡ range_with_len 0 k ++ k ∷ []
range_more k = let e : 0 + k ≡ k = omega arith in sym (range_both 0 k 1) ∙ ap (λ (i : ℕ). range_with_len 0 k ++ i ∷ []) e

pub half_power : (rest f : ℕ) → rest ≡ pow f → 1 < rest → (g : ℕ) × (f ≡ suc g) × (rest / 2 ≡ pow g)
half_power rest zero e low = absurd (omega arith)
half_power rest (suc g) e low = (g, refl, omega arith)

pub one_power : (rest f : ℕ) → rest ≡ pow f → rest ≤ 1 → f ≡ 0
one_power rest zero e low = refl
one_power rest (suc f) e low = absurd (omega (arith, pow_some f))

-- a table of rows, and one of its rows
pub table_long : {V X : Type 0} (f : V → X) (F : ℕ → X) (vs : List V) (m : ℕ) → map f vs ≡ map F (range_with_len 0 m) → length vs ≡ m
table_long f F vs m e = omega (arith, length-map vs f, ap length e, length-map-range_with_len F 0 m)

pub table_row : {V X : Type 0} (f : V → List X) (F : ℕ → List X) (vs : List V) (m i : ℕ) (v : V) → map f vs ≡ map F (range_with_len 0 m) → i < m → v ≡ get_or vs i v → f v ≡ F i
table_row f F vs m i v e low is =
    let inside : i < length vs = omega (arith, table_long f F vs m e) in
    ap f is ∙ sym (get_or-map f vs i v [] inside) ∙ ap (λ rows. get_or rows i []) e ∙ get_or-map-range_with_len F 0 m i i [] low (omega arith)
