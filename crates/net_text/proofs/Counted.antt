-- How many wires there are up to the greatest number.
use Rattle.std.proofs.Common.{◌≡◌, ℕ, zero, suc, ◌+◌, ◌<◌, ◌≤◌, List, [], ◌∷◌, ◌++◌, length, max, refl, sym, ap, ◌∙◌, subst, arith, add-one}
use Rattle.std.specs.List.{AllByRecursion, range_with_len}
use Rattle.std.proofs.lemmas.List.FromFn.{length-range_with_len}
use Rattle.net_core.specs.declared.spec.NodeSpec.{NodeSpec}
use Rattle.net_core.specs.Specs.{outs_of, IsFormed}
use Rattle.net_core.specs.Wiring.{Node, IsWired}
use Rattle.net_text.specs.NetFault.{IsPart, with_wires, with_parts}

abbrev Below : ℕ → ℕ → Type 0
Below m w = w < m

pub with_small : (n m : ℕ) (ws : List ℕ) → n ≤ m → AllByRecursion (Below m) ws → with_wires n ws ≤ m
with_small n m [] h s = h
with_small n m (w ∷ ws) h s = with_small (max n (w + 1)) m ws (omega (arith, h, s.0)) s.1

pub with_least : (n : ℕ) (ws : List ℕ) → n ≤ with_wires n ws
with_least n [] = omega arith
with_least n (w ∷ ws) = omega (arith, with_least (max n (w + 1)) ws)

pub with_known : (n : ℕ) (ws : List ℕ) → AllByRecursion (Below (with_wires n ws)) ws
with_known n [] = tt
with_known n (w ∷ ws) =
    ((let l = with_least (max n (w + 1)) ws in omega (arith, l)), with_known (max n (w + 1)) ws)

-- a component with more wires known
pub part_wired : (n : ℕ) (x : Node) → IsPart x → IsWired (with_wires n x.ends) x
part_wired n x p = record { sized = p.sized; known = with_known n x.ends; formed = p.formed }

pub with_more : (n : ℕ) (xs : List Node) (x : Node) → with_parts n (xs ++ x ∷ []) ≡ with_wires (with_parts n xs) x.ends
with_more n [] x = refl
with_more n (y ∷ xs) x = with_more (with_wires n y.ends) xs x

-- one number more
range_suc : (a n : ℕ) → range_with_len a (suc n) ≡ range_with_len a n ++ (a + n) ∷ []
range_suc a zero = ap (λ (m : ℕ). m ∷ []) (omega arith)
range_suc a (suc n) = ap (λ (ms : List ℕ). a ∷ ms) (range_suc (a + 1) n
    ∙ ap (λ (m : ℕ). range_with_len (a + 1) n ++ m ∷ []) (omega arith))

pub range_more : (n : ℕ) → range_with_len 0 (n + 1) ≡ range_with_len 0 n ++ n ∷ []
range_more n = rw add-one (range_suc 0 n ∙ ap (λ (m : ℕ). range_with_len 0 n ++ m ∷ []) (omega arith))

range_below : (a n m : ℕ) → a + n ≤ m → AllByRecursion (Below m) (range_with_len a n)
range_below a zero m h = tt
range_below a (suc n) m h = (omega (arith, h), range_below (a + 1) n m (omega (arith, h)))

-- the environment with so many first wires
pub first_wired : (s : NodeSpec) (n m : ℕ) (ends : List ℕ) → ends ≡ range_with_len 0 n → length (outs_of s) ≡ n → n ≤ m → IsFormed s
    → IsWired m (record { spec = s; ends = ends })
first_wired s n m ends e many h f = record {
  sized = ap length e ∙ length-range_with_len 0 n ∙ sym many;
  known = subst (AllByRecursion (Below m)) (sym e) (range_below 0 n m (omega (arith, h)));
  formed = f;
}

pub parts_least : (n : ℕ) (xs : List Node) → n ≤ with_parts n xs
parts_least n [] = omega arith
parts_least n (x ∷ xs) = omega (arith, with_least n x.ends, parts_least (with_wires n x.ends) xs)
