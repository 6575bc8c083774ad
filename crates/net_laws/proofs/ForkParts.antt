-- FORKs side by side as the code makes them.
use Rattle.std.proofs.Common.{◌≡◌, ℕ, zero, suc, ◌+◌, ◌*◌, ◌<◌, ◌≤◌, ◌^◌, Bool, true, false, List, [], ◌∷◌, ◌++◌, map, length, replicate, sym, ap, ◌∙◌, arith, append_assoc, length-append}
use Rattle.std.specs.List.{AllByRecursion, range_with_len}
use Rattle.std.proofs.lemmas.List.{length-replicate}
use Rattle.std.proofs.lemmas.List.FromFn.{length-range_with_len, map-range_with_len_more}
use Rattle.net_core.specs.declared.spec.NodeSpec.{NodeSpec}
use Rattle.net_core.specs.Specs.{sides, outs_of, IsFormed}
use Rattle.net_core.specs.Wiring.{Node, IsWired}
use Rattle.net_laws.specs.ForksNets.{fork_part}
use Rattle.net_laws.proofs.Rows.{block_low}

range_below : (k a n : ℕ) → a + n ≤ k → AllByRecursion (λ w. w < k) (range_with_len a n)
range_below k a zero le = tt
range_below k a (suc n) le = (omega arith, range_below k (a + 1) n (omega arith))

-- the rows up to the one of i end before those of k
block_end : (k m i : ℕ) → i < k → 0 < m → i * m + m ≤ k * m
block_end k zero i h l = absurd (omega arith)
block_end k (suc m) i h l = omega (arith, block_low k (suc m) i m h (omega arith))

pub part_wired : (k m i : ℕ) → i < k → 2 ≤ m → k + k * m < 2 ^ 27 → IsWired (k + k * m) (fork_part k m i)
part_wired k m i low wide few =
    let end = block_end k m i low (omega arith) in
    record {
      sized = ap suc (length-range_with_len (k + i * m) m ∙ sym (length-replicate m true));
      known = (omega arith, range_below (k + k * m) (k + i * m) m (omega arith));
      formed = record { wide = wide; few = omega arith };
    }

pub env_wired : (s : NodeSpec) (k m : ℕ) → IsFormed s → outs_of s ≡ sides k (k * m) → IsWired (k + k * m) (record { spec = s; ends = range_with_len 0 (k + k * m) })
env_wired s k m formed outs = record {
  sized = length-range_with_len 0 (k + k * m)
      ∙ omega (arith, length-append (replicate k false) (replicate (k * m) true), length-replicate k false, length-replicate (k * m) true, ap (λ (bs : List Bool). length bs) outs);
  known = range_below (k + k * m) 0 (k + k * m) (omega arith);
  formed = formed;
}

-- one part more
pub parts_more : (f : ℕ → Node) (xs : List Node) (i : ℕ) → (xs ++ map f (range_with_len 0 i)) ++ f i ∷ [] ≡ xs ++ map f (range_with_len 0 (i + 1))
parts_more f xs i =
    append_assoc xs (map f (range_with_len 0 i)) (f i ∷ []) ∙ ap (λ (l : List Node). xs ++ l) (sym (map-range_with_len_more f 0 i i (omega arith)))
