-- The first bursts passed and those left make the whole.
use Rattle.std.proofs.Common.{◌≡◌, ◌<◌, ℕ, ◌+◌, List, ◌++◌, length, get_or, drop, ap, sym, ◌∙◌, append_assoc}
use Rattle.cmd_tree.specs.Tree.{TSeq, places_of}
use Rattle.cmd_tree.specs.View.{seqs_of}
use Rattle.tree_walk.specs.Bursts.{Burst, firsts_of, firsts_among}
use Rattle.tree_walk.proofs.Walking.{drop_next}

-- these bursts are passed, and with the rest they make the goal
pub record Reached (K : List Burst → Type 0) (rest goal : List Burst) : Type 0 where
  pub passed : List Burst
  pub knows : K passed
  pub whole : passed ++ rest ≡ goal

pub reached_next : (K L : List Burst → Type 0) (k l : ℕ) (xs : List TSeq) (i : ℕ) (x : TSeq) (goal : List Burst)
    → i < length xs → x ≡ get_or xs i x → l ≡ k + places_of x
    → ((bs : List Burst) → K bs → L (bs ++ firsts_of k x))
    → Reached K (firsts_among k (seqs_of (drop i xs))) goal
    → Reached L (firsts_among l (seqs_of (drop (i + 1) xs))) goal
reached_next K L k l xs i x goal h is after goes r = record {
  passed = r.passed ++ firsts_of k x;
  knows = goes r.passed r.knows;
  whole = ap (λ (n : ℕ). (r.passed ++ firsts_of k x) ++ firsts_among n (seqs_of (drop (i + 1) xs))) after
      ∙ append_assoc r.passed (firsts_of k x) (firsts_among (k + places_of x) (seqs_of (drop (i + 1) xs)))
      ∙ sym (ap (λ (ys : List TSeq). r.passed ++ firsts_among k (seqs_of ys)) (drop_next xs i x h is))
      ∙ r.whole;
}
