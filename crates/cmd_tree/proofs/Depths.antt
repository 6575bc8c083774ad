-- A choice stands in brackets, so a command's choices stand in one another at most 65 deep.
use Rattle.std.proofs.Common.{◌≡◌, ℕ, zero, suc, ◌+◌, ◌<◌, ◌≤◌, List, [], ◌∷◌, length, get_or, Option, None, Some, arith, sym, subst}
use Rattle.std.specs.List.{AllByRecursion}
use Rattle.cmd_tree.specs.declared.tree.Proc.{Proc}
use Rattle.cmd_tree.specs.Tree.{TItem, TSeq, TSeqs, TBurst, TAlt, Stop, Or, Done, Then, depth_of, depth_in, depth_among}
use Rattle.cmd_tree.specs.Limits.{of_part, depth_of_proc, brackets_of, brackets_in, brackets_among, brackets_of_body, brackets_of_proc}

mutual
  depth_seq : (s : TSeq) → depth_of s ≤ brackets_of s
  depth_seq Done = omega arith
  depth_seq (Then i s) = omega (arith, depth_item i, depth_seq s)

  depth_item : (i : TItem) → depth_in i ≤ brackets_in i
  depth_item (TBurst ms) = omega arith
  depth_item (TAlt ss) = omega (arith, depth_seqs ss)

  depth_seqs : (ss : TSeqs) → depth_among ss ≤ brackets_among ss
  depth_seqs Stop = omega arith
  depth_seqs (Or s ss) = omega (arith, depth_seq s, depth_seqs ss)

depth_lead : (s : Option TSeq) → of_part 0 depth_of s ≤ of_part 0 brackets_of s
depth_lead None = omega arith
depth_lead (Some s) = depth_seq s

depth_body : (s : TSeq) → depth_of s ≤ brackets_of_body s + 1
depth_body Done = omega arith
depth_body (Then (TAlt ss) Done) = omega (arith, depth_seqs ss)
depth_body (Then (TAlt ss) (Then i s)) = omega (arith, depth_seqs ss, depth_item i, depth_seq s)
depth_body (Then (TBurst ms) s) = omega (arith, depth_item (TBurst ms), depth_seq s)

depth_part : (s : Option TSeq) → of_part 0 depth_of s ≤ of_part 0 brackets_of_body s + 1
depth_part None = omega arith
depth_part (Some s) = depth_body s

depth_proc : (p : Proc) → depth_of_proc p ≤ brackets_of_proc p + 1
depth_proc p = omega (arith, depth_lead p.lead, depth_part p.body)

-- of each process of a command
pub depth_few : (procs ps : List Proc) (i : ℕ) (p : Proc) → ps ≡ procs → AllByRecursion (λ p. brackets_of_proc p ≤ 64) procs → i < length ps
    → p ≡ get_or ps i p → depth_of_proc p ≤ 65
depth_few procs ps i p same all h e = go ps i p (subst (AllByRecursion (λ p. brackets_of_proc p ≤ 64)) (sym same) all) h e
  where
    go : (ps : List Proc) (i : ℕ) (p : Proc) → AllByRecursion (λ p. brackets_of_proc p ≤ 64) ps → i < length ps → p ≡ get_or ps i p → depth_of_proc p ≤ 65
    go [] i p all h e = absurd (omega arith)
    go (q ∷ ps) zero p all h e = let few = all.0 in subst (λ r. depth_of_proc r ≤ 65) (sym e) (omega (arith, depth_proc q, few))
    go (q ∷ ps) (suc i) p all h e = go ps i p all.1 (omega arith) e
