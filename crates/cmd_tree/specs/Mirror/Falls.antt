-- A sequence is larger than the sequences in it, so a recursion over a tree ends.
use Rattle.std.specs.Prelude.{◌+◌, ◌*◌, ◌≤◌, List, [], ◌∷◌}
use Rattle.std.proofs.Common.{arith}
use denote.Param.Weighed.{most}
use Rattle.cmd_tree.specs.Tree.{TSeq, depth_of, depth_in, depth_among}
use Rattle.cmd_tree.specs.Mirror.Size.{size_of}
use Rattle.cmd_tree.specs.View.{seq_of, seqs_of, item_of}
use Rattle.cmd_tree.specs.declared.tree.Item.{Item}
use Rattle.cmd_tree.specs.declared.tree.Item.TheVariants.{Burst, Alt}
use Rattle.cmd_tree.specs.declared.tree.Seq.TheDeep.{deep-Item}

pub most-seqs : (ss : List TSeq) → most (λ s. size_of s + 1) ss ≤ 2 * depth_among (seqs_of ss) + 2
most-seqs [] = omega arith
most-seqs (s ∷ ss) = omega (arith, most-seqs ss)

pub most-item : (i : Item) → deep-Item i ≤ 2 * depth_in (item_of i)
most-item (Burst ms) = omega arith
most-item (Alt ss) = omega (arith, most-seqs ss)

pub most-seq : (is : List Item) → most deep-Item is ≤ 2 * depth_of (seq_of is)
most-seq [] = omega arith
most-seq (i ∷ is) = omega (arith, most-item i, most-seq is)
