use Rattle.std.proofs.Common.{map, sym, ◌∙◌, ap, arith}
use Rattle.std.proofs.lemmas.List.{take_all}
use Rattle.cmd_tree.specs.Tree.{TAlt}
use Rattle.cmd_tree.specs.View.{seqs_of, item_of}
use Rattle.cmd_rename.specs.Renaming.{ren_item, ren_seq}
use Rattle.cmd_rename.specs.Table.{number_by}
use Rattle.cmd_rename.proofs.Trees.{renamed_seq, renamed_seqs}
use Rattle.cmd_rename.proofs.rename.+rename.Goals as goal

pub rename_item-returns-after-loop-seq : goal.rename_item-returns-after-loop-seq
rename_item-returns-after-loop-seq t c =
    let f = number_by c.args.table.now in
    let all = take_all c.loop-seq.seq-index c.as_slice-seq-items.result.now (omega arith) in
    ap (λ u. TAlt (seqs_of u)) (c.loop-seq.invariant ∙ ap (map (ren_seq f)) (all ∙ c.as_slice-seq-items.ensures))
    ∙ ap TAlt (renamed_seqs f c.in-Alt.seqs) ∙ ap (λ u. ren_item f (item_of u)) (sym c.in-Alt.is)

pub rename_seq-returns : goal.rename_seq-returns
rename_seq-returns t c =
    let f = number_by c.args.table.now in
    let all = take_all c.loop-item.item-index c.as_slice-item-items.result.now (omega arith) in
    renamed_seq f c.seq.inside.items c.loop-item.items (c.loop-item.invariant ∙ ap (λ u. map (ren_item f) (map item_of u)) (all ∙ c.as_slice-item-items.ensures))
    ∙ ap (ren_seq f) c.seq.view_is
