use Rattle.std.proofs.Common.{List, ap, ◌∙◌, sym, arith}
use Rattle.std.proofs.lemmas.List.{drop_all}
use Rattle.cmd_tree.specs.declared.tree.Item.{Item}
use Rattle.cmd_tree.specs.Tree.{TSeq, marks_of, marks_in, marks_among}
use Rattle.cmd_tree.specs.View.{item_of, seq_of, seqs_of}
use Rattle.di_io.proofs.Each.{rest_item}
use Rattle.net_text.specs.Mirror.Ports.{walk_marks}
use Rattle.net_text.proofs.Walks.{walk_rest, walk_end}
use Rattle.net_text.proofs.ports.+ports.Goals as goal

pub print_seq_ports-loop-item-preserved : goal.print_seq_ports-loop-item-preserved
print_seq_ports-loop-item-preserved g n c =
    let items = c.as_slice-item-items.result.now in
    let rest = rest_item items c.loop-item.item-index c.item-item.result c.loop-item-test.true c.item-item.is in
    walk_rest c.args.names.now _ _ _ _ (marks_in (item_of c.item-item.result)) _
    (ap (λ (is : List Item). marks_of (seq_of is)) rest) c.print_item_ports-met.ensures c.loop-item.invariant

pub print_seq_ports-returns : goal.print_seq_ports-returns
print_seq_ports-returns g n c =
    let none = drop_all c.loop-item.item-index c.as_slice-item-items.result.now (omega arith) in
    walk_end c.args.names.now _ _ _ (ap (λ (is : List Item). marks_of (seq_of is)) none) c.loop-item.invariant
    ∙ ap (λ (s : TSeq). walk_marks c.args.names.now (c.args.printer.now, c.args.met) (marks_of s))
    (ap seq_of c.as_slice-item-items.ensures ∙ c.seq.view_is)

pub print_item_ports-loop-seq-preserved : goal.print_item_ports-loop-seq-preserved
print_item_ports-loop-seq-preserved g n c =
    let seqs = c.as_slice-seq-items.result.now in
    let rest = rest_item seqs c.loop-seq.seq-index c.seq-item.result c.loop-seq-test.true c.seq-item.is in
    walk_rest c.args.names.now _ _ _ _ (marks_of c.seq-item.result) _
    (ap (λ (ss : List TSeq). marks_among (seqs_of ss)) rest) c.print_seq_ports-met.ensures c.loop-seq.invariant

pub print_item_ports-returns-after-loop-seq : goal.print_item_ports-returns-after-loop-seq
print_item_ports-returns-after-loop-seq g n c =
    let none = drop_all c.loop-seq.seq-index c.as_slice-seq-items.result.now (omega arith) in
    walk_end c.args.names.now _ _ _ (ap (λ (ss : List TSeq). marks_among (seqs_of ss)) none) c.loop-seq.invariant
    ∙ ap (walk_marks c.args.names.now (c.args.printer.now, c.args.met))
    (ap (λ (ss : List TSeq). marks_among (seqs_of ss)) c.as_slice-seq-items.ensures
    ∙ ap (λ (i : Item). marks_in (item_of i)) (sym c.in-Alt.is))
