use Rattle.di_io.proofs.Prints.{prints_rest}
use Rattle.di_io.proofs.Each.{each_item}
use Rattle.net_text.specs.NetText.{node_line}
use Rattle.net_text.proofs.net.print_nodes.Goals as goal

pub loop-node-preserved : goal.loop-node-preserved
loop-node-preserved g c =
    let node = c.node-item in
    prints_rest _ _ _ _ _ _
    (each_item node_line c.args.nodes.now c.loop-node.node-index node.result c.loop-node-test.true node.is)
    c.print_node.ensures c.loop-node.invariant
