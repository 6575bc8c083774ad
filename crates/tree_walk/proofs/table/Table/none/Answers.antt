use Rattle.tree_walk.proofs.Tables.{all_none}
use Rattle.tree_walk.proofs.table.Table.none.Goals as goal

pub returns : goal.returns
returns c = all_none 1024
