-- One sequence after another.
use Rattle.cmd_tree.specs.Tree.{TSeq, Done, Then}

abbrev pub join : TSeq → TSeq → TSeq
join Done t = t
join (Then i s) t = Then i (join s t)
