-- The processes of a command as the canonical text writes them: a body that is one choice stands as its alternatives.
use Rattle.cmd_tree.specs.declared.tree.Proc.{Proc}
use Rattle.cmd_tree.specs.Tree.{TSeq, TSeqs, TBurst, TAlt, Stop, Or, Done, Then}
use Rattle.cmd_tree.specs.Limits.{of_part}
use Rattle.cmd_text.specs.Process.{Written}

abbrev pub alternatives : TSeq → TSeqs
alternatives Done = Or Done Stop
alternatives (Then (TBurst ms) s) = Or (Then (TBurst ms) s) Stop
alternatives (Then (TAlt ss) Done) = ss
alternatives (Then (TAlt ss) (Then i s)) = Or (Then (TAlt ss) (Then i s)) Stop

abbrev pub written_of : Proc → Written
written_of p = record { lead = p.lead; body = of_part Stop alternatives p.body }
