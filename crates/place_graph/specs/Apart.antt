-- Processes whose traces tell which alternatives were taken.
use Rattle.cmd_tree.specs.declared.tree.Proc.{Proc}
use Rattle.cmd_tree.specs.Residual.{lead_of}
use Rattle.process_laws.specs.Shape.{IsApart}

-- the alternatives of each choice begin with bursts that share no symbol
pub record HasApart (p : Proc) : Type 0 where
  pub lead : IsApart (lead_of p.lead)
  pub body : IsApart (lead_of p.body)
