-- The seventh rule: a symbol has one direction in the whole command.
use Rattle.std.specs.Prelude.{◌≡◌, ◌≢◌, List, Some}
use Rattle.cmd_tree.specs.declared.tree.Proc.{Proc}
use Rattle.cmd_tree.specs.Limits.{marks_of_all}
use Rattle.di_grammar.specs.declared.spots.Spot.{Spot}
use Rattle.di_grammar.specs.declared.breach.Breach.{Breach}
use Rattle.di_grammar.specs.Lists.{EachTwo, Within}
use Rattle.di_grammar.specs.Spots.{spots, first_mark}

abbrev pub KeepsDirections : List Proc → Type 0
KeepsDirections ps = EachTwo (λ m n. m.sym.0 ≡ n.sym.0 → m.dir ≡ n.dir) (marks_of_all ps)

-- one of some marks, against the first one of its symbol, which has the other direction
pub record Turned (ss : List Spot) (b : Breach) : Type 0 where
  pub mark : Spot
  pub within : Within ss mark
  pub first : Spot
  pub is_first : first_mark mark.mark.sym.0 ss ≡ Some first
  pub differ : mark.mark.dir ≢ first.mark.dir
  pub process : b.process ≡ mark.process
  pub place : b.place ≡ mark.place
  pub other_process : b.other_process ≡ first.process
  pub other : b.other ≡ first.place
  pub case : b.case ≡ 0

abbrev pub BreaksDirections : List Proc → Breach → Type 0
BreaksDirections ps b = Turned (spots ps) b
