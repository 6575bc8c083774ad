-- What stands for grants.
use Rattle.std.specs.Prelude.{ℕ, Bool, true, ◌&&◌, List, [], ◌∷◌, ◌++◌, Option, None, Some, is_some}
use Rattle.cmd_tree.specs.Tree.{TSeqs, Stop, Or}
use Rattle.process_laws.specs.GrantForms.{Giving}
use Rattle.basic_kinds.specs.Sorts.{Iwires, Merges}
use Rattle.basic_kinds.specs.Sums.{Counted, One, Wide, Sequencer}
use Rattle.di_grammar.specs.Sums.{gift, loan}
use Rattle.count_sum.specs.declared.rings.Ring.{Ring}
use Rattle.count_sum.specs.declared.rings.Ring.TheVariants.{Plain, Release}

abbrev pub giving_of : Option (ℕ × ℕ) → Option Giving
giving_of None = None
giving_of (Some g) = Some (record { granted = g.0; returned = g.1 })

abbrev pub ring_parts : Ring → List Counted
ring_parts (Plain k) = Sequencer k ∷ []
ring_parts (Release k d) = Sequencer k ∷ One Iwires ∷ Wide Merges d ∷ []

abbrev pub ring_of : Option Ring → Option (List Counted)
ring_of None = None
ring_of (Some r) = Some (ring_parts r)

abbrev pub are_gifts : TSeqs → Bool
are_gifts Stop = true
are_gifts (Or s ss) = is_some (gift s) && are_gifts ss

abbrev pub are_loans : TSeqs → Bool
are_loans Stop = true
are_loans (Or s ss) = is_some (loan s) && are_loans ss

abbrev pub return_of : Option Giving → List ℕ
return_of None = []
return_of (Some g) = g.returned ∷ []

abbrev pub returned_by : TSeqs → List ℕ
returned_by Stop = []
returned_by (Or s ss) = return_of (loan s) ++ returned_by ss
