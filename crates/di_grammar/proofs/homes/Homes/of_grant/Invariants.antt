use Rattle.std.proofs.Common.{◌≡◌, ◌+◌, ◌*◌, List, take}
use Rattle.cmd_tree.specs.declared.tree.Proc.{Proc}
use Rattle.cmd_tree.specs.Limits.{marks_of_all}
use Rattle.cmd_tree.specs.View.{seqs_of}
use Rattle.di_grammar.specs.Breaches.{FirstOf}
use Rattle.di_grammar.specs.Mirror.Found.{first_place, step_of, gifts_of}
use Rattle.di_grammar.specs.Mirror.Homes.{KnowsKinds, BreaksGifts}
use Rattle.di_grammar.specs.Mirror.Laid.{AreSmall}
use Rattle.di_grammar.proofs.homes.Homes.of_grant.Given as goal

abbrev pub invariant-loop-seq : goal.invariant-loop-seq
invariant-loop-seq l = record {
  place : l.place ≡ first_place l.grant.form + l.seq-index * step_of l.grant.form;
  first : (ps : List Proc) → AreSmall (marks_of_all ps)
      → KnowsKinds l.self.grants.first l.self.grants.second l.self.others.stands ps
      → FirstOf (BreaksGifts ps l.number (gifts_of l.grant.form (seqs_of (take l.seq-index l.grant.choice.now)))) l.found;
}
