use Rattle.std.specs.Prelude.{◌≡◌, false, List}
use Rattle.cmd_tree.specs.declared.tree.Proc.{Proc}
use Rattle.cmd_tree.specs.Meaning.{TraceOf}
use Rattle.process_laws.specs.GrantForms.{granted_of, returned_of}
use Rattle.process_laws.specs.Granting.{PlainGrant, ReleaseGrant}
use Rattle.di_grammar.specs.Grants.{Gift, GrantsPlainly, GrantsWithRelease}
use Rattle.di_grammar.specs.Outputs.{out_of}
use Rattle.di_grammar.proofs.FairnessGrants.{Up, Down}
use Rattle.di_grammar.proofs.FairnessLaws.{asks_and_gives, gives_and_takes, plain_grant, release_grant}
use Rattle.di_grammar.proofs.FairnessLists.{each_of}
use Rattle.di_grammar.proofs.laws.grants_law.Goals as goal

-- a plain grant asks by an input, and gives outputs
abbrev PlainWays : List Proc → Proc → Type 0
PlainWays ps p = (gs : List Gift) (g : GrantsPlainly p gs) → (out_of ps g.asks ≡ false) × Up (out_of ps) g.symbols

-- a grant with release gives outputs, which inputs return
abbrev ReleaseWays : List Proc → Proc → Type 0
ReleaseWays ps p = (gs : List Gift) (g : GrantsWithRelease p gs)
    → Up (out_of ps) (granted_of g.givings) × Down (out_of ps) (returned_of g.givings)

pub returns-clause-plain_ways : goal.returns-clause-plain_ways
returns-clause-plain_ways c = λ ps admitted. each_of (PlainWays ps) ps
    (λ p within. asks_and_gives ps admitted p within)

pub returns-clause-plain : goal.returns-clause-plain
returns-clause-plain c = λ ps admitted. each_of
    (λ p. (gs : List Gift) (g : GrantsPlainly p gs) → PlainGrant g.asks g.symbols (TraceOf p)) ps
    (λ p within. plain_grant ps admitted p within)

pub returns-clause-release_ways : goal.returns-clause-release_ways
returns-clause-release_ways c = λ ps admitted. each_of (ReleaseWays ps) ps
    (λ p within. gives_and_takes ps admitted p within)

pub returns-clause-release : goal.returns-clause-release
returns-clause-release c = λ ps admitted. each_of
    (λ p. (gs : List Gift) (g : GrantsWithRelease p gs) → ReleaseGrant g.givings (TraceOf p)) ps
    (λ p within. release_grant ps admitted p within)
