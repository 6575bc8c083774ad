use Rattle.std.specs.Prelude.{ℕ}
use Rattle.cmd_tree.specs.Meaning.{TraceOf}
use Rattle.process_laws.specs.Insensitive.{Insensitive}
use Rattle.process_laws.specs.Phased.{Phased}
use Rattle.process_laws.specs.Steady.{Steady}
use Rattle.di_grammar.specs.Grants.{IsGrant}
use Rattle.di_grammar.specs.Outputs.{out_of}
use Rattle.di_grammar.proofs.FairnessLaws.{is_steady, in_phases, keeps_rules}
use Rattle.di_grammar.proofs.FairnessLists.{each_of}
use Rattle.di_grammar.proofs.laws.processes_law.Goals as goal

pub returns-clause-steady : goal.returns-clause-steady
returns-clause-steady c = λ ps shaped admitted. each_of (λ p. (IsGrant p → ⊥) → Steady (TraceOf p)
    (out_of ps)) ps
    (λ p within. is_steady ps admitted p within shaped)

pub returns-clause-phased : goal.returns-clause-phased
returns-clause-phased c = λ ps shaped admitted. each_of (λ p. Phased ℕ (out_of ps) (TraceOf p)) ps
    (λ p within. in_phases ps admitted p within shaped)

pub returns-clause-rules : goal.returns-clause-rules
returns-clause-rules c = λ ps shaped admitted. each_of (λ p. Insensitive (TraceOf p) (out_of ps)) ps
    (λ p within. keeps_rules ps admitted p within shaped)
