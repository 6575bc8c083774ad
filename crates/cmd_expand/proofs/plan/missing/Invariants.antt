use Rattle.std.proofs.Common.{◌≡◌, drop}
use Rattle.std.specs.List.{list_any}
use Rattle.cmd_expand.specs.Expansion.{is_named}
use Rattle.cmd_expand.proofs.plan.missing.Given as goal

abbrev pub invariant-loop-sentence : goal.invariant-loop-sentence
invariant-loop-sentence l = list_any (λ s. is_named l.named.name s.name) (drop l.sentence-index l.sentences) ≡ list_any (λ s. is_named l.named.name s.name) l.sentences
