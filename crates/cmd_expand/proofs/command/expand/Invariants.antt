use Rattle.std.proofs.Common.{◌≡◌, ◌++◌, ◌∷◌, List, [], drop}
use Rattle.cmd_expand.specs.Names.{all_names}
use Rattle.cmd_expand.specs.Expansion.{Known, last_of}
use Rattle.cmd_expand.specs.Mirror.Plan.{IsPlanOf}
use Rattle.cmd_expand.proofs.command.expand.Given as goal

abbrev pub invariant-loop-sentence : goal.invariant-loop-sentence
invariant-loop-sentence l = record {
  names : l.plan.names ≡ all_names l.file.names l.file.sentences;
  sentences : l.plan.sentences.now ≡ l.file.sentences;
  known : List Known;
  plan : IsPlanOf known l.plan;
  whole : last_of (all_names l.file.names l.file.sentences) l.file.sentences [] l.file.sentences
      ≡ last_of (all_names l.file.names l.file.sentences) l.file.sentences known (drop l.sentence-index l.definitions ++ l.main ∷ []);
}
