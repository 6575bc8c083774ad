use Rattle.std.proofs.Common.{◌≡◌, drop}
use Rattle.cmd_expand.specs.Names.{with_sentences}
use Rattle.cmd_expand.proofs.names.add_sentences.Given as goal

abbrev pub invariant-loop-sentence : goal.invariant-loop-sentence
invariant-loop-sentence l = with_sentences l.names (drop l.sentence-index l.sentences) ≡ with_sentences l.initial.names l.sentences
