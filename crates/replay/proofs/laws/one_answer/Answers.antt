use Rattle.replay.specs.Answers.{event_of}
use Rattle.replay.proofs.Answering.{one_answer_to}
use Rattle.replay.proofs.laws.one_answer.Goals as goal

pub returns : goal.returns
returns c = λ k s e. one_answer_to k s (event_of k e)
