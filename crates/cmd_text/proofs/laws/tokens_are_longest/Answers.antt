use Rattle.cmd_text.proofs.Tokenized.{scan_tokens}
use Rattle.cmd_text.proofs.laws.tokens_are_longest.Goals as goal

pub returns : goal.returns
returns c = scan_tokens
