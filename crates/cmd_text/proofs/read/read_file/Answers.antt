use Rattle.cmd_text.proofs.WholeFile.{refused_bytes, fault_told, text_refused, read_text, one_text, no_fault}
use Rattle.cmd_text.proofs.read.read_file.Goals as goal

pub read_tokens-requires-clause-few : goal.read_tokens-requires-clause-few
read_tokens-requires-clause-few c = c.requires

pub read_tokens-requires-clause-no_sentences : goal.read_tokens-requires-clause-no_sentences
read_tokens-requires-clause-no_sentences c = c.new-sentences.ensures

pub read_tokens-requires-clause-no_names : goal.read_tokens-requires-clause-no_names
read_tokens-requires-clause-no_names c = c.new-names.ensures

pub returns-in-Ok-clause-ok : goal.returns-in-Ok-clause-ok
returns-in-Ok-clause-ok c = read_text c.args.bytes.now c.read_tokens.new.names c.read_tokens.new.sentences c.in-Ok.ensures.ok

pub returns-in-Ok-clause-same_text : goal.returns-in-Ok-clause-same_text
returns-in-Ok-clause-same_text c = λ ns ts t. one_text c.args.bytes.now c.read_tokens.new.names c.read_tokens.new.sentences ns ts c.in-Ok.ensures.ok t

pub returns-in-Ok-clause-text_read : goal.returns-in-Ok-clause-text_read
returns-in-Ok-clause-text_read c = λ ns ts t s. tt

pub returns-in-Ok-clause-fault_refused : goal.returns-in-Ok-clause-fault_refused
returns-in-Ok-clause-fault_refused c = λ f k e. no_fault c.args.bytes.now c.read_tokens.new.names c.read_tokens.new.sentences f c.in-Ok.ensures.ok k

pub returns-in-Ok-clause-same_fault : goal.returns-in-Ok-clause-same_fault
returns-in-Ok-clause-same_fault c = λ f k. tt

pub returns-in-Err-clause-refused : goal.returns-in-Err-clause-refused
returns-in-Err-clause-refused c = refused_bytes c.args.bytes.now c.in-Err.refusal c.in-Err.ensures.err

pub returns-in-Err-clause-same_text : goal.returns-in-Err-clause-same_text
returns-in-Err-clause-same_text c = λ ns ts t. tt

pub returns-in-Err-clause-text_read : goal.returns-in-Err-clause-text_read
returns-in-Err-clause-text_read c = λ ns ts t s. text_refused c.args.bytes.now c.in-Err.refusal ns ts c.in-Err.ensures.err t s

pub returns-in-Err-clause-fault_refused : goal.returns-in-Err-clause-fault_refused
returns-in-Err-clause-fault_refused c = λ f k e. absurd (cc)

pub returns-in-Err-clause-same_fault : goal.returns-in-Err-clause-same_fault
returns-in-Err-clause-same_fault c = λ f k. fault_told c.args.bytes.now c.in-Err.refusal f c.in-Err.ensures.err k
