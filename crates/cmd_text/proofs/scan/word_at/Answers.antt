use Rattle.cmd_text.proofs.Cuts.{too_long, well_named}
use Rattle.cmd_text.proofs.scan.word_at.Goals as goal

pub returns-then-next-at-gt-MAX_NAME_BYTES-clause-err : goal.returns-then-next-at-gt-MAX_NAME_BYTES-clause-err
returns-then-next-at-gt-MAX_NAME_BYTES-clause-err c = too_long c.args.bytes.now c.args.at c.word_end-next.result c.requires.at_in c.word_end-next.ensures.range.1 c.if-next-at-gt-MAX_NAME_BYTES.true c.word_end-next.ensures.scanned

pub returns-clause-ok : goal.returns-clause-ok
returns-clause-ok c = well_named c.args.bytes.now c.args.at c.word_end-next.result c.word_kind-token.result c.requires.at_in c.word_end-next.ensures.range.1 c.if-next-at-gt-MAX_NAME_BYTES.false c.word_kind-token.ensures c.word_end-next.ensures.scanned
