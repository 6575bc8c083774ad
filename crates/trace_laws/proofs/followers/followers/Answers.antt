use Rattle.std.specs.Str.{bytes_eq}
use Rattle.indexmap.specs.IndexMap.{get}
use Rattle.trace_laws.specs.Listed.{output_by}
use Rattle.trace_laws.proofs.Following.{follow_more}
use Rattle.trace_laws.proofs.followers.followers.Goals as goal

pub loop-word-preserved : goal.loop-word-preserved
loop-word-preserved c = follow_more (output_by c.args.dirs.now) c.args.side c.args.words.now c.as_slice-word-items.result.now c.loop-word.word-index
    c.word-item.result (get bytes_eq c.loop-word.rows) (get bytes_eq c.enter.new.rows) c.as_slice-word-items.ensures c.loop-word-test.true
    c.word-item.is c.in_ok-enter.ensures c.loop-word.invariant
