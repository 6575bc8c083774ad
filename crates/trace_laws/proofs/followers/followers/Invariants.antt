use Rattle.std.specs.Str.{bytes_eq}
use Rattle.indexmap.specs.IndexMap.{get}
use Rattle.trace_laws.specs.Listed.{output_by}
use Rattle.trace_laws.specs.Mirror.Followers.{FollowUpTo}
use Rattle.trace_laws.proofs.followers.followers.Given as goal

-- the last symbols so far are entered
abbrev pub invariant-loop-word : goal.invariant-loop-word
invariant-loop-word l = FollowUpTo (output_by l.dirs) l.side l.words l.word-index (get bytes_eq l.rows)
