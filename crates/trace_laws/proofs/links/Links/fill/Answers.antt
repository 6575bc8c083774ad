use Rattle.trace_laws.proofs.Linked.{filled, item_read}
use Rattle.trace_laws.proofs.links.Links.fill.Goals as goal

pub returns-then-place-len : goal.returns-then-place-len
returns-then-place-len c = record {
  follow = c.requires.links.follow;
  rows = filled c.args.words.now c.args.self.now.rows.items c.args.place c.in-Some.word.now c.in_ok-row.row c.requires.links.rows
      (item_read c.args.words.now c.as_slice.result.now c.args.place c.in-Some.word.now c.as_slice.ensures c.in-Some.ensures.lookup.0 c.in-Some.ensures.lookup.1)
      c.in_ok-row.ensures.known;
}
