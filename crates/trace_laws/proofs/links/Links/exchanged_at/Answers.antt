use Rattle.std.proofs.Common.{◌≡◌, ◌∙◌, Some, ap, slice_get}
use Rattle.std.specs.BTreeMap.{get}
use Rattle.trace_laws.specs.Mirror.Links.{key_cmp}
use Rattle.trace_laws.proofs.Linked.{by_known, none_known, read_at}
use Rattle.trace_laws.proofs.links.Links.exchanged_at.Goals as goal

pub returns-in-Some-Some : goal.returns-in-Some-Some
returns-in-Some-Some c =
    let read : slice_get c.args.known.now c.args.index ≡ Some (Some c.in-Some-Some.place) =
    read_at c.args.known.now c.args.index c.in-Some-Some.field-0.now c.in-Some-Some.ensures.lookup.0 c.in-Some-Some.ensures.lookup.1
    ∙ ap Some c.in-Some-Some.field-0-is in
    c.copied.ensures ∙ c.get-in-Some-Some.ensures.value
    ∙ ap (λ p. get key_cmp c.args.self.now.longer (p, c.args.last)) c.in-Some-Some.place-is
    ∙ by_known c.args.words.now (get key_cmp c.args.self.now.longer) c.requires.links.follow c.args.word.now c.args.known.now c.args.index c.in-Some-Some.place
    c.args.last c.requires.known read c.requires.last

pub returns-in-Some-None : goal.returns-in-Some-None
returns-in-Some-None c = none_known c.args.words.now c.requires.closed c.args.word.now c.args.known.now c.args.index c.requires.known
    (read_at c.args.known.now c.args.index c.in-Some-None.field-0.now c.in-Some-None.ensures.lookup.0 c.in-Some-None.ensures.lookup.1
    ∙ ap Some c.in-Some-None.field-0-is)
