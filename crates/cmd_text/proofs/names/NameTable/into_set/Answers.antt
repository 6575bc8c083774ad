use Rattle.std.proofs.Common.{◌∙◌, [], sym, ap}
use Rattle.std.proofs.lemmas.List.{map-id}
use Rattle.std.proofs.lemmas.Iterator.Consumers.{YieldsList-end}
use Rattle.std.proofs.lemmas.Iterator.Adapters.{YieldsList-from_vec}
use Rattle.std.specs.List.{fold}
use Rattle.std.specs.Str.{bytes_eq}
use Rattle.indexmap.specs.IndexSet.{insert_key}
use Rattle.cmd_text.proofs.NameTables.{put_all}
use Rattle.cmd_text.proofs.names.NameTable.into_set.Goals as goal

pub returns : goal.returns
returns c =
    let t = YieldsList-end (YieldsList-from_vec c.self.inside.names.items c.into_iter-name-iterator.ensures.into_iter_gives.0 (c.into_iter-name-iterator.ensures.into_iter_gives.1 ∙ c.self.inside.names.ok.0)) c.loop-name.yielded c.loop-name.name-iterator c.loop-name.yielded_by c.next.result c.next.new.self c.in-None.is c.next.ensures.steps in
    c.loop-name.invariant
    ∙ ap (λ xs. fold (insert_key bytes_eq) [] xs) (sym (map-id c.loop-name.yielded) ∙ t.0)
    ∙ put_all c.self.inside.names.items c.self.invariant.0
    ∙ c.self.view_is
