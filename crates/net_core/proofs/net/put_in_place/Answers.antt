use Rattle.std.proofs.Common.{◌≡◌, length, rules, ap, ◌∙◌}
use Rattle.std.specs.List.{remove}
use Rattle.net_core.proofs.InPlace.{in_place}
use Rattle.net_core.proofs.net.put_in_place.Goals as goal

pub returns-clause-ok : goal.returns-clause-ok
returns-clause-ok c =
    let sized : length c.remove.new.self.items ≡ c.remove.new.self.len = search rules in
    let many : c.len-many.result ≡ length c.args.parts.now.items = search (rules, c.len-many.ensures) in
    let removal = c.remove.ensures.items ∙ ap (λ xs. remove xs c.args.at) c.in_ok-append.ensures.items in
    in_place c.args.nodes.now.items c.args.parts.now.items c.remove.new.self.items c.deref_mut.result.now c.rotate_right.new.self c.args.at c.len-many.result
    c.remove.new.self.len c.requires removal c.deref_mut.ensures.value many sized c.rotate_right.ensures.after
