use Rattle.std.proofs.Common.{◌≡◌, length, rules, vec_len, ◌∙◌}
use Rattle.net_core.specs.Mirror.EndTables.{no_ends}
use Rattle.net_core.proofs.Drafts.{more_wires, resized}
use Rattle.net_core.proofs.net.NetBuilder.wires.Goals as goal

pub invariant_of-self-2 : goal.invariant_of-self-2
invariant_of-self-2 c =
    let known : c.len.result ≡ length c.self.inside.ends.items = search (rules, c.len.ensures) in
    let long : vec_len c.self.inside.ends ≡ length c.self.inside.ends.items = search rules in
    rw (c.in_ok-resize.ensures.items ∙ resized c.self.inside.ends.items c.args.many c.len.result (vec_len c.self.inside.ends) no_ends known long)
    (more_wires c.self.inside.spec c.self.inside.parts.items c.self.inside.wires c.args.many c.self.inside.ends.items c.self.invariant)
