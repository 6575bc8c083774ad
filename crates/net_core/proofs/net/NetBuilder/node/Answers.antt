use Rattle.std.proofs.Common.{◌≡◌, ◌∷◌, [], ◌++◌, ◌-◌, ◌<◌, ◌^◌, suc, length, ap, ◌∙◌, arith, rules, true, false}
use Rattle.net_core.specs.Wiring.{Node, Draft, IsWired}
use Rattle.net_core.specs.Specs.{outs_of}
use Rattle.net_core.specs.Mirror.EndTables.{Added, ports_of}
use Rattle.net_core.proofs.Drafts.{one_part, last_is, written_all, wires_few}
use Rattle.net_core.proofs.net.NetBuilder.node.Goals as goal

pub note_ports-requires-clause-few : goal.note_ports-requires-clause-few
note_ports-requires-clause-few c =
    let x : Node = record { spec = c.args.spec; ends = c.args.wires.items } in
    let pushed : c.push.new.self.items ≡ c.self.inside.parts.items ++ x ∷ [] = c.in_ok-push.ensures.items in
    let at : c.len.result - 1 ≡ length c.self.inside.parts.items = search (rules, c.len.ensures, c.in_ok-push.ensures.len) in
    let here : c.index-node.result.now ≡ x =
    last_is c.self.inside.parts.items x c.index-node.result.now c.push.new.self.items (c.len.result - 1) pushed at c.index-node.ensures in
    let wires : c.deref-2.result.now ≡ c.args.wires.items = c.deref-2.ensures.value ∙ ap (λ (y : Node). y.ends) (c.node.view_is ∙ here) in
    omega (arith, wires_few c.args.self.now.wires x c.requires.fit, ap length wires)

pub invariant_of-self-2 : goal.invariant_of-self-2
invariant_of-self-2 c =
    let x : Node = record { spec = c.args.spec; ends = c.args.wires.items } in
    let pushed : c.push.new.self.items ≡ c.self.inside.parts.items ++ x ∷ [] = c.in_ok-push.ensures.items in
    let at : c.len.result - 1 ≡ length c.self.inside.parts.items = search (rules, c.len.ensures, c.in_ok-push.ensures.len) in
    let here : c.index-node.result.now ≡ x =
    last_is c.self.inside.parts.items x c.index-node.result.now c.push.new.self.items (c.len.result - 1) pushed at c.index-node.ensures in
    let wires : c.deref-2.result.now ≡ c.args.wires.items = c.deref-2.ensures.value ∙ ap (λ (y : Node). y.ends) (c.node.view_is ∙ here) in
    let ends : c.deref_mut.result.now ≡ c.self.inside.ends.items = c.deref_mut.ensures.value in
    let outs : c.deref.result.now ≡ outs_of c.args.spec = c.deref.ensures.value ∙ c.in_ok-outs.ensures in
    let fit : IsWired c.self.inside.wires x = rw (ap (λ (d : Draft). d.wires) c.self.view_is) c.requires.fit in
    let few : suc (suc (length c.self.inside.parts.items)) < 2 ^ 32 =
    omega (arith, c.requires.few, ap (λ (d : Draft). length d.parts) c.self.view_is) in
    let added : Added c.self.inside.ends.items c.note_ports.new.ends (ports_of true c.len-number.result x) (ports_of false c.len-number.result x) =
    rw (← ends, ← wires, ← outs) c.note_ports.ensures in
    let number : c.len-number.result ≡ suc (length c.self.inside.parts.items) = search (rules, c.len-number.ensures, c.in_ok-push.ensures.len) in
    let sized : length c.note_ports.new.ends ≡ c.self.inside.ends.len = search (rules, c.note_ports.ensures.sized, ap length ends) in
    rw (pushed, written_all c.note_ports.new.ends c.self.inside.ends.items c.self.inside.ends.len sized)
    (one_part c.self.inside.spec c.self.inside.parts.items c.self.inside.wires c.self.inside.ends.items c.note_ports.new.ends x c.len-number.result c.self.invariant fit few number added)
