use Rattle.std.proofs.Common.{◌≡◌, length, ap, ◌∙◌, arith, rules, true, false}
use Rattle.net_core.specs.Wiring.{Draft, IsWired}
use Rattle.net_core.specs.Specs.{outs_of}
use Rattle.net_core.specs.Mirror.EndTables.{Added, ports_from}
use Rattle.net_core.proofs.Drafts.{whole, written_all, wires_few}
use Rattle.net_core.proofs.net.NetBuilder.finish.Goals as goal

pub note_ports-requires-clause-few : goal.note_ports-requires-clause-few
note_ports-requires-clause-few c =
    let few = wires_few c.args.self.wires (record { spec = c.args.self.spec; ends = c.args.wires.items }) c.requires in
    let wires : c.deref-2.result.now ≡ c.args.wires.items = c.deref-2.ensures.value in
    omega (arith, few, ap length wires)

pub invariant_of-result : goal.invariant_of-result
invariant_of-result c =
    let wires : c.deref-2.result.now ≡ c.args.wires.items = c.deref-2.ensures.value in
    let ends : c.deref_mut.result.now ≡ c.self.inside.ends.items = c.deref_mut.ensures.value in
    let spec : c.self.inside.spec ≡ c.args.self.spec = ap (λ (d : Draft). d.spec) c.self.view_is in
    let count : c.self.inside.wires ≡ c.args.self.wires = ap (λ (d : Draft). d.wires) c.self.view_is in
    let outs : c.deref.result.now ≡ outs_of c.self.inside.spec = c.deref.ensures.value ∙ c.in_ok-outs.ensures in
    let fit : IsWired c.self.inside.wires (record { spec = c.self.inside.spec; ends = c.args.wires.items }) = rw (spec, count) c.requires in
    let added : Added c.self.inside.ends.items c.note_ports.new.ends (ports_from false 0 0 (outs_of c.self.inside.spec) c.args.wires.items) (ports_from true 0 0 (outs_of c.self.inside.spec) c.args.wires.items) =
    rw (← ends, ← wires, ← outs) c.note_ports.ensures in
    let sized : length c.note_ports.new.ends ≡ c.self.inside.ends.len = search (rules, c.note_ports.ensures.sized, ap length ends) in
    rw (c.in_ok-insert.ensures.items, written_all c.note_ports.new.ends c.self.inside.ends.items c.self.inside.ends.len sized)
    (whole c.self.inside.spec c.self.inside.parts.items c.self.inside.wires c.self.inside.ends.items c.note_ports.new.ends c.args.wires.items c.self.invariant fit added)
