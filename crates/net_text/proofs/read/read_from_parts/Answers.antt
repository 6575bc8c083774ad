use Rattle.std.proofs.Common.{◌≡◌, ap, sym, subst, ◌∙◌, arith, length, [], refl}
use Rattle.net_core.specs.declared.spec.NodeSpec.{NodeSpec}
use Rattle.net_core.specs.Specs.{outs_of, IsFormed}
use Rattle.net_core.specs.Wiring.{Draft, Circuit}
use Rattle.net_text.specs.declared.refusal.NetRefusal.TheVariants as told
use Rattle.net_text.specs.NetFault.{network, open_port}
use Rattle.net_text.proofs.Counted.{first_wired, parts_least}
use Rattle.net_text.proofs.PartsRead.{matched_none, matched_some, least_open, network_is}
use Rattle.net_text.proofs.read.read_from_parts.Goals as goal

pub returns-in-Err-clause-refused : goal.returns-in-Err-clause-refused
returns-in-Err-clause-refused c = λ k e m. c.in-Err.ensures.refused k

pub finish-requires : goal.finish-requires
finish-requires c =
    let read = c.in-Ok.ensures.ok in
    let spec : c.in-Ok.builder.spec ≡ c.args.spec = read.spec ∙ ap (λ (d : Draft). d.spec) c.in_ok-wires.ensures.ok.1 ∙ ap (λ (d : Draft). d.spec) c.in_ok-builder.ensures in
    let first : c.wires.new.self.wires ≡ c.args.symbols = omega (arith, ap (λ (d : Draft). d.wires) c.in_ok-wires.ensures.ok.1, ap (λ (d : Draft). d.wires) c.in_ok-builder.ensures) in
    first_wired c.in-Ok.builder.spec c.args.symbols c.in-Ok.builder.wires c.in_ok-ends.ends.items c.in_ok-ends.ensures
    (ap (λ (s : NodeSpec). length (outs_of s)) spec ∙ c.requires.sized)
    (omega (arith, read.wires, first, parts_least c.wires.new.self.wires c.in-Ok.builder.parts))
    (subst IsFormed (sym spec) c.requires.formed)

pub returns-in-None-clause-ok : goal.returns-in-None-clause-ok
returns-in-None-clause-ok c = λ k e m.
    let read = c.in-Ok.ensures.ok in
    let spec : c.in-Ok.builder.spec ≡ c.args.spec = read.spec ∙ ap (λ (d : Draft). d.spec) c.in_ok-wires.ensures.ok.1 ∙ ap (λ (d : Draft). d.spec) c.in_ok-builder.ensures in
    let first : c.wires.new.self.wires ≡ c.args.symbols = omega (arith, ap (λ (d : Draft). d.wires) c.in_ok-wires.ensures.ok.1, ap (λ (d : Draft). d.wires) c.in_ok-builder.ensures) in
    record {
      parts = c.in-Ok.builder.parts;
      is = c.in_ok-net.ensures ∙ network_is k c.in-Ok.builder.spec c.in_ok-ends.ends.items c.in-Ok.builder.parts c.in-Ok.builder.wires c.args.symbols
          c.wires.new.self.wires (spec ∙ e) m c.in_ok-ends.ensures read.wires first;
      closed = matched_none _ _ c.closed.result c.in-None.is c.closed.ensures;
      small = omega (arith, read.small, ap (λ (n : Circuit). n.wires) c.in_ok-net.ensures);
      few = read.few;
      good = read.good;
      text = read.is;
    }

pub returns-in-Some-clause-refused : goal.returns-in-Some-clause-refused
returns-in-Some-clause-refused c = λ k e m.
    let read = c.in-Ok.ensures.ok in
    let spec : c.in-Ok.builder.spec ≡ c.args.spec = read.spec ∙ ap (λ (d : Draft). d.spec) c.in_ok-wires.ensures.ok.1 ∙ ap (λ (d : Draft). d.spec) c.in_ok-builder.ensures in
    let first : c.wires.new.self.wires ≡ c.args.symbols = omega (arith, ap (λ (d : Draft). d.wires) c.in_ok-wires.ensures.ok.1, ap (λ (d : Draft). d.wires) c.in_ok-builder.ensures) in
    let is = c.in_ok-net.ensures ∙ network_is k c.in-Ok.builder.spec c.in_ok-ends.ends.items c.in-Ok.builder.parts c.in-Ok.builder.wires c.args.symbols
    c.wires.new.self.wires (spec ∙ e) m c.in_ok-ends.ensures read.wires first in
    read.faults k (told.OpenPort c.in-Some.open.wire) (open_port k c.in-Ok.builder.parts read.past c.in-Some.open.wire [] refl
    (least_open _ (network k c.in-Ok.builder.parts) c.in-Some.open.wire is (matched_some _ _ c.closed.result c.in-Some.open c.in-Some.is c.closed.ensures)))
