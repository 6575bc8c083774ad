use Rattle.std.proofs.Common.{refl}
use Rattle.net_text.specs.NetFault.{Spec, behind_spec, port_lines}
use Rattle.net_text.specs.Mirror.Stages.{text_of, Refuses, IsNetOf, IsNetFromSpec}
use Rattle.net_text.proofs.PartsRead.{cut_short, ok_more, err_more, net_from_spec, refuses_more, refuses_line, spec_later}
use Rattle.net_text.proofs.read.read_from_spec.Goals as goal

pub returns-in_default-clause-refused : goal.returns-in_default-clause-refused
returns-in_default-clause-refused c = cut_short Spec 2 c.args.text.now (c.in_default.ensures.none refl) tt

pub returns-in-Ok-clause-ok : goal.returns-in-Ok-clause-ok
returns-in-Ok-clause-ok c =
    let k = c.in-Ok.command in
    ok_more c.read_from_ports.result (IsNetOf k (text_of (port_lines k)) c.in-Some.rest.now) (IsNetFromSpec c.args.text.now)
    (λ net f. net_from_spec k c.args.text.now c.in-Some.line.now c.in-Some.rest.now net c.in-Some.ensures.some c.in-Ok.ensures.ok.0 c.in-Ok.ensures.ok.1 f)
    c.read_from_ports.ensures.ok

pub returns-in-Ok-clause-refused : goal.returns-in-Ok-clause-refused
returns-in-Ok-clause-refused c =
    let k = c.in-Ok.command in
    err_more c.read_from_ports.result (Refuses (behind_spec k (port_lines k)) 3 c.in-Some.rest.now) (Refuses Spec 2 c.args.text.now)
    (refuses_more Spec (behind_spec k (port_lines k)) 3 2 c.args.text.now c.in-Some.rest.now
    (spec_later k 2 c.args.text.now c.in-Some.line.now c.in-Some.rest.now c.in-Some.ensures.some c.in-Ok.ensures.ok.0 c.in-Ok.ensures.ok.1))
    c.read_from_ports.ensures.refused

pub returns-in-Err-clause-refused : goal.returns-in-Err-clause-refused
returns-in-Err-clause-refused c =
    refuses_line Spec 2 c.args.text.now c.in-Some.line.now c.in-Some.rest.now c.in-Some.ensures.some c.in-Err.refusal c.in-Err.ensures.refused
