use Rattle.std.proofs.Common.{refl, inr}
use Rattle.net_text.specs.NetFault.{Version, Spec, version_line}
use Rattle.net_text.proofs.NetLines.{same_line, other_line}
use Rattle.net_text.proofs.PartsRead.{cut_short, version_bad, version_later, refuses_more, refused_or}
use Rattle.net_text.proofs.WholeNet.{netlist_of}
use Rattle.net_text.proofs.read.read_net.Goals as goal

pub returns-in_default-clause-refused : goal.returns-in_default-clause-refused
returns-in_default-clause-refused c = inr (cut_short Version 1 c.args.bytes.now (c.in_default.ensures.none refl) tt)

pub returns-then-ne-clause-refused : goal.returns-then-ne-clause-refused
returns-then-ne-clause-refused c =
    inr (version_bad c.args.bytes.now c.in-Some.line.now c.in-Some.rest.now c.in-Some.ensures.some
    (other_line c.in-Some.line.now c.as_slice.result.now version_line c.if-ne.ensures c.as_slice.ensures))

pub returns-in-Err-clause-refused : goal.returns-in-Err-clause-refused
returns-in-Err-clause-refused c =
    refused_or c.args.bytes.now c.in-Err.refusal (refuses_more Version Spec 2 1 c.args.bytes.now c.in-Some.rest.now
    (version_later c.args.bytes.now c.in-Some.line.now c.in-Some.rest.now c.in-Some.ensures.some
    (same_line c.in-Some.line.now c.as_slice.result.now version_line c.if-ne.ensures c.as_slice.ensures))
    c.in-Err.refusal c.in-Err.ensures.refused)

pub returns-clause-ok : goal.returns-clause-ok
returns-clause-ok c =
    netlist_of c.args.bytes.now c.in-Some.line.now c.in-Some.rest.now c.in-Ok.net c.in-Some.ensures.some
    (same_line c.in-Some.line.now c.as_slice.result.now version_line c.if-ne.ensures c.as_slice.ensures) c.in-Ok.ensures.ok c.network_law.ensures
