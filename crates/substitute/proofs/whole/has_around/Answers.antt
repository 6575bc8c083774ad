use Rattle.std.proofs.Common.{sym, subst, arith}
use Rattle.std.proofs.lemmas.Bool.{false≢true}
use Rattle.substitute.specs.Refusals.{IsAround}
use Rattle.substitute.proofs.Ports.{around_at}
use Rattle.substitute.proofs.whole.has_around.Goals as goal

pub returns : goal.returns
returns c = (
  λ h. absurd (false≢true h),
  λ h.
      let net = c.args.net.now in
      let (p, l, e) = around_at net c.network_law.ensures.wired c.requires.closed c.args.node c.requires.inside
      c.wires_of-wires.result.now c.wires_of-wires.ensures.ends h.0 h.1 h.2 in
      absurd (c.loop-wire.invariant p (omega (arith, c.loop-wire-test.false)) (subst (IsAround net c.args.node) (sym e) h.2)),
)
