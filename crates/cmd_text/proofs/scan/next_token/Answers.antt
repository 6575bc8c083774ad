use Rattle.std.proofs.Common.{◌+◌, ◌∙◌, arith, drop}
use Rattle.cmd_text.specs.Scan.{scan}
use Rattle.cmd_text.proofs.Cuts.{between_step}
use Rattle.cmd_text.proofs.scan.next_token.Goals as goal

pub loop-at-preserved-in-Blank : goal.loop-at-preserved-in-Blank
loop-at-preserved-in-Blank c = (
  c.loop-at.invariant.0
      ∙ between_step c.args.bytes.now c.loop-at.at c.loop-at-test.true
      ∙ c.in-Blank.ensures.scanned c.loop-at.at (λ m. scan m (c.loop-at.at + 1) (drop (c.loop-at.at + 1) c.args.bytes.now)),
  omega arith,
  omega arith,
)

pub loop-at-preserved : goal.loop-at-preserved
loop-at-preserved c = (
  c.loop-at.invariant.0
      ∙ between_step c.args.bytes.now c.loop-at.at c.loop-at-test.true
      ∙ c.in-Hash.ensures.scanned c.loop-at.at (λ m. scan m (c.loop-at.at + 1) (drop (c.loop-at.at + 1) c.args.bytes.now))
      ∙ c.in-Ok.ensures.ok,
  omega (arith, c.in-Ok.ensures.range),
  omega (arith, c.in-Ok.ensures.range),
)

pub returns-in-Err-clause-err : goal.returns-in-Err-clause-err
returns-in-Err-clause-err c = c.loop-at.invariant.0
    ∙ between_step c.args.bytes.now c.loop-at.at c.loop-at-test.true
    ∙ c.in-Hash.ensures.scanned c.loop-at.at (λ m. scan m (c.loop-at.at + 1) (drop (c.loop-at.at + 1) c.args.bytes.now))
    ∙ c.in-Err.ensures.err
