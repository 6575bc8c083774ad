-- An alternative of the grant, as a sequence.
use Rattle.std.specs.Prelude.{ℕ}
use Rattle.cmd_tree.specs.Tree.{TSeq, Then}
use Rattle.cmd_tree.specs.Marks.{input, output}
use Rattle.process_laws.specs.GrantForms.{single, lone}
use Rattle.arbiters.specs.Arbiter.{granted, returned}

-- pi!;ci?
abbrev pub loan : ℕ → TSeq
loan i = Then (single (output (granted i))) (lone (single (input (returned i))))
