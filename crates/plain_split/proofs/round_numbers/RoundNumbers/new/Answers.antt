use Rattle.std.proofs.Common.{suc, arith, ◌∙◌}
use Rattle.plain_split.specs.Mirror.RoundsTables.{parts_by, level_numbers}
use Rattle.plain_split.proofs.RoundsSteps.{table_long, table_row}
use Rattle.plain_split.proofs.round_numbers.RoundNumbers.new.Goals as goal

pub index-requires : goal.index-requires
index-requires c = omega (
  arith,
  table_long (λ v. v.items) (level_numbers (parts_by c.args.parts.now)) c.in_ok-tree.tree.items (suc c.args.parts.now.levels) c.in_ok-tree.ensures.numbers,
  c.in_ok-tree.tree.ok.0,
)

pub all_puts-requires-clause-leaves : goal.all_puts-requires-clause-leaves
all_puts-requires-clause-leaves c =
    c.as_slice-leaves.ensures.value
    ∙ table_row (λ v. v.items) (level_numbers (parts_by c.args.parts.now)) c.in_ok-tree.tree.items (suc c.args.parts.now.levels) c.args.parts.now.levels c.index.result.now
    c.in_ok-tree.ensures.numbers (omega arith) c.index.ensures
