use Rattle.std.proofs.Common.{◌≡◌, ◌<◌, ℕ, take}
use Rattle.cmd_tree.specs.declared.limits.TheConstants.{MAX_SYMBOLS}
use Rattle.di_grammar.specs.Lists.{Each}
use Rattle.di_grammar.specs.Mirror.Symbols.{IsEntered}
use Rattle.tree_walk.specs.Mirror.Table.{entry_of}
use Rattle.di_grammar.proofs.symbols.enter.Given as goal

abbrev pub invariant-loop-mark : goal.invariant-loop-mark
invariant-loop-mark l = record {
  here : Each (IsEntered (entry_of l.entered)) (take l.mark-index l.marks);
  kept : (a : ℕ) → a < MAX_SYMBOLS → entry_of l.initial.entered a ≡ 1 → entry_of l.entered a ≡ 1;
}
