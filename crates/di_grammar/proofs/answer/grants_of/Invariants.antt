use Rattle.std.proofs.Common.{ℕ, ◌<◌, ◌≡◌, ◌↔◌, get_or, length, false}
use Rattle.std.specs.Prelude.{IsTrue}
use Rattle.cmd_tree.specs.declared.tree.Proc.{Proc}
use Rattle.di_grammar.specs.Grants.{IsGrant}
use Rattle.di_grammar.proofs.answer.grants_of.Given as goal

abbrev pub invariant-loop-index : goal.invariant-loop-index
invariant-loop-index l = record {
  size : length l.grants ≡ 256;
  told : (i : ℕ) (p : Proc) → i < l.index → p ≡ get_or l.procs i p → IsTrue (get_or l.grants i false) ↔ IsGrant p;
}
