-- The line of `main`, and the command that is made of it.
use Rattle.std.specs.Prelude.{◌≡◌, ℕ, List, [], get_or}
use Rattle.cmd_tree.specs.declared.tree.Proc.{Proc}
use Rattle.cmd_tree.specs.declared.command.Command.{Command}
use Rattle.cmd_tree.specs.Limits.{IsCommand}
use Rattle.cmd_rename.specs.Symbols.{names_in, symbols_of, renumbered}
use Rattle.cmd_expand.specs.declared.plan.Plan.{Plan}
use Rattle.cmd_expand.specs.Mirror.Plan.{AreLines}

-- the lines have processes, and those of the line of this number are a command, if its symbols are numbered
pub record IsMain (p : Plan) (of : ℕ) : Type 0 where
  pub ms : List (List Proc)
  pub lines : AreLines ms p.lines.items
  pub valid : IsCommand (names_in p.names (symbols_of (get_or ms of []))) (renumbered (get_or ms of []))

-- the command of these processes
pub record IsMeant (all : List (List ℕ)) (ps : List Proc) (c : Command) : Type 0 where
  pub names : c.names ≡ names_in all (symbols_of ps)
  pub procs : c.procs ≡ renumbered ps
