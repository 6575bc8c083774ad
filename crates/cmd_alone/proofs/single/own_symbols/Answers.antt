use Rattle.std.proofs.Common.{[], sym, ap, ◌∙◌, append-nil}
use Rattle.cmd_tree.specs.Limits.{marks_of_proc}
use Rattle.cmd_rename.specs.Symbols.{symbols_in, put_each}
use Rattle.cmd_alone.proofs.single.own_symbols.Goals as goal

pub returns : goal.returns
returns c = c.in_ok-symbols.ensures ∙ ap (put_each []) (c.as_slice.ensures.value ∙ c.in_ok-places.ensures ∙ ap symbols_in (sym (append-nil (marks_of_proc c.args.process.now))))
