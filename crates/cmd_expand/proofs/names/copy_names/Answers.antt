use Rattle.std.proofs.Common.{◌∙◌, sym, ap}
use Rattle.cmd_expand.specs.Names.{with_names}
use Rattle.std.proofs.lemmas.List.{drop_all}
use Rattle.cmd_expand.proofs.Listed.{names_kept}
use Rattle.cmd_expand.proofs.names.copy_names.Goals as goal

pub returns : goal.returns
returns c =
    ap (with_names c.loop-name.table) (sym (drop_all c.loop-name.name-index c.args.names.now c.loop-name-test.false)) ∙ c.loop-name.invariant ∙ names_kept c.args.names.now c.requires
