use Rattle.std.proofs.Common.{◌∙◌, ap}
use Rattle.std.specs.Str.{bytes_eq}
use Rattle.indexmap.specs.IndexSet.{insert_key}
use Rattle.arbiters.proofs.SymbolNames.{four_put}
use Rattle.arbiters.proofs.names.put_names.Goals as goal

pub returns : goal.returns
returns c = four_put c.args.before c.args.names.now c.insert.new.self c.insert-2.new.self c.insert-3.new.self c.insert-4.new.self c.requires.few c.requires.names
    (c.in_ok-insert.ensures.names ∙ ap (insert_key bytes_eq c.args.names.now) c.in_ok-name.ensures)
    (c.in_ok-insert-2.ensures.names ∙ ap (insert_key bytes_eq c.insert.new.self) c.in_ok-name-2.ensures)
    (c.in_ok-insert-3.ensures.names ∙ ap (insert_key bytes_eq c.insert-2.new.self) c.in_ok-name-3.ensures)
    (c.in_ok-insert-4.ensures.names ∙ ap (insert_key bytes_eq c.insert-3.new.self) c.in_ok-name-4.ensures)
