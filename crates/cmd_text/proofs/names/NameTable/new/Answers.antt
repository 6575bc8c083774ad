use Rattle.std.proofs.Common.{◌∙◌, sym, ap, subst}
use Rattle.std.specs.List.{IsDistinct, position}
use Rattle.std.specs.Map.{lookup}
use Rattle.std.specs.BTreeMap.{is_at}
use Rattle.std.specs.Str.{bytes_eq}
use Rattle.cmd_text.specs.Mirror.Tables.{key_cmp}
use Rattle.cmd_text.proofs.NameTables.{distinct_none}
use Rattle.cmd_text.proofs.names.NameTable.new.Goals as goal

pub invariant_of-result-2 : goal.invariant_of-result-2
invariant_of-result-2 c = (
  subst (λ xs. IsDistinct bytes_eq xs) (sym c.new.ensures.items) distinct_none,
  λ q. ap (λ es. lookup (is_at (key_cmp q)) es) c.new-2.ensures.empty ∙ ap (λ xs. position (bytes_eq q) xs) (sym c.new.ensures.items),
)
