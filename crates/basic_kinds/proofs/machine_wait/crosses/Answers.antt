use Rattle.std.proofs.Common.{◌↔◌, length, IsTrue, sym, subst}
use Rattle.std.specs.List.Sorted.{IsBinarySearchResult, IsSearchInRange}
use Rattle.basic_kinds.specs.KindCounts.{Crosses}
use Rattle.basic_kinds.proofs.Search.{order, search_finds}
use Rattle.basic_kinds.proofs.machine_wait.crosses.Goals as goal

pub returns : goal.returns
returns c =
    let s = c.args.shape.now in
    let inside = subst (λ xs. IsSearchInRange c.binary_search.result (length xs)) c.as_slice.ensures
    c.binary_search.ensures.bound in
    let found = subst (λ xs. IsBinarySearchResult (order c.args.row c.args.col) xs c.binary_search.result)
    c.as_slice.ensures c.binary_search.ensures.position in
    subst (λ b. IsTrue b ↔ Crosses s c.args.row c.args.col) (sym c.is_ok.ensures.value)
    (search_finds s c.args.row c.args.col c.binary_search.result inside found)
