use Rattle.std.proofs.Common.{◌≡◌, List, [], ℕ, length, true, false, replicate, sym, ap, ◌∙◌, subst, rules}
use Rattle.std.specs.List.{AllByRecursion}
use Rattle.std.proofs.lemmas.List.{length-replicate}
use Rattle.net_core.specs.declared.table.Ends.{Ends}
use Rattle.net_core.specs.Wiring.{IsWired}
use Rattle.net_core.specs.Mirror.EndTables.{Added, all_ports, no_ends}
use Rattle.net_core.proofs.Drafts.{empty_table, added_table, written_all}
use Rattle.net_core.proofs.table.ends_of.Goals as goal

pub note_nodes-requires-clause-wired : goal.note_nodes-requires-clause-wired
note_nodes-requires-clause-wired c =
    let k = c.args.wires in
    let sized : length c.deref_mut.result.now ≡ k = ap (λ (l : List Ends). length l) (c.deref_mut.ensures.value ∙ c.in_ok-ends.ensures) ∙ length-replicate k no_ends in
    subst (λ (n : ℕ). AllByRecursion (IsWired n) c.args.nodes.now) (sym sized) c.requires.wired

pub returns : goal.returns
returns c =
    let k = c.args.wires in
    let xs = c.args.nodes.now in
    let new = c.note_nodes.new.ends in
    let was : c.deref_mut.result.now ≡ replicate k no_ends = c.deref_mut.ensures.value ∙ c.in_ok-ends.ensures in
    let added : Added (replicate k no_ends) new (all_ports true 0 xs) (all_ports false 0 xs) =
    subst (λ (old : List Ends). Added old new (all_ports true 0 xs) (all_ports false 0 xs)) was c.in_ok-note_nodes.ensures in
    let many : length c.in_ok-ends.ends.items ≡ c.in_ok-ends.ends.len = search rules in
    let sized : length new ≡ c.in_ok-ends.ends.len = added.sized ∙ ap (λ (l : List Ends). length l) (sym c.in_ok-ends.ensures) ∙ many in
    rw (written_all new c.in_ok-ends.ends.items c.in_ok-ends.ends.len sized)
    (added_table k (replicate k no_ends) new [] [] (all_ports true 0 xs) (all_ports false 0 xs) (empty_table k) added)
