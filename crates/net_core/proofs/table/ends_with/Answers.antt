use Rattle.std.proofs.Common.{◌≡◌, ◌+◌, ◌-◌, ◌++◌, List, ℕ, suc, length, take, drop, replicate, true, false, sym, ap, ◌∙◌, subst, rules, add-one}
use Rattle.std.specs.List.{AllByRecursion}
use Rattle.std.proofs.lemmas.List.{length-replicate, take_rest}
use Rattle.basic_kinds.proofs.Projections.{all_front}
use Rattle.net_core.specs.declared.table.Ends.{Ends}
use Rattle.net_core.specs.Wiring.{IsWired}
use Rattle.net_core.specs.Mirror.EndTables.{Added, all_ports, no_ends}
use Rattle.net_core.proofs.Drafts.{table_with, written_all}
use Rattle.net_core.proofs.table.ends_with.Goals as goal

pub note_nodes-requires-clause-wired : goal.note_nodes-requires-clause-wired
note_nodes-requires-clause-wired c =
    let k = c.args.wires in
    let xs = c.args.nodes.now in
    let sized : length c.deref_mut.result.now ≡ k = ap (λ (l : List Ends). length l) (c.deref_mut.ensures.value ∙ c.in_ok-ends.ensures) ∙ length-replicate k no_ends in
    subst (λ (n : ℕ). AllByRecursion (IsWired n) (take c.args.at xs)) (sym sized)
    ((all_front (IsWired k) (take c.args.at xs) (c.args.parts.now ++ drop (suc c.args.at) xs) c.requires.wired).0)

pub note_nodes-requires-2-clause-wired : goal.note_nodes-requires-2-clause-wired
note_nodes-requires-2-clause-wired c =
    let k = c.args.wires in
    let xs = c.args.nodes.now in
    let a = c.args.at in
    let parts = c.args.parts.now in
    let len = c.in_ok-ends.ends.len in
    let one_now = c.note_nodes.new.ends in
    let was : c.deref_mut.result.now ≡ replicate k no_ends = c.deref_mut.ensures.value ∙ c.in_ok-ends.ensures in
    let first : Added (replicate k no_ends) one_now (all_ports true 0 (take a xs)) (all_ports false 0 (take a xs)) =
    subst (λ (old : List Ends). Added old one_now (all_ports true 0 (take a xs)) (all_ports false 0 (take a xs))) was c.in_ok-note_nodes.ensures in
    let many : length c.in_ok-ends.ends.items ≡ len = search rules in
    let full : k ≡ len = sym (length-replicate k no_ends) ∙ ap (λ (l : List Ends). length l) (sym c.in_ok-ends.ensures) ∙ many in
    let first_sized : length one_now ≡ len = first.sized ∙ length-replicate k no_ends ∙ full in
    let behind : c.deref_mut-2.result.now ≡ one_now = c.deref_mut-2.ensures.value ∙ written_all one_now c.in_ok-ends.ends.items len first_sized in
    let sized : length c.deref_mut-2.result.now ≡ k = ap (λ (l : List Ends). length l) behind ∙ first_sized ∙ sym full in
    let rest = (all_front (IsWired k) (take a xs) (parts ++ drop (suc a) xs) c.requires.wired).1 in
    subst (λ (n : ℕ). AllByRecursion (IsWired n) parts) (sym sized) ((all_front (IsWired k) parts (drop (suc a) xs) rest).0)

pub note_nodes-requires-3-clause-wired : goal.note_nodes-requires-3-clause-wired
note_nodes-requires-3-clause-wired c =
    let k = c.args.wires in
    let xs = c.args.nodes.now in
    let a = c.args.at in
    let parts = c.args.parts.now in
    let len = c.in_ok-ends.ends.len in
    let one_now = c.note_nodes.new.ends in
    let was : c.deref_mut.result.now ≡ replicate k no_ends = c.deref_mut.ensures.value ∙ c.in_ok-ends.ensures in
    let first : Added (replicate k no_ends) one_now (all_ports true 0 (take a xs)) (all_ports false 0 (take a xs)) =
    subst (λ (old : List Ends). Added old one_now (all_ports true 0 (take a xs)) (all_ports false 0 (take a xs))) was c.in_ok-note_nodes.ensures in
    let many : length c.in_ok-ends.ends.items ≡ len = search rules in
    let full : k ≡ len = sym (length-replicate k no_ends) ∙ ap (λ (l : List Ends). length l) (sym c.in_ok-ends.ensures) ∙ many in
    let first_sized : length one_now ≡ len = first.sized ∙ length-replicate k no_ends ∙ full in
    let behind : c.deref_mut-2.result.now ≡ one_now = c.deref_mut-2.ensures.value ∙ written_all one_now c.in_ok-ends.ends.items len first_sized in
    let two_now = c.note_nodes-2.new.ends in
    let second : Added one_now two_now (all_ports true a parts) (all_ports false a parts) =
    subst (λ (old : List Ends). Added old two_now (all_ports true a parts) (all_ports false a parts)) behind c.in_ok-note_nodes-2.ensures in
    let second_sized : length two_now ≡ len = second.sized ∙ first_sized in
    let last : c.deref_mut-3.result.now ≡ two_now = c.deref_mut-3.ensures.value ∙ written_all two_now _ len second_sized in
    let sized : length c.deref_mut-3.result.now ≡ k = ap (λ (l : List Ends). length l) last ∙ second_sized ∙ sym full in
    let behind_at : take (length xs - (a + 1)) (drop (a + 1) xs) ≡ drop (suc a) xs = take_rest xs (a + 1) ∙ ap (λ n. drop n xs) (add-one a) in
    let rest = (all_front (IsWired k) (take a xs) (parts ++ drop (suc a) xs) c.requires.wired).1 in
    rw behind_at (subst (λ (n : ℕ). AllByRecursion (IsWired n) (drop (suc a) xs)) (sym sized) ((all_front (IsWired k) parts (drop (suc a) xs) rest).1))

pub returns : goal.returns
returns c =
    let k = c.args.wires in
    let xs = c.args.nodes.now in
    let a = c.args.at in
    let parts = c.args.parts.now in
    let len = c.in_ok-ends.ends.len in
    let one_now = c.note_nodes.new.ends in
    let was : c.deref_mut.result.now ≡ replicate k no_ends = c.deref_mut.ensures.value ∙ c.in_ok-ends.ensures in
    let first : Added (replicate k no_ends) one_now (all_ports true 0 (take a xs)) (all_ports false 0 (take a xs)) =
    subst (λ (old : List Ends). Added old one_now (all_ports true 0 (take a xs)) (all_ports false 0 (take a xs))) was c.in_ok-note_nodes.ensures in
    let many : length c.in_ok-ends.ends.items ≡ len = search rules in
    let full : k ≡ len = sym (length-replicate k no_ends) ∙ ap (λ (l : List Ends). length l) (sym c.in_ok-ends.ensures) ∙ many in
    let first_sized : length one_now ≡ len = first.sized ∙ length-replicate k no_ends ∙ full in
    let behind : c.deref_mut-2.result.now ≡ one_now = c.deref_mut-2.ensures.value ∙ written_all one_now c.in_ok-ends.ends.items len first_sized in
    let two_now = c.note_nodes-2.new.ends in
    let second : Added one_now two_now (all_ports true a parts) (all_ports false a parts) =
    subst (λ (old : List Ends). Added old two_now (all_ports true a parts) (all_ports false a parts)) behind c.in_ok-note_nodes-2.ensures in
    let second_sized : length two_now ≡ len = second.sized ∙ first_sized in
    let last : c.deref_mut-3.result.now ≡ two_now = c.deref_mut-3.ensures.value ∙ written_all two_now _ len second_sized in
    let three_now = c.note_nodes-3.new.ends in
    let behind_at : take (length xs - (a + 1)) (drop (a + 1) xs) ≡ drop (suc a) xs = take_rest xs (a + 1) ∙ ap (λ n. drop n xs) (add-one a) in
    let third : Added two_now three_now (all_ports true (a + length parts) (drop (suc a) xs)) (all_ports false (a + length parts) (drop (suc a) xs)) =
    rw (← last, ← behind_at) c.in_ok-note_nodes-3.ensures in
    let third_sized : length three_now ≡ len = third.sized ∙ second_sized in
    rw (written_all three_now _ len third_sized) (table_with k one_now two_now three_now xs a parts c.requires.inside first second third)
