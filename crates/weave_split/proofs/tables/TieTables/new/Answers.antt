use Rattle.std.proofs.Common.{◌≡◌, ℕ, ◌<◌, Bool, true, false, List, [], length, map, sym, ap, subst, ◌∙◌, arith}
use Rattle.std.specs.List.{AllByRecursion}
use Rattle.cmd_tree.specs.declared.tree.Proc.{Proc}
use Rattle.cmd_tree.specs.Limits.{marks_of_proc}
use Rattle.cmd_rename.specs.Symbols.{symbols_in, put_each}
use Rattle.net_laws.proofs.Among.{Distinct}
use Rattle.weave_split.specs.Mirror.TieTables.{begins, chosen, having}
use Rattle.weave_split.proofs.TabledRows.{rows_all, once_known, once_distinct}
use Rattle.weave_split.proofs.tables.TieTables.new.Goals as goal

pub havers-requires-clause-known : goal.havers-requires-clause-known
havers-requires-clause-known c =
    let long : c.len.result ≡ length c.args.outs.items = omega (arith, c.len.ensures, c.args.outs.ok) in
    rows_all (AllByRecursion (λ a. a < c.len.result)) (AllByRecursion (λ a. a < c.len.result)) (λ v. v.items) (λ (p : Proc). symbols_in (marks_of_proc p)) c.as_slice-2.result.now c.args.procs.now
    (ap (map (λ v. v.items)) c.as_slice-2.ensures.value ∙ c.in_ok-symbols.ensures ∙ ap (λ rs. map (put_each []) (map (λ v. v.items) rs)) c.as_slice.ensures.value ∙ ap (map (put_each [])) c.in_ok-rows.ensures)
    (λ row. once_known c.len.result row) (subst (λ (n : ℕ). AllByRecursion (λ (p : Proc). AllByRecursion (λ a. a < n) (symbols_in (marks_of_proc p))) c.args.procs.now) (sym long) c.requires.known)

pub havers-requires-clause-once : goal.havers-requires-clause-once
havers-requires-clause-once c =
    rows_all (AllByRecursion (λ a. a < length c.args.outs.items)) Distinct (λ v. v.items) (λ (p : Proc). symbols_in (marks_of_proc p)) c.as_slice-2.result.now c.args.procs.now
    (ap (map (λ v. v.items)) c.as_slice-2.ensures.value ∙ c.in_ok-symbols.ensures ∙ ap (λ rs. map (put_each []) (map (λ v. v.items) rs)) c.as_slice.ensures.value ∙ ap (map (put_each [])) c.in_ok-rows.ensures)
    (λ row h. once_distinct row) c.requires.known

pub returns : goal.returns
returns c =
    let R : List (List ℕ) = map (λ (p : Proc). symbols_in (marks_of_proc p)) c.args.procs.now in
    let outs : List Bool = c.args.outs.items in
    let long : c.len.result ≡ length outs = omega (arith, c.len.ensures, c.args.outs.ok) in
    let rows = c.in_ok-rows.ensures in
    let flags = c.in_ok-grants.ensures in
    let symbols = c.in_ok-symbols.ensures ∙ ap (λ rs. map (put_each []) (map (λ v. v.items) rs)) c.as_slice.ensures.value ∙ ap (map (put_each [])) rows in
    let takers = c.in_ok-takers.ensures ∙ (λ i. having ((ap (map (λ v. v.items)) c.as_slice-2.ensures.value ∙ symbols) i) (long i)) in
    let givers = c.in_ok-givers.ensures ∙ (λ i. map (chosen ((c.as_slice-4.ensures.value ∙ flags) i) false) ((ap (map (λ v. v.items)) c.as_slice-3.ensures.value ∙ takers) i)) in
    let owners = c.in_ok-owners.ensures ∙ (λ i. map (chosen ((c.as_slice-6.ensures.value ∙ flags) i) true) ((ap (map (λ v. v.items)) c.as_slice-5.ensures.value ∙ takers) i)) in
    let requests = c.in_ok-requests.ensures ∙ (λ i. map (chosen (c.as_slice-8.ensures.value i) true) ((ap (map (λ v. v.items)) c.as_slice-7.ensures.value ∙ rows) i)) in
    let inputs = c.in_ok-inputs.ensures ∙ (λ i. map (chosen (c.as_slice-10.ensures.value i) false) ((ap (map (λ v. v.items)) c.as_slice-9.ensures.value ∙ rows) i)) in
    let returns = c.in_ok-returns.ensures ∙ ap (λ rs. map (put_each []) (map (λ v. v.items) rs)) c.as_slice-11.ensures.value ∙ ap (map (put_each [])) inputs in
    let lends = c.in_ok-lends.ensures ∙ (λ i. map (begins (c.as_slice-13.ensures.value i)) ((ap (map (λ v. v.items)) c.as_slice-12.ensures.value ∙ rows) i)) in
    λ i. record { outs = outs; grants = flags i; symbols = symbols i; takers = takers i; givers = givers i; owners = owners i; requests = requests i; returns = returns i; lends = lends i }
