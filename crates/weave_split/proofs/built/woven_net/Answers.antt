use Rattle.std.proofs.Common.{◌≡◌, ◌<◌, ◌^◌, Bool, List, length, sym, ap, subst, ◌∙◌}
use Rattle.std.specs.List.{AllByRecursion}
use Rattle.cmd_tree.specs.declared.command.Command.{Command}
use Rattle.cmd_tree.specs.declared.tree.Proc.{Proc}
use Rattle.cmd_tree.specs.Limits.{marks_of_proc}
use Rattle.cmd_rename.specs.Symbols.{symbols_in}
use Rattle.net_core.specs.declared.spec.NodeSpec.TheVariants.{Cmd}
use Rattle.net_core.specs.Specs.{outs_of}
use Rattle.net_core.specs.Wiring.{Circuit, IsNetwork, IsClosed}
use Rattle.net_laws.specs.Charts.{charted}
use Rattle.plain_split.proofs.PlainCommands.{if_ok}
use Rattle.weave_split.specs.WeaveChart.{Ties, lines, weave_chart}
use Rattle.weave_split.specs.WeaveNet.{IsWeaveNet}
use Rattle.weave_split.specs.Mirror.TieTables.{ties_by, spec_of, IsReady}
use Rattle.weave_split.proofs.TabledTies.{symbols_known, tables_ready, tables_same, ties_are}
use Rattle.weave_split.proofs.built.woven_net.Goals as goal

pub new-requires-clause-known : goal.new-requires-clause-known
new-requires-clause-known c =
    let cmd : Command = c.args.command.now in
    let outs = c.in_ok-outs.ensures ∙ ap (λ (d : Command). outs_of (Cmd d)) c.in_ok-copy.ensures in
    subst (λ (ps : List Proc). AllByRecursion (λ (p : Proc). AllByRecursion (λ a. a < length c.in_ok-outs.outs.items) (symbols_in (marks_of_proc p))) ps) (sym c.as_slice.ensures)
    (subst (λ (os : List Bool). AllByRecursion (λ (p : Proc). AllByRecursion (λ a. a < length os) (symbols_in (marks_of_proc p))) cmd.procs) (sym outs) (symbols_known cmd))

pub net_of-requires-clause-ready : goal.net_of-requires-clause-ready
net_of-requires-clause-ready c =
    let cmd : Command = c.args.command.now in
    let same = tables_same cmd c.in_ok-copy.copy c.as_slice.result.now c.in_ok-outs.outs.items c.in_ok-tables.tables c.in_ok-copy.ensures c.as_slice.ensures c.in_ok-outs.ensures c.in_ok-tables.ensures in
    subst IsReady (sym same) (tables_ready cmd c.requires.admitted)

pub net_of-requires-clause-few : goal.net_of-requires-clause-few
net_of-requires-clause-few c =
    let cmd : Command = c.args.command.now in
    let same = tables_same cmd c.in_ok-copy.copy c.as_slice.result.now c.in_ok-outs.outs.items c.in_ok-tables.tables c.in_ok-copy.ensures c.as_slice.ensures c.in_ok-outs.ensures c.in_ok-tables.ensures in
    subst (λ (g : Ties). length (lines g) < 2 ^ 20) (sym (ap ties_by same ∙ ties_are cmd c.requires.admitted)) c.requires.few

pub net_of-requires-clause-wired : goal.net_of-requires-clause-wired
net_of-requires-clause-wired c =
    let cmd : Command = c.args.command.now in
    let same = tables_same cmd c.in_ok-copy.copy c.as_slice.result.now c.in_ok-outs.outs.items c.in_ok-tables.tables c.in_ok-copy.ensures c.as_slice.ensures c.in_ok-outs.ensures c.in_ok-tables.ensures in
    let ties = ap ties_by same ∙ ties_are cmd c.requires.admitted in
    subst IsNetwork (sym (λ i. charted (weave_chart (Cmd (c.in_ok-copy.ensures i)) (spec_of (c.as_slice-2.ensures.value i)) (ties i)))) (c.requires.right (spec_of c.in_ok-specs.specs.items) c.in_ok-specs.ensures).0

pub net_of-requires-clause-closed : goal.net_of-requires-clause-closed
net_of-requires-clause-closed c =
    let cmd : Command = c.args.command.now in
    let same = tables_same cmd c.in_ok-copy.copy c.as_slice.result.now c.in_ok-outs.outs.items c.in_ok-tables.tables c.in_ok-copy.ensures c.as_slice.ensures c.in_ok-outs.ensures c.in_ok-tables.ensures in
    let ties = ap ties_by same ∙ ties_are cmd c.requires.admitted in
    subst IsClosed (sym (λ i. charted (weave_chart (Cmd (c.in_ok-copy.ensures i)) (spec_of (c.as_slice-2.ensures.value i)) (ties i)))) (c.requires.right (spec_of c.in_ok-specs.specs.items) c.in_ok-specs.ensures).1

pub returns : goal.returns
returns c =
    let cmd : Command = c.args.command.now in
    let same = tables_same cmd c.in_ok-copy.copy c.as_slice.result.now c.in_ok-outs.outs.items c.in_ok-tables.tables c.in_ok-copy.ensures c.as_slice.ensures c.in_ok-outs.ensures c.in_ok-tables.ensures in
    let ties = ap ties_by same ∙ ties_are cmd c.requires.admitted in
    if_ok (λ (net : Circuit). net ≡ charted (weave_chart (Cmd c.in_ok-copy.copy) (spec_of c.as_slice-2.result.now) (ties_by c.in_ok-tables.tables))) (IsWeaveNet cmd)
    (λ net e. (spec_of c.in_ok-specs.specs.items, c.in_ok-specs.ensures, e ∙ (λ i. charted (weave_chart (Cmd (c.in_ok-copy.ensures i)) (spec_of (c.as_slice-2.ensures.value i)) (ties i))))) c.net_of.result c.net_of.ensures
