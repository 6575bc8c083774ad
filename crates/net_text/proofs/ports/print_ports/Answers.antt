use Rattle.std.proofs.Common.{List, ap, ◌∙◌, arith}
use Rattle.std.proofs.lemmas.List.{drop_all}
use Rattle.cmd_tree.specs.declared.tree.Proc.{Proc}
use Rattle.cmd_tree.specs.Limits.{marks_of_proc, marks_of_all}
use Rattle.di_io.proofs.Each.{rest_item}
use Rattle.net_text.specs.Mirror.Ports.{PortWalk, walk_marks}
use Rattle.net_text.proofs.Walks.{walk_rest, walk_end, walk_all}
use Rattle.net_text.proofs.ports.print_ports.Goals as goal

pub loop-process-preserved : goal.loop-process-preserved
loop-process-preserved g c =
    let procs = c.as_slice-process-items.result.now in
    let process = c.process-item in
    let rest = rest_item procs c.loop-process.process-index process.result c.loop-process-test.true process.is in
    walk_rest c.args.command.now.names _ _ _ _ (marks_of_proc process.result) _ (ap marks_of_all rest)
    c.print_proc_ports-met.ensures c.loop-process.invariant

pub returns : goal.returns
returns g c =
    let names = c.args.command.now.names in
    let procs = c.args.command.now.procs in
    let none = drop_all c.loop-process.process-index c.as_slice-process-items.result.now (omega arith) in
    let walked = walk_end names (c.loop-process.printer, c.loop-process.met) _ _ (ap marks_of_all none)
    c.loop-process.invariant in
    let whole = walk_all names c.args.printer.now 0 (marks_of_all procs) c.args.command.now.valid.numbered in
    ap (λ (w : PortWalk). w.0) (walked
    ∙ ap (λ (ps : List Proc). walk_marks names (c.args.printer.now, 0) (marks_of_all ps)) c.as_slice-process-items.ensures
    ∙ whole)
