use Rattle.std.proofs.Common.{nat_eq, sym, ap, ◌∙◌, if◌then◌else◌}
use Rattle.place_graph.specs.declared.wait_graph.Start.TheVariants as start
use Rattle.place_graph.specs.Graph.{index_of}
use Rattle.place_graph.proofs.Positions.{any_none, found_at}
use Rattle.place_graph.proofs.draw.begin.Goals as goal

pub returns-in-Some : goal.returns-in-Some
returns-in-Some c =
    let acts = c.args.acts.now.points in
    let waits = c.args.waits.now.points in
    let f = found_at (nat_eq 1) acts c.in-Some.act (sym c.in-Some.ensures) in
    ap start.Act (sym f.1)
    ∙ ap (λ b. if b then start.Act (index_of 1 acts) else start.Wait (index_of 1 waits)) (sym f.0)

pub returns-in-None : goal.returns-in-None
returns-in-None c =
    let acts = c.args.acts.now.points in
    let waits = c.args.waits.now.points in
    ap start.Wait c.index.ensures
    ∙ ap (λ b. if b then start.Act (index_of 1 acts) else start.Wait (index_of 1 waits))
    (sym (any_none (nat_eq 1) acts (sym c.in-None.ensures)))
