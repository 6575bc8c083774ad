use Rattle.std.proofs.Common.{◌≡◌, ◌+◌, [], ap, sym, subst}
use Rattle.cmd_tree.specs.Tree.{places_of}
use Rattle.tree_walk.specs.declared.edges.Edges.{Edges}
use Rattle.tree_walk.specs.Bursts.{part, lasts_of}
use Rattle.tree_walk.specs.Passed.{Passed}
use Rattle.tree_walk.specs.Mirror.Walked.{seq_passed}
use Rattle.tree_walk.proofs.Walking.{joined}
use Rattle.tree_walk.proofs.course.walk.Goals as goal

pub returns-clause-knows : goal.returns-clause-knows
returns-clause-knows g c = λ ps number known.
    let lead = part c.args.process.now.lead in
    let body = part c.args.process.now.body in
    let after : c.walk_part-lead.result.after ≡ 1 + places_of lead = c.walk_part-lead.ensures.after in
    let led = c.walk_part-lead.ensures.knows ps _ [] number c.none.ensures known in
    let bodied = c.walk_part-body.ensures.knows ps (seq_passed [] 1 lead) (lasts_of 1 lead) number (ap (λ (e : Edges). e.lasts) c.walk_part-lead.ensures.edges) led in
    let all = rw after at bodied in
    subst (λ (w : Passed). g.V.Visit.knows c.walk_part-body.new.visitor ps w) (sym (joined [] 1 lead body)) all

pub returns-clause-turn : goal.returns-clause-turn
returns-clause-turn g c =
    let after : c.walk_part-lead.result.after ≡ 1 + places_of (part c.args.process.now.lead) = c.walk_part-lead.ensures.after in
    rw after at c.walk_part-body.ensures.edges
