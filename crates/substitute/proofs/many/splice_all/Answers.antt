use Rattle.std.proofs.Common.{◌≡◌, drop, subst}
use Rattle.std.specs.Prelude.{IfOk}
use Rattle.net_core.specs.Wiring.{Circuit, IsClosed}
use Rattle.net_core.specs.Networks.{IsClean, SoundFor, Correct}
use Rattle.net_core.specs.Renumbering.{sum_of_parts}
use Rattle.substitute.specs.Splices.{all_spliced, specs_in, specs_after, PassIn, sum_after}
use Rattle.substitute.proofs.Turns.{all_closed, all_clean, all_sound, all_correct}
use Rattle.substitute.proofs.AllSpliced.{whole_is, whole_specs, whole_pass, whole_sum, whole_network, whole_closed, whole_few, result_has}
use Rattle.substitute.proofs.many.splice_all.Goals as goal

pub of_nodes-requires-clause-few : goal.of_nodes-requires-clause-few
of_nodes-requires-clause-few c =
    whole_few c.args.net.now c.args.parts.now c.requires.sized c.in_ok-whole.whole.nodes.items
    c.in_ok-whole.whole.wires
    c.in_ok-whole.ensures.nodes c.in_ok-whole.ensures.wires c.network_law.ensures c.requires.closed
    c.requires.fitting c.requires.few

pub of_nodes-requires-clause-wired : goal.of_nodes-requires-clause-wired
of_nodes-requires-clause-wired c =
    (whole_network c.args.net.now c.args.parts.now c.requires.sized c.in_ok-whole.whole.nodes.items
    c.in_ok-whole.whole.wires
    c.in_ok-whole.ensures.nodes c.in_ok-whole.ensures.wires c.network_law.ensures c.requires.closed
    c.requires.fitting).wired

pub of_nodes-requires-clause-closed : goal.of_nodes-requires-clause-closed
of_nodes-requires-clause-closed c =
    whole_closed c.args.net.now c.args.parts.now c.requires.sized c.in_ok-whole.whole.nodes.items
    c.in_ok-whole.whole.wires
    c.in_ok-whole.ensures.nodes c.in_ok-whole.ensures.wires c.network_law.ensures c.requires.closed
    c.requires.fitting

pub returns-clause-ok : goal.returns-clause-ok
returns-clause-ok c =
    subst (λ (d : Circuit). IfOk c.of_nodes.result (λ w. w ≡ d))
    (whole_is c.args.net.now c.args.parts.now c.requires.sized c.in_ok-whole.whole.nodes.items
    c.in_ok-whole.whole.wires
    c.in_ok-whole.ensures.nodes c.in_ok-whole.ensures.wires) c.of_nodes.ensures

pub returns-clause-closed : goal.returns-clause-closed
returns-clause-closed c =
    result_has IsClosed (all_spliced c.args.net.now 1 c.args.parts.now) c.of_nodes.result
    (subst (λ (d : Circuit). IfOk c.of_nodes.result (λ w. w ≡ d))
    (whole_is c.args.net.now c.args.parts.now c.requires.sized c.in_ok-whole.whole.nodes.items
    c.in_ok-whole.whole.wires
    c.in_ok-whole.ensures.nodes c.in_ok-whole.ensures.wires) c.of_nodes.ensures)
    (all_closed c.args.net.now 1 c.args.parts.now c.requires.fitting c.requires.closed)

pub returns-clause-clean : goal.returns-clause-clean
returns-clause-clean c =
    λ one all. result_has IsClean (all_spliced c.args.net.now 1 c.args.parts.now) c.of_nodes.result
    (subst (λ (d : Circuit). IfOk c.of_nodes.result (λ w. w ≡ d))
    (whole_is c.args.net.now c.args.parts.now c.requires.sized c.in_ok-whole.whole.nodes.items
    c.in_ok-whole.whole.wires
    c.in_ok-whole.ensures.nodes c.in_ok-whole.ensures.wires) c.of_nodes.ensures)
    (all_clean c.args.net.now 1 c.args.parts.now c.requires.fitting one all)

pub returns-clause-sound : goal.returns-clause-sound
returns-clause-sound c =
    λ s one all. result_has (λ d. SoundFor d s) (all_spliced c.args.net.now 1 c.args.parts.now) c.of_nodes.result
    (subst (λ (d : Circuit). IfOk c.of_nodes.result (λ w. w ≡ d))
    (whole_is c.args.net.now c.args.parts.now c.requires.sized c.in_ok-whole.whole.nodes.items
    c.in_ok-whole.whole.wires
    c.in_ok-whole.ensures.nodes c.in_ok-whole.ensures.wires) c.of_nodes.ensures)
    (all_sound s c.args.net.now 1 c.args.parts.now c.requires.fitting one all)

pub returns-clause-correct : goal.returns-clause-correct
returns-clause-correct c =
    λ s one all. result_has (λ d. Correct d s) (all_spliced c.args.net.now 1 c.args.parts.now) c.of_nodes.result
    (subst (λ (d : Circuit). IfOk c.of_nodes.result (λ w. w ≡ d))
    (whole_is c.args.net.now c.args.parts.now c.requires.sized c.in_ok-whole.whole.nodes.items
    c.in_ok-whole.whole.wires
    c.in_ok-whole.ensures.nodes c.in_ok-whole.ensures.wires) c.of_nodes.ensures)
    (all_correct s c.args.net.now 1 c.args.parts.now c.requires.fitting one all)

pub returns-clause-components : goal.returns-clause-components
returns-clause-components c =
    result_has (λ d. specs_in d ≡ specs_after (drop 1 c.args.net.now.nodes) c.args.parts.now)
    (record { nodes = c.in_ok-whole.whole.nodes.items; wires = c.in_ok-whole.whole.wires })
    c.of_nodes.result c.of_nodes.ensures
    (whole_specs c.args.net.now c.args.parts.now c.requires.sized c.in_ok-whole.whole.nodes.items
    c.in_ok-whole.whole.wires
    c.in_ok-whole.ensures.nodes c.in_ok-whole.ensures.wires)

pub returns-clause-passing : goal.returns-clause-passing
returns-clause-passing c =
    λ test h. result_has (λ d. PassIn test d)
    (record { nodes = c.in_ok-whole.whole.nodes.items; wires = c.in_ok-whole.whole.wires })
    c.of_nodes.result c.of_nodes.ensures
    (whole_pass c.args.net.now c.args.parts.now c.requires.sized c.in_ok-whole.whole.nodes.items
    c.in_ok-whole.whole.wires
    c.in_ok-whole.ensures.nodes c.in_ok-whole.ensures.wires test h)

pub returns-clause-sums : goal.returns-clause-sums
returns-clause-sums c =
    λ f. result_has (λ d. sum_of_parts f d ≡ sum_after f (drop 1 c.args.net.now.nodes) c.args.parts.now)
    (record { nodes = c.in_ok-whole.whole.nodes.items; wires = c.in_ok-whole.whole.wires })
    c.of_nodes.result c.of_nodes.ensures
    (whole_sum c.args.net.now c.args.parts.now c.requires.sized c.in_ok-whole.whole.nodes.items
    c.in_ok-whole.whole.wires
    c.in_ok-whole.ensures.nodes c.in_ok-whole.ensures.wires f)
