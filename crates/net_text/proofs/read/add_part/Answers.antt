use Rattle.std.proofs.Common.{◌≡◌, ◌+◌, ◌-◌, ℕ, ◌++◌, ◌∷◌, [], ap, sym, subst, ◌∙◌, arith}
use Rattle.net_core.specs.Wiring.{Node, IsWired, Draft}
use Rattle.cmd_tree.specs.declared.limits.TheConstants.{MAX_NETLIST_WIRES}
use Rattle.net_text.specs.NetFault.{with_wires}
use Rattle.net_text.proofs.Counted.{with_small, with_least, part_wired}
use Rattle.net_text.proofs.read.add_part.Goals as goal

pub overflow_cast-past : goal.overflow_cast-past
overflow_cast-past c =
    let n = c.args.known in
    let ends = c.args.node.ends in
    let past : c.past_wires-past.result ≡ with_wires n ends = c.past_wires-past.ensures ∙ ap (with_wires n) (c.as_slice.ensures.value ∙ ap (λ (x : Node). x.ends) c.node.view_is) in
    omega (arith, past, c.requires.known, c.requires.small, with_small n MAX_NETLIST_WIRES ends (omega (arith, c.requires.known, c.requires.small)) c.requires.part.small)

pub overflow_sub-past : goal.overflow_sub-past
overflow_sub-past c =
    let n = c.args.known in
    let ends = c.args.node.ends in
    let past : c.past_wires-past.result ≡ with_wires n ends = c.past_wires-past.ensures ∙ ap (with_wires n) (c.as_slice.ensures.value ∙ ap (λ (x : Node). x.ends) c.node.view_is) in
    omega (arith, past, with_least n ends)

pub wires-requires : goal.wires-requires
wires-requires c =
    let n = c.args.known in
    let ends = c.args.node.ends in
    let past : c.past_wires-past.result ≡ with_wires n ends = c.past_wires-past.ensures ∙ ap (with_wires n) (c.as_slice.ensures.value ∙ ap (λ (x : Node). x.ends) c.node.view_is) in
    omega (
      arith,
      past,
      c.requires.known,
      c.requires.small,
      with_least n ends,
      with_small n MAX_NETLIST_WIRES ends (omega (arith, c.requires.known, c.requires.small)) c.requires.part.small,
    )

pub node-requires-clause-fit : goal.node-requires-clause-fit
node-requires-clause-fit c =
    let n = c.args.known in
    let ends = c.args.node.ends in
    let past : c.past_wires-past.result ≡ with_wires n ends = c.past_wires-past.ensures ∙ ap (with_wires n) (c.as_slice.ensures.value ∙ ap (λ (x : Node). x.ends) c.node.view_is) in
    let wires : c.wires.new.self.wires ≡ c.args.builder.now.wires + (c.past_wires-past.result - c.args.known) = ap (λ (d : Draft). d.wires) c.in_ok-wires.ensures.ok.1 in
    let many : c.wires.new.self.wires ≡ with_wires n ends = omega (arith, wires, past, c.requires.known, with_least n ends) in
    subst (λ (m : ℕ). IsWired m (record { spec = c.node.inside.spec; ends = c.node.inside.wires.items })) (sym many)
    (subst (IsWired (with_wires n ends)) (sym c.node.view_is) (part_wired n c.args.node c.requires.part))

pub returns-clause-wires : goal.returns-clause-wires
returns-clause-wires c =
    let n = c.args.known in
    let ends = c.args.node.ends in
    let past : c.past_wires-past.result ≡ with_wires n ends = c.past_wires-past.ensures ∙ ap (with_wires n) (c.as_slice.ensures.value ∙ ap (λ (x : Node). x.ends) c.node.view_is) in
    let wires : c.wires.new.self.wires ≡ c.args.builder.now.wires + (c.past_wires-past.result - c.args.known) = ap (λ (d : Draft). d.wires) c.in_ok-wires.ensures.ok.1 in
    let last : c.node-2.new.self.wires ≡ c.wires.new.self.wires = ap (λ (d : Draft). d.wires) c.in_ok-node.ensures.ok.1 in
    omega (arith, last, wires, past, c.requires.known, with_least n ends)

pub returns-clause-added : goal.returns-clause-added
returns-clause-added c =
    let n = c.args.known in
    let ends = c.args.node.ends in
    let old = c.args.builder.now in
    let past : c.past_wires-past.result ≡ with_wires n ends = c.past_wires-past.ensures ∙ ap (with_wires n) (c.as_slice.ensures.value ∙ ap (λ (x : Node). x.ends) c.node.view_is) in
    let many : old.wires + (c.past_wires-past.result - n) ≡ with_wires n ends = omega (arith, past, c.requires.known, with_least n ends) in
    let total : old.wires + (c.past_wires-past.result - n) ≡ with_wires old.wires ends = many ∙ ap (λ (m : ℕ). with_wires m ends) c.requires.known in
    c.in_ok-node.ensures.ok.1
    ∙ ap (λ (d : Draft). record { spec = d.spec; parts = d.parts ++ record { spec = c.node.inside.spec; ends = c.node.inside.wires.items } ∷ []; wires = d.wires }) c.in_ok-wires.ensures.ok.1
    ∙ (λ i. record { spec = old.spec; parts = old.parts ++ c.node.view_is i ∷ []; wires = total i })
