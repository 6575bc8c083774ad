use Rattle.std.proofs.Common.{◌≡◌, ◌+◌, ◌*◌, ℕ, List, sym, ap, subst, ◌∙◌, arith}
use Rattle.net_core.specs.declared.spec.NodeSpec.{NodeSpec}
use Rattle.net_core.specs.Wiring.{Draft, IsWired}
use Rattle.net_laws.proofs.ForkParts.{env_wired}
use Rattle.net_laws.proofs.side_by_side.forks.Goals as goal

pub finish-requires : goal.finish-requires
finish-requires c =
    let k = c.args.many in
    let m = c.args.outputs in
    let made = c.in_ok-wires.ensures.ok.1 in
    let spec : c.builder-2.inside.spec ≡ c.args.spec =
    ap (λ (d : Draft). d.spec) (c.builder-2.view_is ∙ c.in_ok-add_forks.ensures) ∙ ap (λ (d : Draft). d.spec) made ∙ ap (λ (d : Draft). d.spec) c.in_ok-builder.ensures in
    let wires : c.builder-2.inside.wires ≡ k + k * m =
    ap (λ (d : Draft). d.wires) (c.builder-2.view_is ∙ c.in_ok-add_forks.ensures) ∙ ap (λ (d : Draft). d.wires) made
    ∙ omega (arith, ap (λ (d : Draft). d.wires) c.in_ok-builder.ensures) in
    subst (λ (w : ℕ). IsWired w (record { spec = c.builder-2.inside.spec; ends = c.in_ok-numbers.field-0.items })) (sym wires)
    (subst (λ (s : NodeSpec). IsWired (k + k * m) (record { spec = s; ends = c.in_ok-numbers.field-0.items })) (sym spec)
    (subst (λ (l : List ℕ). IsWired (k + k * m) (record { spec = c.args.spec; ends = l })) (sym c.in_ok-numbers.ensures)
    (env_wired c.args.spec k m c.requires.formed c.requires.ports)))
