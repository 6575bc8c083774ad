use Rattle.std.proofs.Common.{◌≡◌, ◌∷◌, ◌++◌, [], List, Some, refl, sym, ap, ◌∙◌, subst, drop}
use Rattle.std.specs.List.{AllByRecursion}
use Rattle.std.specs.Prelude.{IsTrue, slice_get}
use Rattle.basic_kinds.specs.declared.kind.Kind.TheVariants as kind
use Rattle.net_core.specs.declared.spec.NodeSpec.TheVariants.{Kind, Cmd}
use Rattle.net_core.specs.Specs.{is_kind}
use Rattle.net_core.specs.Wiring.{Node, Circuit, Draft}
use Rattle.net_core.specs.Networks.{spec_of}
use Rattle.replay_tests.proofs.replays.merge_net.Goals as goal

pub returns-in-None : goal.returns-in-None
returns-in-None c =
    let net = c.in_ok-net.net in
    let d1 = c.in_ok-builder.ensures in
    let d2 = c.in_ok-wires.ensures.ok.1 in
    let d3 = c.in_ok-node.ensures.ok.1 in
    let d4 = c.builder-2.view_is in
    let is = c.in_ok-net.ensures in
    let part : Node = record { spec = Kind (kind.Merge 2); ends = c.in_ok-vec.field-0.items } in
    let spec : spec_of (slice_get net.nodes 0) ≡ Some (Cmd c.in_ok-command.command) = ap (λ (d : Circuit). spec_of (slice_get d.nodes 0)) is ∙ ap (λ (d : Draft). Some d.spec) d4 ∙ ap (λ (d : Draft). Some d.spec) d3 ∙ ap (λ (d : Draft). Some d.spec) d2 ∙ ap (λ (d : Draft). Some d.spec) d1 in
    let parts : drop 1 net.nodes ≡ part ∷ [] = ap (λ (d : Circuit). drop 1 d.nodes) is ∙ ap (λ (d : Draft). d.parts) d4 ∙ ap (λ (d : Draft). d.parts) d3 ∙ ap (λ (d : Draft). d.parts ++ part ∷ []) d2 ∙ ap (λ (d : Draft). d.parts ++ part ∷ []) d1 in
    record {
      closed = c.in-None.ensures;
      basic = subst (λ (xs : List Node). AllByRecursion (λ x. IsTrue (is_kind x.spec)) xs) (sym parts) (refl, tt);
      command = c.in_ok-command.command;
      specified = spec;
      admitted = c.in_ok-command.ensures.admitted;
    }
