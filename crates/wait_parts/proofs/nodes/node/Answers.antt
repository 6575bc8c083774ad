use Rattle.std.proofs.Common.{◌≡◌, ◌+◌, ◌<◌, ◌^◌, ℕ, length, map, sym, ap, subst, ◌∙◌, arith}
use Rattle.std.specs.List.{AllByRecursion}
use Rattle.net_core.specs.declared.spec.NodeSpec.TheVariants.{Kind as Basic}
use Rattle.wait_parts.specs.PartKind.{part_kind}
use Rattle.wait_parts.proofs.NodeSteps.{all_weaker, ends_made}
use Rattle.wait_parts.proofs.nodes.node.Goals as goal

pub raised-requires : goal.raised-requires
raised-requires c = subst (AllByRecursion (λ (n : ℕ). 0 + n < 2 ^ 32)) (sym c.as_slice-2.ensures)
    (all_weaker (λ (n : ℕ). n < c.args.shape.now.rows) (λ n. 0 + n < 2 ^ 32) (λ n low. omega (arith, low, c.requires.few)) c.args.part.now.rows c.requires.known.rows)

pub raised-requires-2 : goal.raised-requires-2
raised-requires-2 c = subst (AllByRecursion (λ (n : ℕ). c.args.shape.now.rows + n < 2 ^ 32)) (sym c.as_slice-3.ensures)
    (all_weaker (λ (n : ℕ). n < c.args.shape.now.cols) (λ n. c.args.shape.now.rows + n < 2 ^ 32) (λ n low. omega (arith, low, c.requires.few)) c.args.part.now.columns c.requires.known.columns)

pub raised-requires-3 : goal.raised-requires-3
raised-requires-3 c = subst (AllByRecursion (λ (n : ℕ). c.args.shape.now.rows + c.args.shape.now.cols + n < 2 ^ 32)) (sym c.as_slice-4.ensures)
    (all_weaker (λ (n : ℕ). n < _) (λ n. c.args.shape.now.rows + c.args.shape.now.cols + n < 2 ^ 32) (λ n low. omega (arith, low, c.requires.few)) c.args.part.now.places c.requires.known.places)

pub returns : goal.returns
returns c =
    let kind : c.in_ok-kind.kind ≡ part_kind (length c.args.part.now.rows) (length c.args.part.now.columns) c.args.part.now.cross = c.in_ok-kind.ensures ∙ (λ i. part_kind (c.len-rows.ensures i) (c.len-cols.ensures i) (c.as_slice.ensures i)) in
    let ends = ends_made c.args.shape.now c.args.part.now
    (c.in_ok-wires.ensures ∙ ap (map (λ n. 0 + n)) c.as_slice-2.ensures)
    (c.in_ok-raised.ensures ∙ ap (map (λ n. c.args.shape.now.rows + n)) c.as_slice-3.ensures)
    (c.in_ok-raised-2.ensures ∙ ap (map (λ n. c.args.shape.now.rows + c.args.shape.now.cols + n)) c.as_slice-4.ensures)
    c.in_ok-append.ensures.items c.in_ok-append-2.ensures.items in
    λ i. record { spec = Basic (kind i); ends = ends i }
