use Rattle.std.proofs.Common.{◌≡◌, ◌+◌, ◌*◌, ◌<◌, ◌++◌, ◌∷◌, [], ℕ, List, map, length, sym, ap, subst, ◌∙◌, arith, length-append}
use Rattle.std.specs.List.{range_with_len}
use Rattle.std.proofs.lemmas.List.FromFn.{length-map-range_with_len}
use Rattle.basic_kinds.specs.declared.kind.Kind.TheVariants.{Fork}
use Rattle.net_core.specs.declared.spec.NodeSpec.TheVariants.{Kind}
use Rattle.net_core.specs.Wiring.{Node, Draft, IsWired}
use Rattle.net_laws.specs.ForksNets.{fork_part}
use Rattle.net_laws.proofs.ForkParts.{part_wired, parts_more}
use Rattle.net_laws.proofs.side_by_side.add_forks.Goals as goal

pub node-requires-clause-fit : goal.node-requires-clause-fit
node-requires-clause-fit c =
    let k = c.args.many in
    let m = c.args.outputs in
    let i = c.loop-input.input in
    let low : i < k = omega arith in
    let wires : c.loop-input.builder.wires ≡ k + k * m = ap (λ (d : Draft). d.wires) c.loop-input.invariant ∙ c.requires.wires in
    let ends : c.in_ok-ends.ends.items ≡ (fork_part k m i).ends = c.in_ok-ends.ensures in
    subst (λ (w : ℕ). IsWired w (record { spec = Kind (Fork m); ends = c.in_ok-ends.ends.items })) (sym wires)
    (subst (λ (l : List ℕ). IsWired (k + k * m) (record { spec = Kind (Fork m); ends = l })) (sym ends) (part_wired k m i low c.requires.wide c.requires.few))

pub node-requires-clause-few : goal.node-requires-clause-few
node-requires-clause-few c =
    let k = c.args.many in
    let m = c.args.outputs in
    let i = c.loop-input.input in
    let low : i < k = omega arith in
    omega (
      arith,
      c.requires.room,
      ap (λ (d : Draft). length d.parts) c.loop-input.invariant,
      length-append c.args.builder.now.parts (map (fork_part k m) (range_with_len 0 i)),
      length-map-range_with_len (fork_part k m) 0 i,
    )

pub loop-input-preserved : goal.loop-input-preserved
loop-input-preserved c =
    let k = c.args.many in
    let m = c.args.outputs in
    let i = c.loop-input.input in
    let d = c.args.builder.now in
    let ends : c.in_ok-ends.ends.items ≡ (fork_part k m i).ends = c.in_ok-ends.ensures in
    c.in_ok-node.ensures.ok.1
    ∙ ap (λ (e : Draft). record e { parts = e.parts ++ record { spec = Kind (Fork m); ends = c.in_ok-ends.ends.items } ∷ [] }) c.loop-input.invariant
    ∙ ap (λ (l : List ℕ). record d { parts = (d.parts ++ map (fork_part k m) (range_with_len 0 i)) ++ record { spec = Kind (Fork m); ends = l } ∷ [] }) ends
    ∙ ap (λ (xs : List Node). record d { parts = xs }) (parts_more (fork_part k m) d.parts i)
