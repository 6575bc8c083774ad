use Rattle.std.proofs.Common.{◌≡◌, ℕ, false, [], ◌∷◌, length, length-append, sym, ap, subst, ◌∙◌, arith}
use Rattle.cmd_tree.specs.declared.command.Command.{Command}
use Rattle.cmd_alone.specs.Alone.{IsAlone}
use Rattle.net_core.specs.declared.spec.NodeSpec.{NodeSpec}
use Rattle.net_core.specs.declared.spec.NodeSpec.TheVariants.{Cmd}
use Rattle.weave_split.specs.WeaveChart.{grants_at}
use Rattle.weave_split.specs.Mirror.TieTables.{spec_of}
use Rattle.weave_split.proofs.BuiltSpecs.{spec_more}
use Rattle.weave_split.proofs.built.process_specs.Goals as goal

pub loop-process-preserved : goal.loop-process-preserved
loop-process-preserved c =
    let cmd : Command = c.args.command.now in
    let n : ℕ = c.loop-process.process in
    let items = c.in_ok-push.ensures.items in
    record {
      many = omega (arith, ap length items, length-append c.loop-process.specs.items (c.in_ok-spec.spec ∷ []), c.loop-process.invariant.many);
      each = λ p low g.
          subst (λ xs. (d : Command) × IsAlone cmd p d × (spec_of xs p ≡ Cmd d)) (sym items)
          (spec_more (λ (q : ℕ). grants_at cmd.procs q ≡ false) (λ (q : ℕ) (s : NodeSpec). (d : Command) × IsAlone cmd q d × (s ≡ Cmd d)) c.loop-process.specs.items c.in_ok-spec.spec n c.loop-process.invariant.many
          c.loop-process.invariant.each (λ g. c.in_ok-spec.ensures (c.is_grant-grant.ensures ∙ c.requires n ∙ g)) p low g);
    }
