-- The sum over the network of a process that needs no token.
use Rattle.std.proofs.Common.{◌≡◌, ℕ, length, refl, ap, ◌∙◌}
use Rattle.cmd_tree.specs.declared.command.Command.{Command}
use Rattle.cmd_tree.specs.declared.tree.Proc.{Proc}
use Rattle.basic_kinds.specs.Sorts.{Sort}
use Rattle.basic_kinds.specs.Sums.{Counted, total_of}
use Rattle.place_graph.specs.declared.styles.SplitStyle.{SplitStyle}
use Rattle.place_graph.specs.declared.styles.SplitStyle.TheVariants.{OneWait, Rounds, Token}
use Rattle.place_graph.specs.Graph.{graph_of}
use Rattle.place_graph.specs.Style.{style_of}
use Rattle.place_graph.specs.Sums.{counted}
use Rattle.net_core.specs.Wiring.{Circuit}
use Rattle.net_core.specs.Renumbering.{sum_of_parts}
use Rattle.plain_split.specs.PlainNet.{HasPlain, IsNetIn, IsPlainNet}
use Rattle.plain_split.proofs.PlainCommands.{one_wait_admitted, rounds_admitted}
use Rattle.net_sums.specs.NodeSums.{IsSum, node_sum}
use Rattle.net_sums.proofs.OneWaitSum.{one_wait_sum}
use Rattle.net_sums.proofs.RoundsSum.{rounds_sum}

pub plain_sum : (sum : Counted → Sort → ℕ) → IsSum sum → (c : Command) (p : Proc) (net : Circuit) → HasPlain c p → IsPlainNet c p net → (t : Sort)
    → sum_of_parts (node_sum sum t) net ≡ total_of sum (counted (graph_of p) (length c.names)) t
plain_sum sum w c p net h is t = at (style_of (graph_of p)) refl is
  where
    at : (s : SplitStyle) → style_of (graph_of p) ≡ s → IsNetIn s c p net → sum_of_parts (node_sum sum t) net ≡ total_of sum (counted (graph_of p) (length c.names)) t
    at OneWait e i = ap (sum_of_parts (node_sum sum t)) i ∙ one_wait_sum sum w c p (one_wait_admitted c p h.alone h.admitted h.other e) t
    at (Rounds k) e (d, q, i) =
        let (b, r, has) = rounds_admitted c p h.alone h.admitted h.other k e in
        ap (sum_of_parts (node_sum sum t)) i
        ∙ rounds_sum c p d (record { alone = has.alone; fair = has.fair; directions = has.directions; sets = has.sets; style = e ∙ ap Rounds q }) sum w t
    at Token e i = absurd i
