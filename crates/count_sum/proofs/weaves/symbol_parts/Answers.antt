use Rattle.std.proofs.Common.{◌≡◌, ℕ, List, map, subst, ap, ◌∙◌}
use Rattle.std.specs.Prelude.{IfOk}
use Rattle.std.specs.List.{range_with_len}
use Rattle.cmd_tree.specs.declared.command.Command.{Command}
use Rattle.basic_kinds.specs.Sums.{Counted}
use Rattle.net_core.specs.Specs.{outs_of}
use Rattle.net_core.specs.declared.spec.NodeSpec.TheVariants.{Cmd}
use Rattle.count_sum.specs.Mirror.Parts.{counted_of}
use Rattle.count_sum.specs.Mirror.Lists.{times, joined}
use Rattle.count_sum.specs.Mirror.Weaves.{own, own_made}
use Rattle.count_sum.proofs.WeaveCounts.{meetings_are}
use Rattle.count_sum.proofs.weaves.symbol_parts.Goals as goal

pub returns : goal.returns
returns c =
    let cmd : Command = c.args.command.now in
    let outs = c.as_slice-3.ensures.value ∙ c.in_ok-outs.ensures ∙ ap (λ (d : Command). outs_of (Cmd d)) c.in_ok-copy.ensures in
    let made = c.as_slice-4.ensures.value ∙ c.in_ok-made.ensures
    ∙ ap (λ (xs : List ℕ). map (times xs) (range_with_len 0 c.len-names.result)) (c.as_slice.ensures.value ∙ c.in_ok-symbols.ensures.1 ∙ ap (joined own_made) c.as_slice-procs.ensures)
    ∙ ap (λ (n : ℕ). map (times (joined own_made cmd.procs)) (range_with_len 0 n)) c.len-names.ensures.len in
    let standing = c.as_slice-5.ensures.value ∙ c.in_ok-standing.ensures
    ∙ ap (λ (xs : List ℕ). map (times xs) (range_with_len 0 c.len-names.result)) (c.as_slice-2.ensures.value ∙ c.in_ok-symbols.ensures.0 ∙ ap (joined own) c.as_slice-procs.ensures)
    ∙ ap (λ (n : ℕ). map (times (joined own cmd.procs)) (range_with_len 0 n)) c.len-names.ensures.len in
    subst (λ (xs : List Counted). IfOk c.meetings.result (λ it. map counted_of it.items ≡ xs)) (meetings_are cmd c.as_slice-3.result.now c.as_slice-4.result.now c.as_slice-5.result.now outs made standing) c.meetings.ensures
