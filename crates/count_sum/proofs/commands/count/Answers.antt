use Rattle.std.proofs.Common.{◌≡◌, ◌<◌, ◌^◌, List, length, map, subst, sym, ap, ◌∙◌, arith}
use Rattle.std.specs.Prelude.{IfOk}
use Rattle.std.specs.List.{AllByRecursion}
use Rattle.std.proofs.lemmas.Result.{IfOk-weaker}
use Rattle.basic_kinds.specs.Sorts.{Sort}
use Rattle.basic_kinds.specs.Sums.{Counted, two_way_sum, total_of}
use Rattle.cmd_tree.specs.declared.command.Command.{Command}
use Rattle.di_grammar.specs.Admitted.{Admitted}
use Rattle.place_graph.specs.Sums.{command_sum}
use Rattle.count_sum.specs.declared.counts.Basis.{Basis}
use Rattle.count_sum.specs.declared.counts.Basis.TheVariants as basis
use Rattle.count_sum.specs.declared.counts.Counts.{Counts}
use Rattle.count_sum.specs.Counts.{of_sort, all_sorts, AreCounts}
use Rattle.count_sum.specs.Mirror.Parts.{counted_of}
use Rattle.count_sum.specs.Mirror.Waits.{IsCountable}
use Rattle.count_sum.proofs.Countable.{command_countable}
use Rattle.count_sum.proofs.SortCounts.{all_same}
use Rattle.count_sum.proofs.TwoWayBound.{command_low}
use Rattle.count_sum.proofs.commands.count.Goals as goal

two_way : (c : Command) (k : Counts) → Admitted c.procs → ((t : Sort) → of_sort k t ≡ command_sum two_way_sum c.procs (length c.names) t) → AreCounts c basis.Two k
two_way c k a e = record { each = e; few = omega (arith, command_low c a, all_same (of_sort k) (command_sum two_way_sum c.procs (length c.names)) e) }

pub two_way_counts-requires-clause-countable : goal.two_way_counts-requires-clause-countable
two_way_counts-requires-clause-countable c =
    subst (AllByRecursion IsCountable) (sym (ap (map counted_of) c.as_slice-in-Two.ensures.value ∙ c.in_ok-parts.ensures)) (command_countable c.args.command.now c.requires)

pub two_way_counts-requires-clause-few : goal.two_way_counts-requires-clause-few
two_way_counts-requires-clause-few c =
    subst (λ (xs : List Counted). all_sorts (total_of two_way_sum xs) < 2 ^ 64) (sym (ap (map counted_of) c.as_slice-in-Two.ensures.value ∙ c.in_ok-parts.ensures)) (command_low c.args.command.now c.requires)

pub returns : goal.returns
returns c =
    let is = ap (map counted_of) c.as_slice-in-Two.ensures.value ∙ c.in_ok-parts.ensures in
    subst (λ (b : Basis). IfOk c.two_way_counts.result (AreCounts c.args.command.now b)) (sym c.in-Two.is)
    (IfOk-weaker c.two_way_counts.result _ _ (λ k h. two_way c.args.command.now k c.requires (λ t. h t ∙ ap (λ (xs : List Counted). total_of two_way_sum xs t) is)) c.two_way_counts.ensures)
