-- The network in the basis wide is split into one of the basis two.
use Rattle.std.proofs.Common.{◌≡◌, ℕ, ◌+◌, ◌<◌, ◌≤◌, ◌^◌, true, true≢false, IsTrue, List, [], ◌∷◌, length, Result, Ok, Err, IfOk, refl, sym, ap, ◌∙◌, arith}
use Rattle.std.specs.Prelude.{drop}
use Rattle.std.specs.List.{AllByRecursion, sum_by}
use Rattle.std.proofs.lemmas.List.{length-map}
use Rattle.std.proofs.lemmas.List.Sums.{sum_by-cons}
use Rattle.std.proofs.lemmas.List.FromFn.{length-map-range_with_len}
use Rattle.cmd_tree.specs.declared.command.Command.{Command}
use Rattle.cmd_tree.specs.Limits.{marks_of_all}
use Rattle.basic_kinds.specs.Sorts.{Sort, Wires, Iwires, Sources, Sinks, Forks, Joins, Merges, Toggles, Waits, Sequencers, how_many}
use Rattle.basic_kinds.specs.Sums.{wide_sum, two_way_sum}
use Rattle.place_graph.specs.Sums.{command_sum}
use Rattle.net_core.specs.declared.spec.NodeSpec.{NodeSpec}
use Rattle.net_core.specs.declared.spec.NodeSpec.TheVariants.{Kind, Cmd}
use Rattle.net_core.specs.Specs.{is_kind, outs_of, gives_symbol}
use Rattle.net_core.specs.Wiring.{Node, Circuit}
use Rattle.net_core.specs.Renumbering.{sum_of_parts}
use Rattle.plain_split.specs.OneWaitSums.{is_component}
use Rattle.substitute.specs.Splices.{PassIn}
use Rattle.two_way.specs.Layers.{two_way_part}
use Rattle.net_layers.specs.TwoWayNets.{is_two_way_part, two_way_parts, IsSplittable, IsSplitTo}
use Rattle.net_layers.proofs.Layered.{parts_sum}
use Rattle.net_sums.specs.NodeSums.{node_sum}
use Rattle.net_sums.proofs.Bases.{wide_is, two_way_is}
use Rattle.count_sum.specs.declared.counts.Basis.TheVariants.{Wide, Two}
use Rattle.di_compile.specs.Compiling.{IsBuilt}
use Rattle.di_compile.specs.Mirror.InPlaces.{IsWideNet, IsWholeNet}
use Rattle.di_compile.proofs.NarrowWaits.{too_wide, too_wide_is, none_too_wide, all_split}
use Rattle.di_compile.proofs.Totals.{total_is, form_is}

-- of kinds alone, the sum in the basis two is that of what stands for them in the end
by_kinds : (s : Sort) (xs : List Node) → AllByRecursion (λ x. IsTrue (is_kind x.spec)) xs → sum_by (λ (x : Node). two_way_part s x.spec) xs ≡ sum_by (λ (x : Node). node_sum two_way_sum s x.spec) xs
by_kinds s [] h = refl
by_kinds s (x ∷ xs) h = omega (arith, by x.spec h.0, by_kinds s xs h.1, sum_by-cons (λ (x : Node). two_way_part s x.spec) x xs, sum_by-cons (λ (x : Node). node_sum two_way_sum s x.spec) x xs)
  where
    by : (y : NodeSpec) → is_kind y ≡ true → two_way_part s y ≡ node_sum two_way_sum s y
    by (Kind k) h = refl
    by (Cmd d) h = absurd (true≢false (sym h))

pub wide_whole : (c : Command) (n : Circuit) → IsWideNet c n → IsWholeNet Wide c n
wide_whole c n w = record { right = w.right; in_basis = w.right.basic; few = w.few; sums = w.numbers }

module _ (c : Command) (n : Circuit) (w : IsWideNet c n) where
  two_sums : (s : Sort) → sum_of_parts (two_way_part s) n ≡ command_sum two_way_sum c.procs (length c.names) s
  two_sums s = by_kinds s (drop 1 n.nodes) w.right.basic ∙ w.sums two_way_sum two_way_is s

  pub splittable : IsBuilt Two c.procs → IsSplittable n
  splittable built = record {
    spec = Cmd c;
    right = w.right;
    ports = omega (arith, length-map-range_with_len (gives_symbol (marks_of_all c.procs)) 0 (length c.names), c.valid.few_symbols);
    parts = all_split Waits (drop 1 n.nodes) w.right.basic
        (w.sums too_wide too_wide_is Waits ∙ none_too_wide Waits c built.admitted ((form_is c).1 built.form))
        (w.numbers Waits ∙ sym (w.sums wide_sum wide_is Waits));
    few = omega (
      arith,
      built.few,
      total_is Two c,
      parts_sum (drop 1 n.nodes),
      two_sums Wires,
      two_sums Iwires,
      two_sums Sources,
      two_sums Sinks,
      two_sums Forks,
      two_sums Joins,
      two_sums Merges,
      two_sums Toggles,
      two_sums Waits,
      two_sums Sequencers,
    );
  }

  two_whole : (d : Circuit) → IsSplitTo n d → PassIn is_two_way_part d → ((s : Sort) → how_many (λ (x : Node). is_component s x.spec) (drop 1 d.nodes) ≡ sum_of_parts (two_way_part s) n)
      → d.wires < 2 ^ 30 → IsWholeNet Two c d
  two_whole d split two numbers few = record {
    right = split.right (Cmd c) w.right;
    in_basis = two;
    few = omega (arith, few);
    sums = λ s. numbers s ∙ two_sums s;
  }

  pub two_result : {E : Type 0} (r : Result Circuit E) → IfOk r (IsSplitTo n) → IfOk r (PassIn is_two_way_part)
      → ((s : Sort) → IfOk r (λ d. how_many (λ (x : Node). is_component s x.spec) (drop 1 d.nodes) ≡ sum_of_parts (two_way_part s) n)) → IfOk r (λ d. d.wires < 2 ^ 30) → IfOk r (IsWholeNet Two c)
  two_result (Ok d) split two numbers few = two_whole d split two numbers few
  two_result (Err e) split two numbers few = tt
