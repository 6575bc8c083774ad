use Rattle.std.proofs.Common.{sym, subst, drop}
use Rattle.net_core.specs.declared.spec.NodeSpec.TheVariants.{Cmd}
use Rattle.net_core.specs.Specs.{is_kind}
use Rattle.di_compile.specs.Mirror.InPlaces.{AreInPlaces}
use Rattle.di_compile.proofs.Placed.{sized, few_whole, whole_few, whole_numbers, whole_sums, one_of, fitting, correct_each, clean_each, kinds_after}
use Rattle.di_compile.proofs.build.wide_net.Goals as goal

pub splice_all-requires-clause-sized : goal.splice_all-requires-clause-sized
splice_all-requires-clause-sized c =
    let placed = subst (AreInPlaces (drop 1 c.in_ok-weave.weave.nodes)) (sym c.as_slice.ensures.value) c.in_ok-parts.ensures in
    sized c.args.command.now c.in_ok-weave.weave c.as_slice.result.now placed c.in_ok-weave.ensures.correct.network.some

pub splice_all-requires-clause-fitting : goal.splice_all-requires-clause-fitting
splice_all-requires-clause-fitting c =
    let placed = subst (AreInPlaces (drop 1 c.in_ok-weave.weave.nodes)) (sym c.as_slice.ensures.value) c.in_ok-parts.ensures in
    let right = c.in_ok-weave.ensures.correct in
    fitting c.args.command.now c.in_ok-weave.weave c.as_slice.result.now placed right.network right.closed c.in_ok-weave.ensures.clean

pub splice_all-requires-clause-few : goal.splice_all-requires-clause-few
splice_all-requires-clause-few c =
    let placed = subst (AreInPlaces (drop 1 c.in_ok-weave.weave.nodes)) (sym c.as_slice.ensures.value) c.in_ok-parts.ensures in
    few_whole c.args.command.now c.in_ok-weave.weave c.as_slice.result.now placed c.in_ok-weave.ensures.few c.in_ok-weave.ensures.parts

pub returns : goal.returns
returns c =
    let ps = c.as_slice.result.now in
    let weave = c.in_ok-weave.weave in
    let placed = subst (AreInPlaces (drop 1 weave.nodes)) (sym c.as_slice.ensures.value) c.in_ok-parts.ensures in
    let whole = c.in_ok-whole.ensures in
    let right = c.in_ok-weave.ensures in record {
      right = record {
        basic = whole.passing is_kind (kinds_after (drop 1 weave.nodes) ps placed);
        clean = whole.clean right.clean (clean_each (drop 1 weave.nodes) ps placed);
        correct = whole.correct (Cmd c.args.command.now) right.correct (correct_each (drop 1 weave.nodes) ps placed);
      };
      few = whole_few c.args.command.now weave ps placed c.in_ok-whole.whole whole.ok right.few right.parts;
      numbers = λ s. whole_numbers c.args.command.now weave ps placed c.in_ok-whole.whole s (whole.sums (one_of s)) (right.sums s);
      sums = whole_sums c.args.command.now weave ps placed c.in_ok-whole.whole whole.sums c.requires right.net;
    }
