use Rattle.std.proofs.Common.{◌≡◌, List, length, sym, ◌∙◌, refl, subst}
use Rattle.std.specs.List.{AllByRecursion}
use Rattle.cmd_expand.specs.declared.plan.Line.{Line}
use Rattle.cmd_expand.specs.Expansion.{Known, factor, refused_of}
use Rattle.cmd_expand.specs.Mirror.Plan.{procs_known, procs_of_parts, IsBelow, IsPlan, IsShape, AreLines}
use Rattle.cmd_expand.proofs.Uses.{if_some_map, weave_more, weave_wrong, weave_whole}
use Rattle.cmd_expand.proofs.Pushed.{plan_same}
use Rattle.cmd_expand.proofs.plan.resolve.Goals as goal

pub returns-in-Err-clause-err : goal.returns-in-Err-clause-err
returns-in-Err-clause-err c =
    let inv = c.loop-factor.invariant in
    let plan = c.args.plan.now in
    if_some_map (refused_of c.in-Err.refusal) _ _
    (λ r h known p. weave_wrong plan.names plan.sentences.now known c.args.factors.now c.loop-factor.factor-index c.factor-item.result (procs_of_parts (procs_known known) c.loop-factor.draft.parts.items) r
    c.loop-factor-test.true c.factor-item.is (inv.whole known p)
    ((λ k. factor (sym inv.names k) (sym inv.sentences k) known c.factor-item.result) ∙ h known (plan_same known plan c.loop-factor.plan p (inv.defined known p) inv.lines)))
    c.in-Err.ensures.err

pub loop-factor-preserved : goal.loop-factor-preserved
loop-factor-preserved c =
    let inv = c.loop-factor.invariant in
    let plan = c.args.plan.now in
    let now = λ (known : List Known) (p : IsPlan known plan). plan_same known plan c.loop-factor.plan p (inv.defined known p) inv.lines in
    record {
      names = c.in-Ok.ensures.names ∙ inv.names;
      sentences = c.in-Ok.ensures.sentences ∙ inv.sentences;
      lines = c.in-Ok.ensures.lines ∙ inv.lines;
      listed = c.in-Ok.ensures.listed;
      below = subst (λ (ls : List Line). AllByRecursion (IsBelow (length ls)) c.loop-factor.draft.parts.items → AllByRecursion (IsBelow (length ls)) c.add_factor.new.draft.parts.items) inv.lines c.in-Ok.ensures.below inv.below;
      defined = λ known p. c.in-Ok.ensures.defined known (now known p) ∙ inv.defined known p;
      draft = λ known p. (c.in-Ok.ensures.added known (now known p) (inv.draft known p)).added.draft;
      whole = λ known p. let a = c.in-Ok.ensures.added known (now known p) (inv.draft known p) in
          weave_more plan.names plan.sentences.now known c.args.factors.now c.loop-factor.factor-index c.factor-item.result (procs_of_parts (procs_known known) c.loop-factor.draft.parts.items) a.procs
          (procs_of_parts (procs_known known) c.add_factor.new.draft.parts.items) c.loop-factor-test.true c.factor-item.is (inv.whole known p)
          ((λ k. factor (sym inv.names k) (sym inv.sentences k) known c.factor-item.result) ∙ a.is) a.added.procs;
    }

pub returns-in-Err-check_limits-clause-err : goal.returns-in-Err-check_limits-clause-err
returns-in-Err-check_limits-clause-err c =
    let inv = c.loop-factor.invariant in
    let plan = c.args.plan.now in
    if_some_map (refused_of c.in-Err-check_limits.refusal) _ _
    (λ r h known p. weave_whole plan.names plan.sentences.now known c.args.factors.now c.loop-factor.factor-index (procs_of_parts (procs_known known) c.loop-factor.draft.parts.items)
    c.loop-factor-test.false (inv.whole known p) ∙ h (procs_known known) (inv.draft known p))
    c.in-Err-check_limits.ensures.err

pub returns-clause-meaning : goal.returns-clause-meaning
returns-clause-meaning c = λ known p.
    let inv = c.loop-factor.invariant in
    let plan = c.args.plan.now in
    weave_whole plan.names plan.sentences.now known c.args.factors.now c.loop-factor.factor-index (procs_of_parts (procs_known known) c.loop-factor.draft.parts.items)
    c.loop-factor-test.false (inv.whole known p) ∙ c.in-Ok-check_limits.ensures.ok (procs_known known) (inv.draft known p)

pub returns-clause-line : goal.returns-clause-line
returns-clause-line c = λ known p.
    let inv = c.loop-factor.invariant in
    let ms = procs_known known in
    let d = inv.draft known p in
    let same : c.as_slice.result.now ≡ c.args.plan.now.lines.items = c.as_slice.ensures.value ∙ inv.lines in
    let parts = c.loop-factor.draft.parts.items in
    record {
      below = inv.below;
      meaning = refl;
      symbols = d.symbols;
      procs = d.procs;
      places = d.places;
      shape = subst (λ (ls : List Line). IsShape ms (length ls) (procs_of_parts ms parts) c.shape_of-shape.result) same
          (c.shape_of-shape.ensures ms (subst (λ (ls : List Line). AreLines ms ls) (sym same) p.lines) d (subst (λ (ls : List Line). AllByRecursion (IsBelow (length ls)) parts) (sym same) inv.below));
    }
