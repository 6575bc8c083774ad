use Rattle.std.proofs.Common.{◌≡◌, ◌∙◌, None, Some, [], sym, ap}
use Rattle.std.specs.List.{Contains}
use Rattle.trace_laws.specs.Breaks.{MissingBeginning}
use Rattle.trace_laws.specs.Mirror.Faults.{BeginsAt}
use Rattle.trace_laws.specs.Mirror.Links.{find}
use Rattle.trace_laws.proofs.Linked.{find_in, found}
use Rattle.trace_laws.proofs.Offers.{each_more, each_all}
use Rattle.trace_laws.proofs.Shown.{beginnings_show, empty_missing}
use Rattle.trace_laws.proofs.faults.least_beginning.Goals as goal

pub loop-word-preserved : goal.loop-word-preserved
loop-word-preserved c =
    let root : find c.args.words.now [] ≡ Some c.in-Some.root = ap (find c.args.words.now) (sym c.in_ok-empty.ensures) ∙ sym c.place.ensures ∙ c.in-Some.is in
    each_more (BeginsAt c.args.words.now) c.args.words.now c.as_slice-word-items.result.now c.loop-word.word-index c.word-item.result
    None c.loop-word.least c.in_ok-least.least c.as_slice-word-items.ensures c.loop-word-test.true c.word-item.is c.loop-word.invariant
    (c.in_ok-least.ensures c.args.words.now c.in_ok-longer.ensures root)

pub returns : goal.returns
returns c =
    let root : find c.args.words.now [] ≡ Some c.in-Some.root = ap (find c.args.words.now) (sym c.in_ok-empty.ensures) ∙ sym c.place.ensures ∙ c.in-Some.is in
    let none : Contains c.args.words.now [] = find_in c.args.words.now [] c.in-Some.root root in
    each_all (BeginsAt c.args.words.now) (MissingBeginning (Contains c.args.words.now)) c.args.words.now c.as_slice-word-items.result.now c.loop-word.word-index
    c.loop-word.least c.as_slice-word-items.ensures c.loop-word-test.false c.loop-word.auto.word-index-end (λ t. beginnings_show c.args.words.now t none) c.loop-word.invariant

pub returns-in_default : goal.returns-in_default
returns-in_default c = empty_missing c.args.words.now c.in_ok-empty.empty c.in_ok-empty.ensures
    (λ h. found c.args.words.now c.in_ok-empty.empty h (sym c.place.ensures ∙ c.in_default.is))
