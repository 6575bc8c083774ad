use Rattle.std.proofs.Common.{sym, subst, ◌∙◌, ap}
use Rattle.std.proofs.lemmas.List.{take_all}
use Rattle.di_grammar.specs.Mirror.Given.{gifts_in, Differ}
use Rattle.tree_walk.specs.Mirror.Table.{entry_of}
use Rattle.di_grammar.proofs.GrantedSteps.{place_fits, symbol_small, differ_next, gave_next, twice_here, gave_none, no_twice}
use Rattle.di_grammar.proofs.granted.twice_among.Goals as goal

pub loop-index-init : goal.loop-index-init
loop-index-init c = record { differ = tt; gave = gave_none c.args.form (entry_of c.none-places.result) c.none-places.ensures }

pub gift_place-place-requires : goal.gift_place-place-requires
gift_place-place-requires c =
    place_fits c.args.form c.args.choice.now c.loop-index.index c.index-choice-index.result c.loop-index-test.true c.index-choice-index.is c.requires.few

pub returns-then-earlier-ne0 : goal.returns-then-earlier-ne0
returns-then-earlier-ne0 c =
    let places = entry_of c.loop-index.places in
    let told = twice_here c.args.form c.args.choice.now c.loop-index.index c.index-choice-index.result c.loop-index-test.true c.index-choice-index.is places
    c.loop-index.invariant.gave c.of-earlier.result (c.of-earlier.ensures ∙ ap places c.given_symbol.ensures) c.if-earlier-ne0.true c.loop-index.invariant.differ in
    rw c.gift_place-place.ensures told

pub loop-index-preserved : goal.loop-index-preserved
loop-index-preserved c =
    let places = entry_of c.loop-index.places in
    let x = c.index-choice-index.result in
    let new = c.loop-index-test.true in
    let none = sym (ap places c.given_symbol.ensures) ∙ sym c.of-earlier.ensures ∙ c.if-earlier-ne0.false in
    let small = symbol_small c.args.form c.args.choice.now c.loop-index.index x new c.index-choice-index.is c.requires.small in
    record {
      differ = differ_next c.args.form c.args.choice.now c.loop-index.index x new c.index-choice-index.is places c.loop-index.invariant.gave none c.loop-index.invariant.differ;
      gave = gave_next c.args.form c.args.choice.now c.loop-index.index x new c.index-choice-index.is places c.loop-index.invariant.gave (entry_of c.put.new.self) none
          ((rw c.given_symbol.ensures at c.put.ensures.here) small ∙ c.gift_place-place.ensures) (rw c.given_symbol.ensures at c.put.ensures.others);
    }

pub returns : goal.returns
returns c = no_twice _ (subst (λ xs. Differ (gifts_in c.args.form xs)) (take_all c.loop-index.index c.args.choice.now c.loop-index-test.false) c.loop-index.invariant.differ)
