use Rattle.std.proofs.Common.{arith, subst, ◌+◌}
use Rattle.tree_walk.proofs.Walking.{places_one}
use Rattle.di_grammar.specs.Clashes.{First}
use Rattle.di_grammar.specs.Admitted.{BreaksLocally}
use Rattle.di_grammar.proofs.Answering.{clean_all, first_at, even_before, stands_numbered, small_at, formed_at}
use Rattle.di_grammar.proofs.answer.first_in_process.Goals as goal

pub first_clash-requires-clause-few : goal.first_clash-requires-clause-few
first_clash-requires-clause-few c =
    omega (arith, c.requires.few.few_places, places_one c.args.procs.now c.loop-index.index c.index-procs-index.result c.loop-index-test.true c.index-procs-index.is)

pub first_clash-requires-clause-small : goal.first_clash-requires-clause-small
first_clash-requires-clause-small c = small_at c.args.procs.now c.loop-index.index c.index-procs-index.result c.loop-index-test.true c.index-procs-index.is c.requires.few.small

pub first_clash-requires-clause-formed : goal.first_clash-requires-clause-formed
first_clash-requires-clause-formed c = formed_at c.args.procs.now c.loop-index.index c.index-procs-index.result c.loop-index-test.true c.index-procs-index.is c.requires.few.formed

pub first_clash-requires-clause-even : goal.first_clash-requires-clause-even
first_clash-requires-clause-even c = λ late. even_before c.args.rule c.args.procs.now c.requires.kept late (c.loop-index.index + 1) c.index-procs-index.result
    (stands_numbered c.args.procs.now c.loop-index.index c.index-procs-index.result c.loop-index-test.true c.index-procs-index.is)

pub returns-in-Some : goal.returns-in-Some
returns-in-Some c = first_at (BreaksLocally c.args.rule) c.args.procs.now c.loop-index.index c.index-procs-index.result c.in-Some.clash c.loop-index-test.true c.index-procs-index.is
    (subst (First (BreaksLocally c.args.rule c.index-procs-index.result)) c.in-Some.is c.first_clash.ensures) c.loop-index.invariant

pub returns : goal.returns
returns c = clean_all (BreaksLocally c.args.rule) c.args.procs.now c.loop-index.index c.loop-index-test.false c.loop-index.invariant
