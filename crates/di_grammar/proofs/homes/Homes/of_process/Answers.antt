use Rattle.std.proofs.Common.{arith}
use Rattle.cmd_tree.specs.View.{seqs_of}
use Rattle.di_grammar.proofs.HousingGifts.{no_grant_breaks, grant_breaks, few_alternatives}
use Rattle.di_grammar.proofs.homes.Homes.of_process.Goals as goal

pub of_grant-requires : goal.of_grant-requires
of_grant-requires c = omega (arith, c.requires, few_alternatives c.args.process.now c.in-Some.grant.form c.in-Some.grant.choice.now c.in-Some.ensures)

pub returns-in-None : goal.returns-in-None
returns-in-None c = λ ps small known. no_grant_breaks ps c.args.number c.args.process.now c.in-None.ensures

pub returns-in-Some : goal.returns-in-Some
returns-in-Some c = λ ps small known.
    grant_breaks ps c.args.number c.args.process.now (record { form = c.in-Some.grant.form; choice = seqs_of c.in-Some.grant.choice.now }) c.of_grant.result c.in-Some.ensures
    (c.of_grant.ensures ps small known)
