use Rattle.std.proofs.Common.{IfOk, sym, subst}
use Rattle.count_sum.specs.declared.counts.Basis.{Basis}
use Rattle.di_compile.specs.Compiling.{IsBuilt}
use Rattle.di_compile.specs.Mirror.InPlaces.{IsWholeNet}
use Rattle.di_compile.proofs.TwoWayWhole.{splittable, two_result}
use Rattle.di_compile.proofs.build.whole_net.Goals as goal

pub split_all-requires : goal.split_all-requires
split_all-requires c = splittable c.args.command.now c.in_ok-wide.wide c.in_ok-wide.ensures (subst (λ (b : Basis). IsBuilt b c.args.command.now.procs) c.in-Two.is c.requires)

pub returns-in-Two : goal.returns-in-Two
returns-in-Two c =
    let e = c.split_all.ensures in
    subst (λ (b : Basis). IfOk c.split_all.result (IsWholeNet b c.args.command.now)) (sym c.in-Two.is)
    (two_result c.args.command.now c.in_ok-wide.wide c.in_ok-wide.ensures c.split_all.result e.split e.two_way e.numbers e.few)
