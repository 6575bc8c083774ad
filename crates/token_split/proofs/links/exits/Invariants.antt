use Rattle.std.proofs.Common.{◌≡◌, map, take}
use Rattle.token_split.specs.TokenChart.{listed}
use Rattle.token_split.proofs.links.exits.Given as goal

abbrev pub invariant-loop-act : goal.invariant-loop-act
invariant-loop-act l = map (λ v. v.items) l.rows.items ≡ map (λ y. listed y.exit) (take l.act-index l.acts)
