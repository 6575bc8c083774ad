use Rattle.std.proofs.Common.{◌≡◌, drop}
use Rattle.std.specs.List.{list_all}
use Rattle.net_text.proofs.wait.all_true.Given as goal

-- those so far are true
abbrev pub invariant-loop-one : goal.invariant-loop-one
invariant-loop-one l = list_all (λ m. m) (drop l.one-index l.met) ≡ list_all (λ m. m) l.met
