use Rattle.std.proofs.Common.{below_more, subst, length, get_or, ◌≤◌, ◌++◌, ◌∷◌, []}
use Rattle.std.specs.List.{Contains}
use Rattle.trace_laws.proofs.Members.{told}
use Rattle.trace_laws.proofs.Following.{all_may}
use Rattle.trace_laws.proofs.followers.lacks_one_of.Goals as goal

pub loop-symbol-preserved : goal.loop-symbol-preserved
loop-symbol-preserved c = below_more _ _ c.loop-symbol.invariant
    (subst (λ z. Contains c.args.words.now (c.args.word.now ++ get_or z c.loop-symbol.symbol-index 0 ∷ [])) c.symbols-symbol-items.ensures
    (subst (Contains c.args.words.now) c.in_ok-longer.ensures (told c.if-not-has.ensures)))

pub returns : goal.returns
returns c = all_may c.args.words.now c.args.row.now c.args.word.now c.loop-symbol.symbol-index
    (subst (λ z. length z ≤ c.loop-symbol.symbol-index) c.symbols-symbol-items.ensures c.loop-symbol-test.false) c.loop-symbol.invariant
