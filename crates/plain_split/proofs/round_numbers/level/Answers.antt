use Rattle.std.proofs.Common.{◌≡◌, ◌+◌, List, ℕ, subst, ◌∙◌, arith}
use Rattle.std.specs.Prelude.{IfOk, OnOk}
use Rattle.plain_split.specs.Mirror.RoundsTables.{parts_by}
use Rattle.plain_split.proofs.RoundsBlocks.{level_is}
use Rattle.plain_split.proofs.round_numbers.level.Goals as goal

pub numbered-requires : goal.numbered-requires
numbered-requires c =
    (level_is (parts_by c.args.parts.now) c.requires.tabled.ready c.args.depth c.args.next.now (c.args.depth + 1) c.args.places c.as_slice.result.now c.requires.known (omega arith) c.requires.many
    c.requires.next (c.as_slice.ensures.value ∙ c.in_ok-ends.ensures)).2

pub returns-clause-numbers : goal.returns-clause-numbers
returns-clause-numbers c =
    subst (λ (ns : List ℕ). IfOk c.numbered.result (λ it. it.items ≡ ns))
    (level_is (parts_by c.args.parts.now) c.requires.tabled.ready c.args.depth c.args.next.now (c.args.depth + 1) c.args.places c.as_slice.result.now c.requires.known (omega arith) c.requires.many
    c.requires.next (c.as_slice.ensures.value ∙ c.in_ok-ends.ensures)).0 c.numbered.ensures.numbers

pub returns-clause-next : goal.returns-clause-next
returns-clause-next c =
    subst (λ (n : ℕ). OnOk c.numbered.result (c.numbered.new.next ≡ n))
    (level_is (parts_by c.args.parts.now) c.requires.tabled.ready c.args.depth c.args.next.now (c.args.depth + 1) c.args.places c.as_slice.result.now c.requires.known (omega arith) c.requires.many
    c.requires.next (c.as_slice.ensures.value ∙ c.in_ok-ends.ensures)).1 c.numbered.ensures.next
