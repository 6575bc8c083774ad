use Rattle.std.proofs.Common.{◌≡◌, ℕ, false, List, take, ap, ◌∙◌, arith}
use Rattle.std.proofs.lemmas.List.{take_all}
use Rattle.std.proofs.lemmas.List.FromFn.{fill_by_all}
use Rattle.shape_parts.specs.Keys.{is_among}
use Rattle.shape_parts.proofs.marks.marks.Goals as goal

pub returns : goal.returns
returns c =
    let numbers : List ℕ = c.args.numbers.now in
    let all : take c.loop-number.number-index numbers ≡ numbers = take_all c.loop-number.number-index numbers (omega arith) in
    fill_by_all (is_among numbers) c.loop-number.marks.items c.args.bound false c.loop-number.invariant.many (λ k low. c.loop-number.invariant.marks k low ∙ ap (λ (ns : List ℕ). is_among ns k) all)
