use Rattle.std.proofs.Common.{◌≡◌, ◌<◌, ◌∙◌, ◌-◌, ◌++◌, ◌∷◌, [], ap, length, get_or, arith, sym}
use Rattle.std.specs.BTreeMap.{get}
use Rattle.trace_laws.specs.Mirror.Links.{key_cmp}
use Rattle.trace_laws.proofs.Following.{cut_last}
use Rattle.trace_laws.proofs.Linked.{none_more, one_more, not_first, no_front, listed_here}
use Rattle.trace_laws.proofs.links.link.Goals as goal

pub returns-then-is_empty : goal.returns-then-is_empty
returns-then-is_empty c = λ n l is f. none_more c.args.words.now n c.args.word.now (get key_cmp c.args.longer.now) is f
    (λ s a i e h. not_first c.args.word.now s a (sym (ap length c.symbols-symbols.ensures) ∙ grind arith) h)

pub returns-in_default : goal.returns-in_default
returns-in_default c = λ n l is f.
    let some : 0 < length c.symbols-symbols.result.now = grind arith in
    let last = get_or c.symbols-symbols.result.now (length c.symbols-symbols.result.now - 1) 0 in
    let cut : c.args.word.now ≡ c.in_ok-front.front ++ last ∷ [] = cut_last c.args.word.now c.in_ok-front.front (length c.symbols-symbols.result.now) last
    (ap length c.symbols-symbols.ensures) some c.in_ok-front.ensures
    (ap (λ z. get_or z (length c.symbols-symbols.result.now - 1) 0) c.symbols-symbols.ensures) in
    none_more c.args.words.now n c.args.word.now (get key_cmp c.args.longer.now) is f
    (λ s a i e h. no_front c.args.words.now c.args.word.now c.in_ok-front.front s a last i cut (sym c.place.ensures ∙ c.in_default.is) e h)

pub returns-in_default-place : goal.returns-in_default-place
returns-in_default-place c = λ n l is f. absurd (listed_here c.args.words.now n c.args.word.now l is (sym c.place-2.ensures ∙ c.in_default-place.is))

pub returns : goal.returns
returns c = λ n l is f.
    let some : 0 < length c.symbols-symbols.result.now = grind arith in
    let last = get_or c.symbols-symbols.result.now (length c.symbols-symbols.result.now - 1) 0 in
    let cut : c.args.word.now ≡ c.in_ok-front.front ++ last ∷ [] = cut_last c.args.word.now c.in_ok-front.front (length c.symbols-symbols.result.now) last
    (ap length c.symbols-symbols.ensures) some c.in_ok-front.ensures
    (ap (λ z. get_or z (length c.symbols-symbols.result.now - 1) 0) c.symbols-symbols.ensures) in
    one_more c.args.words.now n c.args.word.now (get key_cmp c.args.longer.now) is f (get key_cmp c.insert.new.self)
    c.in_ok-front.front last c.in-Some.before c.in-Some-place.place cut (sym c.place.ensures ∙ c.in-Some.is) (sym c.place-2.ensures ∙ c.in-Some-place.is) c.in_ok-insert.ensures.updates.0
