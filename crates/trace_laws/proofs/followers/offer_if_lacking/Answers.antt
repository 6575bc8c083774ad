use Rattle.std.proofs.Common.{◌≡◌, ◌∙◌, ◌<◌, ◌-◌, true, false, sym, ap, arith, length, take, get_or}
use Rattle.std.proofs.lemmas.List.{take_all}
use Rattle.std.specs.Str.{bytes_eq}
use Rattle.indexmap.specs.IndexMap.{get}
use Rattle.trace_laws.specs.Listed.{output_by}
use Rattle.trace_laws.specs.Mirror.Faults.{front}
use Rattle.trace_laws.specs.Mirror.Followers.{LacksOf}
use Rattle.trace_laws.proofs.Offers.{none_offered, same_offers}
use Rattle.trace_laws.proofs.Following.{lacks_row, lacks_none, other_side}
use Rattle.trace_laws.proofs.followers.offer_if_lacking.Goals as goal

pub returns-in_default : goal.returns-in_default
returns-in_default c =
    let at : c.in_ok-front.front ≡ front c.args.word.now = c.in_ok-front.ensures ∙ ap (λ z. take (length z - 1) c.args.word.now) c.symbols-symbols.ensures in
    none_offered (LacksOf (output_by c.args.dirs.now) c.args.side c.args.words.now c.args.word.now) c.args.least
    (λ t h. lacks_none (output_by c.args.dirs.now) c.args.side c.args.words.now (get bytes_eq c.args.rows.now) c.args.word.now c.requires
    (ap (get bytes_eq c.args.rows.now) (sym at) ∙ sym c.in_default.ensures.value) h.1)

pub returns-then-not-missing : goal.returns-then-not-missing
returns-then-not-missing c =
    let at : c.in_ok-front.front ≡ front c.args.word.now = c.in_ok-front.ensures ∙ ap (λ z. take (length z - 1) c.args.word.now) c.symbols-symbols.ensures in
    none_offered (LacksOf (output_by c.args.dirs.now) c.args.side c.args.words.now c.args.word.now) c.args.least
    (λ t h. let one = (lacks_row (output_by c.args.dirs.now) c.args.side c.args.words.now (get bytes_eq c.args.rows.now) c.args.word.now c.in-Some.row.now
    c.requires h.1.some h.1.turned (ap (get bytes_eq c.args.rows.now) (sym at) ∙ sym c.in-Some.ensures.value)).0 h.1 in
    let yes : c.in_ok-missing.missing ≡ true = c.in_ok-missing.ensures.1 one in
    let not : c.in_ok-missing.missing ≡ false = c.if-not-missing.true in cc)

pub returns : goal.returns
returns c =
    let at : c.in_ok-front.front ≡ front c.args.word.now = c.in_ok-front.ensures ∙ ap (λ z. take (length z - 1) c.args.word.now) c.symbols-symbols.ensures in
    let many : 0 < length c.symbols-symbols.result.now = grind arith in
    let some : 0 < length c.args.word.now = omega (arith, many, ap length c.symbols-symbols.ensures) in
    let whole : c.in_ok-copy.copy ≡ c.args.word.now = c.in_ok-copy.ensures ∙ take_all (length c.symbols-symbols.result.now) c.args.word.now (omega (arith, ap length c.symbols-symbols.ensures)) in
    same_offers (λ t. t ≡ c.in_ok-copy.copy) (LacksOf (output_by c.args.dirs.now) c.args.side c.args.words.now c.args.word.now) c.args.least c.offer.result
    (λ t e. (
      e ∙ whole,
      (lacks_row (output_by c.args.dirs.now) c.args.side c.args.words.now (get bytes_eq c.args.rows.now) c.args.word.now c.in-Some.row.now
          c.requires some
          (λ q. other_side c.is_output.result c.args.side c.if-is_output-side.false (c.is_output.ensures ∙ ap (λ y. output_by c.args.dirs.now (get_or y (length y - 1) 0)) c.symbols-symbols.ensures ∙ q))
          (ap (get bytes_eq c.args.rows.now) (sym at) ∙ sym c.in-Some.ensures.value)).1 (c.in_ok-missing.ensures.0 c.if-not-missing.false),
    ))
    (λ t h. h.0 ∙ sym whole)
    c.offer.ensures
