use Rattle.std.proofs.Common.{◌≡◌, ◌∙◌, ◌<◌, ◌-◌, ◌++◌, ◌∷◌, [], IfOk, length, take, get_or, sym, ap, subst, arith}
use Rattle.trace_laws.specs.Listed.{output_by}
use Rattle.trace_laws.specs.Mirror.Faults.{CarryAt, front, last_of}
use Rattle.trace_laws.specs.Mirror.Improved.{Improved, Below}
use Rattle.trace_laws.specs.Mirror.Links.{RowOf}
use Rattle.trace_laws.proofs.Shown.{front_last}
use Rattle.trace_laws.proofs.places.offer_carries.Goals as goal

pub returns : goal.returns
returns c =
    let W = c.args.words.now in
    let x = c.args.word.now in
    let y = c.in_ok-front.front in
    let last = get_or c.symbols-symbols.result.now (length c.symbols-symbols.result.now - 1) 0 in
    let many : 0 < length c.symbols-symbols.result.now = grind arith in
    let some : 0 < length x = omega (arith, many, ap length c.symbols-symbols.ensures) in
    let at : y ≡ front x = c.in_ok-front.ensures ∙ ap (λ z. take (length z - 1) x) c.symbols-symbols.ensures in
    let end : last ≡ last_of x = ap (λ z. get_or z (length z - 1) 0) c.symbols-symbols.ensures in
    let whole : x ≡ y ++ last ∷ [] = front_last x some ∙ (λ j. sym at j ++ sym end j ∷ []) in
    subst (λ z. IfOk c.offer_followed.result (λ now. Improved (Below (CarryAt (output_by c.args.dirs.now) W z (last_of x)) (length z)) c.args.least now)) at
    (subst (λ b. IfOk c.offer_followed.result (λ now. Improved (Below (CarryAt (output_by c.args.dirs.now) W y b) (length y)) c.args.least now)) end
    (c.offer_followed.ensures W c.in_ok-before.ensures (subst (λ z. RowOf W z c.in_ok-after.after.items) whole c.in_ok-after.ensures)))
