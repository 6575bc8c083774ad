use Rattle.std.proofs.Common.{◌≡◌, ◌∷◌, [], List, ℕ, true, false, get_or, length, refl, sym, ap, subst, ◌∙◌, arith, ne_eqb, eq-eqb}
use Rattle.std.specs.Prelude.{IfOk, OnOk}
use Rattle.plain_split.specs.RoundsChart.{is_single}
use Rattle.plain_split.specs.Mirror.RoundsTables.{parts_by}
use Rattle.plain_split.proofs.RoundsRead.{one_long, single_one_of, single_first, outs_row}
use Rattle.plain_split.proofs.RoundsBlocks.{puts_single, single_next, puts_are}
use Rattle.plain_split.proofs.round_numbers.act_puts.Goals as goal

pub returns-then-len-eq1-clause-numbers : goal.returns-then-len-eq1-clause-numbers
returns-then-len-eq1-clause-numbers c =
    let r = parts_by c.args.parts.now in
    let v = c.index.result.now in
    let row : v.items ≡ r.outs c.args.act = outs_row c.args.parts.now c.requires.tabled c.args.act v v.items c.requires.known c.index.ensures refl in
    let one : r.outs c.args.act ≡ get_or v.items 0 0 ∷ [] = sym row ∙ single_first v.items (omega (arith, c.len.ensures, c.if-len-eq1.true, v.ok.0)) (omega (arith, c.len.ensures, c.if-len-eq1.true, v.ok.0)) in
    c.in_ok-numbers.ensures.items ∙ ap (λ n. n ∷ []) c.go_number.ensures ∙ puts_single r c.requires.tabled.ready c.args.act (get_or v.items 0 0) one

pub returns-then-len-eq1-clause-next : goal.returns-then-len-eq1-clause-next
returns-then-len-eq1-clause-next c =
    let r = parts_by c.args.parts.now in
    let v = c.index.result.now in
    let row : v.items ≡ r.outs c.args.act = outs_row c.args.parts.now c.requires.tabled c.args.act v v.items c.requires.known c.index.ensures refl in
    let long : length v.items ≡ 1 = omega (arith, c.len.ensures, c.if-len-eq1.true, v.ok.0) in
    let one : is_single (r.outs c.args.act) ≡ true = ap is_single (sym row) ∙ single_one_of v.items ∙ one_long v.items ∙ eq-eqb (length v.items) 1 long in
    c.requires.next ∙ single_next r c.requires.tabled.ready c.args.act one

pub numbered-requires : goal.numbered-requires
numbered-requires c =
    let r = parts_by c.args.parts.now in
    let v = c.index.result.now in
    let row : v.items ≡ r.outs c.args.act = outs_row c.args.parts.now c.requires.tabled c.args.act v v.items c.requires.known c.index.ensures refl in
    let more : is_single (r.outs c.args.act) ≡ false = ap is_single (sym row) ∙ single_one_of v.items ∙ one_long v.items ∙ ne_eqb (length v.items) 1 (λ e. c.if-len-eq1.false (c.len.ensures ∙ v.ok.0 ∙ e)) in
    (puts_are r c.requires.tabled.ready c.args.act c.args.next.now c.as_slice.result.now c.requires.known more c.requires.next (c.as_slice.ensures.value ∙ c.in_ok-ends.ensures)).2

pub returns-clause-numbers : goal.returns-clause-numbers
returns-clause-numbers c =
    let r = parts_by c.args.parts.now in
    let v = c.index.result.now in
    let row : v.items ≡ r.outs c.args.act = outs_row c.args.parts.now c.requires.tabled c.args.act v v.items c.requires.known c.index.ensures refl in
    let more : is_single (r.outs c.args.act) ≡ false = ap is_single (sym row) ∙ single_one_of v.items ∙ one_long v.items ∙ ne_eqb (length v.items) 1 (λ e. c.if-len-eq1.false (c.len.ensures ∙ v.ok.0 ∙ e)) in
    subst (λ (ns : List ℕ). IfOk c.numbered.result (λ it. it.items ≡ ns))
    (puts_are r c.requires.tabled.ready c.args.act c.args.next.now c.as_slice.result.now c.requires.known more c.requires.next (c.as_slice.ensures.value ∙ c.in_ok-ends.ensures)).0 c.numbered.ensures.numbers

pub returns-clause-next : goal.returns-clause-next
returns-clause-next c =
    let r = parts_by c.args.parts.now in
    let v = c.index.result.now in
    let row : v.items ≡ r.outs c.args.act = outs_row c.args.parts.now c.requires.tabled c.args.act v v.items c.requires.known c.index.ensures refl in
    let more : is_single (r.outs c.args.act) ≡ false = ap is_single (sym row) ∙ single_one_of v.items ∙ one_long v.items ∙ ne_eqb (length v.items) 1 (λ e. c.if-len-eq1.false (c.len.ensures ∙ v.ok.0 ∙ e)) in
    subst (λ (n : ℕ). OnOk c.numbered.result (c.numbered.new.next ≡ n))
    (puts_are r c.requires.tabled.ready c.args.act c.args.next.now c.as_slice.result.now c.requires.known more c.requires.next (c.as_slice.ensures.value ∙ c.in_ok-ends.ensures)).1 c.numbered.ensures.next
