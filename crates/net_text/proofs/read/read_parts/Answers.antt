use Rattle.std.proofs.Common.{◌≡◌, ◌+◌, ◌<◌, ℕ, List, ◌++◌, ◌∷◌, [], length, ap, refl, sym, subst, ◌∙◌, arith, length-append}
use Rattle.std.specs.Prelude.{codes, is_some, IfSome, flat_map}
use Rattle.std.specs.List.{AllByRecursion}
use Rattle.cmd_tree.specs.declared.limits.TheConstants.{MAX_NETLIST_WIRES}
use Rattle.net_core.specs.Wiring.{Draft, Node}
use Rattle.net_core.proofs.Sizes.{all_append}
use Rattle.net_text.specs.declared.refusal.NetRefusal.TheVariants as told
use Rattle.net_text.specs.NetText.{node_line}
use Rattle.net_text.specs.NetFault.{IsPart, IsPartLine, IsFirstFault, Parts, with_wires, with_parts}
use Rattle.net_text.proofs.Counted.{with_small, with_more}
use Rattle.net_text.proofs.PartsRead.{empty_is, eq_so, eq_else, parts_cut, parts_over, parts_behind, parts_bad, parts_many, parts_later, parts_text}
use Rattle.net_text.proofs.read.read_parts.Goals as goal

pub returns-in_default-clause-refused : goal.returns-in_default-clause-refused
returns-in_default-clause-refused c = λ k.
    let l = c.loop-line in
    l.invariant.faults k (told.Truncated l.number) (parts_cut k l.builder.parts l.number l.rest.now (c.in_default.ensures.none refl))

pub returns-then-not-is_empty-clause-refused : goal.returns-then-not-is_empty-clause-refused
returns-then-not-is_empty-clause-refused c = λ k.
    let l = c.loop-line in
    let line = c.in-Some.line.now in
    let more = c.in-Some.more.now in
    let some : 0 < length more = grind (arith, c.is_empty.ensures, c.if-not-is_empty.true) in
    l.invariant.faults k (told.BadLine (l.number + 1))
    (parts_behind k l.builder.parts l.number l.rest.now line more c.in-Some.ensures.some (eq_so line c.as_slice.result.now (codes "end") c.if-eq.ensures c.as_slice.ensures) some)

pub returns-then-eq-clause-ok : goal.returns-then-eq-clause-ok
returns-then-eq-clause-ok c =
    let l = c.loop-line in
    let line = c.in-Some.line.now in
    let more = c.in-Some.more.now in
    let short : length more ≡ 0 = grind (arith, c.is_empty.ensures, c.if-not-is_empty.false) in
    let none : more ≡ [] = empty_is more short in
    let named = eq_so line c.as_slice.result.now (codes "end") c.if-eq.ensures c.as_slice.ensures in
    record {
      spec = l.invariant.spec;
      wires = l.invariant.wires;
      small = l.invariant.small;
      few = l.invariant.few;
      good = l.invariant.good;
      is = l.invariant.text ∙ ap (λ (u : List ℕ). flat_map node_line l.builder.parts ++ u) (c.in-Some.ensures.some.0 ∙ (λ i. named i ++ 10 ∷ none i));
      past = l.number + 1;
      faults = λ k r f. l.invariant.faults k r (parts_over k l.builder.parts l.number l.rest.now line [] (subst (λ (u : List ℕ). l.rest.now ≡ line ++ 10 ∷ u) none c.in-Some.ensures.some.0, c.in-Some.ensures.some.1) named r f);
    }

pub returns-in_default-2-clause-refused : goal.returns-in_default-2-clause-refused
returns-in_default-2-clause-refused c = λ k.
    let l = c.loop-line in
    let line = c.in-Some.line.now in
    l.invariant.faults k (told.BadLine l.number)
    (parts_bad k l.builder.parts l.number l.rest.now line c.in-Some.more.now c.in-Some.ensures.some
    (eq_else line c.as_slice.result.now (codes "end") c.if-eq.ensures c.as_slice.ensures) (c.in_ok-node.ensures.none (ap is_some c.in_default-2.is)))

pub returns-then-count-ge-MAX_COMPONENTS-clause-refused : goal.returns-then-count-ge-MAX_COMPONENTS-clause-refused
returns-then-count-ge-MAX_COMPONENTS-clause-refused c = λ k.
    let l = c.loop-line in
    let line = c.in-Some.line.now in
    let good = subst (λ o. IfSome o (λ x. IsPartLine line x)) c.in-Some-2.is c.in_ok-node.ensures.some in
    l.invariant.faults k (told.TooManyComponents l.number)
    (parts_many k l.builder.parts l.number l.rest.now line c.in-Some.more.now c.in-Some.ensures.some c.in-Some-2.node good
    (omega (arith, c.if-count-ge-MAX_COMPONENTS.true, l.invariant.count)))

pub loop-line-preserved : goal.loop-line-preserved
loop-line-preserved c =
    let l = c.loop-line in
    let line = c.in-Some.line.now in
    let more = c.in-Some.more.now in
    let x = c.in-Some-2.node in
    let good = subst (λ o. IfSome o (λ y. IsPartLine line y)) c.in-Some-2.is c.in_ok-node.ensures.some in
    let xs : List Node = l.builder.parts in
    let added : c.add_part.new.builder ≡ record { spec = l.builder.spec; parts = xs ++ x ∷ []; wires = with_wires l.builder.wires x.ends } = c.in_ok-wires.ensures.added in
    let parts : c.add_part.new.builder.parts ≡ xs ++ x ∷ [] = ap (λ (d : Draft). d.parts) added in
    let wires : c.add_part.new.builder.wires ≡ with_wires l.builder.wires x.ends = ap (λ (d : Draft). d.wires) added in
    let room : length xs < 65536 = omega (arith, c.if-count-ge-MAX_COMPONENTS.false, l.invariant.count) in
    record {
      spec = ap (λ (d : Draft). d.spec) added ∙ l.invariant.spec;
      known = c.in_ok-wires.ensures.wires;
      wires = wires ∙ ap (λ (m : ℕ). with_wires m x.ends) l.invariant.wires ∙ sym (with_more c.args.builder.wires xs x)
          ∙ ap (with_parts c.args.builder.wires) (sym parts);
      small = omega (arith, wires, with_small l.builder.wires MAX_NETLIST_WIRES x.ends l.invariant.small good.0.small);
      count = omega (arith, l.invariant.count, ap length parts, length-append xs (x ∷ []));
      few = omega (arith, room, ap length parts, length-append xs (x ∷ []));
      good = subst (AllByRecursion IsPart) (sym parts) (all_append IsPart xs (x ∷ []) l.invariant.good (good.0, tt));
      text = parts_text c.args.text.now l.rest.now line more xs x l.invariant.text c.in-Some.ensures.some.0 good.1
          ∙ ap (λ (ys : List Node). flat_map node_line ys ++ more) (sym parts);
      faults = λ k r f. l.invariant.faults k r (parts_later k xs l.number l.rest.now line more c.in-Some.ensures.some x good room r
          (subst (λ (ys : List Node). IsFirstFault (Parts k ys) (l.number + 1) more r) parts f));
      room = omega (arith, l.invariant.room, ap length c.in-Some.ensures.some.0, length-append line (10 ∷ more));
    }
