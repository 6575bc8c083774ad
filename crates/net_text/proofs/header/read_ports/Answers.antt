use Rattle.std.proofs.Common.{◌+◌, ◌∷◌, ◌++◌, length-append, refl, sym, ap, ◌∙◌, subst, arith, length, ◌<◌, [], get_or, false, drop}
use Rattle.net_text.specs.declared.refusal.NetRefusal.TheVariants as told
use Rattle.net_text.specs.NetFault.{IsFirstFault, port_lines, behind_spec, symbol_line}
use Rattle.net_text.specs.Mirror.Stages.{text_of}
use Rattle.net_text.proofs.NetLines.{outs_many, ports_cut, ports_bad, ports_later, ports_text, ports_none, name_at, same_line, other_line}
use Rattle.net_text.proofs.header.read_ports.Goals as goal

pub returns-in_default-clause-refused : goal.returns-in_default-clause-refused
returns-in_default-clause-refused c =
    let k = c.args.command.now in
    let i = c.loop-index.index in
    c.loop-index.invariant.faults (told.Truncated (3 + i))
    (ports_cut k c.args.outs.now c.requires i (omega (arith, c.loop-index-test.true, ap length c.as_slice-names.ensures)) (3 + i) c.loop-index.rest.now
    (c.in_default.ensures.none refl))

pub bounds-outs-index : goal.bounds-outs-index
bounds-outs-index c =
    outs_many c.args.command.now c.args.outs.now c.requires c.loop-index.index (omega (arith, c.loop-index-test.true, ap length c.as_slice-names.ensures))

pub returns-then-ne-clause-refused : goal.returns-then-ne-clause-refused
returns-then-ne-clause-refused c =
    let k = c.args.command.now in
    let i = c.loop-index.index in
    let expected = c.as_slice.ensures.value ∙ c.in_ok-expected.ensures ∙ ap (λ n. symbol_line n (get_or c.args.outs.now i false) i)
    (name_at c.as_slice-names.result.now i c.index-names-index.result c.loop-index-test.true c.index-names-index.is ∙ ap (λ ns. get_or ns i []) c.as_slice-names.ensures) in
    c.loop-index.invariant.faults (told.BadLine (3 + i))
    (ports_bad k c.args.outs.now c.requires i (omega (arith, c.loop-index-test.true, ap length c.as_slice-names.ensures)) (3 + i) c.loop-index.rest.now
    c.in-Some.line.now c.in-Some.more.now c.in-Some.ensures.some (other_line c.in-Some.line.now c.as_slice.result.now _ c.if-ne.ensures expected))

pub loop-index-preserved : goal.loop-index-preserved
loop-index-preserved c =
    let k = c.args.command.now in
    let i = c.loop-index.index in
    let low = (let l : i < length k.names = omega (arith, c.loop-index-test.true, ap length c.as_slice-names.ensures) in l) in
    let rest = c.loop-index.rest.now in
    let line = c.in-Some.line.now in
    let more = c.in-Some.more.now in
    let expected = c.as_slice.ensures.value ∙ c.in_ok-expected.ensures ∙ ap (λ n. symbol_line n (get_or c.args.outs.now i false) i)
    (name_at c.as_slice-names.result.now i c.index-names-index.result c.loop-index-test.true c.index-names-index.is ∙ ap (λ ns. get_or ns i []) c.as_slice-names.ensures) in
    let same = same_line line c.as_slice.result.now _ c.if-ne.ensures expected in
    record {
      text = λ t e. c.loop-index.invariant.text t (ports_text k c.args.outs.now c.requires i low rest line more t c.in-Some.ensures.some same e);
      faults = λ r f. c.loop-index.invariant.faults r (ports_later k c.args.outs.now c.requires i low (3 + i) rest line more c.in-Some.ensures.some same r
          (subst (λ n. IsFirstFault (behind_spec k (drop (i + 1) (port_lines k))) n more r) (omega arith) f));
      shorter = omega (arith, c.loop-index.invariant.shorter, ap length c.in-Some.ensures.some.0, length-append line (10 ∷ more));
    }

pub returns-clause-ok : goal.returns-clause-ok
returns-clause-ok c =
    let k = c.args.command.now in
    let i = c.loop-index.index in
    let rest = c.loop-index.rest.now in
    c.loop-index.invariant.text rest (sym (ap (λ ls. text_of ls ++ rest) (ports_none k i (omega (arith, c.loop-index-test.false, ap length c.as_slice-names.ensures)))))

pub returns-clause-faults : goal.returns-clause-faults
returns-clause-faults c = λ r f.
    let k = c.args.command.now in
    let i = c.loop-index.index in
    c.loop-index.invariant.faults r (subst (λ ls. IsFirstFault (behind_spec k ls) (3 + i) c.loop-index.rest.now r)
    (sym (ports_none k i (omega (arith, c.loop-index-test.false, ap length c.as_slice-names.ensures))))
    (subst (λ n. IsFirstFault (behind_spec k []) n c.loop-index.rest.now r)
    (omega (arith, c.loop-index-test.false, c.loop-index.auto.index-end, ap length c.as_slice-names.ensures)) f))
