use Rattle.std.proofs.Common.{◌≡◌, [], ◌∷◌, ◌++◌, length, sym, ap, ◌∙◌, refl, arith, rules, Err}
use Rattle.std.specs.Prelude.{if◌then◌else◌}
use Rattle.std.proofs.lemmas.List.{length-map}
use Rattle.cmd_expand.specs.Pairs.{DefinedTwice}
use Rattle.cmd_expand.specs.Expansion.{Known, body, name_of, refused_of}
use Rattle.cmd_expand.specs.Mirror.Plan.{procs_known, procs_of_parts}
use Rattle.cmd_expand.proofs.Found.{defined_twice, defined_once}
use Rattle.cmd_expand.proofs.Uses.{if_some_map, known_length}
use Rattle.cmd_expand.proofs.Pushed.{plan_exact, plan_grown, define_lines, define_names}
use Rattle.cmd_expand.proofs.plan.define.Goals as goal

pub returns-then-place-len-clause-err : goal.returns-then-place-len-clause-err
returns-then-place-len-clause-err c = λ known p.
    let plan = c.args.plan.now in
    let s = c.args.sentence.now in
    let q = plan_exact known plan p in
    let many : c.len.result ≡ length c.args.plan.now.lines.items = search rules in
    ap (λ b. if b then Err (DefinedTwice s.at) else body plan.names plan.sentences.now known s.factors)
    (defined_twice known q.rest plan.defined (name_of s.name) q.defined (omega (arith, c.in_ok-place.ensures.place, c.if-place-len.true, many, known_length known plan q)))

pub returns-in-Err-clause-err : goal.returns-in-Err-clause-err
returns-in-Err-clause-err c =
    let plan = c.args.plan.now in
    let s = c.args.sentence.now in
    let many : c.len.result ≡ length c.args.plan.now.lines.items = search rules in
    if_some_map (refused_of c.in-Err.refusal) _ _
    (λ r h known p.
    let q = plan_exact known plan p in
    ap (λ b. if b then Err (DefinedTwice s.at) else body plan.names plan.sentences.now known s.factors)
    (defined_once known q.rest plan.defined (name_of s.name) q.defined (omega (arith, c.in_ok-place.ensures.place, c.if-place-len.false, many, known_length known plan q)))
    ∙ ap (body plan.names plan.sentences.now known) (sym c.as_slice.ensures)
    ∙ h known (plan_grown known plan (record { sentences = plan.sentences; names = plan.names; defined = c.place_of.new.defined; lines = plan.lines; tables = plan.tables }) (name_of s.name) p c.in_ok-place.ensures.names refl))
    c.in-Err.ensures.err

pub returns-clause-ok : goal.returns-clause-ok
returns-clause-ok c = λ known p.
    let plan = c.args.plan.now in
    let s = c.args.sentence.now in
    let n = name_of s.name in
    let many : c.len.result ≡ length c.args.plan.now.lines.items = search rules in
    let q = plan_exact known plan p in
    let g = plan_grown known plan (record { sentences = plan.sentences; names = plan.names; defined = c.place_of.new.defined; lines = plan.lines; tables = plan.tables }) n p c.in_ok-place.ensures.names refl in
    let ps = procs_of_parts (procs_known known) c.in-Ok.line.parts.items in
    record {
      procs = ps;
      is = ap (λ b. if b then Err (DefinedTwice s.at) else body plan.names plan.sentences.now known s.factors)
          (defined_once known q.rest plan.defined n q.defined (omega (arith, c.in_ok-place.ensures.place, c.if-place-len.false, many, known_length known plan q)))
          ∙ ap (body plan.names plan.sentences.now known) (sym c.as_slice.ensures) ∙ c.in-Ok.ensures.meaning known g;
      plan = record {
        defined = define_names known n ps plan.defined c.resolve.new.plan.defined p.defined
            (omega (arith, ap length p.defined, length-map known (λ (k : Known). k.name), c.in_ok-place.ensures.place, c.if-place-len.false, many, known_length known plan q))
            (c.in-Ok.ensures.defined known g ∙ c.in_ok-place.ensures.names);
        lines = define_lines known n ps plan.lines.items c.push.new.self.items c.in-Ok.line p.lines (c.in-Ok.ensures.line known g) (c.in_ok-push.ensures.items ∙ ap (λ u. u ++ c.in-Ok.line ∷ []) c.in-Ok.ensures.lines);
      };
    }
