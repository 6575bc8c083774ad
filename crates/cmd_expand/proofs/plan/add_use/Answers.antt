use Rattle.std.proofs.Common.{◌<◌, ◌≤◌, [], map, length, get_or, sym, ap, ◌∙◌, arith}
use Rattle.cmd_rename.specs.Renaming.{ren_all}
use Rattle.cmd_expand.specs.declared.plan.Part.TheVariants.{Use}
use Rattle.cmd_expand.specs.Names.{number}
use Rattle.cmd_expand.specs.Pairs.{pair_of, renamed, first_fault}
use Rattle.cmd_expand.specs.Expansion.{missing, renamed_by, refused_of}
use Rattle.cmd_expand.specs.Mirror.Plan.{procs_known}
use Rattle.cmd_expand.proofs.Uses.{if_some_map, if_some_is, use_missing, use_found, line_at, use_kept}
use Rattle.cmd_expand.proofs.Parts.{use_added}
use Rattle.cmd_expand.proofs.plan.add_use.Goals as goal

pub returns-in_default-clause-err : goal.returns-in_default-clause-err
returns-in_default-clause-err c =
    let plan = c.args.plan.now in
    let past : length c.deref.result.now ≤ c.in_ok-of.of = (rw c.in_default.is at c.get.ensures.lookup).3 in
    if_some_is (refused_of c.missing.result) (missing plan.names plan.sentences.now c.args.named.now) _ (c.missing.ensures plan.names)
    (λ known p. use_missing known plan c.args.named.now c.in_ok-of.of p (c.in_ok-of.ensures.index ∙ ap (number plan.defined) c.bytes.ensures) (omega (arith, past, ap length c.deref.ensures.value)))

pub returns-in-Err-clause-err : goal.returns-in-Err-clause-err
returns-in-Err-clause-err c =
    let plan = c.args.plan.now in
    let line = c.in-Some.line.now in
    let pairs = c.as_slice-3.result.now in
    let inside : c.in_ok-of.of < length c.deref.result.now = c.in-Some.ensures.lookup.3.0 in
    if_some_map (refused_of c.in-Err.refusal) _ _
    (λ r h known p. use_found known plan c.args.named.now c.deref.result.now c.in_ok-of.of line pairs p (c.in_ok-of.ensures.index ∙ ap (number plan.defined) c.bytes.ensures) c.deref.ensures.value inside
    (c.in-Some.ensures.lookup.3.1 line) (c.as_slice-3.ensures.value ∙ c.in_ok-pairs.ensures.pairs ∙ ap (map (pair_of plan.names)) c.as_slice.ensures)
    ∙ ap (renamed_by pairs (get_or (procs_known known) c.in_ok-of.of [])) (ap (λ u. first_fault u pairs) (sym c.as_slice-2.ensures.value) ∙ h))
    c.in-Err.ensures.err

pub returns-clause-defined : goal.returns-clause-defined
returns-clause-defined c =
    let plan = c.args.plan.now in
    let inside : c.in_ok-of.of < length c.deref.result.now = c.in-Some.ensures.lookup.3.0 in
    λ known p. c.in_ok-of.ensures.names ∙ use_kept known plan c.bytes.result.now c.in_ok-of.of p c.in_ok-of.ensures.index (omega (arith, inside, ap length c.deref.ensures.value))

pub returns-clause-added : goal.returns-clause-added
returns-clause-added c =
    let plan = c.args.plan.now in
    let line = c.in-Some.line.now in
    let pairs = c.as_slice-3.result.now in
    let of = c.in_ok-of.of in
    let inside : c.in_ok-of.of < length c.deref.result.now = c.in-Some.ensures.lookup.3.0 in
    λ known p d. record {
      procs = ren_all (renamed pairs) (get_or (procs_known known) of []);
      is = use_found known plan c.args.named.now c.deref.result.now of line pairs p (c.in_ok-of.ensures.index ∙ ap (number plan.defined) c.bytes.ensures) c.deref.ensures.value inside
          (c.in-Some.ensures.lookup.3.1 line) (c.as_slice-3.ensures.value ∙ c.in_ok-pairs.ensures.pairs ∙ ap (map (pair_of plan.names)) c.as_slice.ensures)
          ∙ ap (renamed_by pairs (get_or (procs_known known) of [])) (ap (λ u. first_fault u pairs) (sym c.as_slice-2.ensures.value) ∙ c.in-Ok.ensures.ok);
      added = use_added (procs_known known) c.args.draft.now (record { parts = c.push.new.self; symbols = c.add_symbols.new.symbols; procs = c.in_ok-draft.field-0; places = c.in_ok-draft-2.field-0 })
          (Use of c.in_ok-pairs.pairs) (renamed pairs) (get_or (procs_known known) of []) line of c.as_slice-4.result.now (ap (λ u. ren_all (renamed u) (get_or (procs_known known) of [])) (sym c.as_slice-3.ensures.value))
          (line_at known plan c.deref.result.now of line p c.deref.ensures.value inside (c.in-Some.ensures.lookup.3.1 line)) c.in_ok-push.ensures.items
          (c.as_slice-4.ensures.value ∙ c.in-Ok.ensures.fresh ∙ ap (map (renamed pairs)) c.as_slice-2.ensures.value) c.in_ok-add_symbols.ensures.symbols c.in_ok-draft.ensures c.in_ok-draft-2.ensures d;
    }
