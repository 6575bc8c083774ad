use Rattle.std.proofs.Common.{◌≡◌, ◌++◌, ◌∷◌, List, [], ℕ, length, get_or, Ok, sym, ap, ◌∙◌, arith, subst, rules}
use Rattle.std.specs.List.{AllByRecursion}
use Rattle.cmd_tree.specs.declared.tree.Proc.{Proc}
use Rattle.cmd_tree.specs.Limits.{IsCommand}
use Rattle.cmd_text.specs.declared.file.Sentence.{Sentence}
use Rattle.cmd_text.specs.declared.file.Factor.{Factor}
use Rattle.cmd_rename.specs.Symbols.{symbols_of, renumbered}
use Rattle.cmd_expand.specs.Names.{all_names, IsFactorIn}
use Rattle.cmd_expand.specs.Expansion.{definition, body, defined_by, name_of, last_of, command_of, refused_of}
use Rattle.cmd_expand.specs.Mirror.Plan.{procs_known, procs_of_parts, AreLines}
use Rattle.cmd_rename.specs.Symbols.{names_in}
use Rattle.cmd_expand.proofs.Uses.{if_some_map, last_more, last_wrong, last_main}
use Rattle.cmd_expand.proofs.Pushed.{plan_exact, lines_pushed, get_last, all_at, all_first, all_second}
use Rattle.cmd_expand.proofs.Listed.{all_listed}
use Rattle.cmd_expand.proofs.FileRead.{good_file}
use Rattle.cmd_expand.proofs.Commanded.{is_command}
use Rattle.cmd_expand.proofs.command.expand.Goals as goal

pub list_names-requires : goal.list_names-requires
list_names-requires c = (good_file c.args.file.now.names c.args.file.now.sentences c.requires.read).distinct

pub loop-sentence-init : goal.loop-sentence-init
loop-sentence-init c =
    let names = c.args.file.now.names in
    let ss = c.args.file.now.sentences in
    record {
      names = c.in_ok-list_names.ensures;
      sentences = c.as_slice-sentences.ensures;
      known = [];
      plan = record {
        defined = c.new.ensures;
        lines = record {
          many = sym (ap length c.new-2.ensures.items);
          line = λ i d f. absurd (omega (arith, f, ap length c.new-2.ensures.items));
        };
      };
      whole = ap (last_of (all_names names ss) ss []) (sym c.as_slice-sentences.ensures ∙ c.in-Some.ensures.cases.0);
    }

pub define-requires : goal.define-requires
define-requires c =
    let names = c.args.file.now.names in
    let ss = c.args.file.now.sentences in
    let all = all_names names ss in
    let inv = c.loop-sentence.invariant in
    let s = c.sentence-item.result in
    let defs = c.in-Some.definitions.now in
    let P = λ (u : Sentence). AllByRecursion (IsFactorIn all) u.factors in
    let listed : AllByRecursion (λ (u : Sentence). AllByRecursion (IsFactorIn all) u.factors) (defs ++ c.in-Some.main.now ∷ [])
    = subst (λ (us : List Sentence). AllByRecursion (λ (u : Sentence). AllByRecursion (IsFactorIn all) u.factors) us) (sym c.as_slice-sentences.ensures ∙ c.in-Some.ensures.cases.0) (all_listed names ss) in
    record {
      known = subst (λ (ns : List (List ℕ)). AllByRecursion (IsFactorIn ns) s.factors) (sym inv.names)
          (all_at P defs c.loop-sentence.sentence-index s (all_first P defs (c.in-Some.main.now ∷ []) listed) c.loop-sentence-test.true c.sentence-item.is);
    }

pub returns-in-Err-clause-refused : goal.returns-in-Err-clause-refused
returns-in-Err-clause-refused c =
    let names = c.args.file.now.names in
    let ss = c.args.file.now.sentences in
    let all = all_names names ss in
    let inv = c.loop-sentence.invariant in
    let s = c.sentence-item.result in
    if_some_map (refused_of c.in-Err.refusal) _ _
    (λ r h. ap (command_of all) (last_wrong all ss inv.known c.in-Some.definitions.now c.loop-sentence.sentence-index s c.in-Some.main.now r (last_of all ss [] ss) c.loop-sentence-test.true c.sentence-item.is inv.whole
    ((λ k. definition (sym inv.names k) (sym inv.sentences k) inv.known s) ∙ h inv.known inv.plan)))
    c.in-Err.ensures.err

pub loop-sentence-preserved : goal.loop-sentence-preserved
loop-sentence-preserved c =
    let names = c.args.file.now.names in
    let ss = c.args.file.now.sentences in
    let all = all_names names ss in
    let inv = c.loop-sentence.invariant in
    let s = c.sentence-item.result in
    let d = c.in-Ok.ensures.ok inv.known inv.plan in
    record {
      names = c.in-Ok.ensures.names ∙ inv.names;
      sentences = c.in-Ok.ensures.sentences ∙ inv.sentences;
      known = inv.known ++ defined_by (name_of s.name) d.procs ∷ [];
      plan = d.plan;
      whole = last_more all ss inv.known c.in-Some.definitions.now c.loop-sentence.sentence-index s c.in-Some.main.now d.procs (last_of all ss [] ss) c.loop-sentence-test.true c.sentence-item.is inv.whole
          ((λ k. definition (sym inv.names k) (sym inv.sentences k) inv.known s) ∙ d.is);
    }

pub resolve-requires : goal.resolve-requires
resolve-requires c =
    let names = c.args.file.now.names in
    let ss = c.args.file.now.sentences in
    let all = all_names names ss in
    let inv = c.loop-sentence.invariant in
    let defs = c.in-Some.definitions.now in
    let P = λ (u : Sentence). AllByRecursion (IsFactorIn all) u.factors in
    let listed : AllByRecursion (λ (u : Sentence). AllByRecursion (IsFactorIn all) u.factors) (defs ++ c.in-Some.main.now ∷ [])
    = subst (λ (us : List Sentence). AllByRecursion (λ (u : Sentence). AllByRecursion (IsFactorIn all) u.factors) us) (sym c.as_slice-sentences.ensures ∙ c.in-Some.ensures.cases.0) (all_listed names ss) in
    record {
      known = subst (λ (ns : List (List ℕ)). AllByRecursion (IsFactorIn ns) c.as_slice.result.now) (sym inv.names)
          (subst (λ (fs : List Factor). AllByRecursion (IsFactorIn all) fs) (sym c.as_slice.ensures) (all_second P defs (c.in-Some.main.now ∷ []) listed).0);
    }

pub returns-in-Err-resolve-clause-refused : goal.returns-in-Err-resolve-clause-refused
returns-in-Err-resolve-clause-refused c =
    let names = c.args.file.now.names in
    let ss = c.args.file.now.sentences in
    let all = all_names names ss in
    let inv = c.loop-sentence.invariant in
    if_some_map (refused_of c.in-Err-resolve.refusal) _ _
    (λ r h. ap (command_of all) (last_main all ss inv.known c.in-Some.definitions.now c.loop-sentence.sentence-index c.in-Some.main.now (last_of all ss [] ss) c.loop-sentence-test.false inv.whole
    ∙ (λ k. body (sym inv.names k) (sym inv.sentences k) inv.known (sym c.as_slice.ensures k)) ∙ h inv.known (plan_exact inv.known c.loop-sentence.plan inv.plan)))
    c.in-Err-resolve.ensures.err

pub command_of-requires-clause-main : goal.command_of-requires-clause-main
command_of-requires-clause-main c =
    let names = c.args.file.now.names in
    let ss = c.args.file.now.sentences in
    let all = all_names names ss in
    let inv = c.loop-sentence.invariant in
    let exact = plan_exact inv.known c.loop-sentence.plan inv.plan in
    let ms = procs_known inv.known in
    let ps = procs_of_parts ms c.in-Ok-resolve.line.parts.items in
    let meaning = last_main all ss inv.known c.in-Some.definitions.now c.loop-sentence.sentence-index c.in-Some.main.now (last_of all ss [] ss) c.loop-sentence-test.false inv.whole
    ∙ (λ k. body (sym inv.names k) (sym inv.sentences k) inv.known (sym c.as_slice.ensures k)) ∙ c.in-Ok-resolve.ensures.meaning inv.known exact in
    let count : c.len-last.result ≡ length c.resolve.new.plan.lines.items = search rules in
    let place : c.len-last.result ≡ length ms = count ∙ ap length c.in-Ok-resolve.ensures.lines ∙ sym inv.plan.lines.many in
    let last : get_or (ms ++ ps ∷ []) c.len-last.result [] ≡ ps = get_last ms ps [] c.len-last.result place in
    let same : c.resolve.new.plan.names ≡ all = c.in-Ok-resolve.ensures.names ∙ inv.names in
    record {
      ms = ms ++ ps ∷ [];
      lines = subst (λ ls. AreLines (ms ++ ps ∷ []) ls) (sym (c.in_ok-push.ensures.items ∙ ap (λ u. u ++ c.in-Ok-resolve.line ∷ []) c.in-Ok-resolve.ensures.lines))
          (lines_pushed ms c.loop-sentence.plan.lines.items c.in-Ok-resolve.line ps inv.plan.lines (c.in-Ok-resolve.ensures.line inv.known exact));
      valid = subst (λ (ns : List (List ℕ)). IsCommand (names_in ns (symbols_of (get_or (ms ++ ps ∷ []) c.len-last.result []))) (renumbered (get_or (ms ++ ps ∷ []) c.len-last.result []))) (sym same)
          (subst (λ (qs : List Proc). IsCommand (names_in all (symbols_of qs)) (renumbered qs)) (sym last) (is_command names ss ps (good_file names ss c.requires.read) (all_listed names ss) meaning));
    }

pub returns-clause-ok : goal.returns-clause-ok
returns-clause-ok c =
    let names = c.args.file.now.names in
    let ss = c.args.file.now.sentences in
    let all = all_names names ss in
    let inv = c.loop-sentence.invariant in
    let exact = plan_exact inv.known c.loop-sentence.plan inv.plan in
    let ms = procs_known inv.known in
    let ps = procs_of_parts ms c.in-Ok-resolve.line.parts.items in
    let meaning = last_main all ss inv.known c.in-Some.definitions.now c.loop-sentence.sentence-index c.in-Some.main.now (last_of all ss [] ss) c.loop-sentence-test.false inv.whole
    ∙ (λ k. body (sym inv.names k) (sym inv.sentences k) inv.known (sym c.as_slice.ensures k)) ∙ c.in-Ok-resolve.ensures.meaning inv.known exact in
    let count : c.len-last.result ≡ length c.resolve.new.plan.lines.items = search rules in
    let place : c.len-last.result ≡ length ms = count ∙ ap length c.in-Ok-resolve.ensures.lines ∙ sym inv.plan.lines.many in
    let last : get_or (ms ++ ps ∷ []) c.len-last.result [] ≡ ps = get_last ms ps [] c.len-last.result place in
    let same : c.resolve.new.plan.names ≡ all = c.in-Ok-resolve.ensures.names ∙ inv.names in
    let lines = subst (λ ls. AreLines (ms ++ ps ∷ []) ls) (sym (c.in_ok-push.ensures.items ∙ ap (λ u. u ++ c.in-Ok-resolve.line ∷ []) c.in-Ok-resolve.ensures.lines))
    (lines_pushed ms c.loop-sentence.plan.lines.items c.in-Ok-resolve.line ps inv.plan.lines (c.in-Ok-resolve.ensures.line inv.known exact)) in
    let d = c.in_ok-command.ensures (ms ++ ps ∷ []) lines in
    let e : names_in all (symbols_of ps) ≡ c.in_ok-command.command.names = sym (d.names ∙ (λ k. names_in (same k) (symbols_of (last k)))) in
    let g : renumbered ps ≡ c.in_ok-command.command.procs = sym (d.procs ∙ ap renumbered last) in
    ap (command_of all) meaning ∙ (λ k. Ok (record { names = e k; procs = g k }))
