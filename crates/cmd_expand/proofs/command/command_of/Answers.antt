use Rattle.std.proofs.Common.{◌≡◌, ℕ, List, ◌∙◌, ◌++◌, [], length, get_or, sym, ap, subst, rules}
use Rattle.cmd_tree.specs.declared.tree.Proc.{Proc}
use Rattle.cmd_tree.specs.Limits.{IsCommand}
use Rattle.cmd_rename.specs.Symbols.{names_in, symbols_of, renumbered, counted}
use Rattle.cmd_expand.specs.declared.plan.Line.{Line}
use Rattle.cmd_expand.specs.Mirror.Plan.{AreLines}
use Rattle.cmd_expand.specs.Mirror.Pieces.{numbered_by}
use Rattle.cmd_expand.proofs.Shapes.{line_symbols, main_unfolded}
use Rattle.cmd_expand.proofs.command.command_of.Goals as goal

pub invariant_of-result : goal.invariant_of-result
invariant_of-result c =
    let ls = c.args.plan.now.lines.items in
    let of = c.args.of in
    let line = c.index-line.result.now in
    let ms = c.requires.main.ms in
    let a = c.requires.main.lines in
    let n : c.len.result ≡ length line.symbols.items = search rules in
    let names : c.in_ok-names.names ≡ names_in c.args.plan.now.names (symbols_of (get_or ms of []))
    = c.in_ok-names.ensures ∙ ap (λ (ns : List (List ℕ)). names_in ns c.as_slice-2.result.now) c.as_slice.ensures ∙ ap (names_in c.args.plan.now.names) (c.as_slice-2.ensures.value ∙ line_symbols ms ls of line a c.requires.inside c.index-line.ensures) in
    let procs : c.unfold.new.procs ≡ renumbered (get_or ms of [])
    = c.in_ok-unfold.ensures ms (subst (λ (u : List Line). AreLines ms u) (sym c.as_slice-3.ensures.value) a)
    ∙ ap (λ (u : List Proc). u ++ numbered_by (get_or ms line.shape []) c.as_slice-4.result.now) c.new-procs.ensures
    ∙ main_unfolded ms ls of line c.as_slice-4.result.now a c.requires.inside c.index-line.ensures (c.as_slice-4.ensures.value ∙ c.in_ok-numbers.ensures ∙ ap counted n) in
    record { valid = subst (λ (ns : List (List ℕ)). IsCommand ns c.unfold.new.procs) (sym names) (subst (λ (ps : List Proc). IsCommand (names_in c.args.plan.now.names (symbols_of (get_or ms of []))) ps) (sym procs) c.requires.main.valid) }

pub returns : goal.returns
returns c = λ ms a.
    let ls = c.args.plan.now.lines.items in
    let of = c.args.of in
    let line = c.index-line.result.now in
    let n : c.len.result ≡ length line.symbols.items = search rules in
    record {
      names = c.in_ok-names.ensures ∙ ap (λ (ns : List (List ℕ)). names_in ns c.as_slice-2.result.now) c.as_slice.ensures ∙ ap (names_in c.args.plan.now.names) (c.as_slice-2.ensures.value ∙ line_symbols ms ls of line a c.requires.inside c.index-line.ensures);
      procs = c.in_ok-unfold.ensures ms (subst (λ (u : List Line). AreLines ms u) (sym c.as_slice-3.ensures.value) a)
          ∙ ap (λ (u : List Proc). u ++ numbered_by (get_or ms line.shape []) c.as_slice-4.result.now) c.new-procs.ensures
          ∙ main_unfolded ms ls of line c.as_slice-4.result.now a c.requires.inside c.index-line.ensures (c.as_slice-4.ensures.value ∙ c.in_ok-numbers.ensures ∙ ap counted n);
    }
