use Rattle.std.proofs.Common.{◌≡◌, ◌++◌, ℕ, ◌<◌, [], ◌∷◌, List, length, get_or, sym, ap, ◌∙◌, subst, arith}
use Rattle.std.specs.Prelude.{slice_get, Some}
use Rattle.std.specs.List.{IsDistinct}
use Rattle.std.specs.Str.{bytes_eq}
use Rattle.std.proofs.lemmas.Option.{slice_get-get_or}
use Rattle.cmd_tree.specs.declared.tree.Proc.{Proc}
use Rattle.cmd_tree.specs.Limits.{IsCommand}
use Rattle.cmd_rename.specs.Symbols.{names_in, symbols_of, renumbered}
use Rattle.cmd_alone.proofs.Valid.{few_symbols, names_apart, valid, by_ranks}
use Rattle.cmd_alone.proofs.single.alone.Goals as goal

-- the element at a place of a list that is read as another
placed : (ps qs : List Proc) (i : ℕ) (p : Proc) → i < length qs → ps ≡ qs → p ≡ get_or ps i p → slice_get qs i ≡ Some p
placed ps qs i p l e h = slice_get-get_or qs i p l ∙ ap Some (sym (h ∙ ap (λ rs. get_or rs i p) e))

pub symbol_names-requires : goal.symbol_names-requires
symbol_names-requires c =
    let p = c.index-as_slice-index.result in
    let names = c.args.command.now.names in
    let place = placed c.as_slice.result.now c.args.command.now.procs c.args.index p c.requires c.as_slice.ensures c.index-as_slice-index.is in
    subst (λ (ns : List (List ℕ)). IsDistinct bytes_eq (names_in ns c.as_slice-3.result.now)) (sym c.as_slice-2.ensures)
    (subst (λ (xs : List ℕ). IsDistinct bytes_eq (names_in names xs)) (sym (c.as_slice-3.ensures.value ∙ c.in_ok-symbols.ensures))
    (names_apart names c.args.command.now.procs c.args.index p c.args.command.now.valid place))

pub ranks_of-requires : goal.ranks_of-requires
ranks_of-requires c =
    let p = c.index-as_slice-index.result in
    let place = placed c.as_slice.result.now c.args.command.now.procs c.args.index p c.requires c.as_slice.ensures c.index-as_slice-index.is in
    let few = few_symbols c.args.command.now.names c.args.command.now.procs c.args.index p c.args.command.now.valid place in
    let long : length c.as_slice-4.result.now ≡ length (symbols_of (p ∷ [])) = ap length (c.as_slice-4.ensures.value ∙ c.in_ok-symbols.ensures) in
    omega (arith, few, long)

pub invariant_of-result : goal.invariant_of-result
invariant_of-result c =
    let p = c.index-as_slice-index.result in
    let names = c.args.command.now.names in
    let place = placed c.as_slice.result.now c.args.command.now.procs c.args.index p c.requires c.as_slice.ensures c.index-as_slice-index.is in
    let named : c.in_ok-names.names ≡ names_in names (symbols_of (p ∷ [])) = c.in_ok-names.ensures ∙ ap (λ (ns : List (List ℕ)). names_in ns c.as_slice-3.result.now) c.as_slice-2.ensures ∙ ap (names_in names) (c.as_slice-3.ensures.value ∙ c.in_ok-symbols.ensures) in
    let procs : c.push.new.self ≡ renumbered (p ∷ [])
    = c.in_ok-push.ensures.ok ∙ (λ k. c.new-procs.ensures k ++ c.in_ok-copy.ensures k ∷ [])
    ∙ by_ranks c.in_ok-ranks.ranks p c.as_slice-4.result.now (c.as_slice-4.ensures.value ∙ c.in_ok-symbols.ensures) c.in_ok-ranks.ensures in
    record {
      valid = subst (λ (ns : List (List ℕ)). IsCommand ns c.push.new.self) (sym named)
          (subst (λ (ps : List Proc). IsCommand (names_in names (symbols_of (p ∷ []))) ps) (sym procs) (valid names c.args.command.now.procs c.args.index p c.args.command.now.valid place));
    }

pub returns : goal.returns
returns c =
    let p = c.index-as_slice-index.result in
    let names = c.args.command.now.names in
    record {
      process = p;
      place = placed c.as_slice.result.now c.args.command.now.procs c.args.index p c.requires c.as_slice.ensures c.index-as_slice-index.is;
      procs = c.in_ok-push.ensures.ok ∙ (λ k. c.new-procs.ensures k ++ c.in_ok-copy.ensures k ∷ [])
          ∙ by_ranks c.in_ok-ranks.ranks p c.as_slice-4.result.now (c.as_slice-4.ensures.value ∙ c.in_ok-symbols.ensures) c.in_ok-ranks.ensures;
      names = c.in_ok-names.ensures ∙ ap (λ (ns : List (List ℕ)). names_in ns c.as_slice-3.result.now) c.as_slice-2.ensures ∙ ap (names_in names) (c.as_slice-3.ensures.value ∙ c.in_ok-symbols.ensures);
    }
