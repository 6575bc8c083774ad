use Rattle.std.proofs.Common.{◌≡◌, ℕ, List, [], ◌∷◌, ◌++◌, length, map, filter, get_or, drop, sym, ap, ◌∙◌, arith}
use Rattle.std.specs.Prelude.{if◌then◌else◌}
use Rattle.std.specs.List.{range_with_len}
use Rattle.std.proofs.lemmas.List.{get_or-map, length-map, take_at}
use Rattle.std.proofs.lemmas.List.FromFn.{fill_by_all}
use Rattle.cmd_tree.specs.Lists.{is_in}
use Rattle.plain_split.proofs.JoinedSteps.{filter_more}
use Rattle.weave_split.proofs.rows.havers.Goals as goal

pub loop-haver-preserved : goal.loop-haver-preserved
loop-haver-preserved c =
    let n : ℕ = c.loop-haver.haver in
    let rows = c.args.rows.now in
    let new = c.add_haver.new.rows in
    let whole = take_at new (drop (length new) c.loop-haver.all.items) c.loop-haver.all.len (omega (arith, c.in_ok-add_haver.ensures.len, c.as_mut_slice.ensures.len, c.loop-haver.all.ok)) in
    let row = c.as_slice.ensures.value ∙ ap (λ v. v.items) c.index-rows-haver.is ∙ sym (get_or-map (λ v. v.items) rows n c.index-rows-haver.result [] (omega arith)) in
    record {
      many = ap (λ r. length r) whole ∙ c.in_ok-add_haver.ensures.len ∙ ap (λ r. length r) c.as_mut_slice.ensures.value ∙ c.loop-haver.invariant.many;
      rows = λ a low.
          ap (λ r. get_or (map (λ v. v.items) r) a []) whole
          ∙ c.in_ok-add_haver.ensures.rows a (omega (arith, low, c.as_mut_slice.ensures.len, c.loop-haver.invariant.many, c.loop-haver.all.ok))
          ∙ ap (λ r. get_or (map (λ v. v.items) r) a [] ++ (if is_in a c.as_slice.result.now then n ∷ [] else [])) c.as_mut_slice.ensures.value
          ∙ ap (λ r. r ++ (if is_in a c.as_slice.result.now then n ∷ [] else [])) (c.loop-haver.invariant.rows a low)
          ∙ ap (λ (xs : List ℕ). filter (λ n. is_in a (get_or (map (λ v. v.items) rows) n [])) (range_with_len 0 n) ++ (if is_in a xs then n ∷ [] else [])) row
          ∙ sym (filter_more (λ n. is_in a (get_or (map (λ v. v.items) rows) n [])) n);
    }

pub returns : goal.returns
returns c =
    let rows = map (λ v. v.items) c.args.rows.now in
    let all : c.loop-haver.haver ≡ length rows = omega (arith, length-map c.args.rows.now (λ v. v.items)) in
    fill_by_all (λ a. filter (λ n. is_in a (get_or rows n [])) (range_with_len 0 (length rows))) (map (λ v. v.items) c.loop-haver.all.items) c.args.names [] (length-map c.loop-haver.all.items (λ v. v.items) ∙ c.loop-haver.invariant.many)
    (λ a low. c.loop-haver.invariant.rows a low ∙ ap (λ (k : ℕ). filter (λ n. is_in a (get_or rows n [])) (range_with_len 0 k)) all)
