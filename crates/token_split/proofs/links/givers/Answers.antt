use Rattle.std.proofs.Common.{◌≡◌, ℕ, List, [], ◌∷◌, ◌++◌, length, map, filter, get_or, drop, sym, ap, ◌∙◌, arith}
use Rattle.std.specs.Prelude.{if◌then◌else◌}
use Rattle.std.specs.List.{range_with_len}
use Rattle.std.proofs.lemmas.List.{get_or-map, length-map, take_at}
use Rattle.std.proofs.lemmas.List.FromFn.{fill_by_all}
use Rattle.cmd_tree.specs.Lists.{is_in}
use Rattle.shape_parts.proofs.Filled.{filter_more}
use Rattle.token_split.proofs.links.givers.Goals as goal

pub loop-act-preserved : goal.loop-act-preserved
loop-act-preserved c =
    let n : ℕ = c.loop-act.act in
    let outs = c.args.outs.now in
    let new = c.add_giver.new.rows in
    let whole = take_at new (drop (length new) c.loop-act.rows.items) c.loop-act.rows.len (omega (arith, c.in_ok-add_giver.ensures.len, c.as_mut_slice.ensures.len, c.loop-act.rows.ok)) in
    let row = c.as_slice.ensures.value ∙ ap (λ v. v.items) c.index-outs-act.is ∙ sym (get_or-map (λ v. v.items) outs n c.index-outs-act.result [] (omega arith)) in
    record {
      many = ap (λ r. length r) whole ∙ c.in_ok-add_giver.ensures.len ∙ ap (λ r. length r) c.as_mut_slice.ensures.value ∙ c.loop-act.invariant.many;
      rows = λ a low.
          ap (λ r. get_or (map (λ v. v.items) r) a []) whole
          ∙ c.in_ok-add_giver.ensures.rows a (omega (arith, low, c.as_mut_slice.ensures.len, c.loop-act.invariant.many, c.loop-act.rows.ok))
          ∙ ap (λ r. get_or (map (λ v. v.items) r) a [] ++ (if is_in a c.as_slice.result.now then n ∷ [] else [])) c.as_mut_slice.ensures.value
          ∙ ap (λ r. r ++ (if is_in a c.as_slice.result.now then n ∷ [] else [])) (c.loop-act.invariant.rows a low)
          ∙ ap (λ (xs : List ℕ). filter (λ n. is_in a (get_or (map (λ v. v.items) outs) n [])) (range_with_len 0 n) ++ (if is_in a xs then n ∷ [] else [])) row
          ∙ sym (filter_more (λ n. is_in a (get_or (map (λ v. v.items) outs) n [])) n);
    }

pub returns : goal.returns
returns c =
    let outs = c.args.outs.now in
    let all : c.loop-act.act ≡ length outs = omega arith in
    fill_by_all (λ a. filter (λ n. is_in a (get_or (map (λ v. v.items) outs) n [])) (range_with_len 0 (length outs))) (map (λ v. v.items) c.loop-act.rows.items) c.args.names [] (length-map c.loop-act.rows.items (λ v. v.items) ∙ c.loop-act.invariant.many)
    (λ a low. c.loop-act.invariant.rows a low ∙ ap (λ (k : ℕ). filter (λ n. is_in a (get_or (map (λ v. v.items) outs) n [])) (range_with_len 0 k)) all)
