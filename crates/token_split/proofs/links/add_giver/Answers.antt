use Rattle.std.proofs.Common.{ℕ, ◌+◌, ◌<◌, List, [], ◌∷◌, ◌++◌, length, map, get_or, drop, sym, ap, ◌∙◌, arith}
use Rattle.std.specs.Prelude.{if◌then◌else◌}
use Rattle.std.proofs.lemmas.List.{length-set, map-set, get_or-map, length-map, drop_more}
use Rattle.cmd_tree.specs.Lists.{is_in}
use Rattle.shape_parts.proofs.Filled.{key_low}
use Rattle.token_split.proofs.TokenRows.{giver_step, once_at}
use Rattle.token_split.proofs.links.add_giver.Goals as goal

pub loop-symbol-preserved : goal.loop-symbol-preserved
loop-symbol-preserved c =
    let outs : List ℕ = c.args.outs.now in
    let i : ℕ = c.loop-symbol.symbol-index in
    let x : ℕ = get_or outs i 0 in
    let rows = c.loop-symbol.rows in
    let known : x < length c.args.rows.now = key_low (length c.args.rows.now) outs i c.requires.known (omega arith) in
    let low : x < length rows = omega (arith, known, c.loop-symbol.invariant.many) in
    let old = sym (get_or-map (λ v. v.items) rows x c.index-rows-symbol.result [] low) in
    record {
      many = length-set rows x c.push.new.self ∙ c.loop-symbol.invariant.many;
      rows = λ a inside.
          ap (λ (r : List (List ℕ)). get_or r a [] ++ (if is_in a (drop (i + 1) outs) then c.args.act ∷ [] else [])) (map-set (λ v. v.items) rows x c.push.new.self)
          ∙ giver_step (map (λ v. v.items) rows) x c.args.act c.push.new.self.items (drop (i + 1) outs) a (omega (arith, low, length-map rows (λ v. v.items))) (c.in_ok-push.ensures.items ∙ ap (λ r. r ++ c.args.act ∷ []) old)
          (once_at outs i c.requires.once (omega arith))
          ∙ ap (λ (xs : List ℕ). get_or (map (λ v. v.items) rows) a [] ++ (if is_in a xs then c.args.act ∷ [] else [])) (sym (drop_more outs i 0 (omega arith))) ∙ c.loop-symbol.invariant.rows a inside;
    }
