use Rattle.std.proofs.Common.{ℕ, ◌+◌, ◌<◌, List, [], ◌∷◌, ◌++◌, length, map, get_or, drop, sym, ap, ◌∙◌, arith}
use Rattle.std.specs.Prelude.{if◌then◌else◌}
use Rattle.std.proofs.lemmas.List.{length-set, map-set, get_or-map, length-map, drop_more}
use Rattle.cmd_tree.specs.Lists.{is_in}
use Rattle.weave_split.proofs.TabledRows.{key_low, haver_step, once_at}
use Rattle.weave_split.proofs.rows.add_haver.Goals as goal

pub loop-symbol-preserved : goal.loop-symbol-preserved
loop-symbol-preserved c =
    let symbols : List ℕ = c.args.symbols.now in
    let i : ℕ = c.loop-symbol.symbol-index in
    let x : ℕ = get_or symbols i 0 in
    let rows = c.loop-symbol.rows in
    let known : x < length c.args.rows.now = key_low (length c.args.rows.now) symbols i c.requires.known (omega arith) in
    let low : x < length rows = omega (arith, known, c.loop-symbol.invariant.many) in
    let old = sym (get_or-map (λ v. v.items) rows x c.index-rows-symbol.result [] low) in
    record {
      many = length-set rows x c.push.new.self ∙ c.loop-symbol.invariant.many;
      rows = λ a inside.
          ap (λ (r : List (List ℕ)). get_or r a [] ++ (if is_in a (drop (i + 1) symbols) then c.args.haver ∷ [] else [])) (map-set (λ v. v.items) rows x c.push.new.self)
          ∙ haver_step (map (λ v. v.items) rows) x c.args.haver c.push.new.self.items (drop (i + 1) symbols) a (omega (arith, low, length-map rows (λ v. v.items))) (c.in_ok-push.ensures.items ∙ ap (λ r. r ++ c.args.haver ∷ []) old)
          (once_at symbols i c.requires.once (omega arith))
          ∙ ap (λ (xs : List ℕ). get_or (map (λ v. v.items) rows) a [] ++ (if is_in a xs then c.args.haver ∷ [] else [])) (sym (drop_more symbols i 0 (omega arith))) ∙ c.loop-symbol.invariant.rows a inside;
    }
