use Rattle.std.proofs.Common.{◌∷◌, ◌++◌, [], map, sym, ap, ◌∙◌}
use Rattle.std.proofs.Math.ListN.{set}
use Rattle.std.proofs.lemmas.List.{map-set, get_or-map}
use Rattle.plain_split.proofs.rows.add_link.Goals as goal

pub returns-in_ok-push-clause-rows : goal.returns-in_ok-push-clause-rows
returns-in_ok-push-clause-rows c =
    map-set (λ v. v.items) c.args.rows.now c.args.link.from c.push.new.self
    ∙ ap (set (map (λ v. v.items) c.args.rows.now) c.args.link.from)
    (c.in_ok-push.ensures.items ∙ ap (λ xs. xs ++ c.args.link.to ∷ []) (sym (get_or-map (λ v. v.items) c.args.rows.now c.args.link.from c.index-rows-row.result [] c.if-row-rows.true)))
