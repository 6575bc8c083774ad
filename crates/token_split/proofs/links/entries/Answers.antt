use Rattle.std.proofs.Common.{ℕ, ◌<◌, List, [], ◌∷◌, ◌++◌, length, map, filter, get_or, take, nat_eq, sym, ap, ◌∙◌, arith}
use Rattle.std.proofs.lemmas.List.{length-set, map-set, get_or-map, length-map, take_all}
use Rattle.std.proofs.lemmas.List.Elements.{filter_more}
use Rattle.std.proofs.lemmas.List.FromFn.{fill_by_all}
use Rattle.place_graph.specs.declared.wait_graph.Cross.{Cross as Crossing}
use Rattle.token_split.specs.Mirror.TokenTables.{crossing_at}
use Rattle.token_split.proofs.TokenRows.{row_pushed, none_pushed}
use Rattle.token_split.proofs.links.entries.Goals as goal
use Rattle.token_split.proofs.links.entries.Goals.{then-cross-acts+in_ok-push, else-cross-acts}

pub loop-cross-preserved : goal.loop-cross-preserved
loop-cross-preserved c =
    let crosses : List Crossing = c.args.crosses.now in
    let i : ℕ = c.loop-cross.cross-index in
    let x : Crossing = crossing_at crosses i in
    let rows = c.loop-cross.rows.items in
    let F = λ (k : ℕ). filter (λ (c : Crossing). nat_eq c.act k) (take i crosses) in
    let more = λ (k : ℕ). sym (filter_more (λ (c : Crossing). nat_eq c.act k) crosses i (record { wait = 0; burst = 0; act = 0 }) (omega arith)) in
    elim c.if-cross-acts.branch [
      | then-cross-acts+in_ok-push w ↦
          let low : x.act < length rows = omega (arith, w.if-cross-acts.true, c.loop-cross.invariant.many) in
          let old = ap (λ v. v.items) w.index_mut.ensures.value ∙ sym (get_or-map (λ v. v.items) rows x.act w.index_mut.result.now [] low) in
          record {
            many = ap (λ v. length v.items) w.rows-is ∙ length-set rows x.act w.push.new.self ∙ c.loop-cross.invariant.many;
            rows = λ k inside.
                ap (λ v. get_or (map (λ v. v.items) v.items) k []) w.rows-is ∙ ap (λ (r : List (List Crossing)). get_or r k []) (map-set (λ v. v.items) rows x.act w.push.new.self)
                ∙ row_pushed (map (λ v. v.items) rows) c.args.acts x.act w.push.new.self.items x F (length-map rows (λ v. v.items) ∙ c.loop-cross.invariant.many) w.if-cross-acts.true c.loop-cross.invariant.rows
                (w.in_ok-push.ensures.items ∙ ap (λ r. r ++ x ∷ []) old) k inside
                ∙ more k;
          }
      | else-cross-acts w ↦ record {
        many = ap (λ v. length v.items) w.rows-is ∙ c.loop-cross.invariant.many;
        rows = λ k inside. ap (λ v. get_or (map (λ v. v.items) v.items) k []) w.rows-is ∙ c.loop-cross.invariant.rows k inside ∙ none_pushed c.args.acts x.act x (F k) w.if-cross-acts.false k inside ∙ more k;
      }
    ]

pub returns : goal.returns
returns c =
    let crosses : List Crossing = c.args.crosses.now in
    let all = take_all c.loop-cross.cross-index crosses (omega arith) in
    fill_by_all (λ n. filter (λ (c : Crossing). nat_eq c.act n) crosses) (map (λ v. v.items) c.loop-cross.rows.items) c.args.acts [] (length-map c.loop-cross.rows.items (λ v. v.items) ∙ c.loop-cross.invariant.many)
    (λ k low. c.loop-cross.invariant.rows k low ∙ ap (filter (λ (c : Crossing). nat_eq c.act k)) all)
