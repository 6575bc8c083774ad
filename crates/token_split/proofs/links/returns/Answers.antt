use Rattle.std.proofs.Common.{◌≡◌, ℕ, ◌<◌, List, [], ◌∷◌, ◌++◌, length, map, filter, get_or, Option, None, refl, sym, ap, ◌∙◌, arith}
use Rattle.std.specs.List.{range_with_len}
use Rattle.std.proofs.lemmas.List.{length-set, map-set, get_or-map, length-map}
use Rattle.std.proofs.lemmas.List.FromFn.{fill_by_all}
use Rattle.cmd_tree.specs.Lists.{is_in}
use Rattle.place_graph.specs.declared.wait_graph.Act.{Act}
use Rattle.shape_parts.proofs.Filled.{filter_more}
use Rattle.token_split.specs.TokenChart.{listed}
use Rattle.token_split.proofs.TokenRows.{row_pushed, none_pushed, leads_one, leads_none}
use Rattle.token_split.proofs.links.returns.Goals as goal
use Rattle.token_split.proofs.links.returns.Goals.{in-Some+then-wait-waits+in_ok-push-in-Some, in-Some+else-wait-waits, in-None}

pub loop-number-preserved : goal.loop-number-preserved
loop-number-preserved c =
    let acts : List Act = c.args.acts.now in
    let n : ℕ = c.loop-number.number in
    let rows = c.loop-number.rows.items in
    let E : List (Option ℕ) = map (λ (y : Act). y.exit) acts in
    let o : Option ℕ = get_or E n None in
    let F = λ (k : ℕ). filter (λ n. is_in k (listed (get_or E n None))) (range_with_len 0 n) in
    let more = λ (k : ℕ). sym (filter_more (λ n. is_in k (listed (get_or E n None))) n) in
    let exit : o ≡ c.index-acts-number.result.exit = get_or-map (λ (y : Act). y.exit) acts n c.index-acts-number.result None (omega arith) ∙ ap (λ (y : Act). y.exit) (sym c.index-acts-number.is) in
    elim c.match-act.branch [
      | in-Some+then-wait-waits+in_ok-push-in-Some w ↦
          let r : ℕ = w.in-Some.wait in
          let low : r < length rows = omega (arith, w.if-wait-waits.true, c.loop-number.invariant.many) in
          let old = ap (λ v. v.items) w.index_mut.ensures.value ∙ sym (get_or-map (λ v. v.items) rows r w.index_mut.result.now [] low) in
          record {
            many = ap (λ v. length v.items) w.rows-is ∙ length-set rows r w.push.new.self ∙ c.loop-number.invariant.many;
            rows = λ k inside.
                ap (λ v. get_or (map (λ v. v.items) v.items) k []) w.rows-is ∙ ap (λ (t : List (List ℕ)). get_or t k []) (map-set (λ v. v.items) rows r w.push.new.self)
                ∙ row_pushed (map (λ v. v.items) rows) c.args.waits r w.push.new.self.items n F (length-map rows (λ v. v.items) ∙ c.loop-number.invariant.many) w.if-wait-waits.true c.loop-number.invariant.rows
                (w.in_ok-push-in-Some.ensures.items ∙ ap (λ t. t ++ n ∷ []) old) k inside
                ∙ ap (λ ys. F k ++ ys) (sym (leads_one (λ n. is_in k (listed (get_or E n None))) n r k o (exit ∙ w.in-Some.is) refl)) ∙ more k;
          }
      | in-Some+else-wait-waits w ↦
          let r : ℕ = w.in-Some.wait in
          record {
            many = ap (λ v. length v.items) w.rows-is ∙ c.loop-number.invariant.many;
            rows = λ k inside.
                ap (λ v. get_or (map (λ v. v.items) v.items) k []) w.rows-is ∙ c.loop-number.invariant.rows k inside ∙ none_pushed c.args.waits r n (F k) w.if-wait-waits.false k inside
                ∙ ap (λ ys. F k ++ ys) (sym (leads_one (λ n. is_in k (listed (get_or E n None))) n r k o (exit ∙ w.in-Some.is) refl)) ∙ more k;
          }
      | in-None w ↦ record {
        many = ap (λ v. length v.items) w.rows-is ∙ c.loop-number.invariant.many;
        rows = λ k inside.
            ap (λ v. get_or (map (λ v. v.items) v.items) k []) w.rows-is ∙ c.loop-number.invariant.rows k inside
            ∙ leads_none (λ n. is_in k (listed (get_or E n None))) n k o (F k) (exit ∙ w.in-None.is) refl ∙ more k;
      }
    ]

pub returns : goal.returns
returns c =
    let acts : List Act = c.args.acts.now in
    let E : List (Option ℕ) = map (λ (y : Act). y.exit) acts in
    let all : c.loop-number.number ≡ length acts = omega arith in
    fill_by_all (λ w. filter (λ n. is_in w (listed (get_or E n None))) (range_with_len 0 (length acts))) (map (λ v. v.items) c.loop-number.rows.items) c.args.waits [] (length-map c.loop-number.rows.items (λ v. v.items) ∙ c.loop-number.invariant.many)
    (λ k low. c.loop-number.invariant.rows k low ∙ ap (λ (m : ℕ). filter (λ n. is_in k (listed (get_or E n None))) (range_with_len 0 m)) all)
