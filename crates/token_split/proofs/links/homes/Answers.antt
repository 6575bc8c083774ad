use Rattle.std.proofs.Common.{◌≡◌, ℕ, ◌+◌, ◌-◌, [], length, map, get_or, drop, sym, ap, ◌∙◌, arith}
use Rattle.std.specs.List.{position_or_len}
use Rattle.std.proofs.lemmas.List.{get_or-map, length-map, take_at}
use Rattle.std.proofs.lemmas.List.FromFn.{fill_by_all}
use Rattle.cmd_tree.specs.Lists.{is_in}
use Rattle.token_split.proofs.TokenRows.{home_step}
use Rattle.token_split.proofs.links.homes.Goals as goal

pub loop-count-preserved : goal.loop-count-preserved
loop-count-preserved c =
    let bursts = c.args.bursts.now in
    let rows = map (λ v. v.items) bursts in
    let b : ℕ = length bursts - 1 - c.loop-count.count in
    let new = c.set_homes.new.homes in
    let whole = take_at new (drop (length new) c.loop-count.homes.items) c.loop-count.homes.len (omega (arith, c.set_homes.auto.homes, c.as_mut_slice.ensures.len, c.loop-count.homes.ok)) in
    let row = c.as_slice.ensures.value ∙ ap (λ v. v.items) c.index-bursts-burst.is ∙ sym (get_or-map (λ v. v.items) bursts b c.index-bursts-burst.result [] (omega arith)) in
    let above : length bursts - c.loop-count.count ≡ b + 1 = omega arith in
    let here : b ≡ length bursts - (c.loop-count.count + 1) = omega arith in
    record {
      many = ap (λ r. length r) whole ∙ c.set_homes.auto.homes ∙ ap (λ r. length r) c.as_mut_slice.ensures.value ∙ c.loop-count.invariant.many;
      homes = λ a low.
          ap (λ r. get_or r a 0) whole
          ∙ home_step rows b c.as_slice.result.now (get_or c.as_mut_slice.result.now a 0) (get_or new a 0) a (omega (arith, length-map bursts (λ v. v.items))) row
          (ap (λ r. get_or r a 0) c.as_mut_slice.ensures.value ∙ c.loop-count.invariant.homes a low ∙ ap (λ (k : ℕ). k + position_or_len (is_in a) (drop k rows)) above)
          (c.set_homes.ensures a (omega (arith, low, c.as_mut_slice.ensures.len, c.loop-count.invariant.many, c.loop-count.homes.ok)))
          ∙ ap (λ (k : ℕ). k + position_or_len (is_in a) (drop k rows)) here;
    }

pub returns : goal.returns
returns c =
    let rows = map (λ v. v.items) c.args.bursts.now in
    let none : length c.args.bursts.now - c.loop-count.count ≡ 0 = omega arith in
    fill_by_all (λ a. position_or_len (is_in a) rows) c.loop-count.homes.items c.args.names 0 c.loop-count.invariant.many
    (λ a low.
    let e : get_or c.loop-count.homes.items a 0 ≡ 0 + position_or_len (is_in a) (drop 0 rows) = c.loop-count.invariant.homes a low ∙ ap (λ (k : ℕ). k + position_or_len (is_in a) (drop k rows)) none in
    omega (arith, e))
