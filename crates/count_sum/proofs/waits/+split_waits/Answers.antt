use Rattle.std.proofs.Common.{◌≡◌, ℕ, ◌+◌, ◌-◌, ◌*◌, ◌≤◌, List, drop, sym, ap, ◌∙◌, subst, arith}
use Rattle.std.specs.List.{AllByRecursion}
use Rattle.basic_kinds.specs.Sorts.{Forks, Joins, Merges, Waits}
use Rattle.basic_kinds.specs.ShapeParts.{half, first_rows, last_rows, outer, exchanged}
use Rattle.basic_kinds.specs.Sums.{so_many}
use Rattle.shape_parts.proofs.Layered.{half_near}
use Rattle.shape_parts.specs.declared.cut.ShapePart.{ShapePart}
use Rattle.shape_parts.specs.declared.layers.Layer.{Layer}
use Rattle.count_sum.specs.Mirror.Adding.{Adds, HasRoom}
use Rattle.count_sum.specs.Mirror.Waits.{IsInRange, of_wait, of_group, of_layer, of_part, of_parts}
use Rattle.count_sum.proofs.AddSteps.{adds_same, adds_both, adds_none, adds_one, room_same, room_first, room_next, room_one}
use Rattle.count_sum.proofs.WaitLayers.{wait_is, part_of_one, part_by_rows, part_by_columns, part_of_two, group_none, group_some}
use Rattle.std.proofs.lemmas.Result.{on_ok_weaker}
use Rattle.count_sum.proofs.WaitSteps.{layer_sum_is, outer_is_range, first_is_range, last_is_range, all_read, parts_drop, rest_room, part_read, range_read, step_counted, end_counted}
use Rattle.std.proofs.lemmas.List.{at_drop_all}
use Rattle.count_sum.proofs.WaitShapes.{exchanged_range, columns_range, parts_range, IsPartInRange}
use Rattle.count_sum.proofs.waits.+split_waits.Goals as goal

-- ---- a part

pub add_part-add-requires : goal.add_part-add-requires
add_part-add-requires t c = room_one Joins 1 (room_same (λ s. part_of_one c.args.rows c.args.cols c.args.part.now s (omega arith)) c.requires.room)

pub add_part-returns-then-part-lt2 : goal.add_part-returns-then-part-lt2
add_part-returns-then-part-lt2 t c = adds_same (λ s. sym (part_of_one c.args.rows c.args.cols c.args.part.now s (omega arith))) (adds_one Joins 1 c.add.ensures)

pub add_part-add_layer-requires : goal.add_part-add_layer-requires
add_part-add_layer-requires t c =
    (omega arith, (c.if-rows-gt2.true, (c.requires.shape, room_same (λ s. part_by_rows c.args.rows c.args.cols c.args.part.now s (omega arith) c.if-rows-gt2.true) c.requires.room)))

pub add_part-returns-then-rows-gt2 : goal.add_part-returns-then-rows-gt2
add_part-returns-then-rows-gt2 t c =
    on_ok_weaker c.add_layer.result (adds_same (λ s. sym (part_by_rows c.args.rows c.args.cols c.args.part.now s (omega arith) c.if-rows-gt2.true))) c.add_layer.ensures

pub add_part-exchanged-requires-clause-within : goal.add_part-exchanged-requires-clause-within
add_part-exchanged-requires-clause-within t c = columns_range c.args.rows c.args.cols c.args.part.now c.requires.shape

pub add_part-add_layer-requires-then-cols-gt2 : goal.add_part-add_layer-requires-then-cols-gt2
add_part-add_layer-requires-then-cols-gt2 t c =
    let is : c.as_slice.result.now ≡ exchanged c.args.cols c.args.part.now = c.as_slice.ensures ∙ c.in_ok-turned.ensures in (
      omega arith,
      (
        c.if-cols-gt2.true,
        (
          subst (IsInRange c.args.cols c.args.rows) (sym is) (exchanged_range c.args.rows c.args.cols c.args.part.now c.requires.shape),
          room_same (λ s. part_by_columns c.args.rows c.args.cols c.args.part.now s (omega arith) (omega arith) c.if-cols-gt2.true ∙ ap (λ (p : List (ℕ × ℕ)). of_layer c.args.cols c.args.rows p s) (sym is)) c.requires.room,
        ),
      ),
    )

pub add_part-returns-in_ok-turned : goal.add_part-returns-in_ok-turned
add_part-returns-in_ok-turned t c =
    let is : c.as_slice.result.now ≡ exchanged c.args.cols c.args.part.now = c.as_slice.ensures ∙ c.in_ok-turned.ensures in
    on_ok_weaker c.add_layer-then-cols-gt2.result
    (adds_same (λ s. sym (part_by_columns c.args.rows c.args.cols c.args.part.now s (omega arith) (omega arith) c.if-cols-gt2.true ∙ ap (λ (p : List (ℕ × ℕ)). of_layer c.args.cols c.args.rows p s) (sym is))))
    c.add_layer-then-cols-gt2.ensures

pub add_part-add-requires-else-cols-gt2 : goal.add_part-add-requires-else-cols-gt2
add_part-add-requires-else-cols-gt2 t c = room_one Waits 1 (room_same (λ s. part_of_two c.args.rows c.args.cols c.args.part.now s (omega arith) (omega arith) (omega arith)) c.requires.room)

pub add_part-returns-else-cols-gt2 : goal.add_part-returns-else-cols-gt2
add_part-returns-else-cols-gt2 t c =
    adds_same (λ s. sym (part_of_two c.args.rows c.args.cols c.args.part.now s (omega arith) (omega arith) (omega arith))) (adds_one Waits 1 c.add-else-cols-gt2.ensures)

-- ---- a group

pub add_group-returns-then-rows-lt2 : goal.add_group-returns-then-rows-lt2
add_group-returns-then-rows-lt2 t c = adds_same (λ s. sym (group_none c.args.rows c.args.cols c.args.group.now s c.if-rows-lt2.true)) (adds_none c.args.counts.now)

pub add_group-add-requires : goal.add_group-add-requires
add_group-add-requires t c =
    let n : ℕ = c.args.rows in
    let w = of_wait n c.args.cols c.args.group.now in
    let room : HasRoom c.args.counts.now (λ s. so_many n Forks s + (so_many (n - 1) Merges s + w s)) = room_same (λ s. group_some n c.args.cols c.args.group.now s c.if-rows-lt2.false) c.requires.room in
    room_one Forks n (room_first (so_many n Forks) (λ s. so_many (n - 1) Merges s + w s) room)

pub add_group-add-requires-2 : goal.add_group-add-requires-2
add_group-add-requires-2 t c =
    let n : ℕ = c.args.rows in
    let w = of_wait n c.args.cols c.args.group.now in
    let room : HasRoom c.args.counts.now (λ s. so_many n Forks s + (so_many (n - 1) Merges s + w s)) = room_same (λ s. group_some n c.args.cols c.args.group.now s c.if-rows-lt2.false) c.requires.room in
    let forks : Adds c.args.counts.now c.add.new.self (so_many n Forks) = adds_one Forks n c.add.ensures in
    let rest : HasRoom c.add.new.self (λ s. so_many (n - 1) Merges s + w s) = room_next (so_many n Forks) (λ s. so_many (n - 1) Merges s + w s) forks room in
    room_one Merges (n - 1) (room_first (so_many (n - 1) Merges) w rest)

pub add_group-add_wait-requires : goal.add_group-add_wait-requires
add_group-add_wait-requires t c =
    let n : ℕ = c.args.rows in
    let w = of_wait n c.args.cols c.args.group.now in
    let room : HasRoom c.args.counts.now (λ s. so_many n Forks s + (so_many (n - 1) Merges s + w s)) = room_same (λ s. group_some n c.args.cols c.args.group.now s c.if-rows-lt2.false) c.requires.room in
    let forks : Adds c.args.counts.now c.add.new.self (so_many n Forks) = adds_one Forks n c.add.ensures in
    let rest : HasRoom c.add.new.self (λ s. so_many (n - 1) Merges s + w s) = room_next (so_many n Forks) (λ s. so_many (n - 1) Merges s + w s) forks room in
    let merges : Adds c.add.new.self c.add-2.new.self (so_many (n - 1) Merges) = adds_one Merges (n - 1) c.add-2.ensures in
    (omega arith, (c.requires.shape, room_next (so_many (n - 1) Merges) w merges rest))

pub add_group-returns : goal.add_group-returns
add_group-returns t c =
    let n : ℕ = c.args.rows in
    let forks : Adds c.args.counts.now c.add.new.self (so_many n Forks) = adds_one Forks n c.add.ensures in
    let merges : Adds c.add.new.self c.add-2.new.self (so_many (n - 1) Merges) = adds_one Merges (n - 1) c.add-2.ensures in
    on_ok_weaker c.add_wait.result (λ h. adds_same (λ s. sym (group_some n c.args.cols c.args.group.now s c.if-rows-lt2.false)) (adds_both forks (adds_both merges h))) c.add_wait.ensures

-- ---- a layer

pub add_layer-overflow_sub-rest : goal.add_layer-overflow_sub-rest
add_layer-overflow_sub-rest t c = omega (arith, c.requires.wide, half_near c.args.rows, ap (λ (l : Layer). l.half) c.in_ok-layer.ensures)

pub add_layer-add_wait-requires : goal.add_layer-add_wait-requires
add_layer-add_wait-requires t c =
    let n : ℕ = c.args.rows in
    let k : ℕ = c.args.cols in
    let x : List (ℕ × ℕ) = c.args.cross.now in
    let h : ℕ = c.in_ok-layer.layer.half in
    let eh : h ≡ half n = ap (λ (l : Layer). l.half) c.in_ok-layer.ensures in
    let o : List (ℕ × ℕ) = c.as_slice.result.now in
    let eo : o ≡ outer (half n) k x = c.as_slice.ensures ∙ ap (λ (y : Layer). y.outer) c.in_ok-layer.ensures in
    let f : List (ℕ × ℕ) = c.in_ok-layer.layer.first in
    let ef : f ≡ first_rows (half n) x = ap (λ (y : Layer). y.first) c.in_ok-layer.ensures in
    let l : List (ℕ × ℕ) = c.in_ok-layer.layer.last in
    let el : l ≡ last_rows (half n) x = ap (λ (y : Layer). y.last) c.in_ok-layer.ensures in
    let a = of_wait 2 k o in
    let b = of_group h k f in
    let d = of_group (n - h) k l in
    let room : HasRoom c.args.counts.now (λ s. a s + (b s + d s)) = room_same (layer_sum_is n k x c.requires.wide c.requires.shape h o f l eh eo ef el) c.requires.room in
    (omega (arith, c.requires.wide, c.decreases), (outer_is_range n k x c.requires.wide c.requires.shape h o f l eh eo ef el, room_first a (λ s. b s + d s) room))

pub add_layer-add_group-requires : goal.add_layer-add_group-requires
add_layer-add_group-requires t c =
    let n : ℕ = c.args.rows in
    let k : ℕ = c.args.cols in
    let x : List (ℕ × ℕ) = c.args.cross.now in
    let h : ℕ = c.in_ok-layer.layer.half in
    let eh : h ≡ half n = ap (λ (l : Layer). l.half) c.in_ok-layer.ensures in
    let o : List (ℕ × ℕ) = c.as_slice.result.now in
    let eo : o ≡ outer (half n) k x = c.as_slice.ensures ∙ ap (λ (y : Layer). y.outer) c.in_ok-layer.ensures in
    let f : List (ℕ × ℕ) = c.as_slice-2.result.now in
    let ef : f ≡ first_rows (half n) x = c.as_slice-2.ensures ∙ ap (λ (y : Layer). y.first) c.in_ok-layer.ensures in
    let l : List (ℕ × ℕ) = c.in_ok-layer.layer.last in
    let el : l ≡ last_rows (half n) x = ap (λ (y : Layer). y.last) c.in_ok-layer.ensures in
    let a = of_wait 2 k o in
    let b = of_group h k f in
    let d = of_group (n - h) k l in
    let room : HasRoom c.args.counts.now (λ s. a s + (b s + d s)) = room_same (layer_sum_is n k x c.requires.wide c.requires.shape h o f l eh eo ef el) c.requires.room in
    let near : (n ≤ 2 * half n) × (2 * half n ≤ n + 1) = half_near n in
    (omega (arith, c.requires.wide, c.decreases, eh, near.1), (first_is_range n k x c.requires.wide c.requires.shape h o f l eh eo ef el, room_first b d (room_next a (λ s. b s + d s) c.in_ok-add_wait.ensures room)))

pub add_layer-add_group-requires-2 : goal.add_layer-add_group-requires-2
add_layer-add_group-requires-2 t c =
    let n : ℕ = c.args.rows in
    let k : ℕ = c.args.cols in
    let x : List (ℕ × ℕ) = c.args.cross.now in
    let h : ℕ = c.in_ok-layer.layer.half in
    let eh : h ≡ half n = ap (λ (l : Layer). l.half) c.in_ok-layer.ensures in
    let o : List (ℕ × ℕ) = c.as_slice.result.now in
    let eo : o ≡ outer (half n) k x = c.as_slice.ensures ∙ ap (λ (y : Layer). y.outer) c.in_ok-layer.ensures in
    let f : List (ℕ × ℕ) = c.as_slice-2.result.now in
    let ef : f ≡ first_rows (half n) x = c.as_slice-2.ensures ∙ ap (λ (y : Layer). y.first) c.in_ok-layer.ensures in
    let l : List (ℕ × ℕ) = c.as_slice-3.result.now in
    let el : l ≡ last_rows (half n) x = c.as_slice-3.ensures ∙ ap (λ (y : Layer). y.last) c.in_ok-layer.ensures in
    let a = of_wait 2 k o in
    let b = of_group h k f in
    let d = of_group (n - h) k l in
    let room : HasRoom c.args.counts.now (λ s. a s + (b s + d s)) = room_same (layer_sum_is n k x c.requires.wide c.requires.shape h o f l eh eo ef el) c.requires.room in
    let near : (n ≤ 2 * half n) × (2 * half n ≤ n + 1) = half_near n in
    (omega (arith, c.requires.wide, c.decreases, eh, near.0), (last_is_range n k x c.requires.wide c.requires.shape h o f l eh eo ef el, room_next b d c.in_ok-add_group.ensures (room_next a (λ s. b s + d s) c.in_ok-add_wait.ensures room)))

pub add_layer-returns : goal.add_layer-returns
add_layer-returns t c =
    let n : ℕ = c.args.rows in
    let k : ℕ = c.args.cols in
    let x : List (ℕ × ℕ) = c.args.cross.now in
    let h : ℕ = c.in_ok-layer.layer.half in
    let eh : h ≡ half n = ap (λ (l : Layer). l.half) c.in_ok-layer.ensures in
    let o : List (ℕ × ℕ) = c.as_slice.result.now in
    let eo : o ≡ outer (half n) k x = c.as_slice.ensures ∙ ap (λ (y : Layer). y.outer) c.in_ok-layer.ensures in
    let f : List (ℕ × ℕ) = c.as_slice-2.result.now in
    let ef : f ≡ first_rows (half n) x = c.as_slice-2.ensures ∙ ap (λ (y : Layer). y.first) c.in_ok-layer.ensures in
    let l : List (ℕ × ℕ) = c.as_slice-3.result.now in
    let el : l ≡ last_rows (half n) x = c.as_slice-3.ensures ∙ ap (λ (y : Layer). y.last) c.in_ok-layer.ensures in
    let a = of_wait 2 k o in
    let b = of_group h k f in
    let d = of_group (n - h) k l in
    let room : HasRoom c.args.counts.now (λ s. a s + (b s + d s)) = room_same (layer_sum_is n k x c.requires.wide c.requires.shape h o f l eh eo ef el) c.requires.room in
    on_ok_weaker c.add_group-2.result (λ z. adds_same (λ s. sym (layer_sum_is n k x c.requires.wide c.requires.shape h o f l eh eo ef el s)) (adds_both c.in_ok-add_wait.ensures (adds_both c.in_ok-add_group.ensures z))) c.add_group-2.ensures

-- ---- a DW

pub add_wait-overflow_cast-part_rows : goal.add_wait-overflow_cast-part_rows
add_wait-overflow_cast-part_rows t c =
    let all = subst (AllByRecursion (IsPartInRange c.args.rows c.args.cols)) (sym (c.deref-part-items.ensures.value ∙ c.in_ok-found.ensures)) (parts_range c.args.rows c.args.cols c.args.cross.now c.requires.shape) in
    let here : IsPartInRange c.args.rows c.args.cols c.part-item.result = all_read (IsPartInRange c.args.rows c.args.cols) c.deref-part-items.result.now c.loop-part.part-index c.part-item.result all c.loop-part-test.true c.part-item.is in
    omega (arith, c.len-part_rows.ensures, here.few_rows, c.ranges.rows)

pub add_wait-overflow_cast-part_cols : goal.add_wait-overflow_cast-part_cols
add_wait-overflow_cast-part_cols t c =
    let all = subst (AllByRecursion (IsPartInRange c.args.rows c.args.cols)) (sym (c.deref-part-items.ensures.value ∙ c.in_ok-found.ensures)) (parts_range c.args.rows c.args.cols c.args.cross.now c.requires.shape) in
    let here : IsPartInRange c.args.rows c.args.cols c.part-item.result = all_read (IsPartInRange c.args.rows c.args.cols) c.deref-part-items.result.now c.loop-part.part-index c.part-item.result all c.loop-part-test.true c.part-item.is in
    omega (arith, c.len-part_cols.ensures, here.few_columns, c.ranges.cols)

pub add_wait-add_part-requires : goal.add_wait-add_part-requires
add_wait-add_part-requires t c =
    let ps : List ShapePart = c.deref-part-items.result.now in
    let p : ShapePart = c.part-item.result in
    let i : ℕ = c.loop-part.part-index in
    let are = c.deref-part-items.ensures.value ∙ c.in_ok-found.ensures in
    let all = subst (AllByRecursion (IsPartInRange c.args.rows c.args.cols)) (sym are) (parts_range c.args.rows c.args.cols c.args.cross.now c.requires.shape) in
    let here : IsPartInRange c.args.rows c.args.cols p = all_read (IsPartInRange c.args.rows c.args.cols) ps i p all c.loop-part-test.true c.part-item.is in
    let whole : HasRoom c.args.counts.now (of_parts ps) = room_same (λ s. wait_is c.args.rows c.args.cols c.args.cross.now s ∙ ap (λ (qs : List ShapePart). of_parts qs s) (sym are)) c.requires.room in
    let left : HasRoom c.loop-part.counts (of_parts (drop i ps)) = rest_room c.args.counts.now c.loop-part.counts (of_parts ps) (of_parts (drop i ps)) c.loop-part.invariant whole in
    let one : HasRoom c.loop-part.counts (λ s. of_part c.len-part_rows.result c.len-part_cols.result c.as_slice.result.now s + of_parts (drop (i + 1) ps) s) =
    room_same (λ s. parts_drop ps i p s c.loop-part-test.true c.part-item.is ∙ sym (part_read c.len-part_rows.ensures c.len-part_cols.ensures c.as_slice.ensures s (of_parts (drop (i + 1) ps) s))) left in (
      omega (arith, c.decreases, c.len-part_rows.ensures, c.len-part_cols.ensures, here.few_rows, here.few_columns),
      (
        range_read c.len-part_rows.ensures c.len-part_cols.ensures c.as_slice.ensures here.range,
        room_first (of_part c.len-part_rows.result c.len-part_cols.result c.as_slice.result.now) (of_parts (drop (i + 1) ps)) one,
      ),
    )

pub add_wait-loop-part-preserved : goal.add_wait-loop-part-preserved
add_wait-loop-part-preserved t c = λ s.
    let ps : List ShapePart = c.deref-part-items.result.now in
    let p : ShapePart = c.part-item.result in
    let i : ℕ = c.loop-part.part-index in
    let next = parts_drop ps i p s c.loop-part-test.true c.part-item.is ∙ sym (part_read c.len-part_rows.ensures c.len-part_cols.ensures c.as_slice.ensures s (of_parts (drop (i + 1) ps) s)) in
    step_counted _ _ _ _ _ _ (c.in_ok-add_part.ensures.each s) next (c.loop-part.invariant s)

pub add_wait-returns : goal.add_wait-returns
add_wait-returns t c = record {
  each = λ s.
      let ps : List ShapePart = c.deref-part-items.result.now in
      let i : ℕ = c.loop-part.part-index in
      let none : of_parts (drop i ps) s ≡ 0 = at_drop_all (λ (qs : List ShapePart). of_parts qs s) ps i c.loop-part-test.false in
      let all : of_wait c.args.rows c.args.cols c.args.cross.now s ≡ of_parts ps s = wait_is c.args.rows c.args.cols c.args.cross.now s ∙ ap (λ (qs : List ShapePart). of_parts qs s) (sym (c.deref-part-items.ensures.value ∙ c.in_ok-found.ensures)) in
      end_counted _ _ _ _ _ none all (c.loop-part.invariant s);
}
