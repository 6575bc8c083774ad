use Rattle.std.proofs.Common.{◌≡◌, ℕ, ◌+◌, [], ◌∷◌, ◌++◌, length, map, sym, ap, ◌∙◌, arith}
use Rattle.std.specs.List.{range_with_len}
use Rattle.std.proofs.lemmas.List.FromFn.{length-map-range_with_len, map-range_with_len_more}
use Rattle.shape_parts.specs.Keys.{with_key}
use Rattle.shape_parts.specs.Mirror.Cuts.{many_parts, part_by, is_name, row_keys, column_keys, crossing_keys}
use Rattle.shape_parts.proofs.Cuts.{names_count, places_low, parts_are, ranks_rows, ranks_columns}
use Rattle.shape_parts.proofs.Filled.{count_low}
use Rattle.shape_parts.proofs.cut.parts.Goals as goal

pub overflow_cast-number-end : goal.overflow_cast-number-end
overflow_cast-number-end c = omega (
  arith,
  c.len-number-end.ensures,
  c.in_ok-cut.cut.names.ok,
  names_count c.args.rows c.args.cols c.args.cross.now c.requires.within c.in_ok-cut.cut c.in_ok-cut.ensures,
  count_low (is_name c.args.rows c.args.cross.now) c.args.rows,
)

pub part-requires-clause-some_rows : goal.part-requires-clause-some_rows
part-requires-clause-some_rows c = omega (
  arith,
  c.len-number-end.ensures,
  c.in_ok-cut.cut.names.ok,
  names_count c.args.rows c.args.cols c.args.cross.now c.requires.within c.in_ok-cut.cut c.in_ok-cut.ensures,
  ap length c.in_ok-cut.ensures.of_rows,
  length-map-range_with_len (with_key (row_keys c.args.rows c.args.cross.now)) 0 (many_parts c.args.rows c.args.cross.now + 1),
)

pub part-requires-clause-some_columns : goal.part-requires-clause-some_columns
part-requires-clause-some_columns c = omega (
  arith,
  c.len-number-end.ensures,
  c.in_ok-cut.cut.names.ok,
  names_count c.args.rows c.args.cols c.args.cross.now c.requires.within c.in_ok-cut.cut c.in_ok-cut.ensures,
  ap length c.in_ok-cut.ensures.of_columns,
  length-map-range_with_len (with_key (column_keys c.args.rows c.args.cols c.args.cross.now)) 0 (many_parts c.args.rows c.args.cross.now + 1),
)

pub part-requires-clause-some_crossings : goal.part-requires-clause-some_crossings
part-requires-clause-some_crossings c = omega (
  arith,
  c.len-number-end.ensures,
  c.in_ok-cut.cut.names.ok,
  names_count c.args.rows c.args.cols c.args.cross.now c.requires.within c.in_ok-cut.cut c.in_ok-cut.ensures,
  ap length c.in_ok-cut.ensures.of_crossings,
  length-map-range_with_len (with_key (crossing_keys c.args.rows c.args.cross.now)) 0 (many_parts c.args.rows c.args.cross.now + 1),
)

pub part-requires-clause-places : goal.part-requires-clause-places
part-requires-clause-places c =
    places_low c.args.rows c.args.cols c.args.cross.now c.requires.within c.in_ok-cut.cut c.in_ok-cut.ensures c.loop-number.number
    (omega (arith, c.len-number-end.ensures, c.in_ok-cut.cut.names.ok, names_count c.args.rows c.args.cols c.args.cross.now c.requires.within c.in_ok-cut.cut c.in_ok-cut.ensures))

pub part-requires-clause-rows : goal.part-requires-clause-rows
part-requires-clause-rows c = ranks_rows c.args.rows c.args.cols c.args.cross.now c.requires.within c.in_ok-cut.cut c.in_ok-cut.ensures

pub part-requires-clause-columns : goal.part-requires-clause-columns
part-requires-clause-columns c = ranks_columns c.args.rows c.args.cols c.args.cross.now c.requires.within c.in_ok-cut.cut c.in_ok-cut.ensures

pub loop-number-preserved : goal.loop-number-preserved
loop-number-preserved c =
    let f = part_by c.in_ok-cut.cut c.args.cross.now in
    let n : ℕ = c.loop-number.number in
    c.in_ok-push.ensures.items ∙ ap (λ ps. ps ++ c.in_ok-part.part ∷ []) c.loop-number.invariant ∙ ap (λ p. map f (range_with_len 0 n) ++ p ∷ []) c.in_ok-part.ensures ∙ sym (map-range_with_len_more f 0 n n (omega arith))

pub returns : goal.returns
returns c =
    let n : c.loop-number.number ≡ length c.in_ok-cut.cut.names.items = omega (arith, c.len-number-end.ensures, c.in_ok-cut.cut.names.ok) in
    c.loop-number.invariant ∙ ap (λ (m : ℕ). map (part_by c.in_ok-cut.cut c.args.cross.now) (range_with_len 0 m)) n
    ∙ parts_are c.args.rows c.args.cols c.args.cross.now c.requires.within c.in_ok-cut.cut c.in_ok-cut.ensures
