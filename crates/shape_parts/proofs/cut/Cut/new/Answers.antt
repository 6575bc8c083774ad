use Rattle.std.proofs.Common.{◌≡◌, ℕ, ◌+◌, length, ap, ◌∙◌, arith}
use Rattle.std.proofs.lemmas.List.FromFn.{length-map-range_with_len}
use Rattle.shape_parts.specs.Mirror.Cuts.{is_name, row_key, column_key, crossing_key, many_parts}
use Rattle.shape_parts.proofs.Cuts.{names_long}
use Rattle.shape_parts.proofs.Filled.{count_low}
use Rattle.shape_parts.proofs.Keyed.{row_keys_low, column_keys_low, crossing_keys_low, all_keys, keyed_numbers, keyed_ranks}
use Rattle.shape_parts.proofs.cut.Cut.new.Goals as goal

pub overflow_cast-many : goal.overflow_cast-many
overflow_cast-many c = omega (
  arith,
  c.len.ensures,
  ap length c.in_ok-of_rows.ensures.of_names,
  c.in_ok-of_rows.names.ok,
  names_long c.args.rows c.args.cols c.args.cross.now c.requires.within,
  count_low (is_name c.args.rows c.args.cross.now) c.args.rows,
)

pub overflow_add-many : goal.overflow_add-many
overflow_add-many c = omega (
  arith,
  c.len.ensures,
  ap length c.in_ok-of_rows.ensures.of_names,
  c.in_ok-of_rows.names.ok,
  names_long c.args.rows c.args.cols c.args.cross.now c.requires.within,
  count_low (is_name c.args.rows c.args.cross.now) c.args.rows,
)

pub new-requires-2-clause-known : goal.new-requires-2-clause-known
new-requires-2-clause-known c =
    all_keys (many_parts c.args.rows c.args.cross.now) (omega (arith, c.len.ensures, c.in_ok-of_rows.names.ok, ap length c.in_ok-of_rows.ensures.of_names, names_long c.args.rows c.args.cols c.args.cross.now c.requires.within)) (c.as_slice.ensures.value ∙ c.in_ok-of_rows.ensures.of_rows) (row_keys_low c.args.rows c.args.cols c.args.cross.now c.requires.within)

pub new-requires-2-clause-few : goal.new-requires-2-clause-few
new-requires-2-clause-few c = omega (arith, ap length (c.as_slice.ensures.value ∙ c.in_ok-of_rows.ensures.of_rows), length-map-range_with_len (row_key c.args.rows c.args.cross.now) 0 c.args.rows)

pub new-requires-3-clause-known : goal.new-requires-3-clause-known
new-requires-3-clause-known c =
    all_keys (many_parts c.args.rows c.args.cross.now) (omega (arith, c.len.ensures, c.in_ok-of_rows.names.ok, ap length c.in_ok-of_rows.ensures.of_names, names_long c.args.rows c.args.cols c.args.cross.now c.requires.within)) (c.as_slice-2.ensures.value ∙ c.in_ok-of_rows.ensures.of_columns) (column_keys_low c.args.rows c.args.cols c.args.cross.now c.requires.within)

pub new-requires-3-clause-few : goal.new-requires-3-clause-few
new-requires-3-clause-few c = omega (arith, ap length (c.as_slice-2.ensures.value ∙ c.in_ok-of_rows.ensures.of_columns), length-map-range_with_len (column_key c.args.rows c.args.cross.now) 0 c.args.cols)

pub new-requires-4-clause-known : goal.new-requires-4-clause-known
new-requires-4-clause-known c =
    all_keys (many_parts c.args.rows c.args.cross.now) (omega (arith, c.len.ensures, c.in_ok-of_rows.names.ok, ap length c.in_ok-of_rows.ensures.of_names, names_long c.args.rows c.args.cols c.args.cross.now c.requires.within)) (c.as_slice-3.ensures.value ∙ c.in_ok-of_rows.ensures.of_crossings) (crossing_keys_low c.args.rows c.args.cols c.args.cross.now c.requires.within)

pub new-requires-4-clause-few : goal.new-requires-4-clause-few
new-requires-4-clause-few c = omega (arith, ap length (c.as_slice-3.ensures.value ∙ c.in_ok-of_rows.ensures.of_crossings), length-map-range_with_len (crossing_key c.args.rows c.args.cross.now) 0 (length c.args.cross.now))

pub returns : goal.returns
returns c =
    let parts : ℕ = many_parts c.args.rows c.args.cross.now in
    let many : c.len.result + 1 ≡ parts + 1 = omega (arith, c.len.ensures, c.in_ok-of_rows.names.ok, ap length c.in_ok-of_rows.ensures.of_names, names_long c.args.rows c.args.cols c.args.cross.now c.requires.within) in
    let rows = c.as_slice.ensures.value ∙ c.in_ok-of_rows.ensures.of_rows in
    let columns = c.as_slice-2.ensures.value ∙ c.in_ok-of_rows.ensures.of_columns in
    let crossings = c.as_slice-3.ensures.value ∙ c.in_ok-of_rows.ensures.of_crossings in
    record {
      of_rows = keyed_numbers parts many rows c.in_ok-new.ensures.0;
      row_ranks = keyed_ranks rows c.in_ok-new.ensures.1;
      of_columns = keyed_numbers parts many columns c.in_ok-new-2.ensures.0;
      column_ranks = keyed_ranks columns c.in_ok-new-2.ensures.1;
      of_crossings = keyed_numbers parts many crossings c.in_ok-new-3.ensures.0;
      of_names = c.in_ok-of_rows.ensures.of_names;
    }
