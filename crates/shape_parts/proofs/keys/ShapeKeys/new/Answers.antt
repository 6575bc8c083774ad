use Rattle.std.proofs.Common.{◌≡◌, ℕ, ◌+◌, List, length, map, slice_index, refl, sym, ap, ◌∙◌, arith}
use Rattle.std.proofs.lemmas.List.{get_or_read}
use Rattle.std.proofs.lemmas.List.FromFn.{length-map-range_with_len}
use Rattle.shape_parts.specs.Keys.{is_among}
use Rattle.shape_parts.specs.Mirror.Cuts.{line_key, row_keys}
use Rattle.shape_parts.proofs.Keyed.{rows_below, columns_below, labels_long, names_below, names_marked, counts_long, row_known, row_keys_are, column_known, column_keys_are, crossing_keys_are, gathered, marked_by, counted_by}
use Rattle.shape_parts.proofs.keys.ShapeKeys.new.Goals as goal

pub gather-requires : goal.gather-requires
gather-requires c = rows_below c.args.rows c.args.cols c.args.cross.now c.requires.within _ _ (c.as_slice-2.ensures.value ∙ c.in_ok-crossed_rows.ensures)
    (omega (arith, labels_long c.args.rows c.args.cols c.args.cross.now c.requires.within c.as_slice.result.now (c.as_slice.ensures.value ∙ c.in_ok-labels.ensures)))

pub marks-requires : goal.marks-requires
marks-requires c = names_below c.args.rows c.args.cols c.args.cross.now c.requires.within c.as_slice.result.now (c.as_slice.ensures.value ∙ c.in_ok-labels.ensures) c.as_slice-2.result.now _
    (c.as_slice-2.ensures.value ∙ c.in_ok-crossed_rows.ensures) (c.as_slice-3.ensures.value ∙ c.in_ok-crossing_labels.ensures)

pub counts-requires : goal.counts-requires
counts-requires c = omega (arith, ap length c.as_slice-4.ensures.value, ap length c.in_ok-met_names.ensures, length-map-range_with_len (is_among c.as_slice-3.result.now) 0 c.args.rows)

pub index-many-requires : goal.index-many-requires
index-many-requires c =
    let k = gathered c.in_ok-crossing_labels.ensures c.as_slice.ensures.value c.as_slice-2.ensures.value in
    let m = marked_by c.args.rows c.in_ok-met_names.ensures c.as_slice-3.ensures.value in
    let n = counted_by c.in_ok-numbers.ensures c.as_slice-4.ensures.value in
    let long : length c.in_ok-numbers.numbers.items ≡ c.args.rows + 1 =
    counts_long c.args.rows c.args.cols c.args.cross.now c.requires.within c.in_ok-labels.labels.items c.in_ok-labels.ensures c.in_ok-crossed_rows.crossed_rows.items c.in_ok-crossing_labels.crossing_labels.items c.in_ok-crossed_rows.ensures k
    c.in_ok-met_names.met_names.items m c.in_ok-numbers.numbers.items n in
    omega (arith, long, c.in_ok-numbers.numbers.ok)

pub marks-requires-2 : goal.marks-requires-2
marks-requires-2 c = rows_below c.args.rows c.args.cols c.args.cross.now c.requires.within _ _ (c.as_slice-5.ensures.value ∙ c.in_ok-crossed_rows.ensures) (omega arith)

pub marks-requires-3 : goal.marks-requires-3
marks-requires-3 c = columns_below c.args.rows c.args.cols c.args.cross.now c.requires.within _ (c.as_slice-6.ensures.value ∙ c.in_ok-crossed_columns.ensures)

pub line_keys-requires-clause-labels : goal.line_keys-requires-clause-labels
line_keys-requires-clause-labels c = omega (
  arith,
  ap length c.as_slice-8.ensures.value,
  ap length c.in_ok-met_rows.ensures,
  length-map-range_with_len (is_among c.as_slice-5.result.now) 0 c.args.rows,
  labels_long c.args.rows c.args.cols c.args.cross.now c.requires.within c.as_slice-7.result.now (c.as_slice-7.ensures.value ∙ c.in_ok-labels.ensures),
)

pub line_keys-requires-clause-known : goal.line_keys-requires-clause-known
line_keys-requires-clause-known c =
    let k = gathered c.in_ok-crossing_labels.ensures (c.as_slice.ensures.value ∙ sym c.as_slice-7.ensures.value) c.as_slice-2.ensures.value in
    let m = marked_by c.args.rows c.in_ok-met_names.ensures c.as_slice-3.ensures.value in
    let n = counted_by c.in_ok-numbers.ensures c.as_slice-4.ensures.value in
    let met = marked_by c.args.rows c.in_ok-met_rows.ensures c.as_slice-5.ensures.value in
    λ i low t. row_known c.args.rows c.args.cols c.args.cross.now c.requires.within c.as_slice-7.result.now (c.as_slice-7.ensures.value ∙ c.in_ok-labels.ensures) c.in_ok-crossed_rows.crossed_rows.items c.in_ok-crossing_labels.crossing_labels.items
    c.in_ok-crossed_rows.ensures k c.in_ok-met_names.met_names.items m c.as_slice-9.result.now (c.as_slice-9.ensures.value ∙ n) (slice_index c.as_slice-9.result.now c.args.rows) refl c.as_slice-8.result.now
    (c.as_slice-8.ensures.value ∙ met) i low

pub line_keys-requires-2-clause-labels : goal.line_keys-requires-2-clause-labels
line_keys-requires-2-clause-labels c = omega (
  arith,
  ap length c.as_slice-11.ensures.value,
  ap length c.in_ok-met_columns.ensures,
  length-map-range_with_len (is_among c.as_slice-6.result.now) 0 c.args.cols,
  labels_long c.args.rows c.args.cols c.args.cross.now c.requires.within c.as_slice-10.result.now (c.as_slice-10.ensures.value ∙ c.in_ok-labels.ensures),
)

pub line_keys-requires-2-clause-known : goal.line_keys-requires-2-clause-known
line_keys-requires-2-clause-known c =
    let k = gathered c.in_ok-crossing_labels.ensures (c.as_slice.ensures.value ∙ sym c.as_slice-10.ensures.value) c.as_slice-2.ensures.value in
    let m = marked_by c.args.rows c.in_ok-met_names.ensures c.as_slice-3.ensures.value in
    let n = counted_by c.in_ok-numbers.ensures c.as_slice-4.ensures.value in
    let met = marked_by c.args.cols c.in_ok-met_columns.ensures c.as_slice-6.ensures.value in
    λ i low t. column_known c.args.rows c.args.cols c.args.cross.now c.requires.within c.as_slice-10.result.now (c.as_slice-10.ensures.value ∙ c.in_ok-labels.ensures) c.in_ok-crossed_rows.crossed_rows.items c.in_ok-crossing_labels.crossing_labels.items
    c.in_ok-crossed_rows.ensures k c.in_ok-met_names.met_names.items m c.as_slice-12.result.now (c.as_slice-12.ensures.value ∙ n) (slice_index c.as_slice-12.result.now c.args.rows) refl c.in_ok-crossed_columns.field-0.items
    c.in_ok-crossed_columns.ensures c.as_slice-11.result.now (c.as_slice-11.ensures.value ∙ met) i low t

pub gather-requires-2 : goal.gather-requires-2
gather-requires-2 c =
    rows_below c.args.rows c.args.cols c.args.cross.now c.requires.within _ _ (c.as_slice-14.ensures.value ∙ c.in_ok-crossed_rows.ensures)
    (omega (
      arith,
      ap length c.as_slice-13.ensures.value,
      ap length c.in_ok-of_rows.ensures,
      length-map-range_with_len (line_key c.as_slice-7.result.now 0 c.as_slice-8.result.now c.as_slice-9.result.now c.index-many.result.now) 0 (length c.as_slice-8.result.now),
      ap length c.as_slice-8.ensures.value,
      ap length c.in_ok-met_rows.ensures,
      length-map-range_with_len (is_among c.as_slice-5.result.now) 0 c.args.rows,
    ))

pub marked-requires : goal.marked-requires
marked-requires c = omega (arith, ap length c.as_slice-15.ensures.value, ap length c.in_ok-met_names.ensures, length-map-range_with_len (is_among c.as_slice-3.result.now) 0 c.args.rows)

pub returns : goal.returns
returns c =
    let labelled = c.as_slice-7.ensures.value ∙ c.in_ok-labels.ensures in
    let k = gathered c.in_ok-crossing_labels.ensures (c.as_slice.ensures.value ∙ sym c.as_slice-7.ensures.value) c.as_slice-2.ensures.value in
    let m = marked_by c.args.rows c.in_ok-met_names.ensures c.as_slice-3.ensures.value in
    let n = counted_by c.in_ok-numbers.ensures c.as_slice-4.ensures.value in
    let met_rows = marked_by c.args.rows c.in_ok-met_rows.ensures c.as_slice-5.ensures.value in
    let met_columns = marked_by c.args.cols c.in_ok-met_columns.ensures c.as_slice-6.ensures.value in
    let long : length c.in_ok-numbers.numbers.items ≡ c.args.rows + 1 =
    counts_long c.args.rows c.args.cols c.args.cross.now c.requires.within c.as_slice-7.result.now labelled c.in_ok-crossed_rows.crossed_rows.items c.in_ok-crossing_labels.crossing_labels.items c.in_ok-crossed_rows.ensures k
    c.in_ok-met_names.met_names.items m c.in_ok-numbers.numbers.items n in
    let last : c.index-many.result.now ≡ slice_index c.in_ok-numbers.numbers.items c.args.rows = get_or_read c.in_ok-numbers.numbers.items c.args.rows c.index-many.result.now (omega (arith, long)) c.index-many.ensures 0 in
    let of_rows : c.in_ok-of_rows.of_rows.items ≡ row_keys c.args.rows c.args.cross.now =
    c.in_ok-of_rows.ensures
    ∙ row_keys_are c.args.rows c.args.cols c.args.cross.now c.requires.within c.as_slice-7.result.now labelled c.in_ok-crossed_rows.crossed_rows.items c.in_ok-crossing_labels.crossing_labels.items c.in_ok-crossed_rows.ensures k
    c.in_ok-met_names.met_names.items m c.as_slice-9.result.now (c.as_slice-9.ensures.value ∙ n) c.index-many.result.now (last ∙ ap (λ (xs : List ℕ). slice_index xs c.args.rows) (sym c.as_slice-9.ensures.value)) c.as_slice-8.result.now
    (c.as_slice-8.ensures.value ∙ met_rows) in
    record {
      of_rows = of_rows;
      of_columns =
          c.in_ok-columns.ensures
          ∙ column_keys_are c.args.rows c.args.cols c.args.cross.now c.requires.within c.as_slice-10.result.now (c.as_slice-10.ensures.value ∙ c.in_ok-labels.ensures) c.in_ok-crossed_rows.crossed_rows.items c.in_ok-crossing_labels.crossing_labels.items
          c.in_ok-crossed_rows.ensures (gathered c.in_ok-crossing_labels.ensures (c.as_slice.ensures.value ∙ sym c.as_slice-10.ensures.value) c.as_slice-2.ensures.value) c.in_ok-met_names.met_names.items m c.as_slice-12.result.now
          (c.as_slice-12.ensures.value ∙ n) c.index-many.result.now (last ∙ ap (λ (xs : List ℕ). slice_index xs c.args.rows) (sym c.as_slice-12.ensures.value)) c.in_ok-crossed_columns.field-0.items c.in_ok-crossed_columns.ensures
          c.as_slice-11.result.now (c.as_slice-11.ensures.value ∙ met_columns);
      of_crossings =
          c.in_ok-crossings.ensures
          ∙ ap (map (slice_index c.as_slice-13.result.now)) c.as_slice-14.ensures.value
          ∙ crossing_keys_are c.args.rows c.args.cols c.args.cross.now c.requires.within c.in_ok-crossed_rows.crossed_rows.items c.as_slice-13.result.now c.in_ok-crossed_rows.ensures (c.as_slice-13.ensures.value ∙ of_rows);
      of_names =
          c.in_ok-names.ensures
          ∙ names_marked c.args.rows c.args.cols c.args.cross.now c.requires.within c.as_slice-7.result.now labelled c.in_ok-crossed_rows.crossed_rows.items c.in_ok-crossing_labels.crossing_labels.items
          c.in_ok-crossed_rows.ensures k c.as_slice-15.result.now (c.as_slice-15.ensures.value ∙ m) c.in_ok-numbers.numbers.items (counted_by n (sym c.as_slice-15.ensures.value));
    }
