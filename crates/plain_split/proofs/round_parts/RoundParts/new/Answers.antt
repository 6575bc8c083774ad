use Rattle.std.proofs.Common.{◌≡◌, [], ℕ, map, length, replicate, refl, sym, ap, ◌∙◌}
use Rattle.std.proofs.lemmas.List.FromFn.{length-map-range_with_len}
use Rattle.cmd_tree.specs.Limits.{marks_of_all}
use Rattle.place_graph.specs.GraphTraces.{numbers_of}
use Rattle.net_core.specs.declared.spec.NodeSpec.TheVariants.{Cmd}
use Rattle.net_core.specs.Specs.{outs_of, gives_symbol}
use Rattle.plain_split.specs.RoundsParts.{first_burst}
use Rattle.plain_split.specs.Mirror.RoundsGives.{with_acts}
use Rattle.plain_split.proofs.RoundsTabled.{rows_known, rows_few, tabled}
use Rattle.plain_split.proofs.round_parts.RoundParts.new.Goals as goal

pub all_gives-requires-clause-known : goal.all_gives-requires-clause-known
all_gives-requires-clause-known c =
    let (e, h) = c.requires in
    let names : c.len-names.result ≡ length (outs_of (Cmd c.args.spec)) =
    c.len-names.ensures.len ∙ sym (length-map-range_with_len (gives_symbol (marks_of_all c.args.spec.procs)) 0 (length c.args.spec.names)) in
    let rows = ap (map (λ v. v.items)) c.as_slice-3.ensures.value ∙ c.in_ok-outs.ensures ∙ ap (map (λ y. numbers_of y.outs)) c.as_slice.ensures in
    rows_known (Cmd c.args.spec) c.args.graph.now e h (λ v. v.items) c.as_slice-3.result.now rows c.len-names.result names

pub all_gives-requires-clause-few_outs : goal.all_gives-requires-clause-few_outs
all_gives-requires-clause-few_outs c =
    let (e, h) = c.requires in
    let rows = ap (map (λ v. v.items)) c.as_slice-3.ensures.value ∙ c.in_ok-outs.ensures ∙ ap (map (λ y. numbers_of y.outs)) c.as_slice.ensures in
    rows_few (Cmd c.args.spec) c.args.graph.now e h (λ v. v.items) c.as_slice-3.result.now rows

pub returns : goal.returns
returns c = λ d waits.
    let (e, h) = c.requires in
    let names : c.len-names.result ≡ length (outs_of (Cmd c.args.spec)) =
    c.len-names.ensures.len ∙ sym (length-map-range_with_len (gives_symbol (marks_of_all c.args.spec.procs)) 0 (length c.args.spec.names)) in
    let gives = c.in_ok-all_gives.ensures ∙ ap (λ vs. with_acts 0 (map (λ v. v.items) vs) (replicate c.len-names.result [])) c.as_slice-3.ensures.value
    ∙ ap (λ (n : ℕ). with_acts 0 (map (λ v. v.items) c.in_ok-outs.outs.items) (replicate n [])) names in
    let same : d ≡ e = sym (c.halvings.ensures d waits) ∙ c.halvings.ensures e h.waits in
    rw same (tabled (Cmd c.args.spec) c.args.graph.now e h
    (record { spec = Cmd c.args.spec; levels = c.halvings.result; opens = c.opens.result; burst = c.in_ok-burst.field-0; outs = c.in_ok-outs.outs; sides = c.in_ok-directions.field-0; gives = c.in_ok-all_gives.field-0 })
    refl c.halvings.ensures c.opens.ensures (c.in_ok-burst.ensures ∙ ap (λ bs. numbers_of (first_burst bs)) c.as_slice-2.ensures)
    (c.in_ok-outs.ensures ∙ ap (map (λ y. numbers_of y.outs)) c.as_slice.ensures) c.in_ok-directions.ensures gives)
