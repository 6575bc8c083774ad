use Rattle.std.proofs.Common.{◌≡◌, ℕ, ◌<◌, List, [], length, map, filter, get_or, nat_eq, None, sym, ap, subst, ◌∙◌, arith}
use Rattle.std.specs.List.{range_with_len, position_or_len, AllByRecursion}
use Rattle.std.proofs.lemmas.List.{length-map}
use Rattle.cmd_tree.specs.Lists.{is_in}
use Rattle.place_graph.specs.declared.wait_graph.Act.{Act}
use Rattle.place_graph.specs.declared.wait_graph.Cross.{Cross as Crossing}
use Rattle.place_graph.specs.GraphTraces.{numbers_of}
use Rattle.net_laws.proofs.Among.{Distinct}
use Rattle.shape_parts.specs.declared.cut.ShapePart.{ShapePart}
use Rattle.shape_parts.specs.Cut.{parts_of}
use Rattle.token_split.specs.TokenChart.{listed}
use Rattle.token_split.specs.Mirror.TokenTables.{crossing_at}
use Rattle.token_split.proofs.TokenRows.{rows_all, parts_places}
use Rattle.token_split.proofs.links.LinkTables.new.Goals as goal

pub meets-requires : goal.meets-requires
meets-requires c =
    subst (AllByRecursion (λ (p : ShapePart). AllByRecursion (λ n. n < length c.as_slice-crosses.result.now) p.places)) (sym (c.as_slice-3.ensures.value ∙ c.in_ok-parts.ensures))
    (parts_places c.args.graph.now.waits c.len.result c.as_slice-2.result.now (length c.as_slice-crosses.result.now)
    (omega (arith, ap length (c.as_slice-2.ensures.value ∙ c.in_ok-pairs.ensures), length-map {B = ℕ × ℕ} c.as_slice-crosses.result.now (λ (c : Crossing). (c.wait, c.burst)))))

pub homes-requires-clause-known : goal.homes-requires-clause-known
homes-requires-clause-known c =
    rows_all (AllByRecursion (λ a. a < c.args.names)) (λ v. v.items) numbers_of c.as_slice-4.result.now c.args.graph.now.bursts (ap (map (λ v. v.items)) c.as_slice-4.ensures.value ∙ c.in_ok-symbols.ensures ∙ ap (map numbers_of) c.as_slice.ensures)
    c.requires.bursts_known

pub givers-requires-clause-known : goal.givers-requires-clause-known
givers-requires-clause-known c =
    rows_all (AllByRecursion (λ a. a < c.args.names)) (λ v. v.items) (λ (y : Act). numbers_of y.outs) c.as_slice-5.result.now c.args.graph.now.acts
    (ap (map (λ v. v.items)) c.as_slice-5.ensures.value ∙ c.in_ok-outs.ensures ∙ ap (map (λ (y : Act). numbers_of y.outs)) c.as_slice-acts.ensures) c.requires.outs_known

pub givers-requires-clause-once : goal.givers-requires-clause-once
givers-requires-clause-once c =
    rows_all Distinct (λ v. v.items) (λ (y : Act). numbers_of y.outs) c.as_slice-5.result.now c.args.graph.now.acts
    (ap (map (λ v. v.items)) c.as_slice-5.ensures.value ∙ c.in_ok-outs.ensures ∙ ap (map (λ (y : Act). numbers_of y.outs)) c.as_slice-acts.ensures) c.requires.outs_once

pub givers-requires-clause-few : goal.givers-requires-clause-few
givers-requires-clause-few c = omega (
  arith,
  c.requires.few_acts,
  ap length (ap (map (λ v. v.items)) c.as_slice-5.ensures.value ∙ c.in_ok-outs.ensures ∙ ap (map (λ (y : Act). numbers_of y.outs)) c.as_slice-acts.ensures),
  length-map c.as_slice-5.result.now (λ v. v.items),
  length-map c.args.graph.now.acts (λ (y : Act). numbers_of y.outs),
)

pub returns : goal.returns
returns c =
    let graph = c.args.graph.now in
    let symbols = c.in_ok-symbols.ensures ∙ ap (map numbers_of) c.as_slice.ensures in
    let outs = c.in_ok-outs.ensures ∙ ap (map (λ (y : Act). numbers_of y.outs)) c.as_slice-acts.ensures in
    let rows = ap (map (λ v. v.items)) c.as_slice-4.ensures.value ∙ symbols in
    let puts = ap (map (λ v. v.items)) c.as_slice-5.ensures.value ∙ outs in
    let puts_long : length c.as_slice-5.result.now ≡ length graph.acts = omega (arith, ap length puts, length-map c.as_slice-5.result.now (λ v. v.items), length-map graph.acts (λ (y : Act). numbers_of y.outs)) in
    let bursts : c.len.result ≡ length graph.bursts = omega (arith, c.len.ensures, c.in_ok-symbols.symbols.ok, ap length symbols, length-map c.in_ok-symbols.symbols.items (λ v. v.items), length-map graph.bursts numbers_of) in
    let pairs = c.as_slice-2.ensures.value ∙ c.in_ok-pairs.ensures ∙ ap (map (λ (c : Crossing). (c.wait, c.burst))) c.as_slice-crosses.ensures in
    let crosses = c.as_slice-crosses.ensures in
    let acts = c.as_slice-acts.ensures in
    let homes = c.in_ok-homes.ensures ∙ ap (λ (rs : List (List ℕ)). map (λ a. position_or_len (is_in a) rs) (range_with_len 0 c.args.names)) rows in
    let entries = c.in_ok-entries.ensures ∙ (λ i. map (λ n. filter (λ (c : Crossing). nat_eq c.act n) (crosses i)) (range_with_len 0 (length (acts i)))) in
    let exits = c.in_ok-exits.ensures ∙ ap (map (λ (y : Act). listed y.exit)) acts in
    let returns = c.in_ok-returns.ensures ∙ ap (λ (ys : List Act). map (λ w. filter (λ n. is_in w (listed (get_or (map (λ (y : Act). y.exit) ys) n None))) (range_with_len 0 (length ys))) (range_with_len 0 graph.waits)) acts in
    let givers = c.in_ok-givers.ensures ∙ (λ i. map (λ a. filter (λ n. is_in a (get_or (puts i) n [])) (range_with_len 0 (puts_long i))) (range_with_len 0 c.args.names)) in
    let parts = c.in_ok-parts.ensures ∙ (λ i. parts_of graph.waits (bursts i) (pairs i)) in
    let meets = c.in_ok-meets.ensures ∙ (λ i. map (λ (p : ShapePart). map (crossing_at (crosses i)) p.places) ((c.as_slice-3.ensures.value ∙ parts) i)) in
    λ i. record { symbols = symbols i; homes = homes i; entries = entries i; outs = outs i; exits = exits i; returns = returns i; givers = givers i; parts = parts i; meets = meets i; start = graph.start }
