-- The links of a graph as tables.
use Rattle.std.specs.Prelude.{◌≡◌, ℕ, ◌+◌, ◌<◌, ◌≤◌, ◌^◌, true, nat_eq, IsTrue, List, [], length, map, filter, get_or, None}
use Rattle.std.specs.List.{range_with_len, position_or_len, list_all, AllByRecursion}
use Rattle.basic_kinds.specs.declared.kind.Kind.TheVariants as kind
use Rattle.basic_kinds.specs.Shapes.{is_within}
use Rattle.basic_kinds.specs.ShapeParts.{local_part}
use Rattle.cmd_tree.specs.Lists.{is_in}
use Rattle.place_graph.specs.declared.wait_graph.Start.{Start}
use Rattle.place_graph.specs.declared.wait_graph.Cross.{Cross as Crossing}
use Rattle.place_graph.specs.declared.wait_graph.WaitGraph.{WaitGraph}
use Rattle.place_graph.specs.GraphTraces.{numbers_of}
use Rattle.net_core.specs.declared.spec.NodeSpec.{NodeSpec}
use Rattle.net_core.specs.declared.spec.NodeSpec.TheVariants.{Kind as Basic}
use Rattle.net_core.specs.Wiring.{Node}
use Rattle.net_laws.proofs.Among.{Distinct}
use Rattle.plain_split.specs.SharedPaths.{place}
use Rattle.plain_split.specs.OneWait.{is_begin}
use Rattle.shape_parts.specs.declared.cut.ShapePart.{ShapePart}
use Rattle.shape_parts.specs.Cut.{parts_of}
use Rattle.token_split.specs.declared.paths.Wire.{Wire}
use Rattle.token_split.specs.declared.paths.Wire.TheVariants as wire
use Rattle.token_split.specs.declared.paths.Part.{Part}
use Rattle.token_split.specs.declared.paths.Part.TheVariants as part
use Rattle.token_split.specs.PartKind.{is_shape}
use Rattle.token_split.specs.TokenChart as web
use Rattle.token_split.specs.TokenChart.{Links, is_open, last, listed, pair, ports, same_wire, spec_at}

-- A row for each burst: its symbols. Of each symbol its burst. A row for each act: the crossings that call it, its
-- outputs, and the wait that it leads to. A row for each wait: the acts that lead there. A row for each symbol: the
-- acts that give it. The parts of the crossings, and a row for each: its crossings.
pub record LinkTables : Type 0 where
  pub symbols : List (List ℕ)
  pub homes : List ℕ
  pub entries : List (List Crossing)
  pub outs : List (List ℕ)
  pub exits : List (List ℕ)
  pub returns : List (List ℕ)
  pub givers : List (List ℕ)
  pub parts : List ShapePart
  pub meets : List (List Crossing)
  pub start : Start

abbrev pub no_part : ShapePart
no_part = record { name = 0; rows = []; columns = []; places = []; cross = [] }

abbrev pub part_in : LinkTables → ℕ → ShapePart
part_in t k = get_or t.parts k no_part

-- What the tables say; a number past their ends is linked to nothing. A part of the crossings is known by its place.
-- Which part a line is in is left out, since the number of no wire depends on it.
abbrev pub links_by : LinkTables → Links
links_by t = record {
  home = λ a. get_or t.homes a (length t.symbols);
  symbols = λ b. get_or t.symbols b [];
  entries = λ n. get_or t.entries n [];
  begins = λ n. is_begin n t.start;
  outs = λ n. get_or t.outs n [];
  exits = λ n. get_or t.exits n [];
  returns = λ w. get_or t.returns w [];
  opens = λ w. is_open w t.start;
  givers = λ a. get_or t.givers a [];
  parts = range_with_len 0 (length t.parts);
  row_part = λ v. 0;
  column_part = λ b. 0;
  rows = λ k. (part_in t k).rows;
  columns = λ k. (part_in t k).columns;
  meets = λ k. get_or t.meets k [];
  bursts = length t.symbols;
  acts = length t.outs;
  waits = length t.returns;
  names = length t.homes;
}

abbrev pub crossing_at : List Crossing → ℕ → Crossing
crossing_at crosses n = get_or crosses n (record { wait = 0; burst = 0; act = 0 })

abbrev pub graph_parts : WaitGraph → List ShapePart
graph_parts g = parts_of g.waits (length g.bursts) (map (λ c. (c.wait, c.burst)) g.crosses)

-- the tables of a graph, for a command of so many symbols
abbrev pub tables_of : WaitGraph → ℕ → LinkTables
tables_of g names = record {
  symbols = map numbers_of g.bursts;
  homes = map (λ a. position_or_len (is_in a) (map numbers_of g.bursts)) (range_with_len 0 names);
  entries = map (λ n. filter (λ c. nat_eq c.act n) g.crosses) (range_with_len 0 (length g.acts));
  outs = map (λ y. numbers_of y.outs) g.acts;
  exits = map (λ y. listed y.exit) g.acts;
  returns = map (λ w. filter (λ n. is_in w (listed (get_or (map (λ y. y.exit) g.acts) n None))) (range_with_len 0 (length g.acts))) (range_with_len 0 g.waits);
  givers = map (λ a. filter (λ n. is_in a (get_or (map (λ y. numbers_of y.outs) g.acts) n [])) (range_with_len 0 (length g.acts))) (range_with_len 0 names);
  parts = graph_parts g;
  meets = map (λ p. map (crossing_at g.crosses) p.places) (graph_parts g);
  start = g.start;
}

-- What the tables rely on: symbols and crossings lie in range, no act gives a symbol twice, and numbers of 32 bits count
-- what there is.
pub record IsTokenGraph (g : WaitGraph) (names : ℕ) : Type 0 where
  pub bursts_known : AllByRecursion (λ b. AllByRecursion (λ a. a < names) (numbers_of b)) g.bursts
  pub outs_known : AllByRecursion (λ y. AllByRecursion (λ a. a < names) (numbers_of y.outs)) g.acts
  pub outs_once : AllByRecursion (λ y. Distinct (numbers_of y.outs)) g.acts
  pub crossings_within : IsTrue (list_all (is_within g.waits (length g.bursts)) (map (λ c. (c.wait, c.burst)) g.crosses))
  pub few_lines : g.waits + length g.bursts + 1 < 2 ^ 32
  pub few_crossings : length g.crosses < 2 ^ 32
  pub few_acts : length g.acts < 2 ^ 32

-- Numbers of 32 bits count what the links have, and parts of two crossings and more are shapes.
pub record IsReady (t : LinkTables) : Type 0 where
  pub bursts : length t.symbols < 2 ^ 32
  pub parts : length t.parts < 2 ^ 32
  pub acts : length t.outs < 2 ^ 32
  pub waits : length t.returns < 2 ^ 32
  pub names : length t.homes < 2 ^ 32
  pub symbols : (b : ℕ) → length ((links_by t).symbols b) < 2 ^ 32
  pub entries : (n : ℕ) → length ((links_by t).entries n) < 2 ^ 32
  pub ends : (n : ℕ) → length ((links_by t).outs n) + length ((links_by t).exits n) < 2 ^ 32
  pub returns : (w : ℕ) → length ((links_by t).returns w) < 2 ^ 32
  pub givers : (a : ℕ) → length ((links_by t).givers a) < 2 ^ 32
  pub rows : (k : ℕ) → length ((links_by t).rows k) < 2 ^ 32
  pub columns : (k : ℕ) → length ((links_by t).columns k) < 2 ^ 32
  pub locals : (k : ℕ) → (part_in t k).cross ≡ local_part (map pair ((links_by t).meets k))
  pub shapes : (k : ℕ) → 2 ≤ length ((links_by t).meets k)
      → is_shape (length ((links_by t).rows k)) (length ((links_by t).columns k)) (local_part (map pair ((links_by t).meets k))) ≡ true

-- the wire and the component of a name in the code
abbrev pub wire_of : Wire → web.Wire
wire_of (wire.Take a) = web.Take a
wire_of (wire.Burst b) = web.Burst b
wire_of (wire.Return w) = web.Return w
wire_of (wire.Row w) = web.Row w
wire_of (wire.Cross w b n) = web.Cross w b n
wire_of (wire.Call n) = web.Call n
wire_of (wire.Begin n) = web.Begin n
wire_of (wire.Put n a) = web.Put n a
wire_of (wire.Exit n w) = web.Exit n w
wire_of (wire.Give a) = web.Give a

abbrev pub name_of : Part → web.Name
name_of (part.Join b) = web.Join b
name_of (part.Meet k) = web.Meet k
name_of (part.Calls n) = web.Calls n
name_of (part.Gate n) = web.Gate n
name_of (part.Spread n) = web.Spread n
name_of (part.Returns w) = web.Returns w
name_of (part.Entry w) = web.Entry w
name_of (part.Shows a) = web.Shows a

-- the number of a wire in the network
abbrev pub number_by : Links → List web.Wire → web.Wire → ℕ
number_by g ws w = place same_wire ws (last g w)

-- a component, or the environment with the specification s
abbrev pub node_by : NodeSpec → Links → List web.Wire → web.Name → Node
node_by s g ws n = record { spec = spec_at s g n; ends = map (number_by g ws) (ports g n) }

-- a component by its name in the code; it is never the environment
abbrev pub part_by : Links → List web.Wire → Part → Node
part_by g ws n = node_by (Basic kind.Wire) g ws (name_of n)
