-- The links of a graph as tables.
use Rattle.std.specs.Prelude.{ℕ, ◌<◌, ◌^◌, List, [], length, map, get_or}
use Rattle.std.specs.List.{range_with_len}
use Rattle.place_graph.specs.declared.wait_graph.Start.{Start}
use Rattle.place_graph.specs.declared.wait_graph.WaitGraph.{WaitGraph}
use Rattle.place_graph.specs.GraphTraces.{numbers_of}
use Rattle.net_core.specs.declared.spec.NodeSpec.{NodeSpec}
use Rattle.net_core.specs.declared.spec.NodeSpec.TheVariants.{Kind as Basic}
use Rattle.basic_kinds.specs.declared.kind.Kind.TheVariants as kind
use Rattle.net_core.specs.Wiring.{Node}
use Rattle.plain_split.specs.declared.paths.Wire.{Wire}
use Rattle.plain_split.specs.declared.paths.Wire.TheVariants as wire
use Rattle.plain_split.specs.declared.paths.Part.{Part}
use Rattle.plain_split.specs.declared.paths.Part.TheVariants as part
use Rattle.plain_split.specs.SharedPaths.{place}
use Rattle.plain_split.specs.OneWait as web
use Rattle.plain_split.specs.OneWait.{Links, is_begin, links, last, same_wire, spec_at, ports}

-- A row for each burst: its symbols, and the acts that it leads to. A row for each act: the bursts that lead
-- to it, and its outputs. Of each symbol its burst, and a row of the acts that give it.
pub record LinkTables : Type 0 where
  pub symbols : List (List ℕ)
  pub leads : List (List ℕ)
  pub entries : List (List ℕ)
  pub outs : List (List ℕ)
  pub homes : List ℕ
  pub givers : List (List ℕ)
  pub start : Start

-- what the tables say; a number past their ends is linked to nothing
abbrev pub links_by : LinkTables → Links
links_by t = record {
  home = λ a. get_or t.homes a (length t.symbols);
  symbols = λ b. get_or t.symbols b [];
  leads = λ b. get_or t.leads b [];
  entries = λ n. get_or t.entries n [];
  begins = λ n. is_begin n t.start;
  outs = λ n. get_or t.outs n [];
  givers = λ a. get_or t.givers a [];
  bursts = length t.symbols;
  acts = length t.entries;
  names = length t.homes;
}

-- the tables of a graph, for a command of so many symbols
abbrev pub tables_of : WaitGraph → ℕ → LinkTables
tables_of g names = record {
  symbols = map numbers_of g.bursts;
  leads = map (links g names).leads (range_with_len 0 (length g.bursts));
  entries = map (links g names).entries (range_with_len 0 (length g.acts));
  outs = map (λ y. numbers_of y.outs) g.acts;
  homes = map (links g names).home (range_with_len 0 names);
  givers = map (links g names).givers (range_with_len 0 names);
  start = g.start;
}

-- numbers of 32 bits count what the links have
pub record IsSmall (g : Links) : Type 0 where
  pub bursts : g.bursts < 2 ^ 32
  pub acts : g.acts < 2 ^ 32
  pub names : g.names < 2 ^ 32
  pub symbols : (b : ℕ) → length (g.symbols b) < 2 ^ 32
  pub entries : (n : ℕ) → length (g.entries n) < 2 ^ 32
  pub outs : (n : ℕ) → length (g.outs n) < 2 ^ 32
  pub givers : (a : ℕ) → length (g.givers a) < 2 ^ 32

-- the wire and the component of a name in the code
abbrev pub wire_of : Wire → web.Wire
wire_of (wire.Take a) = web.Take a
wire_of (wire.Burst b n) = web.Burst b n
wire_of (wire.Call n) = web.Call n
wire_of (wire.Begin n) = web.Begin n
wire_of (wire.Put n a) = web.Put n a
wire_of (wire.Give a) = web.Give a

abbrev pub name_of : Part → web.Name
name_of (part.Join b) = web.Join b
name_of (part.Calls n) = web.Calls n
name_of (part.Gate n) = web.Gate n
name_of (part.Spread n) = web.Spread n
name_of (part.Shows a) = web.Shows a

-- the number of a wire in the network
abbrev pub number_by : Links → List web.Wire → web.Wire → ℕ
number_by g ws w = place same_wire ws (last g w)

-- a component, or the environment with the specification s
abbrev pub node_by : NodeSpec → Links → List web.Wire → web.Name → Node
node_by s g ws n = record { spec = spec_at s g n; ends = map (number_by g ws) (ports g n) }

-- a component by its name in the code; it is never the environment
abbrev pub part_by : Links → List web.Wire → Part → Node
part_by g ws n = node_by (Basic kind.Wire) g ws (name_of n)
