-- The ties of a command as tables, and the names of wires and components in the code.
use Rattle.std.specs.Prelude.{ℕ, ◌<◌, ◌^◌, Bool, true, false, not, List, [], ◌∷◌, map, filter, length, get_or}
use Rattle.std.specs.List.{range_with_len}
use Rattle.basic_kinds.specs.declared.kind.Kind.TheVariants as kind
use Rattle.cmd_tree.specs.Lists.{is_in}
use Rattle.cmd_rename.specs.Symbols.{put_each}
use Rattle.net_core.specs.declared.spec.NodeSpec.{NodeSpec}
use Rattle.net_core.specs.declared.spec.NodeSpec.TheVariants.{Kind as Basic}
use Rattle.net_core.specs.Wiring.{Node}
use Rattle.plain_split.specs.SharedPaths.{place}
use Rattle.weave_split.specs.declared.paths.Wire.{Wire}
use Rattle.weave_split.specs.declared.paths.Wire.TheVariants as wire
use Rattle.weave_split.specs.declared.paths.Part.{Part}
use Rattle.weave_split.specs.declared.paths.Part.TheVariants as part
use Rattle.weave_split.specs.WeaveChart as web
use Rattle.weave_split.specs.WeaveChart.{Ties, head, last, ports, same_wire, spec_at}

-- the test as it is, or the other way round
abbrev pub agrees : Bool → Bool → Bool
agrees true b = b
agrees false b = not b

-- the numbers whose mark is the wanted one; past the marks it is false
abbrev pub chosen : List Bool → Bool → List ℕ → List ℕ
chosen marks wanted ns = filter (λ n. agrees wanted (get_or marks n false)) ns

-- the first number has the mark true
abbrev pub begins : List Bool → List ℕ → Bool
begins marks [] = false
begins marks (n ∷ ns) = get_or marks n false

-- of each symbol below `names` the rows that have it
abbrev pub having : List (List ℕ) → ℕ → List (List ℕ)
having rows names = map (λ a. filter (λ n. is_in a (get_or rows n [])) (range_with_len 0 (length rows))) (range_with_len 0 names)

-- A mark for each symbol and each process, and a row: of a process its symbols, of a symbol the processes that have it,
-- those of them that are no grants, and the grants; of a process its outputs, its inputs once each, and whether it
-- begins with an output.
pub record TieTables : Type 0 where
  pub outs : List Bool
  pub grants : List Bool
  pub symbols : List (List ℕ)
  pub takers : List (List ℕ)
  pub givers : List (List ℕ)
  pub owners : List (List ℕ)
  pub requests : List (List ℕ)
  pub returns : List (List ℕ)
  pub lends : List Bool

-- what the tables say; a number past their ends is tied to nothing
abbrev pub ties_by : TieTables → Ties
ties_by t = record {
  out = λ s. get_or t.outs s false;
  grants = λ p. get_or t.grants p false;
  symbols = λ p. get_or t.symbols p [];
  takers = λ s. get_or t.takers s [];
  givers = λ s. get_or t.givers s [];
  owner = λ s. head (get_or t.owners s []);
  requests = λ p. get_or t.requests p [];
  returns = λ p. get_or t.returns p [];
  lends = λ p. get_or t.lends p false;
  processes = length t.symbols;
  names = length t.outs;
}

-- the tables of processes whose places have these symbols
abbrev pub tables_of : List (List ℕ) → List Bool → List Bool → TieTables
tables_of rows outs grants = record {
  outs = outs;
  grants = grants;
  symbols = map (put_each []) rows;
  takers = having (map (put_each []) rows) (length outs);
  givers = map (chosen grants false) (having (map (put_each []) rows) (length outs));
  owners = map (chosen grants true) (having (map (put_each []) rows) (length outs));
  requests = map (chosen outs true) rows;
  returns = map (put_each []) (map (chosen outs false) rows);
  lends = map (begins outs) rows;
}

-- numbers of 32 bits count what the ties have
pub record IsReady (t : TieTables) : Type 0 where
  pub processes : length t.symbols < 2 ^ 32
  pub names : length t.outs < 2 ^ 32
  pub takers : (s : ℕ) → length ((ties_by t).takers s) < 2 ^ 32
  pub givers : (s : ℕ) → length ((ties_by t).givers s) < 2 ^ 32
  pub requests : (p : ℕ) → length ((ties_by t).requests p) < 2 ^ 32
  pub returns : (p : ℕ) → length ((ties_by t).returns p) < 2 ^ 32

-- the wire and the component of a name in the code
abbrev pub wire_of : Wire → web.Wire
wire_of (wire.Take s) = web.Take s
wire_of (wire.Copy s p) = web.Copy s p
wire_of (wire.Back s p) = web.Back s p
wire_of (wire.Made s p) = web.Made s p
wire_of (wire.Ask s) = web.Ask s
wire_of (wire.Return p) = web.Return p
wire_of (wire.Token p) = web.Token p
wire_of (wire.Give s) = web.Give s

abbrev pub name_of : Part → web.Name
name_of (part.Process p) = web.Process p
name_of (part.Spread s) = web.Spread s
name_of (part.Join s) = web.Join s
name_of (part.Returns p) = web.Returns p
name_of (part.Gate p) = web.Gate p
name_of (part.Sequencer p) = web.Sequencer p

-- the number of a wire in the network
abbrev pub number_by : Ties → List web.Wire → web.Wire → ℕ
number_by g ws w = place same_wire ws (last g w)

-- the specification of a process, where these are those of all
abbrev pub spec_of : List NodeSpec → ℕ → NodeSpec
spec_of specs p = get_or specs p (Basic kind.Wire)

-- a component, or the environment with the specification s
abbrev pub node_by : NodeSpec → List NodeSpec → Ties → List web.Wire → web.Name → Node
node_by s specs g ws n = record { spec = spec_at s (spec_of specs) g n; ends = map (number_by g ws) (ports g n) }

-- a component by its name in the code; it is never the environment
abbrev pub part_by : List NodeSpec → Ties → List web.Wire → Part → Node
part_by specs g ws n = node_by (Basic kind.Wire) specs g ws (name_of n)
