-- The network of a process by a token, by names. The token stands at the wait where the process is: as the row of the
-- wait it meets the burst that comes, the crossing of both calls the act that follows, and the act hands the token on to
-- the wait that it leads to.
use Rattle.std.specs.Prelude.{ℕ, ◌+◌, Bool, true, false, nat_eq, if◌then◌else◌, List, [], ◌∷◌, ◌++◌, map, filter, length, get_or, Option, Some, None}
use Rattle.std.specs.List.{range_with_len, position_or_len}
use native.Mathlib.Decide.{ℕ_discrete}
use Rattle.basic_kinds.specs.declared.kind.Kind.{Kind}
use Rattle.basic_kinds.specs.declared.kind.Kind.TheVariants as kind
use Rattle.basic_kinds.specs.ShapeParts.{label, part_names, part_rows, part_columns, local_part}
use Rattle.net_core.specs.declared.spec.NodeSpec.{NodeSpec}
use Rattle.net_core.specs.declared.spec.NodeSpec.TheVariants.{Kind as Basic}
use Rattle.cmd_tree.specs.Lists.{is_in}
use Rattle.place_graph.specs.declared.wait_graph.WaitGraph.{WaitGraph}
use Rattle.place_graph.specs.declared.wait_graph.Cross.{Cross as Crossing}
use Rattle.place_graph.specs.declared.wait_graph.Start.{Start}
use Rattle.place_graph.specs.declared.wait_graph.Start.TheVariants as start
use Rattle.place_graph.specs.Graph.{has_sym}
use Rattle.place_graph.specs.GraphTraces.{numbers_of}
use Rattle.place_graph.specs.Sums.{pairs}
use Rattle.net_laws.specs.Charts.{Chart}
use Rattle.net_laws.proofs.Webs.{test}
use Rattle.plain_split.specs.SharedPaths.{walk, place, joined}
use Rattle.plain_split.specs.OneWait.{many, first, is_some, is_begin, outs_at}
use Rattle.token_split.specs.PartKind.{part_kind}

pub data Wire : Type 0 where
  -- a symbol that is taken, from the environment to the C of its burst
  Take : ℕ → Wire
  -- a burst, from its C to the part of the crossings that it is in
  Burst : ℕ → Wire
  -- the return to a wait, from the MERGE of the acts that lead there to its gate, and what the gate lets through: the
  -- row of the wait
  Return : ℕ → Wire
  Row : ℕ → Wire
  -- a crossing of a wait and a burst, to the act that follows
  Cross : ℕ → ℕ → ℕ → Wire
  -- the call of an act, from the MERGE of its crossings to its gate, and what the gate lets through to its FORK
  Call : ℕ → Wire
  Begin : ℕ → Wire
  -- an output of an act, from its FORK to the MERGE of this symbol
  Put : ℕ → ℕ → Wire
  -- the exit of an act, from its FORK to the MERGE of the wait
  Exit : ℕ → ℕ → Wire
  -- a symbol that is given, from its MERGE to the environment
  Give : ℕ → Wire
  deriving Discrete as wire_discrete

pub data Name : Type 0 where
  Env : Name
  Join : ℕ → Name
  -- a part of the crossings
  Meet : ℕ → Name
  -- the MERGE, the gate and the FORK of an act
  Calls : ℕ → Name
  Gate : ℕ → Name
  Spread : ℕ → Name
  -- the MERGE and the gate of a wait
  Returns : ℕ → Name
  Entry : ℕ → Name
  Shows : ℕ → Name
  deriving Discrete as name_discrete

-- The graph of a process as its network has it.
pub record Links : Type 0 where
  -- the burst of a symbol, and the symbols of a burst
  pub home : ℕ → ℕ
  pub symbols : ℕ → List ℕ
  -- of an act the crossings that call it, whether the process begins there, its outputs, and the wait that it leads to
  pub entries : ℕ → List Crossing
  pub begins : ℕ → Bool
  pub outs : ℕ → List ℕ
  pub exits : ℕ → List ℕ
  -- of a wait the acts that lead there, and whether the process begins there
  pub returns : ℕ → List ℕ
  pub opens : ℕ → Bool
  -- the acts that give a symbol
  pub givers : ℕ → List ℕ
  -- the connected parts of the crossings in order, the part that a wait is in, and a burst
  pub parts : List ℕ
  pub row_part : ℕ → ℕ
  pub column_part : ℕ → ℕ
  -- of a part the waits, the bursts and the crossings
  pub rows : ℕ → List ℕ
  pub columns : ℕ → List ℕ
  pub meets : ℕ → List Crossing
  -- how many bursts, acts, waits and symbols there are
  pub bursts : ℕ
  pub acts : ℕ
  pub waits : ℕ
  pub names : ℕ

abbrev pub same_wire : Wire → Wire → Bool
same_wire = test (wire_discrete ℕ_discrete)

abbrev pub driver : Links → Wire → Name
driver g (Take a) = Env
driver g (Burst b) = Join b
driver g (Return w) = Returns w
driver g (Row w) = Entry w
driver g (Cross w b n) = Meet (g.row_part w)
driver g (Call n) = Calls n
driver g (Begin n) = Gate n
driver g (Put n a) = Spread n
driver g (Exit n w) = Spread n
driver g (Give a) = Shows a

abbrev pub receiver : Links → Wire → Name
receiver g (Take a) = Join (g.home a)
receiver g (Burst b) = Meet (g.column_part b)
receiver g (Return w) = Entry w
receiver g (Row w) = Meet (g.row_part w)
receiver g (Cross w b n) = Calls n
receiver g (Call n) = Gate n
receiver g (Begin n) = Spread n
receiver g (Put n a) = Shows a
receiver g (Exit n w) = Returns w
receiver g (Give a) = Env

-- ---- what is left out

-- the component is none of width 1, which is left out
abbrev pub is_kept : Links → Name → Bool
is_kept g Env = true
is_kept g (Join b) = many (g.symbols b)
is_kept g (Meet i) = true
is_kept g (Calls n) = many (map (λ c. c.burst) (g.entries n))
is_kept g (Gate n) = g.begins n
is_kept g (Spread n) = many (g.outs n ++ g.exits n)
is_kept g (Returns w) = many (g.returns w)
is_kept g (Entry w) = g.opens w
is_kept g (Shows a) = many (g.givers a)

-- the wire that leads on from a component of width 1
abbrev pub next : Links → Wire → Wire
next g (Take a) = Burst (g.home a)
next g (Burst b) = Burst b
next g (Return w) = Row w
next g (Row w) = Row w
next g (Cross w b n) = Call n
next g (Call n) = Begin n
next g (Begin n) = Put n (first (g.outs n))
next g (Put n a) = Give a
next g (Exit n w) = Return w
next g (Give a) = Give a

-- how many wires may follow on a path
abbrev pub rest : Wire → ℕ
rest (Take a) = 1
rest (Burst b) = 0
rest (Return w) = 1
rest (Row w) = 0
rest (Cross w b n) = 4
rest (Call n) = 3
rest (Begin n) = 2
rest (Put n a) = 1
rest (Exit n w) = 2
rest (Give a) = 0

-- the last wire of the path that a wire is on
abbrev pub last : Links → Wire → Wire
last g w = walk (λ v. is_kept g (receiver g v)) (next g) (rest w) w

-- ---- the network

abbrev pub cross_wire : Crossing → Wire
cross_wire c = Cross c.wait c.burst c.act

-- the wire where something leads there, else none
abbrev pub one_wire : {A : Type 0} → List A → Wire → List Wire
one_wire [] w = []
one_wire (x ∷ xs) w = w ∷ []

abbrev pub inputs : Links → Name → List Wire
inputs g Env = []
inputs g (Join b) = map Take (g.symbols b)
inputs g (Meet i) = map Row (g.rows i) ++ map Burst (g.columns i)
inputs g (Calls n) = map cross_wire (g.entries n)
inputs g (Gate n) = one_wire (g.entries n) (Call n)
inputs g (Spread n) = Begin n ∷ []
inputs g (Returns w) = map (λ n. Exit n w) (g.returns w)
inputs g (Entry w) = one_wire (g.returns w) (Return w)
inputs g (Shows a) = map (λ n. Put n a) (g.givers a)

abbrev pub outputs : Links → Name → List Wire
outputs g Env = []
outputs g (Join b) = Burst b ∷ []
outputs g (Meet i) = map cross_wire (g.meets i)
outputs g (Calls n) = Call n ∷ []
outputs g (Gate n) = Begin n ∷ []
outputs g (Spread n) = map (Put n) (g.outs n) ++ map (Exit n) (g.exits n)
outputs g (Returns w) = Return w ∷ []
outputs g (Entry w) = Row w ∷ []
outputs g (Shows a) = Give a ∷ []

-- some act gives the symbol
abbrev pub is_given : Links → ℕ → Bool
is_given g a = is_some (g.givers a)

abbrev pub port : Links → ℕ → Wire
port g a = if is_given g a then Give a else Take a

abbrev pub ports : Links → Name → List Wire
ports g Env = map (port g) (range_with_len 0 g.names)
ports g (Join b) = inputs g (Join b) ++ outputs g (Join b)
ports g (Meet i) = inputs g (Meet i) ++ outputs g (Meet i)
ports g (Calls n) = inputs g (Calls n) ++ outputs g (Calls n)
ports g (Gate n) = inputs g (Gate n) ++ outputs g (Gate n)
ports g (Spread n) = inputs g (Spread n) ++ outputs g (Spread n)
ports g (Returns w) = inputs g (Returns w) ++ outputs g (Returns w)
ports g (Entry w) = inputs g (Entry w) ++ outputs g (Entry w)
ports g (Shows a) = inputs g (Shows a) ++ outputs g (Shows a)

-- where the process begins: an IWIRE, or a SOURCE where nothing leads there
abbrev pub gate_kind : {A : Type 0} → List A → Kind
gate_kind [] = kind.Source
gate_kind (x ∷ xs) = kind.Iwire

abbrev pub pair : Crossing → ℕ × ℕ
pair c = (c.wait, c.burst)

abbrev pub spec_at : NodeSpec → Links → Name → NodeSpec
spec_at s g Env = s
spec_at s g (Join b) = Basic (kind.C (length (g.symbols b)))
spec_at s g (Meet i) = Basic (part_kind (length (g.rows i)) (length (g.columns i)) (local_part (map pair (g.meets i))))
spec_at s g (Calls n) = Basic (kind.Merge (length (g.entries n)))
spec_at s g (Gate n) = Basic (gate_kind (g.entries n))
spec_at s g (Spread n) = Basic (kind.Fork (length (g.outs n ++ g.exits n)))
spec_at s g (Returns w) = Basic (kind.Merge (length (g.returns w)))
spec_at s g (Entry w) = Basic (gate_kind (g.returns w))
spec_at s g (Shows a) = Basic (kind.Merge (length (g.givers a)))

-- the C of each burst, then the parts of the crossings, then of each act its MERGE, its gate and its FORK, then of each
-- wait its MERGE and its gate, then the MERGE of each symbol
abbrev pub all_names : Links → List Name
all_names g =
    map Join (range_with_len 0 g.bursts)
    ++ (map Meet g.parts
    ++ (joined (λ n. Calls n ∷ Gate n ∷ Spread n ∷ []) (range_with_len 0 g.acts)
    ++ (joined (λ w. Returns w ∷ Entry w ∷ []) (range_with_len 0 g.waits) ++ map Shows (range_with_len 0 g.names))))

abbrev pub components : Links → List Name
components g = filter (is_kept g) (all_names g)

-- the wires by the inputs that they lead to: of the environment, then of each component
abbrev pub lines : Links → List Wire
lines g = map Give (filter (is_given g) (range_with_len 0 g.names)) ++ joined (inputs g) (components g)

abbrev pub token_chart : NodeSpec → Links → Chart Name Wire
token_chart s g = record {
  env = Env;
  parts = components g;
  spec = spec_at s g;
  ports = ports g;
  number = λ w. place same_wire (lines g) (last g w);
  many = length (lines g);
}

-- ---- from a graph

abbrev pub listed : Option ℕ → List ℕ
listed None = []
listed (Some w) = w ∷ []

abbrev pub exits_at : WaitGraph → ℕ → List ℕ
exits_at g n = listed (get_or (map (λ y. y.exit) g.acts) n None)

abbrev pub is_open : ℕ → Start → Bool
is_open w (start.Wait v) = nat_eq w v
is_open w (start.Act n) = false

-- the part of a line: rows are the waits, and behind them columns are the bursts
abbrev pub part_of : WaitGraph → ℕ → ℕ
part_of g v = label g.waits (pairs g) v

abbrev pub meets_in : WaitGraph → ℕ → List Crossing
meets_in g i = filter (λ c. nat_eq (part_of g c.wait) i) g.crosses

-- the links of a graph, for a command of so many symbols
abbrev pub links : WaitGraph → ℕ → Links
links g names = record {
  home = λ a. position_or_len (has_sym (record { 0 = a })) g.bursts;
  symbols = λ b. numbers_of (get_or g.bursts b []);
  entries = λ n. filter (λ c. nat_eq c.act n) g.crosses;
  begins = λ n. is_begin n g.start;
  outs = outs_at g;
  exits = exits_at g;
  returns = λ w. filter (λ n. is_in w (exits_at g n)) (range_with_len 0 (length g.acts));
  opens = λ w. is_open w g.start;
  givers = λ a. filter (λ n. is_in a (outs_at g n)) (range_with_len 0 (length g.acts));
  parts = part_names g.waits (pairs g);
  row_part = part_of g;
  column_part = λ b. part_of g (g.waits + b);
  rows = λ i. part_rows g.waits (map pair (meets_in g i));
  columns = λ i. part_columns (length g.bursts) (map pair (meets_in g i));
  meets = meets_in g;
  bursts = length g.bursts;
  acts = length g.acts;
  waits = g.waits;
  names = names;
}
