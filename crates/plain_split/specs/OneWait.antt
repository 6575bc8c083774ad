-- The network of a process that takes all its bursts at one wait, by names. Each burst leads to one act,
-- and the acts need no word from the wait.
use Rattle.std.specs.Prelude.{ℕ, Bool, true, false, not, ◌&&◌, ◌||◌, if◌then◌else◌, List, [], ◌∷◌, ◌++◌, map, filter, length, get_or, nat_eq}
use Rattle.std.specs.List.{range_with_len, position_or_len}
use native.Mathlib.Decide.{ℕ_discrete}
use Rattle.basic_kinds.specs.declared.kind.Kind.{Kind}
use Rattle.basic_kinds.specs.declared.kind.Kind.TheVariants as kind
use Rattle.net_core.specs.declared.spec.NodeSpec.{NodeSpec}
use Rattle.net_core.specs.declared.spec.NodeSpec.TheVariants.{Kind as Basic}
use Rattle.cmd_tree.specs.Lists.{is_in}
use Rattle.place_graph.specs.declared.wait_graph.WaitGraph.{WaitGraph}
use Rattle.place_graph.specs.declared.wait_graph.Start.{Start}
use Rattle.place_graph.specs.declared.wait_graph.Start.TheVariants as start
use Rattle.place_graph.specs.Graph.{has_sym}
use Rattle.place_graph.specs.GraphTraces.{numbers_of}
use Rattle.net_laws.specs.Charts.{Chart}
use Rattle.net_laws.proofs.Webs.{test}
use Rattle.plain_split.specs.SharedPaths.{walk, place, joined}

pub data Wire : Type 0 where
  -- a symbol that is taken, from the environment to the C of its burst
  Take : ℕ → Wire
  -- a burst, from its C to an act
  Burst : ℕ → ℕ → Wire
  -- the call of an act, from the MERGE of its bursts to its gate, and what the gate lets through to its
  -- FORK
  Call : ℕ → Wire
  Begin : ℕ → Wire
  -- an output of an act, from its FORK to the MERGE of this symbol
  Put : ℕ → ℕ → Wire
  -- a symbol that is given, from its MERGE to the environment
  Give : ℕ → Wire
  deriving Discrete as wire_discrete

pub data Name : Type 0 where
  Env : Name
  Join : ℕ → Name
  Calls : ℕ → Name
  Gate : ℕ → Name
  Spread : ℕ → Name
  Shows : ℕ → Name
  deriving Discrete as name_discrete

-- The graph of a process with one wait, as its network has it: the burst of a symbol, the symbols of a
-- burst and the acts that it leads to; of an act the
-- bursts that lead to it, whether the process begins there, and its outputs; and the acts that give a
-- symbol.
pub record Links : Type 0 where
  pub home : ℕ → ℕ
  pub symbols : ℕ → List ℕ
  pub leads : ℕ → List ℕ
  pub entries : ℕ → List ℕ
  pub begins : ℕ → Bool
  pub outs : ℕ → List ℕ
  pub givers : ℕ → List ℕ
  -- how many bursts, acts and symbols there are
  pub bursts : ℕ
  pub acts : ℕ
  pub names : ℕ

abbrev pub same_wire : Wire → Wire → Bool
same_wire = test (wire_discrete ℕ_discrete)

abbrev pub driver : Wire → Name
driver (Take a) = Env
driver (Burst b n) = Join b
driver (Call n) = Calls n
driver (Begin n) = Gate n
driver (Put n a) = Spread n
driver (Give a) = Shows a

abbrev pub receiver : Links → Wire → Name
receiver g (Take a) = Join (g.home a)
receiver g (Burst b n) = Calls n
receiver g (Call n) = Gate n
receiver g (Begin n) = Spread n
receiver g (Put n a) = Shows a
receiver g (Give a) = Env

-- ---- what is left out

-- two or more
abbrev pub many : List ℕ → Bool
many [] = false
many (x ∷ []) = false
many (x ∷ y ∷ xs) = true

abbrev pub first : List ℕ → ℕ
first [] = 0
first (x ∷ xs) = x

-- one act gives the symbol, and all from the symbol that it waits for to this one would be left out
abbrev pub is_direct : Links → List ℕ → Bool
is_direct g [] = false
is_direct g (n ∷ []) = not (many (g.outs n)) && (not (g.begins n) && (not (many (g.entries n)) && not (many (g.symbols (first (g.entries n))))))
is_direct g (n ∷ m ∷ ns) = false

-- the component is none of width 1, which is left out; on a direct path a WIRE stands for all
abbrev pub is_kept : Links → Name → Bool
is_kept g Env = true
is_kept g (Join b) = many (g.symbols b)
is_kept g (Calls n) = many (g.entries n)
is_kept g (Gate n) = g.begins n
is_kept g (Spread n) = many (g.outs n)
is_kept g (Shows a) = many (g.givers a) || is_direct g (g.givers a)

-- the wire that leads on from a component of width 1
abbrev pub next : Links → Wire → Wire
next g (Take a) = Burst (g.home a) (first (g.leads (g.home a)))
next g (Burst b n) = Call n
next g (Call n) = Begin n
next g (Begin n) = Put n (first (g.outs n))
next g (Put n a) = Give a
next g (Give a) = Give a

-- how many wires may follow on a path
abbrev pub rest : Wire → ℕ
rest (Take a) = 5
rest (Burst b n) = 4
rest (Call n) = 3
rest (Begin n) = 2
rest (Put n a) = 1
rest (Give a) = 0

-- the last wire of the path that a wire is on
abbrev pub last : Links → Wire → Wire
last g w = walk (λ v. is_kept g (receiver g v)) (next g) (rest w) w

-- ---- the network

abbrev pub called : List ℕ → ℕ → List Wire
called [] n = []
called (b ∷ bs) n = Call n ∷ []

abbrev pub inputs : Links → Name → List Wire
inputs g Env = []
inputs g (Join b) = map Take (g.symbols b)
inputs g (Calls n) = map (λ b. Burst b n) (g.entries n)
inputs g (Gate n) = called (g.entries n) n
inputs g (Spread n) = Begin n ∷ []
inputs g (Shows a) = map (λ n. Put n a) (g.givers a)

abbrev pub outputs : Links → Name → List Wire
outputs g Env = []
outputs g (Join b) = map (Burst b) (g.leads b)
outputs g (Calls n) = Call n ∷ []
outputs g (Gate n) = Begin n ∷ []
outputs g (Spread n) = map (Put n) (g.outs n)
outputs g (Shows a) = Give a ∷ []

abbrev pub is_some : List ℕ → Bool
is_some [] = false
is_some (x ∷ xs) = true

-- some act gives the symbol
abbrev pub is_given : Links → ℕ → Bool
is_given g a = is_some (g.givers a)

abbrev pub port : Links → ℕ → Wire
port g a = if is_given g a then Give a else Take a

abbrev pub ports : Links → Name → List Wire
ports g Env = map (port g) (range_with_len 0 g.names)
ports g (Join b) = inputs g (Join b) ++ outputs g (Join b)
ports g (Calls n) = inputs g (Calls n) ++ outputs g (Calls n)
ports g (Gate n) = inputs g (Gate n) ++ outputs g (Gate n)
ports g (Spread n) = inputs g (Spread n) ++ outputs g (Spread n)
ports g (Shows a) = inputs g (Shows a) ++ outputs g (Shows a)

abbrev pub gate_kind : List ℕ → Kind
gate_kind [] = kind.Source
gate_kind (b ∷ bs) = kind.Iwire

abbrev pub show_kind : List ℕ → Kind
show_kind [] = kind.Wire
show_kind (n ∷ []) = kind.Wire
show_kind (n ∷ m ∷ ns) = kind.Merge (length (n ∷ m ∷ ns))

abbrev pub spec_at : NodeSpec → Links → Name → NodeSpec
spec_at s g Env = s
spec_at s g (Join b) = Basic (kind.C (length (g.symbols b)))
spec_at s g (Calls n) = Basic (kind.Merge (length (g.entries n)))
spec_at s g (Gate n) = Basic (gate_kind (g.entries n))
spec_at s g (Spread n) = Basic (kind.Fork (length (g.outs n)))
spec_at s g (Shows a) = Basic (show_kind (g.givers a))

-- the C of each burst, then of each act its MERGE, its gate and its FORK, then the MERGE of each symbol
abbrev pub all_names : Links → List Name
all_names g =
    map Join (range_with_len 0 g.bursts)
    ++ (joined (λ n. Calls n ∷ Gate n ∷ Spread n ∷ []) (range_with_len 0 g.acts) ++ map Shows (range_with_len 0 g.names))

abbrev pub parts : Links → List Name
parts g = filter (is_kept g) (all_names g)

-- the wires by the inputs that they lead to: of the environment, then of each component
abbrev pub lines : Links → List Wire
lines g = map Give (filter (is_given g) (range_with_len 0 g.names)) ++ joined (inputs g) (parts g)

abbrev pub one_chart : NodeSpec → Links → Chart Name Wire
one_chart s g = record {
  env = Env;
  parts = parts g;
  spec = spec_at s g;
  ports = ports g;
  number = λ w. place same_wire (lines g) (last g w);
  many = length (lines g);
}

-- ---- from a graph

abbrev pub is_begin : ℕ → Start → Bool
is_begin n (start.Wait w) = false
is_begin n (start.Act m) = nat_eq n m

abbrev pub outs_at : WaitGraph → ℕ → List ℕ
outs_at g n = numbers_of (get_or (map (λ y. y.outs) g.acts) n [])

-- the links of a graph, for a command of so many symbols
abbrev pub links : WaitGraph → ℕ → Links
links g names = record {
  home = λ a. position_or_len (has_sym (record { 0 = a })) g.bursts;
  symbols = λ b. numbers_of (get_or g.bursts b []);
  leads = λ b. map (λ c. c.act) (filter (λ c. nat_eq c.burst b) g.crosses);
  entries = λ n. map (λ c. c.burst) (filter (λ c. nat_eq c.act n) g.crosses);
  begins = λ n. is_begin n g.start;
  outs = outs_at g;
  givers = λ a. filter (λ n. is_in a (outs_at g n)) (range_with_len 0 (length g.acts));
  bursts = length g.bursts;
  acts = length g.acts;
  names = names;
}
