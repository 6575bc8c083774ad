-- The network of a weave, by names. An input goes to each process that has it, and an output is shown when each process
-- that makes it has made it. Where a grant gives it, it asks the SEQ of the grant first.
use Rattle.std.specs.Prelude.{ℕ, Bool, true, false, not, if◌then◌else◌, List, [], ◌∷◌, ◌++◌, map, filter, length, get_or, Option, Some, None}
use Rattle.std.specs.List.{range_with_len}
use native.Mathlib.Decide.{ℕ_discrete}
use Rattle.cmd_tree.specs.declared.tree.Mark.{Mark}
use Rattle.cmd_tree.specs.declared.tree.Proc.{Proc}
use Rattle.cmd_tree.specs.Limits.{marks_of_proc}
use Rattle.cmd_tree.specs.Marks.{is_output}
use Rattle.cmd_tree.specs.Meaning.{has_symbol}
use Rattle.cmd_rename.specs.Symbols.{symbols_in, put_each}
use Rattle.basic_kinds.specs.declared.kind.Kind.TheVariants as kind
use Rattle.di_grammar.specs.Outputs.{out_of}
use Rattle.di_grammar.specs.Sums.{grants}
use Rattle.net_core.specs.declared.spec.NodeSpec.{NodeSpec}
use Rattle.net_core.specs.declared.spec.NodeSpec.TheVariants.{Kind as Basic}
use Rattle.net_laws.specs.Charts.{Chart}
use Rattle.net_laws.proofs.Webs.{test}
use Rattle.plain_split.specs.SharedPaths.{walk, place, joined}
use Rattle.plain_split.specs.OneWait.{many, first}

-- A number is that of a symbol, or the place of a process among those of the command; a grant is a process too.
pub data Wire : Type 0 where
  -- an input, from the environment to its FORK, and its copies, to a process and to a grant
  Take : ℕ → Wire
  Copy : ℕ → ℕ → Wire
  Back : ℕ → ℕ → Wire
  -- an output as a process makes it, to the C of the symbol, and from there as all have made it
  Made : ℕ → ℕ → Wire
  Ask : ℕ → Wire
  -- what comes to a grant, from its MERGE to its gate, and the token, from the gate to the SEQ
  Return : ℕ → Wire
  Token : ℕ → Wire
  -- an output, to the environment
  Give : ℕ → Wire
  deriving Discrete as wire_discrete

pub data Name : Type 0 where
  Env : Name
  Process : ℕ → Name
  -- the FORK of an input
  Spread : ℕ → Name
  -- the C of an output; and what leads it straight on, where no grant gives it
  Join : ℕ → Name
  Pass : ℕ → Name
  -- the MERGE, the gate and the SEQ of a grant
  Returns : ℕ → Name
  Gate : ℕ → Name
  Sequencer : ℕ → Name
  deriving Discrete as name_discrete

-- How the processes of a command are tied to its symbols.
pub record Ties : Type 0 where
  -- the outputs among the symbols, and the grants among the processes
  pub out : ℕ → Bool
  pub grants : ℕ → Bool
  -- the symbols of a process, in order of first occurrence
  pub symbols : ℕ → List ℕ
  -- the processes that have an input, and of those that have an output the ones that are no grants, in order
  pub takers : ℕ → List ℕ
  pub givers : ℕ → List ℕ
  -- the grant that gives an output
  pub owner : ℕ → Option ℕ
  -- of a grant the symbols that it gives, in the order of its alternatives; those by which it is asked or given back, in
  -- order of first occurrence; and whether it may give one at the start
  pub requests : ℕ → List ℕ
  pub returns : ℕ → List ℕ
  pub lends : ℕ → Bool
  -- how many processes and symbols there are
  pub processes : ℕ
  pub names : ℕ

abbrev pub same_wire : Wire → Wire → Bool
same_wire = test (wire_discrete ℕ_discrete)

-- who shows an output: the SEQ of the grant that gives it, if one does
abbrev pub shown_by : Option ℕ → ℕ → Name
shown_by None s = Pass s
shown_by (Some g) s = Sequencer g

-- the copy of an input for a process
abbrev pub copy_for : Ties → ℕ → ℕ → Wire
copy_for g s p = if g.grants p then Back s p else Copy s p

abbrev pub driver : Ties → Wire → Name
driver g (Take s) = Env
driver g (Copy s p) = Spread s
driver g (Back s p) = Spread s
driver g (Made s p) = Process p
driver g (Ask s) = Join s
driver g (Return p) = Returns p
driver g (Token p) = Gate p
driver g (Give s) = shown_by (g.owner s) s

abbrev pub receiver : Ties → Wire → Name
receiver g (Take s) = Spread s
receiver g (Copy s p) = Process p
receiver g (Back s p) = Returns p
receiver g (Made s p) = Join s
receiver g (Ask s) = shown_by (g.owner s) s
receiver g (Return p) = Gate p
receiver g (Token p) = Sequencer p
receiver g (Give s) = Env

-- ---- what is left out

-- the component is none of width 1, which is left out
abbrev pub is_kept : Ties → Name → Bool
is_kept g Env = true
is_kept g (Process p) = true
is_kept g (Spread s) = many (g.takers s)
is_kept g (Join s) = many (g.givers s)
is_kept g (Pass s) = false
is_kept g (Returns p) = many (g.returns p)
is_kept g (Gate p) = g.lends p
is_kept g (Sequencer p) = true

-- the wire that leads on from a component that is left out
abbrev pub next : Ties → Wire → Wire
next g (Take s) = copy_for g s (first (g.takers s))
next g (Copy s p) = Copy s p
next g (Back s p) = Return p
next g (Made s p) = Ask s
next g (Ask s) = Give s
next g (Return p) = Token p
next g (Token p) = Token p
next g (Give s) = Give s

-- how many wires may follow on a path, for either copy of an input the same
abbrev pub rest : Wire → ℕ
rest (Take s) = 3
rest (Copy s p) = 2
rest (Back s p) = 2
rest (Made s p) = 2
rest (Ask s) = 1
rest (Return p) = 1
rest (Token p) = 0
rest (Give s) = 0

-- the last wire of the path that a wire is on
abbrev pub last : Ties → Wire → Wire
last g w = walk (λ v. is_kept g (receiver g v)) (next g) (rest w) w

-- ---- the network

abbrev pub inputs : Ties → Name → List Wire
inputs g Env = []
inputs g (Process p) = map (λ s. Copy s p) (filter (λ s. not (g.out s)) (g.symbols p))
inputs g (Spread s) = Take s ∷ []
inputs g (Join s) = map (λ p. Made s p) (g.givers s)
inputs g (Pass s) = Ask s ∷ []
inputs g (Returns p) = map (λ s. Back s p) (g.returns p)
inputs g (Gate p) = Return p ∷ []
inputs g (Sequencer p) = map Ask (g.requests p) ++ Token p ∷ []

abbrev pub outputs : Ties → Name → List Wire
outputs g Env = []
outputs g (Process p) = map (λ s. Made s p) (filter g.out (g.symbols p))
outputs g (Spread s) = map (copy_for g s) (g.takers s)
outputs g (Join s) = Ask s ∷ []
outputs g (Pass s) = Give s ∷ []
outputs g (Returns p) = Return p ∷ []
outputs g (Gate p) = Token p ∷ []
outputs g (Sequencer p) = map Give (g.requests p)

-- the wire of a symbol at the environment, and at a process
abbrev pub outer_port : Ties → ℕ → Wire
outer_port g s = if g.out s then Give s else Take s

abbrev pub inner_port : Ties → ℕ → ℕ → Wire
inner_port g p s = if g.out s then Made s p else Copy s p

abbrev pub ports : Ties → Name → List Wire
ports g Env = map (outer_port g) (range_with_len 0 g.names)
ports g (Process p) = map (inner_port g p) (g.symbols p)
ports g (Spread s) = inputs g (Spread s) ++ outputs g (Spread s)
ports g (Join s) = inputs g (Join s) ++ outputs g (Join s)
ports g (Pass s) = inputs g (Pass s) ++ outputs g (Pass s)
ports g (Returns p) = inputs g (Returns p) ++ outputs g (Returns p)
ports g (Gate p) = inputs g (Gate p) ++ outputs g (Gate p)
ports g (Sequencer p) = inputs g (Sequencer p) ++ outputs g (Sequencer p)

-- of the environment, of each process that is no grant, and of components
abbrev pub spec_at : NodeSpec → (ℕ → NodeSpec) → Ties → Name → NodeSpec
spec_at s alone g Env = s
spec_at s alone g (Process p) = alone p
spec_at s alone g (Spread a) = Basic (kind.Fork (length (g.takers a)))
spec_at s alone g (Join a) = Basic (kind.C (length (g.givers a)))
spec_at s alone g (Pass a) = Basic kind.Wire
spec_at s alone g (Returns p) = Basic (kind.Merge (length (g.returns p)))
spec_at s alone g (Gate p) = Basic kind.Iwire
spec_at s alone g (Sequencer p) = Basic (kind.Seq (length (g.requests p)))

-- the places of the processes that are no grants, and of the grants
abbrev pub woven : Ties → List ℕ
woven g = filter (λ p. not (g.grants p)) (range_with_len 0 g.processes)

abbrev pub granting : Ties → List ℕ
granting g = filter g.grants (range_with_len 0 g.processes)

-- what leads a symbol to or from its processes
abbrev pub meeting : Ties → ℕ → Name
meeting g s = if g.out s then Join s else Spread s

-- the processes, then of each symbol its FORK or its C, then of each grant its MERGE, its gate and its SEQ
abbrev pub all_names : Ties → List Name
all_names g =
    map Process (woven g)
    ++ (map (meeting g) (range_with_len 0 g.names)
    ++ joined (λ p. Returns p ∷ Gate p ∷ Sequencer p ∷ []) (granting g))

abbrev pub components : Ties → List Name
components g = filter (is_kept g) (all_names g)

-- the wires by the inputs that they lead to: of the environment, then of each component
abbrev pub lines : Ties → List Wire
lines g = map Give (filter g.out (range_with_len 0 g.names)) ++ joined (inputs g) (components g)

abbrev pub weave_chart : NodeSpec → (ℕ → NodeSpec) → Ties → Chart Name Wire
weave_chart s alone g = record {
  env = Env;
  parts = components g;
  spec = spec_at s alone g;
  ports = ports g;
  number = λ w. place same_wire (lines g) (last g w);
  many = length (lines g);
}

-- ---- from the processes of a command

abbrev pub marks_at : List Proc → ℕ → List Mark
marks_at ps p = get_or (map marks_of_proc ps) p []

abbrev pub grants_at : List Proc → ℕ → Bool
grants_at ps p = get_or (map grants ps) p false

-- the places of the processes that have a symbol
abbrev pub havers : List Proc → ℕ → List ℕ
havers ps s = filter (λ p. has_symbol (marks_at ps p) s) (range_with_len 0 (length ps))

abbrev pub head : List ℕ → Option ℕ
head [] = None
head (p ∷ ps) = Some p

-- the outputs among marks, and the inputs
abbrev pub outs_in : List Mark → List ℕ
outs_in ms = symbols_in (filter (λ m. is_output m.dir) ms)

abbrev pub ins_in : List Mark → List ℕ
ins_in ms = symbols_in (filter (λ m. not (is_output m.dir)) ms)

-- the marks begin with an output
abbrev pub begins_out : List Mark → Bool
begins_out [] = false
begins_out (m ∷ ms) = is_output m.dir

-- the ties of the processes of a command with so many symbols
abbrev pub ties : List Proc → ℕ → Ties
ties ps names = record {
  out = out_of ps;
  grants = grants_at ps;
  symbols = λ p. put_each [] (symbols_in (marks_at ps p));
  takers = havers ps;
  givers = λ s. filter (λ p. not (grants_at ps p)) (havers ps s);
  owner = λ s. head (filter (grants_at ps) (havers ps s));
  requests = λ p. outs_in (marks_at ps p);
  returns = λ p. put_each [] (ins_in (marks_at ps p));
  lends = λ p. begins_out (marks_at ps p);
  processes = length ps;
  names = names;
}
