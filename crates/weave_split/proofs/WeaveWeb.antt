-- The web of a weave, and what it needs to be sound and exact.
use Rattle.std.proofs.Common.{◌≡◌, ◌↔◌, ℕ, ◌<◌, ◌≤◌, Bool, true, false, List, [], ◌∷◌, ◌++◌, map, filter, length, ◌⊎◌, if◌then◌else◌, Option, Some, None}
use native.Mathlib.Decide.{ℕ_discrete}
use Rattle.cmd_tree.specs.Rounds.{tally, naught}
use Rattle.cmd_tree.specs.Lists.{is_in}
use Rattle.process_laws.specs.Phased.{Phased}
use Rattle.process_laws.specs.Granting.{Granting}
use Rattle.net_laws.proofs.Webs.{Web, Decides, test, test_decides}
use Rattle.net_laws.proofs.Told.{Lawful}
use Rattle.net_laws.proofs.Among.{Among, Distinct}
use Rattle.net_laws.proofs.Rules.{RoundsOn}
use Rattle.plain_split.proofs.OneWaitWeb.{sum_of, MergeOn}
use Rattle.weave_split.specs.WeaveChart.{Wire, Take, Copy, Back, Made, Ask, Return, Token, Give, wire_discrete, Name, Env, Process, Spread, Join, Pass, Returns, Gate, Sequencer, name_discrete, Ties, same_wire, shown_by, copy_for, driver, receiver}

pub wires_decide : Decides same_wire
wires_decide = test_decides (wire_discrete ℕ_discrete)

abbrev pub same_name : Name → Name → Bool
same_name = test (name_discrete ℕ_discrete)

pub names_decide : Decides same_name
names_decide = test_decides (name_discrete ℕ_discrete)

-- the wire stands for something of the weave
abbrev pub Real : Ties → Wire → Type 0
Real g (Take s) = (s < g.names) × (g.out s ≡ false)
Real g (Copy s p) = (s < g.names) × (g.out s ≡ false) × (g.grants p ≡ false) × Among p (g.takers s)
Real g (Back s p) = (s < g.names) × (g.out s ≡ false) × (g.grants p ≡ true) × Among p (g.takers s)
Real g (Made s p) = (s < g.names) × (g.out s ≡ true) × Among p (g.givers s)
Real g (Ask s) = (s < g.names) × (g.out s ≡ true)
Real g (Return p) = (p < g.processes) × (g.grants p ≡ true)
Real g (Token p) = (p < g.processes) × (g.grants p ≡ true)
Real g (Give s) = (s < g.names) × (g.out s ≡ true)

-- ---- rules

-- a WIRE, or an IWIRE where the grant may give one at the start
abbrev pub GateOn : Bool → Wire → Wire → (Wire → ℕ) → Wire → Type 0
GateOn false i o c w = RoundsOn (i ∷ []) (o ∷ []) c w
GateOn true i o c w = ((w ≡ o) × (c o ≡ c i)) ⊎ ((w ≡ i) × (c i < c o))

-- A request may come where it was granted as often, the token where it was used up, and a grant where its request waits
-- for it and the token is there.
abbrev pub SequencerOn : List ℕ → Wire → (Wire → ℕ) → Wire → Type 0
SequencerOn ss token c w =
    ((s : ℕ) × (w ≡ Ask s) × Among s ss × (c (Ask s) ≡ c (Give s)))
    ⊎ (((w ≡ token) × (c token ≡ sum_of c (map Give ss)))
    ⊎ ((s : ℕ) × (w ≡ Give s) × Among s ss × (c (Give s) < c (Ask s)) × (sum_of c (map Give ss) < c token)))

-- the symbol that a wire of the environment or of a process has
abbrev pub symbol : Wire → List ℕ
symbol (Take s) = s ∷ []
symbol (Copy s p) = s ∷ []
symbol (Back s p) = []
symbol (Made s p) = s ∷ []
symbol (Ask s) = []
symbol (Return p) = []
symbol (Token p) = []
symbol (Give s) = s ∷ []

abbrev pub word : List Wire → List ℕ
word [] = []
word (w ∷ t) = symbol w ++ word t

-- whole: the traces of the command; traces: those of each process, grants too
module _ (g : Ties) (whole : List ℕ → Type 0) (traces : ℕ → List ℕ → Type 0) where
  abbrev pub Rule : Name → List Wire → Wire → Type 0
  Rule Env t w = whole (word t ++ symbol w)
  Rule (Process p) t w = traces p (word t ++ symbol w)
  Rule (Spread s) t w = RoundsOn (Take s ∷ []) (map (copy_for g s) (g.takers s)) (tally same_wire naught t) w
  Rule (Join s) t w = RoundsOn (map (λ p. Made s p) (g.givers s)) (Ask s ∷ []) (tally same_wire naught t) w
  Rule (Pass s) t w = RoundsOn (Ask s ∷ []) (Give s ∷ []) (tally same_wire naught t) w
  Rule (Returns p) t w = MergeOn (map (λ s. Back s p) (g.returns p)) (Return p) (tally same_wire naught t) w
  Rule (Gate p) t w = GateOn (g.lends p) (Return p) (Token p) (tally same_wire naught t) w
  Rule (Sequencer p) t w = SequencerOn (g.requests p) (Token p) (tally same_wire naught t) w

  -- the wire is at the node
  abbrev pub At : Name → Wire → Type 0
  At n w = (driver g w ≡ n) ⊎ (receiver g w ≡ n)

  abbrev pub web : Web Name Wire
  web = record {
    same_node = same_name;
    same_wire = same_wire;
    driver = driver g;
    receiver = receiver g;
    outside = Env;
    rule = λ n t w. Real g w × At n w × Rule n t w;
  }

-- What the ties say of the traces of a command and of its processes.
pub record Tied (g : Ties) (whole : List ℕ → Type 0) (traces : ℕ → List ℕ → Type 0) : Type 0 where
  -- each process has its symbols once, and they are symbols of the command
  pub symbols_once : (p : ℕ) → Distinct (g.symbols p)
  pub symbol_known : (p s : ℕ) → p < g.processes → Among s (g.symbols p) → s < g.names
  -- the processes that have an input, and those that make an output, each once, and at least one
  pub takers_once : (s : ℕ) → Distinct (g.takers s)
  pub taker : (s p : ℕ) → Among p (g.takers s) ↔ ((p < g.processes) × Among s (g.symbols p))
  pub some_taker : (s : ℕ) → s < g.names → (p : ℕ) × Among p (g.takers s)
  pub givers_once : (s : ℕ) → Distinct (g.givers s)
  pub giver : (s p : ℕ) → Among p (g.givers s) ↔ ((p < g.processes) × (g.grants p ≡ false) × Among s (g.symbols p))
  pub some_giver : (s : ℕ) → s < g.names → g.out s ≡ true → (p : ℕ) × Among p (g.givers s)
  -- a grant has its outputs as requests, and its inputs as returns; two requests and more
  pub grant_known : (p : ℕ) → g.grants p ≡ true → p < g.processes
  pub requests_once : (p : ℕ) → g.grants p ≡ true → Distinct (g.requests p)
  pub request : (p s : ℕ) → g.grants p ≡ true → Among s (g.requests p) ↔ (Among s (g.symbols p) × (g.out s ≡ true))
  pub many_requests : (p : ℕ) → g.grants p ≡ true → 2 ≤ length (g.requests p)
  pub returns_once : (p : ℕ) → Distinct (g.returns p)
  pub return : (p s : ℕ) → g.grants p ≡ true → Among s (g.returns p) ↔ (Among s (g.symbols p) × (g.out s ≡ false))
  pub some_return : (p : ℕ) → g.grants p ≡ true → (s : ℕ) × Among s (g.returns p)
  -- the owner of an output is the grant that gives it
  pub owns : (s p : ℕ) → g.out s ≡ true → g.owner s ≡ Some p → (g.grants p ≡ true) × Among s (g.requests p)
  pub owned : (s p : ℕ) → g.grants p ≡ true → Among s (g.requests p) → g.owner s ≡ Some p
  -- the traces of processes
  pub phased : (p : ℕ) → p < g.processes → Phased ℕ g.out (traces p)
  pub granting : (p : ℕ) → g.grants p ≡ true → Granting (g.requests p) (g.returns p) (if g.lends p then 1 else 0) (traces p)
  pub has : (p : ℕ) (t : List ℕ) (s : ℕ) → p < g.processes → traces p (t ++ s ∷ []) → Among s (g.symbols p)
  -- a trace of the command goes on by a symbol where it goes on by it in each process that has it
  pub empty : whole []
  pub goes : (t : List ℕ) (s : ℕ) → whole (t ++ s ∷ []) ↔ (whole t × (s < g.names)
      × ((p : ℕ) → p < g.processes → Among s (g.symbols p) → traces p (filter (λ a. is_in a (g.symbols p)) t ++ s ∷ [])))

pub lawful : (g : Ties) (whole : List ℕ → Type 0) (traces : ℕ → List ℕ → Type 0) → Lawful Name Wire (web g whole traces)
lawful g whole traces = record { nodes = names_decide; wires = wires_decide; clean = clean }
  where
    owner_env : (o : Option ℕ) (s : ℕ) → shown_by o s ≡ Env → ⊥
    owner_env None s e = cc
    owner_env (Some p) s e = cc

    owner_join : (o : Option ℕ) (s : ℕ) → Join s ≡ shown_by o s → ⊥
    owner_join None s e = cc
    owner_join (Some p) s e = cc

    clean : (w : Wire) → driver g w ≡ receiver g w → ⊥
    clean (Take s) e = cc
    clean (Copy s p) e = cc
    clean (Back s p) e = cc
    clean (Made s p) e = cc
    clean (Ask s) e = owner_join (g.owner s) s e
    clean (Return p) e = cc
    clean (Token p) e = cc
    clean (Give s) e = owner_env (g.owner s) s e
