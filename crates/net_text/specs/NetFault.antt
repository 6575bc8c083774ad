-- The first fault of bytes that are no netlist.
use Rattle.std.specs.Prelude.{◌≡◌, ◌⊎◌, ℕ, Bool, ◌+◌, ◌<◌, ◌≤◌, ◌≢◌, IsTrue, List, [], ◌∷◌, ◌++◌, length, max, codes, decimal, ⊤}
use Rattle.std.specs.List.{AllByRecursion, range_with_len}
use Rattle.cmd_tree.specs.declared.command.Command.{Command}
use Rattle.cmd_tree.specs.declared.limits.TheConstants.{MAX_COMPONENTS, MAX_NETLIST_WIRES}
use Rattle.cmd_tree.specs.Limits.{marks_of_all}
use Rattle.cmd_text.specs.Canonical.{procs_text}
use Rattle.di_grammar.specs.declared.answer.Broken.{Broken}
use Rattle.di_grammar.specs.Admitted.{Admitted, IsBroken}
use Rattle.net_core.specs.declared.spec.NodeSpec.TheVariants.{Cmd}
use Rattle.net_core.specs.Specs.{outs_of, IsFormed, is_kind, gives_symbol}
use Rattle.net_core.specs.Wiring.{Node, Circuit, IsOnce}
use Rattle.net_text.specs.declared.refusal.NetRefusal.{NetRefusal}
use Rattle.net_text.specs.declared.refusal.NetRefusal.TheVariants as told
use Rattle.net_text.specs.NetText.{mark_sign, node_line, net_text}
use Rattle.net_text.specs.Told.{HasText}

-- ---- the lines, each without its line feed
-- there is no line feed in the line
abbrev pub IsLine : List ℕ → Type 0
IsLine line = AllByRecursion (λ b. b ≢ 10) line

abbrev pub version_line : List ℕ
version_line = codes "dinet 1"

abbrev pub spec_line : Command → List ℕ
spec_line c = codes "spec " ++ procs_text c.names c.procs

-- the name of a symbol, its mark and its number
abbrev pub symbol_line : List ℕ → Bool → ℕ → List ℕ
symbol_line name output number = codes "port " ++ name ++ mark_sign output ++ codes " " ++ decimal number

-- a line for each symbol, numbered from k on
abbrev pub symbol_lines : (ℕ → Bool) → ℕ → List (List ℕ) → List (List ℕ)
symbol_lines is_output k [] = []
symbol_lines is_output k (name ∷ names) = symbol_line name (is_output k) k ∷ symbol_lines is_output (k + 1) names

abbrev pub port_lines : Command → List (List ℕ)
port_lines c = symbol_lines (gives_symbol (marks_of_all c.procs)) 0 c.names

-- a component: a well-formed kind, and at each port a wire of a small number
pub record IsPart (x : Node) : Type 0 where
  pub basic : IsTrue (is_kind x.spec)
  pub sized : length x.ends ≡ length (outs_of x.spec)
  pub formed : IsFormed x.spec
  pub small : AllByRecursion (λ w. w < MAX_NETLIST_WIRES) x.ends

-- the line of this component
abbrev pub IsPartLine : List ℕ → Node → Type 0
IsPartLine line x = IsPart x × (node_line x ≡ line ++ codes "\n")

-- the line of no component
abbrev pub IsNoPartLine : List ℕ → Type 0
IsNoPartLine line = (x : Node) → IsPartLine line x → ⊥

abbrev pub last_line : List ℕ
last_line = codes "end"

-- ---- what the next line is to be
pub data Place : Type 0 where
  -- the version, and the command
  Version : Place
  Spec : Place
  -- this line of a symbol of the command, before these others
  Ports : Command → List ℕ → List (List ℕ) → Place
  -- a component behind these, or the last line
  Parts : Command → List Node → Place
  -- nothing
  Over : Command → List Node → Place

-- these lines of symbols, and then the components
abbrev pub behind_spec : Command → List (List ℕ) → Place
behind_spec c [] = Parts c []
behind_spec c (line ∷ lines) = Ports c line lines

-- a right line, and what is to be behind it
pub data Leads : Place → List ℕ → Place → Type 0 where
  version : (line : List ℕ) → line ≡ version_line → Leads Version line Spec
  spec : (c : Command) (line : List ℕ) → line ≡ spec_line c → Admitted c.procs → Leads Spec line (behind_spec c (port_lines c))
  port : (c : Command) (due : List ℕ) (lines : List (List ℕ)) (line : List ℕ) → line ≡ due
      → Leads (Ports c due lines) line (behind_spec c lines)
  part : (c : Command) (xs : List Node) (x : Node) (line : List ℕ) → length xs < MAX_COMPONENTS → IsPartLine line x
      → Leads (Parts c xs) line (Parts c (xs ++ x ∷ []))
  last : (c : Command) (xs : List Node) (line : List ℕ) → line ≡ last_line → Leads (Parts c xs) line (Over c xs)

-- a line of the form that is to be there, whether or not it is right
abbrev pub IsOfForm : Place → List ℕ → Type 0
IsOfForm Version line = line ≡ version_line
IsOfForm Spec line = (c : Command) × (line ≡ spec_line c)
IsOfForm (Ports c l ls) line = line ≡ l
IsOfForm (Parts c xs) line = ((x : Node) × IsPartLine line x) ⊎ (line ≡ last_line)
IsOfForm (Over c xs) line = ⊥

-- the fault of line n, where it is none that leads on
pub data IsFaulty : Place → ℕ → List ℕ → NetRefusal → Type 0 where
  -- not of the form
  bad : (p : Place) (n : ℕ) (line : List ℕ) → (IsOfForm p line → ⊥) → IsFaulty p n line (told.BadLine n)
  -- a command that breaks a rule, and this one first
  refused : (n : ℕ) (line : List ℕ) (c : Command) (b : Broken) → line ≡ spec_line c → IsBroken c.procs b
      → IsFaulty Spec n line (told.SpecRefused b.rule)
  -- one component more than there may be
  many : (c : Command) (xs : List Node) (n : ℕ) (line : List ℕ) (x : Node) → MAX_COMPONENTS ≤ length xs → IsPartLine line x
      → IsFaulty (Parts c xs) n line (told.TooManyComponents n)

-- ---- the network of a whole netlist
-- so many wires, and all up to the greatest of these
abbrev pub with_wires : ℕ → List ℕ → ℕ
with_wires n [] = n
with_wires n (w ∷ ws) = with_wires (max n (w + 1)) ws

abbrev pub with_parts : ℕ → List Node → ℕ
with_parts n [] = n
with_parts n (x ∷ xs) = with_parts (with_wires n x.ends) xs

-- Symbol i is on wire i, and the wires are those up to the greatest number that a line has.
abbrev pub network : Command → List Node → Circuit
network c xs = record {
  nodes = record { spec = Cmd c; ends = range_with_len 0 (length c.names) } ∷ xs;
  wires = with_parts (length c.names) xs;
}

-- the least wire that has not one driver and one receiver
pub record IsLeastOpen (c : Circuit) (wire : ℕ) : Type 0 where
  pub known : wire < c.wires
  pub open_end : IsOnce c wire → ⊥
  pub least : (w : ℕ) → w < wire → IsOnce c w

-- a line is due
abbrev pub IsDue : Place → Type 0
IsDue (Over c xs) = ⊥
IsDue p = ⊤

-- r is the first fault of the bytes from line n on, where that line is to be what the place says
pub data IsFirstFault : Place → ℕ → List ℕ → NetRefusal → Type 0 where
  later : (p q : Place) (n : ℕ) (bytes line rest : List ℕ) (r : NetRefusal) → bytes ≡ line ++ 10 ∷ rest → IsLine line
      → Leads p line q → IsFirstFault q (n + 1) rest r → IsFirstFault p n bytes r
  here : (p : Place) (n : ℕ) (bytes line rest : List ℕ) (r : NetRefusal) → bytes ≡ line ++ 10 ∷ rest → IsLine line
      → IsFaulty p n line r → IsFirstFault p n bytes r
  -- the text ends, and a line is due or was begun
  cut : (p : Place) (n : ℕ) (bytes : List ℕ) → IsLine bytes → IsDue p → IsFirstFault p n bytes (told.Truncated n)
  -- something stands behind the last line, without a line feed
  behind : (c : Command) (xs : List Node) (n : ℕ) (bytes : List ℕ) → IsLine bytes → 0 < length bytes
      → IsFirstFault (Over c xs) n bytes (told.BadLine n)
  -- all lines are right, and a wire is open
  open_port : (c : Command) (xs : List Node) (n w : ℕ) (bytes : List ℕ) → bytes ≡ [] → IsLeastOpen (network c xs) w
      → IsFirstFault (Over c xs) n bytes (told.OpenPort w)

-- the first fault of bytes
abbrev pub NetFault : List ℕ → NetRefusal → Type 0
NetFault bytes r = IsFirstFault Version 1 bytes r

-- ---- a whole netlist
-- The bytes are the text of this network, with an admitted command, few components and few wires.
pub record IsNetlist (bytes : List ℕ) (net : Circuit) : Type 0 where
  pub told : HasText net
  pub admitted : Admitted told.command.procs
  pub few_parts : length net.nodes ≤ MAX_COMPONENTS + 1
  pub few_wires : net.wires ≤ MAX_NETLIST_WIRES
  pub text : bytes ≡ net_text net
