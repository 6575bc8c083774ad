-- The web of a process by a token.
use Rattle.std.proofs.Common.{◌≡◌, ℕ, ◌<◌, Bool, true, false, nat_eq, List, [], ◌∷◌, ◌++◌, map, filter, ◌⊎◌, if◌then◌else◌}
use native.Mathlib.Decide.{ℕ_discrete}
use Rattle.cmd_tree.specs.Rounds.{tally, naught}
use Rattle.place_graph.specs.declared.wait_graph.Cross.{Cross as Crossing}
use Rattle.net_laws.proofs.Webs.{Web, Decides, test, test_decides}
use Rattle.net_laws.proofs.Told.{Lawful}
use Rattle.net_laws.proofs.Among.{Among}
use Rattle.net_laws.proofs.Rules.{RoundsOn}
use Rattle.plain_split.proofs.OneWaitWeb.{sum_of, MergeOn}
use Rattle.token_split.specs.TokenChart.{Wire, Take, Burst, Return, Row, Cross, Call, Begin, Put, Exit, Give, wire_discrete, Name, Env, Join, Meet, Calls, Gate, Spread, Returns, Entry, Shows, name_discrete, Links, same_wire, driver, receiver, cross_wire}

pub wires_decide : Decides same_wire
wires_decide = test_decides (wire_discrete ℕ_discrete)

abbrev pub same_name : Name → Name → Bool
same_name = test (name_discrete ℕ_discrete)

pub names_decide : Decides same_name
names_decide = test_decides (name_discrete ℕ_discrete)

-- ---- rules

-- the gate from one wire to another, to which so many lead: a WIRE, or an IWIRE where the process begins there; where nothing leads there a SOURCE or nothing
abbrev pub GateOn : {A : Type 0} → List A → Bool → Wire → Wire → (Wire → ℕ) → Wire → Type 0
GateOn [] false i o c w = ⊥
GateOn [] true i o c w = (w ≡ o) × (c o ≡ 0)
GateOn (x ∷ xs) false i o c w = RoundsOn (i ∷ []) (o ∷ []) c w
GateOn (x ∷ xs) true i o c w = ((w ≡ o) × (c o ≡ c i)) ⊎ ((w ≡ i) × (c i < c o))

-- a C, where it has inputs
abbrev pub JoinOn : List Wire → Wire → (Wire → ℕ) → Wire → Type 0
JoinOn [] o c w = ⊥
JoinOn (i ∷ is) o c w = RoundsOn (i ∷ is) (o ∷ []) c w

-- a FORK, where it has outputs
abbrev pub ForkOn : Wire → List Wire → (Wire → ℕ) → Wire → Type 0
ForkOn i [] c w = ⊥
ForkOn i (o ∷ os) c w = RoundsOn (i ∷ []) (o ∷ os) c w

-- how often the crossings of a row came, and those of a column
abbrev pub of_row : List Crossing → (Wire → ℕ) → ℕ → ℕ
of_row cs c x = sum_of (λ k. c (cross_wire k)) (filter (λ k. nat_eq k.wait x) cs)

abbrev pub of_column : List Crossing → (Wire → ℕ) → ℕ → ℕ
of_column cs c b = sum_of (λ k. c (cross_wire k)) (filter (λ k. nat_eq k.burst b) cs)

abbrev pub Crosses : List Crossing → ℕ → ℕ → Type 0
Crosses cs x b = (k : Crossing) × Among k cs × (k.wait ≡ x) × (k.burst ≡ b)

-- a row may come where no row is pending, and it crosses each pending column
pub record RowOn (rows columns : List ℕ) (cs : List Crossing) (c : Wire → ℕ) (w : Wire) : Type 0 where
  pub row : ℕ
  pub is : w ≡ Row row
  pub among : Among row rows
  pub free : (y : ℕ) → Among y rows → c (Row y) ≡ of_row cs c y
  pub meets : (b : ℕ) → Among b columns → of_column cs c b < c (Burst b) → Crosses cs row b

-- and so may a column
pub record ColumnOn (rows columns : List ℕ) (cs : List Crossing) (c : Wire → ℕ) (w : Wire) : Type 0 where
  pub column : ℕ
  pub is : w ≡ Burst column
  pub among : Among column columns
  pub free : (b : ℕ) → Among b columns → c (Burst b) ≡ of_column cs c b
  pub meets : (y : ℕ) → Among y rows → of_row cs c y < c (Row y) → Crosses cs y column

-- a crossing may come where its row and its column are pending
pub record CrossOn (cs : List Crossing) (c : Wire → ℕ) (w : Wire) : Type 0 where
  pub crossing : Crossing
  pub is : w ≡ cross_wire crossing
  pub among : Among crossing cs
  pub row : of_row cs c crossing.wait < c (Row crossing.wait)
  pub column : of_column cs c crossing.burst < c (Burst crossing.burst)

abbrev pub MeetOn : List ℕ → List ℕ → List Crossing → (Wire → ℕ) → Wire → Type 0
MeetOn rows columns cs c w = RowOn rows columns cs c w ⊎ (ColumnOn rows columns cs c w ⊎ CrossOn cs c w)

-- what is seen of the symbols
abbrev pub seen : (ℕ → Bool) → Wire → List ℕ
seen out (Take a) = if out a then [] else a ∷ []
seen out (Burst b) = []
seen out (Return w) = []
seen out (Row w) = []
seen out (Cross w b n) = []
seen out (Call n) = []
seen out (Begin n) = []
seen out (Put n a) = []
seen out (Exit n w) = []
seen out (Give a) = if out a then a ∷ [] else []

abbrev pub word : (ℕ → Bool) → List Wire → List ℕ
word out [] = []
word out (w ∷ t) = seen out w ++ word out t

abbrev pub EnvOn : (ℕ → Bool) → (List ℕ → Type 0) → List Wire → Wire → Type 0
EnvOn out T t (Take a) = (out a ≡ false) × T (word out t ++ a ∷ [])
EnvOn out T t (Burst b) = ⊥
EnvOn out T t (Return w) = ⊥
EnvOn out T t (Row w) = ⊥
EnvOn out T t (Cross w b n) = ⊥
EnvOn out T t (Call n) = ⊥
EnvOn out T t (Begin n) = ⊥
EnvOn out T t (Put n a) = ⊥
EnvOn out T t (Exit n w) = ⊥
EnvOn out T t (Give a) = (out a ≡ true) × T (word out t ++ a ∷ [])

abbrev pub Rule : Links → (ℕ → Bool) → (List ℕ → Type 0) → Name → List Wire → Wire → Type 0
Rule g out T Env t w = EnvOn out T t w
Rule g out T (Join b) t w = JoinOn (map Take (g.symbols b)) (Burst b) (tally same_wire naught t) w
Rule g out T (Meet i) t w = MeetOn (g.rows i) (g.columns i) (g.meets i) (tally same_wire naught t) w
Rule g out T (Calls n) t w = MergeOn (map cross_wire (g.entries n)) (Call n) (tally same_wire naught t) w
Rule g out T (Gate n) t w = GateOn (g.entries n) (g.begins n) (Call n) (Begin n) (tally same_wire naught t) w
Rule g out T (Spread n) t w = ForkOn (Begin n) (map (Put n) (g.outs n) ++ map (Exit n) (g.exits n)) (tally same_wire naught t) w
Rule g out T (Returns x) t w = MergeOn (map (λ n. Exit n x) (g.returns x)) (Return x) (tally same_wire naught t) w
Rule g out T (Entry x) t w = GateOn (g.returns x) (g.opens x) (Return x) (Row x) (tally same_wire naught t) w
Rule g out T (Shows a) t w = MergeOn (map (λ n. Put n a) (g.givers a)) (Give a) (tally same_wire naught t) w

abbrev pub web : Links → (ℕ → Bool) → (List ℕ → Type 0) → Web Name Wire
web g out T = record {
  same_node = same_name;
  same_wire = same_wire;
  driver = driver g;
  receiver = receiver g;
  outside = Env;
  rule = Rule g out T;
}

pub lawful : (g : Links) (out : ℕ → Bool) (T : List ℕ → Type 0) → Lawful Name Wire (web g out T)
lawful g out T = record { nodes = names_decide; wires = wires_decide; clean = clean }
  where
    clean : (w : Wire) → driver g w ≡ receiver g w → ⊥
    clean (Take a) e = cc
    clean (Burst b) e = cc
    clean (Return w) e = cc
    clean (Row w) e = cc
    clean (Cross w b n) e = cc
    clean (Call n) e = cc
    clean (Begin n) e = cc
    clean (Put n a) e = cc
    clean (Exit n w) e = cc
    clean (Give a) e = cc
