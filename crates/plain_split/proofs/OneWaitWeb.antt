-- The web of a process with one wait.
use Rattle.std.proofs.Common.{◌≡◌, ℕ, ◌+◌, ◌<◌, Bool, true, false, List, [], ◌∷◌, ◌++◌, map, ◌⊎◌, if◌then◌else◌}
use native.Mathlib.Decide.{ℕ_discrete}
use Rattle.cmd_tree.specs.Rounds.{tally, naught}
use Rattle.net_laws.proofs.Webs.{Web, Decides, test, test_decides}
use Rattle.net_laws.proofs.Told.{Lawful}
use Rattle.net_laws.proofs.Among.{Among}
use Rattle.net_laws.proofs.Rules.{RoundsOn}
use Rattle.plain_split.specs.OneWait.{Wire, Take, Burst, Call, Begin, Put, Give, wire_discrete, Name, Env, Join, Calls, Gate, Spread, Shows, name_discrete, Links, same_wire, driver, receiver}

pub wires_decide : Decides same_wire
wires_decide = test_decides (wire_discrete ℕ_discrete)

abbrev pub same_name : Name → Name → Bool
same_name = test (name_discrete ℕ_discrete)

pub names_decide : Decides same_name
names_decide = test_decides (name_discrete ℕ_discrete)

-- ---- rules

abbrev pub sum_of : {W : Type 0} → (W → ℕ) → List W → ℕ
sum_of c [] = 0
sum_of c (w ∷ ws) = c w + sum_of c ws

-- an input of a MERGE may come where the output has come as often as all inputs, the output where it has come less often
abbrev pub MergeOn : {W : Type 0} → List W → W → (W → ℕ) → W → Type 0
MergeOn ins o c w = (Among w ins × (sum_of c ins ≡ c o)) ⊎ ((w ≡ o) × (c o < sum_of c ins))

-- the gate of an act: a WIRE, or an IWIRE where the process begins there; without entries a SOURCE or nothing
abbrev pub GateOn : List ℕ → Bool → ℕ → (Wire → ℕ) → Wire → Type 0
GateOn [] false n c w = ⊥
GateOn [] true n c w = (w ≡ Begin n) × (c (Begin n) ≡ 0)
GateOn (b ∷ bs) false n c w = RoundsOn (Call n ∷ []) (Begin n ∷ []) c w
GateOn (b ∷ bs) true n c w = ((w ≡ Begin n) × (c (Begin n) ≡ c (Call n))) ⊎ ((w ≡ Call n) × (c (Call n) < c (Begin n)))

abbrev pub SpreadOn : List ℕ → ℕ → (Wire → ℕ) → Wire → Type 0
SpreadOn [] n c w = ⊥
SpreadOn (a ∷ rest) n c w = RoundsOn (Begin n ∷ []) (map (Put n) (a ∷ rest)) c w

-- what has been seen of the symbols
abbrev pub word : (ℕ → Bool) → List Wire → List ℕ
word out [] = []
word out (Take a ∷ t) = if out a then word out t else a ∷ word out t
word out (Burst b n ∷ t) = word out t
word out (Call n ∷ t) = word out t
word out (Begin n ∷ t) = word out t
word out (Put n a ∷ t) = word out t
word out (Give a ∷ t) = if out a then a ∷ word out t else word out t

abbrev pub EnvOn : (ℕ → Bool) → (List ℕ → Type 0) → List Wire → Wire → Type 0
EnvOn out T t (Take a) = (out a ≡ false) × T (word out t ++ a ∷ [])
EnvOn out T t (Burst b n) = ⊥
EnvOn out T t (Call n) = ⊥
EnvOn out T t (Begin n) = ⊥
EnvOn out T t (Put n a) = ⊥
EnvOn out T t (Give a) = (out a ≡ true) × T (word out t ++ a ∷ [])

abbrev pub Rule : Links → (ℕ → Bool) → (List ℕ → Type 0) → Name → List Wire → Wire → Type 0
Rule g out T Env t w = EnvOn out T t w
Rule g out T (Join b) t w = RoundsOn (map Take (g.symbols b)) (map (Burst b) (g.leads b)) (tally same_wire naught t) w
Rule g out T (Calls n) t w = MergeOn (map (λ b. Burst b n) (g.entries n)) (Call n) (tally same_wire naught t) w
Rule g out T (Gate n) t w = GateOn (g.entries n) (g.begins n) n (tally same_wire naught t) w
Rule g out T (Spread n) t w = SpreadOn (g.outs n) n (tally same_wire naught t) w
Rule g out T (Shows a) t w = MergeOn (map (λ n. Put n a) (g.givers a)) (Give a) (tally same_wire naught t) w

abbrev pub web : Links → (ℕ → Bool) → (List ℕ → Type 0) → Web Name Wire
web g out T = record {
  same_node = same_name;
  same_wire = same_wire;
  driver = driver;
  receiver = receiver g;
  outside = Env;
  rule = Rule g out T;
}

pub lawful : (g : Links) (out : ℕ → Bool) (T : List ℕ → Type 0) → Lawful Name Wire (web g out T)
lawful g out T = record { nodes = names_decide; wires = wires_decide; clean = clean }
  where
    clean : (w : Wire) → driver w ≡ receiver g w → ⊥
    clean (Take a) e = cc
    clean (Burst b n) e = cc
    clean (Call n) e = cc
    clean (Begin n) e = cc
    clean (Put n a) e = cc
    clean (Give a) e = cc
