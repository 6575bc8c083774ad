-- A chain of FORKs. The FORK r takes the wire Go (r + 1) and gives the wire Go r, which leads on, and u r taps; so r more FORKs follow it. Where it has no
-- tap it would be a FORK of one output, and is left out.
use Rattle.std.specs.Prelude.{ℕ, zero, suc, ◌+◌, nat_eq, if◌then◌else◌, List, [], ◌∷◌, ◌++◌, map}
use Rattle.std.specs.List.{range_with_len}
use Rattle.basic_kinds.specs.Totals.{total}
use Rattle.basic_kinds.specs.declared.kind.Kind.TheVariants.{Fork}
use Rattle.net_core.specs.declared.spec.NodeSpec.{NodeSpec}
use Rattle.net_core.specs.declared.spec.NodeSpec.TheVariants.{Kind as Basic}
use Rattle.net_laws.specs.Charts.{Chart}

pub data Wire : Type 0 where
  Go : ℕ → Wire
  Tap : ℕ → ℕ → Wire
  deriving Discrete as wire_discrete

-- the lists f 0, .., f (k - 1), one after the other
abbrev pub each : {A : Type 0} → (ℕ → List A) → ℕ → List A
each f zero = []
each f (suc k) = each f k ++ f k

-- the FORK, where it has taps
abbrev pub kept_fork : ℕ → ℕ → List ℕ
kept_fork r zero = []
kept_fork r (suc v) = r ∷ []

-- how many wires of the network end at the FORK or are taps of it
abbrev pub width : ℕ → ℕ
width zero = zero
width (suc v) = suc (suc v)

-- the number of the wire that ends at FORK r. The wire that ends at the environment has the number 0
abbrev pub start : (ℕ → ℕ) → ℕ → ℕ
start u r = suc (total r (λ k. width (u k)))

-- where the wire Go i ends: the FORKs without taps pass it on
abbrev pub end_by : ℕ → ℕ → ℕ → ℕ
end_by zero r end = end
end_by (suc v) r end = suc r

abbrev pub end_of : (ℕ → ℕ) → ℕ → ℕ
end_of u zero = zero
end_of u (suc r) = end_by (u r) r (end_of u r)

abbrev pub number_of_end : (ℕ → ℕ) → ℕ → ℕ
number_of_end u zero = zero
number_of_end u (suc r) = start u r

abbrev pub number_of : (ℕ → ℕ) → Wire → ℕ
number_of u (Go i) = number_of_end u (end_of u i)
number_of u (Tap r j) = start u r + suc j

abbrev pub env_ports : ℕ → (ℕ → ℕ) → List Wire
env_ports h u = Go h ∷ Go 0 ∷ each (λ r. map (Tap r) (range_with_len 0 (u r))) h

abbrev pub fork_ports : (ℕ → ℕ) → ℕ → List Wire
fork_ports u r = Go (suc r) ∷ Go r ∷ map (Tap r) (range_with_len 0 (u r))

-- h FORKs; the environment is the node h
abbrev pub chain_chart : NodeSpec → ℕ → (ℕ → ℕ) → Chart ℕ Wire
chain_chart s h u = record {
  env = h;
  parts = each (λ r. kept_fork r (u r)) h;
  spec = λ n. if nat_eq n h then s else Basic (Fork (suc (u n)));
  ports = λ n. if nat_eq n h then env_ports h u else fork_ports u n;
  number = number_of u;
  many = start u h;
}
