-- One layer of the split of a SEQ of more than two requests, by names. The requests stand in two groups, the first half and
-- the rest. An outer SEQ of two gives the token to a group. In a group of two requests and more an inner SEQ chooses one; the
-- outer SEQ is asked for the group, and a DW joins its answer with the request that was chosen. When this has its grant, the
-- inner SEQ may choose again. A group of one request has no component: its request and its grant are those of the outer SEQ.
use Rattle.std.specs.Prelude.{◌≡◌, ℕ, zero, suc, ◌+◌, ◌*◌, ◌-◌, if◌then◌else◌, List, [], ◌∷◌, ◌++◌, map, Option, None, Some, ⊤}
use Rattle.std.specs.List.{range_with_len}
use Rattle.basic_kinds.specs.declared.kind.Kind.{Kind}
use Rattle.basic_kinds.specs.declared.kind.Kind.TheVariants as kind
use Rattle.basic_kinds.specs.ShapeParts.{half, one_column}
use Rattle.net_core.specs.declared.spec.NodeSpec.{NodeSpec}
use Rattle.net_core.specs.declared.spec.NodeSpec.TheVariants.{Kind as Basic}
use Rattle.net_core.specs.Wiring.{Circuit}
use Rattle.net_laws.specs.Charts.{Chart, charted}
use Rattle.two_way.specs.TwoWay.{at_most_two}
use Rattle.seq_tree.specs.ColumnShape.{is_column}

-- Groups are numbered from 0, and so are the requests of a group.
pub data Wire : Type 0 where
  -- a request and its grant at the environment, and the token
  Request : ℕ → ℕ → Wire
  Grant : ℕ → ℕ → Wire
  Token : Wire
  -- a request that the inner SEQ has chosen, its copy for the outer SEQ, and its copy at the DW
  Chosen : ℕ → ℕ → Wire
  Ask : ℕ → ℕ → Wire
  Row : ℕ → ℕ → Wire
  -- the answer of the DW, and its copy that goes back
  Won : ℕ → ℕ → Wire
  Back : ℕ → ℕ → Wire
  -- what a group asks of the outer SEQ, and the answer
  Call : ℕ → Wire
  Give : ℕ → Wire
  -- what goes back to the IWIRE of a group, and from there to its inner SEQ
  Return : ℕ → Wire
  Free : ℕ → Wire
  deriving Discrete as wire_discrete

pub data Name : Type 0 where
  Env : Name
  Outer : Name
  -- the SEQ of a group, the MERGE of what it asks, its DW, the MERGE of what goes back, and the IWIRE
  Inner : ℕ → Name
  Calls : ℕ → Name
  Wait : ℕ → Name
  Returns : ℕ → Name
  Gate : ℕ → Name
  -- the FORK of a request that is chosen, and that of its grant
  Spread : ℕ → ℕ → Name
  Share : ℕ → ℕ → Name
  deriving Discrete as name_discrete

-- the first where a group has one request, the second where it has more
abbrev pub by_size : {A : Type 0} → ℕ → A → A → A
by_size zero one more = one
by_size (suc zero) one more = one
by_size (suc (suc n)) one more = more

-- a group has a wire for each of its requests
abbrev pub row : (ℕ → Wire) → ℕ → List Wire
row w n = map w (range_with_len 0 n)

-- ---- h requests in the first group, and r in the rest

-- how many requests a group has, and how many stand before it
abbrev pub size : ℕ → ℕ → ℕ → ℕ
size h r zero = h
size h r (suc j) = r

abbrev pub before : ℕ → ℕ → ℕ
before h zero = 0
before h (suc j) = h

-- a DW of so many rows and one column, with all crossings
abbrev pub column_wait : ℕ → Kind
column_wait zero = kind.Wire
column_wait (suc n) = kind.Dw (record { rows = suc n; cols = 1; cross = one_column (suc n); whole = is_column n })

abbrev pub spec_at : ℕ → ℕ → Name → NodeSpec
spec_at h r Env = Basic (kind.Seq (h + r))
spec_at h r Outer = Basic (kind.Seq 2)
spec_at h r (Inner j) = Basic (kind.Seq (size h r j))
spec_at h r (Calls j) = Basic (kind.Merge (size h r j))
spec_at h r (Wait j) = Basic (column_wait (size h r j))
spec_at h r (Returns j) = Basic (kind.Merge (size h r j))
spec_at h r (Gate j) = Basic kind.Iwire
spec_at h r (Spread j i) = Basic (kind.Fork 2)
spec_at h r (Share j i) = Basic (kind.Fork 2)

-- the request of a group at the outer SEQ, and the grant
abbrev pub outer_request : ℕ → ℕ → ℕ → Wire
outer_request h r j = by_size (size h r j) (Request j 0) (Call j)

abbrev pub outer_grant : ℕ → ℕ → ℕ → Wire
outer_grant h r j = by_size (size h r j) (Grant j 0) (Give j)

-- the wires at the ports of a component, inputs first, and at those of the environment, which has the ports of the SEQ
abbrev pub ports_at : ℕ → ℕ → Name → List Wire
ports_at h r Env = (row (Request 0) h ++ row (Request 1) r) ++ Token ∷ (row (Grant 0) h ++ row (Grant 1) r)
ports_at h r Outer = outer_request h r 0 ∷ outer_request h r 1 ∷ Token ∷ outer_grant h r 0 ∷ outer_grant h r 1 ∷ []
ports_at h r (Inner j) = row (Request j) (size h r j) ++ Free j ∷ row (Chosen j) (size h r j)
ports_at h r (Calls j) = row (Ask j) (size h r j) ++ Call j ∷ []
ports_at h r (Wait j) = row (Row j) (size h r j) ++ Give j ∷ row (Won j) (size h r j)
ports_at h r (Returns j) = row (Back j) (size h r j) ++ Return j ∷ []
ports_at h r (Gate j) = Return j ∷ Free j ∷ []
ports_at h r (Spread j i) = Chosen j i ∷ Ask j i ∷ Row j i ∷ []
ports_at h r (Share j i) = Won j i ∷ Grant j i ∷ Back j i ∷ []

-- The environment is at the wires from 0 on, in the order of its ports. Behind them stand the wires inside the first group,
-- which has two requests and more, and then those inside the second.
abbrev pub base : ℕ → ℕ → ℕ → ℕ
base h r zero = h + r + 1 + (h + r)
base h r (suc j) = h + r + 1 + (h + r) + (5 * h + 4)

abbrev pub number_of : ℕ → ℕ → Wire → ℕ
number_of h r (Request j i) = before h j + i
number_of h r Token = h + r
number_of h r (Grant j i) = h + r + 1 + before h j + i
number_of h r (Chosen j i) = base h r j + i
number_of h r (Ask j i) = base h r j + size h r j + i
number_of h r (Row j i) = base h r j + 2 * size h r j + i
number_of h r (Won j i) = base h r j + 3 * size h r j + i
number_of h r (Back j i) = base h r j + 4 * size h r j + i
number_of h r (Call j) = base h r j + 5 * size h r j
number_of h r (Give j) = base h r j + 5 * size h r j + 1
number_of h r (Return j) = base h r j + 5 * size h r j + 2
number_of h r (Free j) = base h r j + 5 * size h r j + 3

-- the components of a group of so many requests
abbrev pub group : ℕ → ℕ → List Name
group j n = by_size n [] (Inner j ∷ Calls j ∷ Wait j ∷ Returns j ∷ Gate j
    ∷ (map (Spread j) (range_with_len 0 n) ++ map (Share j) (range_with_len 0 n)))

abbrev pub components : ℕ → ℕ → List Name
components h r = Outer ∷ (group 0 h ++ group 1 r)

abbrev pub sequencer_chart : ℕ → ℕ → Chart Name Wire
sequencer_chart h r = record {
  env = Env;
  parts = components h r;
  spec = spec_at h r;
  ports = ports_at h r;
  number = number_of h r;
  many = base h r 1 + by_size r 0 (5 * r + 4);
}

-- ---- the layer of a SEQ

abbrev pub IsSequencer : Kind → Type 0
IsSequencer kind.Wire = ⊥
IsSequencer kind.Iwire = ⊥
IsSequencer kind.Source = ⊥
IsSequencer kind.Sink = ⊥
IsSequencer (kind.Fork n) = ⊥
IsSequencer (kind.C n) = ⊥
IsSequencer (kind.Merge n) = ⊥
IsSequencer kind.Toggle = ⊥
IsSequencer (kind.Dw s) = ⊥
IsSequencer (kind.Seq k) = ⊤

-- the layer of a SEQ of k requests
abbrev pub sequencer_circuit : ℕ → Circuit
sequencer_circuit k = charted (sequencer_chart (half k) (k - half k))

-- the layer, or nothing for a kind that is two-way
abbrev pub sequencer_layer : Kind → Option Circuit
sequencer_layer kind.Wire = None
sequencer_layer kind.Iwire = None
sequencer_layer kind.Source = None
sequencer_layer kind.Sink = None
sequencer_layer (kind.Fork n) = None
sequencer_layer (kind.C n) = None
sequencer_layer (kind.Merge n) = None
sequencer_layer kind.Toggle = None
sequencer_layer (kind.Dw s) = None
sequencer_layer (kind.Seq k) = if at_most_two k then None else Some (sequencer_circuit k)

abbrev pub IsSequencerLayer : Kind → Option Circuit → Type 0
IsSequencerLayer k net = net ≡ sequencer_layer k
