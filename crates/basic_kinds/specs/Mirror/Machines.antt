-- The states of the machines, and the counts and the traces that they stand for.
use Rattle.std.specs.Prelude.{◌≡◌, ℕ, suc, ◌+◌, ◌<◌, Bool, true, false, not, List, length, slice_index_or, Option, Some, None}
use mathlib.Core.Bool.{beq}
use Rattle.basic_kinds.specs.Mirror.Sides.{Even, Ahead}
use Rattle.cmd_tree.specs.Rounds.{counts}
use Rattle.basic_kinds.specs.declared.kind.Kind.{Kind}
use Rattle.basic_kinds.specs.declared.kind.Kind.TheVariants as kind
use Rattle.basic_kinds.specs.declared.machine.Machine.{Machine}
use Rattle.basic_kinds.specs.declared.machine.Machine.TheVariants.{Wire, Iwire, Source, Sink, Fork, C, Merge, Toggle, Dw, Seq}
use Rattle.basic_kinds.specs.declared.machine_turns.WireMachine.{WireMachine}
use Rattle.basic_kinds.specs.declared.machine_turns.OnceMachine.{OnceMachine}
use Rattle.basic_kinds.specs.declared.machine_turns.MergeMachine.{MergeMachine}
use Rattle.basic_kinds.specs.declared.machine_turns.ToggleMachine.{ToggleMachine}
use Rattle.basic_kinds.specs.declared.machine_rounds.Round.{Round}
use Rattle.basic_kinds.specs.declared.machine_rounds.ForkMachine.{ForkMachine}
use Rattle.basic_kinds.specs.declared.machine_rounds.JoinMachine.{JoinMachine}
use Rattle.basic_kinds.specs.declared.machine_seq.SeqMachine.{SeqMachine}
use Rattle.basic_kinds.specs.declared.machine_wait.WaitMachine.{WaitMachine}
use Rattle.basic_kinds.specs.Kinds.{IsWide}
use Rattle.basic_kinds.specs.KindTraces.{KindTrace}
use Rattle.basic_kinds.specs.KindCounts.{grants_in, row_outs, col_outs}
use Rattle.basic_kinds.specs.Sorts.{how_many}
use Rattle.basic_kinds.specs.Totals.{total}

-- f is one more than g where ahead, and equal where not
abbrev pub Leads : Bool → ℕ → ℕ → Type 0
Leads true f g = f ≡ suc g
Leads false f g = f ≡ g

-- ---- the counts that each machine stands for

abbrev pub WireCounts : WireMachine → (ℕ → ℕ) → Type 0
WireCounts m c = Leads m.full (c 0) (c 1)

-- an IWIRE began full
abbrev pub IwireCounts : WireMachine → (ℕ → ℕ) → Type 0
IwireCounts m c = Leads m.full (suc (c 0)) (c 1)

abbrev pub OnceCounts : OnceMachine → (ℕ → ℕ) → Type 0
OnceCounts m c = Leads m.spent (c 0) 0

abbrev pub MergeCounts : MergeMachine → (ℕ → ℕ) → Type 0
MergeCounts m c = Leads m.full (total m.width c) (c m.width)

abbrev pub ToggleCounts : ToggleMachine → (ℕ → ℕ) → Type 0
ToggleCounts m c = Leads m.full (c 0) (c 1 + c 2) × Leads m.second (c 1) (c 2)

-- a port of a round is still to come where its bit differs from the turn
abbrev pub to_come : Bool → Bool → Bool
to_come turn bit = not (beq bit turn)

-- s says how often each port has come: round times, or once less where it is still to come
pub record RoundOf (came : List Bool) (turn : Bool) (left : ℕ) (s : ℕ → ℕ) (round : ℕ) : Type 0 where
  pub each : (i : ℕ) → i < length came → Leads (to_come turn (slice_index_or came i false)) round (s i)
  pub many : left ≡ how_many (to_come turn) came

abbrev pub RoundCounts : Round → (ℕ → ℕ) → ℕ → Type 0
RoundCounts m s round = RoundOf m.came.items m.turn m.left s round

-- the input of a FORK begins a round of its outputs
abbrev pub ForkCounts : ForkMachine → (ℕ → ℕ) → Type 0
ForkCounts m c = RoundCounts m.outputs (λ i. c (1 + i)) (c 0)

-- the output of a C ends a round of its inputs
abbrev pub JoinCounts : JoinMachine → (ℕ → ℕ) → Type 0
JoinCounts m c = RoundCounts m.inputs c (suc (c (length m.inputs.came.items)))

-- of a SEQ, which requests wait for their grant, and whether a token does
pub record SeqOf (asked : List Bool) (token : Bool) (c : ℕ → ℕ) : Type 0 where
  pub each : (i : ℕ) → i < length asked → Leads (slice_index_or asked i false) (c i) (c (length asked + 1 + i))
  pub tokens : Leads token (c (length asked)) (grants_in (length asked) c)

abbrev pub SeqCounts : SeqMachine → (ℕ → ℕ) → Type 0
SeqCounts m c = SeqOf m.asked.items m.token c

-- f is how often each of n rows has come, g how often its outputs have: the one that is pending, if any
abbrev pub Pends : Option ℕ → ℕ → (ℕ → ℕ) → (ℕ → ℕ) → Type 0
Pends None n f g = Even n f g
Pends (Some i) n f g = Ahead n f g i

abbrev pub WaitCounts : WaitMachine → (ℕ → ℕ) → Type 0
WaitCounts m c = Pends m.row m.shape.rows c (row_outs m.shape c)
    × Pends m.col m.shape.cols (λ j. c (m.shape.rows + j)) (col_outs m.shape c)

-- ---- any machine: its kind, the counts that it stands for, and the traces

abbrev pub kind_of : Machine → Kind
kind_of (Wire m) = kind.Wire
kind_of (Iwire m) = kind.Iwire
kind_of (Source m) = kind.Source
kind_of (Sink m) = kind.Sink
kind_of (Fork m) = kind.Fork (length m.outputs.came.items)
kind_of (C m) = kind.C (length m.inputs.came.items)
kind_of (Merge m) = kind.Merge m.width
kind_of (Toggle m) = kind.Toggle
kind_of (Dw m) = kind.Dw m.shape
kind_of (Seq m) = kind.Seq (length m.asked.items)

abbrev pub MachineCounts : Machine → (ℕ → ℕ) → Type 0
MachineCounts (Wire m) c = WireCounts m c
MachineCounts (Iwire m) c = IwireCounts m c
MachineCounts (Source m) c = OnceCounts m c
MachineCounts (Sink m) c = OnceCounts m c
MachineCounts (Fork m) c = ForkCounts m c
MachineCounts (C m) c = JoinCounts m c
MachineCounts (Merge m) c = MergeCounts m c
MachineCounts (Toggle m) c = ToggleCounts m c
MachineCounts (Dw m) c = WaitCounts m c
MachineCounts (Seq m) c = SeqCounts m c

-- a machine stands for the traces of its kind that have the counts of its state
pub record Stands (m : Machine) (t : List ℕ) : Type 0 where
  pub wide : IsWide (kind_of m)
  pub trace : KindTrace (kind_of m) t
  pub counted : MachineCounts m (counts t)
