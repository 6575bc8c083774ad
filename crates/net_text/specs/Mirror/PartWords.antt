-- Mirror of the reader of a component line: what its words tell.
use Rattle.std.specs.Prelude.{◌≡◌, ℕ, ◌==◌, ◌+◌, ◌<◌, ◌&&◌, nat_lt, ◌^◌, List, [], ◌∷◌, ◌++◌, length, codes, decimal, Option, Some, None, if◌then◌else◌, ⊤}
use Rattle.std.specs.List.{slice_split}
use Rattle.std.specs.Str.{bytes_eq}
use Rattle.cmd_tree.specs.declared.limits.TheConstants.{MAX_NETLIST_WIRES}
use Rattle.basic_kinds.specs.declared.kind.Kind.{Kind}
use Rattle.basic_kinds.specs.declared.kind.Kind.TheVariants.{Wire, Iwire, Source, Sink, Fork, C, Merge, Toggle, Dw, Seq}
use Rattle.basic_kinds.specs.declared.shape.Shape.{Shape}
use Rattle.basic_kinds.specs.Kinds.{inputs_of, outputs_of, IsWide}
use Rattle.net_core.specs.declared.spec.NodeSpec.TheVariants.{Kind as Basic}
use Rattle.net_core.specs.Wiring.{Node}
use Rattle.text_lines.specs.Decimals.{value_of}
use Rattle.text_lines.specs.Pieces.{pieces}

-- the number that is written as this word, below the bound
abbrev pub number_of : ℕ → List ℕ → Option ℕ
number_of bound w = if bytes_eq w (decimal (value_of w)) && nat_lt (value_of w) bound then Some (value_of w) else None

abbrev pub and_then : {A B : Type 0} → Option A → (A → Option B) → Option B
and_then None f = None
and_then (Some a) f = f a

-- the items so far, and those of the words up to a sign; and the words behind it
abbrev pub items_until : {A : Type 0} → (List ℕ → Option A) → List ℕ → List A → List (List ℕ) → Option (List A × List (List ℕ))
items_until item sign xs [] = None
items_until item sign xs (w ∷ ws) =
    if bytes_eq w sign then Some (xs, ws) else and_then (item w) (λ x. items_until item sign (xs ++ x ∷ []) ws)

-- the numbers so far, and those of the words up to the sign `>`; and the words behind it
abbrev pub inputs_in : List ℕ → List (List ℕ) → Option (List ℕ × List (List ℕ))
inputs_in ns ws = items_until (number_of MAX_NETLIST_WIRES) (codes ">") ns ws

-- the numbers so far, and those of all words
abbrev pub numbers_in : List ℕ → List (List ℕ) → Option (List ℕ)
numbers_in ns [] = Some ns
numbers_in ns (w ∷ ws) = and_then (number_of MAX_NETLIST_WIRES w) (λ n. numbers_in (ns ++ n ∷ []) ws)

-- the wires of a component, of which the first are its inputs
pub record Ends : Type 0 where
  pub inputs : ℕ
  pub ends : List ℕ

abbrev pub ends_behind : List ℕ × List (List ℕ) → Option Ends
ends_behind p = and_then (numbers_in p.0 p.1) (λ ns. Some (record { inputs = length p.0; ends = ns }))

abbrev pub ends_in : List (List ℕ) → Option Ends
ends_in ws = and_then (inputs_in [] ws) ends_behind

-- a row and a column
abbrev pub crossing_in : List (List ℕ) → Option (ℕ × ℕ)
crossing_in [] = None
crossing_in (a ∷ []) = None
crossing_in (a ∷ b ∷ []) = and_then (number_of (2 ^ 32) a) (λ i. and_then (number_of (2 ^ 32) b) (λ j. Some (i, j)))
crossing_in (a ∷ b ∷ c ∷ ps) = None

abbrev pub crossing_of : List ℕ → Option (ℕ × ℕ)
crossing_of w = crossing_in (pieces 46 w)

-- the crossings so far, and those of the words up to the sign `:`; and the words behind it
abbrev pub crossings_in : List (ℕ × ℕ) → List (List ℕ) → Option (List (ℕ × ℕ) × List (List ℕ))
crossings_in ps ws = items_until crossing_of (codes ":") ps ws

-- the first number, and the words behind it
abbrev pub number_in : List (List ℕ) → Option (ℕ × List (List ℕ))
number_in [] = None
number_in (w ∷ ws) = and_then (number_of (2 ^ 32) w) (λ n. Some (n, ws))

-- rows, columns and crossings as they are written, whether or not they are those of a shape
pub record Wait : Type 0 where
  pub rows : ℕ
  pub cols : ℕ
  pub cross : List (ℕ × ℕ)
  pub ends : Ends

abbrev pub wait_ends : ℕ → ℕ → List (ℕ × ℕ) × List (List ℕ) → Option Wait
wait_ends rows cols x = and_then (ends_in x.1) (λ e. Some (record { rows = rows; cols = cols; cross = x.0; ends = e }))

abbrev pub wait_crossings : ℕ → ℕ × List (List ℕ) → Option Wait
wait_crossings rows c = and_then (crossings_in [] c.1) (wait_ends rows c.0)

abbrev pub wait_cols : ℕ × List (List ℕ) → Option Wait
wait_cols r = and_then (number_in r.1) (wait_crossings r.0)

abbrev pub wait_in : List (List ℕ) → Option Wait
wait_in ws = and_then (number_in ws) wait_cols

-- ---- kinds by name
abbrev pub name_of : Kind → List ℕ
name_of Wire = codes "WIRE"
name_of Iwire = codes "IWIRE"
name_of Source = codes "SOURCE"
name_of Sink = codes "SINK"
name_of (Fork n) = codes "FORK"
name_of (C n) = codes "C"
name_of (Merge n) = codes "MERGE"
name_of Toggle = codes "TOGGLE"
name_of (Dw s) = codes "DW"
name_of (Seq k) = codes "SEQ"

-- the kind of a name and numbers of wires; a DW is told by its shape
abbrev pub kind_named : List ℕ → ℕ → ℕ → Option Kind
kind_named n inputs outputs =
    if bytes_eq n (codes "WIRE") then Some Wire else if bytes_eq n (codes "IWIRE") then Some Iwire
    else if bytes_eq n (codes "SOURCE") then Some Source else if bytes_eq n (codes "SINK") then Some Sink
    else if bytes_eq n (codes "FORK") then Some (Fork outputs) else if bytes_eq n (codes "C") then Some (C inputs)
    else if bytes_eq n (codes "MERGE") then Some (Merge inputs) else if bytes_eq n (codes "TOGGLE") then Some Toggle
    else if bytes_eq n (codes "SEQ") then Some (Seq outputs) else None

-- a kind without a shape
abbrev pub IsPlain : Kind → Type 0
IsPlain (Dw s) = ⊥
IsPlain Wire = ⊤
IsPlain Iwire = ⊤
IsPlain Source = ⊤
IsPlain Sink = ⊤
IsPlain (Fork n) = ⊤
IsPlain (C n) = ⊤
IsPlain (Merge n) = ⊤
IsPlain Toggle = ⊤
IsPlain (Seq k) = ⊤

-- the component of this name with these wires, of which the first are inputs
pub record IsPlainPart (name : List ℕ) (inputs : ℕ) (ends : List ℕ) (x : Node) : Type 0 where
  pub kind : Kind
  pub is : x ≡ record { spec = Basic kind; ends = ends }
  pub plain : IsPlain kind
  pub named : name_of kind ≡ name
  pub wide : IsWide kind
  pub ins : inputs_of kind ≡ inputs
  pub outs : inputs + outputs_of kind ≡ length ends
  pub few : length ends < 2 ^ 28

-- the decision wait that is written so
pub record IsWaitPart (w : Wait) (x : Node) : Type 0 where
  pub shape : Shape
  pub is : x ≡ record { spec = Basic (Dw shape); ends = w.ends.ends }
  pub rows : shape.rows ≡ w.rows
  pub cols : shape.cols ≡ w.cols
  pub cross : shape.cross ≡ w.cross
  pub ins : w.rows + w.cols ≡ w.ends.inputs
  pub outs : w.ends.inputs + length w.cross ≡ length w.ends.ends
  pub few : length w.ends.ends < 2 ^ 28

abbrev pub IsNoPlainPart : List ℕ → ℕ → List ℕ → Type 0
IsNoPlainPart name inputs ends = (x : Node) → IsPlainPart name inputs ends x → ⊥

abbrev pub IsNoWaitPart : Wait → Type 0
IsNoWaitPart w = (x : Node) → IsWaitPart w x → ⊥
