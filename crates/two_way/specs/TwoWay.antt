-- The two-way kinds, and how far the others are from them.
use Rattle.std.specs.Prelude.{◌≡◌, ℕ, ◌+◌, ◌≤◌, Bool, true, false, not, ◌&&◌, nat_eq, nat_lt, if◌then◌else◌, List, [], ◌∷◌, length}
use Rattle.basic_kinds.specs.declared.shape.Shape.{Shape}
use Rattle.basic_kinds.specs.declared.kind.Kind.{Kind}
use Rattle.basic_kinds.specs.declared.kind.Kind.TheVariants.{Wire, Iwire, Source, Sink, Fork, C, Merge, Toggle, Dw, Seq}
use Rattle.basic_kinds.specs.Sorts.{Wires, Iwires, Sources, Sinks, Forks, Joins, Merges, Toggles}
use Rattle.basic_kinds.specs.Sums.{Counted, One, Wide, Wait, Sequencer}
use Rattle.basic_kinds.specs.ShapeParts.{part_names}

-- all crossings of the shape are linked by shared rows and columns
abbrev pub is_connected : Shape → Bool
is_connected s = nat_eq (length (part_names s.rows s.cross)) 1

abbrev pub at_most_two : ℕ → Bool
at_most_two n = nat_lt n 3

-- a FORK, C, MERGE or SEQ of width 2, a DW of one connected shape with at most two rows and two columns that is not one
-- by one, and every kind that has no width
abbrev pub is_two_way : Kind → Bool
is_two_way Wire = true
is_two_way Iwire = true
is_two_way Source = true
is_two_way Sink = true
is_two_way (Fork n) = at_most_two n
is_two_way (C n) = at_most_two n
is_two_way (Merge n) = at_most_two n
is_two_way Toggle = true
is_two_way (Dw s) = is_connected s && (at_most_two s.rows && (at_most_two s.cols && not (nat_eq (length s.cross) 1)))
is_two_way (Seq k) = at_most_two k

-- a measure that falls from each kind that is split to what it is split into
abbrev pub width : Kind → ℕ
width Wire = 0
width Iwire = 0
width Source = 0
width Sink = 0
width (Fork n) = n
width (C n) = n
width (Merge n) = n
width Toggle = 0
width (Dw s) = s.rows + s.cols
width (Seq k) = k + k

-- nothing where the kind is two-way
abbrev pub weight : Kind → ℕ
weight k = if is_two_way k then 0 else width k

-- a kind as the sums count it
abbrev pub counted_as : Kind → Counted
counted_as Wire = One Wires
counted_as Iwire = One Iwires
counted_as Source = One Sources
counted_as Sink = One Sinks
counted_as (Fork n) = Wide Forks n
counted_as (C n) = Wide Joins n
counted_as (Merge n) = Wide Merges n
counted_as Toggle = One Toggles
counted_as (Dw s) = Wait s.rows s.cols s.cross
counted_as (Seq k) = Sequencer k
