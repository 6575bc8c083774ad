-- What stands for a kind in the basis two: a two-way kind stands for itself, and each kind has at most four outputs for each
-- component that stands for it.
use Rattle.std.proofs.Common.{◌≡◌, ◌≢◌, ℕ, zero, suc, ◌+◌, ◌*◌, ◌<◌, ◌≤◌, Bool, true, false, true≢false, not, nat_eq, nat_lt, refl, sym, ap, ◌∙◌, arith, if◌then◌else◌, eq-eqb, eqb-true, length}
use Rattle.std.specs.Prelude.{◌&&◌}
use Rattle.std.proofs.lemmas.Bool.Decides.{nat_tests}
use Rattle.basic_kinds.specs.declared.shape.Shape.{Shape}
use Rattle.basic_kinds.specs.declared.kind.Kind.{Kind}
use Rattle.basic_kinds.specs.declared.kind.Kind.TheVariants.{Wire, Iwire, Source, Sink, Fork, C, Merge, Toggle, Dw, Seq}
use Rattle.basic_kinds.specs.Kinds.{IsWellFormed, outputs_of}
use Rattle.basic_kinds.specs.ShapeParts.{part_names}
use Rattle.basic_kinds.specs.Sorts.{Sort, Wires, Iwires, Sources, Sinks, Forks, Joins, Merges, Toggles, Waits, Sequencers, is_of, same_sort}
use Rattle.basic_kinds.specs.Sums.{so_many, two_way_sum, wait_sum, sequencer_sum}
use Rattle.net_core.specs.declared.spec.NodeSpec.TheVariants.{Kind as Basic}
use Rattle.plain_split.proofs.OneWaitDrawn.{and_both}
use Rattle.two_way.specs.TwoWay.{is_two_way, is_connected, at_most_two, width, weight, counted_as}
use Rattle.net_layers.specs.TwoWayNets.{is_splittable_kind, two_way_parts}
use Rattle.net_layers.proofs.WaitParts.{lone_wait, few_crossings}

abbrev pub sort_of : Kind → Sort
sort_of Wire = Wires
sort_of Iwire = Iwires
sort_of Source = Sources
sort_of Sink = Sinks
sort_of (Fork n) = Forks
sort_of (C n) = Joins
sort_of (Merge n) = Merges
sort_of Toggle = Toggles
sort_of (Dw s) = Waits
sort_of (Seq k) = Sequencers

one_is : (k : Kind) (t : Sort) → so_many 1 (sort_of k) t ≡ (if is_of t k then 1 else 0)
one_is Wire Wires = refl
one_is Wire t = refl
one_is Iwire Iwires = refl
one_is Iwire t = refl
one_is Source Sources = refl
one_is Source t = refl
one_is Sink Sinks = refl
one_is Sink t = refl
one_is (Fork n) Forks = refl
one_is (Fork n) t = refl
one_is (C n) Joins = refl
one_is (C n) t = refl
one_is (Merge n) Merges = refl
one_is (Merge n) t = refl
one_is Toggle Toggles = refl
one_is Toggle t = refl
one_is (Dw s) Waits = refl
one_is (Dw s) t = refl
one_is (Seq k) Sequencers = refl
one_is (Seq k) t = refl

two_wide : (n : ℕ) → 2 ≤ n → nat_lt n 3 ≡ true → n ≡ 2
two_wide n wide narrow = grind (arith, nat_tests)

few_lines : (n : ℕ) → nat_lt n 3 ≡ true → n ≤ 2
few_lines n narrow = grind (arith, nat_tests)

not_one : (n : ℕ) → not (nat_eq n 1) ≡ true → n ≢ 1
not_one n h e = by (nat_eq n 1) h (eq-eqb n 1 e)
  where
    by : (b : Bool) → not b ≡ true → b ≡ true → ⊥
    by true x y = true≢false (sym x)
    by false x y = true≢false (sym y)

-- the facts of a two-way DW
record IsNarrow (s : Shape) : Type 0 where
  one : length (part_names s.rows s.cross) ≡ 1
  rows : s.rows ≤ 2
  columns : s.cols ≤ 2
  several : length s.cross ≢ 1

narrow : (s : Shape) → is_two_way (Dw s) ≡ true → IsNarrow s
narrow s h =
    let (connected, lines) = and_both (is_connected s) (at_most_two s.rows && (at_most_two s.cols && not (nat_eq (length s.cross) 1))) h in
    let (rows, rest) = and_both (at_most_two s.rows) (at_most_two s.cols && not (nat_eq (length s.cross) 1)) lines in
    let (columns, several) = and_both (at_most_two s.cols) (not (nat_eq (length s.cross) 1)) rest in record {
      one = eqb-true (length (part_names s.rows s.cross)) 1 connected;
      rows = few_lines s.rows rows;
      columns = few_lines s.cols columns;
      several = not_one (length s.cross) several;
    }

wait_alone : (s : Shape) → is_two_way (Dw s) ≡ true → (t : Sort) → wait_sum s.rows s.cols s.cross t ≡ so_many 1 Waits t
wait_alone s h t = let d = narrow s h in lone_wait s.rows s.cols s.cross s.whole d.one d.rows d.columns d.several t (s.rows + s.cols) (let z = s.whole.some_row in omega arith)

requests_alone : (t : Sort) → sequencer_sum 2 t ≡ so_many 1 Sequencers t
requests_alone t = let z : so_many 1 Sequencers t + 0 ≡ so_many 1 Sequencers t = omega arith in z

-- a two-way kind stands for itself
pub alone : (k : Kind) → IsWellFormed k → is_two_way k ≡ true → (t : Sort) → two_way_sum (counted_as k) t ≡ (if is_of t k then 1 else 0)
alone Wire f h t = one_is Wire t
alone Iwire f h t = one_is Iwire t
alone Source f h t = one_is Source t
alone Sink f h t = one_is Sink t
alone (Fork n) f h t = ap (λ m. two_way_sum (counted_as (Fork m)) t) (two_wide n f.wide h) ∙ one_is (Fork n) t
alone (C n) f h t = ap (λ m. two_way_sum (counted_as (C m)) t) (two_wide n f.wide h) ∙ one_is (C n) t
alone (Merge n) f h t = ap (λ m. two_way_sum (counted_as (Merge m)) t) (two_wide n f.wide h) ∙ one_is (Merge n) t
alone Toggle f h t = one_is Toggle t
alone (Dw s) f h t = wait_alone s h t ∙ one_is (Dw s) t
alone (Seq k) f h t = ap (λ m. sequencer_sum m t) (two_wide k f.wide h) ∙ requests_alone t ∙ one_is (Seq k) t

pub outputs_few : (k : Kind) → IsWellFormed k → is_splittable_kind k ≡ true → outputs_of k ≤ 4 * two_way_parts (Basic k)
outputs_few Wire f h = omega arith
outputs_few Iwire f h = omega arith
outputs_few Source f h = omega arith
outputs_few Sink f h = omega arith
outputs_few (Fork n) f h = let z = f.wide in omega arith
outputs_few (C n) f h = let z = f.wide in omega arith
outputs_few (Merge n) f h = let z = f.wide in omega arith
outputs_few Toggle f h = omega arith
outputs_few (Dw s) f h = omega (arith, few_crossings s.rows s.cols s.cross s.whole (narrow s h).rows (narrow s h).columns, wait_alone s h Waits)
outputs_few (Seq k) f h = omega (arith, two_wide k f.wide h, ap (λ m. sequencer_sum m Sequencers) (two_wide k f.wide h), requests_alone Sequencers)

-- what is not two-way has a weight
pub heavy : (k : Kind) → IsWellFormed k → is_two_way k ≡ false → 0 < weight k
heavy k f h = by (is_two_way k) h (wide k f h)
  where
    by : (b : Bool) → b ≡ false → 0 < width k → 0 < (if b then 0 else width k)
    by true e less = absurd (true≢false e)
    by false e less = less

    wide : (k : Kind) → IsWellFormed k → is_two_way k ≡ false → 0 < width k
    wide Wire f h = absurd (true≢false h)
    wide Iwire f h = absurd (true≢false h)
    wide Source f h = absurd (true≢false h)
    wide Sink f h = absurd (true≢false h)
    wide (Fork n) f h = let z = f.wide in omega arith
    wide (C n) f h = let z = f.wide in omega arith
    wide (Merge n) f h = let z = f.wide in omega arith
    wide Toggle f h = absurd (true≢false h)
    wide (Dw s) f h = let z = s.whole.some_row in omega arith
    wide (Seq k) f h = let z = f.wide in omega arith

pub light : (k : Kind) → is_two_way k ≡ true → weight k ≡ 0
light k h = ap (λ b. if b then 0 else width k) h
