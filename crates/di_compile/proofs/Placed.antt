-- The networks of the processes of a weave in their places.
use Rattle.std.proofs.Common.{◌≡◌, ℕ, zero, suc, ◌+◌, ◌-◌, ◌*◌, ◌<◌, ◌≤◌, ◌^◌, List, [], ◌∷◌, ◌++◌, take, length, slice_get, get_or, Option, None, Some, refl, sym, ap, ◌∙◌, subst, arith, if◌then◌else◌, IsTrue}
use Rattle.std.specs.Prelude.{drop, not}
use Rattle.std.specs.List.{AllByRecursion, sum_by}
use Rattle.std.proofs.lemmas.List.Sums.{sum_by-cons}
use Rattle.std.proofs.lemmas.Option.{slice_get-get_or}
use Rattle.cmd_tree.specs.declared.command.Command.{Command}
use Rattle.basic_kinds.specs.Sorts.{Sort, how_many}
use Rattle.basic_kinds.specs.Sums.{Counted, wide_sum}
use Rattle.di_grammar.specs.Admitted.{Admitted}
use Rattle.place_graph.specs.Sums.{command_sum}
use Rattle.net_core.specs.declared.spec.NodeSpec.{NodeSpec}
use Rattle.net_core.specs.declared.spec.NodeSpec.TheVariants.{Kind, Cmd}
use Rattle.net_core.specs.Specs.{is_kind}
use Rattle.net_core.specs.Wiring.{Node, Circuit, IsNetwork, IsClosed}
use Rattle.net_core.specs.Networks.{IsClean, Correct}
use Rattle.net_core.specs.Renumbering.{sum_of_parts}
use Rattle.net_sums.specs.NodeSums.{IsSum, node_sum}
use Rattle.net_sums.proofs.WeaveSum.{weave_sum}
use Rattle.plain_split.specs.OneWaitSums.{is_component}
use Rattle.substitute.specs.Splice.{spliced, is_inner}
use Rattle.substitute.proofs.Tables.{rank_few}
use Rattle.substitute.proofs.Turns.{each_fits}
use Rattle.substitute.specs.Splices.{all_spliced, FitEach, wires_in, EachPart, Serves, ServeEach, PassAfter, sum_after}
use Rattle.weave_split.specs.WeaveNet.{IsWeaveNet}
use Rattle.weave_split.specs.WeaveParts.{AreParts, part_sum}
use Rattle.di_compile.specs.Compiling.{number_of}
use Rattle.di_compile.specs.Mirror.InPlaces.{IsProcessNet, IsInPlace, AreInPlaces}
use Rattle.di_compile.proofs.Built.{many_sum}

pub as_many : (xs : List Node) (ps : List (Option Circuit)) → AreInPlaces xs ps → length ps ≡ length xs
as_many [] [] h = refl
as_many [] (p ∷ ps) h = absurd h
as_many (x ∷ xs) [] h = absurd h
as_many (x ∷ xs) (p ∷ ps) h = omega (arith, as_many xs ps h.1)

serves : (d : Command) (m : Circuit) → IsProcessNet d m → Serves (Cmd d) m
serves d m n = record { network = n.right.correct.network; closed = n.right.correct.closed; clean = n.right.clean; specified = n.right.correct.specified }

pub serve_each : (xs : List Node) (ps : List (Option Circuit)) → AreInPlaces xs ps → ServeEach xs ps
serve_each [] [] h = tt
serve_each [] (p ∷ ps) h = absurd h
serve_each (x ∷ xs) [] h = absurd h
serve_each (x ∷ xs) (None ∷ ps) h = serve_each xs ps h.1
serve_each (x ∷ xs) (Some m ∷ ps) h = (by x.spec h.0, serve_each xs ps h.1)
  where
    by : (s : NodeSpec) → IsInPlace s (Some m) → Serves s m
    by (Kind k) i = absurd i
    by (Cmd d) i = serves d m i

pub correct_each : (xs : List Node) (ps : List (Option Circuit)) → AreInPlaces xs ps → EachPart (λ m. (t : NodeSpec) × Correct m t) ps
correct_each [] [] h = tt
correct_each [] (p ∷ ps) h = absurd h
correct_each (x ∷ xs) [] h = absurd h
correct_each (x ∷ xs) (None ∷ ps) h = (tt, correct_each xs ps h.1)
correct_each (x ∷ xs) (Some m ∷ ps) h = (by x.spec h.0, correct_each xs ps h.1)
  where
    by : (s : NodeSpec) → IsInPlace s (Some m) → (t : NodeSpec) × Correct m t
    by (Kind k) i = absurd i
    by (Cmd d) i = (Cmd d, i.right.correct)

pub clean_each : (xs : List Node) (ps : List (Option Circuit)) → AreInPlaces xs ps → EachPart IsClean ps
clean_each [] [] h = tt
clean_each [] (p ∷ ps) h = absurd h
clean_each (x ∷ xs) [] h = absurd h
clean_each (x ∷ xs) (None ∷ ps) h = (tt, clean_each xs ps h.1)
clean_each (x ∷ xs) (Some m ∷ ps) h = (by x.spec h.0, clean_each xs ps h.1)
  where
    by : (s : NodeSpec) → IsInPlace s (Some m) → IsClean m
    by (Kind k) i = absurd i
    by (Cmd d) i = i.right.clean

pub kinds_after : (xs : List Node) (ps : List (Option Circuit)) → AreInPlaces xs ps → PassAfter is_kind xs ps
kinds_after [] [] h = tt
kinds_after [] (p ∷ ps) h = absurd h
kinds_after (x ∷ xs) [] h = absurd h
kinds_after (x ∷ xs) (None ∷ ps) h = (by x.spec h.0, kinds_after xs ps h.1)
  where
    by : (s : NodeSpec) → IsInPlace s None → IsTrue (is_kind s)
    by (Kind k) i = refl
    by (Cmd d) i = absurd i
kinds_after (x ∷ xs) (Some m ∷ ps) h = (by x.spec h.0, kinds_after xs ps h.1)
  where
    by : (s : NodeSpec) → IsInPlace s (Some m) → AllByRecursion (λ y. IsTrue (is_kind y.spec)) (drop 1 m.nodes)
    by (Kind k) i = absurd i
    by (Cmd d) i = i.right.basic

-- each process adds fewer than 2^20 wires
pub few_wires : (xs : List Node) (ps : List (Option Circuit)) → AreInPlaces xs ps → wires_in ps ≤ how_many (λ (x : Node). not (is_kind x.spec)) xs * 2 ^ 20
few_wires [] [] h = omega arith
few_wires [] (p ∷ ps) h = absurd h
few_wires (x ∷ xs) [] h = absurd h
few_wires (x ∷ xs) (None ∷ ps) h = by x.spec h.0 (few_wires xs ps h.1)
  where
    by : (s : NodeSpec) → IsInPlace s None → wires_in ps ≤ how_many (λ (x : Node). not (is_kind x.spec)) xs * 2 ^ 20
        → wires_in ps ≤ ((if not (is_kind s) then 1 else 0) + how_many (λ (x : Node). not (is_kind x.spec)) xs) * 2 ^ 20
    by (Kind k) i l = omega (arith, l)
    by (Cmd d) i l = absurd i
few_wires (x ∷ xs) (Some m ∷ ps) h = by x.spec h.0 (few_wires xs ps h.1)
  where
    by : (s : NodeSpec) → IsInPlace s (Some m) → wires_in ps ≤ how_many (λ (x : Node). not (is_kind x.spec)) xs * 2 ^ 20
        → m.wires + wires_in ps ≤ ((if not (is_kind s) then 1 else 0) + how_many (λ (x : Node). not (is_kind x.spec)) xs) * 2 ^ 20
    by (Kind k) i l = absurd i
    by (Cmd d) i l = omega (arith, i.few, l)

spliced_wires : (c m : Circuit) (k : ℕ) → (spliced c k m).wires ≤ c.wires + m.wires
unfolding spliced
spliced_wires c m k = omega (arith, rank_few (is_inner m) m.wires)

all_wires : (c : Circuit) (k : ℕ) (ps : List (Option Circuit)) → (all_spliced c k ps).wires ≤ c.wires + wires_in ps
all_wires c k [] = omega arith
all_wires c k (None ∷ ps) = all_wires c (suc k) ps
all_wires c k (Some m ∷ ps) = omega (arith, all_wires (spliced c k m) (k + (length m.nodes - 1)) ps, spliced_wires c m k)

-- one, where it is of the sort
abbrev pub one_of : Sort → NodeSpec → ℕ
one_of s x = if is_component s x then 1 else 0

pub placed_sum : (s : Sort) (xs : List Node) (ps : List (Option Circuit)) → AreInPlaces xs ps → sum_after (one_of s) xs ps ≡ sum_by (λ (x : Node). part_sum s x.spec) xs
placed_sum s [] [] h = refl
placed_sum s [] (p ∷ ps) h = absurd h
placed_sum s (x ∷ xs) [] h = absurd h
placed_sum s (x ∷ xs) (None ∷ ps) h = by x.spec h.0 ∙ ap (λ n. part_sum s x.spec + n) (placed_sum s xs ps h.1) ∙ sym (sum_by-cons (λ (x : Node). part_sum s x.spec) x xs)
  where
    by : (y : NodeSpec) → IsInPlace y None → one_of s y + sum_after (one_of s) xs ps ≡ part_sum s y + sum_after (one_of s) xs ps
    by (Kind k) i = refl
    by (Cmd d) i = absurd i
placed_sum s (x ∷ xs) (Some m ∷ ps) h = by x.spec h.0 ∙ ap (λ n. part_sum s x.spec + n) (placed_sum s xs ps h.1) ∙ sym (sum_by-cons (λ (x : Node). part_sum s x.spec) x xs)
  where
    by : (y : NodeSpec) → IsInPlace y (Some m) → sum_of_parts (one_of s) m + sum_after (one_of s) xs ps ≡ part_sum s y + sum_after (one_of s) xs ps
    by (Kind k) i = absurd i
    by (Cmd d) i = ap (λ n. n + sum_after (one_of s) xs ps) (sym (many_sum (is_component s) (drop 1 m.nodes)) ∙ i.numbers s)

-- the same by any sum
summed : (sum : Counted → Sort → ℕ) → IsSum sum → (s : Sort) (xs : List Node) (ps : List (Option Circuit)) → AreInPlaces xs ps → sum_after (node_sum sum s) xs ps ≡ sum_by (λ (x : Node). node_sum sum s x.spec) xs
summed sum w s [] [] h = refl
summed sum w s [] (p ∷ ps) h = absurd h
summed sum w s (x ∷ xs) [] h = absurd h
summed sum w s (x ∷ xs) (None ∷ ps) h = ap (λ n. node_sum sum s x.spec + n) (summed sum w s xs ps h.1) ∙ sym (sum_by-cons (λ (x : Node). node_sum sum s x.spec) x xs)
summed sum w s (x ∷ xs) (Some m ∷ ps) h = omega (arith, by x.spec h.0, summed sum w s xs ps h.1, sum_by-cons (λ (x : Node). node_sum sum s x.spec) x xs)
  where
    by : (y : NodeSpec) → IsInPlace y (Some m) → sum_of_parts (node_sum sum s) m ≡ node_sum sum s y
    by (Kind k) i = absurd i
    by (Cmd d) i = i.sums sum w s

-- one more
place_next : (xs : List Node) (n : ℕ) (x : Node) (ps : List (Option Circuit)) (p : Option Circuit) → slice_get xs n ≡ Some x
    → AreInPlaces (take n xs) ps → IsInPlace x.spec p → AreInPlaces (take (suc n) xs) (ps ++ p ∷ [])
place_next [] n x ps p e h i = absurd (cc)
place_next (y ∷ xs) zero x [] p e h i = let same : x ≡ y = cc in (subst (λ (z : Node). IsInPlace z.spec p) same i, tt)
place_next (y ∷ xs) zero x (q ∷ ps) p e h i = absurd h
place_next (y ∷ xs) (suc n) x [] p e h i = absurd h
place_next (y ∷ xs) (suc n) x (q ∷ ps) p e h i = (h.0, place_next xs n x ps p e h.1 i)

pub placed_next : (xs : List Node) (n : ℕ) (x : Node) (ps : List (Option Circuit)) (p : Option Circuit) → 1 ≤ n → slice_get xs n ≡ Some x
    → AreInPlaces (take (n - 1) (drop 1 xs)) ps → IsInPlace x.spec p → AreInPlaces (take (n + 1 - 1) (drop 1 xs)) (ps ++ p ∷ [])
placed_next [] n x ps p l e h i = absurd (cc)
placed_next (y ∷ xs) zero x ps p l e h i = absurd (omega (arith, l))
placed_next (y ∷ xs) (suc n) x ps p l e h i =
    let down : suc n - 1 ≡ n = omega arith in
    let up : suc n + 1 - 1 ≡ suc n = omega arith in
    subst (λ k. AreInPlaces (take k xs) (ps ++ p ∷ [])) (sym up) (place_next xs n x ps p e (subst (λ k. AreInPlaces (take k xs) ps) down h) i)

pub node_at : (xs : List Node) (n : ℕ) (x : Node) → n < length xs → x ≡ get_or xs n x → slice_get xs n ≡ Some x
node_at xs n x l e = slice_get-get_or xs n x l ∙ ap Some (sym e)

-- ---- the whole

module _ (c : Command) (weave : Circuit) (ps : List (Option Circuit)) (placed : AreInPlaces (drop 1 weave.nodes) ps) where
  pub sized : 0 < length weave.nodes → length ps + 1 ≡ length weave.nodes
  sized some = by weave.nodes some (as_many (drop 1 weave.nodes) ps placed)
    where
      by : (xs : List Node) → 0 < length xs → length ps ≡ length (drop 1 xs) → length ps + 1 ≡ length xs
      by [] l e = absurd (omega (arith, l))
      by (x ∷ xs) l e = omega (arith, e)

  pub fitting : IsNetwork weave → IsClosed weave → IsClean weave → FitEach weave 1 ps
  fitting network closed clean = each_fits weave ps network closed clean (serve_each (drop 1 weave.nodes) ps placed)

  pub few_whole : weave.wires < 2 ^ 20 → AreParts (drop 1 weave.nodes) → weave.wires + wires_in ps < 2 ^ 31
  few_whole few parts = omega (arith, few, parts.few, few_wires (drop 1 weave.nodes) ps placed)

  pub whole_few : (whole : Circuit) → whole ≡ all_spliced weave 1 ps → weave.wires < 2 ^ 20 → AreParts (drop 1 weave.nodes) → whole.wires < 2 ^ 31
  whole_few whole is few parts = omega (arith, ap (λ (n : Circuit). n.wires) is, all_wires weave 1 ps, few_whole few parts)

  pub whole_numbers : (whole : Circuit) (s : Sort) → sum_of_parts (one_of s) whole ≡ sum_after (one_of s) (drop 1 weave.nodes) ps
      → sum_of_parts (part_sum s) weave ≡ command_sum wide_sum c.procs (length c.names) s → number_of whole s ≡ command_sum wide_sum c.procs (length c.names) s
  whole_numbers whole s e k = many_sum (is_component s) (drop 1 whole.nodes) ∙ e ∙ placed_sum s (drop 1 weave.nodes) ps placed ∙ k

  pub whole_sums : (whole : Circuit) → ((f : NodeSpec → ℕ) → sum_of_parts f whole ≡ sum_after f (drop 1 weave.nodes) ps) → Admitted c.procs → IsWeaveNet c weave
      → (sum : Counted → Sort → ℕ) → IsSum sum → (s : Sort) → sum_of_parts (node_sum sum s) whole ≡ command_sum sum c.procs (length c.names) s
  whole_sums whole e admitted is sum w s = e (node_sum sum s) ∙ summed sum w s (drop 1 weave.nodes) ps placed ∙ weave_sum sum w c weave admitted is s
