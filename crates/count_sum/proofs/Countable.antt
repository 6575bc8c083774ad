-- Numbers of 32 bits count what is counted of an admitted command.
use Rattle.std.specs.Prelude.{if◌then◌else◌}
use Rattle.std.specs.List.{range_with_len, AllByRecursion}
use Rattle.std.proofs.Common.{◌≡◌, ℕ, ◌+◌, ◌-◌, ◌<◌, ◌≤◌, Bool, true, false, List, [], ◌∷◌, ◌++◌, length, map, Option, None, Some, refl, arith}
use Rattle.std.proofs.lemmas.List.{length-map}
use Rattle.cmd_tree.specs.declared.command.Command.{Command}
use Rattle.cmd_tree.specs.declared.tree.Proc.{Proc}
use Rattle.cmd_tree.specs.Tree.{TSeq, TSeqs, TBurst, TAlt, Done, Then, places_of}
use Rattle.cmd_tree.specs.Limits.{IsSeq, IsPart, IsProc, count_of, of_part, places_of_all}
use Rattle.basic_kinds.specs.Sorts.{Iwires, Sources, Forks, Joins, Merges, Wires, Toggles}
use Rattle.basic_kinds.specs.ShapeParts.{part_at, part_names}
use Rattle.basic_kinds.specs.Sums.{Counted, One, Wide}
use Rattle.di_grammar.specs.Admitted.{Admitted}
use Rattle.di_grammar.specs.Outputs.{out_of}
use Rattle.di_grammar.specs.Sums.{gift, loan, all_of, of_several, plain_ring, release_ring, after_input, one_input, body_ring, ring_of_parts, ring, ring_or_none, rings, grants, made, standing, meeting, woven}
use Rattle.place_graph.specs.declared.wait_graph.Act.{Act}
use Rattle.place_graph.specs.declared.wait_graph.Cross.{Cross}
use Rattle.place_graph.specs.declared.wait_graph.Start.{Start}
use Rattle.place_graph.specs.declared.wait_graph.Start.TheVariants as start
use Rattle.place_graph.specs.declared.wait_graph.WaitGraph.{WaitGraph}
use Rattle.place_graph.specs.declared.styles.SplitStyle.{SplitStyle}
use Rattle.place_graph.specs.declared.styles.SplitStyle.TheVariants.{OneWait, Rounds, Token}
use Rattle.place_graph.specs.Graph.{graph_of}
use Rattle.place_graph.specs.Style.{has_entry, style_of}
use Rattle.place_graph.specs.Sums as graph
use Rattle.place_graph.specs.Sums.{symbols_at, outs_at, entries_of, givers, all_acts, joins, calls, shows, first_act, gate, begins_at, spreads, is_one, is_straight, directs, exits, moves, returns, leading, first_wait, pairs, meetings, of_style, counted, processes, of_command}
use Rattle.count_sum.specs.Mirror.Graphs.{IsReadable, IsReadableProcess}
use Rattle.count_sum.specs.Mirror.Waits.{IsCountable, IsInRange}
use Rattle.count_sum.proofs.ReadableGraphs.{all_readable}
use Rattle.count_sum.proofs.RingSteps.{all_long}
use Rattle.count_sum.proofs.TwoWayBound.{alternatives, full_seq, most}
use Rattle.count_sum.proofs.WaitShapes.{part_range}

abbrev AreCountable : List Counted → Type 0
AreCountable xs = AllByRecursion IsCountable xs

both : (xs ys : List Counted) → AreCountable xs → AreCountable ys → AreCountable (xs ++ ys)
both [] ys h k = k
both (x ∷ xs) ys h k = (h.0, both xs ys h.1 k)

mapped : {A : Type 0} (f : A → Counted) (is : List A) → ((i : A) → IsCountable (f i)) → AreCountable (map f is)
mapped f [] h = tt
mapped f (i ∷ is) h = (h i, mapped f is h)

-- ---- grants

several : {A : Type 0} (f : List A → List Counted) (o : Option (List A)) → ((xs : List A) → o ≡ Some xs → 0 < length xs → AreCountable (f xs)) → AreCountable (ring_or_none (of_several f o))
several f None h = tt
several f (Some []) h = tt
several f (Some (x ∷ [])) h = tt
several f (Some (x ∷ y ∷ xs)) h = h (x ∷ y ∷ xs) refl (omega arith)

after : (x : Option ℕ) (o : Option (List Counted)) → AreCountable (ring_or_none o) → AreCountable (ring_or_none (after_input x o))
after None o h = tt
after (Some n) o h = h

module _ (ss : TSeqs) (few : count_of ss ≤ most) where
  plain : AreCountable (ring_or_none (of_several plain_ring (all_of gift ss)))
  plain = several plain_ring (all_of gift ss) (λ xs e some. ((some, omega (arith, few, all_long gift ss xs e)), tt))

  release : AreCountable (ring_or_none (of_several release_ring (all_of loan ss)))
  release = several release_ring (all_of loan ss) (λ xs e some. ((some, omega (arith, few, all_long loan ss xs e)), (tt, (tt, tt))))

body_countable : (s : TSeq) → IsSeq s → places_of s ≤ most → AreCountable (ring_or_none (body_ring s))
body_countable Done h few = tt
body_countable (Then (TBurst ms) Done) h few = tt
body_countable (Then (TAlt ss) Done) h few = release ss (omega (arith, few, alternatives ss h.0.1))
body_countable (Then (TBurst ms) (Then (TAlt ss) Done)) h few = after (one_input (TBurst ms)) (of_several plain_ring (all_of gift ss)) (plain ss (omega (arith, few, alternatives ss h.1.0.1)))
body_countable (Then (TAlt ts) (Then (TAlt ss) Done)) h few = after (one_input (TAlt ts)) (of_several plain_ring (all_of gift ss)) (plain ss (omega (arith, few, alternatives ss h.1.0.1)))
body_countable (Then (TBurst ns) (Then (TBurst ms) s)) h few = tt
body_countable (Then (TAlt ts) (Then (TBurst ms) s)) h few = tt
body_countable (Then (TBurst ns) (Then (TAlt ss) (Then j s))) h few = tt
body_countable (Then (TAlt ts) (Then (TAlt ss) (Then j s))) h few = tt

ring_countable : (lead body : Option TSeq) → IsPart body → of_part 0 places_of body ≤ most → AreCountable (ring_or_none (ring_of_parts lead body))
ring_countable None None h few = tt
ring_countable None (Some s) h few = body_countable s (full_seq s h) few
ring_countable (Some l) body h few = tt

rings_countable : (ps : List Proc) → AllByRecursion IsProc ps → places_of_all ps ≤ most → AreCountable (rings ps)
rings_countable [] h few = tt
rings_countable (p ∷ ps) h few =
    both (ring_or_none (ring p)) (rings ps) (ring_countable p.lead p.body h.0.2 (omega (arith, few))) (rings_countable ps h.1 (omega (arith, few)))

meeting_countable : (ps : List Proc) (a : ℕ) → IsCountable (meeting ps a)
meeting_countable ps a = by (out_of ps a)
  where
    by : (b : Bool) → IsCountable (if b then Wide Joins (made ps a) else Wide Forks (standing ps a))
    by true = tt
    by false = tt

-- ---- a process

gate_countable : (bs : List ℕ) → IsCountable (gate bs)
gate_countable [] = tt
gate_countable (b ∷ bs) = tt

module _ (g : WaitGraph) (is : IsReadable g) (names : ℕ) where
  range : IsInRange g.waits (length g.bursts) (pairs g)
  range = record {
    few_lines = is.few_lines;
    few_crossings = omega (arith, is.few_crossings, length-map {B = ℕ × ℕ} g.crosses (λ (c : Cross). (c.wait, c.burst)));
    within = is.within;
  }

  meetings_countable : (is : List ℕ) → AreCountable (map (λ i. graph.meeting g (part_at g.waits (pairs g) i)) is)
  meetings_countable [] = tt
  meetings_countable (i ∷ is) = ((part_range g.waits (length g.bursts) (pairs g) range i).range, meetings_countable is)

  opens : (s : Start) → AreCountable (first_wait s g)
  opens (start.Act n) = tt
  opens (start.Wait w) = by (has_entry g.start g.acts g.crosses)
    where
      by : (b : Bool) → AreCountable (One (if b then Iwires else Sources) ∷ [])
      by true = (tt, tt)
      by false = (tt, tt)

  styled : (s : SplitStyle) → AreCountable (of_style s g names)
  styled OneWait = both (spreads g) (directs g names) (mapped (λ n. Wide Forks (length (outs_at g n))) (all_acts g) (λ n. tt)) (mapped (λ (a : ℕ). One Wires) _ (λ a. tt))
  styled (Rounds k) = both (spreads g) (map (λ i. One Toggles) (range_with_len 0 (k - 1))) (mapped (λ n. Wide Forks (length (outs_at g n))) (all_acts g) (λ n. tt)) (mapped (λ (i : ℕ). One Toggles) (range_with_len 0 (k - 1)) (λ i. tt))
  styled Token =
      both (moves g) (returns g ++ (first_wait g.start g ++ meetings g)) (mapped (λ (y : Act). Wide Forks (length y.outs + exits y.exit)) g.acts (λ y. tt))
      (both (returns g) (first_wait g.start g ++ meetings g) (mapped (λ w. Wide Merges (leading g w)) (range_with_len 0 g.waits) (λ w. tt))
      (both (first_wait g.start g) (meetings g) (opens g.start) (meetings_countable (part_names g.waits (pairs g)))))

  counted_countable : AreCountable (counted g names)
  counted_countable =
      both (joins g) (calls g ++ (shows g names ++ (first_act g ++ of_style (style_of g) g names))) (mapped (λ b. Wide Joins (length (symbols_at g b))) (range_with_len 0 (length g.bursts)) (λ b. tt))
      (both (calls g) (shows g names ++ (first_act g ++ of_style (style_of g) g names)) (mapped (λ n. Wide Merges (length (entries_of g n))) (all_acts g) (λ n. tt))
      (both (shows g names) (first_act g ++ of_style (style_of g) g names) (mapped (λ a. Wide Merges (length (givers g a))) (range_with_len 0 names) (λ a. tt))
      (both (first_act g) (of_style (style_of g) g names) (mapped (λ n. gate (entries_of g n)) _ (λ n. gate_countable (entries_of g n))) (styled (style_of g)))))

processes_countable : (ps : List Proc) (names : ℕ) → AllByRecursion IsReadableProcess ps → AreCountable (processes ps names)
processes_countable [] names h = tt
processes_countable (p ∷ ps) names h = both (if grants p then [] else counted (graph_of p) names) (processes ps names) (by (grants p) refl) (processes_countable ps names h.1)
  where
    by : (b : Bool) → grants p ≡ b → AreCountable (if b then [] else counted (graph_of p) names)
    by true e = tt
    by false e = counted_countable (graph_of p) (h.0 e).1 names

pub command_countable : (c : Command) → Admitted c.procs → AreCountable (of_command c.procs (length c.names))
command_countable c a =
    both (woven c.procs (length c.names)) (processes c.procs (length c.names))
    (both (map (meeting c.procs) (range_with_len 0 (length c.names))) (rings c.procs) (mapped (meeting c.procs) (range_with_len 0 (length c.names)) (meeting_countable c.procs)) (rings_countable c.procs c.valid.shaped c.valid.few_places))
    (processes_countable c.procs (length c.names) (all_readable c a))
