-- The law of rounds, for a fair process.
use Rattle.std.specs.Prelude.{IsTrue}
use Rattle.std.proofs.Common.{◌≡◌, ℕ, ◌+◌, ◌<◌, ◌≤◌, ◌^◌, ◌∙◌, Bool, length, Option, None, Some, ⊎_elim, refl, ap, arith}
use Rattle.std.proofs.lemmas.List.{length-map}
use Rattle.cmd_tree.specs.declared.tree.Proc.{Proc}
use Rattle.cmd_tree.specs.Tree.{TItem, TSeq, TSeqs, TBurst, TAlt, Stop, Or, Done, Then, places_of, places_in, places_among}
use Rattle.cmd_tree.specs.Limits.{of_part, places_of_proc, IsProc}
use Rattle.cmd_tree.specs.declared.limits.TheConstants.{MAX_PLACES}
use Rattle.cmd_tree.specs.Residual.{lead_of}
use Rattle.cmd_tree.specs.Meaning.{TraceOf, symbols}
use Rattle.net_core.specs.declared.spec.NodeSpec.{NodeSpec}
use Rattle.net_laws.specs.Charts.{charted}
use Rattle.net_laws.specs.Implementing.{Implements}
use Rattle.process_laws.specs.Shape.{IsFair}
use Rattle.place_graph.specs.declared.leg.Leg.{Leg}
use Rattle.place_graph.specs.Points.{point, legs_of, legs_in, legs_among, body_place, turn_point, legs, Among}
use Rattle.place_graph.specs.Graph.{graph_of, acts_of, act, home_number}
use Rattle.place_graph.specs.Style.{in_rounds}
use Rattle.place_graph.specs.Drawable.{IsDrawable, AreDirections, AreSets}
use Rattle.place_graph.proofs.Joined.{among_append}
use Rattle.place_graph.proofs.LegBounds.{legs_few}
use Rattle.place_graph.proofs.Listed.{homes_known}
use Rattle.place_graph.proofs.Charted.{charted as charts}
use Rattle.place_graph.proofs.Played.{played}
use Rattle.plain_split.specs.RoundsNet.{pow}
use Rattle.plain_split.specs.RoundsChart.{rounds_chart, lines}
use Rattle.plain_split.specs.RoundsParts.{parts_of, Specifies}
use Rattle.plain_split.proofs.RoundsStyle.{long}
use Rattle.plain_split.proofs.RoundsProcess.{process_right, acts_are, process_ready, fine}
use Rattle.plain_split.proofs.RoundsRoutes.{Fine}
use Rattle.plain_split.specs.Mirror.RoundsTables.{IsRoundGraph}

-- a leg has no more marks than the tree has places
mutual
  marks_of_seq : (k : ℕ) (s : TSeq) (at later : ℕ) (l : Leg) → Among (legs_of k s at later) l → length l.marks ≤ places_of s
  marks_of_seq k Done at later l a = absurd a
  marks_of_seq k (Then i s) at later l a = ⊎_elim
      (λ b. omega (arith, marks_of_item k i at (point (k + places_in i) s later) l b))
      (λ b. omega (arith, marks_of_seq (k + places_in i) s (k + places_in i) later l b))
      (among_append (legs_in k i at (point (k + places_in i) s later)) (legs_of (k + places_in i) s (k + places_in i) later) l a)

  marks_of_item : (k : ℕ) (i : TItem) (at later : ℕ) (l : Leg) → Among (legs_in k i at later) l → length l.marks ≤ places_in i
  marks_of_item k (TBurst ms) at later l a = ⊎_elim (λ e. omega (arith, ap (λ (m : Leg). length m.marks) e)) (λ n. absurd n) a
  marks_of_item k (TAlt ss) at later l a = marks_of_choice k ss at later l a

  marks_of_choice : (k : ℕ) (ss : TSeqs) (at later : ℕ) (l : Leg) → Among (legs_among k ss at later) l → length l.marks ≤ places_among ss
  marks_of_choice k Stop at later l a = absurd a
  marks_of_choice k (Or s ss) at later l a = ⊎_elim
      (λ b. omega (arith, marks_of_seq k s at later l b))
      (λ b. omega (arith, marks_of_choice (k + places_of s) ss at later l b))
      (among_append (legs_of k s at later) (legs_among (k + places_of s) ss at later) l a)

part_places : (o : Option TSeq) → places_of (lead_of o) ≡ of_part 0 places_of o
part_places None = refl
part_places (Some s) = refl

marks_few : (p : Proc) (l : Leg) → Among (legs p) l → length l.marks ≤ places_of_proc p
marks_few p l a = ⊎_elim
    (λ b. omega (arith, marks_of_seq 1 (lead_of p.lead) 1 (turn_point p) l b, part_places p.lead))
    (λ b. omega (arith, marks_of_seq (body_place p) (lead_of p.body) (body_place p) (turn_point p) l b, part_places p.body))
    (among_append (legs_of 1 (lead_of p.lead) 1 (turn_point p)) (legs_of (body_place p) (lead_of p.body) (body_place p) (turn_point p)) l a)

pub rounds_right_for : (s : NodeSpec) (out : ℕ → Bool) (p : Proc) (e : ℕ) → IsProc p → places_of_proc p ≤ MAX_PLACES → AreSets (legs p) → IsFair out p → AreDirections out p
    → IsTrue (in_rounds (graph_of p)) → (graph_of p).waits ≡ pow e → 0 < e → Specifies s out (legs p) (TraceOf p) → Implements (charted (rounds_chart (parts_of s (graph_of p) e))) s
rounds_right_for s out p e proc places sets fair directions rounds many some told =
    let chart = charts out p proc fair directions in
    let homes = homes_known (legs p) sets in
    process_right s out p (TraceOf p) proc chart (played out p proc fair directions) (home_number (legs p)) homes rounds e many some told
    (λ l a. omega (arith, length-map l.marks (λ m. m.sym.0), marks_few p l a, places))
    (omega (arith, long out p proc chart (home_number (legs p)) homes rounds e many, legs_few p proc, places))

pub rounds_hold : (s : NodeSpec) (out : ℕ → Bool) (p : Proc) (e : ℕ) → IsDrawable p → IsFair out p → AreDirections out p → IsTrue (in_rounds (graph_of p)) → (graph_of p).waits ≡ pow e → 0 < e
    → Specifies s out (legs p) (TraceOf p) → Implements (charted (rounds_chart (parts_of s (graph_of p) e))) s
rounds_hold s out p e drawable = rounds_right_for s out p e drawable.proc drawable.few_places drawable.sets

-- what the parts have of the legs
pub rounds_fine_for : (s : NodeSpec) (out : ℕ → Bool) (p : Proc) (e : ℕ) → IsProc p → places_of_proc p ≤ MAX_PLACES → AreSets (legs p) → IsFair out p → AreDirections out p
    → IsTrue (in_rounds (graph_of p)) → (graph_of p).waits ≡ pow e → 0 < e → Specifies s out (legs p) (TraceOf p) → Fine (parts_of s (graph_of p) e) (TraceOf p)
rounds_fine_for s out p e proc places sets fair directions rounds many some told =
    let chart = charts out p proc fair directions in
    let homes = homes_known (legs p) sets in
    fine s out p (TraceOf p) proc chart (played out p proc fair directions) (home_number (legs p)) homes rounds e many some told
    (λ l a. omega (arith, length-map l.marks (λ m. m.sym.0), marks_few p l a, places))
    (omega (arith, long out p proc chart (home_number (legs p)) homes rounds e many, legs_few p proc, places))

-- what the code relies on
pub rounds_ready_for : (s : NodeSpec) (out : ℕ → Bool) (p : Proc) (e : ℕ) → IsProc p → places_of_proc p ≤ MAX_PLACES → AreSets (legs p) → IsFair out p → AreDirections out p
    → IsTrue (in_rounds (graph_of p)) → (graph_of p).waits ≡ pow e → 0 < e → Specifies s out (legs p) (TraceOf p) → length (lines (parts_of s (graph_of p) e)) < 2 ^ 20 → IsRoundGraph s (graph_of p) e
rounds_ready_for s out p e proc places sets fair directions rounds many some told few =
    let chart = charts out p proc fair directions in
    let homes = homes_known (legs p) sets in
    let narrow : (l : Leg) → Among (legs p) l → length (symbols l.marks) < 2 ^ 27 = λ l a. omega (arith, length-map l.marks (λ m. m.sym.0), marks_few p l a, places) in
    let acts_few : pow e < 2 ^ 27 = omega (arith, long out p proc chart (home_number (legs p)) homes rounds e many, legs_few p proc, places) in
    let acts : length (acts_of (legs p)) ≡ pow e =
    acts_are s out p (TraceOf p) proc chart (played out p proc fair directions) (home_number (legs p)) homes rounds e many some told narrow acts_few in
    record {
      waits = many;
      acts = length-map (acts_of (legs p)) (act (legs p)) ∙ acts;
      ready = process_ready s out p (TraceOf p) proc chart (played out p proc fair directions) (home_number (legs p)) homes rounds e many some told narrow acts_few few;
    }
