-- A process that is no grant, and keeps the rules, is fair.
use Rattle.std.proofs.Common.{◌≡◌, ℕ, ◌+◌, Bool, false, List, [], ◌∷◌, ◌++◌, Option, Some, None, refl, sym, subst}
use Rattle.cmd_tree.specs.declared.tree.Proc.{Proc}
use Rattle.cmd_tree.specs.Tree.{TSeq, Done, Then, places_of, places_in, marks_of}
use Rattle.cmd_tree.specs.Limits.{IsProc, IsPart, IsSeq}
use Rattle.process_laws.specs.Shape.{Alternates, IsApart, sequence_of, IsFair}
use Rattle.tree_walk.specs.Bursts.{firsts_of, lasts_of, lasts_in, part, text_of}
use Rattle.tree_walk.specs.Meetings.{Neighbours, neighbours_of, neighbours_in}
use Rattle.tree_walk.specs.Mirror.Walked.{seq_passed}
use Rattle.tree_walk.specs.Passed.{Passed, and_then}
use Rattle.tree_walk.proofs.Walking.{joined}
use Rattle.di_grammar.specs.Lists.{Each, EachTwo, Within}
use Rattle.di_grammar.specs.EvenBursts.{KeepsBursts}
use Rattle.di_grammar.specs.Alternation.{Alternate, KeepsNeighbours, KeepsRounds}
use Rattle.di_grammar.specs.Choices.{KeepsChoices}
use Rattle.di_grammar.specs.Twins.{KeepsTwins, Differ}
use Rattle.di_grammar.specs.Overlaps.{KeepsOverlaps}
use Rattle.di_grammar.specs.Directions.{KeepsDirections}
use Rattle.di_grammar.specs.Grants.{IsGrant}
use Rattle.di_grammar.specs.Outputs.{out_of}
use Rattle.di_grammar.proofs.FairnessLists.{each_left, each_right, each_both}
use Rattle.di_grammar.proofs.FairnessMarks.{Agrees, directions_agree, proc_marks}
use Rattle.di_grammar.proofs.FairnessShape.{Kept, Shown, kept_left, kept_right, Shows, shown_of, meets}
use Rattle.di_grammar.proofs.FairnessApart.{Tidy, tidy_left, tidy_right, apart_of}

-- a lead and a body of a process, each shown to alternate
record Course (out : ℕ → Bool) (lead body : TSeq) : Type 0 where
  pub first : Bool
  pub turn : Bool
  pub lead_way : Alternates out first lead turn
  pub body_way : Alternates out turn body turn

-- one turn of a body, and the next
abbrev round : ℕ → TSeq → Neighbours
round k s = record { lasts = lasts_of k s; firsts = firsts_of k s }

goes_round : (out : ℕ → Bool) (k : ℕ) (s : TSeq) (w : Shown out k s)
    → Alternate (round k s) → Alternates out w.begin s w.begin
goes_round out k s w h =
    let same : w.begin ≡ w.end = meets w.end w.begin (lasts_of k s) (firsts_of k s) w.lasts w.firsts h in
    subst (Alternates out w.begin s) (sym same) w.alternates

course : (out : ℕ → Bool) (lead body : TSeq) → Shows out 1 lead → Shows out (1 + places_of lead) body
    → Each Alternate (seq_passed (lasts_of 1 lead) (1 + places_of lead) body).neighbours
    → Alternate (round (1 + places_of lead) body)
    → Course out lead body
course out Done Done v w n r = record { first = false; turn = false; lead_way = refl; body_way = refl }
course out (Then i s) Done v w n r = record {
  first = v.begin;
  turn = v.end;
  lead_way = v.alternates;
  body_way = refl;
}
course out Done (Then i s) v w n r = record {
  first = w.begin;
  turn = w.begin;
  lead_way = refl;
  body_way = goes_round out (1 + places_of Done) (Then i s) w r;
}
course out (Then j t) (Then i s) v w n r =
    let k = 1 + places_of (Then j t) in
    let ends = lasts_of 1 (Then j t) in
    let begins = firsts_of k (Then i s) in
    let meeting : Neighbours = record { lasts = ends; firsts = begins } in
    let later = neighbours_of (lasts_in k i) (k + places_in i) s in
    let there = each_right Alternate (neighbours_in k i) (meeting ∷ later) n in
    let same : w.begin ≡ v.end = meets v.end w.begin ends begins v.lasts w.firsts there.0 in
    record {
      first = v.begin;
      turn = w.begin;
      lead_way = subst (Alternates out v.begin (Then j t)) (sym same) v.alternates;
      body_way = goes_round out k (Then i s) w r;
    }

part_seq : (o : Option TSeq) → IsPart o → IsSeq (part o)
part_seq None h = tt
part_seq (Some Done) h = absurd h
part_seq (Some (Then i s)) h = h

part_same : (o : Option TSeq) → part o ≡ sequence_of o
part_same None = refl
part_same (Some s) = refl

pub fair : (ps : List Proc) (p : Proc) → Within ps p → IsProc p → (IsGrant p → ⊥)
    → KeepsBursts p → KeepsNeighbours p → KeepsRounds p → KeepsChoices p → KeepsTwins p → KeepsOverlaps p
    → KeepsDirections ps → IsFair (out_of ps) p
fair ps p within shaped other bursts_kept neighbours_kept rounds choices_kept twins overlaps directions =
    let out = out_of ps in
    let lead = part p.lead in
    let body = part p.body in
    let one = seq_passed [] 1 lead in
    let two = seq_passed (lasts_of 1 lead) (1 + places_of lead) body in
    let marks = proc_marks (Agrees out) p (directions_agree ps p directions within) in
    let whole : Kept out (seq_passed [] 1 (text_of p)) (marks_of lead ++ marks_of body) = record {
      bursts = bursts_kept;
      neighbours = neighbours_kept;
      choices = choices_kept other;
      marks = each_both (Agrees out) (marks_of lead) (marks_of body) marks.0 marks.1;
    } in
    let split : seq_passed [] 1 (text_of p) ≡ and_then one two = joined [] 1 lead body in
    let parts = subst (λ (w : Passed). Kept out w (marks_of lead ++ marks_of body)) split whole in
    let lead_kept = kept_left out one two (marks_of lead) (marks_of body) parts in
    let body_kept = kept_right out one two (marks_of lead) (marks_of body) parts in
    let tidy = subst (λ (w : Passed). Tidy w.bursts) split (overlaps other) in
    let told = subst (λ (w : Passed). Each (EachTwo Differ) w.choices) split (twins other) in
    let k = 1 + places_of lead in
    let lead_shown = shown_of out [] 1 lead (part_seq p.lead shaped.1) lead_kept in
    let body_shown = shown_of out (lasts_of 1 lead) k body (part_seq p.body shaped.2) body_kept in
    let c = course out lead body lead_shown body_shown body_kept.neighbours rounds in
    record {
      first = c.first;
      turn = c.turn;
      lead = subst (λ (s : TSeq). Alternates out c.first s c.turn) (part_same p.lead) c.lead_way;
      body = subst (λ (s : TSeq). Alternates out c.turn s c.turn) (part_same p.body) c.body_way;
      lead_apart = subst IsApart (part_same p.lead) (apart_of 1 lead lead_kept.choices
          (each_left (EachTwo Differ) one.choices two.choices told)
          (tidy_left one.bursts two.bursts tidy));
      body_apart = subst IsApart (part_same p.body) (apart_of k body body_kept.choices
          (each_right (EachTwo Differ) one.choices two.choices told)
          (tidy_right one.bursts two.bursts tidy));
    }
