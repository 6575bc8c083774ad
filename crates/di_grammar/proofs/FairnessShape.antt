-- A tree that keeps the rules alternates.
use Rattle.std.proofs.Common.{◌≡◌, ◌≢◌, ℕ, ◌+◌, ◌<◌, Bool, true, false, not, List, [], ◌∷◌, ◌++◌, length, length-append, refl, sym, ap, ◌∙◌, subst, arith}
use Rattle.std.specs.Prelude.{⊤}
use Rattle.cmd_tree.specs.declared.tree.Dir.{Dir}
use Rattle.cmd_tree.specs.declared.tree.Dir.TheVariants.{Input, Output}
use Rattle.cmd_tree.specs.declared.tree.Mark.{Mark}
use Rattle.cmd_tree.specs.Tree.{TItem, TSeq, TSeqs, TBurst, TAlt, Stop, Or, Done, Then, places_of, places_in, marks_of, marks_in, marks_among}
use Rattle.cmd_tree.specs.Limits.{IsSeq, IsItem, AreSeqs, IsFull, count_of}
use Rattle.cmd_tree.specs.Marks.{is_output}
use Rattle.process_laws.specs.Shape.{Alternates, AlternatesIn, AlternatesAmong}
use Rattle.tree_walk.specs.Bursts.{Burst, dir_of, firsts_of, firsts_in, firsts_among, lasts_of, lasts_in, lasts_among}
use Rattle.tree_walk.specs.Meetings.{alternatives, neighbours_of, neighbours_in, choices_among}
use Rattle.tree_walk.specs.Mirror.Walked.{seq_passed, item_passed, seqs_passed}
use Rattle.tree_walk.specs.Passed.{Passed, and_then, a_meeting}
use Rattle.di_grammar.specs.Lists.{Each}
use Rattle.di_grammar.specs.EvenBursts.{Even}
use Rattle.di_grammar.specs.Alternation.{Alternate}
use Rattle.di_grammar.specs.Choices.{IsChoice, all_firsts, all_lasts}
use Rattle.di_grammar.proofs.FairnessLists.{each_left, each_right}
use Rattle.di_grammar.proofs.FairnessMarks.{Agrees, even_burst}

-- ---- the first rules, of what is passed of a tree

-- what is passed, with these marks, keeps the rules
pub record Kept (out : ℕ → Bool) (w : Passed) (ms : List Mark) : Type 0 where
  pub bursts : Each Even w.bursts
  pub neighbours : Each Alternate w.neighbours
  pub choices : Each IsChoice w.choices
  pub marks : Each (Agrees out) ms

pub kept_left : (out : ℕ → Bool) (v w : Passed) (ms ns : List Mark) → Kept out (and_then v w) (ms ++ ns)
    → Kept out v ms
kept_left out v w ms ns h = record {
  bursts = each_left Even v.bursts w.bursts h.bursts;
  neighbours = each_left Alternate v.neighbours w.neighbours h.neighbours;
  choices = each_left IsChoice v.choices w.choices h.choices;
  marks = each_left (Agrees out) ms ns h.marks;
}

pub kept_right : (out : ℕ → Bool) (v w : Passed) (ms ns : List Mark) → Kept out (and_then v w) (ms ++ ns)
    → Kept out w ns
kept_right out v w ms ns h = record {
  bursts = each_right Even v.bursts w.bursts h.bursts;
  neighbours = each_right Alternate v.neighbours w.neighbours h.neighbours;
  choices = each_right IsChoice v.choices w.choices h.choices;
  marks = each_right (Agrees out) ms ns h.marks;
}

-- an item and what comes after it, by what is passed of the whole
abbrev pub then_passed : List Burst → ℕ → TItem → TSeq → Passed
then_passed before k i s = and_then (a_meeting (record { lasts = before; firsts = firsts_in k i }))
    (seq_passed (lasts_in k i) (k + places_in i) s)

kept_then : (out : ℕ → Bool) (before : List Burst) (k : ℕ) (i : TItem) (s : TSeq)
    → Kept out (seq_passed before k (Then i s)) (marks_of (Then i s))
    → Kept out (seq_passed (lasts_in k i) (k + places_in i) s) (marks_of s)
kept_then out before k i s h =
    let rest = kept_right out (item_passed k i) (then_passed before k i s) (marks_in i) (marks_of s) h in
    record {
      bursts = rest.bursts;
      neighbours = rest.neighbours.1;
      choices = rest.choices;
      marks = rest.marks;
    }

kept_choice : (out : ℕ → Bool) (k : ℕ) (ss : TSeqs) → Kept out (item_passed k (TAlt ss)) (marks_among ss)
    → Kept out (seqs_passed k ss) (marks_among ss)
kept_choice out k ss h = record {
  bursts = h.bursts;
  neighbours = h.neighbours;
  choices = each_left IsChoice (choices_among k ss) (alternatives k ss ∷ []) h.choices;
  marks = h.marks;
}

-- ---- directions of bursts

abbrev pub way : Burst → Bool
way b = is_output (dir_of b.marks)

-- there are bursts, and all have the direction d
pub record Edge (d : Bool) (bs : List Burst) : Type 0 where
  pub some : 0 < length bs
  pub ways : Each (λ b. way b ≡ d) bs

not_not : (d : Bool) → not (not d) ≡ d
not_not true = refl
not_not false = refl

other_way : (d e : Dir) → d ≢ e → is_output e ≡ not (is_output d)
other_way Input Input h = absurd (h refl)
other_way Input Output h = refl
other_way Output Input h = refl
other_way Output Output h = absurd (h refl)

-- what comes after bursts of the one direction begins with the other
pub meets : (d e : Bool) (xs ys : List Burst) → Edge (not d) xs → Edge e ys
    → Alternate (record { lasts = xs; firsts = ys }) → e ≡ d
meets d e [] ys p q h = absurd (omega (arith, p.some))
meets d e (x ∷ xs) [] p q h = absurd (omega (arith, q.some))
meets d e (x ∷ xs) (y ∷ ys) p q h =
    sym q.ways.0 ∙ other_way (dir_of x.marks) (dir_of y.marks) h.0.0 ∙ ap not p.ways.0 ∙ not_not d

edge_is : (a b : Bool) (xs : List Burst) → Edge a xs → Each (λ x. way x ≡ b) xs → a ≡ b
edge_is a b [] p h = absurd (omega (arith, p.some))
edge_is a b (x ∷ xs) p h = sym p.ways.0 ∙ h.0

dirs_ways : (d : Dir) (bs : List Burst) → Each (λ b. dir_of b.marks ≡ d) bs
    → Each (λ b. way b ≡ is_output d) bs
dirs_ways d [] h = tt
dirs_ways d (b ∷ bs) h = (ap is_output h.0, dirs_ways d bs h.1)

pub firsts_same : (k : ℕ) (ss : TSeqs) → all_firsts (alternatives k ss) ≡ firsts_among k ss
firsts_same k Stop = refl
firsts_same k (Or s ss) = ap (λ (bs : List Burst). firsts_of k s ++ bs) (firsts_same (k + places_of s) ss)

lasts_same : (k : ℕ) (ss : TSeqs) → all_lasts (alternatives k ss) ≡ lasts_among k ss
lasts_same k Stop = refl
lasts_same k (Or s ss) = ap (λ (bs : List Burst). lasts_of k s ++ bs) (lasts_same (k + places_of s) ss)

-- ---- trees

record ShownIn (out : ℕ → Bool) (k : ℕ) (i : TItem) : Type 0 where
  pub begin : Bool
  pub end : Bool
  pub alternates : AlternatesIn out begin i end
  pub firsts : Edge begin (firsts_in k i)
  pub lasts : Edge (not end) (lasts_in k i)

pub record Shown (out : ℕ → Bool) (k : ℕ) (s : TSeq) : Type 0 where
  pub begin : Bool
  pub end : Bool
  pub alternates : Alternates out begin s end
  pub firsts : Edge begin (firsts_of k s)
  pub lasts : Edge (not end) (lasts_of k s)

record ShownAmong (out : ℕ → Bool) (k : ℕ) (ss : TSeqs) (end : Bool) : Type 0 where
  pub alternates : AlternatesAmong out false ss (not end)
  pub firsts : 0 < count_of ss → 0 < length (firsts_among k ss)
  pub lasts : 0 < count_of ss → 0 < length (lasts_among k ss)

-- of a sequence that may be empty
abbrev pub Shows : (ℕ → Bool) → ℕ → TSeq → Type 0
Shows out k Done = ⊤
Shows out k (Then i s) = Shown out k (Then i s)

burst_shown : (out : ℕ → Bool) (k : ℕ) (ms : List Mark) → Kept out (item_passed k (TBurst ms)) ms
    → ShownIn out k (TBurst ms)
burst_shown out k ms h = record {
  begin = is_output (dir_of ms);
  end = not (is_output (dir_of ms));
  alternates = (even_burst out (record { place = k; marks = ms }) h.bursts.0 h.marks, refl);
  firsts = record { some = omega arith; ways = (refl, tt) };
  lasts = record { some = omega arith; ways = (sym (not_not (is_output (dir_of ms))), tt) };
}

choice_begins : (k : ℕ) (ss : TSeqs) → IsChoice (alternatives k ss)
    → Each (λ b. way b ≡ false) (firsts_among k ss)
choice_begins k ss h =
    dirs_ways Input (firsts_among k ss) (subst (Each (λ b. dir_of b.marks ≡ Input)) (firsts_same k ss) h.asks)

choice_ends : (k : ℕ) (ss : TSeqs) (h : IsChoice (alternatives k ss))
    → Each (λ b. way b ≡ is_output h.end) (lasts_among k ss)
choice_ends k ss h =
    dirs_ways h.end (lasts_among k ss) (subst (Each (λ b. dir_of b.marks ≡ h.end)) (lasts_same k ss) h.ends)

choice_shown : (out : ℕ → Bool) (k : ℕ) (ss : TSeqs) → 1 < count_of ss → (h : IsChoice (alternatives k ss))
    → ShownAmong out k ss (is_output h.end) → ShownIn out k (TAlt ss)
choice_shown out k ss many h w = record {
  begin = false;
  end = not (is_output h.end);
  alternates = (refl, w.alternates);
  firsts = record { some = w.firsts (omega arith); ways = choice_begins k ss h };
  lasts = record {
    some = w.lasts (omega arith);
    ways = subst (λ d. Each (λ b. way b ≡ d) (lasts_among k ss)) (sym (not_not (is_output h.end)))
        (choice_ends k ss h);
  };
}

then_shown : (out : ℕ → Bool) (k : ℕ) (i : TItem) (s : TSeq) → ShownIn out k i
    → Shows out (k + places_in i) s
    → Each Alternate (neighbours_of (lasts_in k i) (k + places_in i) s) → Shown out k (Then i s)
then_shown out k i Done w v n = record {
  begin = w.begin;
  end = w.end;
  alternates = (w.end, w.alternates, refl);
  firsts = w.firsts;
  lasts = w.lasts;
}
then_shown out k i (Then j s) w v n =
    let there = each_right Alternate (neighbours_in (k + places_in i) j) _ n in
    let l = k + places_in i in
    let same = meets w.end v.begin (lasts_in k i) (firsts_in l j) w.lasts v.firsts there.0 in
    record {
      begin = w.begin;
      end = v.end;
      alternates = (w.end, w.alternates, subst (λ d. Alternates out d (Then j s) v.end) same v.alternates);
      firsts = w.firsts;
      lasts = v.lasts;
    }

full_seq : (s : TSeq) → IsFull s → IsSeq s
full_seq Done h = absurd h
full_seq (Then i s) h = h

full_shown : (out : ℕ → Bool) (k : ℕ) (s : TSeq) → IsFull s → Shows out k s → Shown out k s
full_shown out k Done h w = absurd h
full_shown out k (Then i s) h w = w

or_shown : (out : ℕ → Bool) (k : ℕ) (s : TSeq) (ss : TSeqs) (end : Bool)
    → Each (λ b. way b ≡ false) (firsts_among k (Or s ss))
    → Each (λ b. way b ≡ end) (lasts_among k (Or s ss))
    → Shown out k s → ShownAmong out (k + places_of s) ss end → ShownAmong out k (Or s ss) end
or_shown out k s ss end asks ends w v =
    let l = k + places_of s in
    let asks_one = each_left (λ b. way b ≡ false) (firsts_of k s) (firsts_among l ss) asks in
    let ends_one = each_left (λ b. way b ≡ end) (lasts_of k s) (lasts_among l ss) ends in
    let begins : w.begin ≡ false = edge_is w.begin false (firsts_of k s) w.firsts asks_one in
    let closes : not w.end ≡ end = edge_is (not w.end) end (lasts_of k s) w.lasts ends_one in
    let leaves : w.end ≡ not end = sym (not_not w.end) ∙ ap not closes in
    record {
      alternates = (
        subst (λ d. Alternates out d s (not end)) begins
            (subst (Alternates out w.begin s) leaves w.alternates),
        v.alternates,
      );
      firsts = λ _. omega (arith, w.firsts.some, length-append (firsts_of k s) (firsts_among l ss));
      lasts = λ _. omega (arith, w.lasts.some, length-append (lasts_of k s) (lasts_among l ss));
    }

mutual
  pub shown_of : (out : ℕ → Bool) (before : List Burst) (k : ℕ) (s : TSeq) → IsSeq s
      → Kept out (seq_passed before k s) (marks_of s) → Shows out k s
  shown_of out before k Done shaped h = tt
  shown_of out before k (Then i s) shaped h =
      let item = kept_left out (item_passed k i) (then_passed before k i s) (marks_in i) (marks_of s) h in
      let rest = kept_then out before k i s h in
      then_shown out k i s
      (shown_in out k i shaped.0 item)
      (shown_of out (lasts_in k i) (k + places_in i) s shaped.1 rest)
      rest.neighbours

  shown_in : (out : ℕ → Bool) (k : ℕ) (i : TItem) → IsItem i → Kept out (item_passed k i) (marks_in i)
      → ShownIn out k i
  shown_in out k (TBurst ms) shaped h = burst_shown out k ms h
  shown_in out k (TAlt ss) shaped h =
      let choices = each_right IsChoice (choices_among k ss) (alternatives k ss ∷ []) h.choices in
      let choice : IsChoice (alternatives k ss) = choices.0 in
      choice_shown out k ss shaped.0 choice
      (shown_among out k ss (is_output choice.end) shaped.1 (kept_choice out k ss h)
      (choice_begins k ss choice) (choice_ends k ss choice))

  shown_among : (out : ℕ → Bool) (k : ℕ) (ss : TSeqs) (end : Bool) → AreSeqs ss
      → Kept out (seqs_passed k ss) (marks_among ss)
      → Each (λ b. way b ≡ false) (firsts_among k ss) → Each (λ b. way b ≡ end) (lasts_among k ss)
      → ShownAmong out k ss end
  shown_among out k Stop end shaped h asks ends = record {
    alternates = tt;
    firsts = λ n. absurd (omega arith);
    lasts = λ n. absurd (omega arith);
  }
  shown_among out k (Or s ss) end shaped h asks ends =
      let l = k + places_of s in
      let one = kept_left out (seq_passed [] k s) (seqs_passed l ss) (marks_of s) (marks_among ss) h in
      let others = kept_right out (seq_passed [] k s) (seqs_passed l ss) (marks_of s) (marks_among ss) h in
      or_shown out k s ss end asks ends
      (full_shown out k s shaped.0 (shown_of out [] k s (full_seq s shaped.0) one))
      (shown_among out l ss end shaped.1 others
      (each_right (λ b. way b ≡ false) (firsts_of k s) (firsts_among l ss) asks)
      (each_right (λ b. way b ≡ end) (lasts_of k s) (lasts_among l ss) ends))
