-- The places of first bursts and of last bursts do not fall.
use Rattle.std.proofs.Common.{ℕ, ◌+◌, ◌≤◌, List, [], ◌∷◌, ◌++◌, arith}
use Rattle.cmd_tree.specs.declared.tree.Proc.{Proc}
use Rattle.cmd_tree.specs.Tree.{TItem, TSeq, TSeqs, TBurst, TAlt, Stop, Or, Done, Then, places_of, places_in, places_among}
use Rattle.di_grammar.proofs.Lists.{each_join}
use Rattle.tree_walk.specs.Bursts.{Burst, part, text_of, body_place, firsts_of, firsts_in, firsts_among, lasts_of, lasts_after, lasts_in, lasts_among}
use Rattle.tree_walk.specs.Meetings.{neighbours_of, neighbours_in, neighbours_among, neighbours, turn}
use Rattle.di_grammar.specs.Lists.{Each}
use Rattle.di_grammar.specs.Mirror.Stops.{Rises, IsOrdered}

-- from the place k on to the place l the places do not fall
abbrev pub Between : ℕ → ℕ → List Burst → Type 0
Between k l [] = k ≤ l
Between k l (b ∷ bs) = (k ≤ b.place) × Between b.place l bs

lower : (j k l : ℕ) (bs : List Burst) → j ≤ k → Between k l bs → Between j l bs
lower j k l [] h b = omega arith
lower j k l (x ∷ bs) h b = (omega (arith, h, b.0), b.1)

higher : (k l m : ℕ) (bs : List Burst) → l ≤ m → Between k l bs → Between k m bs
higher k l m [] h b = omega arith
higher k l m (x ∷ bs) h b = (b.0, higher x.place l m bs h b.1)

between_append : (k l m : ℕ) (bs cs : List Burst) → Between k l bs → Between l m cs → Between k m (bs ++ cs)
between_append k l m [] cs b c = lower k l m cs b c
between_append k l m (x ∷ bs) cs b c = (b.0, between_append x.place l m bs cs b.1 c)

pub rises : (k l m : ℕ) (bs : List Burst) → k ≤ l → Between l m bs → Rises k bs
rises k l m [] h b = tt
rises k l m (x ∷ bs) h b = (omega (arith, h, b.0), rises x.place x.place m bs (omega arith) b.1)

mutual
  pub firsts_of_between : (k : ℕ) (s : TSeq) → Between k (k + places_of s) (firsts_of k s)
  firsts_of_between k Done = omega arith
  firsts_of_between k (Then i s) = higher k (k + places_in i) (k + (places_in i + places_of s)) (firsts_in k i) (omega arith) (firsts_in_between k i)

  firsts_in_between : (k : ℕ) (i : TItem) → Between k (k + places_in i) (firsts_in k i)
  firsts_in_between k (TBurst ms) = (omega arith, omega arith)
  firsts_in_between k (TAlt ss) = firsts_among_between k ss

  pub firsts_among_between : (k : ℕ) (ss : TSeqs) → Between k (k + places_among ss) (firsts_among k ss)
  firsts_among_between k Stop = omega arith
  firsts_among_between k (Or s ss) = between_append k (k + places_of s) (k + (places_of s + places_among ss)) (firsts_of k s) (firsts_among (k + places_of s) ss)
      (firsts_of_between k s) (higher (k + places_of s) (k + places_of s + places_among ss) (k + (places_of s + places_among ss)) _ (omega arith) (firsts_among_between (k + places_of s) ss))

mutual
  lasts_after_between : (j k : ℕ) (before : List Burst) (s : TSeq) → j ≤ k → Between j k before → Between j (k + places_of s) (lasts_after before k s)
  lasts_after_between j k before Done h b = higher j k (k + 0) before (omega arith) b
  lasts_after_between j k before (Then i s) h b =
      higher j (k + places_in i + places_of s) (k + (places_in i + places_of s)) _ (omega arith)
      (lasts_after_between j (k + places_in i) (lasts_in k i) s (omega arith) (lower j k (k + places_in i) (lasts_in k i) h (lasts_in_between k i)))

  lasts_in_between : (k : ℕ) (i : TItem) → Between k (k + places_in i) (lasts_in k i)
  lasts_in_between k (TBurst ms) = (omega arith, omega arith)
  lasts_in_between k (TAlt ss) = lasts_among_between k ss

  pub lasts_among_between : (k : ℕ) (ss : TSeqs) → Between k (k + places_among ss) (lasts_among k ss)
  lasts_among_between k Stop = omega arith
  lasts_among_between k (Or s ss) = between_append k (k + places_of s) (k + (places_of s + places_among ss)) (lasts_of k s) (lasts_among (k + places_of s) ss)
      (lasts_after_between k k [] s (omega arith) (omega arith))
      (higher (k + places_of s) (k + places_of s + places_among ss) (k + (places_of s + places_among ss)) _ (omega arith) (lasts_among_between (k + places_of s) ss))

pub firsts_rise : (k : ℕ) (s : TSeq) → Rises 0 (firsts_of k s)
firsts_rise k s = rises 0 k (k + places_of s) (firsts_of k s) (omega arith) (firsts_of_between k s)

pub lasts_rise : (k : ℕ) (s : TSeq) → Rises 0 (lasts_of k s)
lasts_rise k s = rises 0 k (k + places_of s) (lasts_of k s) (omega arith) (lasts_after_between k k [] s (omega arith) (omega arith))

mutual
  ordered_of : (before : List Burst) (k : ℕ) (s : TSeq) → Rises 0 before → Each IsOrdered (neighbours_of before k s)
  ordered_of before k Done r = tt
  ordered_of before k (Then i s) r =
      each_join IsOrdered (neighbours_in k i) (record { lasts = before; firsts = firsts_in k i } ∷ neighbours_of (lasts_in k i) (k + places_in i) s)
      (ordered_in k i) (
        (r, rises 0 k (k + places_in i) (firsts_in k i) (omega arith) (firsts_in_between k i)),
        ordered_of (lasts_in k i) (k + places_in i) s (rises 0 k (k + places_in i) (lasts_in k i) (omega arith) (lasts_in_between k i)),
      )

  ordered_in : (k : ℕ) (i : TItem) → Each IsOrdered (neighbours_in k i)
  ordered_in k (TBurst ms) = tt
  ordered_in k (TAlt ss) = ordered_among k ss

  ordered_among : (k : ℕ) (ss : TSeqs) → Each IsOrdered (neighbours_among k ss)
  ordered_among k Stop = tt
  ordered_among k (Or s ss) = each_join IsOrdered (neighbours_of [] k s) (neighbours_among (k + places_of s) ss) (ordered_of [] k s tt) (ordered_among (k + places_of s) ss)

pub neighbours_ordered : (p : Proc) → Each IsOrdered (neighbours p)
neighbours_ordered p = ordered_of [] 1 (text_of p) tt

pub turn_ordered : (p : Proc) → IsOrdered (turn p)
turn_ordered p = (lasts_rise (body_place p) (part p.body), firsts_rise (body_place p) (part p.body))

pub firsts_among_rise : (k : ℕ) (ss : TSeqs) → Rises 0 (firsts_among k ss)
firsts_among_rise k ss = rises 0 k (k + places_among ss) (firsts_among k ss) (omega arith) (firsts_among_between k ss)

pub lasts_among_rise : (k : ℕ) (ss : TSeqs) → Rises 0 (lasts_among k ss)
lasts_among_rise k ss = rises 0 k (k + places_among ss) (lasts_among k ss) (omega arith) (lasts_among_between k ss)
