-- The places of the first bursts of a choice rise, where each burst has a symbol.
use Rattle.std.proofs.Common.{ℕ, ◌+◌, ◌≤◌, List, [], ◌∷◌, ◌++◌, Option, Some, None, sym, subst, arith}
use Rattle.cmd_tree.specs.declared.tree.Proc.{Proc}
use Rattle.cmd_tree.specs.Join.{join}
use Rattle.cmd_tree.specs.Limits.{IsSeq, IsItem, AreSeqs, IsFull, IsPart, IsProc}
use Rattle.cmd_tree.specs.Tree.{TItem, TSeq, TSeqs, TBurst, TAlt, Stop, Or, Done, Then, places_of, places_in, places_among}
use Rattle.tree_walk.specs.Bursts.{Burst, part, text_of, firsts_of, firsts_in, firsts_among}
use Rattle.tree_walk.specs.Meetings.{alternatives, choices_of, choices_in, choices_among, choices}
use Rattle.di_grammar.specs.Lists.{Each}
use Rattle.di_grammar.specs.Mirror.Twins.{Climbs, IsClimbing}
use Rattle.di_grammar.proofs.Choosing.{firsts_alternatives}
use Rattle.di_grammar.proofs.Lists.{each_join}

-- from the place k on the places rise, up to below the place l
abbrev pub Below : ℕ → ℕ → List Burst → Type 0
Below k l [] = k ≤ l
Below k l (b ∷ bs) = (k ≤ b.place) × Below (b.place + 1) l bs

lower : (j k l : ℕ) (bs : List Burst) → j ≤ k → Below k l bs → Below j l bs
lower j k l [] h b = omega arith
lower j k l (x ∷ bs) h b = (omega (arith, h, b.0), b.1)

higher : (k l m : ℕ) (bs : List Burst) → l ≤ m → Below k l bs → Below k m bs
higher k l m [] h b = omega arith
higher k l m (x ∷ bs) h b = (b.0, higher (x.place + 1) l m bs h b.1)

below_append : (k l m : ℕ) (bs cs : List Burst) → Below k l bs → Below l m cs → Below k m (bs ++ cs)
below_append k l m [] cs b c = lower k l m cs b c
below_append k l m (x ∷ bs) cs b c = (b.0, below_append (x.place + 1) l m bs cs b.1 c)

climbs : (k l : ℕ) (bs : List Burst) → Below k l bs → Climbs k bs
climbs k l [] b = tt
climbs k l (x ∷ bs) b = (b.0, climbs (x.place + 1) l bs b.1)

full_seq : (s : TSeq) → IsFull s → IsSeq s
full_seq Done f = tt
full_seq (Then i s) f = f

mutual
  below_of : (k : ℕ) (s : TSeq) → IsSeq s → Below k (k + places_of s) (firsts_of k s)
  below_of k Done w = omega arith
  below_of k (Then i s) w = higher k (k + places_in i) (k + (places_in i + places_of s)) (firsts_in k i) (omega arith) (below_in k i w.0)

  below_in : (k : ℕ) (i : TItem) → IsItem i → Below k (k + places_in i) (firsts_in k i)
  below_in k (TBurst ms) w = (omega arith, omega (arith, w))
  below_in k (TAlt ss) w = below_among k ss w.1

  below_among : (k : ℕ) (ss : TSeqs) → AreSeqs ss → Below k (k + places_among ss) (firsts_among k ss)
  below_among k Stop w = omega arith
  below_among k (Or s ss) w = below_append k (k + places_of s) (k + (places_of s + places_among ss)) (firsts_of k s) (firsts_among (k + places_of s) ss)
      (below_of k s (full_seq s w.0))
      (higher (k + places_of s) (k + places_of s + places_among ss) (k + (places_of s + places_among ss)) _ (omega arith) (below_among (k + places_of s) ss w.1))

climbing_choice : (k : ℕ) (ss : TSeqs) → AreSeqs ss → IsClimbing (alternatives k ss)
climbing_choice k ss w = subst (Climbs 0) (sym (firsts_alternatives k ss))
    (climbs 0 (k + places_among ss) (firsts_among k ss) (lower 0 k (k + places_among ss) (firsts_among k ss) (omega arith) (below_among k ss w)))

mutual
  climb_of : (k : ℕ) (s : TSeq) → IsSeq s → Each IsClimbing (choices_of k s)
  climb_of k Done w = tt
  climb_of k (Then i s) w = each_join IsClimbing (choices_in k i) (choices_of (k + places_in i) s) (climb_in k i w.0) (climb_of (k + places_in i) s w.1)

  climb_in : (k : ℕ) (i : TItem) → IsItem i → Each IsClimbing (choices_in k i)
  climb_in k (TBurst ms) w = tt
  climb_in k (TAlt ss) w = each_join IsClimbing (choices_among k ss) (alternatives k ss ∷ []) (climb_among k ss w.1) (climbing_choice k ss w.1, tt)

  climb_among : (k : ℕ) (ss : TSeqs) → AreSeqs ss → Each IsClimbing (choices_among k ss)
  climb_among k Stop w = tt
  climb_among k (Or s ss) w = each_join IsClimbing (choices_of k s) (choices_among (k + places_of s) ss) (climb_of k s (full_seq s w.0)) (climb_among (k + places_of s) ss w.1)

join_seq : (s t : TSeq) → IsSeq s → IsSeq t → IsSeq (join s t)
join_seq Done t a b = b
join_seq (Then i s) t a b = (a.0, join_seq s t a.1 b)

part_seq : (s : Option TSeq) → IsPart s → IsSeq (part s)
part_seq None w = tt
part_seq (Some s) w = full_seq s w

pub choices_climb : (p : Proc) → IsProc p → Each IsClimbing (choices p)
choices_climb p w = climb_of 1 (text_of p) (join_seq (part p.lead) (part p.body) (part_seq p.lead w.1) (part_seq p.body w.2))
