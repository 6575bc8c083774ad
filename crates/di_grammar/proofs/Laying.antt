-- The bursts of a process come one after another, and have the symbols of its marks.
use Rattle.std.proofs.Common.{◌≡◌, ℕ, ◌+◌, ◌≤◌, List, [], ◌∷◌, ◌++◌, length, refl, sym, ap, ◌∙◌, subst, arith, append_assoc, Option, Some, None}
use Rattle.cmd_tree.specs.declared.tree.Mark.{Mark}
use Rattle.cmd_tree.specs.declared.tree.Proc.{Proc}
use Rattle.cmd_tree.specs.Tree.{TItem, TSeq, TSeqs, TBurst, TAlt, Stop, Or, Done, Then, places_of, places_in, places_among, marks_of, marks_in, marks_among}
use Rattle.cmd_tree.specs.Join.{join}
use Rattle.cmd_tree.specs.Limits.{of_part, marks_of_proc}
use Rattle.di_grammar.proofs.Lists.{each_join, each_front, each_back}
use Rattle.tree_walk.specs.Bursts.{Burst, bursts_of, bursts_in, bursts_among, part, text_of, bursts}
use Rattle.di_grammar.specs.Lists.{Each}
use Rattle.di_grammar.specs.Mirror.Laid.{AreSmall, IsSmall, Laid}

laid_from : (k m e : ℕ) (bs : List Burst) → k ≤ m → Laid m bs e → Laid k bs e
laid_from k m e [] h l = omega arith
laid_from k m e (b ∷ bs) h l = (omega (arith, l.0), l.1)

laid_join : (k m e : ℕ) (bs cs : List Burst) → Laid k bs m → Laid m cs e → Laid k (bs ++ cs) e
laid_join k m e [] cs l r = laid_from k m e cs l r
laid_join k m e (b ∷ bs) cs l r = (l.0, laid_join (b.place + length b.marks) m e bs cs l.1 r)

pub laid_last : (k e : ℕ) (bs : List Burst) (b : Burst) → Laid k (bs ++ b ∷ []) e → Laid k bs b.place × (b.place + length b.marks ≤ e)
laid_last k e [] b l = (l.0, l.1)
laid_last k e (c ∷ bs) b l = let r = laid_last (c.place + length c.marks) e bs b l.1 in ((l.0, r.0), r.1)

mutual
  laid_of : (k : ℕ) (s : TSeq) → Laid k (bursts_of k s) (k + places_of s)
  laid_of k Done = omega arith
  laid_of k (Then i s) = laid_join k (k + places_in i) _ (bursts_in k i) (bursts_of (k + places_in i) s) (laid_in k i)
      (subst (Laid (k + places_in i) (bursts_of (k + places_in i) s)) (omega arith) (laid_of (k + places_in i) s))

  laid_in : (k : ℕ) (i : TItem) → Laid k (bursts_in k i) (k + places_in i)
  laid_in k (TBurst ms) = (omega arith, omega arith)
  laid_in k (TAlt ss) = laid_among k ss

  laid_among : (k : ℕ) (ss : TSeqs) → Laid k (bursts_among k ss) (k + places_among ss)
  laid_among k Stop = omega arith
  laid_among k (Or s ss) = laid_join k (k + places_of s) _ (bursts_of k s) (bursts_among (k + places_of s) ss) (laid_of k s)
      (subst (Laid (k + places_of s) (bursts_among (k + places_of s) ss)) (omega arith) (laid_among (k + places_of s) ss))

mutual
  small_of : (k : ℕ) (s : TSeq) → AreSmall (marks_of s) → Each IsSmall (bursts_of k s)
  small_of k Done h = tt
  small_of k (Then i s) h = each_join IsSmall (bursts_in k i) (bursts_of (k + places_in i) s) (small_in k i (each_front _ (marks_in i) (marks_of s) h))
      (small_of (k + places_in i) s (each_back _ (marks_in i) (marks_of s) h))

  small_in : (k : ℕ) (i : TItem) → AreSmall (marks_in i) → Each IsSmall (bursts_in k i)
  small_in k (TBurst ms) h = (h, tt)
  small_in k (TAlt ss) h = small_among k ss h

  small_among : (k : ℕ) (ss : TSeqs) → AreSmall (marks_among ss) → Each IsSmall (bursts_among k ss)
  small_among k Stop h = tt
  small_among k (Or s ss) h = each_join IsSmall (bursts_of k s) (bursts_among (k + places_of s) ss) (small_of k s (each_front _ (marks_of s) (marks_among ss) h))
      (small_among (k + places_of s) ss (each_back _ (marks_of s) (marks_among ss) h))

marks_join : (s t : TSeq) → marks_of (join s t) ≡ marks_of s ++ marks_of t
marks_join Done t = refl
marks_join (Then i s) t = ap (λ (ms : List Mark). marks_in i ++ ms) (marks_join s t) ∙ sym (append_assoc (marks_in i) (marks_of s) (marks_of t))

pub marks_text : (p : Proc) → marks_of (text_of p) ≡ marks_of_proc p
marks_text p = marks_join (part p.lead) (part p.body) ∙ by p.lead p.body where
  by : (l b : Option TSeq) → marks_of (part l) ++ marks_of (part b) ≡ of_part [] marks_of l ++ of_part [] marks_of b
  by None None = refl
  by None (Some b) = refl
  by (Some l) None = refl
  by (Some l) (Some b) = refl

-- where the bursts of a process end
abbrev pub end_of : Proc → ℕ
end_of p = 1 + places_of (text_of p)

pub laid_proc : (p : Proc) → Laid 1 (bursts p) (end_of p)
laid_proc p = laid_of 1 (text_of p)

pub small_proc : (p : Proc) → AreSmall (marks_of_proc p) → Each IsSmall (bursts p)
small_proc p h = small_of 1 (text_of p) (subst AreSmall (sym (marks_text p)) h)
