-- The processes of a command are those that the canonical text writes, and these have the shape of written processes.
use Rattle.std.proofs.Common.{◌≡◌, ℕ, ◌<◌, List, [], ◌∷◌, map, Option, Some, None, refl, sym, ◌∙◌, ap, arith}
use Rattle.std.specs.Prelude.{IsTrue, is_some}
use Rattle.std.specs.List.{AllByRecursion}
use Rattle.cmd_tree.specs.declared.tree.Proc.{Proc}
use Rattle.cmd_tree.specs.Tree.{TSeq, TSeqs, TBurst, TAlt, Stop, Or, Done, Then}
use Rattle.cmd_tree.specs.Limits.{of_part, AreSeqs, IsFull, IsPart, IsProc, IsCommand, count_of}
use Rattle.cmd_text.specs.Process.{body_of, IsWritten, proc_of}
use Rattle.cmd_text.proofs.NamesKept.{true_false}
use Rattle.cmd_text.proofs.AsWritten.{alternatives, written_of}

-- ---- a body is the one of its alternatives
body_back : (s : TSeq) → IsFull s → body_of (alternatives s) ≡ s
body_back Done h = absurd h
body_back (Then (TBurst ms) s) h = refl
body_back (Then (TAlt Stop) Done) h = absurd (omega (arith, h.0.0))
body_back (Then (TAlt (Or s Stop)) Done) h = absurd (omega (arith, h.0.0))
body_back (Then (TAlt (Or s (Or t ss))) Done) h = refl
body_back (Then (TAlt ss) (Then i s)) h = refl

some_back : (o : Option TSeq) → IsTrue (is_some o) → IsPart o → Some (body_of (of_part Stop alternatives o)) ≡ o
some_back None b h = true_false (sym b)
some_back (Some s) b h = ap (λ t. Some t) (body_back s h)

abbrev with_body : Option TSeq → Option TSeq → Proc
with_body l o = record { lead = l; body = o }

proc_back : (p : Proc) → IsTrue (is_some p.body) → IsPart p.body → proc_of (written_of p) ≡ p
proc_back p b h = ap (with_body p.lead) (some_back p.body b h)

procs_back : (ps : List Proc) → AllByRecursion (λ p. IsTrue (is_some p.body)) ps → AllByRecursion IsProc ps → map proc_of (map written_of ps) ≡ ps
procs_back [] b h = refl
procs_back (p ∷ ps) b h = ap (λ u. u ∷ map proc_of (map written_of ps)) (proc_back p b.0 h.0.2) ∙ ap (λ u. p ∷ u) (procs_back ps b.1 h.1)

pub written_back : (names : List (List ℕ)) (procs : List Proc) → IsCommand names procs → map proc_of (map written_of procs) ≡ procs
written_back names procs c = procs_back procs c.bodied c.shaped

-- ---- alternatives, one or more, of which none is empty
record AreAlternatives (ss : TSeqs) : Type 0 where
  some : 0 < count_of ss
  full : AreSeqs ss

alternatives_well : (s : TSeq) → IsFull s → AreAlternatives (alternatives s)
alternatives_well Done h = absurd h
alternatives_well (Then (TBurst ms) s) h = record { some = omega arith; full = (h, tt) }
alternatives_well (Then (TAlt ss) Done) h = record { some = omega (arith, h.0.0); full = h.0.1 }
alternatives_well (Then (TAlt ss) (Then i s)) h = record { some = omega arith; full = (h, tt) }

some_well : (o : Option TSeq) → IsTrue (is_some o) → IsPart o → AreAlternatives (of_part Stop alternatives o)
some_well None b h = true_false (sym b)
some_well (Some s) b h = alternatives_well s h

proc_well : (p : Proc) → IsTrue (is_some p.body) → IsPart p.lead → AreAlternatives (of_part Stop alternatives p.body) → IsWritten (written_of p)
proc_well p b l a = record { lead = l; some = a.some; body = a.full }

procs_well : (ps : List Proc) → AllByRecursion (λ p. IsTrue (is_some p.body)) ps → AllByRecursion IsProc ps → AllByRecursion IsWritten (map written_of ps)
procs_well [] b h = tt
procs_well (p ∷ ps) b h = (proc_well p b.0 h.0.1 (some_well p.body b.0 h.0.2), procs_well ps b.1 h.1)

pub written_well : (names : List (List ℕ)) (procs : List Proc) → IsCommand names procs → AllByRecursion IsWritten (map written_of procs)
written_well names procs c = procs_well procs c.bodied c.shaped
