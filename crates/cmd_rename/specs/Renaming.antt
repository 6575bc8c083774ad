-- Trees under other symbols: each symbol a becomes f a, all at once.
use Rattle.std.specs.Prelude.{ℕ, List, map, Option, option_map}
use Rattle.cmd_tree.specs.declared.tree.Mark.{Mark}
use Rattle.cmd_tree.specs.declared.tree.Proc.{Proc}
use Rattle.cmd_tree.specs.Tree.{TItem, TSeq, TSeqs, TBurst, TAlt, Stop, Or, Done, Then}

abbrev pub ren_mark : (ℕ → ℕ) → Mark → Mark
ren_mark f m = record { sym = record { 0 = f m.sym.0 }; dir = m.dir }

abbrev pub ren_marks : (ℕ → ℕ) → List Mark → List Mark
ren_marks f ms = map (ren_mark f) ms

abbrev mutual
  pub ren_seq : (ℕ → ℕ) → TSeq → TSeq
  ren_seq f Done = Done
  ren_seq f (Then i s) = Then (ren_item f i) (ren_seq f s)

  pub ren_item : (ℕ → ℕ) → TItem → TItem
  ren_item f (TBurst ms) = TBurst (ren_marks f ms)
  ren_item f (TAlt ss) = TAlt (ren_seqs f ss)

  pub ren_seqs : (ℕ → ℕ) → TSeqs → TSeqs
  ren_seqs f Stop = Stop
  ren_seqs f (Or s ss) = Or (ren_seq f s) (ren_seqs f ss)

-- a lead or a body that may be missing
abbrev pub ren_part : (ℕ → ℕ) → Option TSeq → Option TSeq
ren_part f s = option_map (ren_seq f) s

abbrev pub ren_proc : (ℕ → ℕ) → Proc → Proc
ren_proc f p = record { lead = ren_part f p.lead; body = ren_part f p.body }

abbrev pub ren_all : (ℕ → ℕ) → List Proc → List Proc
ren_all f ps = map (ren_proc f) ps
