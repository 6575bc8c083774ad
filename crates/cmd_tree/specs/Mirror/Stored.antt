-- A tree as a stored value of the logic, by which proofs tell trees apart.
use Rattle.std.specs.Prelude.{◌≡◌, zero, suc, List, [], ◌∷◌, refl}
use base.Stored.{Gv, gnil, gnum, gcons, Coded}
use denote.Struct.Codes.{itself, code_by}
use Rattle.cmd_tree.specs.declared.tree.Dir.{Dir}
use Rattle.cmd_tree.specs.declared.tree.Dir.TheVariants.{Input, Output}
use Rattle.cmd_tree.specs.declared.tree.Mark.{Mark}
use Rattle.cmd_tree.specs.Tree.{TItem, TSeq, TSeqs, TBurst, TAlt, Stop, Or, Done, Then}

abbrev pub put_dir : Dir → Gv
put_dir Input = gnum 0
put_dir Output = gnum 1

abbrev pub get_dir : Gv → Dir
get_dir gnil = Input
get_dir (gnum zero) = Input
get_dir (gnum (suc n)) = Output
get_dir (gcons a b) = Input

pub dir_back : (d : Dir) → get_dir (put_dir d) ≡ d
dir_back Input = refl
dir_back Output = refl

abbrev pub put_mark : Mark → Gv
put_mark m = gcons (gnum m.sym.0) (put_dir m.dir)

abbrev pub number : Gv → Mark → Mark
number gnil m = m
number (gnum n) m = record { sym = record { 0 = n }; dir = m.dir }
number (gcons a b) m = m

abbrev pub get_mark : Gv → Mark
get_mark gnil = record { sym = record { 0 = 0 }; dir = Input }
get_mark (gnum n) = record { sym = record { 0 = 0 }; dir = Input }
get_mark (gcons a b) = number a (record { sym = record { 0 = 0 }; dir = get_dir b })

pub mark_back : (m : Mark) → get_mark (put_mark m) ≡ m
mark_back m = λ i. record { sym = m.sym; dir = dir_back m.dir i }

abbrev pub put_marks : List Mark → Gv
put_marks [] = gnil
put_marks (m ∷ ms) = gcons (put_mark m) (put_marks ms)

abbrev pub get_marks : Gv → List Mark
get_marks gnil = []
get_marks (gnum n) = []
get_marks (gcons a b) = get_mark a ∷ get_marks b

pub marks_back : (ms : List Mark) → get_marks (put_marks ms) ≡ ms
marks_back [] = refl
marks_back (m ∷ ms) = λ i. mark_back m i ∷ marks_back ms i

abbrev mutual
  pub put_item : TItem → Gv
  put_item (TBurst ms) = gcons (gnum 0) (put_marks ms)
  put_item (TAlt ss) = gcons gnil (put_seqs ss)

  pub put_seqs : TSeqs → Gv
  put_seqs Stop = gnil
  put_seqs (Or s ss) = gcons (put_seq s) (put_seqs ss)

  pub put_seq : TSeq → Gv
  put_seq Done = gnil
  put_seq (Then i s) = gcons (put_item i) (put_seq s)

abbrev mutual
  pub get_item : Gv → TItem
  get_item gnil = TBurst []
  get_item (gnum n) = TBurst []
  get_item (gcons gnil g) = TAlt (get_seqs g)
  get_item (gcons (gnum n) g) = TBurst (get_marks g)
  get_item (gcons (gcons a b) g) = TBurst []

  pub get_seqs : Gv → TSeqs
  get_seqs gnil = Stop
  get_seqs (gnum n) = Stop
  get_seqs (gcons a b) = Or (get_seq a) (get_seqs b)

  pub get_seq : Gv → TSeq
  get_seq gnil = Done
  get_seq (gnum n) = Done
  get_seq (gcons a b) = Then (get_item a) (get_seq b)

mutual
  pub item_back : (i : TItem) → get_item (put_item i) ≡ i
  item_back (TBurst ms) = λ i. TBurst (marks_back ms i)
  item_back (TAlt ss) = λ i. TAlt (seqs_back ss i)

  pub seqs_back : (ss : TSeqs) → get_seqs (put_seqs ss) ≡ ss
  seqs_back Stop = refl
  seqs_back (Or s ss) = λ i. Or (seq_back s i) (seqs_back ss i)

  pub seq_back : (s : TSeq) → get_seq (put_seq s) ≡ s
  seq_back Done = refl
  seq_back (Then x s) = λ i. Then (item_back x i) (seq_back s i)

abbrev pub coded_seq : Coded TSeq
coded_seq = code_by Gv itself put_seq get_seq seq_back
