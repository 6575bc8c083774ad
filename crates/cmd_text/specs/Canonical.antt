-- The canonical text of a command: one line without blanks.
use Rattle.std.specs.Prelude.{ℕ, List, [], ◌∷◌, ◌++◌, Option, Some, None, codes, slice_index_or}
use Rattle.cmd_tree.specs.declared.tree.Dir.{Dir}
use Rattle.cmd_tree.specs.declared.tree.Dir.TheVariants.{Input, Output}
use Rattle.cmd_tree.specs.declared.tree.Mark.{Mark}
use Rattle.cmd_tree.specs.declared.tree.Proc.{Proc}
use Rattle.cmd_tree.specs.Tree.{TItem, TSeq, TSeqs, TBurst, TAlt, Stop, Or, Done, Then}

abbrev pub sign : Dir → List ℕ
sign Input = codes "?"
sign Output = codes "!"

-- a name and its sign
abbrev pub mark_text : List (List ℕ) → Mark → List ℕ
mark_text names m = slice_index_or names m.sym.0 [] ++ sign m.dir

-- marks, of which the first is led by the text `led` and each other one by two bars
abbrev pub marks_led : List (List ℕ) → List ℕ → List Mark → List ℕ
marks_led names led [] = []
marks_led names led (m ∷ ms) = led ++ mark_text names m ++ marks_led names (codes "||") ms

-- a burst: one mark as it is; more are joined by two bars, in round brackets
abbrev pub burst_text : List (List ℕ) → List Mark → List ℕ
burst_text names [] = []
burst_text names (m ∷ []) = mark_text names m
burst_text names (m ∷ n ∷ ms) = codes "(" ++ marks_led names [] (m ∷ n ∷ ms) ++ codes ")"

abbrev mutual
  -- items, of which the first is led by the text `led` and each other one by a semicolon
  pub items_led : List (List ℕ) → List ℕ → TSeq → List ℕ
  items_led names led Done = []
  items_led names led (Then i s) = led ++ item_text names i ++ items_led names (codes ";") s

  pub item_text : List (List ℕ) → TItem → List ℕ
  item_text names (TBurst ms) = burst_text names ms
  item_text names (TAlt ss) = codes "(" ++ seqs_led names [] ss ++ codes ")"

  -- alternatives, of which the first is led by the text `led` and each other one by a bar
  pub seqs_led : List (List ℕ) → List ℕ → TSeqs → List ℕ
  seqs_led names led Stop = []
  seqs_led names led (Or s ss) = led ++ items_led names [] s ++ seqs_led names (codes "|") ss

-- items joined by semicolons
abbrev pub seq_text : List (List ℕ) → TSeq → List ℕ
seq_text names s = items_led names [] s

-- alternatives joined by bars
abbrev pub seqs_text : List (List ℕ) → TSeqs → List ℕ
seqs_text names ss = seqs_led names [] ss

-- an item alone in a body: a choice has no round brackets there
abbrev pub bare_text : List (List ℕ) → TItem → List ℕ
bare_text names (TBurst ms) = burst_text names ms
bare_text names (TAlt ss) = seqs_text names ss

abbrev pub body_text : List (List ℕ) → TSeq → List ℕ
body_text names Done = []
body_text names (Then i Done) = bare_text names i
body_text names (Then i (Then j s)) = seq_text names (Then i (Then j s))

-- a body that is to be repeated
abbrev pub star_text : List (List ℕ) → TSeq → List ℕ
star_text names s = codes "*[" ++ body_text names s ++ codes "]"

-- a lead and a body that may be missing
abbrev pub parts_text : List (List ℕ) → Option TSeq → Option TSeq → List ℕ
parts_text names None None = []
parts_text names None (Some s) = star_text names s
parts_text names (Some l) None = codes "[" ++ seq_text names l ++ codes "]"
parts_text names (Some l) (Some s) = codes "[" ++ seq_text names l ++ codes ";" ++ star_text names s ++ codes "]"

abbrev pub proc_text : List (List ℕ) → Proc → List ℕ
proc_text names p = codes "pref" ++ parts_text names p.lead p.body

-- processes, of which the first is led by the text `led` and each other one by two bars
abbrev pub procs_led : List (List ℕ) → List ℕ → List Proc → List ℕ
procs_led names led [] = []
procs_led names led (p ∷ ps) = led ++ proc_text names p ++ procs_led names (codes "||") ps

-- processes joined by two bars
abbrev pub procs_text : List (List ℕ) → List Proc → List ℕ
procs_text names ps = procs_led names [] ps
