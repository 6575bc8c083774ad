-- The command of each kind, with the ports as symbols, and the traces of a kind: those of its command.
use Rattle.std.specs.Prelude.{ℕ, ◌+◌, List, [], ◌∷◌, ◌++◌, map, Some, None}
use Rattle.std.specs.List.{range_with_len}
use Rattle.cmd_tree.specs.declared.tree.Mark.{Mark}
use Rattle.cmd_tree.specs.declared.tree.Proc.{Proc}
use Rattle.cmd_tree.specs.Tree.{TItem, TSeq, TBurst, TAlt, Done, Then}
use Rattle.cmd_tree.specs.Marks.{input, output}
use Rattle.cmd_tree.specs.View.{seqs_of}
use Rattle.cmd_tree.specs.Meaning.{Trace}
use Rattle.basic_kinds.specs.declared.kind.Kind.{Kind}
use Rattle.basic_kinds.specs.declared.kind.Kind.TheVariants.{Wire, Iwire, Source, Sink, Fork, C, Merge, Toggle, Dw, Seq}

abbrev pub one : Mark → TItem
one m = TBurst (m ∷ [])

-- a process that begins anew each time
abbrev pub again : TSeq → Proc
again s = record { lead = None; body = Some s }

-- a process of one sequence alone
abbrev pub once : TSeq → Proc
once s = record { lead = Some s; body = None }

-- all inputs below n, and then the m outputs after them
abbrev pub all_then_all : ℕ → ℕ → TSeq
all_then_all n m =
    Then (TBurst (map input (range_with_len 0 n))) (Then (TBurst (map output (range_with_len n m))) Done)

-- any one of the marks
abbrev pub any_one : List Mark → TItem
any_one ms = TAlt (seqs_of (map (λ m. Then (one m) Done) ms))

-- a row and a column of each crossing, and then the output of that crossing; the outputs are numbered from k
abbrev pub crossings : ℕ → ℕ → List (ℕ × ℕ) → List TSeq
crossings rows k [] = []
crossings rows k (p ∷ ps) =
    Then (TBurst (input p.0 ∷ input (rows + p.1) ∷ [])) (Then (one (output k)) Done) ∷ crossings rows (k + 1)
    ps

-- one of the sequences; a single one is no choice
abbrev pub choice_of : List TSeq → TSeq
choice_of [] = Done
choice_of (s ∷ []) = s
choice_of (s ∷ t ∷ ss) = Then (TAlt (seqs_of (s ∷ t ∷ ss))) Done

-- a request at the port i, and then its grant
abbrev pub granted : ℕ → ℕ → Proc
granted k i = again (Then (one (input i)) (Then (one (output (k + 1 + i))) Done))

-- a token at the port k, and then one of the k grants
abbrev pub grants : ℕ → Proc
grants k = again (Then (one (input k)) (Then (any_one (map output (range_with_len (k + 1) k))) Done))

abbrev pub procs_of : Kind → List Proc
procs_of Wire = again (all_then_all 1 1) ∷ []
procs_of Iwire = again (Then (one (output 1)) (Then (one (input 0)) Done)) ∷ []
procs_of Source = once (Then (one (output 0)) Done) ∷ []
procs_of Sink = once (Then (one (input 0)) Done) ∷ []
procs_of (Fork n) = again (all_then_all 1 n) ∷ []
procs_of (C n) = again (all_then_all n 1) ∷ []
procs_of (Merge n) = again (Then (any_one (map input (range_with_len 0 n))) (Then (one (output n)) Done)) ∷ []
procs_of Toggle =
    again (Then (one (input 0)) (Then (one (output 1)) (Then (one (input 0)) (Then (one (output 2)) Done))))
    ∷ []
procs_of (Dw s) = again (choice_of (crossings s.rows (s.rows + s.cols) s.cross)) ∷ []
procs_of (Seq k) = map (granted k) (range_with_len 0 k) ++ grants k ∷ []

-- the traces of a kind, as lists of its ports
abbrev pub KindTrace : Kind → List ℕ → Type 0
KindTrace kind t = Trace (procs_of kind) t
