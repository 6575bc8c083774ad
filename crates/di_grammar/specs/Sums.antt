-- The components of a weave: what leads the symbols to and from its processes, and what stands for its grants.
use Rattle.std.specs.Prelude.{ℕ, Bool, true, false, not, ◌&&◌, if◌then◌else◌, List, [], ◌∷◌, ◌++◌, length, map, Option, None, Some}
use Rattle.std.specs.List.{range_with_len}
use Rattle.cmd_tree.specs.declared.tree.Proc.{Proc}
use Rattle.cmd_tree.specs.Tree.{TItem, TSeq, TSeqs, TBurst, TAlt, Stop, Or, Done, Then}
use Rattle.cmd_tree.specs.Limits.{marks_of_proc}
use Rattle.cmd_tree.specs.Lists.{is_in}
use Rattle.cmd_tree.specs.Meaning.{has_symbol}
use Rattle.cmd_tree.specs.Marks.{is_output}
use Rattle.process_laws.specs.GrantForms.{Giving, returned_of}
use Rattle.basic_kinds.specs.Sorts.{Iwires, Forks, Joins, Merges, how_many}
use Rattle.basic_kinds.specs.Sums.{Counted, One, Wide, Sequencer}
use Rattle.di_grammar.specs.Outputs.{out_of}

-- ---- the grants

-- the symbol of a burst of one output, and of a burst of one input
abbrev pub one_output : TItem → Option ℕ
one_output (TBurst (m ∷ [])) = if is_output m.dir then Some m.sym.0 else None
one_output i = None

abbrev pub one_input : TItem → Option ℕ
one_input (TBurst (m ∷ [])) = if is_output m.dir then None else Some m.sym.0
one_input i = None

-- the alternative p!
abbrev pub gift : TSeq → Option ℕ
gift (Then i Done) = one_output i
gift s = None

abbrev pub pair : Option ℕ → Option ℕ → Option Giving
pair (Some p) (Some d) = Some (record { granted = p; returned = d })
pair p d = None

-- the alternative p!;d?
abbrev pub loan : TSeq → Option Giving
loan (Then i (Then j Done)) = pair (one_output i) (one_input j)
loan s = None

abbrev pub put : {A : Type 0} → Option A → Option (List A) → Option (List A)
put (Some x) (Some xs) = Some (x ∷ xs)
put x xs = None

-- what all alternatives are, where each is one
abbrev pub all_of : {A : Type 0} → (TSeq → Option A) → TSeqs → Option (List A)
all_of one Stop = Some []
all_of one (Or s ss) = put (one s) (all_of one ss)

-- what stands for a grant: a SEQ with a request for each symbol that is granted; and where symbols are
-- returned, a MERGE of these, each once, and an IWIRE
abbrev pub plain_ring : List ℕ → List Counted
plain_ring ps = Sequencer (length ps) ∷ []

-- each once, where it stands last
abbrev pub each_once : List ℕ → List ℕ
each_once [] = []
each_once (d ∷ ds) = if is_in d ds then each_once ds else d ∷ each_once ds

abbrev pub release_ring : List Giving → List Counted
release_ring gs = Sequencer (length gs) ∷ One Iwires ∷ Wide Merges (length (each_once (returned_of gs))) ∷ []

-- of a list of alternatives, where it has two and more
abbrev pub of_several : {A : Type 0} → (List A → List Counted) → Option (List A) → Option (List Counted)
of_several ring None = None
of_several ring (Some []) = None
of_several ring (Some (x ∷ [])) = None
of_several ring (Some (x ∷ y ∷ xs)) = Some (ring (x ∷ y ∷ xs))

abbrev pub after_input : Option ℕ → Option (List Counted) → Option (List Counted)
after_input None ring = None
after_input (Some n) ring = ring

-- the body n?;(p1!|..|pk!), and the body p1!;d1?|..|pk!;dk?
abbrev pub body_ring : TSeq → Option (List Counted)
body_ring (Then (TAlt ss) Done) = of_several release_ring (all_of loan ss)
body_ring (Then i (Then (TAlt ss) Done)) = after_input (one_input i) (of_several plain_ring (all_of gift ss))
body_ring s = None

abbrev pub ring_of_parts : Option TSeq → Option TSeq → Option (List Counted)
ring_of_parts None (Some s) = body_ring s
ring_of_parts lead body = None

-- what stands for the process, where it is a grant
abbrev pub ring : Proc → Option (List Counted)
ring p = ring_of_parts p.lead p.body

abbrev pub is_ring : Option (List Counted) → Bool
is_ring None = false
is_ring (Some xs) = true

abbrev pub grants : Proc → Bool
grants p = is_ring (ring p)

-- ---- the symbols

-- in how many processes the symbol stands, and in how many that are no grants
abbrev pub standing : List Proc → ℕ → ℕ
standing ps a = how_many (λ p. has_symbol (marks_of_proc p) a) ps

abbrev pub made : List Proc → ℕ → ℕ
made ps a = how_many (λ p. has_symbol (marks_of_proc p) a && not (grants p)) ps

-- a FORK for an input, to each process that has it; a C for an output, from each that makes it
abbrev pub meeting : List Proc → ℕ → Counted
meeting ps a = if out_of ps a then Wide Joins (made ps a) else Wide Forks (standing ps a)

abbrev pub ring_or_none : Option (List Counted) → List Counted
ring_or_none None = []
ring_or_none (Some xs) = xs

abbrev pub rings : List Proc → List Counted
rings [] = []
rings (p ∷ ps) = ring_or_none (ring p) ++ rings ps

-- what is counted of a weave of these processes over so many symbols
abbrev pub woven : List Proc → ℕ → List Counted
woven ps names = map (meeting ps) (range_with_len 0 names) ++ rings ps
