-- What the type `Command` keeps of its names and processes.
use Rattle.std.specs.Prelude.{◌≡◌, ℕ, ◌+◌, ◌<◌, ◌≤◌, Bool, false, ◌&&◌, ◌||◌, not, nat_le, nat_lt, nat_eq, IsTrue, List, [], ◌∷◌, ◌++◌, length, max, codes, ⊤, Option, Some, None, is_some, if◌then◌else◌}
use Rattle.std.specs.List.{IsDistinct, IsDistinct-prop, AllByRecursion, AllByRecursion-prop, list_all}
use Rattle.std.specs.Coded.{×_prop, Unit-prop, le_prop}
use native.Mathlib.Nat.{ℕ_set}
use denote.Struct.Props.{props}
use Rattle.std.proofs.Math.Dec.{T_prop}
use Rattle.std.specs.Str.{bytes_eq}
use Rattle.cmd_tree.specs.declared.limits.TheConstants.{MAX_NAME_BYTES, MAX_OPEN_BRACKETS, MAX_SYMBOLS, MAX_PROCESSES, MAX_PLACES}
use Rattle.cmd_tree.specs.declared.tree.Mark.{Mark}
use Rattle.cmd_tree.specs.declared.tree.Proc.{Proc}
use Rattle.cmd_tree.specs.Tree.{TItem, TSeq, TSeqs, TBurst, TAlt, Stop, Or, Done, Then, places_of, depth_of, marks_of}

-- of a lead or a body that may be missing
abbrev pub of_part : {A : Type 0} → A → (TSeq → A) → Option TSeq → A
of_part none f None = none
of_part none f (Some s) = f s

abbrev pub places_of_proc : Proc → ℕ
places_of_proc p = of_part 0 places_of p.lead + of_part 0 places_of p.body

abbrev pub places_of_all : List Proc → ℕ
places_of_all [] = 0
places_of_all (p ∷ ps) = places_of_proc p + places_of_all ps

abbrev pub depth_of_proc : Proc → ℕ
depth_of_proc p = max (of_part 0 depth_of p.lead) (of_part 0 depth_of p.body)

abbrev pub depth_of_all : List Proc → ℕ
depth_of_all [] = 0
depth_of_all (p ∷ ps) = max (depth_of_proc p) (depth_of_all ps)

abbrev pub marks_of_proc : Proc → List Mark
marks_of_proc p = of_part [] marks_of p.lead ++ of_part [] marks_of p.body

abbrev pub marks_of_all : List Proc → List Mark
marks_of_all [] = []
marks_of_all (p ∷ ps) = marks_of_proc p ++ marks_of_all ps

abbrev pub count_of : TSeqs → ℕ
count_of Stop = 0
count_of (Or s ss) = count_of ss + 1

-- sequences and bursts are nonempty, and a choice has two or more alternatives
abbrev mutual
  -- each item of the sequence is whole
  pub IsSeq : TSeq → Type 0
  IsSeq Done = ⊤
  IsSeq (Then i s) = IsItem i × IsSeq s

  pub IsItem : TItem → Type 0
  IsItem (TBurst ms) = 0 < length ms
  IsItem (TAlt ss) = (1 < count_of ss) × AreSeqs ss

  pub AreSeqs : TSeqs → Type 0
  AreSeqs Stop = ⊤
  AreSeqs (Or s ss) = IsFull s × AreSeqs ss

  -- whole, and not empty
  pub IsFull : TSeq → Type 0
  IsFull Done = ⊥
  IsFull (Then i s) = IsItem i × IsSeq s

-- a lead or a body that may be missing
abbrev pub IsPart : Option TSeq → Type 0
IsPart None = ⊤
IsPart (Some s) = IsFull s

-- a process has a lead or a body
abbrev pub IsProc : Proc → Type 0
IsProc p = IsTrue (is_some p.lead || is_some p.body) × IsPart p.lead × IsPart p.body

-- how many round brackets are open at once in the canonical text
abbrev mutual
  pub brackets_of : TSeq → ℕ
  brackets_of Done = 0
  brackets_of (Then i s) = max (brackets_in i) (brackets_of s)

  pub brackets_in : TItem → ℕ
  brackets_in (TBurst ms) = if nat_lt 1 (length ms) then 1 else 0
  brackets_in (TAlt ss) = brackets_among ss + 1

  pub brackets_among : TSeqs → ℕ
  brackets_among Stop = 0
  brackets_among (Or s ss) = max (brackets_of s) (brackets_among ss)

-- a body that is one choice alone is written without round brackets
abbrev pub brackets_of_body : TSeq → ℕ
brackets_of_body (Then (TAlt ss) Done) = brackets_among ss
brackets_of_body (Then (TAlt ss) (Then i s)) = brackets_of (Then (TAlt ss) (Then i s))
brackets_of_body (Then (TBurst ms) s) = brackets_of (Then (TBurst ms) s)
brackets_of_body Done = 0

abbrev pub brackets_of_proc : Proc → ℕ
brackets_of_proc p = max (of_part 0 brackets_of p.lead) (of_part 0 brackets_of_body p.body)

-- the symbols are numbered from k on by first occurrence, and there are n in all
abbrev pub IsNumbered : ℕ → List Mark → ℕ → Type 0
IsNumbered k [] n = k ≡ n
IsNumbered k (m ∷ ms) n = (m.sym.0 ≤ k) × IsNumbered (max k (m.sym.0 + 1)) ms n

-- a letter of ASCII
abbrev pub is_letter : ℕ → Bool
is_letter b = (nat_le 65 b && nat_le b 90) || (nat_le 97 b && nat_le b 122)

-- a byte that may stand in a name after its first
abbrev pub is_tail : ℕ → Bool
is_tail b = is_letter b || (nat_le 48 b && nat_le b 57) || nat_eq b 95

abbrev pub begins_with_letter : List ℕ → Bool
begins_with_letter [] = false
begins_with_letter (b ∷ bs) = is_letter b && list_all is_tail bs

-- the three words that are no names
abbrev pub is_word : List ℕ → Bool
is_word n = bytes_eq n (codes "let") || bytes_eq n (codes "main") || bytes_eq n (codes "pref")

-- the form of a name: a letter, then letters, digits and `_`, of few bytes in all, and none of the three words
abbrev pub is_name : List ℕ → Bool
is_name n = nat_le (length n) MAX_NAME_BYTES && begins_with_letter n && not (is_word n)

-- What a command keeps. Its processes have the shape of processes, each with a body; its names are those of its symbols,
-- which are numbered by first occurrence; and few brackets are open at once, in few processes with few symbols at
-- few places.
pub record IsCommand (names : List (List ℕ)) (procs : List Proc) : Type 0 where
  pub some : 0 < length procs
  pub shaped : AllByRecursion IsProc procs
  pub bodied : AllByRecursion (λ p. IsTrue (is_some p.body)) procs
  pub numbered : IsNumbered 0 (marks_of_all procs) (length names)
  pub distinct : IsDistinct bytes_eq names
  pub formed : AllByRecursion (λ n. IsTrue (is_name n)) names
  pub few_brackets : AllByRecursion (λ p. brackets_of_proc p ≤ MAX_OPEN_BRACKETS) procs
  pub few_symbols : length names ≤ MAX_SYMBOLS
  pub few_procs : length procs ≤ MAX_PROCESSES
  pub few_places : places_of_all procs ≤ MAX_PLACES

-- each of these facts has one proof at most
mutual
  IsSeq-prop : (s : TSeq) → IsProp (IsSeq s)
  IsSeq-prop Done = Unit-prop
  IsSeq-prop (Then i s) = ×_prop (IsItem-prop i) (IsSeq-prop s)

  IsItem-prop : (i : TItem) → IsProp (IsItem i)
  IsItem-prop (TBurst ms) = le_prop
  IsItem-prop (TAlt ss) = ×_prop le_prop (AreSeqs-prop ss)

  AreSeqs-prop : (ss : TSeqs) → IsProp (AreSeqs ss)
  AreSeqs-prop Stop = Unit-prop
  AreSeqs-prop (Or s ss) = ×_prop (IsFull-prop s) (AreSeqs-prop ss)

  IsFull-prop : (s : TSeq) → IsProp (IsFull s)
  IsFull-prop Done = λ x y. absurd x
  IsFull-prop (Then i s) = ×_prop (IsItem-prop i) (IsSeq-prop s)

IsPart-prop : (s : Option TSeq) → IsProp (IsPart s)
IsPart-prop None = Unit-prop
IsPart-prop (Some s) = IsFull-prop s

IsNumbered-prop : (k : ℕ) (ms : List Mark) (n : ℕ) → IsProp (IsNumbered k ms n)
IsNumbered-prop k [] n = ℕ_set k n
IsNumbered-prop k (m ∷ ms) n = ×_prop le_prop (IsNumbered-prop (max k (m.sym.0 + 1)) ms n)

pub IsCommand-prop : (names : List (List ℕ)) (procs : List Proc) → IsProp (IsCommand names procs)
IsCommand-prop names procs = hlevel (
  le_prop,
  AllByRecursion-prop,
  IsNumbered-prop,
  IsDistinct-prop,
  T_prop,
  IsPart-prop,
  ×_prop,
  props,
)
