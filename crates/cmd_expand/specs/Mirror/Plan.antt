-- What the lines of a plan are.
use Rattle.std.specs.Prelude.{◌≡◌, ℕ, ◌<◌, ◌≤◌, nat_eq, List, [], ◌∷◌, ◌++◌, map, length, get_or, ⊤, if◌then◌else◌}
use Rattle.std.specs.List.{AllByRecursion}
use Rattle.cmd_tree.specs.declared.tree.Proc.{Proc}
use Rattle.cmd_tree.specs.Limits.{places_of_all}
use Rattle.cmd_text.specs.declared.file.Factor.{Factor}
use Rattle.cmd_text.specs.declared.file.Sentence.{Sentence}
use Rattle.cmd_rename.specs.Renaming.{ren_all}
use Rattle.cmd_rename.specs.Symbols.{symbols_of}
use Rattle.cmd_expand.specs.declared.plan.Part.{Part}
use Rattle.cmd_expand.specs.declared.plan.Part.TheVariants.{Own, Use}
use Rattle.cmd_expand.specs.declared.plan.Line.{Line}
use Rattle.cmd_expand.specs.declared.plan.Draft.{Draft}
use Rattle.cmd_expand.specs.declared.plan.Plan.{Plan}
use Rattle.cmd_expand.specs.Pairs.{renamed}
use Rattle.cmd_expand.specs.Expansion.{Known, factor, definition, defined_by, name_of}
use Rattle.std.specs.Prelude.{Ok}

-- the number that stands where the symbol a stands
abbrev pub assigned : List ℕ → List ℕ → ℕ → ℕ
assigned [] ns a = 0
assigned (x ∷ xs) [] a = 0
assigned (x ∷ xs) (n ∷ ns) a = if nat_eq a x then n else assigned xs ns a

-- ms: the processes of each line
abbrev pub procs_of_part : List (List Proc) → Part → List Proc
procs_of_part ms (Own p) = p.now ∷ []
procs_of_part ms (Use of pairs) = ren_all (renamed pairs.items) (get_or ms of [])

abbrev pub procs_of_parts : List (List Proc) → List Part → List Proc
procs_of_parts ms [] = []
procs_of_parts ms (p ∷ ps) = procs_of_part ms p ++ procs_of_parts ms ps

-- a part of the line n uses lines before it
abbrev pub IsBelow : ℕ → Part → Type 0
IsBelow n (Own p) = ⊤
IsBelow n (Use of pairs) = of < n

-- The line n, of these processes, has the processes of the line shape under other symbols.
pub data IsShape (ms : List (List Proc)) (n : ℕ) (ps : List Proc) : ℕ → Type 0 where
  own : IsShape ms n ps n
  other : (shape : ℕ) → shape < n → (h : ℕ → ℕ) → ps ≡ ren_all h (get_or ms shape []) → symbols_of ps ≡ map h (symbols_of (get_or ms shape [])) → IsShape ms n ps shape

pub record IsLine (ms : List (List Proc)) (n : ℕ) (l : Line) (ps : List Proc) : Type 0 where
  pub below : AllByRecursion (IsBelow n) l.parts.items
  pub meaning : procs_of_parts ms l.parts.items ≡ ps
  pub symbols : l.symbols.items ≡ symbols_of ps
  pub procs : l.procs ≡ length ps
  pub places : l.places ≡ places_of_all ps
  pub shape : IsShape ms n ps l.shape

-- the lines have these processes
pub record AreLines (ms : List (List Proc)) (ls : List Line) : Type 0 where
  pub many : length ms ≡ length ls
  pub line : (i : ℕ) (d : Line) → i < length ls → IsLine ms i (get_or ls i d) (get_or ms i [])

-- each line uses lines before it
abbrev pub AreBelow : List Line → Type 0
AreBelow ls = (i : ℕ) (d : Line) → i < length ls → AllByRecursion (IsBelow i) (get_or ls i d).parts.items × ((get_or ls i d).shape ≤ i)

-- what is gathered is of its parts
pub record IsDraft (ms : List (List Proc)) (d : Draft) : Type 0 where
  pub symbols : d.symbols.items ≡ symbols_of (procs_of_parts ms d.parts.items)
  pub procs : d.procs ≡ length (procs_of_parts ms d.parts.items)
  pub places : d.places ≡ places_of_all (procs_of_parts ms d.parts.items)

-- these processes were added
pub record Added (ms : List (List Proc)) (d e : Draft) (ps : List Proc) : Type 0 where
  pub draft : IsDraft ms e
  pub procs : procs_of_parts ms e.parts.items ≡ procs_of_parts ms d.parts.items ++ ps

abbrev pub procs_known : List Known → List (List Proc)
procs_known known = map (λ k. k.procs) known

-- the plan has these definitions, and maybe further names
pub record IsPlan (known : List Known) (p : Plan) : Type 0 where
  pub rest : List (List ℕ)
  pub defined : p.defined ≡ map (λ k. k.name) known ++ rest
  pub lines : AreLines (procs_known known) p.lines.items

-- the processes of this factor were added
pub record AddedFactor (known : List Known) (p : Plan) (d e : Draft) (f : Factor) : Type 0 where
  pub procs : List Proc
  pub is : factor p.names p.sentences.now known f ≡ Ok procs
  pub added : Added (procs_known known) d e procs

-- the plan has these definitions and no further names
pub record IsPlanOf (known : List Known) (p : Plan) : Type 0 where
  pub defined : p.defined ≡ map (λ k. k.name) known
  pub lines : AreLines (procs_known known) p.lines.items

-- this sentence was put behind the definitions
pub record Defined (known : List Known) (p q : Plan) (s : Sentence) : Type 0 where
  pub procs : List Proc
  pub is : definition p.names p.sentences.now known s ≡ Ok procs
  pub plan : IsPlanOf (known ++ defined_by (name_of s.name) procs ∷ []) q
