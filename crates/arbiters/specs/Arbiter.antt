-- The command of an arbiter: clients that ask for one resource, and a grant that lends it to one of them at a time.
use Rattle.std.specs.Prelude.{◌≡◌, ℕ, ◌*◌, ◌-◌, List, [], ◌∷◌, ◌++◌, map, flat_map, codes, decimal, None, Some}
use Rattle.std.specs.List.{range_with_len}
use Rattle.cmd_tree.specs.declared.command.Command.{Command}
use Rattle.cmd_tree.specs.declared.tree.Proc.{Proc}
use Rattle.cmd_tree.specs.Tree.{TSeq, Then}
use Rattle.cmd_tree.specs.Marks.{input, output}
use Rattle.process_laws.specs.GrantForms.{Giving, single, lone, release}

-- The symbols ai, pi, ci and ei of client i. Clients are counted from 1, and symbols are numbered by first occurrence.
abbrev pub asks : ℕ → ℕ
asks i = 4 * i - 4

abbrev pub granted : ℕ → ℕ
granted i = 4 * i - 3

abbrev pub returned : ℕ → ℕ
returned i = 4 * i - 2

abbrev pub ended : ℕ → ℕ
ended i = 4 * i - 1

-- their names, with i as the digits
abbrev pub names_of : ℕ → List (List ℕ)
names_of i = (codes "a" ++ decimal i) ∷ (codes "p" ++ decimal i)
    ∷ (codes "c" ++ decimal i) ∷ (codes "e" ++ decimal i) ∷ []

-- ai?;pi!;ci?;ei!
abbrev pub turn : ℕ → TSeq
turn i = Then (single (input (asks i))) (Then (single (output (granted i)))
    (Then (single (input (returned i))) (lone (single (output (ended i))))))

-- pref*[ai?;pi!;ci?;ei!]
abbrev pub client : ℕ → Proc
client i = record { lead = None; body = Some (turn i) }

-- the alternative pi!;ci?
abbrev pub giving : ℕ → Giving
giving i = record { granted = granted i; returned = returned i }

-- the clients from 1 to n
abbrev pub clients : ℕ → List ℕ
clients n = range_with_len 1 n

-- pref*[p1!;c1?|..|pn!;cn?]
abbrev pub grant : ℕ → Proc
grant n = release (map giving (clients n))

-- pref*[a1?;p1!;c1?;e1!]||..||pref*[an?;pn!;cn?;en!]||pref*[p1!;c1?|..|pn!;cn?]
abbrev pub arbiter : ℕ → List Proc
arbiter n = map client (clients n) ++ grant n ∷ []

abbrev pub arbiter_names : ℕ → List (List ℕ)
arbiter_names n = flat_map names_of (clients n)

-- the command is the arbiter of n clients
pub record IsArbiter (n : ℕ) (c : Command) : Type 0 where
  pub names : c.names ≡ arbiter_names n
  pub procs : c.procs ≡ arbiter n
