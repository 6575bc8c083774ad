-- A grant as it is found in a tree.
use Rattle.std.specs.Prelude.{ℕ, Bool, true, false, ◌&&◌, nat_lt, if◌then◌else◌, List, [], ◌∷◌, Option, Some, None}
use Rattle.cmd_tree.specs.declared.tree.Dir.{Dir}
use Rattle.cmd_tree.specs.declared.tree.Dir.TheVariants.{Input, Output}
use Rattle.cmd_tree.specs.declared.tree.Mark.{Mark}
use Rattle.cmd_tree.specs.Tree.{TItem, TSeq, TSeqs, TBurst, TAlt, Stop, Or, Done, Then}
use Rattle.cmd_tree.specs.Limits.{count_of}
use Rattle.cmd_tree.specs.View.{seqs_of}
use Rattle.di_grammar.specs.declared.grants.Form.{Form}
use Rattle.di_grammar.specs.declared.grants.Form.TheVariants.{Plain, Release}
use Rattle.di_grammar.specs.declared.grants.Grant.{Grant}
use Rattle.di_grammar.specs.Grants.{Gift, gifts_from}

abbrev pub same_dir : Dir → Dir → Bool
same_dir Input Input = true
same_dir Input Output = false
same_dir Output Input = false
same_dir Output Output = true

-- the item is a burst of one mark of this direction
abbrev pub is_mark : Dir → List Mark → Bool
is_mark d [] = false
is_mark d (m ∷ []) = same_dir m.dir d
is_mark d (m ∷ n ∷ ms) = false

abbrev pub is_single : Dir → TItem → Bool
is_single d (TBurst ms) = is_mark d ms
is_single d (TAlt ss) = false

-- the alternative is p!, or p!;d?
abbrev pub is_gift : Form → TSeq → Bool
is_gift Plain Done = false
is_gift Plain (Then i Done) = is_single Output i
is_gift Plain (Then i (Then j s)) = false
is_gift Release Done = false
is_gift Release (Then i Done) = false
is_gift Release (Then i (Then j Done)) = is_single Output i && is_single Input j
is_gift Release (Then i (Then j (Then k s))) = false

abbrev pub are_gifts : Form → TSeqs → Bool
are_gifts form Stop = true
are_gifts form (Or s ss) = is_gift form s && are_gifts form ss

-- two alternatives or more, each of which gives a symbol
abbrev pub offers : Form → TSeqs → Bool
offers form ss = nat_lt 1 (count_of ss) && are_gifts form ss

pub record Told : Type 0 where
  pub form : Form
  pub choice : TSeqs

abbrev pub found_in : Form → TItem → Option Told
found_in form (TBurst ms) = None
found_in form (TAlt ss) = if offers form ss then Some (record { form = form; choice = ss }) else None

abbrev pub found_after : TItem → TItem → Option Told
found_after i j = if is_single Input i then found_in Plain j else None

abbrev pub found_body : TSeq → Option Told
found_body Done = None
found_body (Then i Done) = found_in Release i
found_body (Then i (Then j Done)) = found_after i j
found_body (Then i (Then j (Then k s))) = None

abbrev pub found : Option TSeq → Option TSeq → Option Told
found (Some l) b = None
found None None = None
found None (Some b) = found_body b

abbrev pub told : Option Grant → Option Told
told None = None
told (Some g) = Some (record { form = g.form; choice = seqs_of g.choice.now })

-- the symbol that an alternative gives
abbrev pub mark_symbol : List Mark → ℕ
mark_symbol [] = 0
mark_symbol (m ∷ ms) = m.sym.0

abbrev pub item_symbol : TItem → ℕ
item_symbol (TBurst ms) = mark_symbol ms
item_symbol (TAlt ss) = 0

abbrev pub seq_symbol : TSeq → ℕ
seq_symbol Done = 0
seq_symbol (Then i s) = item_symbol i

abbrev pub seq_symbols : TSeqs → List ℕ
seq_symbols Stop = []
seq_symbols (Or s ss) = seq_symbol s ∷ seq_symbols ss

abbrev pub first_place : Form → ℕ
first_place Plain = 2
first_place Release = 1

abbrev pub step_of : Form → ℕ
step_of Plain = 1
step_of Release = 2

abbrev pub gifts_of : Form → TSeqs → List Gift
gifts_of form ss = gifts_from (first_place form) (step_of form) (seq_symbols ss)
