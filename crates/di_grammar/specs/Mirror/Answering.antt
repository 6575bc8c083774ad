-- What the rules take for granted: limits, which processes are grants, and the rules before.
use Rattle.std.specs.Prelude.{◌≡◌, ◌↔◌, ℕ, ◌<◌, ◌≤◌, Bool, false, IsTrue, List, length, slice_index_or}
use Rattle.cmd_tree.specs.declared.limits.TheConstants.{MAX_PLACES, MAX_PROCESSES}
use Rattle.cmd_tree.specs.declared.tree.Proc.{Proc}
use Rattle.cmd_tree.specs.Limits.{IsProc, places_of_all, marks_of_all}
use Rattle.di_grammar.specs.Lists.{Each}
use Rattle.di_grammar.specs.declared.answer.Rule.{Rule}
use Rattle.di_grammar.specs.Admitted.{Keeps, number_of}
use Rattle.di_grammar.specs.Grants.{IsGrant}
use Rattle.di_grammar.specs.Mirror.Laid.{AreSmall}

-- processes that have the shape and keep the limits of a command's
pub record AreFew (ps : List Proc) : Type 0 where
  pub few_places : places_of_all ps ≤ MAX_PLACES
  pub few_procs : length ps ≤ MAX_PROCESSES
  pub formed : Each IsProc ps
  pub small : AreSmall (marks_of_all ps)

-- the table tells which of the processes are grants
abbrev pub GrantsTold : List Bool → List Proc → Type 0
GrantsTold table ps = (i : ℕ) (p : Proc) → i < length ps → p ≡ slice_index_or ps i p → IsTrue (slice_index_or table i false) ↔ IsGrant p

-- the rules before this one are kept
abbrev pub EarlierKept : Rule → List Proc → Type 0
EarlierKept rule ps = (r : Rule) → number_of r < number_of rule → Keeps r ps
