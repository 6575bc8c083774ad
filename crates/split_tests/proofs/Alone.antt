-- An admitted command of one process that is no grant.
use Rattle.std.specs.Prelude.{is_some}
use Rattle.std.proofs.Common.{◌≡◌, ℕ, Bool, true, false, true≢false, List, [], ◌∷◌, get_or, Option, None, Some, refl, sym, ap, ◌∙◌}
use Rattle.cmd_tree.specs.declared.tree.Proc.{Proc}
use Rattle.cmd_tree.specs.declared.command.Command.{Command}
use Rattle.di_grammar.specs.Lists.{Within}
use Rattle.di_grammar.specs.Grants.{IsGrant}
use Rattle.di_grammar.specs.Admitted.{Admitted}
use Rattle.di_grammar.proofs.FairnessLists.{each_at}
use Rattle.place_graph.specs.Drawable.{IsDrawable}
use Rattle.place_graph.proofs.Admission.{drawables}

pub none_found : {A : Type 0} (o : Option A) → is_some o ≡ false → o ≡ None
none_found None e = refl
none_found (Some x) e = absurd (true≢false e)

pub first_is : (ps : List Proc) (p q : Proc) → ps ≡ p ∷ [] → q ≡ get_or ps 0 q → q ≡ p
first_is ps p q alone e = e ∙ ap (λ xs. get_or xs 0 q) alone

module _ (c : Command) (p : Proc) (alone : c.procs ≡ p ∷ []) (admitted : Admitted c.procs) (other : IsGrant p → ⊥) where
  within : Within c.procs p
  within = record { before = []; after = []; are = alone }

  pub alone_drawable : IsDrawable p
  alone_drawable = each_at (λ p. (IsGrant p → ⊥) → IsDrawable p) c.procs p (drawables c.procs admitted c.names c.valid) within other
