-- The symbols that are entered into a table.
use Rattle.std.proofs.Common.{◌≡◌, ◌≢◌, inl, inr, ◌<◌, ℕ, ◌+◌, List, [], ◌∷◌, length, get_or, take, sym, ap, ◌∙◌, subst}
use Rattle.std.proofs.lemmas.Bool.{cases_eq}
use Rattle.std.proofs.lemmas.List.{take_more}
use Rattle.cmd_tree.specs.declared.limits.TheConstants.{MAX_SYMBOLS}
use Rattle.cmd_tree.specs.declared.tree.Mark.{Mark}
use Rattle.di_grammar.proofs.Lists.{each_map, each_join}
use Rattle.di_grammar.specs.Lists.{Each}
use Rattle.di_grammar.specs.Mirror.Symbols.{IsEntered}

-- one symbol more is entered
pub record Enters (old new : ℕ → ℕ) (s : ℕ) : Type 0 where
  pub others : (a : ℕ) → a ≢ s → new a ≡ old a
  pub here : s < MAX_SYMBOLS → new s ≡ 1

pub enters_kept : (old new : ℕ → ℕ) (s : ℕ) → Enters old new s → (a : ℕ) → a < MAX_SYMBOLS → old a ≡ 1 → new a ≡ 1
enters_kept old new s e a small is = elim (cases_eq a s) [
  | inl h ↦ ap new h ∙ e.here (subst (λ b. b < MAX_SYMBOLS) h small)
  | inr ne ↦ e.others a ne ∙ is
]

pub enters_next : (old new : ℕ → ℕ) (ms : List Mark) (i : ℕ) (d : Mark) → i < length ms → Enters old new (get_or ms i d).sym.0
    → Each (IsEntered old) (take i ms) → Each (IsEntered new) (take (i + 1) ms)
enters_next old new ms i d h e each =
    let kept = each_map (IsEntered old) (IsEntered new) (take i ms) (λ m is small. enters_kept old new (get_or ms i d).sym.0 e m.sym.0 small (is small)) each in
    subst (Each (IsEntered new)) (sym (take_more ms i d h)) (each_join (IsEntered new) (take i ms) (get_or ms i d ∷ []) kept (e.here, tt))
