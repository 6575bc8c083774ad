-- A command of one process: it is no grant, and what is counted of its processes is counted of it.
use Rattle.std.proofs.Common.{◌≡◌, inl, inr, ℕ, ◌<◌, false, List, [], ◌∷◌, ◌++◌, length, sym, ap, subst, arith, if◌then◌else◌}
use Rattle.std.proofs.lemmas.Bool.{cases_Bool}
use Rattle.cmd_tree.specs.declared.tree.Proc.{Proc}
use Rattle.process_laws.specs.GrantForms.{Giving, granted_of}
use Rattle.basic_kinds.specs.Sorts.{Sort}
use Rattle.basic_kinds.specs.Sums.{Counted, total_of}
use Rattle.di_grammar.specs.Lists.{Each, Within}
use Rattle.di_grammar.specs.Grants.{Gift, gifts_from, Grants, IsGrant}
use Rattle.di_grammar.specs.Homes.{HasHome, IsElsewhere}
use Rattle.di_grammar.specs.Admitted.{Admitted}
use Rattle.di_grammar.specs.Sums.{grants}
use Rattle.di_grammar.proofs.SumGrants.{grants_are}
use Rattle.place_graph.specs.Graph.{graph_of}
use Rattle.place_graph.specs.Sums.{counted, processes}
use Rattle.plain_split.proofs.SharedSums.{total_append}

-- ---- no grant

within_one : (p q : Proc) → Within (p ∷ []) q → q ≡ p
within_one p q w = by w.before w.are
  where
    by : (before : List Proc) → p ∷ [] ≡ before ++ q ∷ w.after → q ≡ p
    by [] e = cc
    by (x ∷ []) e = absurd (omega (arith, ap length e))
    by (x ∷ y ∷ before) e = absurd (omega (arith, ap length e))

first_gift : (P : Gift → Type 0) (k step : ℕ) (xs : List ℕ) → 0 < length xs → Each P (gifts_from k step xs) → (g : Gift) × P g
first_gift P k step [] some each = absurd (omega arith)
first_gift P k step (a ∷ xs) some each = (record { place = k; symbol = a }, each.0)

granted_long : (gs : List Giving) → 1 < length gs → 0 < length (granted_of gs)
granted_long [] h = absurd (omega arith)
granted_long (g ∷ gs) h = omega arith

module _ (ps : List Proc) (p : Proc) (admitted : Admitted ps) (alone : ps ≡ p ∷ []) where
  pub no_grant : IsGrant p → ⊥
  no_grant (gs, g) = homeless (given gs g (admitted.homes 1 p gs (record { before = []; after = []; are = alone; number = omega arith }) g))
    where
      given : (gs : List Gift) → Grants p gs → Each (λ g. HasHome ps g.symbol × (IsElsewhere ps 1 g.symbol → ⊥)) gs
          → (g : Gift) × (HasHome ps g.symbol × (IsElsewhere ps 1 g.symbol → ⊥))
      given gs (inl h) each = first_gift (λ g. HasHome ps g.symbol × (IsElsewhere ps 1 g.symbol → ⊥)) 2 1 h.symbols (omega (arith, h.many))
          (subst (Each (λ g. HasHome ps g.symbol × (IsElsewhere ps 1 g.symbol → ⊥))) h.gives each)
      given gs (inr h) each = first_gift (λ g. HasHome ps g.symbol × (IsElsewhere ps 1 g.symbol → ⊥)) 1 2 (granted_of h.givings) (granted_long h.givings h.many)
          (subst (Each (λ g. HasHome ps g.symbol × (IsElsewhere ps 1 g.symbol → ⊥))) h.gives each)

      homeless : (g : Gift) × (HasHome ps g.symbol × (IsElsewhere ps 1 g.symbol → ⊥)) → ⊥
      homeless (x, (home, other)) =
          home.no_grant (subst IsGrant (sym (within_one p home.home (subst (λ ps. Within ps home.home) alone home.within))) (gs, g))

-- ---- its sums

no_ring : (p : Proc) → (IsGrant p → ⊥) → grants p ≡ false
no_ring p other = elim (cases_Bool (grants p)) [
  | inl is ↦ absurd (other ((grants_are p).0 is))
  | inr none ↦ none
]

pub one_counted : (sum : Counted → Sort → ℕ) (p : Proc) (names : ℕ) (t : Sort) → (IsGrant p → ⊥) → total_of sum (processes (p ∷ []) names) t ≡ total_of sum (counted (graph_of p) names) t
one_counted sum p names t other = omega (
  arith,
  ap (λ b. total_of sum ((if b then [] else counted (graph_of p) names) ++ []) t) (no_ring p other),
  total_append sum (counted (graph_of p) names) [] t,
)
