-- Sums over what is counted.
use Rattle.std.specs.Prelude.{if◌then◌else◌}
use Rattle.std.proofs.Common.{◌≡◌, ℕ, zero, suc, ◌+◌, ◌<◌, ◌≤◌, List, [], ◌∷◌, ◌++◌, length, map, get_or, drop, drop-cons, append_assoc, refl, sym, ap, ◌∙◌, arith}
use Rattle.std.proofs.lemmas.List.{map-append}
use Rattle.cmd_tree.specs.declared.tree.Proc.{Proc}
use Rattle.di_grammar.specs.Sums.{grants}
use Rattle.place_graph.specs.Graph.{graph_of}
use Rattle.place_graph.specs.Sums.{counted, processes}
use Rattle.count_sum.specs.declared.parts.Part.{Part}
use Rattle.count_sum.specs.Mirror.Parts.{counted_of}
use Rattle.basic_kinds.specs.Sorts.{Sort}
use Rattle.basic_kinds.specs.Sums.{Counted, total_of, one_if_wide}

pub total_append : (sum : Counted → Sort → ℕ) (xs ys : List Counted) (t : Sort) → total_of sum (xs ++ ys) t ≡ total_of sum xs t + total_of sum ys t
total_append sum [] ys t = omega arith
total_append sum (x ∷ xs) ys t = omega (arith, total_append sum xs ys t)

pub wide_is : (n : ℕ) → 1 < n → one_if_wide n ≡ 1
wide_is zero h = absurd (omega arith)
wide_is (suc zero) h = absurd (omega arith)
wide_is (suc (suc n)) h = refl

pub wide_none : (n : ℕ) → n ≤ 1 → one_if_wide n ≡ 0
wide_none zero h = refl
wide_none (suc zero) h = refl
wide_none (suc (suc n)) h = absurd (omega arith)

-- one process more is counted
pub processes_more : (ps : List Proc) (names i : ℕ) (x : Proc) (old more new : List Part) → i < length ps → x ≡ get_or ps i x → map counted_of old ++ processes (drop i ps) names ≡ processes ps names
    → new ≡ old ++ more → map counted_of more ≡ (if grants x then [] else counted (graph_of x) names) → map counted_of new ++ processes (drop (i + 1) ps) names ≡ processes ps names
processes_more ps names i x old more new low is whole added here =
    let next : suc i ≡ i + 1 = omega arith in
    let cut : drop i ps ≡ x ∷ drop (i + 1) ps = drop-cons ps i x low ∙ ap (λ p. p ∷ drop (suc i) ps) (sym is) ∙ ap (λ n. x ∷ drop n ps) next in
    ap (λ xs. map counted_of xs ++ processes (drop (i + 1) ps) names) added
    ∙ ap (λ xs. xs ++ processes (drop (i + 1) ps) names) (map-append counted_of old more)
    ∙ append_assoc (map counted_of old) (map counted_of more) (processes (drop (i + 1) ps) names)
    ∙ ap (λ ys. map counted_of old ++ (ys ++ processes (drop (i + 1) ps) names)) here
    ∙ ap (λ qs. map counted_of old ++ processes qs names) (sym cut) ∙ whole
