-- The first of each direction among two lists of bursts.
use Rattle.std.proofs.Common.{◌≡◌, ℕ, List, [], ◌∷◌, ◌++◌, Option, refl, ap, ◌∙◌}
use Rattle.std.specs.Option.{option_or}
use Rattle.cmd_tree.specs.declared.tree.Dir.{Dir}
use Rattle.cmd_tree.specs.declared.tree.Dir.TheVariants.{Input, Output}
use Rattle.tree_walk.specs.declared.edges.ByDirection.{ByDirection}
use Rattle.tree_walk.specs.Bursts.{Burst, dir_of}
use Rattle.tree_walk.specs.Edges.{if_input, if_output, first_input, first_output, by_direction}

input_or : (d : Dir) (k : ℕ) (a b : Option ℕ) → option_or (if_input d k a) b ≡ if_input d k (option_or a b)
input_or Input k a b = refl
input_or Output k a b = refl

output_or : (d : Dir) (k : ℕ) (a b : Option ℕ) → option_or (if_output d k a) b ≡ if_output d k (option_or a b)
output_or Input k a b = refl
output_or Output k a b = refl

inputs_or : (bs cs : List Burst) → option_or (first_input bs) (first_input cs) ≡ first_input (bs ++ cs)
inputs_or [] cs = refl
inputs_or (b ∷ bs) cs = input_or (dir_of b.marks) b.place (first_input bs) (first_input cs) ∙ ap (if_input (dir_of b.marks) b.place) (inputs_or bs cs)

outputs_or : (bs cs : List Burst) → option_or (first_output bs) (first_output cs) ≡ first_output (bs ++ cs)
outputs_or [] cs = refl
outputs_or (b ∷ bs) cs = output_or (dir_of b.marks) b.place (first_output bs) (first_output cs) ∙ ap (if_output (dir_of b.marks) b.place) (outputs_or bs cs)

pub either_joined : (x y : ByDirection) (bs cs : List Burst) (i o : Option ℕ) → i ≡ option_or x.input y.input → o ≡ option_or x.output y.output
    → x ≡ by_direction bs → y ≡ by_direction cs → ◌≡◌ {A = ByDirection} (record { input = i; output = o }) (by_direction (bs ++ cs))
either_joined x y bs cs i o hi ho a b =
    let p : i ≡ first_input (bs ++ cs) = hi ∙ ap (λ (z : ByDirection). option_or z.input y.input) a ∙ ap (λ (z : ByDirection). option_or (first_input bs) z.input) b ∙ inputs_or bs cs in
    let q : o ≡ first_output (bs ++ cs) = ho ∙ ap (λ (z : ByDirection). option_or z.output y.output) a ∙ ap (λ (z : ByDirection). option_or (first_output bs) z.output) b ∙ outputs_or bs cs in
    λ k. record { input = p k; output = q k }
