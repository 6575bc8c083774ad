-- The nodes that are listed are those of the chart.
use Rattle.std.proofs.Common.{◌≡◌, ℕ, List, [], ◌∷◌, length, map, refl, ap, ◌∙◌, arith}
use Rattle.net_core.specs.declared.spec.NodeSpec.{NodeSpec}
use Rattle.net_core.specs.Wiring.{Node, Circuit}
use Rattle.net_laws.specs.Charts.{charted}
use Rattle.weave_split.specs.declared.paths.Wire.{Wire}
use Rattle.weave_split.specs.declared.paths.Part.{Part}
use Rattle.weave_split.specs.declared.paths.Part.TheVariants as part
use Rattle.weave_split.specs.WeaveChart as web
use Rattle.weave_split.specs.WeaveChart.{Ties, weave_chart}
use Rattle.weave_split.specs.Mirror.TieTables.{wire_of, name_of, spec_of, node_by, part_by}

one_part : (s : NodeSpec) (specs : List NodeSpec) (g : Ties) (ws : List web.Wire) (p : Part) → part_by specs g ws p ≡ node_by s specs g ws (name_of p)
one_part s specs g ws (part.Process p) = refl
one_part s specs g ws (part.Spread a) = refl
one_part s specs g ws (part.Join a) = refl
one_part s specs g ws (part.Returns p) = refl
one_part s specs g ws (part.Gate p) = refl
one_part s specs g ws (part.Sequencer p) = refl

all_parts : (s : NodeSpec) (specs : List NodeSpec) (g : Ties) (ws : List web.Wire) (ps : List Part) → map (part_by specs g ws) ps ≡ map (node_by s specs g ws) (map name_of ps)
all_parts s specs g ws [] = refl
all_parts s specs g ws (p ∷ ps) = ap (λ x. x ∷ map (part_by specs g ws) ps) (one_part s specs g ws p) ∙ ap (λ xs. node_by s specs g ws (name_of p) ∷ xs) (all_parts s specs g ws ps)

wires_long : (xs : List Wire) → length (map wire_of xs) ≡ length xs
wires_long [] = refl
wires_long (x ∷ xs) = omega (arith, wires_long xs)

pub lines_long : (g : Ties) (ls : List Wire) → map wire_of ls ≡ web.lines g → length ls ≡ length (web.lines g)
lines_long g ls h = omega (arith, wires_long ls, ap length h)

same_net : (s : NodeSpec) (specs : List NodeSpec) (g : Ties) (ps : List Part) (ls : List Wire) (ns : List Node) → map name_of ps ≡ web.components g → map wire_of ls ≡ web.lines g
    → ns ≡ node_by s specs g (map wire_of ls) web.Env ∷ map (part_by specs g (map wire_of ls)) ps → ◌≡◌ {A = Circuit} (record { nodes = ns; wires = length ls }) (charted (weave_chart s (spec_of specs) g))
same_net s specs g ps ls ns p h e =
    ap (λ xs. record { nodes = xs; wires = length ls }) (e ∙ ap (λ xs. node_by s specs g (map wire_of ls) web.Env ∷ xs) (all_parts s specs g (map wire_of ls) ps ∙ ap (map (node_by s specs g (map wire_of ls))) p)
    ∙ ap (λ ws. node_by s specs g ws web.Env ∷ map (node_by s specs g ws) (web.components g)) h)
    ∙ ap (λ k. record { nodes = node_by s specs g (web.lines g) web.Env ∷ map (node_by s specs g (web.lines g)) (web.components g); wires = k }) (lines_long g ls h)

pub whole_net : (s : NodeSpec) (specs : List NodeSpec) (g : Ties) (ps qs : List Part) (ls : List Wire) (ns : List Node) (k : ℕ) → ps ≡ qs → map name_of qs ≡ web.components g → map wire_of ls ≡ web.lines g → k ≡ length ls
    → ns ≡ node_by s specs g (map wire_of ls) web.Env ∷ map (part_by specs g (map wire_of ls)) ps → ◌≡◌ {A = Circuit} (record { nodes = ns; wires = k }) (charted (weave_chart s (spec_of specs) g))
whole_net s specs g ps qs ls ns k p a b e n = ap (λ i. record { nodes = ns; wires = i }) e ∙ same_net s specs g ps ls ns (ap (map name_of) p ∙ a) b n
