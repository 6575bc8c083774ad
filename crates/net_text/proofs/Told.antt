-- The text of a network tells the network.
use Rattle.std.proofs.Common.{◌≡◌, ℕ, ◌+◌, ◌<◌, ◌≤◌, ◌^◌, true, false, List, [], ◌∷◌, ◌++◌, length, take, drop, refl, sym, ap, ◌∙◌, subst, arith, append_assoc, length-append}
use Rattle.std.specs.Prelude.{IsTrue, flat_map, codes, slice_index_or, replicate}
use Rattle.std.specs.List.{AllByRecursion}
use Rattle.std.proofs.lemmas.List.{append_cancel_left, take-append-drop, length-take-le, length-drop, length-replicate, ext_get_or}
use Rattle.std.proofs.lemmas.List.FromFn.{length-map-range_with_len}
use Rattle.cmd_tree.specs.declared.command.Command.{Command}
use Rattle.cmd_tree.specs.Limits.{marks_of_all}
use Rattle.cmd_text.specs.Canonical.{procs_text}
use Rattle.cmd_text.proofs.FileTaken.{same_some}
use Rattle.basic_kinds.specs.declared.kind.Kind.{Kind}
use Rattle.basic_kinds.specs.Kinds.{inputs_of, outputs_of}
use Rattle.net_core.specs.declared.spec.NodeSpec.{NodeSpec}
use Rattle.net_core.specs.declared.spec.NodeSpec.TheVariants.{Kind as Basic, Cmd}
use Rattle.net_core.specs.Specs.{gives_symbol, outs_of, IsFormed, is_kind}
use Rattle.net_core.specs.Networks.{Correct, IsBasic, end_at}
use Rattle.net_core.specs.Wiring.{Node, Circuit, IsWired, wiring}
use Rattle.basic_kinds.proofs.Projections.{all_front}
use Rattle.net_core.proofs.Sizes.{driven_many}
use Rattle.net_text.specs.NetText.{spec_line, node_line, ports_text, command_net_text, nodes_net_text, net_text}
use Rattle.net_text.specs.Told.{Small, AreWiresOf, HasText}
use Rattle.net_text.proofs.Words.{word_apart}
use Rattle.net_text.proofs.ComponentLine.{line_apart, line_begins}
use Rattle.net_text.proofs.CommandLine.{AreRead, is_in_line, command_in_line, same_text}

-- ---- components
pub record IsPart (s : NodeSpec) (ends : List ℕ) : Type 0 where
  pub basic : IsTrue (is_kind s)
  pub sized : length ends ≡ length (outs_of s)
  pub formed : IsFormed s
  pub small : AllByRecursion Small ends

wires_of : (k : Kind) (ends : List ℕ) → IsPart (Basic k) ends
    → AreWiresOf k (take (inputs_of k) ends) (drop (inputs_of k) ends)
wires_of k ends p =
    let many : length ends ≡ inputs_of k + outputs_of k = p.sized
    ∙ length-append (replicate (inputs_of k) false) (replicate (outputs_of k) true)
    ∙ (λ i. length-replicate (inputs_of k) false i + length-replicate (outputs_of k) true i) in
    let cut = all_front Small (take (inputs_of k) ends) (drop (inputs_of k) ends)
    (subst (AllByRecursion Small) (sym (take-append-drop (inputs_of k) ends)) p.small) in
    record {
      formed = p.formed;
      all_inputs = length-take-le (inputs_of k) ends (omega (arith, many));
      all_outputs = omega (arith, length-drop (inputs_of k) ends, many);
      small_inputs = cut.0;
      small_outputs = cut.1;
    }

no_command : {P : Type 0} (c : Command) (ends : List ℕ) → IsPart (Cmd c) ends → P
no_command c ends p = let h : false ≡ true = p.basic in absurd (cc)

pub spec_apart : (s t : NodeSpec) (es fs r q : List ℕ) → IsPart s es → IsPart t fs → spec_line s es ++ r ≡ spec_line t fs ++ q
    → (s ≡ t) × (es ≡ fs) × (r ≡ q)
spec_apart (Cmd c) t es fs r q f g e = no_command c es f
spec_apart (Basic k) (Cmd c) es fs r q f g e = no_command c fs g
spec_apart (Basic k) (Basic l) es fs r q f g e =
    let n : ℕ = inputs_of k in
    let m : ℕ = inputs_of l in
    let told = line_apart (take n es) (take m fs) (drop n es) (drop m fs) r q k l (wires_of k es f) (wires_of l fs g) e in (
      ap Basic told.0,
      sym (take-append-drop n es) ∙ (λ i. told.1 i ++ told.2 i) ∙ take-append-drop m fs,
      told.3,
    )

pub spec_begins : (s : NodeSpec) (es r q : List ℕ) → IsPart s es → spec_line s es ++ r ≡ 101 ∷ q → ⊥
spec_begins (Cmd c) es r q f e = no_command c es f
spec_begins (Basic k) es r q f e = line_begins k (take (inputs_of k) es) (drop (inputs_of k) es) r q e

abbrev pub ArePart : Node → Type 0
ArePart x = IsPart x.spec x.ends

abbrev pub last_line : List ℕ
last_line = codes "end\n"

parts_told : (xs ys : List Node) → AllByRecursion ArePart xs → AllByRecursion ArePart ys
    → flat_map node_line xs ++ last_line ≡ flat_map node_line ys ++ last_line → xs ≡ ys
parts_told [] [] f g e = refl
parts_told [] (y ∷ ys) f g e = absurd (spec_begins y.spec y.ends (flat_map node_line ys ++ last_line) (codes "nd\n") g.0
    (sym (append_assoc (node_line y) (flat_map node_line ys) last_line) ∙ sym e))
parts_told (x ∷ xs) [] f g e = absurd (spec_begins x.spec x.ends (flat_map node_line xs ++ last_line) (codes "nd\n") f.0
    (sym (append_assoc (node_line x) (flat_map node_line xs) last_line) ∙ e))
parts_told (x ∷ xs) (y ∷ ys) f g e =
    let told = spec_apart x.spec y.spec x.ends y.ends (flat_map node_line xs ++ last_line) (flat_map node_line ys ++ last_line) f.0 g.0
    (sym (append_assoc (node_line x) (flat_map node_line xs) last_line) ∙ e ∙ append_assoc (node_line y) (flat_map node_line ys) last_line) in
    let more = parts_told xs ys f.1 g.1 told.2 in
    λ i. record { spec = told.0 i; ends = told.1 i } ∷ more i

-- ---- the whole text
abbrev pub ports_of : Command → List ℕ
ports_of c = ports_text (gives_symbol (marks_of_all c.procs)) 0 c.names

pub net_opened : (c : Command) (parts : List Node) → command_net_text c parts
    ≡ codes "dinet 1\nspec " ++ (procs_text c.names c.procs ++ (10 ∷ (ports_of c ++ (flat_map node_line parts ++ last_line))))
net_opened c parts =
    let h : List ℕ = codes "dinet 1\nspec " in
    let p : List ℕ = procs_text c.names c.procs in
    let q : List ℕ = ports_of c in
    let n : List ℕ = flat_map node_line parts in
    append_assoc (h ++ p ++ codes "\n" ++ q) n last_line
    ∙ append_assoc (h ++ p ++ codes "\n") q (n ++ last_line)
    ∙ append_assoc (h ++ p) (codes "\n") (q ++ (n ++ last_line))
    ∙ append_assoc h p (10 ∷ (q ++ (n ++ last_line)))

texts_told : AreRead → (k l : Command) (ps qs : List Node) → AllByRecursion ArePart ps → AllByRecursion ArePart qs
    → command_net_text k ps ≡ command_net_text l qs → (k ≡ l) × (ps ≡ qs)
texts_told law k l ps qs f g e =
    let r : List ℕ = flat_map node_line ps ++ last_line in
    let s : List ℕ = flat_map node_line qs ++ last_line in
    let opened = append_cancel_left (codes "dinet 1\nspec ") (procs_text k.names k.procs ++ (10 ∷ (ports_of k ++ r)))
    (procs_text l.names l.procs ++ (10 ∷ (ports_of l ++ s))) (sym (net_opened k ps) ∙ e ∙ net_opened l qs) in
    let line = word_apart is_in_line (procs_text k.names k.procs) (procs_text l.names l.procs) (10 ∷ (ports_of k ++ r))
    (10 ∷ (ports_of l ++ s)) (command_in_line k.names k.procs k.valid) (command_in_line l.names l.procs l.valid) refl refl opened in
    let same : k ≡ l = same_text law k l line.0 in
    let behind : ◌≡◌ {A = List ℕ} (10 ∷ (ports_of k ++ r)) (10 ∷ (ports_of l ++ s)) = line.1 in
    let next : ports_of k ++ r ≡ ports_of l ++ s = cc in
    let rest = append_cancel_left (ports_of k) r s (next ∙ ap (λ (c : Command). ports_of c ++ s) (sym same)) in
    (same, parts_told ps qs f g rest)

-- ---- the environment's wires, and the number of wires
pub same_ends : (n : ℕ) (es fs : List ℕ) → length es ≡ n → length fs ≡ n → ((i : ℕ) → i < n → slice_index_or es i 0 ≡ i)
    → ((i : ℕ) → i < n → slice_index_or fs i 0 ≡ i) → es ≡ fs
same_ends n es fs d e f g = ext_get_or 0 es fs (d ∙ sym e)
    (λ i h. f i (omega (arith, h, d)) ∙ sym (g i (omega (arith, h, d))))

small_ends : (n : ℕ) (xs : List ℕ) → n ≤ 2 ^ 64 → AllByRecursion (λ w. w < n) xs → AllByRecursion Small xs
small_ends n [] h k = tt
small_ends n (x ∷ xs) h k = (omega (arith, h, k.0), small_ends n xs h k.1)

are_parts : (n : ℕ) (xs : List Node) → n ≤ 2 ^ 64 → AllByRecursion (IsWired n) xs
    → AllByRecursion (λ (x : Node). IsTrue (is_kind x.spec)) xs → AllByRecursion ArePart xs
are_parts n [] h w b = tt
are_parts n (x ∷ xs) h w b =
    let fits : IsWired n x = w.0 in
    (record { basic = b.0; sized = fits.sized; formed = fits.formed; small = small_ends n x.ends h fits.known }, are_parts n xs h w.1 b.1)

-- a network of these nodes whose first is the environment of the command
pub record IsToldBy (command : Command) (nodes : List Node) : Type 0 where
  pub ends : List ℕ
  pub parts : List Node
  pub is : nodes ≡ record { spec = Cmd command; ends = ends } ∷ parts
  pub sized : length ends ≡ length command.names
  pub placed : (i : ℕ) → i < length command.names → slice_index_or ends i 0 ≡ i
  pub good : AllByRecursion ArePart parts

symbols_sized : (k : Command) (ends : List ℕ) → length ends ≡ length (outs_of (Cmd k)) → length ends ≡ length k.names
symbols_sized k ends e = e ∙ length-map-range_with_len (gives_symbol (marks_of_all k.procs)) 0 (length k.names)

pub told_by : (nodes : List Node) (n : ℕ) (c : HasText (record { nodes = nodes; wires = n })) → IsToldBy c.command nodes
told_by [] n c = absurd (omega (arith, c.network.some))
told_by (x ∷ xs) n c =
    let is : x.spec ≡ Cmd c.command = same_some c.specified in
    let fits : IsWired n x = c.network.wired.0 in
    record {
      ends = x.ends;
      parts = xs;
      is = λ i. record { spec = is i; ends = x.ends } ∷ xs;
      sized = symbols_sized c.command x.ends (fits.sized ∙ ap (λ (s : NodeSpec). length (outs_of s)) is);
      placed = c.ports;
      good = are_parts n xs c.few c.network.wired.1 c.basic;
    }

nodes_told : AreRead → (k l : Command) (xs ys : List Node) → IsToldBy k xs → IsToldBy l ys → nodes_net_text xs ≡ nodes_net_text ys
    → xs ≡ ys
nodes_told law k l xs ys f g e =
    let told = texts_told law k l f.parts g.parts f.good g.good (sym (ap nodes_net_text f.is) ∙ e ∙ ap nodes_net_text g.is) in
    let many : length k.names ≡ length l.names = ap (λ (c : Command). length c.names) told.0 in
    let ends : f.ends ≡ g.ends = same_ends (length k.names) f.ends g.ends f.sized (g.sized ∙ sym many) f.placed
    (λ i h. g.placed i (omega (arith, h, many))) in
    f.is ∙ (λ i. record { spec = Cmd (told.0 i); ends = ends i } ∷ told.1 i) ∙ sym g.is

pub networks_told : AreRead → (c d : Circuit) → HasText c → HasText d → net_text c ≡ net_text d → c ≡ d
networks_told law c d f g e =
    let nodes : c.nodes ≡ d.nodes = nodes_told law f.command g.command c.nodes d.nodes (told_by c.nodes c.wires f) (told_by d.nodes d.wires g) e in
    let wires : c.wires ≡ d.wires = sym (driven_many c f.network.wired f.closed) ∙ ap (λ (xs : List Node). length (wiring true xs)) nodes
    ∙ driven_many d g.network.wired g.closed in
    λ i. record { nodes = nodes i; wires = wires i }

pub correct_told : (k : Command) (c : Circuit) → Correct c (Cmd k) → IsBasic c
    → ((i : ℕ) → i < length k.names → end_at c 0 i ≡ i) → c.wires ≤ 2 ^ 64 → HasText c
correct_told k c correct basic ports few = record {
  network = correct.network;
  closed = correct.closed;
  basic = basic;
  command = k;
  specified = correct.specified;
  ports = ports;
  few = few;
}
