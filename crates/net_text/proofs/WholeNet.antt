-- The lines of a whole netlist, and the network that is read.
use Rattle.std.proofs.Common.{◌≡◌, ℕ, ◌+◌, Bool, List, [], ◌∷◌, ◌++◌, length, refl, sym, ap, ◌∙◌, subst, arith, append_assoc}
use Rattle.std.specs.Prelude.{IsTrue, codes, decimal, slice_index_or}
use Rattle.std.specs.List.{AllByRecursion, range_with_len}
use Rattle.std.proofs.lemmas.List.FromFn.{get_or-range_with_len}
use Rattle.cmd_tree.specs.declared.command.Command.{Command}
use Rattle.cmd_tree.specs.Limits.{marks_of_all}
use Rattle.cmd_text.specs.Canonical.{procs_text}
use Rattle.net_core.specs.Specs.{gives_symbol, is_kind}
use Rattle.net_core.specs.Wiring.{Node, Circuit, IsNetwork}
use Rattle.net_core.specs.Networks.{IsBasic, IsSpecified, end_at}
use Rattle.net_core.specs.declared.spec.NodeSpec.TheVariants.{Cmd}
use Rattle.text_lines.specs.Lines.{numbered_line}
use Rattle.net_text.specs.NetText.{mark_sign, port_line, ports_text, command_net_text, net_text}
use Rattle.net_text.specs.NetFault.{IsLine, IsPart, version_line, spec_line, symbol_line, symbol_lines, port_lines, IsNetlist}
use Rattle.net_text.specs.Mirror.Stages.{text_of, parts_text, IsNetFromSpec}
use Rattle.net_text.proofs.Told.{net_opened}

symbol_then : (name : List ℕ) (b : Bool) (k : ℕ) (t : List ℕ) → port_line name b k ++ t ≡ symbol_line name b k ++ 10 ∷ t
unfolding numbered_line
symbol_then name b k t =
    let a : List ℕ = codes "port " ++ name ++ mark_sign b in
    let d : List ℕ = decimal k in
    append_assoc a ((codes " " ++ d) ++ codes "\n") t
    ∙ ap (λ (u : List ℕ). a ++ u) (append_assoc (codes " " ++ d) (codes "\n") t)
    ∙ sym (append_assoc (a ++ codes " ") d (10 ∷ t) ∙ append_assoc a (codes " ") (d ++ 10 ∷ t))

ports_lines : (f : ℕ → Bool) (k : ℕ) (names : List (List ℕ)) → ports_text f k names ≡ text_of (symbol_lines f k names)
ports_lines f k [] = refl
ports_lines f k (name ∷ names) = symbol_then name (f k) k (ports_text f (k + 1) names)
    ∙ ap (λ (t : List ℕ). symbol_line name (f k) k ++ 10 ∷ t) (ports_lines f (k + 1) names)

-- the text is that of its lines
pub text_lines : (c : Command) (xs : List Node)
    → command_net_text c xs ≡ version_line ++ 10 ∷ (spec_line c ++ 10 ∷ (text_of (port_lines c) ++ parts_text xs))
text_lines c xs =
    let p : List ℕ = procs_text c.names c.procs in
    net_opened c xs
    ∙ ap (λ (t : List ℕ). codes "dinet 1\nspec " ++ (p ++ (10 ∷ (t ++ parts_text xs)))) (ports_lines (gives_symbol (marks_of_all c.procs)) 0 c.names)
    ∙ ap (λ (t : List ℕ). codes "dinet 1\n" ++ t) (sym (append_assoc (codes "spec ") p (10 ∷ (text_of (port_lines c) ++ parts_text xs))))

parts_basic : (xs : List Node) → AllByRecursion IsPart xs → AllByRecursion (λ (x : Node). IsTrue (is_kind x.spec)) xs
parts_basic [] h = tt
parts_basic (x ∷ xs) h = (h.0.basic, parts_basic xs h.1)

-- the network that was read is told by the text
pub netlist_of : (bytes line rest : List ℕ) (net : Circuit) → (bytes ≡ line ++ 10 ∷ rest) × IsLine line → line ≡ version_line
    → IsNetFromSpec rest net → IsNetwork net → IsNetlist bytes net
netlist_of bytes line rest net h e f n =
    let c : Command = f.command in
    let g = f.net_of in
    let xs : List Node = g.parts in
    record {
      told = record {
        network = n;
        closed = g.closed;
        basic = subst IsBasic (sym g.is) (parts_basic xs g.good);
        command = c;
        specified = subst (λ (d : Circuit). IsSpecified d (Cmd c)) (sym g.is) refl;
        ports = λ i l. ap (λ (d : Circuit). end_at d 0 i) g.is
            ∙ (let at : slice_index_or (range_with_len 0 (length c.names)) i 0 ≡ i = get_or-range_with_len 0 (length c.names) i 0 l ∙ omega arith in at);
        few = omega (arith, g.small);
      };
      admitted = f.admitted;
      few_parts = omega (arith, g.few, ap (λ (d : Circuit). length d.nodes) g.is);
      few_wires = g.small;
      text = h.0 ∙ (λ i. e i ++ 10 ∷ g.text i)
          ∙ ap (λ (t : List ℕ). version_line ++ 10 ∷ t) (append_assoc (spec_line c) (10 ∷ text_of (port_lines c)) (parts_text xs))
          ∙ sym (text_lines c xs) ∙ ap net_text (sym g.is);
    }
