-- An admitted command of one process: its process is fair, with the directions of its symbols.
use Rattle.std.proofs.Common.{◌≡◌, inl, inr, ℕ, nat_eq, List, [], ◌∷◌, refl, sym, ap, ◌∙◌, subst, eq-eqb, ne_eqb, if◌then◌else◌}
use Rattle.std.specs.List.{AllByRecursion}
use Rattle.std.proofs.Math.Path.{fun_ext}
use Rattle.std.proofs.lemmas.Bool.{cases_eq}
use Rattle.cmd_tree.specs.declared.tree.Mark.{Mark}
use Rattle.cmd_tree.specs.declared.tree.Proc.{Proc}
use Rattle.cmd_tree.specs.declared.command.Command.{Command}
use Rattle.cmd_tree.specs.Limits.{marks_of_proc, marks_of_all}
use Rattle.cmd_tree.specs.Marks.{is_output}
use Rattle.process_laws.specs.Shape.{IsFair}
use Rattle.di_grammar.specs.Lists.{Within}
use Rattle.di_grammar.specs.Grants.{IsGrant}
use Rattle.di_grammar.specs.Admitted.{Admitted}
use Rattle.di_grammar.specs.Outputs.{output_in, out_of}
use Rattle.di_grammar.proofs.FairnessLaws.{is_fair}
use Rattle.di_grammar.proofs.FairnessLists.{each_at, each_all}
use Rattle.di_grammar.proofs.FairnessMarks.{Agrees, directions_agree}
use Rattle.net_core.specs.Specs.{gives_symbol}
use Rattle.place_graph.specs.Points.{legs}
use Rattle.place_graph.specs.Drawable.{AreDirections, AreSets, IsDrawable}
use Rattle.place_graph.proofs.Admission.{drawables}

pub eq_flip : (a b : ℕ) → nat_eq a b ≡ nat_eq b a
eq_flip a b = elim (cases_eq a b) [
  | inl e ↦ eq-eqb a b e ∙ sym (eq-eqb b a (sym e))
  | inr e ↦ ne_eqb a b e ∙ sym (ne_eqb b a (λ x. e (sym x)))
]

-- the first mark of a symbol, either way
out_same : (ms : List Mark) (a : ℕ) → output_in ms a ≡ gives_symbol ms a
out_same [] a = refl
out_same (m ∷ ms) a = ap (λ b. if b then is_output m.dir else output_in ms a) (eq_flip a m.sym.0)
    ∙ ap (λ x. if nat_eq m.sym.0 a then is_output m.dir else x) (out_same ms a)

all_of : (P Q : Mark → Type 0) → ((m : Mark) → P m → Q m) → (ms : List Mark) → AllByRecursion P ms → AllByRecursion Q ms
all_of P Q f [] h = tt
all_of P Q f (m ∷ ms) h = (f m h.0, all_of P Q f ms h.1)

module _ (c : Command) (p : Proc) (alone : c.procs ≡ p ∷ []) (admitted : Admitted c.procs) (other : IsGrant p → ⊥) where
  within : Within c.procs p
  within = record { before = []; after = []; are = alone }

  directions_same : out_of c.procs ≡ gives_symbol (marks_of_all c.procs)
  directions_same = fun_ext (out_same (marks_of_all c.procs))

  pub alone_fair : IsFair (gives_symbol (marks_of_all c.procs)) p
  alone_fair = subst (λ out. IsFair out p) directions_same (is_fair c.procs admitted p within c.valid.shaped other)

  pub alone_directions : AreDirections (gives_symbol (marks_of_all c.procs)) p
  alone_directions = subst (λ out. AreDirections out p) directions_same
      (all_of (Agrees (out_of c.procs)) (λ m. is_output m.dir ≡ out_of c.procs m.sym.0) (λ m e. sym e) (marks_of_proc p)
      (each_all (Agrees (out_of c.procs)) (marks_of_proc p) (directions_agree c.procs p admitted.directions within)))

  pub alone_sets : AreSets (legs p)
  alone_sets = (each_at (λ p. (IsGrant p → ⊥) → IsDrawable p) c.procs p (drawables c.procs admitted c.names c.valid) within other).sets
