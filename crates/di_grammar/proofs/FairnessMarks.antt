-- In a command whose symbols have one direction each, each mark has the direction of its symbol.
use Rattle.std.proofs.Common.{◌≡◌, ◌≢◌, ℕ, ◌+◌, ◌≤◌, Bool, true, false, nat_eq, if◌then◌else◌, List, [], ◌∷◌, ◌++◌, Option, Some, None, refl, sym, ap, ◌∙◌, subst, arith, eq-eqb, eqb-true, ne_eqb}
use Rattle.std.specs.List.{AllByRecursion}
use Rattle.cmd_tree.specs.declared.tree.Mark.{Mark}
use Rattle.cmd_tree.specs.declared.tree.Proc.{Proc}
use Rattle.cmd_tree.specs.Tree.{TSeq, marks_of}
use Rattle.cmd_tree.specs.Limits.{of_part, marks_of_proc, marks_of_all}
use Rattle.cmd_tree.specs.Marks.{is_output}
use Rattle.cmd_tree.specs.Meaning.{symbols}
use Rattle.cmd_tree.proofs.Bursts.{count, count_is}
use Rattle.process_laws.specs.Shape.{IsBurst}
use Rattle.process_laws.proofs.GrantTraces.{of_way}
use Rattle.tree_walk.specs.Bursts.{Burst, dir_of, part}
use Rattle.di_grammar.specs.Lists.{Each, EachTwo, Within}
use Rattle.di_grammar.specs.EvenBursts.{Even}
use Rattle.di_grammar.specs.Directions.{KeepsDirections}
use Rattle.di_grammar.specs.Outputs.{output_in, out_of}
use Rattle.di_grammar.proofs.FairnessLists.{each_left, each_right, each_with}

-- the mark has the direction of its symbol
abbrev pub Agrees : (ℕ → Bool) → Mark → Type 0
Agrees out m = out m.sym.0 ≡ is_output m.dir

marks_agree : (ms : List Mark) → EachTwo (λ m n. m.sym.0 ≡ n.sym.0 → m.dir ≡ n.dir) ms
    → Each (Agrees (output_in ms)) ms
marks_agree [] h = tt
marks_agree (m ∷ ms) h = (
  ap (λ b. if b then is_output m.dir else output_in ms m.sym.0) (eq-eqb m.sym.0 m.sym.0 refl),
  each_with (λ n. m.sym.0 ≡ n.sym.0 → m.dir ≡ n.dir) (Agrees (output_in ms)) (Agrees (output_in (m ∷ ms))) ms
      (λ n. by n (nat_eq n.sym.0 m.sym.0) refl)
      h.0
      (marks_agree ms h.1),
)
  where
    by : (n : Mark) (b : Bool) → nat_eq n.sym.0 m.sym.0 ≡ b → (m.sym.0 ≡ n.sym.0 → m.dir ≡ n.dir)
        → Agrees (output_in ms) n → (if b then is_output m.dir else output_in ms n.sym.0) ≡ is_output n.dir
    by n true e same agrees = ap is_output (same (sym (eqb-true n.sym.0 m.sym.0 e)))
    by n false e same agrees = agrees

-- the marks of one process are among those of the command
marks_within : (P : Mark → Type 0) (before after : List Proc) (p : Proc)
    → Each P (marks_of_all (before ++ p ∷ after)) → Each P (marks_of_proc p)
marks_within P [] after p h = each_left P (marks_of_proc p) (marks_of_all after) h
marks_within P (q ∷ before) after p h =
    marks_within P before after p (each_right P (marks_of_proc q) (marks_of_all (before ++ p ∷ after)) h)

pub directions_agree : (ps : List Proc) (p : Proc) → KeepsDirections ps → Within ps p
    → Each (Agrees (out_of ps)) (marks_of_proc p)
directions_agree ps p h w = marks_within (Agrees (out_of ps)) w.before w.after p
    (subst (λ qs. Each (Agrees (out_of ps)) (marks_of_all qs)) w.are (marks_agree (marks_of_all ps) h))

part_marks : (o : Option TSeq) → of_part [] marks_of o ≡ marks_of (part o)
part_marks None = refl
part_marks (Some s) = refl

pub proc_marks : (P : Mark → Type 0) (p : Proc) → Each P (marks_of_proc p)
    → Each P (marks_of (part p.lead)) × Each P (marks_of (part p.body))
proc_marks P p h =
    let lead = of_part [] marks_of p.lead in
    let body = of_part [] marks_of p.body in (
      subst (Each P) (part_marks p.lead) (each_left P lead body h),
      subst (Each P) (part_marks p.body) (each_right P lead body h),
    )

-- ---- the symbols of an even burst

absent : (a : ℕ) (ms : List Mark) → Each (λ m. a ≢ m.sym.0) ms → count a (symbols ms) ≡ 0
absent a [] h = refl
absent a (m ∷ ms) h =
    ap (λ b. if b then 1 + count a (symbols ms) else count a (symbols ms)) (ne_eqb a m.sym.0 h.0)
    ∙ absent a ms h.1

few : (a : ℕ) (ms : List Mark) → EachTwo (λ m n. m.sym.0 ≢ n.sym.0) ms → count a (symbols ms) ≤ 1
few a [] h = omega arith
few a (m ∷ ms) h = by (nat_eq a m.sym.0) refl (few a ms h.1)
  where
    by : (b : Bool) → nat_eq a m.sym.0 ≡ b → count a (symbols ms) ≤ 1
        → (if b then 1 + count a (symbols ms) else count a (symbols ms)) ≤ 1
    by true e l =
        let others = subst (λ x. Each (λ n. x ≢ n.sym.0) ms) (sym (eqb-true a m.sym.0 e)) h.0 in
        omega (arith, absent a ms others)
    by false e l = l

ways : (out : ℕ → Bool) (d : Bool) (ms : List Mark) → Each (λ m. is_output m.dir ≡ d) ms
    → Each (Agrees out) ms → AllByRecursion (λ a. out a ≡ d) (symbols ms)
ways out d [] h k = tt
ways out d (m ∷ ms) h k = (k.0 ∙ h.0, ways out d ms h.1 k.1)

outputs_of : (ms ns : List Mark) → Each (λ m. m.dir ≡ dir_of ns) ms
    → Each (λ m. is_output m.dir ≡ is_output (dir_of ns)) ms
outputs_of [] ns h = tt
outputs_of (m ∷ ms) ns h = (ap is_output h.0, outputs_of ms ns h.1)

pub even_burst : (out : ℕ → Bool) (b : Burst) → Even b → Each (Agrees out) b.marks
    → IsBurst out (is_output (dir_of b.marks)) b.marks
even_burst out b even agrees = record {
  differ = λ a. omega (arith, few a b.marks even.differ, count_is a (symbols b.marks));
  one_way = of_way out (is_output (dir_of b.marks)) (symbols b.marks)
      (ways out (is_output (dir_of b.marks)) b.marks (outputs_of b.marks b.marks even.one_way) agrees);
}
