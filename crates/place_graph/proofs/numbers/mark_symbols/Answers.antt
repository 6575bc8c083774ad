use Rattle.std.proofs.Common.{◌<◌, ◌+◌, ◌∷◌, [], ◌++◌, length, take, get_or, set, None, Some, sym, ap, ◌∙◌, subst, arith}
use Rattle.std.proofs.lemmas.List.{take_all, take_more}
use Rattle.cmd_tree.specs.declared.tree.Sym.{Sym}
use Rattle.place_graph.specs.Mirror.Numbers.{AreBurstNumbers}
use Rattle.place_graph.proofs.Joined.{all_at}
use Rattle.place_graph.proofs.NumberSteps.{marks_new, marks_old, none_from, some_from}
use Rattle.place_graph.proofs.numbers.mark_symbols.Goals as goal
use Rattle.place_graph.proofs.numbers.mark_symbols.Goals.{then-is_none, else-is_none}

pub loop-sym-preserved : goal.loop-sym-preserved
loop-sym-preserved c = λ bursts e each.
    let burst = c.args.burst.now in
    let i = c.loop-sym.sym-index in
    let s : Sym = get_or burst i (record { 0 = 0 }) in
    let ns = c.loop-sym.numbers in
    let inside : s.0 < length ns = omega (
      arith,
      c.loop-sym.auto.numbers,
      all_at (λ (a : Sym). a.0 < length c.args.numbers.now) burst i
          (record { 0 = 0 }) c.loop-sym-test.true c.requires,
    ) in
    let before = c.loop-sym.invariant bursts e each in
    let more = take_more burst i (record { 0 = 0 }) c.loop-sym-test.true in
    elim c.if-is_none.branch [
      | then-is_none w ↦
          let none = none_from (get_or ns s.0 None) c.is_none.result c.is_none.ensures w.if-is_none.true in
          subst (λ m. AreBurstNumbers m (bursts ++ take (i + 1) burst ∷ []))
          (sym (w.numbers-is ∙ ap (λ k. set ns s.0 (Some k)) e))
          (subst (λ b. AreBurstNumbers (set ns s.0 (Some (length bursts))) (bursts ++ b ∷ [])) (sym more)
          (marks_new ns bursts (take i burst) s inside none before))
      | else-is_none w ↦
          let some = some_from (get_or ns s.0 None) c.is_none.result c.is_none.ensures w.if-is_none.false in
          subst (λ m. AreBurstNumbers m (bursts ++ take (i + 1) burst ∷ [])) (sym w.numbers-is)
          (subst (λ b. AreBurstNumbers ns (bursts ++ b ∷ [])) (sym more)
          (marks_old ns bursts (take i burst) s inside some before))
    ]

pub returns : goal.returns
returns c = λ bursts e each. subst (λ b. AreBurstNumbers c.loop-sym.numbers (bursts ++ b ∷ []))
    (take_all c.loop-sym.sym-index c.args.burst.now c.loop-sym-test.false)
    (c.loop-sym.invariant bursts e each)
