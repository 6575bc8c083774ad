use Rattle.std.proofs.Common.{◌<◌, ◌∙◌, ◌∷◌, [], get_or, sym, ap, arith, subst}
use Rattle.cmd_expand.specs.declared.unfolding.Piece.{Piece}
use Rattle.cmd_expand.specs.Mirror.Pieces.{numbered_by, procs_of_piece, IsPieceBelow}
use Rattle.cmd_expand.proofs.Shapes.{stack_taken, last_below}
use Rattle.cmd_expand.proofs.unfolding.+unfold.Goals as goal

pub loop-piece-preserved-in-Continue-branch-2 : goal.loop-piece-preserved-in-Continue-branch-2
loop-piece-preserved-in-Continue-branch-2 t c =
    let inv = c.loop-piece.invariant in
    record {
      below = (last_below c.args.of c.loop-piece.pieces.items c.pop.new.self.items c.in-Some.piece c.in-Some.ensures.items inv.below).0;
      whole = λ ms a. stack_taken ms c.loop-piece.pieces.items c.pop.new.self.items c.in-Some.piece c.loop-piece.procs c.push.new.self (c.in-Done.process ∷ []) _
          c.in-Some.ensures.items (ap (procs_of_piece ms) c.in-Done.is) c.in_ok-push-in-Done.ensures.ok (inv.whole ms a);
    }

pub unfold-requires : goal.unfold-requires
unfold-requires t c =
    let inv = c.loop-piece.invariant in
    let low : c.in-Rest.of < c.args.of = subst (λ (p : Piece). IsPieceBelow c.args.of p) c.in-Rest.is (last_below c.args.of c.loop-piece.pieces.items c.pop.new.self.items c.in-Some.piece c.in-Some.ensures.items inv.below).1 in
    (omega (arith, low, c.decreases), (c.requires.lines, omega (arith, low, c.requires.inside)))

pub loop-piece-preserved : goal.loop-piece-preserved
loop-piece-preserved t c =
    let inv = c.loop-piece.invariant in
    record {
      below = (last_below c.args.of c.loop-piece.pieces.items c.pop.new.self.items c.in-Some.piece c.in-Some.ensures.items inv.below).0;
      whole = λ ms a. stack_taken ms c.loop-piece.pieces.items c.pop.new.self.items c.in-Some.piece c.loop-piece.procs c.unfold.new.procs (numbered_by (get_or ms c.in-Rest.of []) c.as_slice.result.now) _
          c.in-Some.ensures.items (ap (procs_of_piece ms) c.in-Rest.is ∙ ap (numbered_by (get_or ms c.in-Rest.of [])) (sym c.as_slice.ensures.value)) (c.in_ok-unfold-in-Rest.ensures ms a) (inv.whole ms a);
    }
