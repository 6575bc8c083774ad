use Rattle.std.proofs.Common.{◌<◌, ◌-◌, ◌++◌, List, length, ◌∙◌, sym, ap, arith, subst}
use Rattle.std.specs.List.{AllByRecursion}
use Rattle.cmd_rename.specs.Renaming.{ren_all}
use Rattle.cmd_rename.specs.Table.{number_by}
use Rattle.cmd_expand.specs.declared.plan.Line.{Line}
use Rattle.cmd_expand.specs.declared.unfolding.Piece.{Piece}
use Rattle.cmd_expand.specs.Mirror.Plan.{procs_of_part, IsBelow}
use Rattle.cmd_expand.specs.Mirror.Pieces.{procs_of_stack, IsPieceBelow}
use Rattle.cmd_expand.proofs.Shapes.{stack_pushed, parts_more}
use Rattle.cmd_expand.proofs.Pushed.{all_push, all_at}
use Rattle.cmd_expand.proofs.unfolding.pieces_of.Goals as goal

pub loop-left-preserved : goal.loop-left-preserved
loop-left-preserved c =
    let inv = c.loop-left.invariant in
    let parts = c.index-lines-of.result.parts.items in
    let part = c.index-part.result.now in
    let g = number_by c.number_symbols.new.table in
    let below : AllByRecursion (IsBelow c.args.of) c.index-lines-of.result.parts.items
    = subst (λ (l : Line). AllByRecursion (IsBelow c.args.of) l.parts.items) (sym c.index-lines-of.is) (c.requires.lines c.args.of c.index-lines-of.result c.requires.inside).0 in
    let fits : c.loop-left.left - 1 < length c.index-lines-of.result.parts.items = omega (arith, inv.few, c.loop-left-test.true) in
    record {
      few = omega (arith, inv.few);
      symbols = c.in_ok-piece.ensures.symbols ∙ inv.symbols;
      below = subst (λ (ps : List Piece). AllByRecursion (IsPieceBelow c.args.of) ps) (sym c.in_ok-push.ensures.items)
          (all_push (IsPieceBelow c.args.of) c.loop-left.pieces.items c.in_ok-piece.piece inv.below (c.in_ok-piece.ensures.below c.args.of (all_at (IsBelow c.args.of) parts (c.loop-left.left - 1) part below fits c.index-part.ensures)));
      pieces = λ ms a. ap (procs_of_stack ms) c.in_ok-push.ensures.items ∙ stack_pushed ms c.loop-left.pieces.items c.in_ok-piece.piece
          ∙ (λ k. (c.in_ok-piece.ensures.piece ms a ∙ ap (λ t. ren_all (number_by t) (procs_of_part ms part)) inv.symbols) k ++ inv.pieces ms a k)
          ∙ parts_more ms g parts c.loop-left.left part c.loop-left-test.true inv.few c.index-part.ensures;
    }
