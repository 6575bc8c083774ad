use Rattle.std.proofs.Common.{[], refl, true≢false, sym, ◌∙◌}
use Rattle.tree_walk.specs.Bursts.{bursts}
use Rattle.di_grammar.specs.Bursts.{inputs}
use Rattle.tree_walk.specs.Mirror.Table.{entry_of}
use Rattle.di_grammar.proofs.Firsts.{first_like}
use Rattle.di_grammar.proofs.Laying.{end_of, laid_proc, small_proc}
use Rattle.di_grammar.proofs.OverlapSteps.{knows_none, knows_told, overlap_of, even_distinct}
use Rattle.di_grammar.proofs.overlaps.overlapping_bursts.Goals as goal

pub returns : goal.returns
returns c =
    let p = c.args.process.now in
    let bs = bursts p in
    let known = c.walk.ensures.knows [] refl (λ end laid small distinct. knows_none (entry_of c.none.result) (entry_of c.none-2.result) c.none.ensures)
    (end_of p) (laid_proc p) (small_proc p c.requires.small) (even_distinct bs c.requires.even) in
    first_like _ _ _ (overlap_of p (λ g. true≢false (sym (c.requires.told.1 g) ∙ c.if-grant.false)))
    (knows_told (inputs bs) (entry_of c.walk.new.visitor.firsts.places) (entry_of c.walk.new.visitor.firsts.sizes) c.walk.new.visitor.found known)
