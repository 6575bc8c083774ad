use Rattle.std.proofs.Common.{ℕ, ◌<◌, length, get_or, ◌∙◌, arith}
use Rattle.std.proofs.lemmas.List.{length-set}
use Rattle.shape_parts.proofs.Links.{falling_past, leads_past}
use Rattle.shape_parts.proofs.union_find.find.Goals as goal

pub loop-up-preserved : goal.loop-up-preserved
loop-up-preserved c =
    let i = c.loop-up.invariant in
    let next : ℕ = get_or c.loop-up.up c.loop-up.at 0 in
    let inside : next < length c.loop-up.up = omega (arith, i.falling c.loop-up.at i.inside) in
    record {
      inside = omega (arith, length-set c.loop-up.up c.loop-up.at (get_or c.loop-up.up next 0), inside, i.falling next inside);
      falling = falling_past c.loop-up.up c.loop-up.at i.falling i.inside;
      leads = λ f l. let (now, at) = i.leads f l in let (past, same) = leads_past f c.loop-up.up c.loop-up.at i.falling i.inside now in (past, same ∙ at);
    }
