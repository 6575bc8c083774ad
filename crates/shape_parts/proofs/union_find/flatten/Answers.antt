use Rattle.std.proofs.Common.{◌≡◌, ℕ, get_or, set, ◌∙◌, arith, below_more}
use Rattle.std.proofs.lemmas.List.{get_or-set_same, get_or-set_other}
use Rattle.std.proofs.lemmas.List.FromFn.{fill_by_all}
use Rattle.shape_parts.proofs.Links.{falling_past, leads_past, next_is_end}
use Rattle.shape_parts.proofs.union_find.flatten.Goals as goal

pub loop-line-preserved : goal.loop-line-preserved
loop-line-preserved c =
    let up = c.loop-line.up in
    let i = c.loop-line.line in
    let w : ℕ = get_or up (get_or up i 0) 0 in
    record {
      falling = falling_past up i c.loop-line.invariant.falling (omega arith);
      leads = λ f l.
          let (now, before) = c.loop-line.invariant.leads f l in (
            (leads_past f up i c.loop-line.invariant.falling (omega arith) now).0,
            below_more (λ k. get_or (set up i w) k 0 ≡ f k) i (λ k h. get_or-set_other up i k w 0 (omega arith) ∙ before k h)
                (get_or-set_same up i w 0 (omega arith) ∙ next_is_end f up i c.loop-line.invariant.falling (omega arith) now before),
          );
    }

pub returns : goal.returns
returns c = λ f l. let (now, before) = c.loop-line.invariant.leads f l in fill_by_all f c.loop-line.up _ 0 (omega arith) (λ k h. before k (omega arith))
