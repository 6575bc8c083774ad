use Rattle.shape_parts.proofs.Links.{leads_left, leads_right}
use Rattle.shape_parts.proofs.union_find.join.Goals as goal

pub returns-then-other-one-clause-leads : goal.returns-then-other-one-clause-leads
returns-then-other-one-clause-leads c = λ f l.
    let (mid, one) = c.find-one.ensures.leads f l in
    let (now, other) = c.find-other.ensures.leads f mid in
    leads_right f _ _ _ _ _ now one other (mid.ends _ c.find-one.ensures.end.0 c.find-one.ensures.end.1) (now.ends _ c.find-other.ensures.end.0 c.find-other.ensures.end.1) c.if-other-one.true

pub returns-else-other-one-clause-leads : goal.returns-else-other-one-clause-leads
returns-else-other-one-clause-leads c = λ f l.
    let (mid, one) = c.find-one.ensures.leads f l in
    let (now, other) = c.find-other.ensures.leads f mid in
    leads_left f _ _ _ _ _ now one other (mid.ends _ c.find-one.ensures.end.0 c.find-one.ensures.end.1) (now.ends _ c.find-other.ensures.end.0 c.find-other.ensures.end.1) c.if-other-one.false
