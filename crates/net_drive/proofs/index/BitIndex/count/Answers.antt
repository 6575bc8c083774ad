use Rattle.std.proofs.Common.{◌≡◌, ◌<◌, ◌∙◌, List, Bool, length, vec_len, rules, arith, ap}
use Rattle.net_drive.specs.Bits.{trues}
use Rattle.net_drive.proofs.SumTrees.{two_some, root, read_is}
use Rattle.net_drive.proofs.index.BitIndex.count.Goals as goal

pub index-requires : goal.index-requires
index-requires c =
    let long : vec_len c.self.inside.sums ≡ length c.self.inside.sums.items = search rules in
    let t = c.self.invariant in
    omega (arith, long, t.1.size, two_some t.0)

pub returns : goal.returns
returns c =
    let t = c.self.invariant in
    let sums = c.self.inside.sums.items in
    let many : 1 < length sums = omega (arith, t.1.size, two_some t.0) in
    read_is sums 1 c.index.result.now many c.index.ensures ∙ root t.0 c.self.inside.sums.items c.self.inside.bits.items t.1 ∙ ap (λ (bs : List Bool). trues bs) c.self.view_is
