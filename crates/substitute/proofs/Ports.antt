-- A wire that goes from a node to itself is at one of the node's ports.
use Rattle.std.proofs.Common.{◌≡◌, ℕ, ◌<◌, true, List, length, get_or, sym, ap, ◌∙◌, arith}
use Rattle.std.specs.Prelude.{slice_get}
use Rattle.std.specs.List.{AllByRecursion}
use Rattle.net_core.specs.Wiring.{Circuit, IsWired, IsClosed}
use Rattle.net_core.specs.Networks.{directions_at, gives, end_of, end_at}
use Rattle.net_core.specs.Walk.{ends_at}
use Rattle.net_core.proofs.Found.{Located, gives_located, all_nodes, same_ports}
use Rattle.substitute.specs.Splice.{output_port}
use Rattle.substitute.specs.Refusals.{IsAround}
use Rattle.substitute.proofs.Outer.{node_at}

pub around_at : (c : Circuit) → AllByRecursion (IsWired c.wires) c.nodes → IsClosed c → (n : ℕ) → n < length c.nodes → (ends : List ℕ) → ends ≡ ends_at (slice_get c.nodes n)
    → (w : ℕ) → w < c.wires → IsAround c n w → (p : ℕ) × (p < length ends) × (get_or ends p 0 ≡ w)
around_at c fit closed n inside ends is w known around =
    let (x, here) = node_at c.nodes n inside in
    let fits : IsWired c.wires x = all_nodes (IsWired c.wires) c.nodes n x fit here in
    let same : ends ≡ x.ends = is ∙ ap ends_at here in
    let g : Located (gives c) c = gives_located c fit closed in
    let out : gives c n (output_port c w) ≡ true = ap (λ m. gives c m (output_port c w)) (sym around.0) ∙ g.real w known in
    let there = (g.there n (output_port c w) out).1 in
    let back : end_at c n (output_port c w) ≡ w = ap (λ m. end_at c m (output_port c w)) (sym around.0) ∙ g.back w known in (
      output_port c w,
      omega (arith, there, ap (λ (l : List ℕ). length l) same, fits.sized, same_ports n x, ap (λ o. length (directions_at n o)) here),
      ap (λ (l : List ℕ). get_or l (output_port c w) 0) same ∙ sym (ap (λ o. end_of o (output_port c w)) here) ∙ back,
    )
