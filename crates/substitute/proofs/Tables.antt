-- The components with the numbers of the table are those of the spliced network.
use Rattle.std.proofs.Common.{◌≡◌, inl, inr, ℕ, zero, suc, ◌+◌, ◌<◌, ◌≤◌, Bool, List, [], ◌∷◌, ◌++◌, length, map, take, drop, get_or, refl, sym, ap, ◌∙◌, subst, arith}
use Rattle.std.specs.Prelude.{slice_get, Result, Ok, Err, IfOk, ◌^◌}
use Rattle.std.specs.List.{AllByRecursion, range_with_len}
use Rattle.std.proofs.lemmas.Bool.{cases_Bool}
use Rattle.std.proofs.lemmas.Option.{same_Some}
use Rattle.std.proofs.lemmas.List.FromFn.{get_or-map-range_with_len}
use Rattle.net_core.specs.Specs.{outs_of}
use Rattle.net_core.specs.Wiring.{Node, Circuit, IsWired, IsNetwork, moved, replaced}
use Rattle.net_core.specs.Networks.{spec_of}
use Rattle.net_core.proofs.Found.{all_nodes}
use Rattle.substitute.specs.Splice.{is_inner, rank, renumber_at, renumber, spliced, Fitting, FitsAt}
use Rattle.net_core.specs.Walk.{ends_at}
use Rattle.substitute.proofs.Ranks.{rank_next, rank_stays, rank_zero}
use Rattle.substitute.proofs.Outer.{node_at}
use Rattle.net_core.proofs.Sizes.{nodes_few}
use Rattle.substitute.proofs.SplicedNet.{spliced_fits, spliced_closed}

moved_same : (f g : ℕ → ℕ) (n : ℕ) (xs : List Node) → ((w : ℕ) → w < n → f w ≡ g w) → AllByRecursion (IsWired n) xs → map (moved f) xs ≡ map (moved g) xs
moved_same f g n [] h all = refl
moved_same f g n (x ∷ xs) h all =
    let fits : IsWired n x = all.0 in let ends = ends_same x.ends fits.known in let rest = moved_same f g n xs h all.1 in
    λ i. record { spec = x.spec; ends = ends i } ∷ rest i
  where
    ends_same : (ws : List ℕ) → AllByRecursion (λ w. w < n) ws → map f ws ≡ map g ws
    ends_same [] all = refl
    ends_same (w ∷ ws) all = let first = h w all.0 in let rest = ends_same ws all.1 in λ i. first i ∷ rest i

pub all_dropped : (P : Node → Type 0) (xs : List Node) → AllByRecursion P xs → AllByRecursion P (drop 1 xs)
all_dropped P [] all = tt
all_dropped P (x ∷ xs) all = all.1

-- what fits at a node fits at the wires of that node
pub fits_at : (c : Circuit) (a : ℕ) (m : Circuit) → Fitting c a m → FitsAt (ends_at (slice_get c.nodes a)) m
fits_at c a m fit = record {
  network = record { some = fit.some; wired = fit.fit_part };
  closed = fit.closed_part;
  sized = sized;
  not_through = fit.not_through;
}
  where
    sized : length (ends_at (slice_get c.nodes a)) ≡ length (ends_at (slice_get m.nodes 0))
    sized =
        let (y, there) = node_at m.nodes 0 fit.some in
        let (x, here) = node_at c.nodes a fit.inside in
        let first = all_nodes (IsWired c.wires) c.nodes a x fit.fit_net here in
        let second = all_nodes (IsWired m.wires) m.nodes 0 y fit.fit_part there in
        let specs : x.spec ≡ y.spec = same_Some x.spec y.spec (sym (ap spec_of here) ∙ fit.same ∙ ap spec_of there) in
        ap (λ o. length (ends_at o)) here ∙ first.sized ∙ ap (λ s. length (outs_of s)) specs ∙ sym second.sized ∙ sym (ap (λ o. length (ends_at o)) there)

-- The components with the numbers of the table are those with the new numbers.
pub moved_by_table : (ends : List ℕ) (first : ℕ) (m : Circuit) → IsNetwork m → (nodes : List Node) (table : List ℕ)
    → table ≡ map (renumber_at ends first m) (range_with_len 0 m.wires) → nodes ≡ map (moved (λ w. get_or table w 0)) (drop 1 m.nodes)
    → nodes ≡ map (moved (renumber_at ends first m)) (drop 1 m.nodes)
moved_by_table ends first m net nodes table e g =
    let known : (w : ℕ) → w < m.wires → get_or table w 0 ≡ renumber_at ends first m w =
    λ w l. ap (λ t. get_or t w 0) e ∙ get_or-map-range_with_len (renumber_at ends first m) 0 m.wires w w 0 l (omega arith) in
    g ∙ moved_same (λ w. get_or table w 0) (renumber_at ends first m) m.wires (drop 1 m.nodes) known (all_dropped (IsWired m.wires) m.nodes net.wired)

-- The network with the moved components is the spliced one.
pub spliced_is : (c : Circuit) (a : ℕ) (m : Circuit) (ends : List ℕ) (first : ℕ) (nodes : List Node) (wires : ℕ)
    → first ≡ c.wires → ends ≡ ends_at (slice_get c.nodes a)
    → nodes ≡ map (moved (renumber_at ends first m)) (drop 1 m.nodes) → wires ≡ first + rank (is_inner m) m.wires
    → replaced c a nodes wires ≡ spliced c a m
unfolding spliced renumber
spliced_is c a m ends first nodes wires d e g f =
    let moves : nodes ≡ map (moved (renumber_at (ends_at (slice_get c.nodes a)) c.wires m)) (drop 1 m.nodes) =
    g ∙ (λ i. map (moved (renumber_at (e i) (d i) m)) (drop 1 m.nodes)) in
    let count : wires ≡ c.wires + rank (is_inner m) m.wires = f ∙ ap (λ n. n + rank (is_inner m) m.wires) d in
    λ i. record { nodes = take a c.nodes ++ (moves i ++ drop (suc a) c.nodes); wires = count i }

pub rank_few : (f : ℕ → Bool) (n : ℕ) → rank f n ≤ n
rank_few f zero = omega (arith, rank_zero f)
rank_few f (suc n) = elim (cases_Bool (f n)) [
  | inl e ↦ omega (arith, rank_next f n e, rank_few f n)
  | inr e ↦ omega (arith, rank_stays f n e, rank_few f n)
]

spliced_count : (c : Circuit) (a : ℕ) (m : Circuit) → (spliced c a m).wires ≤ c.wires + m.wires
unfolding spliced
spliced_count c a m = omega (arith, rank_few (is_inner m) m.wires)

-- It has fewer nodes than 2 ^ 32 where the wires of both are fewer than 2 ^ 31.
pub spliced_few : (c : Circuit) (a : ℕ) (m : Circuit) → Fitting c a m → c.wires + m.wires < 2 ^ 31 → length (spliced c a m).nodes < 2 ^ 32
spliced_few c a m fit few =
    omega (arith, nodes_few (spliced c a m) (spliced_fits c a m fit) (spliced_closed c a m fit), spliced_count c a m)

-- what holds of the spliced network holds of the network that equals it
pub landed : {E : Type 0} (F : Type 0) (P : Circuit → Type 0) (s : Circuit) (r : Result Circuit E) → IfOk r (λ w. w ≡ s) → IfOk r (λ w. F) → (F → P s) → IfOk r P
landed F P s (Err x) e f h = tt
landed F P s (Ok w) e f h = subst P (sym e) (h f)
