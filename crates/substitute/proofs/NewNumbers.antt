-- The three kinds of new numbers of a part's wires.
use Rattle.std.proofs.Common.{◌≡◌, ◌≢◌, ℕ, ◌+◌, List, get_or, Option, None, Some, refl, ne_eqb, eq-eqb}
use Rattle.net_core.specs.Wiring.{Node, Circuit}
use Rattle.net_core.specs.Networks.{end_of}
use Rattle.net_core.specs.Walk.{ends_at}
use Rattle.substitute.specs.Splice.{driver, receiver, output_port, input_port, is_inner, rank, renumber_at}

pub end_listed : (o : Option Node) (p : ℕ) → get_or (ends_at o) p 0 ≡ end_of o p
end_listed None p = refl
end_listed (Some x) p = refl

module _ (ends : List ℕ) (first : ℕ) (m : Circuit) (u : ℕ) where
  pub entering_number : driver m u ≡ 0 → renumber_at ends first m u ≡ get_or ends (output_port m u) 0
  unfolding renumber_at
  entering_number e = rw (eq-eqb (driver m u) 0 e) refl

  pub leaving_number : ◌≢◌ {A = ℕ} (driver m u) 0 → receiver m u ≡ 0 → renumber_at ends first m u
      ≡ get_or ends (input_port m u) 0
  unfolding renumber_at
  leaving_number h e = rw (ne_eqb (driver m u) 0 h, eq-eqb (receiver m u) 0 e) refl

  pub inner_number : ◌≢◌ {A = ℕ} (driver m u) 0 → ◌≢◌ {A = ℕ} (receiver m u) 0 → renumber_at ends first m u
      ≡ first + rank (is_inner m) u
  unfolding renumber_at
  inner_number h g = rw (ne_eqb (driver m u) 0 h, ne_eqb (receiver m u) 0 g) refl
