use Rattle.std.proofs.Common.{◌≡◌, ℕ, arith}
use Rattle.seq_tree.specs.declared.groups.Group.{Group}
use Rattle.seq_tree.proofs.GroupNumbers.{half_is, rest_is, half_range}
use Rattle.seq_tree.proofs.layers.groups.Goals as goal

same_group : (a b c d p q r s : ℕ) → a ≡ p → b ≡ q → c ≡ r → d ≡ s
    → ◌≡◌ {A = Group} (record { request = a; grant = b; size = c; base = d }) (record { request = p; grant = q; size = r; base = s })
same_group a b c d p q r s w x y z = λ i. record { request = w i; grant = x i; size = y i; base = z i }

pub returns-clause-first : goal.returns-clause-first
returns-clause-first c =
    let k = c.args.requests in
    same_group _ _ _ _ _ _ _ _ (omega arith) (omega (arith, half_range k)) (half_is k) (omega (arith, half_range k))

pub returns-clause-rest : goal.returns-clause-rest
returns-clause-rest c =
    let k = c.args.requests in
    same_group _ _ _ _ _ _ _ _ (half_is k) (omega (arith, half_range k)) (rest_is k) (omega (arith, half_range k))
