-- A leg leads from where a process begins.
use Rattle.std.proofs.Common.{◌≡◌, inl, ℕ, ◌+◌, ◌<◌, List, ◌++◌, refl, sym, ap, subst, arith, IsTrue, true≢false, Option, Some, None, is_some}
use Rattle.cmd_tree.specs.declared.tree.Proc.{Proc}
use Rattle.cmd_tree.specs.Tree.{TItem, TSeq, TSeqs, TBurst, TAlt, Stop, Or, Done, Then, places_of, places_in}
use Rattle.cmd_tree.specs.Limits.{IsItem, AreSeqs, IsFull, IsPart, IsProc, count_of, of_part}
use Rattle.cmd_tree.specs.Residual.{lead_of}
use Rattle.place_graph.specs.declared.leg.Leg.{Leg}
use Rattle.place_graph.specs.Points.{point, legs_of, legs_in, legs_among, body_place, turn_point, legs, Among}
use Rattle.place_graph.proofs.Joined.{among_left, among_right}

-- a leg of the list leads from the point
abbrev pub Leaves : List Leg → ℕ → Type 0
Leaves L x = (m : Leg) × Among L m × (m.from ≡ x)

leaves_left : (L M : List Leg) (x : ℕ) → Leaves L x → Leaves (L ++ M) x
leaves_left L M x (m, a, e) = (m, among_left L M m a, e)

leaves_right : (L M : List Leg) (x : ℕ) → Leaves M x → Leaves (L ++ M) x
leaves_right L M x (m, a, e) = (m, among_right L M m a, e)

mutual
  begins_of : (k : ℕ) (s : TSeq) (at later : ℕ) → IsFull s → Leaves (legs_of k s at later) at
  begins_of k Done at later h = absurd h
  begins_of k (Then i s) at later h = leaves_left (legs_in k i at (point (k + places_in i) s later)) (legs_of (k + places_in i) s (k + places_in i) later) at (begins_in k i at (point (k + places_in i) s later) h.0)

  begins_in : (k : ℕ) (i : TItem) (at later : ℕ) → IsItem i → Leaves (legs_in k i at later) at
  begins_in k (TBurst ms) at later h = (record { from = at; place = k; marks = ms; to = later }, inl refl, refl)
  begins_in k (TAlt ss) at later h = begins_among k ss at later h.1 (omega (arith, h.0))

  begins_among : (k : ℕ) (ss : TSeqs) (at later : ℕ) → AreSeqs ss → 0 < count_of ss → Leaves (legs_among k ss at later) at
  begins_among k Stop at later h n = absurd (omega (arith, n))
  begins_among k (Or s ss) at later h n = leaves_left (legs_of k s at later) (legs_among (k + places_of s) ss at later) at (begins_of k s at later h.0)

pub first_leg : (p : Proc) → IsProc p → IsTrue (is_some p.body) → Leaves (legs p) 1
first_leg p h some = by p.lead refl
  where
    lead_legs : List Leg
    lead_legs = legs_of 1 (lead_of p.lead) 1 (turn_point p)

    body_legs : List Leg
    body_legs = legs_of (body_place p) (lead_of p.body) (body_place p) (turn_point p)

    body : (o : Option TSeq) → p.body ≡ o → IsPart o → IsTrue (is_some o) → Leaves body_legs (body_place p)
    body None e f x = absurd (true≢false (sym x))
    body (Some s) e f x = subst (λ o. Leaves (legs_of (body_place p) (lead_of o) (body_place p) (turn_point p)) (body_place p)) (sym e)
        (begins_of (body_place p) s (body_place p) (turn_point p) f)

    by : (o : Option TSeq) → p.lead ≡ o → Leaves (legs p) 1
    by None e =
        let first : body_place p ≡ 1 = ap (λ o. 1 + of_part 0 places_of o) e in
        leaves_right lead_legs body_legs 1 (subst (Leaves body_legs) first (body p.body refl h.2 some))
    by (Some s) e = leaves_left lead_legs body_legs 1 (subst (λ o. Leaves (legs_of 1 (lead_of o) 1 (turn_point p)) 1) (sym e)
        (begins_of 1 s 1 (turn_point p) (subst IsPart e h.1)))
