use Rattle.std.proofs.Common.{◌≡◌, ◌<◌, ◌∷◌, [], ◌++◌, nat_eq, length, length-append, None, Some, set, ap, sym, ◌∙◌, arith, subst}
use Rattle.std.proofs.Math.ListN.{length-set}
use Rattle.place_graph.specs.Graph.{with_new, number_at}
use Rattle.place_graph.specs.Mirror.Numbers.{PointNumbers, AreNumbers}
use Rattle.place_graph.proofs.Positions.{any_none, any_some}
use Rattle.place_graph.proofs.NumberSteps.{new_point, old_point, numbers_push, read_at, none_from, some_from, numbers_are}
use Rattle.place_graph.proofs.numbers.PointNumbers.add.Goals as goal

pub invariant_of-self-then-is_none : goal.invariant_of-self-then-is_none
invariant_of-self-then-is_none c =
    let ns = c.self.inside.numbers.items in
    let points = c.self.inside.points.items in
    let x = c.args.point in
    let inside : x < length ns = omega
    (arith, c.requires.inside, ap (λ (l : PointNumbers). l.bound) c.self.view_is) in
    let none : number_at x points ≡ None = sym (c.self.invariant.each x inside)
    ∙ read_at ns x c.index.result.now inside c.index.ensures
    ∙ none_from c.index.result.now c.is_none.result c.is_none.ensures c.if-is_none.true in
    let count : c.count-number.result ≡ length points = c.count-number.ensures
    ∙ ap (λ (l : PointNumbers). length l.points) (sym c.self.view_is) in
    let few : length points ≡ length c.args.self.now.points = ap (λ (l : PointNumbers). length l.points)
    c.self.view_is in
    let all : AreNumbers (set ns x (Some (length points))) (points ++ x ∷ []) = record {
      few = omega (arith, c.requires.few, few, length-append points (x ∷ []));
      each = λ y h. numbers_push ns points x inside none c.self.invariant.each y
          (subst (λ n. y < n) (length-set ns x (Some (length points))) h);
    } in
    subst (λ xs. AreNumbers (set ns x (Some c.count-number.result)) xs) (sym c.in_ok-push.ensures.items)
    (subst (λ k. AreNumbers (set ns x (Some k)) (points ++ x ∷ [])) (sym count) all)

pub returns-in_ok-push : goal.returns-in_ok-push
returns-in_ok-push c =
    let ns = c.self.inside.numbers.items in
    let points = c.self.inside.points.items in
    let x = c.args.point in
    let inside : x < length ns = omega
    (arith, c.requires.inside, ap (λ (l : PointNumbers). l.bound) c.self.view_is) in
    let none : number_at x points ≡ None = sym (c.self.invariant.each x inside)
    ∙ read_at ns x c.index.result.now inside c.index.ensures
    ∙ none_from c.index.result.now c.is_none.result c.is_none.ensures c.if-is_none.true in
    numbers_are _ _
    (c.in_ok-push.ensures.items ∙ sym (new_point nat_eq points x (any_none (nat_eq x) points none))
    ∙ ap (λ (l : PointNumbers). with_new nat_eq l.points (x ∷ [])) c.self.view_is)
    (length-set ns x (Some c.count-number.result) ∙ ap (λ (l : PointNumbers). l.bound) c.self.view_is)

pub returns-else-is_none : goal.returns-else-is_none
returns-else-is_none c =
    let ns = c.self.inside.numbers.items in
    let points = c.self.inside.points.items in
    let x = c.args.point in
    let inside : x < length ns = omega
    (arith, c.requires.inside, ap (λ (l : PointNumbers). l.bound) c.self.view_is) in
    let some : number_at x points ≡ None → ⊥ = λ e. some_from c.index.result.now c.is_none.result
    c.is_none.ensures c.if-is_none.false (sym (read_at ns x c.index.result.now inside c.index.ensures)
    ∙ c.self.invariant.each x inside ∙ e) in
    numbers_are _ _
    (ap (λ (l : PointNumbers). l.points) (sym c.self.view_is)
    ∙ sym (old_point nat_eq points x (any_some (nat_eq x) points some))
    ∙ ap (λ (l : PointNumbers). with_new nat_eq l.points (x ∷ [])) c.self.view_is)
    (ap (λ (l : PointNumbers). l.bound) (sym c.self.view_is)
    ∙ ap (λ (l : PointNumbers). l.bound) c.self.view_is)
