-- Legs of lists joined, and sequences joined.
use Rattle.std.proofs.Common.{◌≡◌, inl, inr, ⊎_elim, ◌⊎◌, ℕ, zero, suc, ◌<◌, List, [], ◌∷◌, ◌++◌, length, get_or, refl, ap, arith}
use Rattle.std.specs.List.{AllByRecursion}
use Rattle.cmd_tree.specs.Tree.{TSeq, Done, Then}
use Rattle.cmd_tree.specs.Join.{join}
use Rattle.place_graph.specs.declared.leg.Leg.{Leg}
use Rattle.place_graph.specs.Points.{Among}

pub among_append : (L M : List Leg) (l : Leg) → Among (L ++ M) l → Among L l ⊎ Among M l
among_append [] M l h = inr h
among_append (m ∷ L) M l (inl e) = inl (inl e)
among_append (m ∷ L) M l (inr h) = ⊎_elim (λ a. inl (inr a)) (λ b. inr b) (among_append L M l h)

pub among_left : (L M : List Leg) (l : Leg) → Among L l → Among (L ++ M) l
among_left [] M l h = absurd h
among_left (m ∷ L) M l (inl e) = inl e
among_left (m ∷ L) M l (inr h) = inr (among_left L M l h)

pub among_right : (L M : List Leg) (l : Leg) → Among M l → Among (L ++ M) l
among_right [] M l h = h
among_right (m ∷ L) M l h = inr (among_right L M l h)

pub join_assoc : (q s r : TSeq) → join (join q s) r ≡ join q (join s r)
join_assoc Done s r = refl
join_assoc (Then i q) s r = ap (λ x. Then i x) (join_assoc q s r)

pub all_at : {A : Type 0} (P : A → Type 0) (xs : List A) (i : ℕ) (d : A) → i < length xs
    → AllByRecursion P xs → P (get_or xs i d)
all_at P [] i d h a = absurd (omega arith)
all_at P (x ∷ xs) zero d h a = a.0
all_at P (x ∷ xs) (suc i) d h a = all_at P xs i d (omega arith) a.1
