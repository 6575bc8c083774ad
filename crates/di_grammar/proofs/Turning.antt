-- The seventh rule is kept exactly where nothing breaks it.
use Rattle.std.proofs.Common.{◌≡◌, inl, inr, ◌↔◌, ℕ, ◌+◌, Bool, true, false, List, [], ◌∷◌, ◌++◌, Some, refl, sym, ap, ◌∙◌, subst}
use Rattle.cmd_tree.specs.declared.tree.Mark.{Mark}
use Rattle.cmd_tree.specs.declared.tree.Proc.{Proc}
use Rattle.cmd_tree.specs.Limits.{marks_of_proc, marks_of_all}
use Rattle.di_grammar.proofs.Lists.{within_first, within_more, within_cons, none_within, each_within, each_all}
use Rattle.di_grammar.specs.declared.breach.Breach.{Breach}
use Rattle.di_grammar.specs.declared.spots.Spot.{Spot}
use Rattle.di_grammar.specs.Lists.{Each, EachTwo, Within}
use Rattle.di_grammar.specs.Directions.{KeepsDirections, Turned, BreaksDirections}
use Rattle.di_grammar.specs.Spots.{spots_from, spots_in, spots_of, spots, first_mark}
use Rattle.di_grammar.specs.Mirror.Found.{same_dir}
use Rattle.di_grammar.proofs.Seeing.{first_symbol, first_there_is, same_is, is_same}

-- of each two, and of any two
two_any : {A : Type 0} (R : A → A → Type 0) (xs : List A) (x y : A) → ((z : A) → R z z)
    → ((z w : A) → R z w → R w z) → EachTwo R xs → Within xs x → Within xs y → R x y
two_any R [] x y same turn two v w = absurd (none_within x v)
two_any R (z ∷ zs) x y same turn two v w = elim (within_cons z zs x v) [
  | inl e ↦ elim (within_cons z zs y w) [
    | inl f ↦ subst (R x) (e ∙ sym f) (same x)
    | inr j ↦ subst (λ a. R a y) (sym e) (each_within (R z) zs y two.0 j)
  ]
  | inr i ↦ elim (within_cons z zs y w) [
    | inl f ↦ subst (R x) (sym f) (turn z x (each_within (R z) zs x two.0 i))
    | inr j ↦ two_any R zs x y same turn two.1 i j
  ]
]

two_from : {A : Type 0} (R : A → A → Type 0) (xs : List A) → ((x y : A) → Within xs x → Within xs y → R x y)
    → EachTwo R xs
two_from R [] any = tt
two_from R (x ∷ xs) any = (
  each_all (R x) xs (λ y w. any x y (within_first x xs) (within_more x y xs w)),
  two_from R xs (λ y z v w. any y z (within_more x y xs v) (within_more x z xs w)),
)

-- two marks of a symbol have the same direction
abbrev Agree : Mark → Mark → Type 0
Agree m n = m.sym.0 ≡ n.sym.0 → m.dir ≡ n.dir

abbrev SpotsAgree : Spot → Spot → Type 0
SpotsAgree s t = s.mark.sym.0 ≡ t.mark.sym.0 → s.mark.dir ≡ t.mark.dir

-- the marks without their places
abbrev marks_at : List Spot → List Mark
marks_at [] = []
marks_at (s ∷ ss) = s.mark ∷ marks_at ss

marks_join : (ss ts : List Spot) → marks_at (ss ++ ts) ≡ marks_at ss ++ marks_at ts
marks_join [] ts = refl
marks_join (s ∷ ss) ts = ap (λ (ms : List Mark). s.mark ∷ ms) (marks_join ss ts)

marks_from : (q k : ℕ) (ms : List Mark) → marks_at (spots_from q k ms) ≡ ms
marks_from q k [] = refl
marks_from q k (m ∷ ms) = ap (λ (ns : List Mark). m ∷ ns) (marks_from q (k + 1) ms)

marks_all : (q : ℕ) (ps : List Proc) → marks_at (spots_of q ps) ≡ marks_of_all ps
marks_all q [] = refl
marks_all q (p ∷ ps) = marks_join (spots_in q p) (spots_of (q + 1) ps)
    ∙ ap (λ (ms : List Mark). ms ++ marks_at (spots_of (q + 1) ps)) (marks_from q 1 (marks_of_proc p))
    ∙ ap (λ (ms : List Mark). marks_of_proc p ++ ms) (marks_all (q + 1) ps)

each_spot : (m : Mark) (ss : List Spot) → Each (Agree m) (marks_at ss) ↔ Each (λ s. Agree m s.mark) ss
each_spot m [] = (λ h. tt, λ h. tt)
each_spot m (s ∷ ss) = let rest = each_spot m ss in (λ h. (h.0, rest.0 h.1), λ h. (h.0, rest.1 h.1))

two_spots : (ss : List Spot) → EachTwo Agree (marks_at ss) ↔ EachTwo SpotsAgree ss
two_spots [] = (λ h. tt, λ h. tt)
two_spots (s ∷ ss) =
    let here = each_spot s.mark ss in
    let rest = two_spots ss in
    (λ h. (here.0 h.0, rest.0 h.1), λ h. (here.1 h.0, rest.1 h.1))

kept : (ss : List Spot) (b : Breach) → EachTwo SpotsAgree ss → Turned ss b → ⊥
kept ss b two t =
    let first = first_symbol t.mark.mark.sym.0 ss t.first t.is_first in
    t.differ (two_any SpotsAgree ss t.mark t.first (λ s e. refl) (λ s u agree e. sym (agree (sym e))) two t.within first.1 (sym first.0))

-- each mark has the direction of the first of its symbol
as_first : (ss : List Spot) (s f : Spot) → ((b : Breach) → Turned ss b → ⊥) → Within ss s
    → first_mark s.mark.sym.0 ss ≡ Some f → s.mark.dir ≡ f.mark.dir
as_first ss s f none w e = by (same_dir s.mark.dir f.mark.dir) refl where
  by : (b : Bool) → same_dir s.mark.dir f.mark.dir ≡ b → s.mark.dir ≡ f.mark.dir
  by true y = same_is s.mark.dir f.mark.dir y
  by false n = absurd (none (record { process = s.process; place = s.place; case = 0; other_process = f.process; other = f.place }) (record {
    mark = s;
    within = w;
    first = f;
    is_first = e;
    differ = is_same s.mark.dir f.mark.dir n;
    process = refl;
    place = refl;
    other_process = refl;
    other = refl;
    case = refl;
  }))

unbroken : (ss : List Spot) → ((b : Breach) → Turned ss b → ⊥) → EachTwo SpotsAgree ss
unbroken ss none = two_from SpotsAgree ss (λ s t v w e.
    let f = first_there_is ss s v in
    as_first ss s f.0 none v f.1
    ∙ sym (as_first ss t f.0 none w (ap (λ (a : ℕ). first_mark a ss) (sym e) ∙ f.1)))

pub keeps_directions : (ps : List Proc) → KeepsDirections ps ↔ ((b : Breach) → BreaksDirections ps b → ⊥)
keeps_directions ps = (
  λ keeps b t. kept (spots ps) b ((two_spots (spots ps)).0 (subst (EachTwo Agree) (sym (marks_all 1 ps)) keeps)) t,
  λ none. subst (EachTwo Agree) (marks_all 1 ps) ((two_spots (spots ps)).1 (unbroken (spots ps) none)),
)
