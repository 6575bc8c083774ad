-- The nodes of a weave by place: the processes that are no grants, and then kinds.
use Rattle.std.proofs.Common.{◌≡◌, inl, inr, ⊎_elim, ℕ, Bool, true, false, cond, filter, List, [], ◌∷◌, ◌++◌, map, refl, sym, ap, ◌∙◌, subst, if◌then◌else◌}
use Rattle.std.specs.Prelude.{drop, IsTrue}
use Rattle.std.specs.List.{AllByRecursion, range_with_len}
use Rattle.std.proofs.lemmas.List.{map-append}
use Rattle.net_core.specs.declared.spec.NodeSpec.{NodeSpec}
use Rattle.net_core.specs.Specs.{is_kind}
use Rattle.net_core.specs.Wiring.{Node}
use Rattle.net_laws.specs.Charts.{charted, node_of}
use Rattle.net_laws.proofs.Among.{Among, all_map}
use Rattle.net_laws.proofs.Rows.{among_row, among_either}
use Rattle.plain_split.specs.SharedPaths.{joined}
use Rattle.plain_split.proofs.SharedLists.{all_by_among, filter_among, joined_among}
use Rattle.weave_split.specs.WeaveChart.{Name, Process, Spread, Join, Ties, is_kept, spec_at, woven, granting, meeting, components, weave_chart}
use Rattle.weave_split.proofs.WeaveCharted.{of_grant}

filter_both : {A : Type 0} (p : A → Bool) (xs ys : List A) → filter p (xs ++ ys) ≡ filter p xs ++ filter p ys
filter_both p [] ys = refl
filter_both p (x ∷ xs) ys = by (p x) (filter_both p xs ys)
  where
    by : (b : Bool) → filter p (xs ++ ys) ≡ filter p xs ++ filter p ys → cond b (x ∷ filter p (xs ++ ys)) (filter p (xs ++ ys)) ≡ cond b (x ∷ filter p xs) (filter p xs) ++ filter p ys
    by true e = ap (λ zs. x ∷ zs) e
    by false e = e

map_map : {A B C : Type 0} (f : B → C) (h : A → B) (xs : List A) → map f (map h xs) ≡ map (λ x. f (h x)) xs
map_map f h [] = refl
map_map f h (x ∷ xs) = ap (λ zs. f (h x) ∷ zs) (map_map f h xs)

processes_kept : (g : Ties) (ps : List ℕ) → filter (is_kept g) (map Process ps) ≡ map Process ps
processes_kept g [] = refl
processes_kept g (p ∷ ps) = ap (λ zs. Process p ∷ zs) (processes_kept g ps)

-- what leads the symbols, and what stands for the grants
abbrev pub around : Ties → List Name
around g = map (meeting g) (range_with_len 0 g.names) ++ joined of_grant (granting g)

abbrev pub leading : Ties → List Name
leading g = filter (is_kept g) (around g)

pub components_are : (g : Ties) → components g ≡ map Process (woven g) ++ leading g
components_are g = filter_both (is_kept g) (map Process (woven g)) (around g) ∙ ap (λ zs. zs ++ leading g) (processes_kept g (woven g))

module _ (s : NodeSpec) (alone : ℕ → NodeSpec) (g : Ties) where
  abbrev pub leading_specs : List NodeSpec
  leading_specs = map (spec_at s alone g) (leading g)

  pub weave_parts : map (λ (x : Node). x.spec) (drop 1 (charted (weave_chart s alone g)).nodes) ≡ map alone (woven g) ++ leading_specs
  weave_parts =
      map_map (λ (x : Node). x.spec) (node_of (weave_chart s alone g)) (components g) ∙ ap (map (spec_at s alone g)) (components_are g)
      ∙ map-append (spec_at s alone g) (map Process (woven g)) (leading g) ∙ ap (λ zs. zs ++ leading_specs) (map_map (spec_at s alone g) Process (woven g))

  abbrev Component : Name → Type 0
  Component n = IsTrue (is_kind (spec_at s alone g n))

  meeting_kind : (a : ℕ) → Component (meeting g a)
  meeting_kind a = by (g.out a)
    where
      by : (b : Bool) → Component (if b then Join a else Spread a)
      by true = refl
      by false = refl

  grant_kind : (p : ℕ) (n : Name) → Among n (of_grant p) → Component n
  grant_kind p n (inl e) = subst Component (sym e) refl
  grant_kind p n (inr (inl e)) = subst Component (sym e) refl
  grant_kind p n (inr (inr (inl e))) = subst Component (sym e) refl
  grant_kind p n (inr (inr (inr a))) = absurd a

  around_kind : (n : Name) → Among n (around g) → Component n
  around_kind n a = ⊎_elim
      (λ i. let (b, low, e) = among_row (meeting g) g.names n i in subst Component (sym e) (meeting_kind b))
      (λ i. let (p, j, b) = joined_among of_grant (granting g) n i in grant_kind p n b)
      (among_either n (map (meeting g) (range_with_len 0 g.names)) (joined of_grant (granting g)) a)

  pub leading_kinds : AllByRecursion (λ x. IsTrue (is_kind x)) leading_specs
  leading_kinds = all_map (λ x. IsTrue (is_kind x)) (spec_at s alone g) (leading g) (all_by_among Component (leading g) (λ n a. around_kind n (filter_among (is_kept g) (around g) n a).0))
