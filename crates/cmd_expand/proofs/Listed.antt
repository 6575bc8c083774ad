-- The names of all symbols: each name of a renaming is among them, and different names that are put stay as they are.
use Rattle.std.proofs.Common.{◌≡◌, ℕ, Bool, true, false, ◌||◌, List, [], ◌∷◌, ◌++◌, refl, ap, ◌∙◌}
use Rattle.std.specs.Prelude.{if◌then◌else◌}
use Rattle.std.specs.List.{AllByRecursion, IsDistinct, list_any, fold}
use Rattle.std.specs.Str.{bytes_eq}
use Rattle.std.proofs.lemmas.Slice.Eq.{bytes_eq-Decides}
use Rattle.indexmap.specs.IndexSet.{insert_key}
use Rattle.cmd_text.specs.declared.file.Sentence.{Sentence}
use Rattle.cmd_text.specs.declared.file.Factor.{Factor}
use Rattle.cmd_text.specs.declared.file.Factor.TheVariants.{Own, Named}
use Rattle.cmd_text.specs.declared.file.Rename.{Rename}
use Rattle.cmd_text.proofs.NameTables.{put_all}
use Rattle.cmd_expand.specs.Names.{with_name, with_names, with_pairs, with_factor, with_factors, with_sentences, all_names, IsIn, AreIn, IsFactorIn}

as_fold : (ns : List (List ℕ)) (names : List (List ℕ)) → with_names names ns ≡ fold (insert_key bytes_eq) names ns
as_fold [] names = refl
as_fold (n ∷ ns) names = as_fold ns (with_name names n)

pub names_kept : (ns : List (List ℕ)) → IsDistinct bytes_eq ns → with_names [] ns ≡ ns
names_kept ns h = as_fold ns [] ∙ put_all ns h

-- ---- what is in stays in
in_append : (n : List ℕ) (ns ms : List (List ℕ)) → IsIn ns n → IsIn (ns ++ ms) n
in_append n [] ms h = absurd (cc)
in_append n (m ∷ ns) ms h = by (bytes_eq n m) h (λ k. in_append n ns ms k)
  where
    by : (b : Bool) → (b || list_any (bytes_eq n) ns) ≡ true → (list_any (bytes_eq n) ns ≡ true → list_any (bytes_eq n) (ns ++ ms) ≡ true) → (b || list_any (bytes_eq n) (ns ++ ms)) ≡ true
    by true k f = refl
    by false k f = f k

in_last : (n : List ℕ) (ns : List (List ℕ)) → IsIn (ns ++ n ∷ []) n
in_last n [] = ap (λ b. b || false) ((bytes_eq-Decides n n).1 refl)
in_last n (m ∷ ns) = by (bytes_eq n m) (in_last n ns)
  where
    by : (b : Bool) → list_any (bytes_eq n) (ns ++ n ∷ []) ≡ true → (b || list_any (bytes_eq n) (ns ++ n ∷ [])) ≡ true
    by true k = refl
    by false k = k

in_with_by : (n m : List ℕ) (ns : List (List ℕ)) (b : Bool) → IsIn ns m → IsIn (if b then ns else ns ++ n ∷ []) m
in_with_by n m ns true h = h
in_with_by n m ns false h = in_append m ns (n ∷ []) h

in_with : (n m : List ℕ) (ns : List (List ℕ)) → IsIn ns m → IsIn (with_name ns n) m
in_with n m ns h = in_with_by n m ns (list_any (bytes_eq n) ns) h

put_with_by : (n : List ℕ) (ns : List (List ℕ)) (b : Bool) → list_any (bytes_eq n) ns ≡ b → IsIn (if b then ns else ns ++ n ∷ []) n
put_with_by n ns true e = e
put_with_by n ns false e = in_last n ns

put_with : (n : List ℕ) (ns : List (List ℕ)) → IsIn (with_name ns n) n
put_with n ns = put_with_by n ns (list_any (bytes_eq n) ns) refl

in_pairs : (rs : List Rename) (m : List ℕ) (ns : List (List ℕ)) → IsIn ns m → IsIn (with_pairs ns rs) m
in_pairs [] m ns h = h
in_pairs (r ∷ rs) m ns h = in_pairs rs m (with_name (with_name ns r.fresh) r.was) (in_with r.was m (with_name ns r.fresh) (in_with r.fresh m ns h))

in_factor : (f : Factor) (m : List ℕ) (ns : List (List ℕ)) → IsIn ns m → IsIn (with_factor ns f) m
in_factor (Own p) m ns h = h
in_factor (Named u) m ns h = in_pairs u.renames m ns h

in_factors : (fs : List Factor) (m : List ℕ) (ns : List (List ℕ)) → IsIn ns m → IsIn (with_factors ns fs) m
in_factors [] m ns h = h
in_factors (f ∷ fs) m ns h = in_factors fs m (with_factor ns f) (in_factor f m ns h)

in_sentences : (ss : List Sentence) (m : List ℕ) (ns : List (List ℕ)) → IsIn ns m → IsIn (with_sentences ns ss) m
in_sentences [] m ns h = h
in_sentences (s ∷ ss) m ns h = in_sentences ss m (with_factors ns s.factors) (in_factors s.factors m ns h)

-- further names
abbrev More : List (List ℕ) → List (List ℕ) → Type 0
More ns all = (m : List ℕ) → IsIn ns m → IsIn all m

pairs_in : (rs : List Rename) (ns all : List (List ℕ)) → More (with_pairs ns rs) all → AreIn all rs
pairs_in [] ns all f = tt
pairs_in (r ∷ rs) ns all f = (
  (
    f r.fresh (in_pairs rs r.fresh (with_name (with_name ns r.fresh) r.was) (in_with r.was r.fresh (with_name ns r.fresh) (put_with r.fresh ns))),
    f r.was (in_pairs rs r.was (with_name (with_name ns r.fresh) r.was) (put_with r.was (with_name ns r.fresh))),
  ),
  pairs_in rs (with_name (with_name ns r.fresh) r.was) all f,
)

factor_in : (f : Factor) (ns all : List (List ℕ)) → More (with_factor ns f) all → IsFactorIn all f
factor_in (Own p) ns all g = tt
factor_in (Named u) ns all g = pairs_in u.renames ns all g

factors_in : (fs : List Factor) (ns all : List (List ℕ)) → More (with_factors ns fs) all → AllByRecursion (IsFactorIn all) fs
factors_in [] ns all g = tt
factors_in (f ∷ fs) ns all g = (factor_in f ns all (λ m h. g m (in_factors fs m (with_factor ns f) h)), factors_in fs (with_factor ns f) all g)

sentences_in : (ss : List Sentence) (ns all : List (List ℕ)) → More (with_sentences ns ss) all → AllByRecursion (λ s. AllByRecursion (IsFactorIn all) s.factors) ss
sentences_in [] ns all g = tt
sentences_in (s ∷ ss) ns all g = (factors_in s.factors ns all (λ m h. g m (in_sentences ss m (with_factors ns s.factors) h)), sentences_in ss (with_factors ns s.factors) all g)

-- the names of each renaming are among all names
pub all_listed : (names : List (List ℕ)) (ss : List Sentence) → AllByRecursion (λ s. AllByRecursion (IsFactorIn (all_names names ss)) s.factors) ss
all_listed names ss = sentences_in ss names (all_names names ss) (λ m h. h)
