-- The names of a command are the different words before `?` and `!` in its canonical text, in order.
use Rattle.std.proofs.Common.{◌≡◌, ℕ, zero, suc, ◌+◌, ◌≤◌, ◌<◌, true, false, ◌||◌, List, [], ◌∷◌, ◌++◌, map, length, max, refl, sym, ◌∙◌, ap, subst, ◌⊎◌, inl, inr, arith, append_assoc, append-nil}
use Rattle.std.specs.Prelude.{if◌then◌else◌}
use Rattle.std.specs.List.{AllByRecursion, IsDistinct}
use Rattle.std.specs.Str.{bytes_eq}
use Rattle.std.proofs.lemmas.Bool.{cases_lt, false_from_ne_true, both_ways, or_left, or_right}
use Rattle.std.proofs.lemmas.Map.Keys.{IsDistinct-head, IsDistinct-tail}
use Rattle.std.proofs.lemmas.Slice.Eq.{bytes_eq-Decides}
use Rattle.indexmap.specs.IndexSet.{insert_key}
use Rattle.cmd_tree.specs.declared.tree.Mark.{Mark}
use Rattle.cmd_tree.specs.declared.tree.Proc.{Proc}
use Rattle.cmd_tree.specs.Limits.{marks_of_all, IsNumbered, IsCommand}
use Rattle.cmd_text.specs.Token.{Main, Define, Dot, End}
use Rattle.cmd_text.specs.Names.{name_in, names_after}
use Rattle.cmd_text.proofs.NamesKept.{is_in}
use Rattle.cmd_text.proofs.MainTokens.{all_written}
use Rattle.cmd_text.proofs.Numbered.{learned, main_hears, push_length}
use Rattle.cmd_text.proofs.AsWritten.{written_of}
use Rattle.cmd_text.proofs.PrintedShape.{written_back}

-- ---- a name that is among the first ones, and the one after them
old_in : (ns rest : List (List ℕ)) (s : ℕ) → s < length ns → is_in (name_in (ns ++ rest) s) ns ≡ true
old_in [] rest s l = absurd (omega (arith, l))
old_in (m ∷ ns) rest zero l = or_left (bytes_eq m m) (is_in m ns) ((bytes_eq-Decides m m).1 refl)
old_in (m ∷ ns) rest (suc s) l = or_right (bytes_eq (name_in (ns ++ rest) s) m) (is_in (name_in (ns ++ rest) s) ns) (old_in ns rest s (omega (arith, l)))

next_name : (ns : List (List ℕ)) (n : List ℕ) (rest : List (List ℕ)) → name_in (ns ++ n ∷ rest) (length ns) ≡ n
next_name [] n rest = refl
next_name (m ∷ ns) n rest = next_name ns n rest

other : (m n : List ℕ) → bytes_eq m n ≡ false → bytes_eq n m ≡ false
other m n e = false_from_ne_true (bytes_eq n m) (λ g. both_ways (bytes_eq m n) e ((bytes_eq-Decides m n).1 (sym ((bytes_eq-Decides n m).0 g))))

differs : (m : List ℕ) (ns : List (List ℕ)) (n : List ℕ) (rest : List (List ℕ)) → AllByRecursion (λ x. bytes_eq m x ≡ false) (ns ++ n ∷ rest) → bytes_eq m n ≡ false
differs m [] n rest h = h.0
differs m (k ∷ ns) n rest h = differs m ns n rest h.1

next_new : (ns : List (List ℕ)) (n : List ℕ) (rest : List (List ℕ)) → IsDistinct bytes_eq (ns ++ n ∷ rest) → is_in n ns ≡ false
next_new [] n rest h = refl
next_new (m ∷ ns) n rest h = ap (λ b. b || is_in n ns) (other m n (differs m ns n rest (IsDistinct-head bytes_eq m (ns ++ n ∷ rest) h))) ∙ next_new ns n rest (IsDistinct-tail bytes_eq m (ns ++ n ∷ rest) h)

-- ---- what an insertion leaves
insert_old : (ns : List (List ℕ)) (n : List ℕ) → is_in n ns ≡ true → insert_key bytes_eq ns n ≡ ns
insert_old ns n e = ap (λ b. if b then ns else ns ++ n ∷ []) e

insert_new : (ns : List (List ℕ)) (n : List ℕ) → is_in n ns ≡ false → insert_key bytes_eq ns n ≡ ns ++ n ∷ []
insert_new ns n e = ap (λ b. if b then ns else ns ++ n ∷ []) e

-- ---- numbers
numbers_grow : (k : ℕ) (ms : List Mark) (n : ℕ) → IsNumbered k ms n → k ≤ n
numbers_grow k [] n h = omega (arith, h)
numbers_grow k (m ∷ ms) n h = omega (arith, numbers_grow (max k (m.sym.0 + 1)) ms n h.1)

same_numbers : (j k n : ℕ) (ms : List Mark) → j ≡ k → IsNumbered j ms n → IsNumbered k ms n
same_numbers j k n ms e h = subst (λ u. IsNumbered u ms n) e h

long : (ns : List (List ℕ)) (n : List ℕ) (rest : List (List ℕ)) → length ns < length (ns ++ n ∷ rest)
long [] n rest = omega arith
long (m ∷ ns) n rest = omega (arith, long ns n rest)

-- ---- the first names are learned: the marks teach the others, in order
module _ (names : List (List ℕ)) (distinct : IsDistinct bytes_eq names) where
  all_learned : (ns rest : List (List ℕ)) → names ≡ ns ++ rest → length ns ≡ length names → ns ≡ names
  all_learned ns [] e h = sym (append-nil ns) ∙ sym e
  all_learned ns (n ∷ rest) e h = let l : length names ≡ length (ns ++ n ∷ rest) = ap length e in absurd (omega (arith, l, h, long ns n rest))

  old_learned : (m : Mark) (ms : List Mark) (ns rest : List (List ℕ)) → names ≡ ns ++ rest → m.sym.0 < length ns → learned (name_in names) ns ms ≡ names → learned (name_in names) ns (m ∷ ms) ≡ names
  old_learned m ms ns rest e l h =
      let i : is_in (name_in names m.sym.0) ns ≡ true = ap (λ u. is_in (name_in u m.sym.0) ns) e ∙ old_in ns rest m.sym.0 l in
      ap (λ u. learned (name_in names) u ms) (insert_old ns (name_in names m.sym.0) i) ∙ h

  new_learned : (m : Mark) (ms : List Mark) (ns : List (List ℕ)) (n : List ℕ) (rest : List (List ℕ)) → names ≡ ns ++ n ∷ rest → m.sym.0 ≡ length ns → learned (name_in names) (ns ++ n ∷ []) ms ≡ names → learned (name_in names) ns (m ∷ ms) ≡ names
  new_learned m ms ns n rest e l h =
      let is : name_in names m.sym.0 ≡ n = ap (λ u. name_in u m.sym.0) e ∙ ap (λ i. name_in (ns ++ n ∷ rest) i) l ∙ next_name ns n rest in
      let new : is_in n ns ≡ false = next_new ns n rest (subst (λ u. IsDistinct bytes_eq u) e distinct) in
      ap (λ k. learned (name_in names) (insert_key bytes_eq ns k) ms) is ∙ ap (λ u. learned (name_in names) u ms) (insert_new ns n new) ∙ h

  learn : (ms : List Mark) (ns rest : List (List ℕ)) → names ≡ ns ++ rest → IsNumbered (length ns) ms (length names) → learned (name_in names) ns ms ≡ names
  learn [] ns rest e h = all_learned ns rest e h
  learn (m ∷ ms) ns rest e h = next rest e (cases_lt m.sym.0 (length ns)) (λ ks r. learn ms ks r)
    where
      next : (r : List (List ℕ)) → names ≡ ns ++ r → (m.sym.0 < length ns) ⊎ (length ns ≤ m.sym.0)
          → ((ks q : List (List ℕ)) → names ≡ ks ++ q → IsNumbered (length ks) ms (length names) → learned (name_in names) ks ms ≡ names)
          → learned (name_in names) ns (m ∷ ms) ≡ names
      next r f (inl l) rec = old_learned m ms ns r f l (rec ns r f (same_numbers (max (length ns) (m.sym.0 + 1)) (length ns) (length names) ms (omega (arith, l)) h.1))
      next [] f (inr l) rec =
          let few : length names ≡ length (ns ++ []) = ap length f in
          let all : length (ns ++ []) ≡ length ns = ap length (append-nil ns) in
          absurd (omega (arith, few, all, l, numbers_grow (max (length ns) (m.sym.0 + 1)) ms (length names) h.1))
      next (n ∷ r) f (inr l) rec = new_learned m ms ns n r f (omega (arith, l, h.0))
          (rec (ns ++ n ∷ []) r (f ∙ sym (append_assoc ns (n ∷ []) r)) (same_numbers (max (length ns) (m.sym.0 + 1)) (length (ns ++ n ∷ [])) (length names) ms (omega (arith, l, h.0, push_length ns n)) h.1))

marks_learned : (names : List (List ℕ)) (ms : List Mark) → IsDistinct bytes_eq names → IsNumbered 0 ms (length names) → learned (name_in names) [] ms ≡ names
marks_learned names ms d h = learn names d ms [] names refl h

pub printed_names : (names : List (List ℕ)) (procs : List Proc) → IsCommand names procs → names ≡ names_after [] End (Main ∷ Define ∷ all_written (name_in names) (map written_of procs) (Dot ∷ End ∷ []))
printed_names names procs c = sym (main_hears (name_in names) (map written_of procs)
    ∙ ap (λ ps. learned (name_in names) [] (marks_of_all ps)) (written_back names procs c)
    ∙ marks_learned names (marks_of_all procs) c.distinct c.numbered)
