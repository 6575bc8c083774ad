-- Projections, symbol by symbol.
use Rattle.std.proofs.Common.{◌≡◌, ℕ, ◌+◌, ◌<◌, length, get_or, drop, filter, nat_eq, List, [], ◌∷◌, refl, ap, ◌∙◌, Bool, true, false, ◌||◌, cond}
use Rattle.std.specs.List.{list_any}
use Rattle.std.proofs.lemmas.List.{at_drop_more}
use Rattle.cmd_tree.specs.declared.tree.Sym.{Sym}
use Rattle.cmd_tree.specs.Lists.{is_in}
use Rattle.trace_laws.specs.Listed.{numbers, projected}

pub among_is : (a : ℕ) (ks : List Sym) → list_any (λ s. nat_eq a s.0) ks ≡ is_in a (numbers ks)
among_is a [] = refl
among_is a (s ∷ ks) = ap (λ b. nat_eq a s.0 || b) (among_is a ks)

pub filtered : (p : ℕ → Bool) (xs : List Sym) → numbers (filter (λ s. p s.0) xs) ≡ filter p (numbers xs)
filtered p [] = refl
filtered p (x ∷ xs) = by (p x.0) (filtered p xs) where
  by : (b : Bool) → numbers (filter (λ s. p s.0) xs) ≡ filter p (numbers xs)
      → numbers (cond b (x ∷ filter (λ s. p s.0) xs) (filter (λ s. p s.0) xs)) ≡ cond b (x.0 ∷ filter p (numbers xs)) (filter p (numbers xs))
  by true h = ap (λ l. x.0 ∷ l) h
  by false h = h

pub taken : (xs kept : List Sym) (i : ℕ) (d : Sym) → i < length xs → is_in (get_or xs i d).0 (numbers kept) ≡ true
    → projected (drop i xs) kept ≡ (get_or xs i d).0 ∷ projected (drop (i + 1) xs) kept
taken xs kept i d l e = at_drop_more (λ ys. projected ys kept) xs i d l ∙ ap (λ b. cond b ((get_or xs i d).0 ∷ projected (drop (i + 1) xs) kept) (projected (drop (i + 1) xs) kept)) e
