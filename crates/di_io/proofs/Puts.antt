-- Texts put one after another: what a sink gained in all.
use Rattle.std.proofs.Common.{ℕ, List, [], ◌++◌, Option, Some, ap, ◌∙◌, sym, append_assoc}
use Rattle.std.proofs.lemmas.List.{append-nil}
use Rattle.di_io.specs.Written.{Gains, GainsFront}

pub gains_then : (a b c : Option (List ℕ)) (t u : List ℕ) → Gains a b t → Gains b c u → Gains a c (t ++ u)
gains_then a b c t u g h before is = h (before ++ t) (g before is) ∙ ap Some (append_assoc before t u)

pub front_then : (a b c : Option (List ℕ)) (t u : List ℕ) → Gains a b t → GainsFront b c u
    → GainsFront a c (t ++ u)
front_then a b c t u g h before is =
    let f = h (before ++ t) (g before is) in
    record {
      front = t ++ f.front;
      rest = f.rest;
      whole = append_assoc t f.front f.rest ∙ ap (λ (v : List ℕ). t ++ v) f.whole;
      is = f.is ∙ ap Some (append_assoc before t f.front);
    }

-- a front is one of a longer text too
pub front_more : (a c : Option (List ℕ)) (t u : List ℕ) → GainsFront a c t → GainsFront a c (t ++ u)
front_more a c t u h before is =
    let f = h before is in
    record {
      front = f.front;
      rest = f.rest ++ u;
      whole = sym (append_assoc f.front f.rest u) ∙ ap (λ (v : List ℕ). v ++ u) f.whole;
      is = f.is;
    }

-- the whole text is a front
pub front_whole : (a c : Option (List ℕ)) (t : List ℕ) → Gains a c t → GainsFront a c t
front_whole a c t g before is = record { front = t; rest = []; whole = append-nil t; is = g before is }
