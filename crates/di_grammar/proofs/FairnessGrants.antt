-- Where each symbol has one direction, a grant asks by inputs, and gives outputs.
use Rattle.std.proofs.Common.{◌≡◌, ℕ, Bool, true, false, List, [], ◌∷◌}
use Rattle.std.specs.List.{AllByRecursion}
use Rattle.cmd_tree.specs.Tree.{marks_among}
use Rattle.cmd_tree.specs.Limits.{marks_of_proc}
use Rattle.process_laws.specs.GrantForms.{Giving, gifts, loans, plain, release, granted_of, returned_of}
use Rattle.di_grammar.specs.Lists.{Each}
use Rattle.di_grammar.proofs.FairnessLists.{each_left}
use Rattle.di_grammar.proofs.FairnessMarks.{Agrees}

abbrev pub Up : (ℕ → Bool) → List ℕ → Type 0
Up out = AllByRecursion (λ a. out a ≡ true)

abbrev pub Down : (ℕ → Bool) → List ℕ → Type 0
Down out = AllByRecursion (λ a. out a ≡ false)

gifts_ways : (out : ℕ → Bool) (ps : List ℕ) → Each (Agrees out) (marks_among (gifts ps)) → Up out ps
gifts_ways out [] h = tt
gifts_ways out (p ∷ ps) h = (h.0, gifts_ways out ps h.1)

loans_ways : (out : ℕ → Bool) (gs : List Giving) → Each (Agrees out) (marks_among (loans gs))
    → Up out (granted_of gs) × Down out (returned_of gs)
loans_ways out [] h = (tt, tt)
loans_ways out (g ∷ gs) h = let rest = loans_ways out gs h.1.1 in ((h.0, rest.0), (h.1.0, rest.1))

pub plain_ways : (out : ℕ → Bool) (n : ℕ) (ps : List ℕ) → Each (Agrees out) (marks_of_proc (plain n ps))
    → (out n ≡ false) × Up out ps
plain_ways out n ps h = (h.0, gifts_ways out ps (each_left (Agrees out) (marks_among (gifts ps)) [] h.1))

pub release_ways : (out : ℕ → Bool) (gs : List Giving) → Each (Agrees out) (marks_of_proc (release gs))
    → Up out (granted_of gs) × Down out (returned_of gs)
release_ways out gs h = loans_ways out gs (each_left (Agrees out) (marks_among (loans gs)) [] h)
