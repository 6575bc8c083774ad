-- Where outputs are granted, and inputs ask or return, one direction comes at a time in a grant.
use Rattle.std.proofs.Common.{◌≡◌, ℕ, ◌<◌, Bool, true, false, true≢false, List, length, refl, sym, ◌∙◌}
use Rattle.std.specs.List.{AllByRecursion}
use Rattle.cmd_tree.specs.Lists.{is_in}
use Rattle.cmd_tree.specs.Meaning.{TraceOf}
use Rattle.process_laws.specs.GrantForms.{Giving, plain, release, granted_of, returned_of}
use Rattle.process_laws.specs.Phased.{Phased}
use Rattle.process_laws.proofs.GrantTraces.{of_way, ways_apart}
use Rattle.process_laws.proofs.PlainGrants.{plain_in_phases}
use Rattle.process_laws.proofs.ReleaseGrants.{release_in_phases}

pub not_given : (out : ℕ → Bool) (n : ℕ) (ps : List ℕ) → out n ≡ false
    → AllByRecursion (λ a. out a ≡ true) ps → is_in n ps ≡ false
not_given out n ps e all = by (is_in n ps) refl
  where
    by : (b : Bool) → is_in n ps ≡ b → b ≡ false
    by true h = absurd (true≢false (sym (of_way out true ps all n h) ∙ e))
    by false h = refl

pub plain_phased : (out : ℕ → Bool) (n : ℕ) (ps : List ℕ) → 1 < length ps → out n ≡ false
    → AllByRecursion (λ a. out a ≡ true) ps → Phased ℕ out (TraceOf (plain n ps))
plain_phased out n ps more e all =
    plain_in_phases n ps (not_given out n ps e all) more out (of_way out true ps all) e

pub release_phased : (out : ℕ → Bool) (gs : List Giving) → 1 < length gs
    → AllByRecursion (λ a. out a ≡ true) (granted_of gs)
    → AllByRecursion (λ a. out a ≡ false) (returned_of gs) → Phased ℕ out (TraceOf (release gs))
release_phased out gs more all none =
    let apart = ways_apart out (granted_of gs) (returned_of gs) all none in
    let up = of_way out true (granted_of gs) all in
    let down = of_way out false (returned_of gs) none in
    release_in_phases gs apart more out up down
