-- The legs of each process of an admitted command are lawful.
use Rattle.std.proofs.Common.{◌≡◌, inl, inr, ⊎_elim, ◌↔◌, ℕ, ◌+◌, ◌≤◌, Bool, true, false, true≢false, nat_eq, if◌then◌else◌, List, [], ◌∷◌, ◌++◌, IsTrue, refl, sym, subst, arith}
use Rattle.std.specs.Prelude.{is_some}
use Rattle.std.specs.List.{AllByRecursion}
use Rattle.cmd_tree.specs.declared.tree.Mark.{Mark}
use Rattle.cmd_tree.specs.declared.tree.Proc.{Proc}
use Rattle.cmd_tree.specs.Tree.{Then, places_of}
use Rattle.cmd_tree.specs.Limits.{IsProc}
use Rattle.cmd_tree.specs.Marks.{input, output}
use Rattle.cmd_tree.specs.Meaning.{symbols}
use Rattle.process_laws.specs.GrantForms.{Giving, single, lone, gifts, loans, plain, release}
use Rattle.di_grammar.specs.Lists.{Each, Within}
use Rattle.di_grammar.specs.Grants.{IsGrant, GrantsPlainly, GrantsWithRelease}
use Rattle.di_grammar.specs.Admitted.{Admitted}
use Rattle.di_grammar.specs.Outputs.{out_of}
use Rattle.di_grammar.specs.Mirror.Found.{found}
use Rattle.di_grammar.proofs.Forms.{grant_is}
use Rattle.di_grammar.proofs.FairnessLists.{each_at, each_of, all_each}
use Rattle.place_graph.specs.declared.leg.Leg.{Leg}
use Rattle.place_graph.specs.Apart.{HasApart}
use Rattle.place_graph.specs.Chart.{Chart}
use Rattle.place_graph.specs.Points.{Among, legs_among, legs}
use Rattle.place_graph.specs.Tale.{times}
use Rattle.place_graph.proofs.Admission.{Other, charts, aparts}
use Rattle.place_graph.proofs.Charted.{legs_increase, leg_apart}
use Rattle.cmd_machine.specs.Lawful.{Lawful}

-- ---- the bursts of a grant are single

abbrev Single : Leg → Type 0
Single l = (m : Mark) × (l.marks ≡ m ∷ [])

gifts_single : (k : ℕ) (ps : List ℕ) (at later : ℕ) (l : Leg) → Among (legs_among k (gifts ps) at later) l
    → Single l
gifts_single k [] at later l h = absurd h
gifts_single k (p ∷ ps) at later l h = ⊎_elim
    (λ e. subst Single e (output p, refl))
    (λ r. gifts_single (k + places_of (lone (single (output p)))) ps at later l r)
    h

loans_single : (k : ℕ) (gs : List Giving) (at later : ℕ) (l : Leg) → Among (legs_among k (loans gs) at later) l
    → Single l
loans_single k [] at later l h = absurd h
loans_single k (g ∷ gs) at later l h = ⊎_elim
    (λ e. subst Single e (output g.granted, refl))
    (λ r. ⊎_elim
    (λ e. subst Single e (input g.returned, refl))
    (λ s. loans_single (k + places_of (Then (single (output g.granted)) (lone (single (input g.returned))))) gs at later l s)
    r)
    h

among_front : (L : List Leg) (l : Leg) → Among (L ++ []) l → Among L l
among_front [] l h = h
among_front (m ∷ L) l h = ⊎_elim (λ e. inl e) (λ r. inr (among_front L l r)) h

plain_single : (n : ℕ) (ps : List ℕ) (l : Leg) → Among (legs (plain n ps)) l → Single l
plain_single n ps l h = ⊎_elim
    (λ e. subst Single e (input n, refl))
    (λ r. gifts_single _ ps _ _ l (among_front _ l r))
    h

release_single : (gs : List Giving) (l : Leg) → Among (legs (release gs)) l → Single l
release_single gs l h = loans_single _ gs _ _ l (among_front _ l h)

grant_single : (p : Proc) → IsGrant p → (l : Leg) → Among (legs p) l → Single l
grant_single p (gs, g) l h = ⊎_elim
    (λ (k : GrantsPlainly p gs). plain_single k.asks k.symbols l (subst (λ q. Among (legs q) l) k.is h))
    (λ (k : GrantsWithRelease p gs). release_single k.givings l (subst (λ q. Among (legs q) l) k.is h))
    g

single_few : (l : Leg) (a : ℕ) → Single l → times a (symbols l.marks) ≤ 1
single_few l a (m, e) = subst (λ ms. times a (symbols ms) ≤ 1) (sym e) (by (nat_eq a m.sym.0))
  where
    by : (b : Bool) → (if b then 1 else 0) + 0 ≤ 1
    by true = omega arith
    by false = omega arith

-- ---- the law

module _ (ps : List Proc) (shaped : AllByRecursion IsProc ps) (admitted : Admitted ps) where
  each_once : (p : Proc) → Within ps p → (l : Leg) (a : ℕ) → Among (legs p) l → times a (symbols l.marks) ≤ 1
  each_once p w l a h = by (is_some (found p.lead p.body)) (grant_is p (found p.lead p.body) refl)
    where
      by : (b : Bool) → (IsTrue b ↔ IsGrant p) → times a (symbols l.marks) ≤ 1
      by true k = single_few l a (grant_single p (k.0 refl) l h)
      by false k =
          let chart : Chart (legs p) (out_of ps) = each_at (Other ps admitted (λ q. Chart (legs q) (out_of ps))) ps p
          (charts ps admitted shaped) w (λ g. true≢false (sym (k.1 g))) in
          chart.few l a h

  pub lawful_legs : Each (λ p. Lawful (legs p)) ps
  lawful_legs = each_of (λ p. Lawful (legs p)) ps (λ p w.
      let whole : IsProc p = each_at IsProc ps p (all_each IsProc ps shaped) w in
      let apart : HasApart p = each_at HasApart ps p (aparts ps admitted shaped) w in
      record {
        few = each_once p w;
        one = leg_apart (λ a. false) p whole apart;
        increase = legs_increase (λ a. false) p whole;
      })
