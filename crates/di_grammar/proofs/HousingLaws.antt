-- The ninth rule is kept exactly where nothing breaks it.
use Rattle.std.proofs.Common.{◌≡◌, ◌⊎◌, inl, inr, ◌↔◌, ℕ, ◌+◌, Bool, true, false, true≢false, List, [], ◌∷◌, Some, refl, sym, ap, ◌∙◌, subst}
use Rattle.cmd_tree.specs.declared.tree.Mark.{Mark}
use Rattle.cmd_tree.specs.declared.tree.Proc.{Proc}
use Rattle.cmd_tree.specs.Limits.{marks_of_proc}
use Rattle.cmd_tree.specs.Lists.{is_in}
use Rattle.cmd_tree.specs.Marks.{output}
use Rattle.cmd_tree.specs.Meaning.{symbols}
use Rattle.di_grammar.specs.declared.breach.Breach.{Breach}
use Rattle.di_grammar.specs.declared.spots.Spot.{Spot}
use Rattle.di_grammar.specs.Lists.{Within}
use Rattle.di_grammar.specs.Grants.{Gift, Grants}
use Rattle.di_grammar.specs.Homes.{HasHome, IsElsewhere, KeepsHomes, GrantedElsewhere, Homeless, BreaksHomes}
use Rattle.di_grammar.specs.Spots.{spots_from, spots_in, first_mark, Numbered}
use Rattle.di_grammar.specs.Mirror.Homes.{kind_spots, stands_in}
use Rattle.di_grammar.proofs.Seeing.{first_there_is}
use Rattle.di_grammar.proofs.HousingKinds.{home_stands, stands_home, symbol_stands, stands_symbol}
use Rattle.di_grammar.proofs.HousingFirsts.{gift_mark}
use Rattle.di_grammar.proofs.Lists.{within_first, within_more, within_cons, none_within, each_within, each_all}

mark_spot : (q k : ℕ) (ms : List Mark) (m : Mark) → Within ms m
    → (s : Spot) × Within (spots_from q k ms) s × (s.mark ≡ m)
mark_spot q k [] m w = absurd (none_within m w)
mark_spot q k (x ∷ ms) m w = elim (within_cons x ms m w) [
  | inl e ↦ (record { process = q; place = k; mark = x }, within_first _ (spots_from q (k + 1) ms), sym e)
  | inr v ↦ let r = mark_spot q (k + 1) ms m v in (r.0, within_more _ r.0 (spots_from q (k + 1) ms) r.1, r.2)
]

-- a gift has a first mark in its grant
gift_first : (q : ℕ) (p : Proc) (gs : List Gift) (g : Gift) → Grants p gs → Within gs g
    → (f : Spot) × (first_mark g.symbol (spots_in q p) ≡ Some f)
gift_first q p gs g grants w =
    let s = mark_spot q 1 (marks_of_proc p) (output g.symbol) (gift_mark p gs g grants w) in
    let f = first_there_is (spots_in q p) s.0 s.1 in
    (f.0, ap (λ (m : Mark). first_mark m.sym.0 (spots_in q p)) (sym s.2) ∙ f.1)

kept : (ps : List Proc) (b : Breach) → KeepsHomes ps → BreaksHomes ps b → ⊥
kept ps b keeps h =
    let both = each_within (λ g. HasHome ps g.symbol × (IsElsewhere ps b.process g.symbol → ⊥)) h.gifts h.gift (keeps b.process h.grant h.gifts h.numbered h.grants) h.within in
    elim h.broken [
      | inl g ↦ both.1 (record {
        number = b.other_process;
        grant = g.grant;
        numbered = g.numbered;
        other = g.other;
        grants = g.grants;
        stands = subst (λ (a : ℕ). is_in a (symbols (marks_of_proc g.grant)) ≡ true) g.same (symbol_stands b.other_process 1 (marks_of_proc g.grant) g.mark g.within);
      })
      | inr n ↦ n.no_home both.0
    ]

unbroken : (ps : List Proc) → ((b : Breach) → BreaksHomes ps b → ⊥) → (q : ℕ) (p : Proc) (gs : List Gift)
    → Numbered ps q p → Grants p gs → (g : Gift) → Within gs g
    → HasHome ps g.symbol × (IsElsewhere ps q g.symbol → ⊥)
unbroken ps none q p gs numbered grants g w = (home (stands_in g.symbol (kind_spots false 1 ps)) refl, other) where
  first : (f : Spot) × (first_mark g.symbol (spots_in q p) ≡ Some f)
  first = gift_first q p gs g grants w

  breaks : (b : Breach) → b.process ≡ q → b.place ≡ first.0.place
      → GrantedElsewhere ps g.symbol b ⊎ Homeless ps g.symbol b → BreaksHomes ps b
  breaks b e f broken = record {
    grant = p;
    numbered = subst (λ (n : ℕ). Numbered ps n p) (sym e) numbered;
    gifts = gs;
    grants = grants;
    gift = g;
    within = w;
    mark = first.0;
    is_first = ap (λ (n : ℕ). first_mark g.symbol (spots_in n p)) e ∙ first.1;
    place = f;
    broken = broken;
  }

  home : (b : Bool) → stands_in g.symbol (kind_spots false 1 ps) ≡ b → HasHome ps g.symbol
  home true e = stands_home ps g.symbol e
  home false e = absurd (none (record { process = q; place = first.0.place; case = 1; other_process = q; other = first.0.place })
      (breaks (record { process = q; place = first.0.place; case = 1; other_process = q; other = first.0.place }) refl refl
      (inr (record {
        no_home = λ h. true≢false (sym (home_stands ps g.symbol h)
            ∙ e);
        same_process = refl;
        same_place = refl;
        case = refl;
      }))))

  other : IsElsewhere ps q g.symbol → ⊥
  other e =
      let s = stands_symbol e.number 1 (marks_of_proc e.grant) g.symbol e.stands in
      let b : Breach = record { process = q; place = first.0.place; case = 0; other_process = e.number; other = s.0.place } in
      none b (breaks b refl refl (inl (record {
        grant = e.grant;
        numbered = e.numbered;
        other = e.other;
        grants = e.grants;
        mark = s.0;
        within = s.1;
        same = s.2;
        place = refl;
        case = refl;
      })))

pub keeps_homes : (ps : List Proc) → KeepsHomes ps ↔ ((b : Breach) → BreaksHomes ps b → ⊥)
keeps_homes ps = (
  λ keeps b h. kept ps b keeps h,
  λ none q p gs numbered grants. each_all (λ g. HasHome ps g.symbol × (IsElsewhere ps q g.symbol → ⊥)) gs (unbroken ps none q p gs numbered grants),
)
