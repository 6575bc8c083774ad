-- Against which mark a granted symbol breaks the ninth rule.
use Rattle.std.proofs.Common.{◌≡◌, inl, inr, ℕ, true, false, true≢false, List, Some, None, refl, sym, ap, ◌∙◌, arith}
use Rattle.cmd_tree.specs.declared.tree.Proc.{Proc}
use Rattle.di_grammar.specs.declared.breach.Breach.{Breach}
use Rattle.di_grammar.specs.declared.spots.Spot.{Spot}
use Rattle.di_grammar.specs.Lists.{Within}
use Rattle.di_grammar.specs.Breaches.{Earlier, FirstOf}
use Rattle.di_grammar.specs.Homes.{GrantedElsewhere}
use Rattle.di_grammar.specs.Mirror.Homes.{is_elsewhere, other_mark, kind_spots, stands_in, BreaksAt}
use Rattle.di_grammar.proofs.Housing.{such_is, such_none, such_least, elsewhere_is, is_there}
use Rattle.di_grammar.proofs.HousingKinds.{found_true, true_found, at_numbered, numbered_at, in_process, marked, marks, Sooner, kind_rise, home_stands, stands_home}

-- the mark in another grant
granted_within : (ps : List Proc) (a : ℕ) (b : Breach) (g : GrantedElsewhere ps a b)
    → Within (kind_spots true 1 ps) g.mark
granted_within ps a b g = marks true 1 ps b.other_process g.grant g.mark (numbered_at ps b.other_process g.grant g.numbered) (found_true g.grant g.grants) g.within

granted_there : (ps : List Proc) (q a : ℕ) (b : Breach) (g : GrantedElsewhere ps a b) → b.process ≡ q
    → is_elsewhere a q g.mark ≡ true
granted_there ps q a b g e = is_there a q g.mark g.same (λ p. g.other (sym (in_process b.other_process g.grant g.mark g.within) ∙ p ∙ sym e))

pub not_granted : (ps : List Proc) (q a : ℕ) (b : Breach) → other_mark a q (kind_spots true 1 ps) ≡ None
    → b.process ≡ q → GrantedElsewhere ps a b → ⊥
not_granted ps q a b none e g = such_none (is_elsewhere a q) (kind_spots true 1 ps) g.mark none (granted_within ps a b g) (granted_there ps q a b g e)

soon : (s t : Spot) (b : Breach) (q k : ℕ) → Sooner s t → t.process ≡ b.other_process → b.other ≡ t.place
    → b.process ≡ q → b.place ≡ k → b.case ≡ 0
    → Earlier b (record { process = q; place = k; case = 0; other_process = s.process; other = s.place }) → ⊥
soon s t b q k h e f m n z early = omega (arith, h, e, f, m, n, z, early)

-- the first one is told of
pub one_elsewhere : (ps : List Proc) (q k a : ℕ) (t : Spot) → other_mark a q (kind_spots true 1 ps) ≡ Some t
    → FirstOf (BreaksAt ps q k a) (Some (record { process = q; place = k; case = 0; other_process = t.process; other = t.place }))
one_elsewhere ps q k a t e = (broken, least) where
  such : (is_elsewhere a q t ≡ true) × Within (kind_spots true 1 ps) t
  such = such_is (is_elsewhere a q) (kind_spots true 1 ps) t e

  broken : BreaksAt ps q k a (record { process = q; place = k; case = 0; other_process = t.process; other = t.place })
  broken =
      let there = elsewhere_is a q t such.0 in
      let m = marked true 1 ps t such.1 in
      record {
        process = refl;
        place = refl;
        broken = inl (record {
          grant = m.proc;
          numbered = at_numbered ps t.process m.proc m.at;
          other = there.1;
          grants = true_found m.proc m.kind_is;
          mark = t;
          within = m.within;
          same = there.0;
          place = refl;
          case = refl;
        });
      }

  least : (c : Breach) → BreaksAt ps q k a c
      → Earlier c (record { process = q; place = k; case = 0; other_process = t.process; other = t.place })
      → ⊥
  least c b early = elim b.broken [
    | inl g ↦
        let process = in_process c.other_process g.grant g.mark g.within in
        elim (such_least Sooner (is_elsewhere a q) (kind_spots true 1 ps) t g.mark (kind_rise true 1 ps) e (granted_within ps a c g) (granted_there ps q a c g b.process)) [
          | inl is ↦ omega (arith, early, b.process, b.place, g.case, process, g.place, ap (λ (x : Spot). x.process) is, ap (λ (x : Spot). x.place) is)
          | inr s ↦ soon t g.mark c q k s process g.place b.process b.place g.case early
        ]
    | inr h ↦ omega (arith, early, b.process, b.place, h.case)
  ]

pub none_broken : (ps : List Proc) (q k a : ℕ) → other_mark a q (kind_spots true 1 ps) ≡ None
    → stands_in a (kind_spots false 1 ps) ≡ true → FirstOf (BreaksAt ps q k a) None
none_broken ps q k a none home c b = elim b.broken [
  | inl g ↦ not_granted ps q a c none b.process g
  | inr h ↦ h.no_home (stands_home ps a home)
]

pub one_homeless : (ps : List Proc) (q k a : ℕ) → other_mark a q (kind_spots true 1 ps) ≡ None
    → stands_in a (kind_spots false 1 ps) ≡ false
    → FirstOf (BreaksAt ps q k a) (Some (record { process = q; place = k; case = 1; other_process = q; other = k }))
one_homeless ps q k a none home = (
  record {
    process = refl;
    place = refl;
    broken = inr (record {
      no_home = λ h. true≢false (sym (home_stands ps a h)
          ∙ home);
      same_process = refl;
      same_place = refl;
      case = refl;
    });
  },
  λ c b early. elim b.broken [
    | inl g ↦ not_granted ps q a c none b.process g
    | inr h ↦ omega (arith, early, b.process, b.place, h.case, h.same_process, h.same_place)
  ],
)
