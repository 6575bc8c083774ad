-- A symbol that a grant gives stands first where it is granted.
use Rattle.std.proofs.Common.{◌≡◌, ◌≢◌, inl, inr, ℕ, ◌+◌, List, [], ◌∷◌, ◌++◌, Option, Some, refl, sym, ap, ◌∙◌, subst, arith}
use Rattle.std.proofs.lemmas.List.{append-nil}
use Rattle.cmd_tree.specs.declared.tree.Dir.TheVariants.{Input, Output}
use Rattle.cmd_tree.specs.declared.tree.Mark.{Mark}
use Rattle.cmd_tree.specs.declared.tree.Proc.{Proc}
use Rattle.cmd_tree.specs.Tree.{marks_among}
use Rattle.cmd_tree.specs.Limits.{marks_of_proc, marks_of_all}
use Rattle.cmd_tree.specs.Marks.{input, output}
use Rattle.process_laws.specs.GrantForms.{Giving, gifts, loans, plain, release, granted_of}
use Rattle.di_grammar.specs.declared.breach.Breach.{Breach}
use Rattle.di_grammar.specs.declared.spots.Spot.{Spot}
use Rattle.di_grammar.specs.Lists.{Each, EachTwo, Within}
use Rattle.di_grammar.specs.Breaches.{FirstOf}
use Rattle.di_grammar.specs.Directions.{KeepsDirections}
use Rattle.di_grammar.specs.Granted.{KeepsGranted}
use Rattle.di_grammar.specs.Grants.{Gift, gifts_from, Grants}
use Rattle.di_grammar.specs.Homes.{BreaksHomes}
use Rattle.di_grammar.specs.Spots.{spots_from, spots_in, first_mark, Numbered}
use Rattle.di_grammar.specs.Mirror.Homes.{BreaksAt, BreaksGifts, BreaksGrant, BreaksAmong}
use Rattle.di_grammar.proofs.FirstBreaches.{breach_like}
use Rattle.di_grammar.proofs.FairnessLists.{two_left, two_right}
use Rattle.di_grammar.proofs.Seeing.{first_here, first_there}
use Rattle.di_grammar.proofs.HousingKinds.{At, at_numbered, numbered_at, at_first, at_more, at_cons, at_none}
use Rattle.di_grammar.proofs.Lists.{within_first, within_more, within_cons, none_within, each_within}

-- two marks of a symbol have the same direction
abbrev Agree : Mark → Mark → Type 0
Agree m n = m.sym.0 ≡ n.sym.0 → m.dir ≡ n.dir

abbrev Differ : Gift → Gift → Type 0
Differ g h = g.symbol ≢ h.symbol

abbrev IsFirst : ℕ → List Spot → Gift → Type 0
IsFirst q ss g = first_mark g.symbol ss ≡ Some (record { process = q; place = g.place; mark = output g.symbol })

input_output : Input ≡ Output → ⊥
input_output e = cc

-- where the symbol is the first gift
here_first : (q k a : ℕ) (ss : List Spot) (g : Gift) → g ≡ record { place = k; symbol = a }
    → IsFirst q (record { process = q; place = k; mark = output a } ∷ ss) g
here_first q k a ss g e = subst (IsFirst q (record { process = q; place = k; mark = output a } ∷ ss)) (sym e)
    (first_here a (record { process = q; place = k; mark = output a }) ss refl)

-- among pref*[n?;(p1!|..|pk!)]
given_first : (q k : ℕ) (ps : List ℕ) (g : Gift) → EachTwo Differ (gifts_from k 1 ps)
    → Within (gifts_from k 1 ps) g → IsFirst q (spots_from q k (marks_among (gifts ps))) g
given_first q k [] g two w = absurd (none_within g w)
given_first q k (p ∷ ps) g two w = elim (within_cons (record { place = k; symbol = p }) (gifts_from (k + 1) 1 ps) g w) [
  | inl e ↦ here_first q k p (spots_from q (k + 1) (marks_among (gifts ps))) g e
  | inr v ↦ first_there g.symbol (record { process = q; place = k; mark = output p }) (spots_from q (k + 1) (marks_among (gifts ps)))
      (each_within (Differ (record { place = k; symbol = p })) (gifts_from (k + 1) 1 ps) g two.0 v)
      ∙ given_first q (k + 1) ps g two.1 v
]

given_mark : (k : ℕ) (ps : List ℕ) (g : Gift) → Within (gifts_from k 1 ps) g
    → Within (marks_among (gifts ps)) (output g.symbol)
given_mark k [] g w = absurd (none_within g w)
given_mark k (p ∷ ps) g w = elim (within_cons (record { place = k; symbol = p }) (gifts_from (k + 1) 1 ps) g w) [
  | inl e ↦ subst (λ (h : Gift). Within (marks_among (gifts (p ∷ ps))) (output h.symbol)) (sym e) (within_first (output p) (marks_among (gifts ps)))
  | inr v ↦ within_more (output p) (output g.symbol) (marks_among (gifts ps)) (given_mark (k + 1) ps g v)
]

-- among pref*[p1!;d1?|..|pk!;dk?]
lent_mark : (k : ℕ) (gs : List Giving) (g : Gift) → Within (gifts_from k 2 (granted_of gs)) g
    → Within (marks_among (loans gs)) (output g.symbol)
lent_mark k [] g w = absurd (none_within g w)
lent_mark k (x ∷ gs) g w = elim (within_cons (record { place = k; symbol = x.granted }) (gifts_from (k + 2) 2 (granted_of gs)) g w) [
  | inl e ↦ subst (λ (h : Gift). Within (marks_among (loans (x ∷ gs))) (output h.symbol)) (sym e)
      (within_first (output x.granted) (input x.returned ∷ marks_among (loans gs)))
  | inr v ↦ within_more (output x.granted) (output g.symbol) (input x.returned ∷ marks_among (loans gs))
      (within_more (input x.returned) (output g.symbol) (marks_among (loans gs)) (lent_mark (k + 2) gs g v))
]

lent_first : (q k : ℕ) (gs : List Giving) (g : Gift) → EachTwo Differ (gifts_from k 2 (granted_of gs))
    → EachTwo Agree (marks_among (loans gs))
    → Within (gifts_from k 2 (granted_of gs)) g → IsFirst q (spots_from q k (marks_among (loans gs))) g
lent_first q k [] g two agree w = absurd (none_within g w)
lent_first q k (x ∷ gs) g two agree w = elim (within_cons (record { place = k; symbol = x.granted }) (gifts_from (k + 2) 2 (granted_of gs)) g w) [
  | inl e ↦ here_first q k x.granted (record { process = q; place = k + 1; mark = input x.returned } ∷ spots_from q (k + 1 + 1) (marks_among (loans gs))) g e
  | inr v ↦ later v (lent_first q (k + 2) gs g two.1 agree.1.1 v)
] where
  returned : Within (gifts_from (k + 2) 2 (granted_of gs)) g → x.returned ≡ g.symbol → ⊥
  returned v e = input_output (each_within (Agree (input x.returned)) (marks_among (loans gs)) (output g.symbol) agree.1.0 (lent_mark (k + 2) gs g v) e)

  later : Within (gifts_from (k + 2) 2 (granted_of gs)) g
      → IsFirst q (spots_from q (k + 2) (marks_among (loans gs))) g
      → IsFirst q (spots_from q k (marks_among (loans (x ∷ gs)))) g
  later v rest =
      let more : k + 2 ≡ k + 1 + 1 = omega arith in
      first_there g.symbol (record { process = q; place = k; mark = output x.granted })
      (record { process = q; place = k + 1; mark = input x.returned } ∷ spots_from q (k + 1 + 1) (marks_among (loans gs)))
      (each_within (Differ (record { place = k; symbol = x.granted })) (gifts_from (k + 2) 2 (granted_of gs)) g two.0 v)
      ∙ first_there g.symbol (record { process = q; place = k + 1; mark = input x.returned }) (spots_from q (k + 1 + 1) (marks_among (loans gs))) (returned v)
      ∙ subst (λ (n : ℕ). IsFirst q (spots_from q n (marks_among (loans gs))) g) more rest

plain_marks : (n : ℕ) (ps : List ℕ) → marks_of_proc (plain n ps) ≡ input n ∷ marks_among (gifts ps)
plain_marks n ps = ap (λ (ms : List Mark). input n ∷ ms) (append-nil (marks_among (gifts ps)))

release_marks : (gs : List Giving) → marks_of_proc (release gs) ≡ marks_among (loans gs)
release_marks gs = append-nil (marks_among (loans gs))

plain_first : (q n : ℕ) (ps : List ℕ) (g : Gift) → EachTwo Differ (gifts_from 2 1 ps)
    → EachTwo Agree (input n ∷ marks_among (gifts ps)) → Within (gifts_from 2 1 ps) g
    → IsFirst q (spots_from q 1 (input n ∷ marks_among (gifts ps))) g
plain_first q n ps g two agree w =
    first_there g.symbol (record { process = q; place = 1; mark = input n }) (spots_from q 2 (marks_among (gifts ps)))
    (λ e. input_output (each_within (Agree (input n)) (marks_among (gifts ps)) (output g.symbol) agree.0 (given_mark 2 ps g w) e))
    ∙ given_first q 2 ps g two w

-- the gift stands first where it is granted
granted_first : (q : ℕ) (p : Proc) (gs : List Gift) (g : Gift) → Grants p gs → EachTwo Differ gs
    → EachTwo Agree (marks_of_proc p) → Within gs g
    → IsFirst q (spots_in q p) g
granted_first q p gs g (inl h) two agree w =
    let is : marks_of_proc p ≡ input h.asks ∷ marks_among (gifts h.symbols) = ap marks_of_proc h.is
    ∙ plain_marks h.asks h.symbols in
    subst (λ (ms : List Mark). IsFirst q (spots_from q 1 ms) g) (sym is)
    (plain_first q h.asks h.symbols g (subst (EachTwo Differ) h.gives two) (subst (EachTwo Agree) is agree) (subst (λ (xs : List Gift). Within xs g) h.gives w))
granted_first q p gs g (inr h) two agree w =
    let is : marks_of_proc p ≡ marks_among (loans h.givings) = ap marks_of_proc h.is
    ∙ release_marks h.givings in
    subst (λ (ms : List Mark). IsFirst q (spots_from q 1 ms) g) (sym is)
    (lent_first q 1 h.givings g (subst (EachTwo Differ) h.gives two) (subst (EachTwo Agree) is agree) (subst (λ (xs : List Gift). Within xs g) h.gives w))

-- a gift is a mark of its grant
pub gift_mark : (p : Proc) (gs : List Gift) (g : Gift) → Grants p gs → Within gs g
    → Within (marks_of_proc p) (output g.symbol)
gift_mark p gs g (inl h) w =
    let is : marks_of_proc p ≡ input h.asks ∷ marks_among (gifts h.symbols) = ap marks_of_proc h.is
    ∙ plain_marks h.asks h.symbols in
    subst (λ (ms : List Mark). Within ms (output g.symbol)) (sym is)
    (within_more (input h.asks) (output g.symbol) (marks_among (gifts h.symbols)) (given_mark 2 h.symbols g (subst (λ (xs : List Gift). Within xs g) h.gives w)))
gift_mark p gs g (inr h) w =
    let is : marks_of_proc p ≡ marks_among (loans h.givings) = ap marks_of_proc h.is
    ∙ release_marks h.givings in
    subst (λ (ms : List Mark). Within ms (output g.symbol)) (sym is) (lent_mark 1 h.givings g (subst (λ (xs : List Gift). Within xs g) h.gives w))

-- ---- so what breaks the rule by a gift breaks it by a first mark

-- one of the gifts
pub record GiftBreaks (ps : List Proc) (q : ℕ) (gs : List Gift) (b : Breach) : Type 0 where
  pub gift : Gift
  pub within : Within gs gift
  pub broken : BreaksAt ps q gift.place gift.symbol b

gift_breaks : (ps : List Proc) (q : ℕ) (gs : List Gift) (b : Breach) → BreaksGifts ps q gs b
    → GiftBreaks ps q gs b
gift_breaks ps q [] b h = absurd h
gift_breaks ps q (g ∷ gs) b (inl h) = record { gift = g; within = within_first g gs; broken = h }
gift_breaks ps q (g ∷ gs) b (inr h) = let r = gift_breaks ps q gs b h in record { gift = r.gift; within = within_more g r.gift gs r.within; broken = r.broken }

breaks_gift : (ps : List Proc) (q : ℕ) (gs : List Gift) (b : Breach) (g : Gift) → Within gs g
    → BreaksAt ps q g.place g.symbol b → BreaksGifts ps q gs b
breaks_gift ps q [] b g w h = absurd (none_within g w)
breaks_gift ps q (f ∷ gs) b g w h = elim (within_cons f gs g w) [
  | inl e ↦ inl (subst (λ (x : Gift). BreaksAt ps q x.place x.symbol b) e h)
  | inr v ↦ inr (breaks_gift ps q gs b g v h)
]

-- a grant at its number
record GrantBreaks (ps : List Proc) (k : ℕ) (rs : List Proc) (b : Breach) : Type 0 where
  grant : Proc
  at : At k rs b.process grant
  broken : BreaksGrant ps b.process grant b

grant_number : (ps : List Proc) (q : ℕ) (p : Proc) (b : Breach) → BreaksGrant ps q p b → b.process ≡ q
grant_number ps q p b h = (gift_breaks ps q h.gifts b h.broken).broken.process

grant_among : (ps : List Proc) (k : ℕ) (rs : List Proc) (b : Breach) → BreaksAmong ps k rs b
    → GrantBreaks ps k rs b
grant_among ps k [] b h = absurd h
grant_among ps k (r ∷ rs) b (inl h) =
    let same = sym (grant_number ps k r b h) in
    record { grant = r; at = subst (λ (n : ℕ). At k (r ∷ rs) n r) same (at_first k r rs); broken = subst (λ (n : ℕ). BreaksGrant ps n r b) same h }
grant_among ps k (r ∷ rs) b (inr h) =
    let g = grant_among ps (k + 1) rs b h in
    record { grant = g.grant; at = at_more k r rs b.process g.grant g.at; broken = g.broken }

among_grant : (ps : List Proc) (k : ℕ) (rs : List Proc) (b : Breach) (p : Proc) → At k rs b.process p
    → BreaksGrant ps b.process p b → BreaksAmong ps k rs b
among_grant ps k [] b p a h = absurd (at_none k b.process p a)
among_grant ps k (r ∷ rs) b p a h = elim (at_cons k r rs b.process p a) [
  | inl e ↦ inl (subst (λ (x : Proc). BreaksGrant ps k x b) e.1 (subst (λ (n : ℕ). BreaksGrant ps n p b) e.0 h))
  | inr s ↦ inr (among_grant ps (k + 1) rs b p s h)
]

proc_agrees : (before after : List Proc) (p : Proc) → EachTwo Agree (marks_of_all (before ++ p ∷ after))
    → EachTwo Agree (marks_of_proc p)
proc_agrees [] after p h = two_left Agree (marks_of_proc p) (marks_of_all after) h
proc_agrees (r ∷ before) after p h = proc_agrees before after p (two_right Agree (marks_of_proc r) (marks_of_all (before ++ p ∷ after)) h)

numbered_first : (ps : List Proc) (q : ℕ) (p : Proc) (gs : List Gift) (g : Gift) → KeepsDirections ps
    → Each KeepsGranted ps → Numbered ps q p → Grants p gs → Within gs g
    → IsFirst q (spots_in q p) g
numbered_first ps q p gs g directions granted n grants w = granted_first q p gs g grants
    (each_within KeepsGranted ps p granted (record { before = n.before; after = n.after; are = n.are }) gs grants)
    (proc_agrees n.before n.after p (subst (λ (xs : List Proc). EachTwo Agree (marks_of_all xs)) n.are directions)) w

breaks_homes : (ps : List Proc) (b : Breach) → KeepsDirections ps → Each KeepsGranted ps
    → BreaksAmong ps 1 ps b → BreaksHomes ps b
breaks_homes ps b directions granted h =
    let g = grant_among ps 1 ps b h in
    let numbered = at_numbered ps b.process g.grant g.at in
    let f = gift_breaks ps b.process g.broken.gifts b g.broken.broken in
    record {
      grant = g.grant;
      numbered = numbered;
      gifts = g.broken.gifts;
      grants = g.broken.grants;
      gift = f.gift;
      within = f.within;
      mark = record { process = b.process; place = f.gift.place; mark = output f.gift.symbol };
      is_first = numbered_first ps b.process g.grant g.broken.gifts f.gift directions granted numbered g.broken.grants f.within;
      place = f.broken.place;
      broken = f.broken.broken;
    }

homes_break : (ps : List Proc) (b : Breach) → KeepsDirections ps → Each KeepsGranted ps → BreaksHomes ps b
    → BreaksAmong ps 1 ps b
homes_break ps b directions granted h =
    let first = numbered_first ps b.process h.grant h.gifts h.gift directions granted h.numbered h.grants h.within in
    let known = h.is_first in
    let same : h.mark ≡ record { process = b.process; place = h.gift.place; mark = output h.gift.symbol } = cc in
    among_grant ps 1 ps b h.grant (numbered_at ps b.process h.grant h.numbered) (record {
      gifts = h.gifts;
      grants = h.grants;
      broken = breaks_gift ps b.process h.gifts b h.gift h.within
          (record { process = refl; place = h.place ∙ ap (λ (s : Spot). s.place) same; broken = h.broken });
    })

pub first_homes : (ps : List Proc) (f : Option Breach) → KeepsDirections ps → Each KeepsGranted ps
    → FirstOf (BreaksAmong ps 1 ps) f → FirstOf (BreaksHomes ps) f
first_homes ps f directions granted first = breach_like (BreaksAmong ps 1 ps) (BreaksHomes ps) f
    (λ b. (breaks_homes ps b directions granted, homes_break ps b directions granted)) first
