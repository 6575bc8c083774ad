-- From the rules one by one to the answer.
use Rattle.std.proofs.Common.{◌≡◌, ◌⊎◌, inl, inr, ◌↔◌, ℕ, zero, suc, ◌+◌, ◌<◌, ◌≤◌, List, [], ◌∷◌, ◌++◌, length, get_or, take, drop, Bool, false, set, Option, Some, None, refl, sym, ap, ◌∙◌, subst, arith}
use Rattle.std.proofs.lemmas.List.{length-take-le, get_or_default, take-append-drop, get_or-set_same, get_or-set_other}
use Rattle.std.specs.Prelude.{if◌then◌else◌, nat_eq, IsTrue}
use Rattle.std.proofs.lemmas.Bool.{cases_lt}
use Rattle.cmd_tree.specs.declared.tree.Proc.{Proc}
use Rattle.cmd_tree.specs.Limits.{marks_of_proc, marks_of_all, IsNumbered, IsCommand, IsProc}
use Rattle.di_grammar.proofs.FairnessLists.{all_each}
use Rattle.cmd_tree.specs.declared.limits.TheConstants.{MAX_SYMBOLS}
use Rattle.cmd_tree.specs.declared.tree.Mark.{Mark}
use Rattle.std.specs.Prelude.{max}
use Rattle.tree_walk.proofs.Walking.{drop_next}
use Rattle.di_grammar.specs.Mirror.Laid.{AreSmall}
use Rattle.di_grammar.specs.declared.breach.Breach.{Breach}
use Rattle.di_grammar.specs.declared.clash.Clash.{Clash}
use Rattle.di_grammar.specs.Lists.{Each, Within}
use Rattle.di_grammar.specs.Spots.{Numbered}
use Rattle.di_grammar.specs.Clashes.{Precedes, First}
use Rattle.di_grammar.specs.Breaches.{Earlier, FirstOf}
use Rattle.di_grammar.specs.Admitted.{InProcess, Breaks, BreaksLocally, Keeps, Admitted, IsBroken, Answer, number_of}
use Rattle.di_grammar.specs.declared.answer.Rule.{Rule}
use Rattle.di_grammar.specs.declared.answer.Rule.TheVariants.{Bursts, Neighbours, Rounds, Choices, Twins, Overlaps, Directions, Granted, Homes}
use Rattle.di_grammar.specs.declared.answer.Broken.{Broken}
use Rattle.di_grammar.specs.EvenBursts.{KeepsBursts, BreaksBursts}
use Rattle.di_grammar.specs.Grants.{IsGrant}
use Rattle.di_grammar.specs.Mirror.Answering.{EarlierKept, AreFew}
use Rattle.di_grammar.specs.Alternation.{KeepsNeighbours, BreaksNeighbours, KeepsRounds, BreaksRounds}
use Rattle.di_grammar.specs.Choices.{KeepsChoices, BreaksChoices}
use Rattle.di_grammar.specs.Twins.{KeepsTwins, BreaksTwins}
use Rattle.di_grammar.specs.Overlaps.{KeepsOverlaps, BreaksOverlaps}
use Rattle.di_grammar.specs.Granted.{KeepsGranted, BreaksGranted}
use Rattle.di_grammar.proofs.FirstBreaches.{breach_one}
use Rattle.di_grammar.proofs.UnevenSteps.{keeps_bursts}
use Rattle.di_grammar.proofs.Alternating.{keeps_neighbours, keeps_rounds}
use Rattle.di_grammar.proofs.Choosing.{keeps_choices}
use Rattle.di_grammar.proofs.OverlapSteps.{keeps_overlaps}
use Rattle.di_grammar.proofs.GrantedSteps.{keeps_granted}
use Rattle.di_grammar.proofs.Alternatives.{keeps_twins}
use Rattle.di_grammar.proofs.Turning.{keeps_directions}
use Rattle.di_grammar.proofs.HousingLaws.{keeps_homes}
use Rattle.di_grammar.proofs.Lists.{each_front, each_back, each_within, each_all}

at_middle : {A : Type 0} (xs ys : List A) (x d : A) → get_or (xs ++ x ∷ ys) (length xs) d ≡ x
at_middle [] ys x d = refl
at_middle (z ∷ xs) ys x d = at_middle xs ys x d

length_middle : {A : Type 0} (xs ys : List A) (x : A) → length xs < length (xs ++ x ∷ ys)
length_middle [] ys x = omega arith
length_middle (z ∷ xs) ys x = omega (arith, length_middle xs ys x)

-- the process of number q stands at the index below q
pub record Stands (ps : List Proc) (q : ℕ) (p : Proc) : Type 0 where
  pub index : ℕ
  pub number : q ≡ index + 1
  pub below : index < length ps
  pub is : p ≡ get_or ps index p

pub numbered_stands : (ps : List Proc) (q : ℕ) (p : Proc) → Numbered ps q p → Stands ps q p
numbered_stands ps q p n = record {
  index = length n.before;
  number = n.number;
  below = subst (λ (qs : List Proc). length n.before < length qs) (sym n.are) (length_middle n.before n.after p);
  is = sym (ap (λ (qs : List Proc). get_or qs (length n.before) p) n.are ∙ at_middle n.before n.after p p);
}

pub stands_numbered : (ps : List Proc) (i : ℕ) (p : Proc) → i < length ps → p ≡ get_or ps i p → Numbered ps (i + 1) p
stands_numbered ps i p h is = record {
  before = take i ps;
  after = drop (i + 1) ps;
  are = sym (take-append-drop i ps) ∙ ap (λ (qs : List Proc). take i ps ++ qs) (drop_next ps i p h is);
  number = ap (λ (n : ℕ). n + 1) (sym (length-take-le i ps (omega arith)));
}

get_same : (ps : List Proc) (i : ℕ) (d e : Proc) → i < length ps → get_or ps i d ≡ get_or ps i e
get_same ps i d e h = get_or_default ps i d e h

not_later : {X : Type 0} (a i n : ℕ) → a ≡ i + 1 → n ≤ i → (a < n + 1) ⊎ ((a ≡ n + 1) × X) → i ≡ n
not_later a i n e g (inl l) = absurd (omega arith)
not_later a i n e g (inr p) = omega (arith, p.0)

-- the processes before an index do not break the rule
abbrev pub CleanBelow : (Proc → Clash → Type 0) → List Proc → ℕ → Type 0
CleanBelow R ps n = (i : ℕ) (p : Proc) → i < n → p ≡ get_or ps i p → (c : Clash) → R p c → ⊥

pub clean_all : (R : Proc → Clash → Type 0) (ps : List Proc) (n : ℕ) → length ps ≤ n → CleanBelow R ps n → FirstOf (InProcess R ps) None
clean_all R ps n h clean b broken =
    let s = numbered_stands ps b.process broken.process broken.numbered in
    clean s.index broken.process (omega (arith, s.below)) s.is _ broken.breaks

precedes_from : (b c : Breach) → c.process ≡ b.process → c.other_process ≡ b.other_process → Earlier c b
    → Precedes (record { place = c.place; case = c.case; other = c.other }) (record { place = b.place; case = b.case; other = b.other })
precedes_from b c e o (inl l) = absurd (omega arith)
precedes_from b c e o (inr (p, inl l)) = inl l
precedes_from b c e o (inr (p, inr (q, inl l))) = inr (q, inl l)
precedes_from b c e o (inr (p, inr (q, inr (r, inl l)))) = absurd (omega arith)
precedes_from b c e o (inr (p, inr (q, inr (r, inr (s, l))))) = inr (q, inr (r, l))

abbrev found_at : ℕ → Clash → Breach
found_at n c = record { process = n + 1; place = c.place; case = c.case; other_process = n + 1; other = c.other }

later_not : (R : Proc → Clash → Type 0) (ps : List Proc) (n : ℕ) (p : Proc) (c : Clash) → n < length ps → p ≡ get_or ps n p → First (R p) (Some c)
    → (d : Breach) (broken : InProcess R ps d) → Earlier d (found_at n c) → (s : Stands ps d.process broken.process) → n ≤ s.index → ⊥
later_not R ps n p c h is first d broken early s g =
    let number = s.number in
    let same : s.index ≡ n = not_later d.process s.index n number g early in
    let one : broken.process ≡ p = s.is ∙ ap (λ (k : ℕ). get_or ps k broken.process) same ∙ get_same ps n broken.process p h ∙ sym is in
    let process : d.process ≡ n + 1 = omega (arith, number, same) in
    first.1 _ (subst (λ (x : Proc). R x (record { place = d.place; case = d.case; other = d.other })) one broken.breaks)
    (precedes_from (found_at n c) d process (broken.same ∙ process) early)

pub first_at : (R : Proc → Clash → Type 0) (ps : List Proc) (n : ℕ) (p : Proc) (c : Clash) → n < length ps → p ≡ get_or ps n p → First (R p) (Some c) → CleanBelow R ps n
    → FirstOf (InProcess R ps) (Some (record { process = n + 1; place = c.place; case = c.case; other_process = n + 1; other = c.other }))
first_at R ps n p c h is first clean = (
  record { process = p; numbered = stands_numbered ps n p h is; breaks = first.0; same = refl },
  λ d broken early.
      let s = numbered_stands ps d.process broken.process broken.numbered in
      elim (cases_lt s.index n) [
        | inl l ↦ clean s.index broken.process l s.is _ broken.breaks
        | inr g ↦ later_not R ps n p c h is first d broken early s g
      ],
)

-- a rule on single processes
pub locally : (r : Rule) (ps : List Proc) → (r ≡ Directions → ⊥) → (r ≡ Homes → ⊥) → (b : Breach) → InProcess (BreaksLocally r) ps b ↔ Breaks r ps b
locally Bursts ps n m b = (λ h. h, λ h. h)
locally Neighbours ps n m b = (λ h. h, λ h. h)
locally Rounds ps n m b = (λ h. h, λ h. h)
locally Choices ps n m b = (λ h. h, λ h. h)
locally Twins ps n m b = (λ h. h, λ h. h)
locally Overlaps ps n m b = (λ h. h, λ h. h)
locally Directions ps n m b = absurd (n refl)
locally Granted ps n m b = (λ h. h, λ h. h)
locally Homes ps n m b = absurd (m refl)

-- a rule on single processes that is kept is kept by each
clash_breach : ℕ → Clash → Breach
clash_breach q c = record { process = q; place = c.place; case = c.case; other_process = q; other = c.other }

pub kept_by_each : (R : Proc → Clash → Type 0) (ps : List Proc) → ((b : Breach) → InProcess R ps b → ⊥) → (q : ℕ) (p : Proc) → Numbered ps q p → (c : Clash) → R p c → ⊥
unfolding clash_breach
kept_by_each R ps kept q p n c h = kept (clash_breach q c) (record { process = p; numbered = n; breaks = h; same = refl })

pub each_keeps : (R : Proc → Clash → Type 0) (ps : List Proc) → Each (λ p. (c : Clash) → R p c → ⊥) ps → (b : Breach) → InProcess R ps b → ⊥
each_keeps R ps each b broken = each_within (λ p. (c : Clash) → R p c → ⊥) ps broken.process each
    (record { before = broken.numbered.before; after = broken.numbered.after; are = broken.numbered.are }) _ broken.breaks

pub even_before : (r : Rule) (ps : List Proc) → EarlierKept r ps → 1 < number_of r → (q : ℕ) (p : Proc) → Numbered ps q p → KeepsBursts p
even_before r ps kept late q p n = (keeps_bursts p).1 (kept_by_each BreaksBursts ps (kept Bursts late) q p n)

pub marked_grants : (table : List Bool) (ps : List Proc) (n : ℕ) (p : Proc) (b : Bool) → n < length table → n < length ps → p ≡ get_or ps n p → IsTrue b ↔ IsGrant p
    → ((i : ℕ) (q : Proc) → i < n → q ≡ get_or ps i q → IsTrue (get_or table i false) ↔ IsGrant q)
    → (i : ℕ) (q : Proc) → i < n + 1 → q ≡ get_or ps i q → IsTrue (get_or (set table n b) i false) ↔ IsGrant q
marked_grants table ps n p b room here is told known i q h at = elim (cases_lt i n) [
  | inl l ↦ subst (λ (x : Bool). IsTrue x ↔ IsGrant q) (sym (get_or-set_other table n i b false (λ e. absurd (omega (arith, e, l))))) (known i q l at)
  | inr g ↦
      let same : i ≡ n = omega arith in
      let one : q ≡ p = at ∙ ap (λ (k : ℕ). get_or ps k q) same ∙ get_same ps n q p here ∙ sym is in
      let mark : get_or (set table n b) i false ≡ b = ap (λ (k : ℕ). get_or (set table n b) k false) same ∙ get_or-set_same table n b false room in
      subst (λ (x : Proc). IsTrue (get_or (set table n b) i false) ↔ IsGrant x) (sym one) (subst (λ (x : Bool). IsTrue x ↔ IsGrant p) (sym mark) told)
]

rule_of : ℕ → Rule
rule_of n = if nat_eq n 1 then Bursts else if nat_eq n 2 then Neighbours else if nat_eq n 3 then Rounds else if nat_eq n 4 then Choices
    else if nat_eq n 5 then Twins else if nat_eq n 6 then Overlaps else if nat_eq n 7 then Directions else if nat_eq n 8 then Granted else Homes

rule_is : (r : Rule) → rule_of (number_of r) ≡ r
unfolding rule_of
rule_is Bursts = refl
rule_is Neighbours = refl
rule_is Rounds = refl
rule_is Choices = refl
rule_is Twins = refl
rule_is Overlaps = refl
rule_is Directions = refl
rule_is Granted = refl
rule_is Homes = refl

number_one : (r s : Rule) → number_of r ≡ number_of s → r ≡ s
number_one r s e = sym (rule_is r) ∙ ap rule_of e ∙ rule_is s

pub small_at : (ps : List Proc) (i : ℕ) (p : Proc) → i < length ps → p ≡ get_or ps i p → AreSmall (marks_of_all ps) → AreSmall (marks_of_proc p)
small_at [] i p h is small = absurd (omega arith)
small_at (q ∷ ps) zero p h is small = subst (λ (x : Proc). AreSmall (marks_of_proc x)) (sym is) (each_front _ (marks_of_proc q) (marks_of_all ps) small)
small_at (q ∷ ps) (suc i) p h is small = small_at ps i p (omega arith) is (each_back _ (marks_of_proc q) (marks_of_all ps) small)

-- the symbols of a command are small
numbered_small : (k : ℕ) (ms : List Mark) (n : ℕ) → IsNumbered k ms n → (k ≤ n) × Each (λ m. m.sym.0 < n) ms
numbered_small k [] n h = (omega (arith, h), tt)
numbered_small k (m ∷ ms) n h =
    let r = numbered_small (max k (m.sym.0 + 1)) ms n h.1 in
    (omega (arith, r.0), (omega (arith, r.0), r.1))

each_below : (n : ℕ) (ms : List Mark) → n ≤ MAX_SYMBOLS → Each (λ m. m.sym.0 < n) ms → AreSmall ms
each_below n [] h e = tt
each_below n (m ∷ ms) h e = (omega (arith, e.0, h), each_below n ms h e.1)

pub are_few : (names : List (List ℕ)) (ps : List Proc) → IsCommand names ps → AreFew ps
are_few names ps c = record {
  few_places = c.few_places;
  few_procs = c.few_procs;
  formed = all_each IsProc ps c.shaped;
  small = each_below (length names) (marks_of_all ps) c.few_symbols (numbered_small 0 (marks_of_all ps) (length names) c.numbered).1;
}

number : (ps : List Proc) (p : Proc) → Within ps p → (q : ℕ) × Numbered ps q p
number ps p w = (length w.before + 1, record { before = w.before; after = w.after; are = w.are; number = refl })

-- a rule on single processes, as each process keeps it
pub kept_each : (R : Proc → Clash → Type 0) (Keep : Proc → Type 0) (ps : List Proc) → ((p : Proc) → Keep p ↔ ((c : Clash) → R p c → ⊥)) → ((b : Breach) → InProcess R ps b → ⊥) → Each Keep ps
kept_each R Keep ps law kept = each_all Keep ps (λ p w. let n = number ps p w in (law p).1 (kept_by_each R ps kept n.0 p n.1))

each_kept : (R : Proc → Clash → Type 0) (Keep : Proc → Type 0) (ps : List Proc) → ((p : Proc) → Keep p ↔ ((c : Clash) → R p c → ⊥)) → Each Keep ps → (b : Breach) → InProcess R ps b → ⊥
each_kept R Keep ps law each = each_keeps R ps (each_all _ ps (λ p w. (law p).0 (each_within Keep ps p each w)))

-- all nine rules, one by one and together
pub admitted_all : (ps : List Proc) → ((r : Rule) → Keeps r ps) → Admitted ps
admitted_all ps keeps = record {
  bursts = kept_each BreaksBursts KeepsBursts ps keeps_bursts (keeps Bursts);
  neighbours = kept_each BreaksNeighbours KeepsNeighbours ps keeps_neighbours (keeps Neighbours);
  rounds = kept_each BreaksRounds KeepsRounds ps keeps_rounds (keeps Rounds);
  choices = kept_each BreaksChoices KeepsChoices ps keeps_choices (keeps Choices);
  twins = kept_each BreaksTwins KeepsTwins ps keeps_twins (keeps Twins);
  overlaps = kept_each BreaksOverlaps KeepsOverlaps ps keeps_overlaps (keeps Overlaps);
  directions = (keeps_directions ps).1 (keeps Directions);
  granted = kept_each BreaksGranted KeepsGranted ps keeps_granted (keeps Granted);
  homes = (keeps_homes ps).1 (keeps Homes);
}

pub kept_all : (ps : List Proc) → Admitted ps → (r : Rule) → Keeps r ps
kept_all ps a Bursts = each_kept BreaksBursts KeepsBursts ps keeps_bursts a.bursts
kept_all ps a Neighbours = each_kept BreaksNeighbours KeepsNeighbours ps keeps_neighbours a.neighbours
kept_all ps a Rounds = each_kept BreaksRounds KeepsRounds ps keeps_rounds a.rounds
kept_all ps a Choices = each_kept BreaksChoices KeepsChoices ps keeps_choices a.choices
kept_all ps a Twins = each_kept BreaksTwins KeepsTwins ps keeps_twins a.twins
kept_all ps a Overlaps = each_kept BreaksOverlaps KeepsOverlaps ps keeps_overlaps a.overlaps
kept_all ps a Directions = (keeps_directions ps).0 a.directions
kept_all ps a Granted = each_kept BreaksGranted KeepsGranted ps keeps_granted a.granted
kept_all ps a Homes = (keeps_homes ps).0 a.homes

-- an admitted command breaks no rule, and another one has one answer
pub broken_not_admitted : (ps : List Proc) (a : Broken) → IsBroken ps a → Admitted ps → ⊥
broken_not_admitted ps a broken admitted = kept_all ps admitted broken.rule _ broken.first.0

not_before : (ps : List Proc) (a b : Broken) (x : IsBroken ps a) (y : IsBroken ps b) → number_of x.rule < number_of y.rule → ⊥
not_before ps a b x y h = y.earlier x.rule (omega (arith, h, y.number)) _ x.first.0

pub broken_one : (ps : List Proc) (a b : Broken) → IsBroken ps a → IsBroken ps b → a ≡ b
broken_one ps a b x y =
    let one : number_of x.rule ≡ number_of y.rule = elim (cases_lt (number_of x.rule) (number_of y.rule)) [
      | inl l ↦ absurd (not_before ps a b x y l)
      | inr g ↦ elim (cases_lt (number_of y.rule) (number_of x.rule)) [ inl l ↦ absurd (not_before ps b a y x l) | inr m ↦ omega arith ]
    ] in
    let rule : x.rule ≡ y.rule = number_one x.rule y.rule one in
    let first = subst (λ (r : Rule). FirstOf (Breaks r ps) (Some (record { process = a.process; place = a.place; case = x.case; other_process = a.other_process; other = a.other }))) rule x.first in
    let same = breach_one (Breaks y.rule ps) _ _ first y.first in
    let number = x.number ∙ one ∙ sym y.number in
    λ i. record { rule = number i; process = (same i).process; place = (same i).place; other_process = (same i).other_process; other = (same i).other }

pub answer_none : (ps : List Proc) (o : Option Broken) → Answer ps o → (o ≡ None) ↔ Admitted ps
answer_none ps None h = (λ e. h, λ a. refl)
answer_none ps (Some a) h = (λ e. absurd (cc), λ admitted. absurd (broken_not_admitted ps a h admitted))

-- the rules stand in the order of their numbers
pub rule_number : (i : ℕ) (d : Rule) → i < 9
    → number_of (get_or (Bursts ∷ Neighbours ∷ Rounds ∷ Choices ∷ Twins ∷ Overlaps ∷ Directions ∷ Granted ∷ Homes ∷ []) i d) ≡ i + 1
rule_number zero d h = refl
rule_number (suc zero) d h = refl
rule_number (suc (suc zero)) d h = refl
rule_number (suc (suc (suc zero))) d h = refl
rule_number (suc (suc (suc (suc zero)))) d h = refl
rule_number (suc (suc (suc (suc (suc zero))))) d h = refl
rule_number (suc (suc (suc (suc (suc (suc zero)))))) d h = refl
rule_number (suc (suc (suc (suc (suc (suc (suc zero))))))) d h = refl
rule_number (suc (suc (suc (suc (suc (suc (suc (suc zero)))))))) d h = refl
rule_number (suc (suc (suc (suc (suc (suc (suc (suc (suc i))))))))) d h = absurd (omega arith)

pub number_few : (r : Rule) → number_of r < 10
number_few Bursts = omega arith
number_few Neighbours = omega arith
number_few Rounds = omega arith
number_few Choices = omega arith
number_few Twins = omega arith
number_few Overlaps = omega arith
number_few Directions = omega arith
number_few Granted = omega arith
number_few Homes = omega arith

pub broken_at : (ps : List Proc) (i : ℕ) (d : Rule) (b : Breach) (n : ℕ) → i < 9
    → n ≡ number_of (get_or (Bursts ∷ Neighbours ∷ Rounds ∷ Choices ∷ Twins ∷ Overlaps ∷ Directions ∷ Granted ∷ Homes ∷ []) i d)
    → ((s : Rule) → number_of s < i + 1 → Keeps s ps) → (o : Option Breach) → o ≡ Some b
    → FirstOf (Breaks (get_or (Bursts ∷ Neighbours ∷ Rounds ∷ Choices ∷ Twins ∷ Overlaps ∷ Directions ∷ Granted ∷ Homes ∷ []) i d) ps) o
    → IsBroken ps (record { rule = n; process = b.process; place = b.place; other_process = b.other_process; other = b.other })
broken_at ps i d b n h number earlier o is first =
    let rule = get_or (Bursts ∷ Neighbours ∷ Rounds ∷ Choices ∷ Twins ∷ Overlaps ∷ Directions ∷ Granted ∷ Homes ∷ []) i d in
    let same = rule_number i d h in
    record {
      rule = rule;
      case = b.case;
      number = number;
      earlier = λ s l. earlier s (omega (arith, l, number, same));
      first = subst (FirstOf (Breaks rule ps)) is first;
    }

pub formed_at : (ps : List Proc) (i : ℕ) (p : Proc) → i < length ps → p ≡ get_or ps i p → Each IsProc ps → IsProc p
formed_at ps i p h is each = let n = stands_numbered ps i p h is in each_within IsProc ps p each (record { before = n.before; after = n.after; are = n.are })
