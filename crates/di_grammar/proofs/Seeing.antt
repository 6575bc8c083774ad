-- One more mark: what is the first of its symbol, and what breaks the seventh rule.
use Rattle.std.proofs.Common.{◌≡◌, ◌⊎◌, inl, inr, ◌↔◌, ℕ, suc, ◌+◌, ◌<◌, Bool, true, false, true≢false, List, [], ◌∷◌, ◌++◌, length, get_or, set, take, Option, Some, None, refl, sym, ap, ◌∙◌, subst, arith, append_assoc, eq-eqb, add-zero}
use Rattle.std.proofs.lemmas.Bool.{ne_eqb, cases_eq}
use Rattle.std.proofs.lemmas.List.{append-nil, get_or-set_same, get_or-set_other, length-set, length-append, length-take-le, take_more}
use Rattle.std.specs.Prelude.{if◌then◌else◌, ◌≢◌}
use Rattle.cmd_tree.specs.declared.tree.Dir.{Dir}
use Rattle.cmd_tree.specs.declared.tree.Dir.TheVariants.{Input, Output}
use Rattle.di_grammar.specs.Mirror.Found.{same_dir}
use Rattle.di_grammar.proofs.Laying.{marks_text}
use Rattle.cmd_tree.specs.declared.tree.Mark.{Mark}
use Rattle.cmd_tree.specs.declared.limits.TheConstants.{MAX_SYMBOLS}
use Rattle.cmd_tree.specs.declared.tree.Proc.{Proc}
use Rattle.cmd_tree.specs.Tree.{TItem, TSeq, TSeqs, TBurst, TAlt, Stop, Or, Done, Then, places_of, places_in, places_among, marks_of, marks_in, marks_among}
use Rattle.cmd_tree.specs.Limits.{marks_of_proc, marks_of_all}
use Rattle.di_grammar.specs.Mirror.Laid.{AreSmall}
use Rattle.tree_walk.specs.Bursts.{Burst, text_of, bursts, bursts_of, bursts_in, bursts_among}
use Rattle.di_grammar.specs.declared.spots.Spot.{Spot}
use Rattle.di_grammar.specs.declared.breach.Breach.{Breach}
use Rattle.di_grammar.specs.Lists.{Each, Within}
use Rattle.di_grammar.specs.Spots.{spots_from, spots_in, spots_of, spots, first_mark}
use Rattle.di_grammar.specs.Breaches.{Earlier, FirstOf}
use Rattle.di_grammar.specs.Directions.{Turned}
use Rattle.di_grammar.specs.Mirror.Seen.{spots_passed, spots_after, InTable, FirstMarks, Knows}
use Rattle.di_grammar.specs.Mirror.Lesser.{earlier_of}
use Rattle.di_grammar.proofs.FirstBreaches.{breach_like, breach_either}
use Rattle.di_grammar.proofs.Lists.{each_front, each_back, within_first, within_more, within_cons, none_within, within_one, within_front, within_back, within_join, each_join}

pub first_here : (a : ℕ) (s : Spot) (ss : List Spot) → s.mark.sym.0 ≡ a → first_mark a (s ∷ ss) ≡ Some s
first_here a s ss e = ap (λ (b : Bool). if b then Some s else first_mark a ss) (eq-eqb s.mark.sym.0 a e)

pub first_there : (a : ℕ) (s : Spot) (ss : List Spot) → (s.mark.sym.0 ≡ a → ⊥) → first_mark a (s ∷ ss) ≡ first_mark a ss
first_there a s ss n = ap (λ (b : Bool). if b then Some s else first_mark a ss) (ne_eqb s.mark.sym.0 a n)

-- a mark after others
pub first_old : (a : ℕ) (ss ts : List Spot) (s : Spot) → first_mark a ss ≡ Some s → first_mark a (ss ++ ts) ≡ Some s
first_old a [] ts s e = absurd (cc)
first_old a (t ∷ ss) ts s e = by (cases_eq t.mark.sym.0 a) (first_old a ss ts s) where
  by : (t.mark.sym.0 ≡ a) ⊎ (t.mark.sym.0 ≡ a → ⊥) → (first_mark a ss ≡ Some s → first_mark a (ss ++ ts) ≡ Some s) → first_mark a (t ∷ (ss ++ ts)) ≡ Some s
  by (inl y) rest = first_here a t (ss ++ ts) y ∙ sym (first_here a t ss y) ∙ e
  by (inr n) rest = first_there a t (ss ++ ts) n ∙ rest (sym (first_there a t ss n) ∙ e)

pub first_new : (a : ℕ) (ss ts : List Spot) → first_mark a ss ≡ None → first_mark a (ss ++ ts) ≡ first_mark a ts
first_new a [] ts e = refl
first_new a (t ∷ ss) ts e = by (cases_eq t.mark.sym.0 a) (first_new a ss ts) where
  by : (t.mark.sym.0 ≡ a) ⊎ (t.mark.sym.0 ≡ a → ⊥) → (first_mark a ss ≡ None → first_mark a (ss ++ ts) ≡ first_mark a ts) → first_mark a (t ∷ (ss ++ ts)) ≡ first_mark a ts
  by (inl y) rest = let h = first_here a t ss y in absurd (cc)
  by (inr n) rest = first_there a t (ss ++ ts) n ∙ rest (sym (first_there a t ss n) ∙ e)

-- another symbol
pub first_same : (a : ℕ) (ss : List Spot) (s : Spot) → (s.mark.sym.0 ≡ a → ⊥) → first_mark a (ss ++ s ∷ []) ≡ first_mark a ss
first_same a [] s n = first_there a s [] n
first_same a (t ∷ ss) s n = by (cases_eq t.mark.sym.0 a) (first_same a ss s n) where
  by : (t.mark.sym.0 ≡ a) ⊎ (t.mark.sym.0 ≡ a → ⊥) → first_mark a (ss ++ s ∷ []) ≡ first_mark a ss → first_mark a (t ∷ (ss ++ s ∷ [])) ≡ first_mark a (t ∷ ss)
  by (inl y) rest = first_here a t (ss ++ s ∷ []) y ∙ sym (first_here a t ss y)
  by (inr m) rest = first_there a t (ss ++ s ∷ []) m ∙ rest ∙ sym (first_there a t ss m)

-- a mark that is there has a first one of its symbol
pub first_there_is : (ss : List Spot) (s : Spot) → Within ss s → (f : Spot) × (first_mark s.mark.sym.0 ss ≡ Some f)
first_there_is [] s w = absurd (none_within s w)
first_there_is (t ∷ ss) s w = by (cases_eq t.mark.sym.0 s.mark.sym.0) (first_there_is ss s) where
  by : (t.mark.sym.0 ≡ s.mark.sym.0) ⊎ (t.mark.sym.0 ≡ s.mark.sym.0 → ⊥) → (Within ss s → (f : Spot) × (first_mark s.mark.sym.0 ss ≡ Some f))
      → (f : Spot) × (first_mark s.mark.sym.0 (t ∷ ss) ≡ Some f)
  by (inl y) rest = (t, first_here s.mark.sym.0 t ss y)
  by (inr n) rest = elim (within_cons t ss s w) [
    | inl e ↦ absurd (n (ap (λ (x : Spot). x.mark.sym.0) (sym e)))
    | inr m ↦ let r = rest m in (r.0, first_there s.mark.sym.0 t ss n ∙ r.1)
  ]

-- it has that symbol
pub first_symbol : (a : ℕ) (ss : List Spot) (f : Spot) → first_mark a ss ≡ Some f → (f.mark.sym.0 ≡ a) × Within ss f
first_symbol a [] f e = absurd (cc)
first_symbol a (t ∷ ss) f e = by (cases_eq t.mark.sym.0 a) (first_symbol a ss f) where
  by : (t.mark.sym.0 ≡ a) ⊎ (t.mark.sym.0 ≡ a → ⊥) → (first_mark a ss ≡ Some f → (f.mark.sym.0 ≡ a) × Within ss f) → (f.mark.sym.0 ≡ a) × Within (t ∷ ss) f
  by (inl y) rest =
      let h = first_here a t ss y in
      let same : t ≡ f = cc in
      (subst (λ (x : Spot). x.mark.sym.0 ≡ a) same y, subst (λ (x : Spot). Within (t ∷ ss) x) same (within_first t ss))
  by (inr n) rest = let r = rest (sym (first_there a t ss n) ∙ e) in (r.0, within_more t f ss r.1)

-- the new mark breaks the rule
pub record TurnedNow (ss : List Spot) (s : Spot) (b : Breach) : Type 0 where
  pub first : Spot
  pub is_first : first_mark s.mark.sym.0 ss ≡ Some first
  pub differ : s.mark.dir ≢ first.mark.dir
  pub is : b ≡ record { process = s.process; place = s.place; case = 0; other_process = first.process; other = first.place }

turned_old : (ss ts : List Spot) (b : Breach) → Turned ss b → Turned (ss ++ ts) b
turned_old ss ts b t = record {
  mark = t.mark;
  within = within_front ss ts t.mark t.within;
  first = t.first;
  is_first = first_old t.mark.mark.sym.0 ss ts t.first t.is_first;
  differ = t.differ;
  process = t.process;
  place = t.place;
  other_process = t.other_process;
  other = t.other;
  case = t.case;
}

turned_now : (ss : List Spot) (s : Spot) (b : Breach) → TurnedNow ss s b → Turned (ss ++ s ∷ []) b
turned_now ss s b t = record {
  mark = s;
  within = within_back ss (s ∷ []) s (within_first s []);
  first = t.first;
  is_first = first_old s.mark.sym.0 ss (s ∷ []) t.first t.is_first;
  differ = t.differ;
  process = ap (λ (x : Breach). x.process) t.is;
  place = ap (λ (x : Breach). x.place) t.is;
  other_process = ap (λ (x : Breach). x.other_process) t.is;
  other = ap (λ (x : Breach). x.other) t.is;
  case = ap (λ (x : Breach). x.case) t.is;
}

breach_is : (b : Breach) (p k c q l : ℕ) → b.process ≡ p → b.place ≡ k → b.case ≡ c → b.other_process ≡ q → b.other ≡ l
    → b ≡ record { process = p; place = k; case = c; other_process = q; other = l }
breach_is b p k c q l e f g h m = λ i. record { process = e i; place = f i; case = g i; other_process = h i; other = m i }

turned_from : (ss : List Spot) (s : Spot) (b : Breach) → Turned (ss ++ s ∷ []) b → Turned ss b ⊎ TurnedNow ss s b
turned_from ss s b t = elim (within_join ss (s ∷ []) t.mark t.within) [ inl l ↦ inl (old l) | inr r ↦ inr (new (within_one s t.mark r)) ] where
  old : Within ss t.mark → Turned ss b
  old l =
      let r = first_there_is ss t.mark l in
      let known = first_old t.mark.mark.sym.0 ss (s ∷ []) r.0 r.1 in
      let now = t.is_first in
      let same : r.0 ≡ t.first = cc in
      record {
        mark = t.mark;
        within = l;
        first = t.first;
        is_first = r.1 ∙ ap Some same;
        differ = t.differ;
        process = t.process;
        place = t.place;
        other_process = t.other_process;
        other = t.other;
        case = t.case;
      }

  new : t.mark ≡ s → TurnedNow ss s b
  new e = by (first_mark s.mark.sym.0 ss) refl where
    is_first : first_mark s.mark.sym.0 (ss ++ s ∷ []) ≡ Some t.first
    is_first = subst (λ (x : Spot). first_mark x.mark.sym.0 (ss ++ s ∷ []) ≡ Some t.first) e t.is_first

    differ : s.mark.dir ≢ t.first.mark.dir
    differ = subst (λ (x : Spot). x.mark.dir ≢ t.first.mark.dir) e t.differ

    by : (o : Option Spot) → first_mark s.mark.sym.0 ss ≡ o → TurnedNow ss s b
    by None h =
        let now = first_new s.mark.sym.0 ss (s ∷ []) h ∙ first_here s.mark.sym.0 s [] refl in
        let known = is_first in
        let same : s ≡ t.first = cc in
        absurd (differ (ap (λ (x : Spot). x.mark.dir) same))
    by (Some f) h =
        let now = first_old s.mark.sym.0 ss (s ∷ []) f h in
        let known = is_first in
        let same : f ≡ t.first = cc in
        record {
          first = t.first;
          is_first = h ∙ ap Some same;
          differ = differ;
          is = breach_is b _ _ _ _ _ (t.process ∙ ap (λ (x : Spot). x.process) e) (t.place ∙ ap (λ (x : Spot). x.place) e) t.case t.other_process t.other;
        }

pub turned_more : (ss : List Spot) (s : Spot) (b : Breach) → (Turned ss b ⊎ TurnedNow ss s b) ↔ Turned (ss ++ s ∷ []) b
turned_more ss s b = (λ h. elim h [ inl t ↦ turned_old ss (s ∷ []) b t | inr t ↦ turned_now ss s b t ], turned_from ss s b)

earlier_not : (b : Breach) → Earlier b b → ⊥
earlier_not b h = omega (arith, h)

-- the new mark is told of
pub none_now : (ss : List Spot) (s : Spot) → ((f : Spot) → first_mark s.mark.sym.0 ss ≡ Some f → s.mark.dir ≡ f.mark.dir) → FirstOf (TurnedNow ss s) None
none_now ss s same = λ b t. t.differ (same t.first t.is_first)

pub one_now : (ss : List Spot) (s f : Spot) → first_mark s.mark.sym.0 ss ≡ Some f → (s.mark.dir ≡ f.mark.dir → ⊥)
    → FirstOf (TurnedNow ss s) (Some (record { process = s.process; place = s.place; case = 0; other_process = f.process; other = f.place }))
one_now ss s f e n = (
  record { first = f; is_first = e; differ = n; is = refl },
  λ c t early.
      let known = t.is_first in
      let same : t.first ≡ f = cc in
      let is : c ≡ record { process = s.process; place = s.place; case = 0; other_process = f.process; other = f.place }
      = t.is ∙ ap (λ (x : Spot). record { process = s.process; place = s.place; case = 0; other_process = x.process; other = x.place }) same in
      earlier_not _ (subst (λ (x : Breach). Earlier x (record { process = s.process; place = s.place; case = 0; other_process = f.process; other = f.place })) is early),
)

-- the table keeps the first marks
pub kept_marks : (table : List (Option Spot)) (ss : List Spot) (s f : Spot) → FirstMarks table ss → s.mark.sym.0 < MAX_SYMBOLS → get_or table s.mark.sym.0 None ≡ Some f
    → FirstMarks table (ss ++ s ∷ [])
kept_marks table ss s f first small here a h = by (cases_eq s.mark.sym.0 a) where
  by : (s.mark.sym.0 ≡ a) ⊎ (s.mark.sym.0 ≡ a → ⊥) → get_or table a None ≡ first_mark a (ss ++ s ∷ [])
  by (inl e) = subst (λ (x : ℕ). get_or table x None ≡ first_mark x (ss ++ s ∷ [])) e
      (here ∙ sym (first_old s.mark.sym.0 ss (s ∷ []) f (sym (first s.mark.sym.0 small) ∙ here)))
  by (inr n) = first a h ∙ sym (first_same a ss s n)

pub entered_mark : (table : List (Option Spot)) (ss : List Spot) (s : Spot) → FirstMarks table ss → length table ≡ MAX_SYMBOLS → s.mark.sym.0 < MAX_SYMBOLS
    → get_or table s.mark.sym.0 None ≡ None → FirstMarks (set table s.mark.sym.0 (Some s)) (ss ++ s ∷ [])
entered_mark table ss s first size small here a h = by (cases_eq s.mark.sym.0 a) where
  by : (s.mark.sym.0 ≡ a) ⊎ (s.mark.sym.0 ≡ a → ⊥) → get_or (set table s.mark.sym.0 (Some s)) a None ≡ first_mark a (ss ++ s ∷ [])
  by (inl e) = subst (λ (x : ℕ). get_or (set table s.mark.sym.0 (Some s)) x None ≡ first_mark x (ss ++ s ∷ [])) e
      (get_or-set_same table s.mark.sym.0 (Some s) None (omega arith)
      ∙ sym (first_new s.mark.sym.0 ss (s ∷ []) (sym (first s.mark.sym.0 small) ∙ here) ∙ first_here s.mark.sym.0 s [] refl))
  by (inr n) = get_or-set_other table s.mark.sym.0 a (Some s) None (λ e. n (sym e)) ∙ first a h ∙ sym (first_same a ss s n)

pub small_now : (ss : List Spot) (s : Spot) → Each InTable (ss ++ s ∷ []) → Each InTable ss × (s.mark.sym.0 < MAX_SYMBOLS)
small_now [] s e = (tt, e.0)
small_now (t ∷ ss) s e = let r = small_now ss s e.1 in ((e.0, r.0), r.1)

earlier_none : (f : Option Breach) → earlier_of f None ≡ f
earlier_none None = refl
earlier_none (Some b) = refl

pub sees_new : (table : List (Option Spot)) (found : Option Breach) (ss : List Spot) (s : Spot) → get_or table s.mark.sym.0 None ≡ None
    → Knows table found ss → Knows (set table s.mark.sym.0 (Some s)) found (ss ++ s ∷ [])
sees_new table found ss s here knows small =
    let few = small_now ss s small in
    let k = knows few.0 in
    let none : FirstOf (TurnedNow ss s) None = none_now ss s (λ f e. let h = k.first s.mark.sym.0 few.1 in absurd (cc)) in
    record {
      size = length-set table s.mark.sym.0 (Some s) ∙ k.size;
      first = entered_mark table ss s k.first k.size few.1 here;
      turned = breach_like _ _ found (turned_more ss s) (subst (FirstOf (λ b. Turned ss b ⊎ TurnedNow ss s b)) (earlier_none found)
          (breach_either (Turned ss) (TurnedNow ss s) found None k.turned none));
    }

pub sees_same : (table : List (Option Spot)) (found : Option Breach) (ss : List Spot) (s f : Spot) → get_or table s.mark.sym.0 None ≡ Some f
    → s.mark.dir ≡ f.mark.dir → Knows table found ss → Knows table found (ss ++ s ∷ [])
sees_same table found ss s f here same knows small =
    let few = small_now ss s small in
    let k = knows few.0 in
    let none : FirstOf (TurnedNow ss s) None = none_now ss s (λ g e.
    let h = k.first s.mark.sym.0 few.1 in
    let is : f ≡ g = cc in
    same ∙ ap (λ (x : Spot). x.mark.dir) is) in
    record {
      size = k.size;
      first = kept_marks table ss s f k.first few.1 here;
      turned = breach_like _ _ found (turned_more ss s) (subst (FirstOf (λ b. Turned ss b ⊎ TurnedNow ss s b)) (earlier_none found)
          (breach_either (Turned ss) (TurnedNow ss s) found None k.turned none));
    }

pub sees_turned : (table : List (Option Spot)) (found : Option Breach) (ss : List Spot) (s f : Spot) → get_or table s.mark.sym.0 None ≡ Some f
    → (s.mark.dir ≡ f.mark.dir → ⊥) → Knows table found ss
    → Knows table (earlier_of found (Some (record { process = s.process; place = s.place; case = 0; other_process = f.process; other = f.place }))) (ss ++ s ∷ [])
sees_turned table found ss s f here differ knows small =
    let few = small_now ss s small in
    let k = knows few.0 in
    let one = one_now ss s f (sym (k.first s.mark.sym.0 few.1) ∙ here) differ in
    record {
      size = k.size;
      first = kept_marks table ss s f k.first few.1 here;
      turned = breach_like _ _ _ (turned_more ss s) (breach_either (Turned ss) (TurnedNow ss s) found _ k.turned one);
    }

-- the same direction
pub same_is : (a b : Dir) → same_dir a b ≡ true → a ≡ b
same_is Input Input h = refl
same_is Input Output h = absurd (true≢false (sym h))
same_is Output Input h = absurd (true≢false (sym h))
same_is Output Output h = refl

pub is_same : (a b : Dir) → same_dir a b ≡ false → a ≡ b → ⊥
is_same Input Input h e = true≢false h
is_same Input Output h e = cc
is_same Output Input h e = cc
is_same Output Output h e = true≢false h

-- the marks of bursts, one after another, are those of the process
pub spots_append : (q k : ℕ) (ms ns : List Mark) → spots_from q k (ms ++ ns) ≡ spots_from q k ms ++ spots_from q (k + length ms) ns
spots_append q k [] ns = rw add-zero refl
spots_append q k (m ∷ ms) ns =
    let more : k + 1 + length ms ≡ k + suc (length ms) = omega arith in
    ap (λ (ss : List Spot). record { process = q; place = k; mark = m } ∷ ss) (spots_append q (k + 1) ms ns ∙ ap (λ (n : ℕ). spots_from q (k + 1) ms ++ spots_from q n ns) more)

pub passed_append : (q : ℕ) (bs cs : List Burst) → spots_passed q (bs ++ cs) ≡ spots_passed q bs ++ spots_passed q cs
passed_append q [] cs = refl
passed_append q (b ∷ bs) cs = ap (λ (ss : List Spot). spots_from q b.place b.marks ++ ss) (passed_append q bs cs)
    ∙ sym (append_assoc (spots_from q b.place b.marks) (spots_passed q bs) (spots_passed q cs))

mutual
  length_of : (s : TSeq) → length (marks_of s) ≡ places_of s
  length_of Done = refl
  length_of (Then i s) = length-append (marks_in i) (marks_of s) ∙ (omega (arith, length_in i, length_of s))

  length_in : (i : TItem) → length (marks_in i) ≡ places_in i
  length_in (TBurst ms) = refl
  length_in (TAlt ss) = length_among ss

  length_among : (ss : TSeqs) → length (marks_among ss) ≡ places_among ss
  length_among Stop = refl
  length_among (Or s ss) = length-append (marks_of s) (marks_among ss) ∙ (omega (arith, length_of s, length_among ss))

mutual
  passed_of : (q k : ℕ) (s : TSeq) → spots_passed q (bursts_of k s) ≡ spots_from q k (marks_of s)
  passed_of q k Done = refl
  passed_of q k (Then i s) =
      passed_append q (bursts_in k i) (bursts_of (k + places_in i) s)
      ∙ ap (λ (ss : List Spot). ss ++ spots_passed q (bursts_of (k + places_in i) s)) (passed_in q k i)
      ∙ ap (λ (ss : List Spot). spots_from q k (marks_in i) ++ ss) (passed_of q (k + places_in i) s)
      ∙ ap (λ (n : ℕ). spots_from q k (marks_in i) ++ spots_from q (k + n) (marks_of s)) (sym (length_in i))
      ∙ sym (spots_append q k (marks_in i) (marks_of s))

  passed_in : (q k : ℕ) (i : TItem) → spots_passed q (bursts_in k i) ≡ spots_from q k (marks_in i)
  passed_in q k (TBurst ms) = append-nil (spots_from q k ms)
  passed_in q k (TAlt ss) = passed_among q k ss

  passed_among : (q k : ℕ) (ss : TSeqs) → spots_passed q (bursts_among k ss) ≡ spots_from q k (marks_among ss)
  passed_among q k Stop = refl
  passed_among q k (Or s ss) =
      passed_append q (bursts_of k s) (bursts_among (k + places_of s) ss)
      ∙ ap (λ (xs : List Spot). xs ++ spots_passed q (bursts_among (k + places_of s) ss)) (passed_of q k s)
      ∙ ap (λ (xs : List Spot). spots_from q k (marks_of s) ++ xs) (passed_among q (k + places_of s) ss)
      ∙ ap (λ (n : ℕ). spots_from q k (marks_of s) ++ spots_from q (k + n) (marks_among ss)) (sym (length_of s))
      ∙ sym (spots_append q k (marks_of s) (marks_among ss))

pub passed_all : (q : ℕ) (p : Proc) → spots_passed q (bursts p) ≡ spots_in q p
passed_all q p = passed_of q 1 (text_of p) ∙ ap (spots_from q 1) (marks_text p)

-- one more process
pub spots_more : (q : ℕ) (ps : List Proc) (p : Proc) → spots_of q (ps ++ p ∷ []) ≡ spots_of q ps ++ spots_in (q + length ps) p
spots_more q [] p = rw add-zero (append-nil (spots_in q p))
spots_more q (r ∷ ps) p =
    let more : q + 1 + length ps ≡ q + suc (length ps) = omega arith in
    ap (λ (ss : List Spot). spots_in q r ++ ss) (spots_more (q + 1) ps p ∙ ap (λ (n : ℕ). spots_of (q + 1) ps ++ spots_in n p) more)
    ∙ sym (append_assoc (spots_in q r) (spots_of (q + 1) ps) (spots_in (q + suc (length ps)) p))

pub after_all : (ps : List Proc) (p : Proc) → spots_after ps (bursts p) ≡ spots (ps ++ p ∷ [])
after_all ps p =
    let number : length ps + 1 ≡ 1 + length ps = omega arith in
    ap (λ (ss : List Spot). spots ps ++ ss) (passed_all (length ps + 1) p) ∙ ap (λ (n : ℕ). spots ps ++ spots_in n p) number ∙ sym (spots_more 1 ps p)

pub after_none : (ps : List Proc) → spots_after ps [] ≡ spots ps
after_none ps = append-nil (spots ps)

pub after_burst : (ps : List Proc) (bs : List Burst) (q k : ℕ) (ms : List Mark) → q ≡ length ps + 1
    → spots_after ps bs ++ spots_from q k ms ≡ spots_after ps (bs ++ record { place = k; marks = ms } ∷ [])
after_burst ps bs q k ms e =
    append_assoc (spots ps) (spots_passed (length ps + 1) bs) (spots_from q k ms)
    ∙ ap (λ (n : ℕ). spots ps ++ (spots_passed (length ps + 1) bs ++ spots_from n k ms)) e
    ∙ ap (λ (ss : List Spot). spots ps ++ (spots_passed (length ps + 1) bs ++ ss)) (sym (append-nil (spots_from (length ps + 1) k ms)))
    ∙ ap (λ (ss : List Spot). spots ps ++ ss) (sym (passed_append (length ps + 1) bs (record { place = k; marks = ms } ∷ [])))

-- one more mark of a burst
pub spots_next : (q k : ℕ) (ms : List Mark) (i : ℕ) (d : Mark) → i < length ms
    → spots_from q k (take i ms) ++ record { process = q; place = k + i; mark = get_or ms i d } ∷ [] ≡ spots_from q k (take (i + 1) ms)
spots_next q k ms i d h =
    let size : length (take i ms) ≡ i = length-take-le i ms (omega arith) in
    ap (λ (n : ℕ). spots_from q k (take i ms) ++ record { process = q; place = k + n; mark = get_or ms i d } ∷ []) (sym size)
    ∙ sym (spots_append q k (take i ms) (get_or ms i d ∷ []))
    ∙ ap (spots_from q k) (sym (take_more ms i d h))

-- before the first mark
pub nothing_seen : (table : List (Option Spot)) → length table ≡ MAX_SYMBOLS → ((a : ℕ) → a < MAX_SYMBOLS → get_or table a None ≡ None) → Knows table None []
nothing_seen table size none small = record { size = size; first = none; turned = λ b t. none_within t.mark t.within }

-- the marks are small enough for the tables
pub small_from : (q k : ℕ) (ms : List Mark) → AreSmall ms → Each InTable (spots_from q k ms)
small_from q k [] h = tt
small_from q k (m ∷ ms) h = (h.0, small_from q (k + 1) ms h.1)

small_of : (q : ℕ) (ps : List Proc) → AreSmall (marks_of_all ps) → Each InTable (spots_of q ps)
small_of q [] h = tt
small_of q (p ∷ ps) h = each_join InTable (spots_in q p) (spots_of (q + 1) ps) (small_from q 1 (marks_of_proc p) (each_front _ (marks_of_proc p) (marks_of_all ps) h))
    (small_of (q + 1) ps (each_back _ (marks_of_proc p) (marks_of_all ps) h))

pub small_spots : (ps : List Proc) → AreSmall (marks_of_all ps) → Each InTable (spots ps)
small_spots ps h = small_of 1 ps h
