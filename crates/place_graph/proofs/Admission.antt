-- The processes of an admitted command that are no grants have charts, tales and graphs.
use Rattle.std.proofs.Common.{Bool, true, ◌≡◌, ◌⊎◌, inl, inr, ⊎_elim, ◌↔◌, ℕ, ◌+◌, ◌<◌, ◌≤◌, max, false, true≢false, List, [], ◌∷◌, ◌++◌, length, map, IsTrue, refl, sym, ap, ◌∙◌, subst, arith, append_assoc, Option, Some, None}
use Rattle.std.specs.Prelude.{is_some}
use Rattle.std.specs.List.{AllByRecursion}
use Rattle.cmd_tree.specs.declared.limits.TheConstants.{MAX_PLACES, MAX_SYMBOLS}
use Rattle.cmd_tree.specs.declared.tree.Dir.{Dir}
use Rattle.cmd_tree.specs.declared.tree.Dir.TheVariants.{Input, Output}
use Rattle.cmd_tree.specs.declared.tree.Mark.{Mark}
use Rattle.cmd_tree.specs.declared.tree.Proc.{Proc}
use Rattle.cmd_tree.specs.Tree.{TItem, TSeq, TSeqs, TBurst, TAlt, Stop, Or, Done, Then, places_of, places_in}
use Rattle.cmd_tree.specs.Limits.{IsProc, IsNumbered, IsCommand, places_of_proc, places_of_all, marks_of_proc, marks_of_all}
use Rattle.cmd_tree.specs.Join.{join}
use Rattle.cmd_tree.specs.Lists.{is_in}
use Rattle.cmd_tree.specs.Marks.{is_output}
use Rattle.cmd_tree.specs.Meaning.{symbols, TraceOf}
use Rattle.cmd_tree.specs.Residual.{lead_of}
use Rattle.tree_walk.specs.Bursts.{Burst, dir_of, bursts_of, bursts_in, bursts_among, part, bursts}
use Rattle.di_grammar.specs.Lists.{Each, EachTwo, Within}
use Rattle.di_grammar.specs.Bursts.{if_input, inputs}
use Rattle.di_grammar.specs.Overlaps.{EqualOrDisjoint, KeepsOverlaps}
use Rattle.di_grammar.specs.Grants.{IsGrant}
use Rattle.di_grammar.specs.Admitted.{Admitted}
use Rattle.di_grammar.specs.Outputs.{out_of}
use Rattle.di_grammar.specs.Granted.{KeepsGranted}
use Rattle.di_grammar.specs.Mirror.Found.{found}
use Rattle.di_grammar.proofs.Forms.{grant_is}
use Rattle.di_grammar.proofs.FairnessLaws.{is_fair}
use Rattle.process_laws.specs.Shape.{IsApart, IsFair}
use Rattle.place_graph.specs.Apart.{HasApart}
use Rattle.place_graph.proofs.Determined.{grant_apart}
use Rattle.di_grammar.proofs.FairnessLists.{each_at, each_of, all_each, each_all}
use Rattle.di_grammar.proofs.FairnessMarks.{Agrees, directions_agree}
use Rattle.place_graph.specs.declared.leg.Leg.{Leg}
use Rattle.place_graph.specs.Points.{OneOf, point, legs_of, legs_in, legs_among, body_place, turn_point, legs}
use Rattle.place_graph.specs.Graph.{gives, graph_of}
use Rattle.place_graph.specs.GraphTraces.{TraceOfGraph}
use Rattle.place_graph.specs.declared.styles.SplitStyle.TheVariants.{Rounds}
use Rattle.place_graph.specs.Style.{style_of}
use Rattle.place_graph.specs.StyleLegs.{InRounds}
use Rattle.place_graph.proofs.StyleSteps.{in_rounds_are}
use Rattle.place_graph.specs.Drawable.{AreSets, AreDirections, IsDrawable}
use Rattle.place_graph.specs.Chart.{Chart, Plays}
use Rattle.place_graph.proofs.Rests.{place_is}
use Rattle.place_graph.proofs.LegBounds.{all_front, all_back}
use Rattle.place_graph.proofs.Listed.{one_map}
use Rattle.place_graph.proofs.Charted.{charted, sequence_is}
use Rattle.place_graph.proofs.Played.{played}
use Rattle.place_graph.proofs.NumberTraces.{trace_numbers}

-- ---- the bursts of a process are its legs

abbrev burst : Leg → Burst
burst l = record { place = l.place; marks = l.marks }

map_append : {A B : Type 0} (f : A → B) (xs ys : List A) → map f (xs ++ ys) ≡ map f xs ++ map f ys
map_append f [] ys = refl
map_append f (x ∷ xs) ys = ap (λ t. f x ∷ t) (map_append f xs ys)

mutual
  bursts_legs : (k : ℕ) (s : TSeq) (at later : ℕ) → bursts_of k s ≡ map burst (legs_of k s at later)
  bursts_legs k Done at later = refl
  bursts_legs k (Then i s) at later =
      ap (λ x. x ++ bursts_of (k + places_in i) s) (bursts_legs_in k i at (point (k + places_in i) s later))
      ∙ ap (λ x. map burst (legs_in k i at (point (k + places_in i) s later)) ++ x)
      (bursts_legs (k + places_in i) s (k + places_in i) later)
      ∙ sym (map_append burst (legs_in k i at (point (k + places_in i) s later))
      (legs_of (k + places_in i) s (k + places_in i) later))

  bursts_legs_in : (k : ℕ) (i : TItem) (at later : ℕ) → bursts_in k i ≡ map burst (legs_in k i at later)
  bursts_legs_in k (TBurst ms) at later = refl
  bursts_legs_in k (TAlt ss) at later = bursts_legs_among k ss at later

  bursts_legs_among : (k : ℕ) (ss : TSeqs) (at later : ℕ)
      → bursts_among k ss ≡ map burst (legs_among k ss at later)
  bursts_legs_among k Stop at later = refl
  bursts_legs_among k (Or s ss) at later =
      ap (λ x. x ++ bursts_among (k + places_of s) ss) (bursts_legs k s at later)
      ∙ ap (λ x. map burst (legs_of k s at later) ++ x) (bursts_legs_among (k + places_of s) ss at later)
      ∙ sym (map_append burst (legs_of k s at later) (legs_among (k + places_of s) ss at later))

bursts_join : (k : ℕ) (s t : TSeq) → bursts_of k (join s t) ≡ bursts_of k s ++ bursts_of (k + places_of s) t
bursts_join k Done t = ap (λ n. bursts_of n t) (omega arith)
bursts_join k (Then i s) t =
    ap (λ x. bursts_in k i ++ x)
    (bursts_join (k + places_in i) s t
    ∙ ap (λ n. bursts_of (k + places_in i) s ++ bursts_of n t) (omega arith))
    ∙ sym (append_assoc (bursts_in k i) (bursts_of (k + places_in i) s)
    (bursts_of (k + (places_in i + places_of s)) t))

part_is : (o : Option TSeq) → part o ≡ lead_of o
part_is None = refl
part_is (Some s) = refl

bursts_are : (p : Proc) → bursts p ≡ map burst (legs p)
bursts_are p =
    let l = lead_of p.lead in
    let b = lead_of p.body in
    ap (λ x. bursts_of 1 (join x (part p.body))) (part_is p.lead)
    ∙ ap (λ x. bursts_of 1 (join l x)) (part_is p.body)
    ∙ bursts_join 1 l b
    ∙ ap (λ n. bursts_of 1 l ++ bursts_of n b) (sym (place_is p))
    ∙ ap (λ x. x ++ bursts_of (body_place p) b) (bursts_legs 1 l 1 (turn_point p))
    ∙ ap (λ x. map burst (legs_of 1 l 1 (turn_point p)) ++ x)
    (bursts_legs (body_place p) b (body_place p) (turn_point p))
    ∙ sym (map_append burst (legs_of 1 l 1 (turn_point p))
    (legs_of (body_place p) b (body_place p) (turn_point p)))

-- ---- two input bursts are equal or disjoint

dir_input : (ms : List Mark) → gives ms ≡ false → dir_of ms ≡ Input
dir_input [] h = refl
dir_input (m ∷ ms) h = by m.dir h
  where
    by : (d : Dir) → is_output d ≡ false → d ≡ Input
    by Input e = refl
    by Output e = absurd (true≢false e)

one_input : (bs : List Burst) (b : Burst) → OneOf bs b → dir_of b.marks ≡ Input → OneOf (inputs bs) b
one_input [] b o h = absurd o
one_input (c ∷ bs) b o h = ⊎_elim
    (λ e. subst (λ d. OneOf (if_input d c (inputs bs)) b) (sym (ap (λ (x : Burst). dir_of x.marks) e ∙ h))
    (inl e))
    (λ k. by (dir_of c.marks) (one_input bs b k h))
    o
  where
    by : (d : Dir) → OneOf (inputs bs) b → OneOf (if_input d c (inputs bs)) b
    by Input k = inr k
    by Output k = k

each_one : {A : Type 0} (P : A → Type 0) (xs : List A) (x : A) → Each P xs → OneOf xs x → P x
each_one P [] x h o = absurd o
each_one P (y ∷ xs) x h o = ⊎_elim (λ e. subst P e h.0) (λ k. each_one P xs x h.1 k) o

two_one : {A : Type 0} (R : A → A → Type 0) (xs : List A) (x y : A) → EachTwo R xs → OneOf xs x → OneOf xs y
    → (x ≡ y) ⊎ (R x y ⊎ R y x)
two_one R [] x y h o u = absurd o
two_one {A} R (z ∷ xs) x y h o u = ⊎_elim
    (λ e. ⊎_elim
    (λ f. inl (sym e ∙ f))
    (λ k. inr (inl (subst (λ (w : A). R w y) e (each_one (R z) xs y h.0 k))))
    u)
    (λ k. ⊎_elim
    (λ f. inr (inr (subst (λ (w : A). R w x) f (each_one (R z) xs x h.0 k))))
    (λ j. two_one R xs x y h.1 k j)
    u)
    o

sets_from_rule : (p : Proc) → EachTwo EqualOrDisjoint (inputs (bursts p)) → AreSets (legs p)
sets_from_rule p h l m a b u v s t x y z =
    let first : OneOf (inputs (bursts p)) (burst l) = one_input (bursts p) (burst l)
    (subst (λ bs. OneOf bs (burst l)) (sym (bursts_are p)) (one_map burst (legs p) l u))
    (dir_input l.marks s) in
    let second : OneOf (inputs (bursts p)) (burst m) = one_input (bursts p) (burst m)
    (subst (λ bs. OneOf bs (burst m)) (sym (bursts_are p)) (one_map burst (legs p) m v))
    (dir_input m.marks t) in
    ⊎_elim
    (λ e. subst (λ (w : Burst). IsTrue (is_in b (symbols w.marks))) e z)
    (λ w. ⊎_elim
    (λ r. ⊎_elim (λ q. (q b).0 z) (λ q. absurd (q a x y)) r)
    (λ r. ⊎_elim (λ q. (q b).1 z) (λ q. absurd (q a y x)) r)
    w)
    (two_one EqualOrDisjoint (inputs (bursts p)) (burst l) (burst m) h first second)

-- ---- a command is within the limits

numbered_most : (k : ℕ) (ms : List Mark) (n : ℕ) → IsNumbered k ms n → k ≤ n
numbered_most k [] n h = omega (arith, h)
numbered_most k (m ∷ ms) n h = omega (arith, numbered_most (max k (m.sym.0 + 1)) ms n h.1)

numbered_below : (k : ℕ) (ms : List Mark) (n : ℕ) → IsNumbered k ms n → AllByRecursion (λ m. m.sym.0 < n) ms
numbered_below k [] n h = tt
numbered_below k (m ∷ ms) n
    h = (
      omega (arith, numbered_most (max k (m.sym.0 + 1)) ms n h.1),
      numbered_below (max k (m.sym.0 + 1)) ms
          n h.1,
    )

all_marks : (P Q : Mark → Type 0) → ((m : Mark) → P m → Q m) → (ms : List Mark) → AllByRecursion P ms
    → AllByRecursion Q ms
all_marks P Q f [] h = tt
all_marks P Q f (m ∷ ms) h = (f m h.0, all_marks P Q f ms h.1)

each_marks : (P : Mark → Type 0) (ps : List Proc) → AllByRecursion P (marks_of_all ps)
    → Each (λ p. AllByRecursion P (marks_of_proc p)) ps
each_marks P [] h = tt
each_marks P (p ∷ ps)
    h = (
      all_front P (marks_of_proc p) (marks_of_all ps) h,
      each_marks P ps
          (all_back P (marks_of_proc p) (marks_of_all ps) h),
    )

each_places : (n : ℕ) (ps : List Proc) → places_of_all ps ≤ n → Each (λ p. places_of_proc p ≤ n) ps
each_places n [] h = tt
each_places n (p ∷ ps) h = (omega (arith, h), each_places n ps (omega (arith, h)))

-- ---- the laws

-- a process is a grant, or it is none
grant_or_not : (p : Proc) → IsGrant p ⊎ (IsGrant p → ⊥)
grant_or_not p = by (is_some (found p.lead p.body)) (grant_is p (found p.lead p.body) refl)
  where
    by : (b : Bool) → (IsTrue b ↔ IsGrant p) → IsGrant p ⊎ (IsGrant p → ⊥)
    by true h = inl (h.0 refl)
    by false h = inr (λ g. true≢false (sym (h.1 g)))

fair_apart : (out : ℕ → Bool) (p : Proc) → IsFair out p → HasApart p
fair_apart out p f = record {
  lead = subst (λ s. IsApart s) (sequence_is p.lead) f.lead_apart;
  body = subst (λ s. IsApart s) (sequence_is p.body) f.body_apart;
}

module _ (ps : List Proc) (admitted : Admitted ps) where
  abbrev pub Other : (Proc → Type 0) → Proc → Type 0
  Other P p = (IsGrant p → ⊥) → P p

  dirs : (p : Proc) → Within ps p → AreDirections (out_of ps) p
  dirs p w = all_marks (Agrees (out_of ps)) (λ m. is_output m.dir ≡ out_of ps m.sym.0) (λ m e. sym e)
      (marks_of_proc p)
      (each_all (Agrees (out_of ps)) (marks_of_proc p) (directions_agree ps p admitted.directions w))

  module _ (shaped : AllByRecursion IsProc ps) where
    whole : (p : Proc) → Within ps p → IsProc p
    whole p w = each_at IsProc ps p (all_each IsProc ps shaped) w

    pub charts : Each (Other (λ p. Chart (legs p) (out_of ps))) ps
    charts = each_of (Other (λ p. Chart (legs p) (out_of ps))) ps
        (λ p w other. charted (out_of ps) p (whole p w) (is_fair ps admitted p w shaped other) (dirs p w))

    pub plays : Each (Other (λ p. Plays (legs p) (TraceOf p))) ps
    plays = each_of (Other (λ p. Plays (legs p) (TraceOf p))) ps
        (λ p w other. played (out_of ps) p (whole p w) (is_fair ps admitted p w shaped other) (dirs p w))

    pub traces : AllByRecursion (λ p. IsTrue (is_some p.body)) ps
        → Each (Other (λ p. (t : List ℕ) → TraceOf p t ↔ TraceOfGraph (graph_of p) t)) ps
    traces bodied = each_of (Other (λ p. (t : List ℕ) → TraceOf p t ↔ TraceOfGraph (graph_of p) t)) ps
        (λ p w other.
        trace_numbers (out_of ps) p (whole p w)
        (each_at (λ p. IsTrue (is_some p.body)) ps p (all_each (λ p. IsTrue (is_some p.body)) ps bodied)
        w) (is_fair ps admitted p w shaped other) (dirs p w))

    pub rounds : AllByRecursion (λ p. IsTrue (is_some p.body)) ps
        → Each (Other (λ p. (k : ℕ) → style_of (graph_of p) ≡ Rounds k → InRounds (legs p) k)) ps
    rounds bodied = each_of (Other (λ p. (k : ℕ) → style_of (graph_of p) ≡ Rounds k → InRounds (legs p) k))
        ps (λ p w other.
        in_rounds_are (out_of ps) p (whole p w)
        (each_at (λ p. IsTrue (is_some p.body)) ps p (all_each (λ p. IsTrue (is_some p.body)) ps bodied)
        w) (is_fair ps admitted p w shaped other) (dirs p w))

    pub aparts : Each HasApart ps
    aparts = each_of HasApart ps (λ p w. ⊎_elim
        (λ g. grant_apart p (each_at KeepsGranted ps p admitted.granted w) g.0 g.1)
        (λ (other : IsGrant p → ⊥). fair_apart (out_of ps) p (is_fair ps admitted p w shaped other))
        (grant_or_not p))

  pub drawables : (names : List (List ℕ)) → IsCommand names ps → Each (Other IsDrawable) ps
  drawables names c = each_of (Other IsDrawable) ps (λ p w other. record {
    proc = whole c.shaped p w;
    few_places = each_at (λ p. places_of_proc p ≤ MAX_PLACES) ps p (each_places MAX_PLACES ps c.few_places)
        w;
    few_symbols = each_at (λ p. AllByRecursion (λ m. m.sym.0 < MAX_SYMBOLS) (marks_of_proc p)) ps p
        (each_marks (λ m. m.sym.0 < MAX_SYMBOLS) ps
        (all_marks (λ m. m.sym.0 < length names) (λ m. m.sym.0 < MAX_SYMBOLS)
        (λ m l. omega (arith, l, c.few_symbols)) (marks_of_all ps)
        (numbered_below 0 (marks_of_all ps) (length names) c.numbered))) w;
    sets = sets_from_rule p (each_at KeepsOverlaps ps p admitted.overlaps w other);
  })
