-- The chart of a weave is a chart of its web.
use Rattle.std.proofs.Common.{◌≡◌, ◌↔◌, ◌⊎◌, inl, inr, ⊎_elim, ℕ, ◌+◌, ◌<◌, ◌≤◌, ◌^◌, Bool, true, false, true≢false, not, filter, List, [], ◌∷◌, ◌++◌, length, map, replicate, get_or, refl, sym, ap, ◌∙◌, subst, arith, Option, Some, None, if◌then◌else◌, length-append, append_assoc, append-nil}
use Rattle.std.specs.List.{AllByRecursion, range_with_len}
use Rattle.std.proofs.lemmas.Bool.{cases_Bool, cases_lt}
use Rattle.std.proofs.lemmas.List.{get_or_past, get_or-map, map-append}
use Rattle.std.proofs.lemmas.List.FromFn.{length-map-range_with_len, get_or-map-range_with_len}
use Rattle.cmd_tree.specs.Rounds.{tally, naught, Follows}
use Rattle.cmd_tree.proofs.RoundsRule.{follows_by}
use Rattle.net_core.specs.declared.spec.NodeSpec.{NodeSpec}
use Rattle.net_core.specs.Specs.{outs_of, sides, May, IsFormed}
use Rattle.net_core.specs.Wiring.{IsNetwork, IsClosed}
use Rattle.net_core.specs.Networks.{IsClean, Correct}
use Rattle.net_laws.specs.Charts.{Chart, charted}
use Rattle.net_laws.proofs.Webs.{Web, WebSound, WebExact}
use Rattle.net_laws.proofs.Webs as webs
use Rattle.net_laws.proofs.Paths.{Path}
use Rattle.net_laws.proofs.Among.{Among, Distinct, at_among, all_among}
use Rattle.net_laws.proofs.Rows.{row, among_row, row_among, row_all, distinct_row, among_left, among_right, among_either, all_both, distinct_both, joined_ins, joined_outs, joined_both}
use Rattle.net_laws.proofs.Routes.{Joined, Routes, routes_network, routes_closed, routes_clean, routes_correct}
use Rattle.plain_split.specs.SharedPaths.{joined, place}
use Rattle.plain_split.proofs.SharedLists.{all_by_among, among_filter, filter_among, distinct_filter, distinct_map, among_joined, joined_among, distinct_joined}
use Rattle.plain_split.proofs.SharedPaths.{Onward, Backward, near_kept, far_kept, far_here, near_far, far_near, path_to, map_places, place_at}
use Rattle.plain_split.proofs.OneWaitTraces.{among_map, map_among}
use Rattle.plain_split.proofs.OneWaitWires.{in_range, range_once}
use Rattle.plain_split.proofs.OneWaitChart.{many_two, as_long, map_id, joined_row}
use Rattle.weave_split.specs.WeaveChart.{Wire, Take, Copy, Back, Made, Ask, Return, Token, Give, Name, Env, Process, Spread, Join, Pass, Returns, Gate, Sequencer, Ties, same_wire, shown_by, copy_for, driver, receiver, is_kept, next, rest, last, inputs, outputs, outer_port, inner_port, ports, spec_at, woven, granting, meeting, all_names, components, lines, weave_chart}
use Rattle.weave_split.proofs.WeaveWeb.{wires_decide, Real, symbol, word, Rule, At, web, Tied, lawful}
use Rattle.weave_split.proofs.WeaveRoutes.{back, prev, copy_cases, copy_driver, copy_real, onward, backward, front, apart_at}
use Rattle.weave_split.proofs.WeaveRules.{ports_traces, joined_list, rounds_at, merge_at, gate_at, seq_at, join_may, fork_may, merged_may, gate_may, seq_may}

-- no group is too wide for a component
pub record IsNarrow (g : Ties) : Type 0 where
  pub takers : (s : ℕ) → length (g.takers s) < 2 ^ 26
  pub givers : (s : ℕ) → length (g.givers s) < 2 ^ 26
  pub returns : (p : ℕ) → length (g.returns p) < 2 ^ 26
  pub requests : (p : ℕ) → length (g.requests p) < 2 ^ 26

-- The specification of the environment, and those of the processes, say what the web says of them. A process counts its
-- symbols by their places.
pub record Specified (g : Ties) (whole : List ℕ → Type 0) (traces : ℕ → List ℕ → Type 0) (s : NodeSpec) (alone : ℕ → NodeSpec) : Type 0 where
  pub formed : IsFormed s
  pub outs : outs_of s ≡ map g.out (range_with_len 0 g.names)
  pub may : (u : List ℕ) → May s u ↔ whole u
  pub formed_at : (p : ℕ) → p < g.processes → g.grants p ≡ false → IsFormed (alone p)
  pub outs_at : (p : ℕ) → p < g.processes → g.grants p ≡ false → outs_of (alone p) ≡ map g.out (g.symbols p)
  pub may_at : (p : ℕ) → p < g.processes → g.grants p ≡ false → (u : List ℕ)
      → May (alone p) u ↔ (AllByRecursion (λ k. k < length (g.symbols p)) u × traces p (map (λ k. get_or (g.symbols p) k 0) u))

-- ---- lists

pub not_true : (b : Bool) → not b ≡ true → b ≡ false
not_true true e = absurd (true≢false (sym e))
not_true false e = refl

not_false : (b : Bool) → b ≡ false → not b ≡ true
not_false true e = absurd (true≢false e)
not_false false e = refl

-- one wire behind others
one_more : (f : ℕ → Wire) (xs : List ℕ) (o : Wire) → ((x y : ℕ) → f x ≡ f y → x ≡ y) → ((x : ℕ) → f x ≡ o → ⊥) → Distinct xs → Distinct (map f xs ++ o ∷ [])
one_more f xs o single apart once = distinct_both (map f xs) (o ∷ []) (distinct_map f single xs once) ((λ a. a), tt)
    (λ w p q. let (x, i, e) = among_map f xs w p in elim q [ inl z ↦ apart x (sym e ∙ z) | inr z ↦ z ])

front_once : {A : Type 0} (xs ys : List A) → Distinct (xs ++ ys) → Distinct xs
front_once [] ys h = tt
front_once (x ∷ xs) ys h = ((λ a. h.0 (among_left x xs ys a)), front_once xs ys h.1)

low_among : (k a : ℕ) → a < k → Among a (range_with_len 0 k)
low_among k a low = subst (Among a) (map_id (range_with_len 0 k)) (row_among (λ i. i) k a low)

-- ---- components

abbrev pub Named : Ties → Name → Type 0
Named g Env = ⊥
Named g (Process p) = (p < g.processes) × (g.grants p ≡ false)
Named g (Spread s) = (s < g.names) × (g.out s ≡ false)
Named g (Join s) = (s < g.names) × (g.out s ≡ true)
Named g (Pass s) = ⊥
Named g (Returns p) = (p < g.processes) × (g.grants p ≡ true)
Named g (Gate p) = (p < g.processes) × (g.grants p ≡ true)
Named g (Sequencer p) = (p < g.processes) × (g.grants p ≡ true)

-- the group of a component, and its number there
abbrev group : Name → ℕ
group Env = 0
group (Process p) = 1
group (Spread s) = 2
group (Join s) = 2
group (Pass s) = 0
group (Returns p) = 3
group (Gate p) = 3
group (Sequencer p) = 3

abbrev index : Name → ℕ
index Env = 0
index (Process p) = p
index (Spread s) = s
index (Join s) = s
index (Pass s) = s
index (Returns p) = p
index (Gate p) = p
index (Sequencer p) = p

abbrev pub of_grant : ℕ → List Name
of_grant p = Returns p ∷ Gate p ∷ Sequencer p ∷ []

module _ (g : Ties) where
  -- the groups of components, the first behind the others
  abbrev processes : List Name
  processes = map Process (woven g)

  abbrev meetings : List Name
  meetings = row (meeting g) g.names

  abbrev rings : List Name
  rings = joined of_grant (granting g)

  abbrev after_processes : List Name
  after_processes = meetings ++ rings

  meeting_cases : (s : ℕ) → ((g.out s ≡ true) × (meeting g s ≡ Join s)) ⊎ ((g.out s ≡ false) × (meeting g s ≡ Spread s))
  meeting_cases s = elim (cases_Bool (g.out s)) [
    | inl e ↦ inl (e, ap (λ b. if b then Join s else Spread s) e)
    | inr e ↦ inr (e, ap (λ b. if b then Join s else Spread s) e)
  ]

  meeting_index : (s : ℕ) → index (meeting g s) ≡ s
  meeting_index s = elim (meeting_cases s) [ inl e ↦ ap index e.1 | inr e ↦ ap index e.1 ]

  meeting_one : (i j : ℕ) → meeting g i ≡ meeting g j → i ≡ j
  meeting_one i j e = sym (meeting_index i) ∙ ap index e ∙ meeting_index j

  meeting_among : (s : ℕ) (x : Name) → s < g.names → meeting g s ≡ x → Among x (all_names g)
  meeting_among s x low e = subst (λ x. Among x (all_names g)) e
      (among_right (meeting g s) processes after_processes (among_left (meeting g s) meetings rings (row_among (meeting g) g.names s low)))

  ring_among : (p : ℕ) (x : Name) → p < g.processes → g.grants p ≡ true → Among x (of_grant p) → Among x (all_names g)
  ring_among p x low gr a = among_right x processes after_processes (among_right x meetings rings
      (among_joined of_grant (granting g) p x (among_filter g.grants (range_with_len 0 g.processes) p (low_among g.processes p low) gr) a))

  named_among : (x : Name) → Named g x → Among x (all_names g)
  named_among Env h = absurd h
  named_among (Process p) (low, gr) = among_left (Process p) processes after_processes
      (map_among Process (woven g) p (among_filter (λ p. not (g.grants p)) (range_with_len 0 g.processes) p (low_among g.processes p low) (not_false (g.grants p) gr)))
  named_among (Spread s) (low, o) = meeting_among s (Spread s) low (ap (λ b. if b then Join s else Spread s) o)
  named_among (Join s) (low, o) = meeting_among s (Join s) low (ap (λ b. if b then Join s else Spread s) o)
  named_among (Pass s) h = absurd h
  named_among (Returns p) (low, gr) = ring_among p (Returns p) low gr (inl refl)
  named_among (Gate p) (low, gr) = ring_among p (Gate p) low gr (inr (inl refl))
  named_among (Sequencer p) (low, gr) = ring_among p (Sequencer p) low gr (inr (inr (inl refl)))

  abbrev Stands : ℕ → Name → Type 0
  Stands k x = Named g x × (group x ≡ k)

  process_stands : (x : Name) → Among x processes → Stands 1 x
  process_stands x a =
      let (p, i, e) = among_map Process (woven g) x a in
      let (j, gr) = filter_among (λ p. not (g.grants p)) (range_with_len 0 g.processes) p i in
      subst (Stands 1) (sym e) ((in_range g.processes p j, not_true (g.grants p) gr), refl)

  meeting_stands : (x : Name) → Among x meetings → Stands 2 x
  meeting_stands x a =
      let (s, low, e) = among_row (meeting g) g.names x a in
      elim (meeting_cases s) [
        | inl c ↦ subst (Stands 2) (sym (e ∙ c.1)) ((low, c.0), refl)
        | inr c ↦ subst (Stands 2) (sym (e ∙ c.1)) ((low, c.0), refl)
      ]

  of_grant_at : (p : ℕ) (x : Name) → Among x (of_grant p) → (p < g.processes) × (g.grants p ≡ true) → Stands 3 x × (index x ≡ p)
  of_grant_at p x (inl e) h = subst (λ x. Stands 3 x × (index x ≡ p)) (sym e) ((h, refl), refl)
  of_grant_at p x (inr (inl e)) h = subst (λ x. Stands 3 x × (index x ≡ p)) (sym e) ((h, refl), refl)
  of_grant_at p x (inr (inr (inl e))) h = subst (λ x. Stands 3 x × (index x ≡ p)) (sym e) ((h, refl), refl)
  of_grant_at p x (inr (inr (inr a))) h = absurd a

  granting_is : (p : ℕ) → Among p (granting g) → (p < g.processes) × (g.grants p ≡ true)
  granting_is p a = let (i, gr) = filter_among g.grants (range_with_len 0 g.processes) p a in (in_range g.processes p i, gr)

  ring_stands : (x : Name) → Among x rings → Stands 3 x
  ring_stands x a = let (p, i, j) = joined_among of_grant (granting g) x a in (of_grant_at p x j (granting_is p i)).0

  among_named : (x : Name) → Among x (all_names g) → Named g x
  among_named x a = ⊎_elim (λ i. (process_stands x i).0) (λ i. ⊎_elim (λ j. (meeting_stands x j).0) (λ j. (ring_stands x j).0) (among_either x meetings rings i))
      (among_either x processes after_processes a)

  pub component_among : (x : Name) → Named g x → is_kept g x ≡ true → Among x (components g)
  component_among x h k = among_filter (is_kept g) (all_names g) x (named_among x h) k

  pub among_component : (x : Name) → Among x (components g) → Named g x × (is_kept g x ≡ true)
  among_component x a = let (i, k) = filter_among (is_kept g) (all_names g) x a in (among_named x i, k)

  components_all : (Q : Name → Type 0) → ((x : Name) → Named g x → is_kept g x ≡ true → Q x) → AllByRecursion Q (components g)
  components_all Q h = all_by_among Q (components g) (λ x a. h x (among_component x a).0 (among_component x a).1)

  grant_once : (p : ℕ) → Distinct (of_grant p)
  grant_once p = (first_, (second_, ((λ a. a), tt)))
    where
      first_ : Among (Returns p) (Gate p ∷ Sequencer p ∷ []) → ⊥
      first_ (inl e) = absurd (cc)
      first_ (inr (inl e)) = absurd (cc)
      first_ (inr (inr a)) = a

      second_ : Among (Gate p) (Sequencer p ∷ []) → ⊥
      second_ (inl e) = absurd (cc)
      second_ (inr a) = a

  components_once : Distinct (components g)
  components_once = distinct_filter (is_kept g) (all_names g)
      (distinct_both processes after_processes (distinct_map Process (λ i j e. cc) (woven g) (distinct_filter (λ p. not (g.grants p)) (range_with_len 0 g.processes) (range_once g.processes)))
      (distinct_both meetings rings (distinct_row (meeting g) meeting_one g.names)
      (distinct_joined of_grant (granting g) (distinct_filter g.grants (range_with_len 0 g.processes) (range_once g.processes)) (λ p a. grant_once p)
      (λ p q x i j a b. sym (of_grant_at p x a (granting_is p i)).1 ∙ (of_grant_at q x b (granting_is q j)).1))
      (λ x a b. omega (arith, (meeting_stands x a).1, (ring_stands x b).1)))
      (λ x a b. ⊎_elim (λ j. omega (arith, (process_stands x a).1, (meeting_stands x j).1)) (λ j. omega (arith, (process_stands x a).1, (ring_stands x j).1))
      (among_either x meetings rings b)))

-- ---- the wires of symbols

outer_symbol : (g : Ties) (s : ℕ) → symbol (outer_port g s) ≡ s ∷ []
outer_symbol g s = at (g.out s)
  where
    at : (b : Bool) → symbol (if b then Give s else Take s) ≡ s ∷ []
    at true = refl
    at false = refl

inner_symbol : (g : Ties) (p s : ℕ) → symbol (inner_port g p s) ≡ s ∷ []
inner_symbol g p s = at (g.out s)
  where
    at : (b : Bool) → symbol (if b then Made s p else Copy s p) ≡ s ∷ []
    at true = refl
    at false = refl

outer_one : (g : Ties) (i j : ℕ) → outer_port g i ≡ outer_port g j → i ≡ j
outer_one g i j e = let same : i ∷ [] ≡ j ∷ [] = sym (outer_symbol g i) ∙ ap symbol e ∙ outer_symbol g j in cc

inner_one : (g : Ties) (p i j : ℕ) → inner_port g p i ≡ inner_port g p j → i ≡ j
inner_one g p i j e = let same : i ∷ [] ≡ j ∷ [] = sym (inner_symbol g p i) ∙ ap symbol e ∙ inner_symbol g p j in cc

-- the process of a copy
abbrev copied : Wire → ℕ
copied (Take s) = 0
copied (Copy s p) = p
copied (Back s p) = p
copied (Made s p) = p
copied (Ask s) = 0
copied (Return p) = p
copied (Token p) = p
copied (Give s) = 0

copied_is : (g : Ties) (s p : ℕ) → copied (copy_for g s p) ≡ p
copied_is g s p = elim (copy_cases g s p) [ inl e ↦ ap copied e.1 | inr e ↦ ap copied e.1 ]

copy_one : (g : Ties) (s p q : ℕ) → copy_for g s p ≡ copy_for g s q → p ≡ q
copy_one g s p q e = sym (copied_is g s p) ∙ ap copied e ∙ copied_is g s q

-- the word of wires that have one symbol each
word_map : (label : ℕ → Wire) (spell : ℕ → ℕ) (v : List ℕ) → AllByRecursion (λ k. symbol (label k) ≡ spell k ∷ []) v → word (map label v) ≡ map spell v
word_map label spell [] all = refl
word_map label spell (k ∷ v) all = ap (λ z. z ++ word (map label v)) all.0 ∙ ap (λ z. spell k ∷ z) (word_map label spell v all.1)

all_weaker : {A : Type 0} (P Q : A → Type 0) → ((x : A) → P x → Q x) → (xs : List A) → AllByRecursion P xs → AllByRecursion Q xs
all_weaker P Q f [] all = tt
all_weaker P Q f (x ∷ xs) all = (f x all.0, all_weaker P Q f xs all.1)

-- the word and one more wire
word_more : (label : ℕ → Wire) (spell : ℕ → ℕ) (v : List ℕ) (k : ℕ) → AllByRecursion (λ k. symbol (label k) ≡ spell k ∷ []) v → symbol (label k) ≡ spell k ∷ []
    → word (map label v) ++ symbol (label k) ≡ map spell (v ++ k ∷ [])
word_more label spell v k all e = ap (λ z. z ++ symbol (label k)) (word_map label spell v all) ∙ ap (λ z. map spell v ++ z) e ∙ sym (map-append spell v (k ∷ []))

module _ (g : Ties) (whole : List ℕ → Type 0) (traces : ℕ → List ℕ → Type 0) (tied : Tied g whole traces) where
  abbrev d : Web Name Wire
  d = web g whole traces

  abbrev There : Wire → Type 0
  There w = Real g w

  abbrev Kept : Name → Type 0
  Kept n = is_kept g n ≡ true

  -- a wire that is not there
  abbrev pub nothing : Wire
  nothing = Take g.names

  gone : There nothing → ⊥
  gone (low, o) = omega (arith, low)

  -- ---- wires at their nodes

  abbrev Comes : Name → Wire → Type 0
  Comes x w = There w × (receiver g w ≡ x)

  abbrev Goes : Name → Wire → Type 0
  Goes x w = There w × (driver g w ≡ x)

  asked : (p s : ℕ) → p < g.processes → g.grants p ≡ true → Among s (g.requests p) → (s < g.names) × (g.out s ≡ true)
  asked p s low gr a = let (m, o) = (tied.request p s gr).0 a in (tied.symbol_known p s low m, o)

  shown : (p s : ℕ) → g.grants p ≡ true → Among s (g.requests p) → shown_by (g.owner s) s ≡ Sequencer p
  shown p s gr a = ap (λ o. shown_by o s) (tied.owned s p gr a)

  inputs_real : (x : Name) → Named g x → (w : Wire) → Among w (inputs g x) → Comes x w
  inputs_real Env h w a = absurd h
  inputs_real (Process p) (low, gr) w a =
      let (s, i, e) = among_map (λ s. Copy s p) (filter (λ s. not (g.out s)) (g.symbols p)) w a in
      let (m, o) = filter_among (λ s. not (g.out s)) (g.symbols p) s i in
      subst (Comes (Process p)) (sym e) ((tied.symbol_known p s low m, not_true (g.out s) o, gr, (tied.taker s p).1 (low, m)), refl)
  inputs_real (Spread s) h w (inl e) = subst (Comes (Spread s)) (sym e) (h, refl)
  inputs_real (Spread s) h w (inr a) = absurd a
  inputs_real (Join s) (low, o) w a =
      let (p, i, e) = among_map (λ p. Made s p) (g.givers s) w a in
      subst (Comes (Join s)) (sym e) ((low, o, i), refl)
  inputs_real (Pass s) h w a = absurd h
  inputs_real (Returns p) (low, gr) w a =
      let (s, i, e) = among_map (λ s. Back s p) (g.returns p) w a in
      let (m, o) = (tied.return p s gr).0 i in
      subst (Comes (Returns p)) (sym e) ((tied.symbol_known p s low m, o, gr, (tied.taker s p).1 (low, m)), refl)
  inputs_real (Gate p) h w (inl e) = subst (Comes (Gate p)) (sym e) (h, refl)
  inputs_real (Gate p) h w (inr a) = absurd a
  inputs_real (Sequencer p) (low, gr) w a = ⊎_elim
      (λ i. let (s, j, e) = among_map Ask (g.requests p) w i in subst (Comes (Sequencer p)) (sym e) (asked p s low gr j, shown p s gr j))
      (λ i. elim i [ inl e ↦ subst (Comes (Sequencer p)) (sym e) ((low, gr), refl) | inr b ↦ absurd b ])
      (among_either w (map Ask (g.requests p)) (Token p ∷ []) a)

  outputs_real : (x : Name) → Named g x → (w : Wire) → Among w (outputs g x) → Goes x w
  outputs_real Env h w a = absurd h
  outputs_real (Process p) (low, gr) w a =
      let (s, i, e) = among_map (λ s. Made s p) (filter g.out (g.symbols p)) w a in
      let (m, o) = filter_among g.out (g.symbols p) s i in
      subst (Goes (Process p)) (sym e) ((tied.symbol_known p s low m, o, (tied.giver s p).1 (low, gr, m)), refl)
  outputs_real (Spread s) (low, o) w a =
      let (p, i, e) = among_map (copy_for g s) (g.takers s) w a in
      subst (Goes (Spread s)) (sym e) (copy_real g s p low o i, copy_driver g s p)
  outputs_real (Join s) h w (inl e) = subst (Goes (Join s)) (sym e) (h, refl)
  outputs_real (Join s) h w (inr a) = absurd a
  outputs_real (Pass s) h w a = absurd h
  outputs_real (Returns p) h w (inl e) = subst (Goes (Returns p)) (sym e) (h, refl)
  outputs_real (Returns p) h w (inr a) = absurd a
  outputs_real (Gate p) h w (inl e) = subst (Goes (Gate p)) (sym e) (h, refl)
  outputs_real (Gate p) h w (inr a) = absurd a
  outputs_real (Sequencer p) (low, gr) w a =
      let (s, j, e) = among_map Give (g.requests p) w a in
      subst (Goes (Sequencer p)) (sym e) (asked p s low gr j, shown p s gr j)

  -- the ports of a component that is no process are its inputs and then its outputs
  abbrev IsKind : Name → Type 0
  IsKind Env = ⊥
  IsKind (Process p) = ⊥
  IsKind (Spread s) = Unit {0}
  IsKind (Join s) = Unit {0}
  IsKind (Pass s) = Unit {0}
  IsKind (Returns p) = Unit {0}
  IsKind (Gate p) = Unit {0}
  IsKind (Sequencer p) = Unit {0}

  ports_are : (x : Name) → IsKind x → ports g x ≡ inputs g x ++ outputs g x
  ports_are Env h = absurd h
  ports_are (Process p) h = absurd h
  ports_are (Spread s) h = refl
  ports_are (Join s) h = refl
  ports_are (Pass s) h = refl
  ports_are (Returns p) h = refl
  ports_are (Gate p) h = refl
  ports_are (Sequencer p) h = refl

  in_among : (x : Name) → IsKind x → (w : Wire) → Among w (inputs g x) → Among w (ports g x)
  in_among x h w a = subst (Among w) (sym (ports_are x h)) (among_left w (inputs g x) (outputs g x) a)

  out_among : (x : Name) → IsKind x → (w : Wire) → Among w (outputs g x) → Among w (ports g x)
  out_among x h w a = subst (Among w) (sym (ports_are x h)) (among_right w (inputs g x) (outputs g x) a)

  outer_given : (s : ℕ) → g.out s ≡ true → outer_port g s ≡ Give s
  outer_given s o = ap (λ b. if b then Give s else Take s) o

  outer_taken : (s : ℕ) → g.out s ≡ false → outer_port g s ≡ Take s
  outer_taken s o = ap (λ b. if b then Give s else Take s) o

  inner_made : (p s : ℕ) → g.out s ≡ true → inner_port g p s ≡ Made s p
  inner_made p s o = ap (λ b. if b then Made s p else Copy s p) o

  inner_copy : (p s : ℕ) → g.out s ≡ false → inner_port g p s ≡ Copy s p
  inner_copy p s o = ap (λ b. if b then Made s p else Copy s p) o

  outer_real : (s : ℕ) → s < g.names → There (outer_port g s)
  outer_real s low = elim (cases_Bool (g.out s)) [
    | inl o ↦ subst There (sym (outer_given s o)) (low, o)
    | inr o ↦ subst There (sym (outer_taken s o)) (low, o)
  ]

  inner_real : (p s : ℕ) → p < g.processes → g.grants p ≡ false → Among s (g.symbols p) → There (inner_port g p s)
  inner_real p s low gr a = elim (cases_Bool (g.out s)) [
    | inl o ↦ subst There (sym (inner_made p s o)) (tied.symbol_known p s low a, o, (tied.giver s p).1 (low, gr, a))
    | inr o ↦ subst There (sym (inner_copy p s o)) (tied.symbol_known p s low a, o, gr, (tied.taker s p).1 (low, a))
  ]

  ports_real : (x : Name) → Named g x → AllByRecursion There (ports g x)
  ports_real x h = at x h
    where
      both : (x : Name) → Named g x → IsKind x → AllByRecursion There (ports g x)
      both x h k = subst (AllByRecursion There) (sym (ports_are x k))
          (all_both There (inputs g x) (outputs g x) (all_by_among There (inputs g x) (λ w a. (inputs_real x h w a).0)) (all_by_among There (outputs g x) (λ w a. (outputs_real x h w a).0)))

      at : (x : Name) → Named g x → AllByRecursion There (ports g x)
      at Env h = absurd h
      at (Process p) (low, gr) = all_by_among There (map (inner_port g p) (g.symbols p)) (λ w a.
          let (s, i, e) = among_map (inner_port g p) (g.symbols p) w a in subst There (sym e) (inner_real p s low gr i))
      at (Spread s) h = both (Spread s) h tt
      at (Join s) h = both (Join s) h tt
      at (Pass s) h = both (Pass s) h tt
      at (Returns p) h = both (Returns p) h tt
      at (Gate p) h = both (Gate p) h tt
      at (Sequencer p) h = both (Sequencer p) h tt

  ports_away : (x : Name) → Named g x → Among nothing (ports g x) → ⊥
  ports_away x h a = gone (all_among There (ports g x) (ports_real x h) nothing a)

  ports_once : (x : Name) → Named g x → Distinct (ports g x)
  ports_once Env h = absurd h
  ports_once (Process p) h = distinct_map (inner_port g p) (inner_one g p) (g.symbols p) (tied.symbols_once p)
  ports_once (Spread s) h = (
    (λ a. let (p, i, e) = among_map (copy_for g s) (g.takers s) (Take s) a in elim (copy_cases g s p) [
      | inl c ↦ let z : Take s ≡ Back s p = e ∙ c.1 in cc
      | inr c ↦ let z : Take s ≡ Copy s p = e ∙ c.1 in cc
    ]),
    distinct_map (copy_for g s) (copy_one g s) (g.takers s) (tied.takers_once s),
  )
  ports_once (Join s) h = one_more (λ p. Made s p) (g.givers s) (Ask s) (λ i j e. cc) (λ i e. cc) (tied.givers_once s)
  ports_once (Pass s) h = absurd h
  ports_once (Returns p) h = one_more (λ s. Back s p) (g.returns p) (Return p) (λ i j e. cc) (λ i e. cc) (tied.returns_once p)
  ports_once (Gate p) h = ((λ a. elim a [ inl e ↦ cc | inr b ↦ b ]), ((λ a. a), tt))
  ports_once (Sequencer p) (low, gr) = distinct_both (map Ask (g.requests p) ++ Token p ∷ []) (map Give (g.requests p))
      (one_more Ask (g.requests p) (Token p) (λ i j e. cc) (λ i e. cc) (tied.requests_once p gr))
      (distinct_map Give (λ i j e. cc) (g.requests p) (tied.requests_once p gr))
      (λ w a b. let (s, i, e) = among_map Give (g.requests p) w b in elim (among_either w (map Ask (g.requests p)) (Token p ∷ []) a) [
        | inl j ↦ let (q, k, f) = among_map Ask (g.requests p) w j in cc
        | inr j ↦ elim j [ inl f ↦ cc | inr z ↦ z ]
      ])

  -- ---- lines

  abbrev fwd : (w : Wire) → There w → is_kept g (receiver g w) ≡ false → Onward Name Wire d (is_kept g) There back rest (next g) (prev g) w
  fwd = onward g whole traces tied

  abbrev bwd : (w : Wire) → There w → is_kept g (driver g w) ≡ false → Backward Name Wire d There back rest (next g) (prev g) w
  bwd = backward g whole traces tied

  abbrev begin_of : Wire → Wire
  begin_of w = front g whole traces tied w

  abbrev givens : List Wire
  givens = map Give (filter g.out (range_with_len 0 g.names))

  -- a wire stands among the inputs of its receiver, where that is a component
  comes_named : (w : Wire) → There w → Kept (receiver g w) → ((s : ℕ) × (w ≡ Give s)) ⊎ (Named g (receiver g w) × Among w (inputs g (receiver g w)))
  comes_named (Take s) t k = inr (t, inl refl)
  comes_named (Copy s p) (low, o, gr, a) k =
      let (p_low, m) = (tied.taker s p).0 a in
      inr ((p_low, gr), map_among (λ s. Copy s p) (filter (λ s. not (g.out s)) (g.symbols p)) s (among_filter (λ s. not (g.out s)) (g.symbols p) s m (not_false (g.out s) o)))
  comes_named (Back s p) (low, o, gr, a) k =
      let (p_low, m) = (tied.taker s p).0 a in
      inr ((p_low, gr), map_among (λ s. Back s p) (g.returns p) s ((tied.return p s gr).1 (m, o)))
  comes_named (Made s p) (low, o, a) k = inr ((low, o), map_among (λ p. Made s p) (g.givers s) p a)
  comes_named (Ask s) (low, o) k = inr (at (g.owner s) refl k)
    where
      at : (q : Option ℕ) → g.owner s ≡ q → is_kept g (shown_by q s) ≡ true → Named g (shown_by q s) × Among (Ask s) (inputs g (shown_by q s))
      at None e k = absurd (true≢false (sym k))
      at (Some p) e k = let (gr, a) = tied.owns s p o e in ((tied.grant_known p gr, gr), among_left (Ask s) (map Ask (g.requests p)) (Token p ∷ []) (map_among Ask (g.requests p) s a))
  comes_named (Return p) t k = inr (t, inl refl)
  comes_named (Token p) t k = inr (t, among_right (Token p) (map Ask (g.requests p)) (Token p ∷ []) (inl refl))
  comes_named (Give s) t k = inl (s, refl)

  lines_among : (w : Wire) → There w → Kept (receiver g w) → Among w (lines g)
  lines_among w t k = elim (comes_named w t k) [
    | inl (s, e) ↦
        let (low, o) = subst There e t in
        subst (λ w. Among w (lines g)) (sym e) (among_left (Give s) givens (joined (inputs g) (components g))
        (map_among Give (filter g.out (range_with_len 0 g.names)) s (among_filter g.out (range_with_len 0 g.names) s (low_among g.names s low) o)))
    | inr (h, a) ↦ among_right w givens (joined (inputs g) (components g)) (among_joined (inputs g) (components g) (receiver g w) w (component_among g (receiver g w) h k) a)
  ]

  given_line : (w : Wire) → Among w givens → There w × (receiver g w ≡ Env)
  given_line w a =
      let (s, i, e) = among_map Give (filter g.out (range_with_len 0 g.names)) w a in
      let (j, o) = filter_among g.out (range_with_len 0 g.names) s i in
      subst (λ w. There w × (receiver g w ≡ Env)) (sym e) ((in_range g.names s j, o), refl)

  part_line : (w : Wire) → Among w (joined (inputs g) (components g)) → (x : Name) × Named g x × Kept x × There w × (receiver g w ≡ x)
  part_line w a =
      let (x, i, j) = joined_among (inputs g) (components g) w a in
      let (h, k) = among_component g x i in
      let (t, e) = inputs_real x h w j in
      (x, h, k, t, e)

  among_lines : (w : Wire) → Among w (lines g) → There w × Kept (receiver g w)
  among_lines w a = ⊎_elim
      (λ i. let (t, e) = given_line w i in (t, ap (is_kept g) e))
      (λ i. let (x, h, k, t, e) = part_line w i in (t, ap (is_kept g) e ∙ k))
      (among_either w givens (joined (inputs g) (components g)) a)

  lines_all : (Q : Wire → Type 0) → ((w : Wire) → There w → Kept (receiver g w) → Q w) → AllByRecursion Q (lines g)
  lines_all Q h = all_by_among Q (lines g) (λ w a. h w (among_lines w a).0 (among_lines w a).1)

  no_env : (x : Name) → Named g x → Env ≡ x → ⊥
  no_env x h e = subst (Named g) (sym e) h

  inputs_once : (x : Name) → Named g x → Distinct (inputs g x)
  inputs_once x h = at x h
    where
      front_of : (x : Name) → Named g x → IsKind x → Distinct (inputs g x)
      front_of x h k = front_once (inputs g x) (outputs g x) (subst Distinct (ports_are x k) (ports_once x h))

      at : (x : Name) → Named g x → Distinct (inputs g x)
      at Env h = absurd h
      at (Process p) h = distinct_map (λ s. Copy s p) (λ i j e. cc) (filter (λ s. not (g.out s)) (g.symbols p)) (distinct_filter (λ s. not (g.out s)) (g.symbols p) (tied.symbols_once p))
      at (Spread s) h = front_of (Spread s) h tt
      at (Join s) h = front_of (Join s) h tt
      at (Pass s) h = front_of (Pass s) h tt
      at (Returns p) h = front_of (Returns p) h tt
      at (Gate p) h = front_of (Gate p) h tt
      at (Sequencer p) h = front_of (Sequencer p) h tt

  lines_once : Distinct (lines g)
  lines_once = distinct_both givens (joined (inputs g) (components g))
      (distinct_map Give (λ i j e. cc) (filter g.out (range_with_len 0 g.names)) (distinct_filter g.out (range_with_len 0 g.names) (range_once g.names)))
      (distinct_joined (inputs g) (components g) (components_once g) (λ x a. inputs_once x (among_component g x a).0)
      (λ x z w i j a b. sym (inputs_real x (among_component g x i).0 w a).1 ∙ (inputs_real z (among_component g z j).0 w b).1))
      (λ w a b. let (t, e) = given_line w a in let (x, h, k, u, f) = part_line w b in no_env x h (sym e ∙ f))

  -- ---- numbers, and wires at their nodes

  module _ (s : NodeSpec) (alone : ℕ → NodeSpec) where
    abbrev chart : Chart Name Wire
    chart = weave_chart s alone g

    numbers_are : map chart.number (lines g) ≡ range_with_len 0 (length (lines g))
    numbers_are = map_places chart.number nothing (lines g) 0 (λ i low.
        let (t, k) = among_lines (get_or (lines g) i nothing) (at_among nothing (lines g) i low) in
        ap (place same_wire (lines g)) (far_here Name Wire d (is_kept g) There back rest (next g) (prev g) fwd bwd (get_or (lines g) i nothing) k) ∙ place_at same_wire wires_decide nothing (lines g) lines_once i low ∙ (let z : i ≡ 0 + i = omega arith in z))

    abbrev AtNode : Name → Wire → Type 0
    AtNode x w = Among x (Env ∷ components g) × Among w (ports g x)

    env_port : (a : ℕ) (w : Wire) → a < g.names → outer_port g a ≡ w → AtNode Env w
    env_port a w low e = (inl refl, subst (λ w. Among w (row (outer_port g) g.names)) e (row_among (outer_port g) g.names a low))

    process_port : (p a : ℕ) (w : Wire) → p < g.processes → g.grants p ≡ false → Among a (g.symbols p) → inner_port g p a ≡ w → AtNode (Process p) w
    process_port p a w low gr m e = (inr (component_among g (Process p) (low, gr) refl), subst (λ w. Among w (map (inner_port g p) (g.symbols p))) e (map_among (inner_port g p) (g.symbols p) a m))

    in_port : (x : Name) (w : Wire) → IsKind x → Named g x → Kept x → Among w (inputs g x) → AtNode x w
    in_port x w i h k a = (inr (component_among g x h k), in_among x i w a)

    out_port : (x : Name) (w : Wire) → IsKind x → Named g x → Kept x → Among w (outputs g x) → AtNode x w
    out_port x w i h k a = (inr (component_among g x h k), out_among x i w a)

    driven_at : (w : Wire) → There w → Kept (driver g w) → AtNode (driver g w) w
    driven_at (Take a) (low, o) k = env_port a (Take a) low (outer_taken a o)
    driven_at (Copy a p) (low, o, gr, m) k =
        out_port (Spread a) (Copy a p) tt (low, o) k (subst (λ w. Among w (map (copy_for g a) (g.takers a))) (ap (λ b. if b then Back a p else Copy a p) gr) (map_among (copy_for g a) (g.takers a) p m))
    driven_at (Back a p) (low, o, gr, m) k =
        out_port (Spread a) (Back a p) tt (low, o) k (subst (λ w. Among w (map (copy_for g a) (g.takers a))) (ap (λ b. if b then Back a p else Copy a p) gr) (map_among (copy_for g a) (g.takers a) p m))
    driven_at (Made a p) (low, o, i) k = let (p_low, gr, m) = (tied.giver a p).0 i in process_port p a (Made a p) p_low gr m (inner_made p a o)
    driven_at (Ask a) t k = out_port (Join a) (Ask a) tt t k (inl refl)
    driven_at (Return p) t k = out_port (Returns p) (Return p) tt t k (inl refl)
    driven_at (Token p) t k = out_port (Gate p) (Token p) tt t k (inl refl)
    driven_at (Give a) (low, o) k = at (g.owner a) refl k
      where
        at : (q : Option ℕ) → g.owner a ≡ q → is_kept g (shown_by q a) ≡ true → AtNode (shown_by q a) (Give a)
        at None e k = absurd (true≢false (sym k))
        at (Some p) e k = let (gr, m) = tied.owns a p o e in out_port (Sequencer p) (Give a) tt (tied.grant_known p gr, gr) refl (map_among Give (g.requests p) a m)

    received_at : (w : Wire) → There w → Kept (receiver g w) → AtNode (receiver g w) w
    received_at (Take a) t k = in_port (Spread a) (Take a) tt t k (inl refl)
    received_at (Copy a p) (low, o, gr, i) k = let (p_low, m) = (tied.taker a p).0 i in process_port p a (Copy a p) p_low gr m (inner_copy p a o)
    received_at (Back a p) (low, o, gr, i) k =
        let (p_low, m) = (tied.taker a p).0 i in
        in_port (Returns p) (Back a p) tt (p_low, gr) k (map_among (λ s. Back s p) (g.returns p) a ((tied.return p a gr).1 (m, o)))
    received_at (Made a p) (low, o, i) k = in_port (Join a) (Made a p) tt (low, o) k (map_among (λ p. Made a p) (g.givers a) p i)
    received_at (Ask a) (low, o) k = at (g.owner a) refl k
      where
        at : (q : Option ℕ) → g.owner a ≡ q → is_kept g (shown_by q a) ≡ true → AtNode (shown_by q a) (Ask a)
        at None e k = absurd (true≢false (sym k))
        at (Some p) e k =
            let (gr, m) = tied.owns a p o e in
            in_port (Sequencer p) (Ask a) tt (tied.grant_known p gr, gr) refl (among_left (Ask a) (map Ask (g.requests p)) (Token p ∷ []) (map_among Ask (g.requests p) a m))
    received_at (Return p) t k = in_port (Gate p) (Return p) tt t k (inl refl)
    received_at (Token p) t k = in_port (Sequencer p) (Token p) tt t k (among_right (Token p) (map Ask (g.requests p)) (Token p ∷ []) (inl refl))
    received_at (Give a) (low, o) k = env_port a (Give a) low (outer_given a o)

    -- ---- the conditions of the chart, node by node

    inner_by : (x : Name) → Named g x → (n m : ℕ) → length (inputs g x) ≡ n → length (outputs g x) ≡ m → Joined (driver g) (receiver g) x (sides n m) (inputs g x ++ outputs g x)
    inner_by x h n m li lo = joined_both (driver g) (receiver g) x (replicate n false) (replicate m true) (inputs g x) (outputs g x)
        (joined_ins (driver g) (receiver g) x n (inputs g x) li (all_by_among (λ w. receiver g w ≡ x) (inputs g x) (λ w a. (inputs_real x h w a).1)))
        (joined_outs (driver g) (receiver g) x m (outputs g x) lo (all_by_among (λ w. driver g w ≡ x) (outputs g x) (λ w a. (outputs_real x h w a).1)))

    module _ (narrow : IsNarrow g) (specified : Specified g whole traces s alone) where
      inner_at : (x : Name) → Named g x → Kept x → Joined (driver g) (receiver g) x (outs_of (spec_at s alone g x)) (ports g x)
      inner_at Env h k = absurd h
      inner_at (Process p) (low, gr) k = subst (λ bs. Joined (driver g) (receiver g) (Process p) bs (map (inner_port g p) (g.symbols p))) (sym (specified.outs_at p low gr))
          (joined_list (driver g) (receiver g) (Process p) g.out (inner_port g p) (λ a. (
            (λ o. ap (driver g) (inner_made p a o)),
            (λ o. ap (receiver g) (inner_copy p a o)),
          )) (g.symbols p))
      inner_at (Spread a) h k = inner_by (Spread a) h 1 (length (g.takers a)) refl (as_long (copy_for g a) (g.takers a))
      inner_at (Join a) h k = inner_by (Join a) h (length (g.givers a)) 1 (as_long (λ p. Made a p) (g.givers a)) refl
      inner_at (Pass a) h k = absurd h
      inner_at (Returns p) h k = inner_by (Returns p) h (length (g.returns p)) 1 (as_long (λ s. Back s p) (g.returns p)) refl
      inner_at (Gate p) h k = inner_by (Gate p) h 1 1 refl refl
      inner_at (Sequencer p) h k = inner_by (Sequencer p) h (length (g.requests p) + 1) (length (g.requests p))
          (length-append (map Ask (g.requests p)) (Token p ∷ []) ∙ omega (arith, as_long Ask (g.requests p))) (as_long Give (g.requests p))

      formed_at : (x : Name) → Named g x → Kept x → IsFormed (spec_at s alone g x)
      formed_at Env h k = absurd h
      formed_at (Process p) (low, gr) k = specified.formed_at p low gr
      formed_at (Spread a) h k = record { wide = many_two (g.takers a) k; few = omega (arith, narrow.takers a) }
      formed_at (Join a) h k = record { wide = many_two (g.givers a) k; few = omega (arith, narrow.givers a) }
      formed_at (Pass a) h k = absurd h
      formed_at (Returns p) h k = record { wide = many_two (g.returns p) k; few = omega (arith, narrow.returns p) }
      formed_at (Gate p) h k = record { wide = tt; few = omega arith }
      formed_at (Sequencer p) (low, gr) k = record { wide = tied.many_requests p gr; few = omega (arith, narrow.requests p) }

      -- ---- the traces of a kind

      -- what the rule of a kind allows is a wire of its ports
      rule_at : (x : Name) → IsKind x → (v : List Wire) (w : Wire) → Rule g whole traces x v w → Among w (ports g x)
      rule_at Env i v w r = absurd i
      rule_at (Process p) i v w r = absurd i
      rule_at (Spread a) i v w r = rounds_at (Take a ∷ []) (map (copy_for g a) (g.takers a)) (tally same_wire naught v) w r
      rule_at (Join a) i v w r = rounds_at (map (λ p. Made a p) (g.givers a)) (Ask a ∷ []) (tally same_wire naught v) w r
      rule_at (Pass a) i v w r = rounds_at (Ask a ∷ []) (Give a ∷ []) (tally same_wire naught v) w r
      rule_at (Returns p) i v w r = merge_at (map (λ s. Back s p) (g.returns p)) (Return p) (tally same_wire naught v) w r
      rule_at (Gate p) i v w r = gate_at (g.lends p) (Return p) (Token p) (tally same_wire naught v) w r
      rule_at (Sequencer p) i v w r = seq_at (g.requests p) (Token p) nothing (tally same_wire naught v) w r

      at_kind : (x : Name) → IsKind x → Named g x → (w : Wire) → Among w (ports g x) → At g whole traces x w
      at_kind x i h w a = ⊎_elim (λ j. inr (inputs_real x h w j).1) (λ j. inl (outputs_real x h w j).1) (among_either w (inputs g x) (outputs g x) (subst (Among w) (ports_are x i) a))

      full_rule : (x : Name) → IsKind x → Named g x → (v : List Wire) (w : Wire) → Rule g whole traces x v w → d.rule x v w
      full_rule x i h v w r =
          let a = rule_at x i v w r in
          (all_among There (ports g x) (ports_real x h) w a, at_kind x i h w a, r)

      abbrev name_port : Name → ℕ → Wire
      name_port x p = get_or (ports g x) p nothing

      kind_may : (x : Name) → IsKind x → Named g x → (t : List ℕ) → May (spec_at s alone g x) t ↔ Follows (Rule g whole traces x) [] (map (name_port x) t)
          → May (spec_at s alone g x) t ↔ webs.May d x (map (name_port x) t)
      kind_may x i h t both = (
        (λ m. follows_by (Rule g whole traces x) (d.rule x) (full_rule x i h) [] (map (name_port x) t) (both.0 m)),
        (λ f. both.1 (follows_by (d.rule x) (Rule g whole traces x) (λ v w r. r.2) [] (map (name_port x) t) f)),
      )

      -- ---- the traces of a process

      module _ (p : ℕ) (low : p < g.processes) (gr : g.grants p ≡ false) where
        abbrev spell : ℕ → ℕ
        spell k = get_or (g.symbols p) k 0

        abbrev Inside : ℕ → Type 0
        Inside k = k < length (g.symbols p)

        abbrev Heard : List ℕ → Type 0
        Heard u = AllByRecursion Inside u × traces p (map spell u)

        label_low : (k : ℕ) → Inside k → name_port (Process p) k ≡ inner_port g p (spell k)
        label_low k in_ = get_or-map (inner_port g p) (g.symbols p) k 0 nothing in_

        label_past : (k : ℕ) → length (g.symbols p) ≤ k → name_port (Process p) k ≡ nothing
        label_past k past = get_or_past (map (inner_port g p) (g.symbols p)) k nothing (omega (arith, past, as_long (inner_port g p) (g.symbols p)))

        label_symbol : (k : ℕ) → Inside k → symbol (name_port (Process p) k) ≡ spell k ∷ []
        label_symbol k in_ = ap symbol (label_low k in_) ∙ inner_symbol g p (spell k)

        inside_of : (k : ℕ) → There (name_port (Process p) k) → Inside k
        inside_of k t = elim (cases_lt k (length (g.symbols p))) [
          | inl less ↦ less
          | inr past ↦ absurd (gone (subst There (label_past k past) t))
        ]

        inner_end : (a : ℕ) → At g whole traces (Process p) (inner_port g p a)
        inner_end a = elim (cases_Bool (g.out a)) [
          | inl o ↦ inl (ap (driver g) (inner_made p a o))
          | inr o ↦ inr (ap (receiver g) (inner_copy p a o))
        ]

        spelled : (v : List ℕ) (k : ℕ) → AllByRecursion Inside v → Inside k → word (map (name_port (Process p)) v) ++ symbol (name_port (Process p) k) ≡ map spell (v ++ k ∷ [])
        spelled v k all in_ = word_more (name_port (Process p)) spell v k (all_weaker Inside (λ k. symbol (name_port (Process p) k) ≡ spell k ∷ []) label_symbol v all) (label_symbol k in_)

        heard_step : (v : List ℕ) (k : ℕ) → Heard v → d.rule (Process p) (map (name_port (Process p)) v) (name_port (Process p) k) ↔ Heard (v ++ k ∷ [])
        heard_step v k (all, h) = (
          (λ r. let in_ : Inside k = inside_of k r.0 in (all_both Inside v (k ∷ []) all (in_, tt), subst (traces p) (spelled v k all in_) r.2)),
          (λ r.
              let in_ : Inside k = all_among Inside (v ++ k ∷ []) r.0 k (among_right k v (k ∷ []) (inl refl)) in
              let is : inner_port g p (spell k) ≡ name_port (Process p) k = sym (label_low k in_) in (
                subst There is (inner_real p (spell k) low gr (at_among 0 (g.symbols p) k in_)),
                subst (At g whole traces (Process p)) is (inner_end (spell k)),
                subst (traces p) (sym (spelled v k all in_)) r.1,
              )),
        )

        heard_closed : (t u : List ℕ) → Heard (t ++ u) → Heard t
        heard_closed t u (all, h) = (all_front t u all, (tied.phased p low).prefix (map spell t) (map spell u) (subst (traces p) (map-append spell t u) h))
          where
            all_front : (t u : List ℕ) → AllByRecursion Inside (t ++ u) → AllByRecursion Inside t
            all_front [] u all = tt
            all_front (k ∷ t) u all = (all.0, all_front t u all.1)

        process_may : (t : List ℕ) → May (alone p) t ↔ webs.May d (Process p) (map (name_port (Process p)) t)
        process_may t =
            let seen : Heard t ↔ webs.May d (Process p) (map (name_port (Process p)) t) = ports_traces Heard (tt, (tied.phased p low).empty) heard_closed (name_port (Process p)) (d.rule (Process p)) heard_step t in
            let said = specified.may_at p low gr t in
            ((λ m. seen.0 (said.0 m)), (λ f. said.1 (seen.1 f)))

      may_at : (x : Name) → Named g x → Kept x → (t : List ℕ) → May (spec_at s alone g x) t ↔ webs.May d x (map (name_port x) t)
      may_at Env h k t = absurd h
      may_at (Process p) (low, gr) k t = process_may p low gr t
      may_at (Spread a) h k t = kind_may (Spread a) tt h t
          (fork_may (Take a) (map (copy_for g a) (g.takers a)) nothing (length (g.takers a)) (omega (arith, many_two (g.takers a) k)) (as_long (copy_for g a) (g.takers a)) (ports_once (Spread a) h) (ports_away (Spread a) h) t)
      may_at (Join a) h k t = kind_may (Join a) tt h t
          (join_may (map (λ p. Made a p) (g.givers a)) (Ask a) nothing (length (g.givers a)) (omega (arith, many_two (g.givers a) k)) (as_long (λ p. Made a p) (g.givers a)) (ports_once (Join a) h) (ports_away (Join a) h) t)
      may_at (Pass a) h k t = absurd h
      may_at (Returns p) h k t = kind_may (Returns p) tt h t
          (merged_may (λ s. Back s p) (g.returns p) (Return p) nothing (many_two (g.returns p) k) (ports_once (Returns p) h) (ports_away (Returns p) h) t)
      may_at (Gate p) h k t = kind_may (Gate p) tt h t (gate_may (g.lends p) (Return p) (Token p) nothing k (ports_once (Gate p) h) (ports_away (Gate p) h) t)
      may_at (Sequencer p) (low, gr) k t = kind_may (Sequencer p) tt (low, gr) t
          (seq_may (g.requests p) (Token p) nothing (tied.many_requests p gr) (ports_once (Sequencer p) (low, gr)) (ports_away (Sequencer p) (low, gr)) t)

      -- ---- the environment

      outer_low : (k : ℕ) → k < g.names → name_port Env k ≡ outer_port g k
      outer_low k low = get_or-map-range_with_len (outer_port g) 0 g.names k k nothing low (omega arith)

      outer_past : (k : ℕ) → g.names ≤ k → name_port Env k ≡ nothing
      outer_past k past = get_or_past (row (outer_port g) g.names) k nothing (omega (arith, past, length-map-range_with_len (outer_port g) 0 g.names))

      outer_spells : (k : ℕ) → k < g.names → symbol (name_port Env k) ≡ k ∷ []
      outer_spells k low = ap symbol (outer_low k low) ∙ outer_symbol g k

      outer_inside : (k : ℕ) → There (name_port Env k) → k < g.names
      outer_inside k t = elim (cases_lt k g.names) [
        | inl less ↦ less
        | inr past ↦ absurd (gone (subst There (outer_past k past) t))
      ]

      outer_end : (a : ℕ) → At g whole traces Env (outer_port g a)
      outer_end a = elim (cases_Bool (g.out a)) [
        | inl o ↦ inr (ap (receiver g) (outer_given a o))
        | inr o ↦ inl (ap (driver g) (outer_taken a o))
      ]

      whole_closed : (t u : List ℕ) → whole (t ++ u) → whole t
      whole_closed t [] h = subst whole (append-nil t) h
      whole_closed t (k ∷ u) h = ((tied.goes t k).0 (whole_closed (t ++ k ∷ []) u (subst whole (sym (append_assoc t (k ∷ []) u)) h))).0

      whole_known : (t u : List ℕ) → whole (t ++ u) → AllByRecursion (λ k. k < g.names) u
      whole_known t [] h = tt
      whole_known t (k ∷ u) h =
          let long : whole ((t ++ k ∷ []) ++ u) = subst whole (sym (append_assoc t (k ∷ []) u)) h in
          (((tied.goes t k).0 (whole_closed (t ++ k ∷ []) u long)).1, whole_known (t ++ k ∷ []) u long)

      map_same : (v : List ℕ) → map (λ k. k) v ≡ v
      map_same v = map_id v

      outer_word : (v : List ℕ) (k : ℕ) → whole v → k < g.names → word (map (name_port Env) v) ++ symbol (name_port Env k) ≡ v ++ k ∷ []
      outer_word v k h low =
          word_more (name_port Env) (λ k. k) v k (all_weaker (λ k. k < g.names) (λ k. symbol (name_port Env k) ≡ k ∷ []) outer_spells v (whole_known [] v h)) (outer_spells k low)
          ∙ map_same (v ++ k ∷ [])

      outer_step : (v : List ℕ) (k : ℕ) → whole v → d.rule Env (map (name_port Env) v) (name_port Env k) ↔ whole (v ++ k ∷ [])
      outer_step v k h = (
        (λ r. subst whole (outer_word v k h (outer_inside k r.0)) r.2),
        (λ r.
            let low : k < g.names = ((tied.goes v k).0 r).1 in
            let is : outer_port g k ≡ name_port Env k = sym (outer_low k low) in
            (subst There is (outer_real k low), subst (At g whole traces Env) is (outer_end k), subst whole (sym (outer_word v k h low)) r)),
      )

      env_may : (t : List ℕ) → May s t ↔ webs.May d Env (map (name_port Env) t)
      env_may t =
          let seen : whole t ↔ webs.May d Env (map (name_port Env) t) = ports_traces whole tied.empty whole_closed (name_port Env) (d.rule Env) outer_step t in
          let said = specified.may t in
          ((λ m. seen.0 (said.0 m)), (λ f. said.1 (seen.1 f)))

      -- ---- the law of charts

      kept_or : (x : Name) → Kept x ⊎ (Kept x → ⊥)
      kept_or x = elim (cases_Bool (is_kept g x)) [ inl e ↦ inl e | inr e ↦ inr (λ k. true≢false (sym k ∙ e)) ]

      never : (x : Name) (t : List Wire) → d.rule x t nothing → ⊥
      never x t r = gone r.0

      routes : Routes Name Wire d Kept There chart (lines g) (last g) begin_of (λ w. w) nothing
      routes = record {
        env = refl;
        nodes = ((λ a. no_env Env (among_component g Env a).0 refl), components_once g);
        formed = (specified.formed, components_all g (λ x. IsFormed (spec_at s alone g x)) formed_at);
        outer = subst (λ bs. Joined (receiver g) (driver g) Env bs (row (outer_port g) g.names)) (sym specified.outs)
            (joined_row (receiver g) (driver g) Env g.out (outer_port g) 0 g.names (λ a x y. (
              (λ o. ap (receiver g) (outer_given a o)),
              (λ o. ap (driver g) (outer_taken a o)),
            )));
        inner = components_all g (λ x. Joined (driver g) (receiver g) x (outs_of (spec_at s alone g x)) (ports g x)) inner_at;
        distinct = (distinct_row (outer_port g) (outer_one g) g.names, components_all g (λ x. Distinct (ports g x)) (λ x h k. ports_once x h));
        kept = (refl, components_all g Kept (λ x h k. k));
        there = (row_all There (outer_port g) g.names outer_real, components_all g (λ x. AllByRecursion There (ports g x)) (λ x h k. ports_real x h));
        driven = driven_at;
        received = received_at;
        numbers = numbers_are;
        number_root = λ w t. sym (ap (place same_wire (lines g)) (far_here Name Wire d (is_kept g) There back rest (next g) (prev g) fwd bwd (last g w) (far_kept Name Wire d (is_kept g) There back rest (next g) (prev g) fwd bwd w t).1));
        begins = λ w t k. let (x, e) = far_kept Name Wire d (is_kept g) There back rest (next g) (prev g) fwd bwd w t in (lines_among (last g w) x e, near_far Name Wire d (is_kept g) There back rest (next g) (prev g) fwd bwd w t k);
        ends = λ w t k. (subst (λ v. Among v (lines g)) (sym (far_here Name Wire d (is_kept g) There back rest (next g) (prev g) fwd bwd w k)) (lines_among w t k), far_here Name Wire d (is_kept g) There back rest (next g) (prev g) fwd bwd w k);
        firsts = lines_all (λ v. There (begin_of v) × Kept (driver g (begin_of v)) × (last g (begin_of v) ≡ v)) (λ v t k. let (x, e, low) = near_kept Name Wire d (is_kept g) There back rest (next g) (prev g) fwd bwd v t in (x, e, far_near Name Wire d (is_kept g) There back rest (next g) (prev g) fwd bwd v t k));
        lasts = lines_all (λ v. There v × Kept (receiver g v) × (last g v ≡ v)) (λ v t k. (t, k, far_here Name Wire d (is_kept g) There back rest (next g) (prev g) fwd bwd v k));
        path = lines_all (λ v. Path Name Wire d Kept (begin_of v) v) (λ v t k. path_to Name Wire d (is_kept g) There back rest (next g) (prev g) fwd bwd v t);
        apart = lines_all (λ v. driver g (begin_of v) ≡ receiver g v → ⊥) (λ v t k. apart_at g whole traces tied v t);
        real_out = λ w t r. r.0;
        real_in = λ w t r. r.0;
        enters = λ w t. kept_or (driver g w);
        leaves = λ w t. kept_or (receiver g w);
        never = never;
        may = (env_may, components_all g (λ x. (t : List ℕ) → May (spec_at s alone g x) t ↔ webs.May d x (map (name_port x) t)) may_at);
      }

      pub weave_network : IsNetwork (charted chart)
      weave_network = routes_network Name Wire d Kept There chart (lines g) (last g) begin_of (λ w. w) nothing (lawful g whole traces) routes

      pub weave_closed : IsClosed (charted chart)
      weave_closed = routes_closed Name Wire d Kept There chart (lines g) (last g) begin_of (λ w. w) nothing (lawful g whole traces) routes

      pub weave_clean : IsClean (charted chart)
      weave_clean = routes_clean Name Wire d Kept There chart (lines g) (last g) begin_of (λ w. w) nothing (lawful g whole traces) routes

      -- where the web is sound and exact, the network is correct
      pub weave_right : WebSound d → WebExact d → Correct (charted chart) s
      weave_right = routes_correct Name Wire d Kept There chart (lines g) (last g) begin_of (λ w. w) nothing (lawful g whole traces) routes
