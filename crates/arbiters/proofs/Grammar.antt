-- An arbiter is admitted.
use Rattle.std.proofs.Common.{◌≡◌, ◌≢◌, ◌⊎◌, inl, inr, ℕ, zero, suc, ◌+◌, ◌*◌, ◌-◌, ◌<◌, ◌≤◌, Bool, true, false, true≢false, ◌||◌, List, [], ◌∷◌, ◌++◌, length, map, None, refl, sym, ap, ◌∙◌, subst, arith, eq-eqb, eqb-true}
use Rattle.std.specs.Prelude.{IsTrue, nat_eq}
use Rattle.std.specs.List.{range_with_len}
use Rattle.cmd_tree.specs.declared.tree.Dir.TheVariants.{Input, Output}
use Rattle.cmd_tree.specs.declared.tree.Mark.{Mark}
use Rattle.cmd_tree.specs.declared.tree.Proc.{Proc}
use Rattle.cmd_tree.specs.Tree.{marks_among}
use Rattle.cmd_tree.specs.Limits.{marks_of_proc, marks_of_all}
use Rattle.cmd_tree.specs.Lists.{is_in}
use Rattle.cmd_tree.specs.Meaning.{has_symbol}
use Rattle.cmd_tree.specs.Marks.{input, output}
use Rattle.process_laws.specs.GrantForms.{Giving, loans, granted_of}
use Rattle.tree_walk.specs.Bursts.{Burst, dir_of, bursts_among, firsts_among, lasts_among}
use Rattle.tree_walk.specs.Meetings.{neighbours_among}
use Rattle.di_grammar.specs.Lists.{Each, EachTwo}
use Rattle.di_grammar.specs.Bursts.{Has, Disjoint}
use Rattle.di_grammar.specs.Grants.{Gift, gifts_from, Grants, IsGrant}
use Rattle.di_grammar.specs.Spots.{Numbered}
use Rattle.di_grammar.specs.EvenBursts.{Even, KeepsBursts}
use Rattle.di_grammar.specs.Alternation.{Alternate, KeepsNeighbours, KeepsRounds}
use Rattle.di_grammar.specs.Choices.{KeepsChoices}
use Rattle.di_grammar.specs.Twins.{KeepsTwins}
use Rattle.di_grammar.specs.Overlaps.{KeepsOverlaps}
use Rattle.di_grammar.specs.Directions.{KeepsDirections}
use Rattle.di_grammar.specs.Granted.{KeepsGranted}
use Rattle.di_grammar.specs.Homes.{HasHome, IsElsewhere, KeepsHomes}
use Rattle.di_grammar.specs.Admitted.{Admitted}
use Rattle.di_grammar.proofs.Forms.{grant_is, grants_one}
use Rattle.di_grammar.proofs.Lists.{InFront, InBack, in_joined, none_within, within_front, each_join, each_within, each_map}
use Rattle.arbiters.specs.Arbiter.{asks, granted, returned, ended, client, giving, clients, grant, arbiter}
use Rattle.arbiters.proofs.Ranges.{each_ranged, within_ranged}
use Rattle.arbiters.proofs.Limits.{marks_of_both, many_givings}

in_out : Input ≢ Output
in_out e = absurd (cc)

out_in : Output ≢ Input
out_in e = absurd (cc)

-- what holds of each client, and of the grant
each_process : (P : Proc → Type 0) (n : ℕ) → ((i : ℕ) → 0 < i → P (client i)) → P (grant n) → Each P (arbiter n)
each_process P n c g = each_join P (map client (clients n)) (grant n ∷ []) (each_ranged P client 1 n (λ i l m. c i (omega arith))) (g, tt)

-- ---- which processes are grants

no_grant : (i : ℕ) → IsGrant (client i) → ⊥
no_grant i g = true≢false (sym ((grant_is (client i) None refl).1 g))

gifts_of : ℕ → List Gift
gifts_of n = gifts_from 1 2 (granted_of (map giving (clients n)))

grants : (n : ℕ) → 2 ≤ n → Grants (grant n) (gifts_of n)
unfolding gifts_of
grants n h = inr (record { givings = map giving (clients n); many = omega (arith, many_givings n); is = refl; gives = refl })

is_grant : (n : ℕ) → 2 ≤ n → IsGrant (grant n)
is_grant n h = (gifts_of n, grants n h)

-- of all processes the last one alone is a grant
the_grant : (n q : ℕ) (p : Proc) → Numbered (arbiter n) q p → IsGrant p → (p ≡ grant n) × (q ≡ length (map client (clients n)) + 1)
the_grant n q p w g = by (in_joined (map client (clients n)) (grant n ∷ []) w.before w.after p w.are) where
  lone : (front : List Proc) → grant n ∷ [] ≡ front ++ p ∷ w.after → w.before ≡ map client (clients n) ++ front → (p ≡ grant n) × (w.before ≡ map client (clients n) ++ [])
  lone [] e f = (cc, f)
  lone (x ∷ front) e f = absurd (none_within p (record { before = front; after = w.after; are = cc }))

  append_none : (ps : List Proc) → length (ps ++ []) ≡ length ps
  append_none [] = refl
  append_none (x ∷ ps) = omega (arith, append_none ps)

  by : InFront (map client (clients n)) (grant n ∷ []) w.before w.after p ⊎ InBack (map client (clients n)) (grant n ∷ []) w.before w.after p
      → (p ≡ grant n) × (q ≡ length (map client (clients n)) + 1)
  by (inl f) =
      let others = each_ranged (λ r. IsGrant r → ⊥) client 1 n (λ i l m. no_grant i) in
      absurd (each_within (λ r. IsGrant r → ⊥) (map client (clients n)) p others (record { before = w.before; after = f.rest; are = f.are }) g)
  by (inr f) =
      let one = lone f.front f.are f.more in
      (one.0, w.number ∙ ap (λ (ps : List Proc). length ps + 1) one.1 ∙ ap (λ k. k + 1) (append_none (map client (clients n))))

-- ---- rules on single processes

lone_mark : (k : ℕ) (m : Mark) → Even (record { place = k; marks = m ∷ [] })
lone_mark k m = record { differ = (tt, tt); one_way = (refl, tt) }

even_loans : (k : ℕ) (gs : List Giving) → Each Even (bursts_among k (loans gs))
even_loans k [] = tt
even_loans k (g ∷ gs) = (lone_mark k (output g.granted), (lone_mark (k + 1) (input g.returned), even_loans (k + 2) gs))

keeps_bursts : (n : ℕ) → Each KeepsBursts (arbiter n)
keeps_bursts n = each_process KeepsBursts n
    (λ i some. (lone_mark 1 (input (asks i)), (lone_mark 2 (output (granted i)), (lone_mark 3 (input (returned i)), (lone_mark 4 (output (ended i)), tt)))))
    (each_join Even (bursts_among 1 (loans (map giving (clients n)))) [] (even_loans 1 (map giving (clients n))) tt)

loans_alternate : (k : ℕ) (gs : List Giving) → Each Alternate (neighbours_among k (loans gs))
loans_alternate k [] = tt
loans_alternate k (g ∷ gs) = (tt, (((out_in, tt), tt), loans_alternate (k + 2) gs))

keeps_neighbours : (n : ℕ) → Each KeepsNeighbours (arbiter n)
keeps_neighbours n = each_process KeepsNeighbours n
    (λ i some. (tt, (((in_out, tt), tt), (((out_in, tt), tt), (((in_out, tt), tt), tt)))))
    (each_join Alternate (neighbours_among 1 (loans (map giving (clients n)))) (record { lasts = []; firsts = firsts_among 1 (loans (map giving (clients n))) } ∷ []) (loans_alternate 1 (map giving (clients n))) (tt, tt))

first_loans : (k : ℕ) (gs : List Giving) → Each (λ b. Input ≢ dir_of b.marks) (firsts_among k (loans gs))
first_loans k [] = tt
first_loans k (g ∷ gs) = (in_out, first_loans (k + 2) gs)

last_loans : (k : ℕ) (gs : List Giving) → Each (λ b. dir_of b.marks ≡ Input) (lasts_among k (loans gs))
last_loans k [] = tt
last_loans k (g ∷ gs) = (refl, last_loans (k + 2) gs)

keeps_rounds : (n : ℕ) → Each KeepsRounds (arbiter n)
keeps_rounds n = each_process KeepsRounds n (λ i some. ((out_in, tt), tt)) turn
  where
    ls : List Burst
    ls = lasts_among 1 (loans (map giving (clients n)))

    fs : List Burst
    fs = firsts_among 1 (loans (map giving (clients n)))

    turn : Each (λ x. Each (λ y. dir_of x.marks ≢ dir_of y.marks) (firsts_among 1 (loans (map giving (clients n))))) (lasts_among 1 (loans (map giving (clients n))))
    turn = each_map (λ b. dir_of b.marks ≡ Input) (λ x. Each (λ y. dir_of x.marks ≢ dir_of y.marks) (firsts_among 1 (loans (map giving (clients n))))) (lasts_among 1 (loans (map giving (clients n))))
        (λ x e. subst (λ d. Each (λ y. d ≢ dir_of y.marks) (firsts_among 1 (loans (map giving (clients n))))) (sym e) (first_loans 1 (map giving (clients n))))
        (last_loans 1 (map giving (clients n)))

keeps_choices : (n : ℕ) → 2 ≤ n → Each KeepsChoices (arbiter n)
keeps_choices n h = each_process KeepsChoices n (λ i some other. tt) (λ other. absurd (other (is_grant n h)))

keeps_twins : (n : ℕ) → 2 ≤ n → Each KeepsTwins (arbiter n)
keeps_twins n h = each_process KeepsTwins n (λ i some other. tt) (λ other. absurd (other (is_grant n h)))

-- the symbol of a burst of one mark
the_symbol : (k a : ℕ) (m : Mark) → Has (record { place = k; marks = m ∷ [] }) a → a ≡ m.sym.0
the_symbol k a m h = eqb-true a m.sym.0 (by (nat_eq a m.sym.0) h) where
  by : (b : Bool) → (b || false) ≡ true → b ≡ true
  by true e = refl
  by false e = e

keeps_overlaps : (n : ℕ) → 2 ≤ n → Each KeepsOverlaps (arbiter n)
keeps_overlaps n h = each_process KeepsOverlaps n (λ i some other. ((inr (apart i some), tt), (tt, tt))) (λ other. absurd (other (is_grant n h)))
  where
    apart : (i : ℕ) → 0 < i → Disjoint (record { place = 1; marks = input (asks i) ∷ [] }) (record { place = 3; marks = input (returned i) ∷ [] })
    apart i some a p q = omega (arith, some, the_symbol 1 a (input (asks i)) p, the_symbol 3 a (input (returned i)) q)

-- ---- inputs have even numbers, and outputs odd ones

Told : Mark → Type 0
Told m = (k : ℕ) × (((m.sym.0 ≡ 2 * k) × (m.dir ≡ Input)) ⊎ ((m.sym.0 ≡ 2 * k + 1) × (m.dir ≡ Output)))

two_told : (m n : Mark) → Told m → Told n → m.sym.0 ≡ n.sym.0 → m.dir ≡ n.dir
unfolding Told
two_told m n (j, inl a) (k, inl b) e = a.1 ∙ sym b.1
two_told m n (j, inl a) (k, inr b) e = absurd (omega (arith, a.0, b.0, e))
two_told m n (j, inr a) (k, inl b) e = absurd (omega (arith, a.0, b.0, e))
two_told m n (j, inr a) (k, inr b) e = a.1 ∙ sym b.1

all_told : (ms : List Mark) → Each Told ms → EachTwo (λ m n. m.sym.0 ≡ n.sym.0 → m.dir ≡ n.dir) ms
all_told [] h = tt
all_told (m ∷ ms) h = (each_map Told (λ n. m.sym.0 ≡ n.sym.0 → m.dir ≡ n.dir) ms (λ n t. two_told m n h.0 t) h.1, all_told ms h.1)

told_input : (a k : ℕ) → a ≡ 2 * k → Told (input a)
unfolding Told
told_input a k e = (k, inl (e, refl))

told_output : (a k : ℕ) → a ≡ 2 * k + 1 → Told (output a)
unfolding Told
told_output a k e = (k, inr (e, refl))

client_told : (j k : ℕ) → 0 < j → Each Told (marks_of_all (map client (range_with_len j k)))
client_told j zero some = tt
client_told j (suc k) some = (
  told_input (asks j) (2 * j - 2) (omega arith),
  (
    told_output (granted j) (2 * j - 2) (omega arith),
    (
      told_input (returned j) (2 * j - 1) (omega arith),
      (
        told_output (ended j) (2 * j - 1) (omega arith),
        client_told (j + 1) k (omega arith),
      ),
    ),
  ),
)

grant_told : (j k : ℕ) → 0 < j → Each Told (marks_among (loans (map giving (range_with_len j k))))
grant_told j zero some = tt
grant_told j (suc k) some = (
  told_output (granted j) (2 * j - 2) (omega arith),
  (
    told_input (returned j) (2 * j - 1) (omega arith),
    grant_told (j + 1) k (omega arith),
  ),
)

keeps_directions : (n : ℕ) → KeepsDirections (arbiter n)
keeps_directions n =
    let own = marks_among (loans (map giving (clients n))) in
    let last : Each Told (marks_of_all (grant n ∷ [])) = each_join Told (own ++ []) [] (each_join Told own [] (grant_told 1 n (omega arith)) tt) tt in
    let both = each_join Told (marks_of_all (map client (clients n))) (marks_of_all (grant n ∷ [])) (client_told 1 n (omega arith)) last in
    all_told (marks_of_all (arbiter n)) (subst (Each Told) (sym (marks_of_both (map client (clients n)) (grant n ∷ []))) both)

-- ---- the symbols that are granted

each_gift : (P : ℕ → Type 0) (k j c : ℕ) → ((i : ℕ) → j ≤ i → i < j + c → P (granted i)) → Each (λ g. P g.symbol) (gifts_from k 2 (granted_of (map giving (range_with_len j c))))
each_gift P k j zero h = tt
each_gift P k j (suc c) h = (h j (omega arith) (omega arith), each_gift P (k + 2) (j + 1) c (λ i l m. h i (omega arith) (omega arith)))

gifts_differ : (k j c : ℕ) → 0 < j → EachTwo (λ g h. g.symbol ≢ h.symbol) (gifts_from k 2 (granted_of (map giving (range_with_len j c))))
gifts_differ k j zero some = tt
gifts_differ k j (suc c) some = (each_gift (λ a. granted j ≢ a) (k + 2) (j + 1) c (λ i l m e. omega (arith, l, e)), gifts_differ (k + 2) (j + 1) c (omega arith))

keeps_granted : (n : ℕ) → 2 ≤ n → Each KeepsGranted (arbiter n)
unfolding gifts_of
keeps_granted n h = each_process KeepsGranted n (λ i some gs g. absurd (no_grant i (gs, g))) own
  where
    own : KeepsGranted (grant n)
    own gs g = subst (EachTwo (λ g h. g.symbol ≢ h.symbol)) (grants_one (grant n) (gifts_of n) gs (grants n h) g) (gifts_differ 1 1 n (omega arith))

-- client i has the symbol that it is granted
stands : (i : ℕ) → IsTrue (has_symbol (marks_of_proc (client i)) (granted i))
stands i = by (nat_eq (granted i) (asks i)) (nat_eq (granted i) (granted i)) (is_in (granted i) (returned i ∷ ended i ∷ [])) (eq-eqb (granted i) (granted i) refl) where
  by : (x y z : Bool) → y ≡ true → (x || (y || z)) ≡ true
  by true y z e = refl
  by false y z e = ap (λ b. b || z) e

has_home : (n i : ℕ) → 1 ≤ i → i < 1 + n → HasHome (arbiter n) (granted i)
has_home n i l m = record {
  home = client i;
  within = within_front (map client (clients n)) (grant n ∷ []) (client i) (within_ranged client 1 n i l m);
  no_grant = no_grant i;
  stands = stands i;
}

keeps_homes : (n : ℕ) → 2 ≤ n → KeepsHomes (arbiter n)
unfolding gifts_of
keeps_homes n h q p gs w g =
    let here = the_grant n q p w (gs, g) in
    let same : gifts_of n ≡ gs = grants_one (grant n) (gifts_of n) gs (grants n h) (subst (λ r. Grants r gs) here.0 g) in
    let alone : (a : ℕ) → IsElsewhere (arbiter n) q a → ⊥ = λ a e. e.other ((the_grant n e.number e.grant e.numbered e.grants).1 ∙ sym here.1) in
    subst (Each (λ g. HasHome (arbiter n) g.symbol × (IsElsewhere (arbiter n) q g.symbol → ⊥))) same (homes alone)
  where
    homes : ((a : ℕ) → IsElsewhere (arbiter n) q a → ⊥) → Each (λ g. HasHome (arbiter n) g.symbol × (IsElsewhere (arbiter n) q g.symbol → ⊥)) (gifts_of n)
    homes alone = each_gift (λ a. HasHome (arbiter n) a × (IsElsewhere (arbiter n) q a → ⊥)) 1 1 n (λ i l m. (has_home n i l m, alone (granted i)))

pub is_admitted : (n : ℕ) → 2 ≤ n → n ≤ 255 → Admitted (arbiter n)
is_admitted n some few = record {
  bursts = keeps_bursts n;
  neighbours = keeps_neighbours n;
  rounds = keeps_rounds n;
  choices = keeps_choices n some;
  twins = keeps_twins n some;
  overlaps = keeps_overlaps n some;
  directions = keeps_directions n;
  granted = keeps_granted n some;
  homes = keeps_homes n some;
}
