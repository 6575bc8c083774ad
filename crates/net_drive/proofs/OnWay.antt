-- The loop that draws.
use Rattle.std.proofs.Common.{◌≡◌, inl, inr, Option, Some, None, ℕ, suc, ◌+◌, ◌-◌, ◌*◌, ◌%◌, ◌<◌, ◌≤◌, Bool, List, [], ◌∷◌, ◌++◌, length, map, refl, sym, ap, ◌∙◌, subst, arith, append-nil, append_assoc}
use Rattle.std.proofs.lemmas.List.{length-append}
use Rattle.std.proofs.Math.Nat.{add-mul, mul-add, one-mul}
use Rattle.rand_pcg.specs.Lcg.{Lcg}
use Rattle.rand_pcg.specs.Pcg.{pcg32}
use Rattle.net_core.specs.Runs.{State, start, grow}
use Rattle.net_core.specs.Runs as runs
use Rattle.net_core.specs.Networks.{takes, end_node, end_port}
use Rattle.net_core.proofs.Updates.{grow_same, grow_other}
use Rattle.std.proofs.lemmas.Bool.{cases_eq}
use Rattle.net_core.specs.Wiring.{Circuit}
use Rattle.replay.specs.declared.event.Event.{Event}
use Rattle.replay.specs.declared.event.Answer.TheVariants.{Done}
use Rattle.replay.specs.Answers.{Course, event_of, left_by, IsAnswer, state_of, state_after}
use Rattle.replay.proofs.Judging.{after_more}
use Rattle.net_drive.specs.declared.driving.Stop.{Stop}
use Rattle.net_drive.specs.declared.driving.Stop.TheVariants.{All}
use Rattle.std.specs.Prelude.{slice_get}
use Rattle.net_drive.specs.Bits.{trues}
use Rattle.net_drive.specs.Drawn.{Draws, Drawn, ended, quiet, hazard, applied, possible, IsListing}
use Rattle.net_drive.specs.Mirror.Refreshing.{AllRight}
use Rattle.net_drive.specs.Mirror.Driving.{IsOnWay, picked}
use Rattle.net_drive.proofs.Listing.{none_listed, draws}

module _ (c : Circuit) (first : Lcg) (steps taken : ℕ) (r : Course) (g : Lcg) (events : List Event)
    (w : IsOnWay c first steps taken r g events) where
  pub at_end : steps ≤ taken → taken ≤ steps → Drawn c steps first start events All
  at_end low high =
      let none : 0 + taken ≡ steps = omega (arith, low, high) in
      subst (λ xs. Drawn c steps first start xs All) (append-nil events) (w.rest 0 [] All none (ended g (state_of r)))

  pub at_stop : (stop : Stop) → taken < steps → ((n : ℕ) → Drawn r.net (suc n) g (state_of r) [] stop) → Drawn c steps first start events stop
  at_stop stop less d =
      let left : suc (steps - taken - 1) + taken ≡ steps = omega (arith, less) in
      subst (λ xs. Drawn c steps first start xs stop) (append-nil events)
      (w.rest (suc (steps - taken - 1)) [] stop left (subst (λ (net : Circuit). Drawn net (suc (steps - taken - 1)) g (state_of r) [] stop) w.net (d (steps - taken - 1))))

  pub one_on : (e : Event) (q : Course) (h : Lcg) (more : List Event) → taken < steps → Draws r.net (state_of r) (pcg32 g).0 e
      → IsAnswer r.net (state_of r) e Done → h ≡ (pcg32 g).1 → q ≡ record r { events = r.events ++ e ∷ []; room = r.room - 1 }
      → more ≡ events ++ e ∷ [] → IsOnWay c first steps (taken + 1) q h more
  one_on e q h more less draw done word is longer =
      let state : state_of q ≡ left_by r.net (state_of r) (event_of r.net e) = ap state_of is ∙ after_more r.net start r.events e in
      record {
        net = ap (λ (u : Course). u.net) is ∙ w.net;
        applied = ap (λ (u : Course). u.events) is ∙ ap (λ xs. xs ++ e ∷ []) w.applied ∙ sym longer;
        many = (let l = ap length longer in let a = length-append events (e ∷ []) in omega (arith, l, a, w.many));
        room = (let m = ap (λ (u : Course). u.room) is in omega (arith, m, w.room, less));
        rest = λ n es stop left d.
            let next : suc n + taken ≡ steps = omega (arith, left) in
            let here : Drawn c n (pcg32 g).1 (left_by c (state_of r) (event_of c e)) es stop =
            subst (λ (net : Circuit). Drawn c n (pcg32 g).1 (left_by net (state_of r) (event_of net e)) es stop) w.net
            (subst (λ u. Drawn c n (pcg32 g).1 u es stop) state (subst (λ k. Drawn c n k (state_of q) es stop) word d)) in
            let all : Drawn c (suc n) g (state_of r) (e ∷ es) stop = applied n g (state_of r) e es stop
            (subst (λ (net : Circuit). Draws net (state_of r) (pcg32 g).0 e) w.net draw)
            (subst (λ (net : Circuit). IsAnswer net (state_of r) e Done) w.net done) here in
            subst (λ xs. Drawn c steps first start xs stop) (sym (append_assoc events (e ∷ []) es) ∙ ap (λ xs. xs ++ es) (sym longer))
            (w.rest (suc n) (e ∷ es) stop next all);
      }

-- a step more asks no more
pub asked_more : (a b first taken w : ℕ) → a ≤ first + taken * w → b ≤ a + w → b ≤ first + (taken + 1) * w
asked_more a b first taken w h k = let d = add-mul taken 1 w in let o = one-mul w in omega (arith, h, k, d, o)

-- ---- what the environment saw

one_seen : (t : ℕ → List ℕ) (n p : ℕ) → length (grow t n p 0) ≤ length (t 0) + 1
one_seen t n p = elim (cases_eq 0 n) [
  | inl e ↦ (let same = ap (λ (xs : List ℕ). length xs) (grow_same t n p 0 e) in let a = length-append (t 0) (p ∷ []) in omega (arith, same, a))
  | inr ne ↦ (let same = ap (λ (xs : List ℕ). length xs) (grow_other t n p 0 ne) in omega (arith, same))
]

left_seen : (c : Circuit) (s : State) (o : Option runs.Event) → length ((left_by c s o).trace 0) ≤ length (s.trace 0) + 1
left_seen c s None = omega arith
left_seen c s (Some (runs.Fire n p)) = one_seen s.trace n p
left_seen c s (Some (runs.Pass w)) = one_seen s.trace (end_node (takes c) c w) (end_port (takes c) c w)

-- each event shows one symbol at most
pub seen_low : (c : Circuit) (s : State) (es : List Event) → length ((state_after c s es).trace 0) ≤ length (s.trace 0) + length es
seen_low c s [] = omega arith
seen_low c s (e ∷ es) = omega (arith, seen_low c (left_by c s (event_of c e)) es, left_seen c s (event_of c e))

-- ---- what is drawn in a step

module _ (c : Circuit) (s : State) (planned : List Event) (bits : List Bool) (is : planned ≡ possible c) (right : AllRight c s planned bits) where
  right_here : AllRight c s (possible c) bits
  right_here = subst (λ (es : List Event). AllRight c s es bits) is right

  pub none_to_draw : trues bits ≡ 0 → IsListing c s (possible c) []
  none_to_draw = none_listed c s bits right_here

pub word_draws : (c : Circuit) (s : State) (planned es : List Event) (bits : List Bool) (word : ℕ) (e : Event) → planned ≡ possible c → es ≡ planned
    → AllRight c s planned bits → 0 < trues bits → slice_get (picked bits es) (word % trues bits) ≡ Some e → Draws c s word e
word_draws c s planned es bits word e is same right some at =
    draws c s bits word e (right_here c s planned bits is right) some
    (subst (λ (xs : List Event). slice_get (picked bits xs) (word % trues bits) ≡ Some e) (same ∙ is) at)

-- after the event and the update the bits are right
pub right_next : (r q u : Course) (e : Event) (es : List Event) (old new : List Bool) → q ≡ record r { events = r.events ++ e ∷ []; room = r.room - 1 }
    → u ≡ q → AllRight r.net (state_of r) es old → IsAnswer r.net (state_of r) e Done
    → {E : Type 0} → ((s : State) → AllRight q.net s es old → IsAnswer q.net s e Done → state_of q ≡ left_by q.net s (event_of q.net e) → E
    → AllRight q.net (state_of q) es new)
    → E → AllRight u.net (state_of u) es new
right_next r q u e es old new is same right done update early =
    let net : q.net ≡ r.net = ap (λ (v : Course). v.net) is in
    let state : state_of q ≡ left_by q.net (state_of r) (event_of q.net e) =
    ap state_of is ∙ after_more r.net start r.events e ∙ ap (λ (d : Circuit). left_by d (state_of r) (event_of d e)) (sym net) in
    subst (λ (v : Course). AllRight v.net (state_of v) es new) (sym same)
    (update (state_of r) (subst (λ (d : Circuit). AllRight d (state_of r) es old) (sym net) right)
    (subst (λ (d : Circuit). IsAnswer d (state_of r) e Done) (sym net) done) state early)

-- ---- the whole run

pub drawn_few : (c : Circuit) (n : ℕ) (g : Lcg) (s : State) (es : List Event) (stop : Stop) → Drawn c n g s es stop → length es ≤ n
drawn_few c n g s es stop (ended _ _) = omega arith
drawn_few c n g s es stop (quiet m _ _ l) = omega arith
drawn_few c n g s es stop (hazard m _ _ e x d h ne) = omega arith
drawn_few c n g s es stop (applied m _ _ e xs _ d h r) = omega (arith, drawn_few c m (pcg32 g).1 (left_by c s (event_of c e)) xs stop r)

pub mapped_none : {A B : Type 0} (f : A → B) (xs : List A) → map f xs ≡ [] → xs ≡ []
mapped_none f [] e = refl
mapped_none f (x ∷ xs) e = absurd (cc)

-- the bound that is asked for is wider
pub asked_wide : (a x k w : ℕ) → a ≤ x + k * (1 + w) → a ≤ x + k * (1 + 2 * w)
asked_wide a x k w h =
    let twice : 1 + 2 * w ≡ 1 + w + w = omega arith in
    let d : k * (1 + w + w) ≡ k * (1 + w) + k * w = mul-add k (1 + w) w in
    let is : k * (1 + 2 * w) ≡ k * (1 + w) + k * w = ap (λ m. k * m) twice ∙ d in
    omega (arith, h, is)
