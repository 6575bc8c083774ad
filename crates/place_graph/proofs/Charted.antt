-- The chart of a fair process.
use Rattle.std.proofs.Common.{◌≡◌, ◌≢◌, ◌⊎◌, inl, inr, ⊎_elim, ℕ, ◌+◌, ◌<◌, ◌≤◌, Bool, true, false, true≢false, ◌||◌, cond, nat_eq, List, IsTrue, refl, sym, ap, ◌∙◌, subst, arith, Option, Some, None, count_by, if◌then◌else◌}
use Rattle.std.specs.Prelude.{not, is_some}
use Rattle.std.proofs.lemmas.List.Recursion.{is_count_by}
use Rattle.cmd_tree.specs.declared.tree.Proc.{Proc}
use Rattle.cmd_tree.specs.Tree.{TItem, TSeq, TSeqs, TBurst, TAlt, Stop, Or, Done, Then, places_of, places_in}
use Rattle.cmd_tree.specs.Limits.{IsSeq, IsFull, IsPart, IsProc, of_part}
use Rattle.cmd_tree.specs.Marks.{is_output}
use Rattle.cmd_tree.specs.Meaning.{symbols}
use Rattle.cmd_tree.specs.Residual.{lead_of}
use Rattle.process_laws.specs.Shape.{IsBurst, Alternates, AlternatesIn, AlternatesAmong, IsApart, IsFair, sequence_of}
use Rattle.place_graph.specs.declared.leg.Leg.{Leg}
use Rattle.place_graph.specs.Points.{point, legs_of, legs_in, legs_among, body_place, turn_point, legs, Among}
use Rattle.place_graph.specs.Graph.{is_act}
use Rattle.place_graph.specs.Apart.{HasApart}
use Rattle.place_graph.specs.Drawable.{AreDirections}
use Rattle.place_graph.specs.Tale.{times}
use Rattle.place_graph.specs.Chart.{Has, Increase, LeadsOn, Chart}
use Rattle.place_graph.proofs.Joined.{among_append, among_left, among_right}
use Rattle.place_graph.proofs.Rests.{lead_seq, place_is, legs_some}
use Rattle.place_graph.proofs.LegBounds.{legs_marks}
use Rattle.place_graph.proofs.Ranges.{Range, range_of, increase_join, increase_of}
use Rattle.place_graph.proofs.Turns.{Sound, burst_dir, begins_of, lone_of, one_of, some_leg, leads_more, leads_of, never_meet}

pub times_is : (a : ℕ) (xs : List ℕ) → times a xs ≡ count_by (nat_eq a) xs
times_is a xs = is_count_by (times a) (nat_eq a) refl (λ x ys. by (nat_eq a x) (times a ys)) xs
  where
    by : (b : Bool) (n : ℕ) → (if b then 1 else 0) + n ≡ cond b (1 + n) n
    by true n = refl
    by false n = omega arith

-- ---- each leg is a burst of one direction

abbrev OfBurst : (ℕ → Bool) → Leg → Type 0
OfBurst out l = (d : Bool) × IsBurst out d l.marks

module _ (out : ℕ → Bool) where
  mutual
    burst_of : (k : ℕ) (s : TSeq) (at later : ℕ) (d e : Bool) → Alternates out d s e → (l : Leg)
        → Among (legs_of k s at later) l → OfBurst out l
    burst_of k Done at later d e f l a = absurd a
    burst_of k (Then i s) at later d e f l a = ⊎_elim
        (λ c. burst_in k i at (point (k + places_in i) s later) d f.0 f.1 l c)
        (λ c. burst_of (k + places_in i) s (k + places_in i) later f.0 e f.2 l c)
        (among_append (legs_in k i at (point (k + places_in i) s later))
        (legs_of (k + places_in i) s (k + places_in i) later) l a)

    burst_in : (k : ℕ) (i : TItem) (at later : ℕ) (d e : Bool) → AlternatesIn out d i e → (l : Leg)
        → Among (legs_in k i at later) l → OfBurst out l
    burst_in k (TBurst ms) at later d e f l a = ⊎_elim (λ c. subst (λ m. OfBurst out m) c (d, f.0))
        (λ n. absurd n) a
    burst_in k (TAlt ss) at later d e f l a = burst_among k ss at later d e f.1 l a

    burst_among : (k : ℕ) (ss : TSeqs) (at later : ℕ) (d e : Bool) → AlternatesAmong out d ss e → (l : Leg)
        → Among (legs_among k ss at later) l → OfBurst out l
    burst_among k Stop at later d e f l a = absurd a
    burst_among k (Or s ss) at later d e f l a = ⊎_elim
        (λ c. burst_of k s at later d e f.0 l c)
        (λ c. burst_among (k + places_of s) ss at later d e f.1 l c)
        (among_append (legs_of k s at later) (legs_among (k + places_of s) ss at later) l a)

pub sequence_is : (o : Option TSeq) → sequence_of o ≡ lead_of o
sequence_is None = refl
sequence_is (Some s) = refl

-- ---- the legs of a process

module _ (out : ℕ → Bool) (p : Proc) (h : IsProc p) where
  abbrev lead : TSeq
  lead = lead_of p.lead

  abbrev body : TSeq
  body = lead_of p.body

  abbrev lead_legs : List Leg
  lead_legs = legs_of 1 lead 1 (turn_point p)

  abbrev body_legs : List Leg
  body_legs = legs_of (body_place p) body (body_place p) (turn_point p)

  lead_is : IsSeq lead
  lead_is = lead_seq p.lead h.1

  body_is : IsSeq body
  body_is = lead_seq p.body h.2

  split : (l : Leg) → Among (legs p) l → Among lead_legs l ⊎ Among body_legs l
  split l a = among_append lead_legs body_legs l a

  lead_range : (l : Leg) → Among lead_legs l → Range 1 (places_of lead) 1 l
  lead_range l a = range_of 1 lead 1 (turn_point p) lead_is l a

  body_range : (l : Leg) → Among body_legs l
      → Range (1 + places_of lead) (places_of body) (1 + places_of lead) l
  body_range l a = subst (λ n. Range n (places_of body) n l) (place_is p)
      (range_of (body_place p) body (body_place p) (turn_point p) body_is l a)

  never : (l m : Leg) → Among lead_legs l → Among body_legs m → l.from ≡ m.from → ⊥
  never l m a b e = never_meet 1 (places_of lead) (places_of body) 1 l m (omega arith) (lead_range l a)
      (body_range m b) e

  pub legs_increase : Increase (legs p)
  legs_increase = increase_join lead_legs body_legs (increase_of 1 lead 1 (turn_point p) lead_is)
      (increase_of (body_place p) body (body_place p) (turn_point p) body_is)
      (λ l m a b. omega (arith, (lead_range l a).high, (body_range m b).low))

  -- no leg leads from the end
  pub from_positive : (l : Leg) → Among (legs p) l → 0 < l.from
  from_positive l a = ⊎_elim
      (λ b. ⊎_elim (λ e. omega (arith, e)) (λ e. omega (arith, e)) (lead_range l b).from)
      (λ b. ⊎_elim (λ e. omega (arith, e)) (λ e. omega (arith, e)) (body_range l b).from)
      (split l a)

  pub leg_apart : HasApart p → (l m : Leg) (a : ℕ) → Among (legs p) l → Among (legs p) m → l.from ≡ m.from
      → Has l a → Has m a → l ≡ m
  leg_apart apart l m a b c e x y = ⊎_elim
      (λ u. ⊎_elim
      (λ v. one_of 1 lead 1 (turn_point p) (omega arith) lead_is apart.lead l m a u v e x y)
      (λ v. absurd (never l m u v e))
      (split m c))
      (λ u. ⊎_elim
      (λ v. absurd (never m l v u (sym e)))
      (λ v. one_of (body_place p) body (body_place p) (turn_point p) (omega arith) body_is apart.body l m a
      u v
      e x y)
      (split m c))
      (split l b)

  -- a leg leads from the begin
  pub start_leg : (l : Leg) × Among (legs p) l × (l.from ≡ 1)
  start_leg = by p.lead p.body refl refl h.0 h.1 h.2
    where
      by : (o q : Option TSeq) → p.lead ≡ o → p.body ≡ q → IsTrue (is_some o || is_some q) → IsPart o
          → IsPart q → (l : Leg) × Among (legs p) l × (l.from ≡ 1)
      by None None x y t v w = absurd (true≢false (sym t))
      by None (Some s) x y t v w =
          let k = body_place p in
          let g = some_leg k s k (turn_point p) w in (
            g.0,
            among_right lead_legs body_legs g.0
                (subst (λ L. Among L g.0) (ap (λ z. legs_of k (lead_of z) k (turn_point p)) (sym y)) g.1),
            g.2
                ∙ ap (λ z. 1 + of_part 0 places_of z) x,
          )
      by (Some s) q x y t v w =
          let g = some_leg 1 s 1 (turn_point p) v in (
            g.0,
            among_left lead_legs body_legs g.0
                (subst (λ L. Among L g.0) (ap (λ z. legs_of 1 (lead_of z) 1 (turn_point p)) (sym x)) g.1),
            g.2,
          )

  module _ (f : IsFair out p) (agree : AreDirections out p) where
    sound : (l : Leg) → Among (legs p) l → Sound out l
    sound l a = (legs_some p h l a, legs_marks (λ m. is_output m.dir ≡ out m.sym.0) p agree l a)

    lead_sound : (l : Leg) → Among lead_legs l → Sound out l
    lead_sound l a = sound l (among_left lead_legs body_legs l a)

    body_sound : (l : Leg) → Among body_legs l → Sound out l
    body_sound l a = sound l (among_right lead_legs body_legs l a)

    lead_turns : Alternates out f.first lead f.turn
    lead_turns = subst (λ s. Alternates out f.first s f.turn) (sequence_is p.lead) f.lead

    body_turns : Alternates out f.turn body f.turn
    body_turns = subst (λ s. Alternates out f.turn s f.turn) (sequence_is p.body) f.body

    leg_burst : (l : Leg) → Among (legs p) l → OfBurst out l
    leg_burst l a = ⊎_elim
        (λ b. burst_of out 1 lead 1 (turn_point p) f.first f.turn lead_turns l b)
        (λ b. burst_of out (body_place p) body (body_place p) (turn_point p) f.turn f.turn body_turns l b)
        (split l a)

    pub leg_dirs : (l : Leg) (a : ℕ) → Among (legs p) l → Has l a → out a ≡ is_act l
    leg_dirs l a b c =
        let w = leg_burst l b in
        w.1.one_way a c ∙ sym (burst_dir out w.0 l.marks w.1 (sound l b).0 (sound l b).1)

    pub leg_few : (l : Leg) (a : ℕ) → Among (legs p) l → times a (symbols l.marks) ≤ 1
    leg_few l a b = omega (arith, times_is a (symbols l.marks), (leg_burst l b).1.differ a)

    pub leg_lone : (m l : Leg) → Among (legs p) m → Among (legs p) l → is_act m ≡ true → l.from ≡ m.from
        → l ≡ m
    leg_lone m l a b c e = ⊎_elim
        (λ u. ⊎_elim
        (λ v. lone_of out 1 lead 1 (turn_point p) f.first f.turn (omega arith) lead_is lead_turns lead_sound
        m l u v c e)
        (λ v. absurd (never m l u v (sym e)))
        (split l b))
        (λ u. ⊎_elim
        (λ v. absurd (never l m v u e))
        (λ v. lone_of out (body_place p) body (body_place p) (turn_point p) f.turn f.turn (omega arith)
        body_is body_turns body_sound m l u v c e)
        (split l b))
        (split m a)

    pub leg_one : (l m : Leg) (a : ℕ) → Among (legs p) l → Among (legs p) m → l.from ≡ m.from → Has l a
        → Has m a → l ≡ m
    leg_one = leg_apart (record {
      lead = subst (λ s. IsApart s) (sequence_is p.lead) f.lead_apart;
      body = subst (λ s. IsApart s) (sequence_is p.body) f.body_apart;
    })

    -- ---- where a leg leads

    abbrev Ahead : Leg → Type 0
    Ahead l = LeadsOn (legs p) l ⊎ ((m : Leg) → Among (legs p) m → m.from ≢ l.to)

    flip : (a b : Bool) → a ≡ not b → b ≡ not a
    flip true true x = x
    flip true false x = refl
    flip false true x = refl
    flip false false x = x

    -- where the lead ends, or a turn of the body, the body begins
    turn_on : (s : TSeq) → p.body ≡ Some s → IsFull s → (l : Leg) → l.to ≡ turn_point p
        → is_act l ≡ not f.turn → LeadsOn (legs p) l
    turn_on s z w l e d =
        let k = body_place p in
        let same : legs_of k s k (turn_point p) ≡ body_legs = ap
        (λ q. legs_of k (lead_of q) k (turn_point p)) (sym z) in
        let g = some_leg k s k (turn_point p) w in
        let there : Among body_legs g.0 = subst (λ L. Among L g.0) same g.1 in
        record {
          next = g.0;
          among = among_right lead_legs body_legs g.0 there;
          from = g.2 ∙ sym (e ∙ ap (λ q. of_part 0 (λ r. body_place p) q) z);
          turns = begins_of out k body k (turn_point p) f.turn f.turn (omega arith) body_is body_turns
              body_sound g.0 there g.2 ∙ flip (is_act l) f.turn d;
        }

    -- or the process ends
    turn_ahead : (l : Leg) → l.to ≡ turn_point p → is_act l ≡ not f.turn → Ahead l
    turn_ahead l e d = by p.body refl h.2
      where
        by : (o : Option TSeq) → p.body ≡ o → IsPart o → Ahead l
        by None z w = inr
            (λ m a x. omega (arith, from_positive m a, x, e, ap (λ q. of_part 0 (λ s. body_place p) q) z))
        by (Some s) z w = inl (turn_on s z w l e d)

    pub leg_leads_on : IsTrue (is_some p.body) → (l : Leg) → Among (legs p) l → LeadsOn (legs p) l
    leg_leads_on some l a = by p.body refl some h.2
      where
        by : (o : Option TSeq) → p.body ≡ o → IsTrue (is_some o) → IsPart o → LeadsOn (legs p) l
        by None z t w = absurd (true≢false (sym t))
        by (Some s) z t w = ⊎_elim
            (λ b. ⊎_elim
            (λ x. leads_more lead_legs (legs p) l (λ m c. among_left lead_legs body_legs m c) x)
            (λ x. turn_on s z w l x.0 x.1)
            (leads_of out 1 lead 1 (turn_point p) f.first f.turn (omega arith) lead_is lead_turns lead_sound
            l b))
            (λ b. ⊎_elim
            (λ x. leads_more body_legs (legs p) l (λ m c. among_right lead_legs body_legs m c) x)
            (λ x. turn_on s z w l x.0 x.1)
            (leads_of out (body_place p) body (body_place p) (turn_point p) f.turn f.turn (omega arith)
            body_is body_turns body_sound l b))
            (split l a)

    pub leg_leads : (l : Leg) → Among (legs p) l → Ahead l
    leg_leads l a = ⊎_elim
        (λ b. ⊎_elim
        (λ w. inl (leads_more lead_legs (legs p) l (λ m c. among_left lead_legs body_legs m c) w))
        (λ w. turn_ahead l w.0 w.1)
        (leads_of out 1 lead 1 (turn_point p) f.first f.turn (omega arith) lead_is lead_turns lead_sound l
        b))
        (λ b. ⊎_elim
        (λ w. inl (leads_more body_legs (legs p) l (λ m c. among_right lead_legs body_legs m c) w))
        (λ w. turn_ahead l w.0 w.1)
        (leads_of out (body_place p) body (body_place p) (turn_point p) f.turn f.turn (omega arith) body_is
        body_turns body_sound l b))
        (split l a)

pub charted : (out : ℕ → Bool) (p : Proc) → IsProc p → IsFair out p → AreDirections out p
    → Chart (legs p) out
charted out p h f agree = record {
  increase = legs_increase out p h;
  some = legs_some p h;
  dirs = leg_dirs out p h f agree;
  few = leg_few out p h f agree;
  lone = leg_lone out p h f agree;
  one = leg_one out p h f agree;
  leads = leg_leads out p h f agree;
}
