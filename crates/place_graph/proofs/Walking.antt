-- The machine of a process and that of its legs take the same steps, and moves make the fronts of walks.
use Rattle.std.proofs.Common.{◌≡◌, ◌↔◌, ℕ, ◌<◌, List, [], ◌∷◌, ◌++◌, length, IsTrue, refl, sym, ap, ◌∙◌, subst, append-nil, arith, IsPermutation, Option}
use Rattle.std.proofs.lemmas.List.Sorted.{IsPermutation-refl}
use Rattle.cmd_tree.specs.declared.tree.Mark.{Mark}
use Rattle.cmd_tree.specs.declared.tree.Proc.{Proc}
use Rattle.cmd_tree.specs.Tree.{TSeq}
use Rattle.cmd_tree.specs.Limits.{IsProc}
use Rattle.cmd_tree.specs.Meaning.{Cut, symbols, TraceOf}
use Rattle.cmd_tree.specs.Lists.{is_in}
use Rattle.cmd_tree.specs.Residual.{without, Next, Left, Step, within as waits, opens, Runs, lead_of, start}
use Rattle.cmd_tree.proofs.Bursts.{take_perm, put_perm, perm_nil, nil_perm}
use Rattle.cmd_tree.proofs.Paths.{trace_runs}
use Rattle.place_graph.specs.declared.leg.Leg.{Leg}
use Rattle.place_graph.specs.Points.{legs, Among}
use Rattle.place_graph.specs.Walks.{Walk, ends, goes, GraphTrace, Here, Move, within, leaves, Moves, begin}
use Rattle.place_graph.proofs.PointSteps.{like_same, Fits, Comes, Led, Goes}
use Rattle.place_graph.proofs.Rests.{left_at, leg_comes, leg_goes, begin_goes, legs_some}

-- ---- both machines take the same steps

module _ (body : Option TSeq) (g : ℕ → TSeq) (L : List Leg) where
  move_step : ((l : Leg) → Among L l → Comes body g l) → (d : Here) (a : ℕ) (f : Here) (r : TSeq)
      → Move L d a f → Fits body g d.point r
      → (q : TSeq) × Step body (record { pending = d.pending; rest = r }) a
      (record { pending = f.pending; rest = q }) × Fits body g f.point q
  move_step come _ _ _ r (within d a there)
      fit = (r, waits (record { pending = d.pending; rest = r }) a there, fit)
  move_step come _ _ _ r (leaves d a l none among at there) fit =
      let k = come l among in
      let next : Next body r l.marks k.rest = (fit l.marks k.rest).0
      (subst (λ x. Next body (g x) l.marks k.rest) at k.next) in
      (k.rest, opens (record { pending = d.pending; rest = r }) a l.marks k.rest none next there, k.fits)

  runs_from_moves : ((l : Leg) → Among L l → Comes body g l) → (t : List ℕ) (d : Here) (r : TSeq)
      → Fits body g d.point r → Moves L d t → Runs body (record { pending = d.pending; rest = r }) t
  runs_from_moves come [] d r fit m = tt
  runs_from_moves come (a ∷ t) d r fit m =
      let s = move_step come d a m.0 r m.1 fit in
      (record { pending = m.0.pending; rest = s.0 }, s.1, runs_from_moves come t m.0 s.0 s.2 m.2)

  step_move : ((l : Leg) → Among L l → Goes body g L l.to) → (c : Left) (a : ℕ) (e : Left) (x : ℕ)
      → Step body c a e → Fits body g x c.rest → Goes body g L x
      → (y : ℕ) × Move L (record { pending = c.pending; point = x }) a
      (record { pending = e.pending; point = y }) × Fits body g y e.rest × Goes body g L y
  step_move on _ _ _ x (waits c a there) fit
      go = (x, within (record { pending = c.pending; point = x }) a there, fit, go)
  step_move on _ _ _ x (opens c a ms r none next there) fit go =
      let d : Led body g L x ms r = go ms r ((fit ms r).1 next) in
      let move : Move L (record { pending = c.pending; point = x }) a
      (record { pending = without a (symbols d.leg.marks); point = d.leg.to }) = leaves
      (record { pending = c.pending; point = x }) a d.leg none d.among d.leaves
      (subst (λ m. IsTrue (is_in a (symbols m))) (sym d.marks) there) in (
        d.leg.to,
        subst
            (λ m. Move L (record { pending = c.pending; point = x }) a
            (record { pending = without a (symbols m); point = d.leg.to })) d.marks move,
        d.fits,
        on d.leg
            d.among,
      )

  moves_from_runs : ((l : Leg) → Among L l → Goes body g L l.to) → (t : List ℕ) (c : Left) (x : ℕ)
      → Fits body g x c.rest → Goes body g L x → Runs body c t
      → Moves L (record { pending = c.pending; point = x }) t
  moves_from_runs on [] c x fit go r = tt
  moves_from_runs on (a ∷ t) c x fit go r =
      let s = step_move on c a r.0 x r.1 fit go in
      (record { pending = r.0.pending; point = s.0 }, s.1, moves_from_runs on t r.0 s.0 s.2 s.3 r.2)

pub trace_moves : (p : Proc) → IsProc p → (t : List ℕ) → TraceOf p t ↔ Moves (legs p) begin t
trace_moves p h t = (
  λ k. moves_from_runs p.body (left_at p) (legs p) (leg_goes p h) t (start p) 1
      (like_same p.body (lead_of p.lead) (lead_of p.lead) refl) (begin_goes p h) ((trace_runs p h t).0 k),
  λ m. (trace_runs p h t).1
      (runs_from_moves p.body (left_at p) (legs p) (leg_comes p h) t begin (lead_of p.lead)
      (like_same p.body (lead_of p.lead) (lead_of p.lead) refl) m),
)

-- ---- moves make walks

module _ (L : List Leg) where
  -- a way to end the leg under way, and walk on
  abbrev pub Ends : Here → List ℕ → Type 0
  Ends c = Cut (IsPermutation c.pending) (Walk L c.point)

  ends_from_move : (c : Here) (a : ℕ) (d : Here) (w : List ℕ) → Move L c a d → Ends d w → Ends c (a ∷ w)
  ends_from_move _ _ _ w (within c a there) k = record {
    front = a ∷ k.front;
    back = k.back;
    joins = ap (λ x. a ∷ x) k.joins;
    first = put_perm c.pending a k.front there k.first;
    second = k.second;
  }
  ends_from_move _ _ _ w (leaves c a l none among at there) k = record {
    front = [];
    back = a ∷ w;
    joins = refl;
    first = subst (λ x. IsPermutation x []) (sym none) (IsPermutation-refl []);
    second = goes c.point l (a ∷ w) (a ∷ k.front) k.back among at (ap (λ x. a ∷ x) k.joins)
        (put_perm (symbols l.marks) a k.front there k.first) k.second;
  }

  ends_from_moves : (t : List ℕ) (c : Here) → Moves L c t → (u : List ℕ) × Ends c (t ++ u)
  ends_from_moves [] c
      m = (
        c.pending,
        record {
          front = c.pending;
          back = [];
          joins = sym (append-nil c.pending);
          first = IsPermutation-refl
              c.pending;
          second = ends c.point;
        },
      )
  ends_from_moves (a ∷ t) c m =
      let k = ends_from_moves t m.0 m.2 in
      (k.0, ends_from_move c a m.0 (t ++ k.0) m.1 k.1)

  module _ (some : (l : Leg) → Among L l → 0 < length l.marks) where
    none_nil : (ms : List Mark) → 0 < length ms → symbols ms ≡ [] → ⊥
    none_nil [] h e = omega arith
    none_nil (m ∷ ms) h e = cc

    record Leaving (x a : ℕ) (w : List ℕ) : Type 0 where
      pub leg : Leg
      pub among : Among L leg
      pub at : leg.from ≡ x
      pub there : IsTrue (is_in a (symbols leg.marks))
      pub left : Cut (IsPermutation (without a (symbols leg.marks))) (Walk L leg.to) w

    leaving_leg : (x : ℕ) (l : Leg) → Among L l → l.from ≡ x → (a : ℕ) (w u v : List ℕ) → a ∷ w ≡ u ++ v
        → IsPermutation (symbols l.marks) u → Walk L l.to v → Leaving x a w
    leaving_leg x l among at a w [] v e p k = absurd
        (none_nil l.marks (some l among) (perm_nil (symbols l.marks) p))
    leaving_leg x l among at a w (y ∷ u) v e p k =
        let same : y ≡ a = cc in
        let after : w ≡ u ++ v = cc in
        let t = take_perm (symbols l.marks) a u
        (subst (λ z. IsPermutation (symbols l.marks) (z ∷ u)) same p) in
        record {
          leg = l;
          among = among;
          at = at;
          there = t.0;
          left = record { front = u; back = v; joins = after; first = t.1; second = k };
        }

    leaving : (x : ℕ) (t : List ℕ) → Walk L x t → (a : ℕ) (w : List ℕ) → t ≡ a ∷ w → Leaving x a w
    leaving _ _ (ends x) a w e = absurd (cc)
    leaving _ _ (goes x l t u v among at j p k) a w e = leaving_leg x l among at a w u v (sym e ∙ j) p k

    move_from_ends : (c : Here) (a : ℕ) (w f b : List ℕ) → a ∷ w ≡ f ++ b → IsPermutation c.pending f
        → Walk L c.point b → (d : Here) × Move L c a d × Ends d w
    move_from_ends c a w [] b e p k =
        let o = leaving c.point b k a w (sym e) in (
          record { pending = without a (symbols o.leg.marks); point = o.leg.to },
          leaves c a o.leg
              (perm_nil c.pending p) o.among o.at o.there,
          o.left,
        )
    move_from_ends c a w (y ∷ f) b e p k =
        let same : y ≡ a = cc in
        let after : w ≡ f ++ b = cc in
        let t = take_perm c.pending a f (subst (λ z. IsPermutation c.pending (z ∷ f)) same p) in (
          record { pending = without a c.pending; point = c.point },
          within c a t.0,
          record { front = f; back = b; joins = after; first = t.1; second = k },
        )

    moves_from_ends : (t : List ℕ) (c : Here) (u : List ℕ) → Ends c (t ++ u) → Moves L c t
    moves_from_ends [] c u k = tt
    moves_from_ends (a ∷ t) c u k =
        let m = move_from_ends c a (t ++ u) k.front k.back k.joins k.first k.second in
        (m.0, m.1, moves_from_ends t m.0 u m.2)

    pub moves_are_walks : (t : List ℕ) → Moves L begin t ↔ GraphTrace L t
    moves_are_walks t = (
      λ m.
          let k = ends_from_moves t begin m in
          let none : k.1.front ≡ [] = nil_perm k.1.front k.1.first in
          let same : k.1.back ≡ t ++ k.0 = sym (k.1.joins ∙ ap (λ x. x ++ k.1.back) none) in
          (k.0, subst (λ x. Walk L 1 x) same k.1.second),
      λ k. moves_from_ends t begin k.0
          (record {
            front = [];
            back = t ++ k.0;
            joins = refl;
            first = IsPermutation-refl [];
            second = k.1;
          }),
    )

pub trace_walks : (p : Proc) → IsProc p → (t : List ℕ) → TraceOf p t ↔ GraphTrace (legs p) t
trace_walks p h t =
    let w = moves_are_walks (legs p) (legs_some p h) t in
    (λ k. w.0 ((trace_moves p h t).0 k), λ k. (trace_moves p h t).1 (w.1 k))
