-- The traces of a process are the paths of its steps.
use Rattle.std.proofs.Common.{◌≡◌, ◌↔◌, ℕ, List, [], ◌∷◌, ◌++◌, IsTrue, refl, sym, ap, ◌∙◌, subst, append_assoc, IsPermutation, Option, Some, None}
use Rattle.std.proofs.lemmas.List.Sorted.{IsPermutation-refl}
use Rattle.cmd_tree.specs.declared.tree.Mark.{Mark}
use Rattle.cmd_tree.specs.declared.tree.Proc.{Proc}
use Rattle.cmd_tree.specs.Tree.{TSeq, Done, Then}
use Rattle.cmd_tree.specs.Limits.{IsSeq, IsFull, IsPart, IsProc}
use Rattle.cmd_tree.specs.Meaning.{Cut, Star, stop, turn, symbols, Whole, WholeLead, Turns, TraceOf}
use Rattle.cmd_tree.specs.Lists.{is_in}
use Rattle.cmd_tree.specs.Residual.{without, FirstOf, FirstOfBody, Left, Next, Step, within, opens, Runs, lead_of, start}
use Rattle.cmd_tree.proofs.Bursts.{take_perm, put_perm, perm_nil, nil_perm}
use Rattle.cmd_tree.proofs.Cuts.{full_seq, nonempty_full, some_whole, begins_seq, whole_of, left_of}

-- what may still happen until a turn ends: the pending symbols, the rest, and turns
abbrev pub Rest : Option TSeq → Left → List ℕ → Type 0
Rest body c = Cut (IsPermutation c.pending) (Cut (Whole c.rest) (Turns body))

-- ---- from what may still happen to a step

-- a burst that begins with a, what is left of it, and what comes then
record Opening (F : List Mark → TSeq → Type 0) (body : Option TSeq) (a : ℕ) (w : List ℕ) : Type 0 where
  pub marks : List Mark
  pub then_left : TSeq
  pub is_first : F marks then_left
  pub there : IsTrue (is_in a (symbols marks))
  pub left : Cut (IsPermutation (without a (symbols marks))) (Cut (Whole then_left) (Turns body)) w

opening : (body : Option TSeq) (s : TSeq) → IsFull s → (a : ℕ) (w f b : List ℕ) → a ∷ w ≡ f ++ b → Whole s f → Turns body b → Opening (FirstOf s) body a w
opening body s h a w [] b e p q = absurd (nonempty_full s h p)
opening body s h a w (x ∷ f) b e p q =
    let same : x ≡ a = cc in
    let after : w ≡ f ++ b = cc in
    let g = begins_seq s (full_seq s h) a f (subst (λ y. Whole s (y ∷ f)) same p) in
    record {
      marks = g.marks;
      then_left = g.rest;
      is_first = g.is_first;
      there = g.there;
      left = record {
        front = g.left.front;
        back = g.left.back ++ b;
        joins = after ∙ ap (λ y. y ++ b) g.left.joins ∙ append_assoc g.left.front g.left.back b;
        first = g.left.first;
        second = record { front = g.left.back; back = b; joins = refl; first = g.left.second; second = q };
      };
    }

opening_turn : (b : TSeq) → IsFull b → (t : List ℕ) → Star (Whole b) t → (a : ℕ) (w : List ℕ) → t ≡ a ∷ w → Opening (FirstOf b) (Some b) a w
opening_turn b h _ stop a w e = absurd (cc)
opening_turn b h _ (turn t u v j n p q) a w e = opening (Some b) b h a w u v (sym e ∙ j) p q

opening_body : (body : Option TSeq) → IsPart body → (a : ℕ) (w : List ℕ) → Turns body (a ∷ w) → Opening (FirstOfBody body) body a w
opening_body None h a w e = absurd (cc)
opening_body (Some b) h a w e = opening_turn b h (a ∷ w) e a w refl

opening_rest : (body : Option TSeq) → IsPart body → (r : TSeq) → IsSeq r → (a : ℕ) (w : List ℕ) → Cut (Whole r) (Turns body) (a ∷ w) → Opening (Next body r) body a w
opening_rest body hb Done h a w c = opening_body body hb a w (subst (λ t. Turns body t) (sym (c.joins ∙ ap (λ x. x ++ c.back) c.first)) c.second)
opening_rest body hb (Then i s) h a w c = opening body (Then i s) h a w c.front c.back c.joins c.first c.second

-- what can be left after a burst is whole
left_next : (body : Option TSeq) → IsPart body → (r : TSeq) → IsSeq r → (ms : List Mark) (q : TSeq) → Next body r ms q → IsSeq q
left_next None hb Done h ms q f = absurd f
left_next (Some b) hb Done h ms q f = left_of b ms q (full_seq b hb) f
left_next body hb (Then i s) h ms q f = left_of (Then i s) ms q h f

pub step_seq : (body : Option TSeq) → IsPart body → (c : Left) (a : ℕ) (d : Left) → Step body c a d → IsSeq c.rest → IsSeq d.rest
step_seq body hb _ _ _ (within c a there) h = h
step_seq body hb _ _ _ (opens c a ms r none next there) h = left_next body hb c.rest h ms r next

step_from : (body : Option TSeq) → IsPart body → (c : Left) → IsSeq c.rest → (a : ℕ) (w f b : List ℕ) → a ∷ w ≡ f ++ b → IsPermutation c.pending f → Cut (Whole c.rest) (Turns body) b → (d : Left) × Step body c a d × Rest body d w
step_from body hb c h a w [] b e p q =
    let o : Opening (Next body c.rest) body a w = opening_rest body hb c.rest h a w (subst (λ t. Cut (Whole c.rest) (Turns body) t) (sym e) q) in
    (record { pending = without a (symbols o.marks); rest = o.then_left }, opens c a o.marks o.then_left (perm_nil c.pending p) o.is_first o.there, o.left)
step_from body hb c h a w (x ∷ f) b e p q =
    let same : x ≡ a = cc in
    let after : w ≡ f ++ b = cc in
    let t = take_perm c.pending a f (subst (λ y. IsPermutation c.pending (y ∷ f)) same p) in
    (record { pending = without a c.pending; rest = c.rest }, within c a t.0, record { front = f; back = b; joins = after; first = t.1; second = q })

pub runs_from_rest : (body : Option TSeq) → IsPart body → (t : List ℕ) (c : Left) → IsSeq c.rest → (u : List ℕ) → Rest body c (t ++ u) → Runs body c t
runs_from_rest body hb [] c h u k = tt
runs_from_rest body hb (a ∷ t) c h u k =
    let s = step_from body hb c h a (t ++ u) k.front k.back k.joins k.first k.second in
    (s.0, s.1, runs_from_rest body hb t s.0 (step_seq body hb c a s.0 s.1 h) u s.2)

-- ---- from steps to what may still happen

some_turns : (body : Option TSeq) → Turns body []
some_turns None = refl
some_turns (Some b) = stop

pub some_rest : (body : Option TSeq) (c : Left) → IsSeq c.rest → (u : List ℕ) × Rest body c u
some_rest body c h =
    let w = some_whole c.rest h in (
      c.pending ++ (w.0 ++ []),
      record {
        front = c.pending;
        back = w.0 ++ [];
        joins = refl;
        first = IsPermutation-refl c.pending;
        second = record { front = w.0; back = []; joins = refl; first = w.1; second = some_turns body };
      },
    )

next_rest : (body : Option TSeq) (r : TSeq) (ms : List Mark) (q : TSeq) → Next body r ms q → (a : ℕ) (f b t : List ℕ) → IsPermutation (symbols ms) (a ∷ f) → Whole q b → Turns body t → Cut (Whole r) (Turns body) (a ∷ (f ++ (b ++ t)))
next_rest None Done ms q n a f b t p w s = absurd n
next_rest (Some x) Done ms q n a f b t p w s = record {
  front = [];
  back = a ∷ (f ++ (b ++ t));
  joins = refl;
  first = refl;
  second = turn (a ∷ (f ++ (b ++ t))) (a ∷ (f ++ b)) t (sym (append_assoc (a ∷ f) b t)) (λ e. cc) (whole_of x ms q n (a ∷ f) b p w) s;
}
next_rest body (Then i x) ms q n a f b t p w s = record {
  front = a ∷ (f ++ b);
  back = t;
  joins = sym (append_assoc (a ∷ f) b t);
  first = whole_of (Then i x) ms q n (a ∷ f) b p w;
  second = s;
}

rest_from_step : (body : Option TSeq) (c : Left) (a : ℕ) (d : Left) (w : List ℕ) → Step body c a d → Rest body d w → Rest body c (a ∷ w)
rest_from_step body _ _ _ w (within c a there) k = record {
  front = a ∷ k.front;
  back = k.back;
  joins = ap (λ x. a ∷ x) k.joins;
  first = put_perm c.pending a k.front there k.first;
  second = k.second;
}
rest_from_step body _ _ _ w (opens c a ms r none next there) k =
    let cut = next_rest body c.rest ms r next a k.front k.second.front k.second.back (put_perm (symbols ms) a k.front there k.first) k.second.first k.second.second in
    let same : a ∷ w ≡ a ∷ (k.front ++ (k.second.front ++ k.second.back)) = ap (λ x. a ∷ x) (k.joins ∙ ap (λ x. k.front ++ x) k.second.joins) in
    record {
      front = [];
      back = a ∷ w;
      joins = refl;
      first = subst (λ x. IsPermutation x []) (sym none) (IsPermutation-refl []);
      second = subst (λ x. Cut (Whole c.rest) (Turns body) x) (sym same) cut;
    }

pub rest_from_runs : (body : Option TSeq) → IsPart body → (t : List ℕ) (c : Left) → IsSeq c.rest → Runs body c t → (u : List ℕ) × Rest body c (t ++ u)
rest_from_runs body hb [] c h r = some_rest body c h
rest_from_runs body hb (a ∷ t) c h r =
    let k = rest_from_runs body hb t r.0 (step_seq body hb c a r.0 r.1 h) r.2 in
    (k.0, rest_from_step body c a r.0 (t ++ k.0) r.1 k.1)

-- ---- a process

lead_whole : (l : Option TSeq) (B : List ℕ → Type 0) (t : List ℕ) → Cut (WholeLead l) B t ↔ Cut (Whole (lead_of l)) B t
lead_whole None B t = (λ k. k, λ k. k)
lead_whole (Some s) B t = (λ k. k, λ k. k)

lead_seq : (l : Option TSeq) → IsPart l → IsSeq (lead_of l)
lead_seq None h = tt
lead_seq (Some s) h = full_seq s h

pub trace_runs : (p : Proc) → IsProc p → (t : List ℕ) → TraceOf p t ↔ Runs p.body (start p) t
trace_runs p h t = (
  λ k. runs_from_rest p.body h.2 t (start p) (lead_seq p.lead h.1) k.0 (record {
    front = [];
    back = t ++ k.0;
    joins = refl;
    first = IsPermutation-refl [];
    second = (lead_whole p.lead (Turns p.body) (t ++ k.0)).0 k.1;
  }),
  λ r.
      let k = rest_from_runs p.body h.2 t (start p) (lead_seq p.lead h.1) r in
      let none : k.1.front ≡ [] = nil_perm k.1.front k.1.first in
      let same : k.1.back ≡ t ++ k.0 = sym (k.1.joins ∙ ap (λ x. x ++ k.1.back) none) in
      (k.0, (lead_whole p.lead (Turns p.body) (t ++ k.0)).1 (subst (λ x. Cut (Whole (lead_of p.lead)) (Turns p.body) x) same k.1.second)),
)
