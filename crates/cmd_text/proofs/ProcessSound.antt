-- A step of the machine of a process: what it has read is spelled by what it has built, and brackets are counted.
use Rattle.std.proofs.Common.{◌≡◌, ℕ, ◌<◌, List, [], ◌∷◌, ◌++◌, length, Option, Some, None, refl, sym, ◌∙◌, ap, arith}
use Rattle.std.specs.Prelude.{⊤}
use Rattle.std.specs.Option.{IfSome}
use Rattle.cmd_tree.specs.declared.tree.Dir.{Dir}
use Rattle.cmd_tree.specs.declared.tree.Dir.TheVariants.{Input, Output}
use Rattle.cmd_tree.specs.declared.tree.Mark.{Mark}
use Rattle.cmd_tree.specs.Tree.{TItem, TSeq, TSeqs, TBurst, TAlt, Stop, Or, Done, Then}
use Rattle.cmd_tree.specs.Limits.{IsSeq, IsItem, AreSeqs, IsFull, IsPart, count_of}
use Rattle.cmd_text.specs.Token.{Token, Semi, Bar, Par, Open, Close, LeftSq, RightSq, Star, Ask, Bang, Word}
use Rattle.cmd_text.specs.Process.{sign_of, mark, more_marks, seq, more, item, among, more_among, process, IsWritten}
use Rattle.cmd_text.specs.Fault.{opened_by}
use Rattle.cmd_text.specs.Mirror.Machine.{Ctx, InBody, InLead, Inside, State, AtForm, AtBody, AtItem, AtMark, AfterItem, AtBurst, AtBurstMark, AfterBurst, AtSecond, Closed, add, add_among, mark_of, lone, widen, close_round, close_square, next_choice, end_lead, step, heard, open_brackets, open_brackets_in}

-- ---- what is well formed so far
abbrev pub IsLeadAlone : Ctx → TSeqs → Type 0
IsLeadAlone InLead Stop = ⊤
IsLeadAlone InLead (Or s ss) = ⊥
IsLeadAlone (InBody l) a = ⊤
IsLeadAlone (Inside k b j) a = ⊤

abbrev pub GoodCtx : Ctx → Type 0
GoodCtx (InBody l) = IsPart l
GoodCtx InLead = ⊤
GoodCtx (Inside k a i) = GoodCtx k × AreSeqs a × IsSeq i × IsLeadAlone k a

pub record GoodAt (k : Ctx) (a : TSeqs) (i : TSeq) : Type 0 where
  pub outer : GoodCtx k
  pub alts : AreSeqs a
  pub items : IsSeq i
  pub alone : IsLeadAlone k a

pub record GoodAfter (k : Ctx) (a : TSeqs) (i : TSeq) : Type 0 where
  pub outer : GoodCtx k
  pub alts : AreSeqs a
  pub items : IsFull i
  pub alone : IsLeadAlone k a

abbrev pub Good : State → Type 0
Good AtForm = ⊤
Good (AtBody l) = IsPart l
Good (AtItem k a i) = GoodAt k a i
Good (AtMark k a i n) = GoodAt k a i
Good (AfterItem k a i) = GoodAfter k a i
Good (AtBurst k a i ms) = GoodAt k a i × (0 < length ms)
Good (AtBurstMark k a i ms n) = GoodAt k a i × (0 < length ms)
Good (AfterBurst k a i ms) = GoodAt k a i × (1 < length ms)
Good (AtSecond l b) = IsFull l × (0 < count_of b) × AreSeqs b
Good (Closed w) = IsWritten w

full_seq : (i : TSeq) → IsFull i → IsSeq i
full_seq Done h = absurd h
full_seq (Then x i) h = h

add_full : (i : TSeq) (x : TItem) → IsSeq i → IsItem x → IsFull (add i x)
add_full Done x h g = (g, tt)
add_full (Then y Done) x h g = (h.0, (g, tt))
add_full (Then y (Then z i)) x h g = (h.0, add_full (Then z i) x h.1 g)

add_seqs : (a : TSeqs) (s : TSeq) → AreSeqs a → IsFull s → AreSeqs (add_among a s)
add_seqs Stop s h g = (g, tt)
add_seqs (Or t ss) s h g = (h.0, add_seqs ss s h.1 g)

add_some : (a : TSeqs) (s : TSeq) → 0 < count_of (add_among a s)
add_some Stop s = omega arith
add_some (Or t ss) s = omega arith

push_some : (ms : List Mark) (m : Mark) → 0 < length ms → 1 < length (ms ++ m ∷ [])
push_some [] m h = omega arith
push_some (n ∷ []) m h = omega arith
push_some (n ∷ p ∷ ms) m h = omega arith

-- the rest of what each state says, when one item more is there
item_in : (k : Ctx) (a : TSeqs) (i : TSeq) (x : TItem) → GoodAt k a i → IsItem x → GoodAfter k a (add i x)
item_in k a i x h g = record { outer = h.outer; alts = h.alts; items = add_full i x h.items g; alone = h.alone }

-- ---- the tokens before a place, each before those of the rest
module _ (name : ℕ → List ℕ) where
  abbrev pub alts_before : TSeqs → List Token → List Token
  alts_before Stop r = r
  alts_before (Or s ss) r = seq name s (Bar ∷ alts_before ss r)

  abbrev pub items_before : TSeq → List Token → List Token
  items_before Done r = r
  items_before (Then i s) r = item name i (Semi ∷ items_before s r)

  abbrev pub body_before : Option TSeq → List Token → List Token
  body_before None r = Star ∷ r
  body_before (Some l) r = LeftSq ∷ seq name l (Semi ∷ Star ∷ r)

  abbrev pub outer_before : Ctx → List Token → List Token
  outer_before (InBody l) r = body_before l (LeftSq ∷ r)
  outer_before InLead r = LeftSq ∷ r
  outer_before (Inside k a i) r = outer_before k (alts_before a (items_before i (Open ∷ r)))

  abbrev pub at_before : Ctx → TSeqs → TSeq → List Token → List Token
  at_before k a i r = outer_before k (alts_before a (items_before i r))

  abbrev pub marks_before : List Mark → List Token → List Token
  marks_before [] r = r
  marks_before (m ∷ ms) r = mark name m (Par ∷ marks_before ms r)

  abbrev pub marks_joined : List Mark → List Token → List Token
  marks_joined [] r = r
  marks_joined (m ∷ ms) r = mark name m (more_marks name ms r)

  abbrev pub before : State → List Token → List Token
  before AtForm r = r
  before (AtBody l) r = body_before l r
  before (AtItem k a i) r = at_before k a i r
  before (AtMark k a i n) r = at_before k a i (Word n ∷ r)
  before (AfterItem k a i) r = outer_before k (alts_before a (seq name i r))
  before (AtBurst k a i ms) r = at_before k a i (Open ∷ marks_before ms r)
  before (AtBurstMark k a i ms n) r = at_before k a i (Open ∷ marks_before ms (Word n ∷ r))
  before (AfterBurst k a i ms) r = at_before k a i (Open ∷ marks_joined ms r)
  before (AtSecond l b) r = LeftSq ∷ seq name l (Semi ∷ Star ∷ LeftSq ∷ among name b (RightSq ∷ r))
  before (Closed w) r = process name w.lead w.body r

  more-item : (i : TSeq) (x : TItem) (r : List Token) → Semi ∷ items_before i (item name x r) ≡ more name (add i x) r
  more-item Done x r = refl
  more-item (Then y i) x r = ap (λ u. Semi ∷ item name y u) (more-item i x r)

  item-say : (i : TSeq) (x : TItem) (r : List Token) → items_before i (item name x r) ≡ seq name (add i x) r
  item-say Done x r = refl
  item-say (Then y i) x r = ap (λ u. item name y u) (more-item i x r)

  more-semi : (i : TSeq) (r : List Token) → more name i (Semi ∷ r) ≡ Semi ∷ items_before i r
  more-semi Done r = refl
  more-semi (Then y i) r = ap (λ u. Semi ∷ item name y u) (more-semi i r)

  semi-say : (i : TSeq) (r : List Token) → IsFull i → seq name i (Semi ∷ r) ≡ items_before i r
  semi-say Done r h = absurd h
  semi-say (Then y i) r h = ap (λ u. item name y u) (more-semi i r)

  more-alt : (a : TSeqs) (s : TSeq) (r : List Token) → Bar ∷ alts_before a (seq name s r) ≡ more_among name (add_among a s) r
  more-alt Stop s r = refl
  more-alt (Or t a) s r = ap (λ u. Bar ∷ seq name t u) (more-alt a s r)

  alt-say : (a : TSeqs) (s : TSeq) (r : List Token) → alts_before a (seq name s r) ≡ among name (add_among a s) r
  alt-say Stop s r = refl
  alt-say (Or t a) s r = ap (λ u. seq name t u) (more-alt a s r)

  bar-say : (a : TSeqs) (s : TSeq) (r : List Token) → alts_before a (seq name s (Bar ∷ r)) ≡ alts_before (add_among a s) r
  bar-say Stop s r = refl
  bar-say (Or t a) s r = ap (λ u. seq name t (Bar ∷ u)) (bar-say a s r)

  more-mark : (ms : List Mark) (m : Mark) (r : List Token) → Par ∷ marks_before ms (mark name m r) ≡ more_marks name (ms ++ m ∷ []) r
  more-mark [] m r = refl
  more-mark (n ∷ ms) m r = ap (λ u. Par ∷ mark name n u) (more-mark ms m r)

  mark-say : (ms : List Mark) (m : Mark) (r : List Token) → marks_before ms (mark name m r) ≡ marks_joined (ms ++ m ∷ []) r
  mark-say [] m r = refl
  mark-say (n ∷ ms) m r = ap (λ u. mark name n u) (more-mark ms m r)

  more-par : (ms : List Mark) (r : List Token) → more_marks name ms (Par ∷ r) ≡ Par ∷ marks_before ms r
  more-par [] r = refl
  more-par (n ∷ ms) r = ap (λ u. Par ∷ mark name n u) (more-par ms r)

  par-say : (ms : List Mark) (r : List Token) → 1 < length ms → marks_joined ms (Par ∷ r) ≡ marks_before ms r
  par-say [] r h = absurd (omega arith)
  par-say (m ∷ ms) r h = ap (λ u. mark name m u) (more-par ms r)

  burst-say : (ms : List Mark) (r : List Token) → 1 < length ms → Open ∷ marks_joined ms (Close ∷ r) ≡ item name (TBurst ms) r
  burst-say [] r h = absurd (omega arith)
  burst-say (m ∷ []) r h = absurd (omega arith)
  burst-say (m ∷ n ∷ ms) r h = refl

  -- ---- one step
  abbrev pub Step : State → Token → State → Type 0
  Step s x t = ((r : List Token) → before s (x ∷ r) ≡ before t r) × Good t

  module _ (number : List ℕ → ℕ) where
    -- the number of a name that is heard is that of the name
    abbrev pub Knows : Option (List ℕ) → Type 0
    Knows None = ⊤
    Knows (Some n) = name (number n) ≡ n

    heard_mark : (k : Ctx) (a : TSeqs) (i : TSeq) (n : List ℕ) (d : Dir) → GoodAt k a i → name (number n) ≡ n → ((r : List Token) → at_before k a i (Word n ∷ sign_of d ∷ r) ≡ before (AfterItem k a (add i (TBurst (mark_of (number n) d ∷ [])))) r)
        × GoodAfter k a (add i (TBurst (mark_of (number n) d ∷ [])))
    heard_mark k a i n d h e = (
      (λ r. ap (λ u. at_before k a i (Word u ∷ sign_of d ∷ r)) (sym e) ∙ ap (λ u. outer_before k (alts_before a u)) (item-say i (TBurst (mark_of (number n) d ∷ [])) r)),
      item_in k a i (TBurst (mark_of (number n) d ∷ [])) h (omega arith),
    )

    heard_in_burst : (k : Ctx) (a : TSeqs) (i : TSeq) (ms : List Mark) (n : List ℕ) (d : Dir) → GoodAt k a i → 0 < length ms → name (number n) ≡ n → ((r : List Token) → at_before k a i (Open ∷ marks_before ms (Word n ∷ sign_of d ∷ r)) ≡ before (AfterBurst k a i (ms ++ mark_of (number n) d ∷ [])) r)
        × Good (AfterBurst k a i (ms ++ mark_of (number n) d ∷ []))
    heard_in_burst k a i ms n d h l e = (
      (λ r. ap (λ u. at_before k a i (Open ∷ marks_before ms (Word u ∷ sign_of d ∷ r))) (sym e) ∙ ap (λ u. at_before k a i (Open ∷ u)) (mark-say ms (mark_of (number n) d) r)),
      (h, push_some ms (mark_of (number n) d) l),
    )

    choice_step : (k : Ctx) (a : TSeqs) (i : TSeq) → GoodAfter k a i → IfSome (next_choice k a i) (Step (AfterItem k a i) Bar)
    choice_step InLead a i h = tt
    choice_step (InBody l) a i h = ((λ r. ap (λ u. outer_before (InBody l) u) (bar-say a i r)), record { outer = h.outer; alts = add_seqs a i h.alts h.items; items = tt; alone = tt })
    choice_step (Inside k b j) a i h = ((λ r. ap (λ u. outer_before (Inside k b j) u) (bar-say a i r)), record { outer = h.outer; alts = add_seqs a i h.alts h.items; items = tt; alone = tt })

    two_more : (s : TSeq) (ss : TSeqs) (i : TSeq) → 1 < count_of (add_among (Or s ss) i)
    two_more s ss i = let p : 0 < count_of (add_among ss i) = add_some ss i in omega arith

    close_step : (k : Ctx) (a : TSeqs) (i : TSeq) → GoodAfter k a i → IfSome (close_round k a i) (Step (AfterItem k a i) Close)
    close_step (InBody l) a i h = tt
    close_step InLead a i h = tt
    close_step (Inside k b j) Stop i h = tt
    close_step (Inside k b j) (Or s ss) i h = (
      (λ r. ap (λ u. outer_before k (alts_before b (items_before j (Open ∷ u)))) (alt-say (Or s ss) i (Close ∷ r))
          ∙ ap (λ u. outer_before k (alts_before b u)) (item-say j (TAlt (add_among (Or s ss) i)) r)),
      record { outer = h.outer.0; alts = h.outer.1; items = add_full j (TAlt (add_among (Or s ss) i)) h.outer.2 (two_more s ss i, add_seqs (Or s ss) i h.alts h.items); alone = h.outer.3 },
    )

    square_step : (k : Ctx) (a : TSeqs) (i : TSeq) → GoodAfter k a i → IfSome (close_square k a i) (Step (AfterItem k a i) RightSq)
    square_step (InBody None) a i h = ((λ r. ap (λ u. Star ∷ LeftSq ∷ u) (alt-say a i (RightSq ∷ r))), record { lead = tt; some = add_some a i; body = add_seqs a i h.alts h.items })
    square_step (InBody (Some l)) a i h = ((λ r. ap (λ u. LeftSq ∷ seq name l (Semi ∷ Star ∷ LeftSq ∷ u)) (alt-say a i (RightSq ∷ r))), (h.outer, add_some a i, add_seqs a i h.alts h.items))
    square_step InLead a i h = tt
    square_step (Inside k b j) a i h = tt

    widen_step : (k : Ctx) (a : TSeqs) (i : TSeq) → GoodAfter k a i → IfSome (widen k a (lone i)) (Step (AfterItem k a i) Par)
    widen_step (Inside k b j) Stop (Then (TBurst (m ∷ [])) Done) h = ((λ r. refl), (record { outer = h.outer.0; alts = h.outer.1; items = h.outer.2; alone = h.outer.3 }, omega arith))
    widen_step k a i h = tt

    lead_step : (k : Ctx) (a : TSeqs) (i : TSeq) → GoodAt k a i → IfSome (end_lead k i) (Step (AtItem k a i) Star)
    lead_step InLead Stop (Then x i) h = ((λ r. ap (λ u. LeftSq ∷ u) (sym (semi-say (Then x i) (Star ∷ r) h.items))), h.items)
    lead_step InLead (Or s a) (Then x i) h = absurd h.alone
    lead_step k a i h = tt

    pub one_step : (s : State) (x : Token) → Good s → Knows (heard s x) → IfSome (step number s x) (Step s x)
    one_step AtForm Star g h = ((λ r. refl), tt)
    one_step AtForm LeftSq g h = ((λ r. refl), record { outer = tt; alts = tt; items = tt; alone = tt })
    one_step AtForm x g h = tt
    one_step (AtBody l) LeftSq g h = ((λ r. refl), record { outer = g; alts = tt; items = tt; alone = tt })
    one_step (AtBody l) x g h = tt
    one_step (AtItem k a i) (Word n) g h = ((λ r. refl), g)
    one_step (AtItem k a i) Open g h = ((λ r. refl), record { outer = (g.outer, g.alts, g.items, g.alone); alts = tt; items = tt; alone = tt })
    one_step (AtItem k a i) Star g h = lead_step k a i g
    one_step (AtItem k a i) x g h = tt
    one_step (AtMark k a i n) Ask g h = heard_mark k a i n Input g h
    one_step (AtMark k a i n) Bang g h = heard_mark k a i n Output g h
    one_step (AtMark k a i n) x g h = tt
    one_step (AfterItem k a i) Semi g h = ((λ r. ap (λ u. outer_before k (alts_before a u)) (semi-say i r g.items)), record { outer = g.outer; alts = g.alts; items = full_seq i g.items; alone = g.alone })
    one_step (AfterItem k a i) Bar g h = choice_step k a i g
    one_step (AfterItem k a i) Close g h = close_step k a i g
    one_step (AfterItem k a i) RightSq g h = square_step k a i g
    one_step (AfterItem k a i) Par g h = widen_step k a i g
    one_step (AfterItem k a i) x g h = tt
    one_step (AtBurst k a i ms) (Word n) g h = ((λ r. refl), g)
    one_step (AtBurst k a i ms) x g h = tt
    one_step (AtBurstMark k a i ms n) Ask g h = heard_in_burst k a i ms n Input g.0 g.1 h
    one_step (AtBurstMark k a i ms n) Bang g h = heard_in_burst k a i ms n Output g.0 g.1 h
    one_step (AtBurstMark k a i ms n) x g h = tt
    one_step (AfterBurst k a i ms) Par g h = ((λ r. ap (λ u. at_before k a i (Open ∷ u)) (par-say ms r g.1)), (g.0, omega (arith, g.1)))
    one_step (AfterBurst k a i ms) Close g h = (
      (λ r. ap (λ u. at_before k a i u) (burst-say ms r g.1) ∙ ap (λ u. outer_before k (alts_before a u)) (item-say i (TBurst ms) r)),
      item_in k a i (TBurst ms) g.0 (omega (arith, g.1)),
    )
    one_step (AfterBurst k a i ms) x g h = tt
    one_step (AtSecond l b) RightSq g h = ((λ r. refl), record { lead = g.0; some = g.1; body = g.2 })
    one_step (AtSecond l b) x g h = tt
    one_step (Closed w) x g h = tt

-- ---- brackets
module _ (number : List ℕ → ℕ) where
  widen_depth : (k : Ctx) (a : TSeqs) (m : Option Mark) → IfSome (widen k a m) (λ t. open_brackets t ≡ open_brackets_in k)
  widen_depth (Inside k b j) Stop (Some m) = refl
  widen_depth k a m = tt

  close_depth : (k : Ctx) (a : TSeqs) (i : TSeq) → IfSome (close_round k a i) (λ t. open_brackets t ≡ opened_by (open_brackets_in k) Close)
  close_depth (Inside k b j) (Or s ss) i = omega arith
  close_depth k a i = tt

  square_depth : (k : Ctx) (a : TSeqs) (i : TSeq) → IfSome (close_square k a i) (λ t. open_brackets t ≡ open_brackets_in k)
  square_depth (InBody None) a i = refl
  square_depth (InBody (Some l)) a i = refl
  square_depth k a i = tt

  choice_depth : (k : Ctx) (a : TSeqs) (i : TSeq) → IfSome (next_choice k a i) (λ t. open_brackets t ≡ open_brackets_in k)
  choice_depth InLead a i = tt
  choice_depth (InBody l) a i = refl
  choice_depth (Inside k b j) a i = refl

  lead_depth : (k : Ctx) (i : TSeq) → IfSome (end_lead k i) (λ t. open_brackets t ≡ open_brackets_in k)
  lead_depth InLead (Then x i) = refl
  lead_depth k i = tt

  pub depth_step : (s : State) (x : Token) → IfSome (step number s x) (λ t. open_brackets t ≡ opened_by (open_brackets s) x)
  depth_step AtForm Star = refl
  depth_step AtForm LeftSq = refl
  depth_step AtForm x = tt
  depth_step (AtBody l) LeftSq = refl
  depth_step (AtBody l) x = tt
  depth_step (AtItem k a i) (Word n) = refl
  depth_step (AtItem k a i) Open = refl
  depth_step (AtItem k a i) Star = lead_depth k i
  depth_step (AtItem k a i) x = tt
  depth_step (AtMark k a i n) Ask = refl
  depth_step (AtMark k a i n) Bang = refl
  depth_step (AtMark k a i n) x = tt
  depth_step (AfterItem k a i) Semi = refl
  depth_step (AfterItem k a i) Bar = choice_depth k a i
  depth_step (AfterItem k a i) Close = close_depth k a i
  depth_step (AfterItem k a i) RightSq = square_depth k a i
  depth_step (AfterItem k a i) Par = widen_depth k a (lone i)
  depth_step (AfterItem k a i) x = tt
  depth_step (AtBurst k a i ms) (Word n) = refl
  depth_step (AtBurst k a i ms) x = tt
  depth_step (AtBurstMark k a i ms n) Ask = refl
  depth_step (AtBurstMark k a i ms n) Bang = refl
  depth_step (AtBurstMark k a i ms n) x = tt
  depth_step (AfterBurst k a i ms) Par = refl
  depth_step (AfterBurst k a i ms) Close = omega arith
  depth_step (AfterBurst k a i ms) x = tt
  depth_step (AtSecond l b) RightSq = refl
  depth_step (AtSecond l b) x = tt
  depth_step (Closed w) x = tt
