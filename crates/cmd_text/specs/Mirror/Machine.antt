-- Mirror of the machine that reads the tokens of a process once from the left.
use Rattle.std.specs.Prelude.{ℕ, ◌+◌, List, [], ◌∷◌, ◌++◌, Option, Some, None}
use Rattle.cmd_tree.specs.declared.tree.Dir.{Dir}
use Rattle.cmd_tree.specs.declared.tree.Dir.TheVariants.{Input, Output}
use Rattle.cmd_tree.specs.declared.tree.Mark.{Mark}
use Rattle.cmd_tree.specs.Tree.{TItem, TSeq, TSeqs, TBurst, TAlt, Stop, Or, Done, Then}
use Rattle.cmd_text.specs.Token.{Token, Semi, Bar, Par, Open, Close, LeftSq, RightSq, Star, Ask, Bang, Word}
use Rattle.cmd_text.specs.Process.{Written}

-- what is open: the body behind a lead, the lead, or a round bracket within alternatives and items
pub data Ctx : Type 0 where
  InBody : Option TSeq → Ctx
  InLead : Ctx
  Inside : Ctx → TSeqs → TSeq → Ctx

-- where the machine is, with the alternatives and the items before the place
pub data State : Type 0 where
  AtForm : State
  AtBody : Option TSeq → State
  AtItem : Ctx → TSeqs → TSeq → State
  AtMark : Ctx → TSeqs → TSeq → List ℕ → State
  AfterItem : Ctx → TSeqs → TSeq → State
  AtBurst : Ctx → TSeqs → TSeq → List Mark → State
  AtBurstMark : Ctx → TSeqs → TSeq → List Mark → List ℕ → State
  AfterBurst : Ctx → TSeqs → TSeq → List Mark → State
  AtSecond : TSeq → TSeqs → State
  Closed : Written → State

-- one more item, or alternative, at the end
abbrev pub add : TSeq → TItem → TSeq
add Done x = Then x Done
add (Then i s) x = Then i (add s x)

abbrev pub add_among : TSeqs → TSeq → TSeqs
add_among Stop s = Or s Stop
add_among (Or t ss) s = Or t (add_among ss s)

abbrev pub mark_of : ℕ → Dir → Mark
mark_of n d = record { sym = record { 0 = n }; dir = d }

-- the symbol of one item alone
abbrev pub lone : TSeq → Option Mark
lone (Then (TBurst (m ∷ [])) Done) = Some m
lone s = None

-- a bracket whose first item was one symbol turns out to be a burst
abbrev pub widen : Ctx → TSeqs → Option Mark → Option State
widen (Inside k b j) Stop (Some m) = Some (AtBurst k b j (m ∷ []))
widen k a m = None

abbrev pub close_round : Ctx → TSeqs → TSeq → Option State
close_round (Inside k b j) (Or s ss) i = Some (AfterItem k b (add j (TAlt (add_among (Or s ss) i))))
close_round k a i = None

abbrev pub close_square : Ctx → TSeqs → TSeq → Option State
close_square (InBody None) a i = Some (Closed (record { lead = None; body = add_among a i }))
close_square (InBody (Some l)) a i = Some (AtSecond l (add_among a i))
close_square k a i = None

abbrev pub next_choice : Ctx → TSeqs → TSeq → Option State
next_choice InLead a i = None
next_choice (InBody l) a i = Some (AtItem (InBody l) (add_among a i) Done)
next_choice (Inside k b j) a i = Some (AtItem (Inside k b j) (add_among a i) Done)

abbrev pub end_lead : Ctx → TSeq → Option State
end_lead InLead (Then x i) = Some (AtBody (Some (Then x i)))
end_lead k i = None

-- number: the number of each name
module _ (number : List ℕ → ℕ) where
  abbrev pub step : State → Token → Option State
  step AtForm Star = Some (AtBody None)
  step AtForm LeftSq = Some (AtItem InLead Stop Done)
  step (AtBody lead) LeftSq = Some (AtItem (InBody lead) Stop Done)
  step (AtItem k a i) (Word n) = Some (AtMark k a i n)
  step (AtItem k a i) Open = Some (AtItem (Inside k a i) Stop Done)
  step (AtItem k a i) Star = end_lead k i
  step (AtMark k a i n) Ask = Some (AfterItem k a (add i (TBurst (mark_of (number n) Input ∷ []))))
  step (AtMark k a i n) Bang = Some (AfterItem k a (add i (TBurst (mark_of (number n) Output ∷ []))))
  step (AfterItem k a i) Semi = Some (AtItem k a i)
  step (AfterItem k a i) Bar = next_choice k a i
  step (AfterItem k a i) Close = close_round k a i
  step (AfterItem k a i) RightSq = close_square k a i
  step (AfterItem k a i) Par = widen k a (lone i)
  step (AtBurst k a i ms) (Word n) = Some (AtBurstMark k a i ms n)
  step (AtBurstMark k a i ms n) Ask = Some (AfterBurst k a i (ms ++ mark_of (number n) Input ∷ []))
  step (AtBurstMark k a i ms n) Bang = Some (AfterBurst k a i (ms ++ mark_of (number n) Output ∷ []))
  step (AfterBurst k a i ms) Par = Some (AtBurst k a i ms)
  step (AfterBurst k a i ms) Close = Some (AfterItem k a (add i (TBurst ms)))
  step (AtSecond l b) RightSq = Some (Closed (record { lead = Some l; body = b }))
  step s x = None

-- the name of a symbol that this token ends
abbrev pub heard : State → Token → Option (List ℕ)
heard (AtMark k a i n) Ask = Some n
heard (AtMark k a i n) Bang = Some n
heard (AtBurstMark k a i ms n) Ask = Some n
heard (AtBurstMark k a i ms n) Bang = Some n
heard s x = None

-- how many round brackets are open
abbrev pub open_brackets_in : Ctx → ℕ
open_brackets_in (InBody l) = 0
open_brackets_in InLead = 0
open_brackets_in (Inside k a i) = open_brackets_in k + 1

abbrev pub open_brackets : State → ℕ
open_brackets (AtItem k a i) = open_brackets_in k
open_brackets (AtMark k a i n) = open_brackets_in k
open_brackets (AfterItem k a i) = open_brackets_in k
open_brackets (AtBurst k a i ms) = open_brackets_in k + 1
open_brackets (AtBurstMark k a i ms n) = open_brackets_in k + 1
open_brackets (AfterBurst k a i ms) = open_brackets_in k + 1
open_brackets s = 0
