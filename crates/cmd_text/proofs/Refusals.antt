-- Each state refuses the tokens that it has no move for.
use Rattle.std.proofs.Common.{◌≡◌, ℕ, List, Option, None, refl}
use Rattle.cmd_tree.specs.declared.tree.Mark.{Mark}
use Rattle.cmd_tree.specs.Tree.{TSeq, TSeqs}
use Rattle.cmd_text.specs.declared.token.Token.{Token}
use Rattle.cmd_text.specs.declared.token.Token.TheVariants as code
use Rattle.cmd_text.specs.Token.{End}
use Rattle.cmd_text.specs.Mirror.ScanView.{token_of}
use Rattle.cmd_text.specs.Mirror.Machine.{Ctx, State, AtForm, AtBody, AtItem, AtMark, AfterItem, AtBurst, AtBurstMark, AfterBurst, AtSecond, step, heard}

pub form_none : (number : List ℕ → ℕ) (t : Token) (w : List ℕ) → (t ≡ code.Star → ⊥) → (t ≡ code.LeftSq → ⊥) → step number AtForm (token_of t w) ≡ None
form_none number code.Star w h0 h1 = absurd (h0 refl)
form_none number code.LeftSq w h0 h1 = absurd (h1 refl)
form_none number t w h0 h1 = refl

pub body_none : (number : List ℕ → ℕ) (l : Option TSeq) (t : Token) (w : List ℕ) → (t ≡ code.LeftSq → ⊥) → step number (AtBody l) (token_of t w) ≡ None
body_none number l code.LeftSq w h0 = absurd (h0 refl)
body_none number l t w h0 = refl

pub item_none : (number : List ℕ → ℕ) (k : Ctx) (a : TSeqs) (i : TSeq) (t : Token) (w : List ℕ) → (t ≡ code.Word → ⊥) → (t ≡ code.Open → ⊥) → (t ≡ code.Star → ⊥) → step number (AtItem k a i) (token_of t w) ≡ None
item_none number k a i code.Word w h0 h1 h2 = absurd (h0 refl)
item_none number k a i code.Open w h0 h1 h2 = absurd (h1 refl)
item_none number k a i code.Star w h0 h1 h2 = absurd (h2 refl)
item_none number k a i t w h0 h1 h2 = refl

pub mark_none : (number : List ℕ → ℕ) (k : Ctx) (a : TSeqs) (i : TSeq) (n : List ℕ) (t : Token) (w : List ℕ) → (t ≡ code.Ask → ⊥) → (t ≡ code.Bang → ⊥) → step number (AtMark k a i n) (token_of t w) ≡ None
mark_none number k a i n code.Ask w h0 h1 = absurd (h0 refl)
mark_none number k a i n code.Bang w h0 h1 = absurd (h1 refl)
mark_none number k a i n t w h0 h1 = refl

pub after_none : (number : List ℕ → ℕ) (k : Ctx) (a : TSeqs) (i : TSeq) (t : Token) (w : List ℕ) → (t ≡ code.Semi → ⊥) → (t ≡ code.Bar → ⊥) → (t ≡ code.Close → ⊥) → (t ≡ code.RightSq → ⊥) → (t ≡ code.Par → ⊥) → step number (AfterItem k a i) (token_of t w) ≡ None
after_none number k a i code.Semi w h0 h1 h2 h3 h4 = absurd (h0 refl)
after_none number k a i code.Bar w h0 h1 h2 h3 h4 = absurd (h1 refl)
after_none number k a i code.Close w h0 h1 h2 h3 h4 = absurd (h2 refl)
after_none number k a i code.RightSq w h0 h1 h2 h3 h4 = absurd (h3 refl)
after_none number k a i code.Par w h0 h1 h2 h3 h4 = absurd (h4 refl)
after_none number k a i t w h0 h1 h2 h3 h4 = refl

pub burst_none : (number : List ℕ → ℕ) (k : Ctx) (a : TSeqs) (i : TSeq) (ms : List Mark) (t : Token) (w : List ℕ) → (t ≡ code.Word → ⊥) → step number (AtBurst k a i ms) (token_of t w) ≡ None
burst_none number k a i ms code.Word w h0 = absurd (h0 refl)
burst_none number k a i ms t w h0 = refl

pub burst_mark_none : (number : List ℕ → ℕ) (k : Ctx) (a : TSeqs) (i : TSeq) (ms : List Mark) (n : List ℕ) (t : Token) (w : List ℕ) → (t ≡ code.Ask → ⊥) → (t ≡ code.Bang → ⊥) → step number (AtBurstMark k a i ms n) (token_of t w) ≡ None
burst_mark_none number k a i ms n code.Ask w h0 h1 = absurd (h0 refl)
burst_mark_none number k a i ms n code.Bang w h0 h1 = absurd (h1 refl)
burst_mark_none number k a i ms n t w h0 h1 = refl

pub after_burst_none : (number : List ℕ → ℕ) (k : Ctx) (a : TSeqs) (i : TSeq) (ms : List Mark) (t : Token) (w : List ℕ) → (t ≡ code.Par → ⊥) → (t ≡ code.Close → ⊥) → step number (AfterBurst k a i ms) (token_of t w) ≡ None
after_burst_none number k a i ms code.Par w h0 h1 = absurd (h0 refl)
after_burst_none number k a i ms code.Close w h0 h1 = absurd (h1 refl)
after_burst_none number k a i ms t w h0 h1 = refl

pub second_none : (number : List ℕ → ℕ) (l : TSeq) (b : TSeqs) (t : Token) (w : List ℕ) → (t ≡ code.RightSq → ⊥) → step number (AtSecond l b) (token_of t w) ≡ None
second_none number l b code.RightSq w h0 = absurd (h0 refl)
second_none number l b t w h0 = refl

-- the end stands in no process
pub end_refused : (number : List ℕ → ℕ) (s : State) → step number s End ≡ None
end_refused number AtForm = refl
end_refused number s = refl

-- ---- and hears no name at them
pub mark_unheard : (k : Ctx) (a : TSeqs) (i : TSeq) (n : List ℕ) (t : Token) (w : List ℕ) → (t ≡ code.Ask → ⊥) → (t ≡ code.Bang → ⊥) → heard (AtMark k a i n) (token_of t w) ≡ None
mark_unheard k a i n code.Ask w h0 h1 = absurd (h0 refl)
mark_unheard k a i n code.Bang w h0 h1 = absurd (h1 refl)
mark_unheard k a i n t w h0 h1 = refl

pub burst_mark_unheard : (k : Ctx) (a : TSeqs) (i : TSeq) (ms : List Mark) (n : List ℕ) (t : Token) (w : List ℕ) → (t ≡ code.Ask → ⊥) → (t ≡ code.Bang → ⊥) → heard (AtBurstMark k a i ms n) (token_of t w) ≡ None
burst_mark_unheard k a i ms n code.Ask w h0 h1 = absurd (h0 refl)
burst_mark_unheard k a i ms n code.Bang w h0 h1 = absurd (h1 refl)
burst_mark_unheard k a i ms n t w h0 h1 = refl

pub ruleset refusals = (form_none, body_none, item_none, mark_none, after_none, burst_none, burst_mark_none, after_burst_none, second_none, mark_unheard, burst_mark_unheard)
