-- Each place of the reader has tokens behind it that end a text.
use Rattle.std.proofs.Common.{◌≡◌, ℕ, List, [], ◌∷◌, ◌++◌, Option, Some, None, refl, sym, ◌∙◌, ap, subst}
use Rattle.std.specs.Prelude.{⊤, codes}
use Rattle.std.specs.Option.{IfSome, option_and_then, option_map}
use Rattle.std.specs.List.{AllByRecursion}
use Rattle.cmd_tree.specs.Tree.{TItem, TSeq, TSeqs, Stop, Or, Done, Then}
use Rattle.cmd_text.specs.declared.file.Sentence.{Sentence}
use Rattle.cmd_text.specs.Token.{Token, Let, Main, Pref, Define, Dot, Semi, Bar, Par, Open, Close, LeftSq, RightSq, Star, Ask, Bang, Comma, Slash, End, Word}
use Rattle.cmd_text.specs.File.{Placed}
use Rattle.cmd_text.specs.Names.{number_in}
use Rattle.cmd_text.specs.Text.{IsWord, IsToken, Begins}
use Rattle.cmd_tree.specs.declared.tree.Mark.{Mark}
use Rattle.cmd_text.specs.Mirror.Machine.{Ctx, InBody, InLead, Inside, State, AtForm, AtBody, AtItem, AtMark, AfterItem, AtBurst, AtBurstMark, AfterBurst, AtSecond, Closed, add, add_among, widen, lone, close_round, close_square, next_choice, end_lead}
use Rattle.cmd_text.specs.Mirror.Machine as machine
use Rattle.cmd_text.specs.Mirror.Reader.{Partly, Spot, AtSentence, AtName, AtDefine, AtFactor, InProcess, AfterName, AtFresh, AtSlash, AtWas, AfterPair, AfterFactor, AtEnd, Finished, put, after_sentence, with_sentence, step}
use Rattle.cmd_text.specs.Mirror.Reading.{Standing, go, reads, begin}
use Rattle.cmd_text.proofs.FileTaken.{nothing, same_some}
use Rattle.cmd_text.proofs.ReaderSteps.{Gone, gone, at_some, read_text, text_read}

pub record Fill (st : Standing) : Type 0 where
  pub more : List Placed
  pub proper : AllByRecursion IsToken more
  pub names : List (List ℕ)
  pub sentences : List Sentence
  pub run : reads st more ≡ Some (record { names = names; spot = Finished sentences })

abbrev FillNext : Option Standing → Type 0
FillNext None = ⊥
FillNext (Some t) = Fill t

abbrev at_zero : Token → Placed
at_zero x = record { tok = x; at = 0 }

fill_by : (st : Standing) (x : Token) (o : Option Standing) → go st (at_zero x) ≡ o → IsWord x → FillNext o → Fill st
fill_by st x None e w f = absurd f
fill_by st x (Some t) e w f = record { more = at_zero x ∷ f.more; proper = (w, f.proper); names = f.names; sentences = f.sentences; run = ap (λ o. option_and_then (λ u. reads u f.more) o) e ∙ f.run }

by : (st : Standing) (x : Token) → IsWord x → FillNext (go st (at_zero x)) → Fill st
by st x w f = fill_by st x (go st (at_zero x)) refl w f

abbrev some_name : Token
some_name = Word (codes "x")

abbrev at_spot : List (List ℕ) → Spot → Standing
at_spot ns s = record { names = ns; spot = s }

fill_end : (ns : List (List ℕ)) (ss : List Sentence) → Fill (at_spot ns (AtEnd ss))
fill_end ns ss = record { more = at_zero End ∷ []; proper = (tt, tt); names = ns; sentences = ss; run = refl }

-- `main := x.`
fill_sentence : (ns : List (List ℕ)) (ss : List Sentence) → Fill (at_spot ns (AtSentence ss))
fill_sentence ns ss = by (at_spot ns (AtSentence ss)) Main tt (by _ Define tt (by _ some_name refl (by _ Dot tt (fill_end ns _))))

fill_ended : (ns : List (List ℕ)) (n : Option (List ℕ)) (ss : List Sentence) → Fill (at_spot ns (after_sentence n ss))
fill_ended ns None ss = fill_end ns ss
fill_ended ns (Some n) ss = fill_sentence ns ss

fill_after : (ns : List (List ℕ)) (q : Partly) → Fill (at_spot ns (AfterFactor q))
fill_after ns q = by (at_spot ns (AfterFactor q)) Dot tt (fill_ended ns q.head.name (with_sentence q))

fill_factor : (ns : List (List ℕ)) (q : Partly) → Fill (at_spot ns (AtFactor q))
fill_factor ns q = by (at_spot ns (AtFactor q)) some_name refl (by _ Dot tt (fill_ended ns q.head.name _))

-- ---- a process
abbrev in_process : List (List ℕ) → Partly → State → Standing
in_process ns q s = at_spot ns (InProcess q s)

abbrev IsThen : TSeq → Type 0
IsThen Done = ⊥
IsThen (Then x i) = ⊤

abbrev Ends : Ctx → TSeqs → TSeq → Type 0
Ends InLead a i = IsThen i
Ends (InBody l) a i = ⊤
Ends (Inside k b j) a i = ⊤

added_then : (i : TSeq) (x : TItem) → IsThen (add i x)
added_then Done x = tt
added_then (Then y i) x = tt

ends_then : (k : Ctx) (a : TSeqs) (i : TSeq) → IsThen i → Ends k a i
ends_then InLead a i h = h
ends_then (InBody l) a i h = tt
ends_then (Inside k b j) a i h = tt

fill_body : (ns : List (List ℕ)) (q : Partly) (l : Option TSeq) (a : TSeqs) (i : TSeq) → Fill (in_process ns q (AfterItem (InBody l) a i))
fill_body ns q None a i = by (in_process ns q (AfterItem (InBody None) a i)) RightSq tt (fill_after ns _)
fill_body ns q (Some l) a i = by (in_process ns q (AfterItem (InBody (Some l)) a i)) RightSq tt (by _ RightSq tt (fill_after ns _))

-- after `(` .. and one more choice `x?`, a bracket closes
fill_close : (ns : List (List ℕ)) (q : Partly) (k : Ctx) (b : TSeqs) (j : TSeq) (a : TSeqs) (i s : TSeq) → ((ms : List (List ℕ)) (x : TItem) → Fill (in_process ms q (AfterItem k b (add j x)))) → Fill (in_process ns q (AfterItem (Inside k b j) (add_among a i) s))
fill_close ns q k b j Stop i s f = by (in_process ns q (AfterItem (Inside k b j) (Or i Stop) s)) Close tt (f ns _)
fill_close ns q k b j (Or t a) i s f = by (in_process ns q (AfterItem (Inside k b j) (Or t (add_among a i)) s)) Close tt (f ns _)

fill_item : (ns : List (List ℕ)) (q : Partly) (k : Ctx) (a : TSeqs) (i : TSeq) → Ends k a i → Fill (in_process ns q (AfterItem k a i))
fill_item ns q (InBody l) a i h = fill_body ns q l a i
fill_item ns q InLead a Done h = absurd h
fill_item ns q InLead a (Then y i) h = by (in_process ns q (AfterItem InLead a (Then y i))) Semi tt (by _ Star tt (by _ LeftSq tt (by _ some_name refl (by _ Ask tt (fill_body _ q (Some (Then y i)) Stop _)))))
fill_item ns q (Inside k b j) a i h = by (in_process ns q (AfterItem (Inside k b j) a i)) Bar tt (by _ some_name refl (by _ Ask tt (fill_close _ q k b j a i _ (λ ms x. fill_item ms q k b (add j x) (ends_then k b (add j x) (added_then j x))))))

fill_added : (ns : List (List ℕ)) (q : Partly) (k : Ctx) (a : TSeqs) (i : TSeq) (x : TItem) → Fill (in_process ns q (AfterItem k a (add i x)))
fill_added ns q k a i x = fill_item ns q k a (add i x) (ends_then k a (add i x) (added_then i x))

abbrev EndsState : State → Type 0
EndsState (AfterItem k a i) = Ends k a i
EndsState (Closed w) = ⊥
EndsState s = ⊤

fill_process : (ns : List (List ℕ)) (q : Partly) (s : State) → EndsState s → Fill (in_process ns q s)
fill_process ns q AtForm h = by (in_process ns q AtForm) Star tt (by _ LeftSq tt (by _ some_name refl (by _ Ask tt (fill_body _ q None Stop _))))
fill_process ns q (AtBody None) h = by (in_process ns q (AtBody None)) LeftSq tt (by _ some_name refl (by _ Ask tt (fill_body _ q None Stop _)))
fill_process ns q (AtBody (Some l)) h = by (in_process ns q (AtBody (Some l))) LeftSq tt (by _ some_name refl (by _ Ask tt (fill_body _ q (Some l) Stop _)))
fill_process ns q (AtItem k a i) h = by (in_process ns q (AtItem k a i)) some_name refl (by _ Ask tt (fill_added _ q k a i _))
fill_process ns q (AtMark k a i n) h = by (in_process ns q (AtMark k a i n)) Ask tt (fill_added _ q k a i _)
fill_process ns q (AfterItem k a i) h = fill_item ns q k a i h
fill_process ns q (AtBurst k a i ms) h = by (in_process ns q (AtBurst k a i ms)) some_name refl (by _ Ask tt (by _ Close tt (fill_added _ q k a i _)))
fill_process ns q (AtBurstMark k a i ms n) h = by (in_process ns q (AtBurstMark k a i ms n)) Ask tt (by _ Close tt (fill_added _ q k a i _))
fill_process ns q (AfterBurst k a i ms) h = by (in_process ns q (AfterBurst k a i ms)) Close tt (fill_added ns q k a i _)
fill_process ns q (AtSecond l b) h = by (in_process ns q (AtSecond l b)) RightSq tt (fill_after ns _)
fill_process ns q (Closed w) h = absurd h

-- ---- a file
abbrev EndsSpot : Spot → Type 0
EndsSpot (InProcess q s) = EndsState s
EndsSpot s = ⊤

fill_spot : (ns : List (List ℕ)) (s : Spot) → EndsSpot s → Fill (at_spot ns s)
fill_spot ns (AtSentence ss) h = fill_sentence ns ss
fill_spot ns (AtName ss) h = by (at_spot ns (AtName ss)) some_name refl (by _ Define tt (by _ some_name refl (by _ Dot tt (fill_sentence ns _))))
fill_spot ns (AtDefine ss c) h = by (at_spot ns (AtDefine ss c)) Define tt (fill_factor ns _)
fill_spot ns (AtFactor q) h = fill_factor ns q
fill_spot ns (InProcess q s) h = fill_process ns q s h
fill_spot ns (AfterName q u) h = by (at_spot ns (AfterName q u)) Dot tt (fill_ended ns q.head.name _)
fill_spot ns (AtFresh q u) h = by (at_spot ns (AtFresh q u)) some_name refl (by _ Slash tt (by _ some_name refl (by _ RightSq tt (fill_after ns _))))
fill_spot ns (AtSlash q u n r) h = by (at_spot ns (AtSlash q u n r)) Slash tt (by _ some_name refl (by _ RightSq tt (fill_after ns _)))
fill_spot ns (AtWas q u n r) h = by (at_spot ns (AtWas q u n r)) some_name refl (by _ RightSq tt (fill_after ns _))
fill_spot ns (AfterPair q u) h = by (at_spot ns (AfterPair q u)) RightSq tt (fill_after ns _)
fill_spot ns (AfterFactor q) h = fill_after ns q
fill_spot ns (AtEnd ss) h = fill_end ns ss
fill_spot ns (Finished ss) h = record { more = []; proper = tt; names = ns; sentences = ss; run = refl }

choice_ends : (k : Ctx) (a : TSeqs) (i : TSeq) → IfSome (next_choice k a i) EndsState
choice_ends InLead a i = tt
choice_ends (InBody l) a i = tt
choice_ends (Inside k b j) a i = tt

close_ends : (k : Ctx) (a : TSeqs) (i : TSeq) → IfSome (close_round k a i) EndsState
close_ends (Inside k b j) (Or s ss) i = ends_then k b _ (added_then j _)
close_ends k a i = tt

widen_ends : (k : Ctx) (a : TSeqs) (m : Option Mark) → IfSome (widen k a m) EndsState
widen_ends (Inside k b j) Stop (Some m) = tt
widen_ends k a m = tt

lead_ends : (k : Ctx) (i : TSeq) → IfSome (end_lead k i) EndsState
lead_ends InLead (Then x i) = tt
lead_ends k i = tt

put_ends : (q : Partly) (t : State) → EndsState t → EndsSpot (put q t)
put_ends q (Closed w) h = tt
put_ends q (AfterItem k a i) h = h
put_ends q t h = tt

ended_ends : (n : Option (List ℕ)) (ss : List Sentence) → EndsSpot (after_sentence n ss)
ended_ends None ss = tt
ended_ends (Some n) ss = tt

module _ (number : List ℕ → ℕ) where
  abbrev PutEnds : Option State → Type 0
  PutEnds o = (q : Partly) → IfSome (option_map (put q) o) EndsSpot

  put_all : (o : Option State) → IfSome o EndsState → PutEnds o
  put_all None h q = tt
  put_all (Some t) h q = put_ends q t h

  square_ends : (k : Ctx) (a : TSeqs) (i : TSeq) → PutEnds (close_square k a i)
  square_ends (InBody None) a i q = tt
  square_ends (InBody (Some l)) a i q = tt
  square_ends InLead a i q = tt
  square_ends (Inside k b j) a i q = tt

  process_ends : (s : State) (x : Token) → PutEnds (machine.step number s x)
  process_ends AtForm Star q = tt
  process_ends AtForm LeftSq q = tt
  process_ends AtForm x q = tt
  process_ends (AtBody l) LeftSq q = tt
  process_ends (AtBody l) x q = tt
  process_ends (AtItem k a i) (Word n) q = tt
  process_ends (AtItem k a i) Open q = tt
  process_ends (AtItem k a i) Star q = put_all (end_lead k i) (lead_ends k i) q
  process_ends (AtItem k a i) x q = tt
  process_ends (AtMark k a i n) Ask q = ends_then k a _ (added_then i _)
  process_ends (AtMark k a i n) Bang q = ends_then k a _ (added_then i _)
  process_ends (AtMark k a i n) x q = tt
  process_ends (AfterItem k a i) Semi q = tt
  process_ends (AfterItem k a i) Bar q = put_all (next_choice k a i) (choice_ends k a i) q
  process_ends (AfterItem k a i) Close q = put_all (close_round k a i) (close_ends k a i) q
  process_ends (AfterItem k a i) RightSq q = square_ends k a i q
  process_ends (AfterItem k a i) Par q = put_all (widen k a (lone i)) (widen_ends k a (lone i)) q
  process_ends (AfterItem k a i) x q = tt
  process_ends (AtBurst k a i ms) (Word n) q = tt
  process_ends (AtBurst k a i ms) x q = tt
  process_ends (AtBurstMark k a i ms n) Ask q = tt
  process_ends (AtBurstMark k a i ms n) Bang q = tt
  process_ends (AtBurstMark k a i ms n) x q = tt
  process_ends (AfterBurst k a i ms) Par q = tt
  process_ends (AfterBurst k a i ms) Close q = ends_then k a _ (added_then i _)
  process_ends (AfterBurst k a i ms) x q = tt
  process_ends (AtSecond l b) RightSq q = tt
  process_ends (AtSecond l b) x q = tt
  process_ends (Closed w) x q = tt

  ends_step : (s : Spot) (x : Token) (p : ℕ) → IfSome (step number s x (Some p)) EndsSpot
  ends_step (AtSentence ss) Let p = tt
  ends_step (AtSentence ss) Main p = tt
  ends_step (AtSentence ss) x p = tt
  ends_step (AtName ss) (Word n) p = tt
  ends_step (AtName ss) x p = tt
  ends_step (AtDefine ss h) Define p = tt
  ends_step (AtDefine ss h) x p = tt
  ends_step (AtFactor q) Pref p = tt
  ends_step (AtFactor q) (Word n) p = tt
  ends_step (AtFactor q) x p = tt
  ends_step (InProcess q s) x p = process_ends s x q
  ends_step (AfterName q u) LeftSq p = tt
  ends_step (AfterName q u) Par p = tt
  ends_step (AfterName q u) Dot p = ended_ends q.head.name _
  ends_step (AfterName q u) x p = tt
  ends_step (AtFresh q u) (Word n) p = tt
  ends_step (AtFresh q u) x p = tt
  ends_step (AtSlash q u n r) Slash p = tt
  ends_step (AtSlash q u n r) x p = tt
  ends_step (AtWas q u n r) (Word m) p = tt
  ends_step (AtWas q u n r) x p = tt
  ends_step (AfterPair q u) Comma p = tt
  ends_step (AfterPair q u) RightSq p = tt
  ends_step (AfterPair q u) x p = tt
  ends_step (AfterFactor q) Par p = tt
  ends_step (AfterFactor q) Dot p = ended_ends q.head.name (with_sentence q)
  ends_step (AfterFactor q) x p = tt
  ends_step (AtEnd ss) End p = tt
  ends_step (AtEnd ss) x p = tt
  ends_step (Finished ss) x p = tt

ends_gone : (st : Standing) (x : Placed) (t : Standing) → go st x ≡ Some t → EndsSpot t.spot
ends_gone st x t e = let g : Gone st x t = gone st x t e in at_some (step (number_in t.names) st.spot x.tok (Some x.at)) t.spot EndsSpot g.stepped (ends_step (number_in t.names) st.spot x.tok x.at)

ends_by : (st : Standing) (x : Placed) (xs : List Placed) (t : Standing) (o : Option Standing) → go st x ≡ o → ((u : Standing) → EndsSpot u.spot → reads u xs ≡ Some t → EndsSpot t.spot) → option_and_then (λ u. reads u xs) o ≡ Some t → EndsSpot t.spot
ends_by st x xs t None e f h = nothing h
ends_by st x xs t (Some u) e f h = f u (ends_gone st x u e) h

ends_read : (xs : List Placed) (st t : Standing) → EndsSpot st.spot → reads st xs ≡ Some t → EndsSpot t.spot
ends_read [] st t g h = subst (λ u. EndsSpot u.spot) (same_some h) g
ends_read (x ∷ xs) st t g h = ends_by st x xs t (go st x) refl (λ u c j. ends_read xs u t c j) h

-- ---- what is read begins a text, and what begins a text is read
append_by : (xs ys : List Placed) (o : Option Standing) → ((u : Standing) → reads u (xs ++ ys) ≡ option_and_then (λ t. reads t ys) (reads u xs)) → option_and_then (λ u. reads u (xs ++ ys)) o ≡ option_and_then (λ t. reads t ys) (option_and_then (λ u. reads u xs) o)
append_by xs ys None f = refl
append_by xs ys (Some u) f = f u

pub reads_append : (xs ys : List Placed) (st : Standing) → reads st (xs ++ ys) ≡ option_and_then (λ t. reads t ys) (reads st xs)
reads_append [] ys st = refl
reads_append (x ∷ xs) ys st = append_by xs ys (go st x) (λ u. reads_append xs ys u)

pub reads_then : (xs ys : List Placed) (st t : Standing) → reads st xs ≡ Some t → reads st (xs ++ ys) ≡ reads t ys
reads_then xs ys st t e = reads_append xs ys st ∙ ap (λ o. option_and_then (λ u. reads u ys) o) e

pub stands_begins : (xs : List Placed) (st : Standing) → reads begin xs ≡ Some st → Begins xs
stands_begins xs st e =
    let f : Fill st = fill_spot st.names st.spot (ends_read xs begin st tt e) in
    record { more = f.more; proper = f.proper; names = f.names; sentences = f.sentences; text = read_text (xs ++ f.more) f.names f.sentences (reads_then xs f.more begin st e ∙ f.run) }

all_append : (xs ys : List Placed) → AllByRecursion IsToken xs → AllByRecursion IsToken ys → AllByRecursion IsToken (xs ++ ys)
all_append [] ys h g = g
all_append (x ∷ xs) ys h g = (h.0, all_append xs ys h.1 g)

prefix_by : (o : Option Standing) (ys : List Placed) (t : Standing) → option_and_then (λ u. reads u ys) o ≡ Some t → (u : Standing) × (o ≡ Some u)
prefix_by None ys t h = nothing h
prefix_by (Some u) ys t h = (u, refl)

pub begins_stands : (xs : List Placed) → AllByRecursion IsToken xs → Begins xs → (st : Standing) × (reads begin xs ≡ Some st)
begins_stands xs a b = prefix_by (reads begin xs) b.more (record { names = b.names; spot = Finished b.sentences })
    (sym (reads_append xs b.more begin) ∙ text_read (xs ++ b.more) b.names b.sentences (all_append xs b.more a b.proper) b.text)
