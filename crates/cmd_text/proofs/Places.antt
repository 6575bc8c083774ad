-- Lists that grow at the end, read vs trees.
use Rattle.std.proofs.Common.{◌≡◌, Bool, true, false, List, [], ◌∷◌, ◌++◌, Option, Some, None, length, refl, sym, ◌∙◌, ap, arith}
use Rattle.cmd_tree.specs.declared.tree.Item.{Item}
use Rattle.cmd_tree.specs.declared.tree.Item.TheVariants.{Alt, Burst}
use Rattle.cmd_tree.specs.declared.tree.Mark.{Mark}
use Rattle.cmd_tree.specs.Tree.{TItem, TSeq, TSeqs, TAlt, TBurst, Or, Stop, Then, Done}
use Rattle.cmd_tree.specs.View.{seqs_of, seq_of, item_of}
use Rattle.cmd_text.specs.declared.draft.Level.{Level}
use Rattle.cmd_text.specs.Mirror.Machine.{Ctx, InBody, InLead, Inside, AtItem, AfterItem, AtSecond, Closed, AtBurst, AtBody, lone, add, add_among, next_choice, close_round, close_square, widen, end_lead}
use Rattle.cmd_text.specs.Mirror.Drafts.{ctx_from, base_of}
use Rattle.cmd_text.specs.Process.{body_of}

pub items_push : (is : List Item) (i : Item) → seq_of (is ++ i ∷ []) ≡ add (seq_of is) (item_of i)
items_push [] i = refl
items_push (x ∷ is) i = ap (λ u. Then (item_of x) u) (items_push is i)

pub alts_push : (ss : List TSeq) (s : TSeq) → seqs_of (ss ++ s ∷ []) ≡ add_among (seqs_of ss) s
alts_push [] s = refl
alts_push (x ∷ ss) s = ap (λ u. Or x u) (alts_push ss s)

pub outer_push : (k : Ctx) (ls : List Level) (l : Level) → ctx_from k (ls ++ l ∷ []) ≡ Inside (ctx_from k ls) (seqs_of l.alts) (seq_of l.items)
outer_push k [] l = refl
outer_push k (x ∷ ls) l = outer_push (Inside k (seqs_of x.alts) (seq_of x.items)) ls l

-- ---- which bracket is open
inside_not : (k : Ctx) (a : TSeqs) (i : TSeq) (ls : List Level) → ctx_from (Inside k a i) ls ≡ InLead → ⊥
inside_not k a i [] e = cc
inside_not k a i (l ∷ ls) e = inside_not (Inside k a i) (seqs_of l.alts) (seq_of l.items) ls e

pub not_lead : (k : Ctx) (ls : List Level) → (ls ≡ [] → ⊥) → ctx_from k ls ≡ InLead → ⊥
not_lead k [] h e = h refl
not_lead k (l ∷ ls) h e = inside_not k (seqs_of l.alts) (seq_of l.items) ls e

pub body_not : (l : Option TSeq) (ls : List Level) → ctx_from (InBody l) ls ≡ InLead → ⊥
body_not l [] e = cc
body_not l (x ∷ ls) e = inside_not (InBody l) (seqs_of x.alts) (seq_of x.items) ls e

pub lead_is : (ls : List Level) → ls ≡ [] → ctx_from InLead ls ≡ InLead
lead_is ls e = ap (λ u. ctx_from InLead u) e

choice_in : (k : Ctx) (a : TSeqs) (i : TSeq) → (k ≡ InLead → ⊥) → next_choice k a i ≡ Some (AtItem k (add_among a i) Done)
choice_in InLead a i h = absurd (h refl)
choice_in (InBody l) a i h = refl
choice_in (Inside k b j) a i h = refl

pub choice_say : (k : Ctx) (vs bs : List TSeq) (is : List Item) → (k ≡ InLead → ⊥) → bs ≡ vs ++ seq_of is ∷ [] → next_choice k (seqs_of vs) (seq_of is) ≡ Some (AtItem k (seqs_of bs) Done)
choice_say k vs bs is h e = choice_in k (seqs_of vs) (seq_of is) h ∙ ap (λ u. Some (AtItem k u Done)) (sym (ap seqs_of e ∙ alts_push vs (seq_of is)))

pub choice_none : (k : Ctx) (a : TSeqs) (i : TSeq) → k ≡ InLead → next_choice k a i ≡ None
choice_none k a i e = ap (λ u. next_choice u a i) e

-- ---- a bracket closes
close_by : (b : Ctx) (ls : List Level) (l : Level) (vs : List TSeq) (is : List Item) → (vs ≡ [] → ⊥) → close_round (Inside (ctx_from b ls) (seqs_of l.alts) (seq_of l.items)) (seqs_of vs) (seq_of is) ≡ Some (AfterItem (ctx_from b ls) (seqs_of l.alts) (add (seq_of l.items) (TAlt (add_among (seqs_of vs) (seq_of is)))))
close_by b ls l [] is h = absurd (h refl)
close_by b ls l (x ∷ vs) is h = refl

pub close_say : (b : Ctx) (outer ls : List Level) (l : Level) (vs bs : List TSeq) (is row : List Item) → outer ≡ ls ++ l ∷ [] → (vs ≡ [] → ⊥) → bs ≡ vs ++ seq_of is ∷ [] → row ≡ l.items ++ Alt bs ∷ [] → close_round (ctx_from b outer) (seqs_of vs) (seq_of is) ≡ Some (AfterItem (ctx_from b ls) (seqs_of l.alts) (seq_of row))
close_say b outer ls l vs bs is row e h f g = ap (λ u. close_round u (seqs_of vs) (seq_of is)) (ap (λ u. ctx_from b u) e ∙ outer_push b ls l)
    ∙ close_by b ls l vs is h
    ∙ ap (λ u. Some (AfterItem (ctx_from b ls) (seqs_of l.alts) (add (seq_of l.items) (TAlt u)))) (sym (ap seqs_of f ∙ alts_push vs (seq_of is)))
    ∙ ap (λ u. Some (AfterItem (ctx_from b ls) (seqs_of l.alts) u)) (sym (ap seq_of g ∙ items_push l.items (Alt bs)))

pub close_outside : (b : Bool) (o : Option TSeq) (ls : List Level) (a : TSeqs) (i : TSeq) → ls ≡ [] → close_round (ctx_from (base_of b o) ls) a i ≡ None
close_outside b o ls a i e = ap (λ u. close_round (ctx_from (base_of b o) u) a i) e ∙ by b
  where
    by : (c : Bool) → close_round (base_of c o) a i ≡ None
    by false = refl
    by true = refl

close_empty_by : (k : Ctx) (i : TSeq) → close_round k Stop i ≡ None
close_empty_by InLead i = refl
close_empty_by (InBody l) i = refl
close_empty_by (Inside k b j) i = refl

pub close_empty : (k : Ctx) (vs : List TSeq) (i : TSeq) → vs ≡ [] → close_round k (seqs_of vs) i ≡ None
close_empty k vs i e = ap (λ u. close_round k (seqs_of u) i) e ∙ close_empty_by k i

-- ---- a body closes
pub square_none : (ls : List Level) (vs bs : List TSeq) (is : List Item) → ls ≡ [] → bs ≡ vs ++ seq_of is ∷ [] → close_square (ctx_from (InBody None) ls) (seqs_of vs) (seq_of is) ≡ Some (Closed (record { lead = None; body = seqs_of bs }))
square_none ls vs bs is e f = ap (λ u. close_square (ctx_from (InBody None) u) (seqs_of vs) (seq_of is)) e ∙ ap (λ u. Some (Closed (record { lead = None; body = u }))) (sym (ap seqs_of f ∙ alts_push vs (seq_of is)))

pub square_lead : (l : TSeq) (ls : List Level) (vs bs : List TSeq) (is : List Item) → ls ≡ [] → bs ≡ vs ++ seq_of is ∷ [] → close_square (ctx_from (InBody (Some l)) ls) (seqs_of vs) (seq_of is) ≡ Some (AtSecond l (seqs_of bs))
square_lead l ls vs bs is e f = ap (λ u. close_square (ctx_from (InBody (Some l)) u) (seqs_of vs) (seq_of is)) e ∙ ap (λ u. Some (AtSecond l u)) (sym (ap seqs_of f ∙ alts_push vs (seq_of is)))

square_inside : (k : Ctx) (a : TSeqs) (i : TSeq) (ls : List Level) (x : TSeqs) (y : TSeq) → close_square (ctx_from (Inside k a i) ls) x y ≡ None
square_inside k a i [] x y = refl
square_inside k a i (l ∷ ls) x y = square_inside (Inside k a i) (seqs_of l.alts) (seq_of l.items) ls x y

pub square_deep : (k : Ctx) (ls : List Level) (a : TSeqs) (i : TSeq) → (ls ≡ [] → ⊥) → close_square (ctx_from k ls) a i ≡ None
square_deep k [] a i h = absurd (h refl)
square_deep k (l ∷ ls) a i h = square_inside k (seqs_of l.alts) (seq_of l.items) ls a i

pub square_in_lead : (ls : List Level) (a : TSeqs) (i : TSeq) → ls ≡ [] → close_square (ctx_from InLead ls) a i ≡ None
square_in_lead ls a i e = ap (λ u. close_square (ctx_from InLead u) a i) e

pub ruleset places = (items_push, alts_push, outer_push)

pub ruleset choices = (choice_none, choice_say)

pub ruleset closes = (close_outside, close_empty, close_say)

pub ruleset squares = (square_deep, square_in_lead, square_none, square_lead)

pub ruleset leads = (not_lead, body_not, lead_is)

-- ---- a bracket turns out to hold a burst
pub widen_outside : (b : Bool) (l : Option TSeq) (ls : List Level) (a : TSeqs) (m : Option Mark) → ls ≡ [] → widen (ctx_from (base_of b l) ls) a m ≡ None
widen_outside b l ls a m e = ap (λ u. widen (ctx_from (base_of b l) u) a m) e ∙ by b a m
  where
    by : (c : Bool) (x : TSeqs) (o : Option Mark) → widen (base_of c l) x o ≡ None
    by false x o = refl
    by true x o = refl

widen_or : (k : Ctx) (s : TSeq) (a : TSeqs) (m : Option Mark) → widen k (Or s a) m ≡ None
widen_or (Inside k b j) s a m = refl
widen_or InLead s a m = refl
widen_or (InBody l) s a m = refl

pub widen_alts : (k : Ctx) (vs : List TSeq) (m : Option Mark) → (vs ≡ [] → ⊥) → widen k (seqs_of vs) m ≡ None
widen_alts k [] m h = absurd (h refl)
widen_alts k (v ∷ vs) m h = widen_or k v (seqs_of vs) m

widen_none : (k : Ctx) (a : TSeqs) → widen k a None ≡ None
widen_none (Inside k b j) Stop = refl
widen_none (Inside k b j) (Or s a) = refl
widen_none InLead a = refl
widen_none (InBody l) a = refl

pub widen_not : (k : Ctx) (a : TSeqs) (i : TSeq) → lone i ≡ None → widen k a (lone i) ≡ None
widen_not k a i e = ap (λ o. widen k a o) e ∙ widen_none k a

pub lone_nil : (is : List Item) → is ≡ [] → lone (seq_of is) ≡ None
lone_nil is e = ap (λ u. lone (seq_of u)) e

two_not : (i j : TItem) (s : TSeq) → lone (Then i (Then j s)) ≡ None
two_not (TAlt ss) j s = refl
two_not (TBurst []) j s = refl
two_not (TBurst (m ∷ [])) j s = refl
two_not (TBurst (m ∷ n ∷ ms)) j s = refl

pub lone_more : (is js : List Item) (x : Item) → is ≡ js ++ x ∷ [] → (js ≡ [] → ⊥) → lone (seq_of is) ≡ None
lone_more is [] x e h = absurd (h refl)
lone_more is (y ∷ []) x e h = ap (λ u. lone (seq_of u)) e ∙ two_not (item_of y) (item_of x) Done
lone_more is (y ∷ z ∷ js) x e h = ap (λ u. lone (seq_of u)) e ∙ two_not (item_of y) (item_of z) (seq_of (js ++ x ∷ []))

only : (is js : List Item) (x : Item) → is ≡ js ++ x ∷ [] → js ≡ [] → is ≡ x ∷ []
only is js x e h = e ∙ ap (λ u. u ++ x ∷ []) h

pub lone_alt : (is js : List Item) (ss : List TSeq) → is ≡ js ++ Alt ss ∷ [] → js ≡ [] → lone (seq_of is) ≡ None
lone_alt is js ss e h = ap (λ u. lone (seq_of u)) (only is js (Alt ss) e h)

many_not : (ms : List Mark) → (length ms ≡ 1 → ⊥) → lone (Then (TBurst ms) Done) ≡ None
many_not [] h = refl
many_not (m ∷ []) h = absurd (h (omega arith))
many_not (m ∷ n ∷ ms) h = refl

pub lone_many : (is js : List Item) (ms : List Mark) → is ≡ js ++ Burst ms ∷ [] → js ≡ [] → (length ms ≡ 1 → ⊥) → lone (seq_of is) ≡ None
lone_many is js ms e h l = ap (λ u. lone (seq_of u)) (only is js (Burst ms) e h) ∙ many_not ms l

one_in : (k : Ctx) (a : TSeqs) (i : TSeq) (ms : List Mark) → length ms ≡ 1 → widen (Inside k a i) Stop (lone (Then (TBurst ms) Done)) ≡ Some (AtBurst k a i ms)
one_in k a i [] h = absurd (omega arith)
one_in k a i (m ∷ []) h = refl
one_in k a i (m ∷ n ∷ ms) h = absurd (omega arith)

pub widen_say : (b : Ctx) (outer ls : List Level) (l : Level) (vs : List TSeq) (is js : List Item) (ms : List Mark) → outer ≡ ls ++ l ∷ [] → vs ≡ [] → is ≡ js ++ Burst ms ∷ [] → js ≡ [] → length ms ≡ 1 → widen (ctx_from b outer) (seqs_of vs) (lone (seq_of is)) ≡ Some (AtBurst (ctx_from b ls) (seqs_of l.alts) (seq_of l.items) ms)
widen_say b outer ls l vs is js ms e f g h n = ap (λ u. widen u (seqs_of vs) (lone (seq_of is))) (ap (λ u. ctx_from b u) e ∙ outer_push b ls l)
    ∙ ap (λ u. widen (Inside (ctx_from b ls) (seqs_of l.alts) (seq_of l.items)) (seqs_of u) (lone (seq_of is))) f
    ∙ ap (λ u. widen (Inside (ctx_from b ls) (seqs_of l.alts) (seq_of l.items)) Stop (lone (seq_of u))) (only is js (Burst ms) g h)
    ∙ one_in (ctx_from b ls) (seqs_of l.alts) (seq_of l.items) ms n

-- ---- a lead ends
pub lead_not : (k : Ctx) (i : TSeq) → (k ≡ InLead → ⊥) → end_lead k i ≡ None
lead_not InLead i h = absurd (h refl)
lead_not (InBody l) i h = refl
lead_not (Inside k a j) i h = refl

pub lead_nil : (k : Ctx) (is : List Item) → k ≡ InLead → is ≡ [] → end_lead k (seq_of is) ≡ None
lead_nil k is e h = ap (λ u. end_lead u (seq_of is)) e ∙ ap (λ u. end_lead InLead (seq_of u)) h

lead_in : (is : List Item) → (is ≡ [] → ⊥) → end_lead InLead (seq_of is) ≡ Some (AtBody (Some (seq_of is)))
lead_in [] h = absurd (h refl)
lead_in (i ∷ is) h = refl

pub lead_say : (k : Ctx) (is : List Item) → k ≡ InLead → (is ≡ [] → ⊥) → end_lead k (seq_of is) ≡ Some (AtBody (Some (seq_of is)))
lead_say k is e h = ap (λ u. end_lead u (seq_of is)) e ∙ lead_in is h

pub ruleset lead_ends = (lead_not, lead_nil, lead_say)

pub ruleset widens = (widen_outside, widen_alts, widen_not, lone_nil, lone_more, lone_alt, lone_many, widen_say)

-- ---- the body of alternatives
pub body_nil : (vs : List TSeq) → vs ≡ [] → body_of (seqs_of vs) ≡ Done
body_nil vs e = ap (λ u. body_of (seqs_of u)) e

pub body_one : (vs ws : List TSeq) (s : TSeq) → vs ≡ ws ++ s ∷ [] → ws ≡ [] → body_of (seqs_of vs) ≡ s
body_one vs ws s e h = ap (λ u. body_of (seqs_of u)) (e ∙ ap (λ u. u ++ s ∷ []) h)

body_two : (ws : List TSeq) (s : TSeq) → (ws ≡ [] → ⊥) → body_of (seqs_of (ws ++ s ∷ [])) ≡ Then (TAlt (seqs_of (ws ++ s ∷ []))) Done
body_two [] s h = absurd (h refl)
body_two (w ∷ []) s h = refl
body_two (w ∷ v ∷ ws) s h = refl

pub body_more : (vs ws us : List TSeq) (s : TSeq) → vs ≡ ws ++ s ∷ [] → (ws ≡ [] → ⊥) → us ≡ ws ++ s ∷ [] → body_of (seqs_of vs) ≡ Then (TAlt (seqs_of us)) Done
body_more vs ws us s e h g = ap (λ u. body_of (seqs_of u)) e ∙ body_two ws s h ∙ ap (λ u. Then (TAlt (seqs_of u)) Done) (sym g)

pub ruleset bodies = (body_nil, body_one, body_more)
