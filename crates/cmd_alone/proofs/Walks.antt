-- The bursts of a process under other symbols, its neighbours and its choices: those of the process, renamed.
use Rattle.std.proofs.Common.{◌≡◌, ℕ, ◌+◌, List, [], ◌∷◌, ◌++◌, map, Option, Some, None, refl, sym, ap, ◌∙◌, arith}
use Rattle.std.proofs.lemmas.List.{map-append}
use Rattle.cmd_tree.specs.declared.tree.Mark.{Mark}
use Rattle.cmd_tree.specs.declared.tree.Proc.{Proc}
use Rattle.cmd_tree.specs.Tree.{TItem, TSeq, TSeqs, TBurst, TAlt, Stop, Or, Done, Then, places_of, places_in}
use Rattle.cmd_tree.specs.Join.{join}
use Rattle.cmd_rename.specs.Renaming.{ren_marks, ren_seq, ren_item, ren_seqs, ren_part, ren_proc}
use Rattle.cmd_rename.proofs.Laws.{ren_places}
use Rattle.tree_walk.specs.Bursts.{Burst, dir_of, bursts_of, bursts_in, bursts_among, firsts_of, firsts_in, firsts_among, lasts_after, lasts_in, lasts_among, lasts_of, part, text_of, body_place, bursts}
use Rattle.tree_walk.specs.Meetings.{Neighbours, Alternative, neighbours_of, neighbours_in, neighbours_among, alternatives, choices_of, choices_in, choices_among, neighbours, choices, turn}

abbrev pub ren_burst : (ℕ → ℕ) → Burst → Burst
ren_burst f b = record { place = b.place; marks = ren_marks f b.marks }

abbrev pub ren_neighbours : (ℕ → ℕ) → Neighbours → Neighbours
ren_neighbours f n = record { lasts = map (ren_burst f) n.lasts; firsts = map (ren_burst f) n.firsts }

abbrev pub ren_alternative : (ℕ → ℕ) → Alternative → Alternative
ren_alternative f a = record { firsts = map (ren_burst f) a.firsts; lasts = map (ren_burst f) a.lasts }

pub dir_kept : (f : ℕ → ℕ) (ms : List Mark) → dir_of (ren_marks f ms) ≡ dir_of ms
dir_kept f [] = refl
dir_kept f (m ∷ ms) = refl

-- ---- places
pub seq_places : (f : ℕ → ℕ) (s : TSeq) → places_of (ren_seq f s) ≡ places_of s
seq_places f s = omega (arith, ren_places f (record { lead = Some s; body = None } ∷ []))

pub item_places : (f : ℕ → ℕ) (i : TItem) → places_in (ren_item f i) ≡ places_in i
item_places f i = omega (arith, seq_places f (Then i Done))

pub joined : {A B : Type 0} (h : A → B) (xs ys : List A) (us vs : List B) → us ≡ map h xs → vs ≡ map h ys → us ++ vs ≡ map h (xs ++ ys)
joined h xs ys us vs p q = (λ k. p k ++ q k) ∙ sym (map-append h xs ys)

-- ---- bursts
mutual
  bursts_seq : (f : ℕ → ℕ) (k : ℕ) (s : TSeq) → bursts_of k (ren_seq f s) ≡ map (ren_burst f) (bursts_of k s)
  bursts_seq f k Done = refl
  bursts_seq f k (Then i s) = joined (ren_burst f) (bursts_in k i) (bursts_of (k + places_in i) s) _ _ (bursts_item f k i)
      (ap (λ n. bursts_of (k + n) (ren_seq f s)) (item_places f i) ∙ bursts_seq f (k + places_in i) s)

  bursts_item : (f : ℕ → ℕ) (k : ℕ) (i : TItem) → bursts_in k (ren_item f i) ≡ map (ren_burst f) (bursts_in k i)
  bursts_item f k (TBurst ms) = refl
  bursts_item f k (TAlt ss) = bursts_seqs f k ss

  bursts_seqs : (f : ℕ → ℕ) (k : ℕ) (ss : TSeqs) → bursts_among k (ren_seqs f ss) ≡ map (ren_burst f) (bursts_among k ss)
  bursts_seqs f k Stop = refl
  bursts_seqs f k (Or s ss) = joined (ren_burst f) (bursts_of k s) (bursts_among (k + places_of s) ss) _ _ (bursts_seq f k s)
      (ap (λ n. bursts_among (k + n) (ren_seqs f ss)) (seq_places f s) ∙ bursts_seqs f (k + places_of s) ss)

mutual
  firsts_seq : (f : ℕ → ℕ) (k : ℕ) (s : TSeq) → firsts_of k (ren_seq f s) ≡ map (ren_burst f) (firsts_of k s)
  firsts_seq f k Done = refl
  firsts_seq f k (Then i s) = firsts_item f k i

  firsts_item : (f : ℕ → ℕ) (k : ℕ) (i : TItem) → firsts_in k (ren_item f i) ≡ map (ren_burst f) (firsts_in k i)
  firsts_item f k (TBurst ms) = refl
  firsts_item f k (TAlt ss) = firsts_seqs f k ss

  firsts_seqs : (f : ℕ → ℕ) (k : ℕ) (ss : TSeqs) → firsts_among k (ren_seqs f ss) ≡ map (ren_burst f) (firsts_among k ss)
  firsts_seqs f k Stop = refl
  firsts_seqs f k (Or s ss) = joined (ren_burst f) (firsts_of k s) (firsts_among (k + places_of s) ss) _ _ (firsts_seq f k s)
      (ap (λ n. firsts_among (k + n) (ren_seqs f ss)) (seq_places f s) ∙ firsts_seqs f (k + places_of s) ss)

mutual
  lasts_seq : (f : ℕ → ℕ) (before : List Burst) (k : ℕ) (s : TSeq) → lasts_after (map (ren_burst f) before) k (ren_seq f s) ≡ map (ren_burst f) (lasts_after before k s)
  lasts_seq f before k Done = refl
  lasts_seq f before k (Then i s) = (λ j. lasts_after (lasts_item f k i j) (k + item_places f i j) (ren_seq f s)) ∙ lasts_seq f (lasts_in k i) (k + places_in i) s

  lasts_item : (f : ℕ → ℕ) (k : ℕ) (i : TItem) → lasts_in k (ren_item f i) ≡ map (ren_burst f) (lasts_in k i)
  lasts_item f k (TBurst ms) = refl
  lasts_item f k (TAlt ss) = lasts_seqs f k ss

  lasts_seqs : (f : ℕ → ℕ) (k : ℕ) (ss : TSeqs) → lasts_among k (ren_seqs f ss) ≡ map (ren_burst f) (lasts_among k ss)
  lasts_seqs f k Stop = refl
  lasts_seqs f k (Or s ss) = joined (ren_burst f) (lasts_after [] k s) (lasts_among (k + places_of s) ss) _ _ (lasts_seq f [] k s)
      (ap (λ n. lasts_among (k + n) (ren_seqs f ss)) (seq_places f s) ∙ lasts_seqs f (k + places_of s) ss)

-- ---- neighbours
mutual
  next_seq : (f : ℕ → ℕ) (before : List Burst) (k : ℕ) (s : TSeq) → neighbours_of (map (ren_burst f) before) k (ren_seq f s) ≡ map (ren_neighbours f) (neighbours_of before k s)
  next_seq f before k Done = refl
  next_seq f before k (Then i s) = joined (ren_neighbours f) (neighbours_in k i) (record { lasts = before; firsts = firsts_in k i } ∷ neighbours_of (lasts_in k i) (k + places_in i) s) _ _ (next_item f k i)
      (λ j. record { lasts = map (ren_burst f) before; firsts = firsts_item f k i j }
      ∷ ((λ n. neighbours_of (lasts_item f k i n) (k + item_places f i n) (ren_seq f s)) ∙ next_seq f (lasts_in k i) (k + places_in i) s) j)

  next_item : (f : ℕ → ℕ) (k : ℕ) (i : TItem) → neighbours_in k (ren_item f i) ≡ map (ren_neighbours f) (neighbours_in k i)
  next_item f k (TBurst ms) = refl
  next_item f k (TAlt ss) = next_seqs f k ss

  next_seqs : (f : ℕ → ℕ) (k : ℕ) (ss : TSeqs) → neighbours_among k (ren_seqs f ss) ≡ map (ren_neighbours f) (neighbours_among k ss)
  next_seqs f k Stop = refl
  next_seqs f k (Or s ss) = joined (ren_neighbours f) (neighbours_of [] k s) (neighbours_among (k + places_of s) ss) _ _ (next_seq f [] k s)
      (ap (λ n. neighbours_among (k + n) (ren_seqs f ss)) (seq_places f s) ∙ next_seqs f (k + places_of s) ss)

-- ---- choices
alternatives_kept : (f : ℕ → ℕ) (k : ℕ) (ss : TSeqs) → alternatives k (ren_seqs f ss) ≡ map (ren_alternative f) (alternatives k ss)
alternatives_kept f k Stop = refl
alternatives_kept f k (Or s ss) = λ j. record { firsts = firsts_seq f k s j; lasts = lasts_seq f [] k s j }
    ∷ (ap (λ n. alternatives (k + n) (ren_seqs f ss)) (seq_places f s) ∙ alternatives_kept f (k + places_of s) ss) j

mutual
  choices_seq : (f : ℕ → ℕ) (k : ℕ) (s : TSeq) → choices_of k (ren_seq f s) ≡ map (map (ren_alternative f)) (choices_of k s)
  choices_seq f k Done = refl
  choices_seq f k (Then i s) = joined (map (ren_alternative f)) (choices_in k i) (choices_of (k + places_in i) s) _ _ (choices_item f k i)
      (ap (λ n. choices_of (k + n) (ren_seq f s)) (item_places f i) ∙ choices_seq f (k + places_in i) s)

  choices_item : (f : ℕ → ℕ) (k : ℕ) (i : TItem) → choices_in k (ren_item f i) ≡ map (map (ren_alternative f)) (choices_in k i)
  choices_item f k (TBurst ms) = refl
  choices_item f k (TAlt ss) = joined (map (ren_alternative f)) (choices_among k ss) (alternatives k ss ∷ []) _ _ (choices_seqs f k ss) (λ j. alternatives_kept f k ss j ∷ [])

  choices_seqs : (f : ℕ → ℕ) (k : ℕ) (ss : TSeqs) → choices_among k (ren_seqs f ss) ≡ map (map (ren_alternative f)) (choices_among k ss)
  choices_seqs f k Stop = refl
  choices_seqs f k (Or s ss) = joined (map (ren_alternative f)) (choices_of k s) (choices_among (k + places_of s) ss) _ _ (choices_seq f k s)
      (ap (λ n. choices_among (k + n) (ren_seqs f ss)) (seq_places f s) ∙ choices_seqs f (k + places_of s) ss)

-- ---- of a process
part_kept : (f : ℕ → ℕ) (s : Option TSeq) → part (ren_part f s) ≡ ren_seq f (part s)
part_kept f None = refl
part_kept f (Some s) = refl

join_kept : (f : ℕ → ℕ) (s t : TSeq) → join (ren_seq f s) (ren_seq f t) ≡ ren_seq f (join s t)
join_kept f Done t = refl
join_kept f (Then i s) t = ap (λ u. Then (ren_item f i) u) (join_kept f s t)

text_kept : (f : ℕ → ℕ) (p : Proc) → text_of (ren_proc f p) ≡ ren_seq f (text_of p)
text_kept f p = (λ j. join (part_kept f p.lead j) (part_kept f p.body j)) ∙ join_kept f (part p.lead) (part p.body)

pub bursts_kept : (f : ℕ → ℕ) (p : Proc) → bursts (ren_proc f p) ≡ map (ren_burst f) (bursts p)
bursts_kept f p = ap (bursts_of 1) (text_kept f p) ∙ bursts_seq f 1 (text_of p)

pub neighbours_kept : (f : ℕ → ℕ) (p : Proc) → neighbours (ren_proc f p) ≡ map (ren_neighbours f) (neighbours p)
neighbours_kept f p = ap (neighbours_of [] 1) (text_kept f p) ∙ next_seq f [] 1 (text_of p)

pub choices_kept : (f : ℕ → ℕ) (p : Proc) → choices (ren_proc f p) ≡ map (map (ren_alternative f)) (choices p)
choices_kept f p = ap (choices_of 1) (text_kept f p) ∙ choices_seq f 1 (text_of p)

body_kept : (f : ℕ → ℕ) (p : Proc) → body_place (ren_proc f p) ≡ body_place p
body_kept f p = ap (λ n. 1 + n) (ap places_of (part_kept f p.lead) ∙ seq_places f (part p.lead))

turn_lasts : (f : ℕ → ℕ) (p : Proc) → (turn (ren_proc f p)).lasts ≡ map (ren_burst f) (turn p).lasts
turn_lasts f p = (λ j. lasts_of (body_kept f p j) (part_kept f p.body j)) ∙ lasts_seq f [] (body_place p) (part p.body)

turn_firsts : (f : ℕ → ℕ) (p : Proc) → (turn (ren_proc f p)).firsts ≡ map (ren_burst f) (turn p).firsts
turn_firsts f p = (λ j. firsts_of (body_kept f p j) (part_kept f p.body j)) ∙ firsts_seq f (body_place p) (part p.body)

pub turn_kept : (f : ℕ → ℕ) (p : Proc) → turn (ren_proc f p) ≡ ren_neighbours f (turn p)
turn_kept f p = λ j. record { lasts = turn_lasts f p j; firsts = turn_firsts f p j }
