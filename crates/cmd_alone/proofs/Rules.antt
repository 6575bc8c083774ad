-- The rules on a process stay under a renaming that keeps all symbols apart.
use Rattle.std.proofs.Common.{◌≡◌, ◌≢◌, inl, inr, ℕ, ◌<◌, List, [], ◌∷◌, map, Some, None, refl, sym, ap, ◌∙◌, subst}
use Rattle.std.proofs.lemmas.List.{length-map}
use Rattle.cmd_tree.specs.declared.tree.Dir.{Dir}
use Rattle.cmd_tree.specs.declared.tree.Dir.TheVariants.{Input, Output}
use Rattle.cmd_tree.specs.declared.tree.Mark.{Mark}
use Rattle.cmd_tree.specs.declared.tree.Proc.{Proc}
use Rattle.cmd_tree.specs.Tree.{TAlt, Or, Then}
use Rattle.cmd_tree.specs.Lists.{is_in}
use Rattle.cmd_tree.specs.Marks.{input, output}
use Rattle.cmd_tree.specs.Meaning.{symbols}
use Rattle.cmd_rename.specs.Renaming.{ren_mark, ren_marks, ren_seqs, ren_proc}
use Rattle.process_laws.specs.GrantForms.{Giving, single, lone, gifts, plain, loans, release, granted_of}
use Rattle.tree_walk.specs.Bursts.{Burst, dir_of, bursts}
use Rattle.tree_walk.specs.Meetings.{Neighbours, Alternative, neighbours, choices, turn}
use Rattle.di_grammar.specs.Lists.{Each, EachTwo}
use Rattle.di_grammar.specs.Bursts.{Has, SameSet, Disjoint, if_input, inputs}
use Rattle.di_grammar.specs.EvenBursts.{Even, KeepsBursts}
use Rattle.di_grammar.specs.Alternation.{Alternate, KeepsNeighbours, KeepsRounds}
use Rattle.di_grammar.specs.Choices.{all_firsts, all_lasts, IsChoice}
use Rattle.di_grammar.specs.Twins.{Differ}
use Rattle.di_grammar.specs.Overlaps.{EqualOrDisjoint}
use Rattle.di_grammar.specs.Grants.{gifts_from, IsGrant}
use Rattle.cmd_alone.proofs.Apart.{KeepsApart, in_kept, MadeOf, made_of}
use Rattle.cmd_alone.proofs.Traces.{symbols_renamed}
use Rattle.cmd_alone.proofs.Walks.{ren_burst, ren_neighbours, ren_alternative, dir_kept, joined, bursts_kept, neighbours_kept, choices_kept, turn_kept}

-- ---- of each element of a renamed list
pub each_map : {A B : Type 0} (P : A → Type 0) (Q : B → Type 0) (h : A → B) (xs : List A) → ((x : A) → P x → Q (h x)) → Each P xs → Each Q (map h xs)
each_map P Q h [] g k = tt
each_map P Q h (x ∷ xs) g k = (g x k.0, each_map P Q h xs g k.1)

pub two_map : {A B : Type 0} (R : A → A → Type 0) (S : B → B → Type 0) (h : A → B) (xs : List A) → ((x y : A) → R x y → S (h x) (h y)) → EachTwo R xs → EachTwo S (map h xs)
two_map R S h [] g k = tt
two_map R S h (x ∷ xs) g k = (each_map (R x) (S (h x)) h xs (g x) k.0, two_map R S h xs g k.1)

-- of each of one list and each of another
cross_map : {A B : Type 0} (R : A → A → Type 0) (S : B → B → Type 0) (h : A → B) (xs ys : List A) → ((x y : A) → R x y → S (h x) (h y))
    → Each (λ x. Each (R x) ys) xs → Each (λ x. Each (S x) (map h ys)) (map h xs)
cross_map R S h xs ys g k = each_map (λ x. Each (R x) ys) (λ x. Each (S x) (map h ys)) h xs (λ x j. each_map (R x) (S (h x)) h ys (g x) j) k

-- ---- directions alone
alternate_kept : (f : ℕ → ℕ) (n : Neighbours) → Alternate n → Alternate (ren_neighbours f n)
alternate_kept f n h = cross_map (λ x y. dir_of x.marks ≢ dir_of y.marks) (λ x y. dir_of x.marks ≢ dir_of y.marks) (ren_burst f) n.lasts n.firsts
    (λ x y k q. k (sym (dir_kept f x.marks) ∙ q ∙ dir_kept f y.marks)) h

pub keeps_neighbours : (f : ℕ → ℕ) (p : Proc) → KeepsNeighbours p → KeepsNeighbours (ren_proc f p)
keeps_neighbours f p h = subst (Each Alternate) (sym (neighbours_kept f p)) (each_map Alternate Alternate (ren_neighbours f) (neighbours p) (alternate_kept f) h)

pub keeps_rounds : (f : ℕ → ℕ) (p : Proc) → KeepsRounds p → KeepsRounds (ren_proc f p)
keeps_rounds f p h = subst Alternate (sym (turn_kept f p)) (alternate_kept f (turn p) h)

firsts_kept : (f : ℕ → ℕ) (choice : List Alternative) → all_firsts (map (ren_alternative f) choice) ≡ map (ren_burst f) (all_firsts choice)
firsts_kept f [] = refl
firsts_kept f (a ∷ rest) = joined (ren_burst f) a.firsts (all_firsts rest) _ _ refl (firsts_kept f rest)

lasts_kept : (f : ℕ → ℕ) (choice : List Alternative) → all_lasts (map (ren_alternative f) choice) ≡ map (ren_burst f) (all_lasts choice)
lasts_kept f [] = refl
lasts_kept f (a ∷ rest) = joined (ren_burst f) a.lasts (all_lasts rest) _ _ refl (lasts_kept f rest)

way_kept : (f : ℕ → ℕ) (d : Dir) (bs : List Burst) → Each (λ b. dir_of b.marks ≡ d) bs → Each (λ b. dir_of b.marks ≡ d) (map (ren_burst f) bs)
way_kept f d bs h = each_map (λ b. dir_of b.marks ≡ d) (λ b. dir_of b.marks ≡ d) (ren_burst f) bs (λ b k. dir_kept f b.marks ∙ k) h

choice_kept : (f : ℕ → ℕ) (choice : List Alternative) → IsChoice choice → IsChoice (map (ren_alternative f) choice)
choice_kept f choice h = record {
  asks = subst (Each (λ b. dir_of b.marks ≡ Input)) (sym (firsts_kept f choice)) (way_kept f Input (all_firsts choice) h.asks);
  end = h.end;
  ends = subst (Each (λ b. dir_of b.marks ≡ h.end)) (sym (lasts_kept f choice)) (way_kept f h.end (all_lasts choice) h.ends);
}

pub keeps_choices : (f : ℕ → ℕ) (p : Proc) → Each IsChoice (choices p) → Each IsChoice (choices (ren_proc f p))
keeps_choices f p h = subst (Each IsChoice) (sym (choices_kept f p)) (each_map IsChoice IsChoice (map (ren_alternative f)) (choices p) (choice_kept f) h)

inputs_by : (f : ℕ → ℕ) (d : Dir) (b : Burst) (bs : List Burst) → if_input d (ren_burst f b) (map (ren_burst f) bs) ≡ map (ren_burst f) (if_input d b bs)
inputs_by f Input b bs = refl
inputs_by f Output b bs = refl

inputs_kept : (f : ℕ → ℕ) (bs : List Burst) → inputs (map (ren_burst f) bs) ≡ map (ren_burst f) (inputs bs)
inputs_kept f [] = refl
inputs_kept f (b ∷ bs) = (λ k. if_input (dir_kept f b.marks k) (ren_burst f b) (inputs_kept f bs k)) ∙ inputs_by f (dir_of b.marks) b (inputs bs)

-- ---- and which symbols are equal
module _ (f : ℕ → ℕ) (apart : KeepsApart f) where
  even_kept : (b : Burst) → Even b → Even (ren_burst f b)
  even_kept b h = record {
    differ = two_map (λ m n. m.sym.0 ≢ n.sym.0) (λ m n. m.sym.0 ≢ n.sym.0) (ren_mark f) b.marks (λ m n k q. k (apart m.sym.0 n.sym.0 q)) h.differ;
    one_way = each_map (λ m. m.dir ≡ dir_of b.marks) (λ m. m.dir ≡ dir_of (ren_marks f b.marks)) (ren_mark f) b.marks (λ m k. k ∙ sym (dir_kept f b.marks)) h.one_way;
  }

  pub keeps_bursts : (p : Proc) → KeepsBursts p → KeepsBursts (ren_proc f p)
  keeps_bursts p h = subst (Each Even) (sym (bursts_kept f p)) (each_map Even Even (ren_burst f) (bursts p) even_kept h)

  has_is : (b : Burst) (a : ℕ) → is_in (f a) (symbols (ren_marks f b.marks)) ≡ is_in a (symbols b.marks)
  has_is b a = ap (is_in (f a)) (symbols_renamed f b.marks) ∙ in_kept f apart a (symbols b.marks)

  has_made : (b : Burst) (k : ℕ) → Has (ren_burst f b) k → MadeOf f (symbols b.marks) k
  has_made b k h = made_of f (symbols b.marks) k (ap (is_in k) (sym (symbols_renamed f b.marks)) ∙ h)

  part_of : (b c : Burst) → ((a : ℕ) → Has b a → Has c a) → (k : ℕ) → Has (ren_burst f b) k → Has (ren_burst f c) k
  part_of b c g k h = let m = has_made b k h in subst (Has (ren_burst f c)) (sym m.is) (has_is c m.number ∙ g m.number m.within)

  same_there : (b c : Burst) → SameSet b c → SameSet (ren_burst f b) (ren_burst f c)
  same_there b c h = λ k. (part_of b c (λ a. (h a).0) k, part_of c b (λ a. (h a).1) k)

  same_back : (b c : Burst) → SameSet (ren_burst f b) (ren_burst f c) → SameSet b c
  same_back b c h = λ a. (λ i. sym (has_is c a) ∙ (h (f a)).0 (has_is b a ∙ i), λ i. sym (has_is b a) ∙ (h (f a)).1 (has_is c a ∙ i))

  disjoint_there : (b c : Burst) → Disjoint b c → Disjoint (ren_burst f b) (ren_burst f c)
  disjoint_there b c h = λ k i j. let m = has_made b k i in h m.number m.within (sym (has_is c m.number) ∙ subst (Has (ren_burst f c)) m.is j)

  either_there : (b c : Burst) → EqualOrDisjoint b c → EqualOrDisjoint (ren_burst f b) (ren_burst f c)
  either_there b c h = elim h [ inl k ↦ inl (same_there b c k) | inr k ↦ inr (disjoint_there b c k) ]

  differ_kept : (a b : Alternative) → Differ a b → Differ (ren_alternative f a) (ren_alternative f b)
  differ_kept a b h = cross_map (λ x y. SameSet x y → ⊥) (λ x y. SameSet x y → ⊥) (ren_burst f) a.firsts b.firsts (λ x y k q. k (same_back x y q)) h

  pub keeps_twins : (p : Proc) → Each (EachTwo Differ) (choices p) → Each (EachTwo Differ) (choices (ren_proc f p))
  keeps_twins p h = subst (Each (EachTwo Differ)) (sym (choices_kept f p))
      (each_map (EachTwo Differ) (EachTwo Differ) (map (ren_alternative f)) (choices p) (λ c k. two_map Differ Differ (ren_alternative f) c differ_kept k) h)

  pub keeps_overlaps : (p : Proc) → EachTwo EqualOrDisjoint (inputs (bursts p)) → EachTwo EqualOrDisjoint (inputs (bursts (ren_proc f p)))
  keeps_overlaps p h = subst (EachTwo EqualOrDisjoint) (sym (ap inputs (bursts_kept f p) ∙ inputs_kept f (bursts p)))
      (two_map EqualOrDisjoint EqualOrDisjoint (ren_burst f) (inputs (bursts p)) either_there h)

  pub marks_kept : (ms : List Mark) → EachTwo (λ m n. m.sym.0 ≡ n.sym.0 → m.dir ≡ n.dir) ms → EachTwo (λ m n. m.sym.0 ≡ n.sym.0 → m.dir ≡ n.dir) (ren_marks f ms)
  marks_kept ms h = two_map (λ m n. m.sym.0 ≡ n.sym.0 → m.dir ≡ n.dir) (λ m n. m.sym.0 ≡ n.sym.0 → m.dir ≡ n.dir) (ren_mark f) ms (λ m n k q. k (apart m.sym.0 n.sym.0 q)) h

-- ---- a grant is a grant under any renaming
gifts_kept : (f : ℕ → ℕ) (ps : List ℕ) → ren_seqs f (gifts ps) ≡ gifts (map f ps)
gifts_kept f [] = refl
gifts_kept f (p ∷ ps) = ap (λ u. Or (lone (single (output (f p)))) u) (gifts_kept f ps)

plain_kept : (f : ℕ → ℕ) (n : ℕ) (ps : List ℕ) → ren_proc f (plain n ps) ≡ plain (f n) (map f ps)
plain_kept f n ps = λ k. record { lead = None; body = Some (Then (single (input (f n))) (lone (TAlt (gifts_kept f ps k)))) }

abbrev ren_giving : (ℕ → ℕ) → Giving → Giving
ren_giving f g = record { granted = f g.granted; returned = f g.returned }

loans_kept : (f : ℕ → ℕ) (gs : List Giving) → ren_seqs f (loans gs) ≡ loans (map (ren_giving f) gs)
loans_kept f [] = refl
loans_kept f (g ∷ gs) = ap (λ u. Or (Then (single (output (f g.granted))) (lone (single (input (f g.returned))))) u) (loans_kept f gs)

release_kept : (f : ℕ → ℕ) (gs : List Giving) → ren_proc f (release gs) ≡ release (map (ren_giving f) gs)
release_kept f gs = λ k. record { lead = None; body = Some (lone (TAlt (loans_kept f gs k))) }

pub grant_kept : (f : ℕ → ℕ) (p : Proc) → IsGrant p → IsGrant (ren_proc f p)
grant_kept f p h = elim h.1 [
  | inl g ↦ (
    gifts_from 2 1 (map f g.symbols),
    inl (record {
      asks = f g.asks;
      symbols = map f g.symbols;
      many = subst (λ n. 1 < n) (sym (length-map g.symbols f)) g.many;
      is = ap (ren_proc f) g.is ∙ plain_kept f g.asks g.symbols;
      gives = refl;
    }),
  )
  | inr g ↦ (
    gifts_from 1 2 (granted_of (map (ren_giving f) g.givings)),
    inr (record {
      givings = map (ren_giving f) g.givings;
      many = subst (λ n. 1 < n) (sym (length-map g.givings (ren_giving f))) g.many;
      is = ap (ren_proc f) g.is ∙ release_kept f g.givings;
      gives = refl;
    }),
  )
]
