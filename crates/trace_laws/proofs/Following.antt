-- The rows of symbols that may follow.
use Rattle.std.proofs.Common.{◌≡◌, ◌⊎◌, ◌↔◌, inl, inr, ℕ, ◌+◌, ◌-◌, ◌<◌, ◌≤◌, length, get_or, cond, arith, IsTrue, take, List, [], ◌∷◌, ◌++◌, refl, sym, ap, ◌∙◌, subst, Bool, true, false, Option, Some, None}
use mathlib.Core.Bool.{beq, not}
use Rattle.std.proofs.lemmas.List.{get_or_read, get_or_default}
use Rattle.std.specs.Cmp.Lexicographic.{bytes_decides}
use Rattle.std.specs.List.{Contains}
use Rattle.std.specs.Str.{bytes_eq}
use Rattle.trace_laws.specs.Mirror.Faults.{front, last_of}
use Rattle.trace_laws.specs.Mirror.Followers.{RowHas, Added, Entered, FollowUpTo, Lacks, LacksOneOf}
use Rattle.trace_laws.proofs.Members.{in_push, last_in_push, of_push}
use Rattle.trace_laws.proofs.Offers.{below_or}
use Rattle.trace_laws.proofs.Shown.{front_at, last_at, front_last}

pub added : (g h n : List ℕ → Option (List ℕ)) (at row : List ℕ) (last : ℕ)
    → ((q : List ℕ) → h q ≡ cond (bytes_eq at q) None (g q))
    → ((b : ℕ) → Contains row b ↔ RowHas (g at) b)
    → ((q : List ℕ) → n q ≡ cond (bytes_eq at q) (Some (row ++ last ∷ [])) (h q))
    → Added g n at last
added g h n at row last u r v s b = by (bytes_eq at s) refl where
  by : (t : Bool) → bytes_eq at s ≡ t → RowHas (n s) b ↔ (RowHas (g s) b ⊎ ((s ≡ at) × (b ≡ last)))
  by true e =
      let same : at ≡ s = (bytes_decides at s).0 e in
      let z : n s ≡ Some (row ++ last ∷ []) = v s ∙ ap (λ t. cond t (Some (row ++ last ∷ [])) (h s)) e in (
        λ k. elim (of_push row last b (subst (λ o. RowHas o b) z k)) [ inl m ↦ inl (subst (λ q. RowHas (g q) b) same ((r b).0 m)) | inr m ↦ inr (sym same, m) ],
        λ k. subst (λ o. RowHas o b) (sym z) (elim k [ inl m ↦ in_push row last b ((r b).1 (subst (λ q. RowHas (g q) b) (sym same) m)) | inr m ↦ last_in_push row last b m.1 ]),
      )
  by false e =
      let z : n s ≡ g s = v s ∙ ap (λ t. cond t (Some (row ++ last ∷ [])) (h s)) e ∙ u s ∙ ap (λ t. cond t None (g s)) e in (
        λ k. inl (subst (λ o. RowHas o b) z k),
        λ k. elim k [ inl m ↦ subst (λ o. RowHas o b) (sym z) m | inr m ↦ absurd (let w = (bytes_decides at s).1 (sym m.0) in cc) ],
      )

pub entered : (out : ℕ → Bool) (side : Bool) (x : List ℕ) (g n : List ℕ → Option (List ℕ)) (at : List ℕ) (last : ℕ) → x ≡ at ++ last ∷ []
    → out last ≡ side → Added g n at last → Entered out side x g n
entered out side x g n at last e o a s b = (
  λ k. elim ((a s b).0 k) [ inl m ↦ inl m | inr m ↦ inr (ap out m.1 ∙ o, e ∙ (λ i. sym m.0 i ++ sym m.1 i ∷ [])) ],
  λ k. (a s b).1 (elim k [
    | inl m ↦ inl m
    | inr m ↦ inr (
      sym (front_at s b) ∙ ap front (sym m.1 ∙ e) ∙ front_at at last,
      sym (last_at s b) ∙ ap last_of (sym m.1 ∙ e) ∙ last_at at last,
    )
  ]),
)

pub follow_more : (out : ℕ → Bool) (side : Bool) (W items : List (List ℕ)) (i : ℕ) (x : List ℕ) (g n : List ℕ → Option (List ℕ)) → items ≡ W
    → i < length items → x ≡ get_or items i x → Entered out side x g n → FollowUpTo out side W i g → FollowUpTo out side W (i + 1) n
follow_more out side W items i x g n e l r a f s b =
    let y : x ≡ get_or W i [] = get_or_read items i x l r [] ∙ ap (λ z. get_or z i []) e in (
      λ k. elim ((a s b).0 k) [ inl m ↦ longer y ((f s b).0 m) | inr m ↦ (m.0, (i, omega arith, sym y ∙ m.1)) ],
      λ k. (a s b).1 (elim (below_or k.1.0 i k.1.1) [
        | inl h ↦ inl ((f s b).1 (k.0, (k.1.0, h, k.1.2)))
        | inr q ↦ inr (k.0, y ∙ ap (λ j. get_or W j []) (sym q) ∙ k.1.2)
      ]),
    )
  where
    longer : x ≡ get_or W i [] → (out b ≡ side) × ((j : ℕ) × (j < i) × (get_or W j [] ≡ s ++ b ∷ [])) → (out b ≡ side) × ((j : ℕ) × (j < i + 1) × (get_or W j [] ≡ s ++ b ∷ []))
    longer y k = (k.0, (k.1.0, omega (arith, k.1.1), k.1.2))

follow_listed : (out : ℕ → Bool) (side : Bool) (W : List (List ℕ)) (g : List ℕ → Option (List ℕ)) → FollowUpTo out side W (length W) g
    → (s : List ℕ) (b : ℕ) → RowHas (g s) b ↔ ((out b ≡ side) × Contains W (s ++ b ∷ []))
follow_listed out side W g f s b = (
  λ k. let h = (f s b).0 k in (h.0, (h.1.0, h.1.1, get_or_default W h.1.0 (s ++ b ∷ []) [] h.1.1 ∙ h.1.2)),
  λ k. (f s b).1 (k.0, (k.1.0, k.1.1, get_or_default W k.1.0 [] (s ++ b ∷ []) k.1.1 ∙ k.1.2)),
)

pub lacks_row : (out : ℕ → Bool) (side : Bool) (W : List (List ℕ)) (g : List ℕ → Option (List ℕ)) (x row : List ℕ) → FollowUpTo out side W (length W) g
    → 0 < length x → (out (last_of x) ≡ side → ⊥) → g (front x) ≡ Some row → Lacks out side W x ↔ LacksOneOf W row x
lacks_row out side W g x row f l t e = (
  λ k. (k.sibling, subst (λ o. RowHas o k.sibling) e ((follow_listed out side W g f (front x) k.sibling).1 (k.of_side, k.may)), k.missing),
  λ k. let h = (follow_listed out side W g f (front x) k.0).0 (subst (λ o. RowHas o k.0) (sym e) k.1) in
      record { some = l; turned = t; sibling = k.0; of_side = h.0; may = h.1; missing = k.2 },
)

pub lacks_none : (out : ℕ → Bool) (side : Bool) (W : List (List ℕ)) (g : List ℕ → Option (List ℕ)) (x : List ℕ) → FollowUpTo out side W (length W) g
    → g (front x) ≡ None → Lacks out side W x → ⊥
lacks_none out side W g x f e k = subst (λ o. RowHas o k.sibling) e ((follow_listed out side W g f (front x) k.sibling).1 (k.of_side, k.may))

pub all_may : (W : List (List ℕ)) (row x : List ℕ) (n : ℕ) → length row ≤ n → ((k : ℕ) → k < n → Contains W (x ++ get_or row k 0 ∷ []))
    → IsTrue false ↔ LacksOneOf W row x
all_may W row x n l all = (
  λ e. absurd (let z : false ≡ true = e in cc),
  λ h. absurd (h.2 (subst (λ b. Contains W (x ++ b ∷ [])) (get_or_default row h.1.0 0 h.0 h.1.1 ∙ h.1.2) (all h.1.0 (omega (arith, h.1.1, l))))),
)

pub cut_last : (x f : List ℕ) (n a : ℕ) → n ≡ length x → 0 < n → f ≡ take (n - 1) x → a ≡ get_or x (n - 1) 0 → x ≡ f ++ a ∷ []
cut_last x f n a e l p q =
    let h : 0 < length x = omega (arith, e, l) in
    front_last x h ∙ (λ i. (ap (λ m. take (m - 1) x) (sym e) ∙ sym p) i ++ (ap (λ m. get_or x (m - 1) 0) (sym e) ∙ sym q) i ∷ [])

pub same_side : (a b : Bool) → not (beq a b) ≡ false → a ≡ b
same_side true true e = refl
same_side true false e = absurd (let z : true ≡ false = e in cc)
same_side false true e = absurd (let z : true ≡ false = e in cc)
same_side false false e = refl

pub other_side : (a b : Bool) → beq a b ≡ false → a ≡ b → ⊥
other_side true true e q = let z : true ≡ false = e in cc
other_side true false e q = let z : true ≡ false = q in cc
other_side false true e q = let z : false ≡ true = q in cc
other_side false false e q = let z : true ≡ false = e in cc
