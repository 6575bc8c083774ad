-- A line that is put behind the others.
use Rattle.std.proofs.Common.{◌≡◌, ℕ, zero, suc, ◌+◌, ◌<◌, ◌≤◌, Bool, true, false, List, [], ◌∷◌, ◌++◌, map, length, get_or, refl, sym, ap, ◌∙◌, arith, subst, append-nil, length-append, ◌⊎◌, inl, inr}
use Rattle.std.specs.Prelude.{if◌then◌else◌}
use Rattle.std.specs.List.{AllByRecursion, list_any}
use Rattle.std.specs.Str.{bytes_eq}
use Rattle.std.proofs.lemmas.List.{map-append}
use Rattle.cmd_tree.specs.declared.tree.Proc.{Proc}
use Rattle.cmd_rename.specs.Renaming.{ren_all}
use Rattle.cmd_rename.specs.Symbols.{symbols_of}
use Rattle.cmd_expand.specs.declared.plan.Part.{Part}
use Rattle.cmd_expand.specs.declared.plan.Part.TheVariants.{Own, Use}
use Rattle.cmd_expand.specs.declared.plan.Line.{Line}
use Rattle.cmd_expand.specs.declared.plan.Plan.{Plan}
use Rattle.cmd_expand.specs.Names.{number, with_name}
use Rattle.cmd_expand.specs.Pairs.{renamed}
use Rattle.cmd_expand.specs.Expansion.{Known, defined_by}
use Rattle.cmd_expand.proofs.Found.{number_out}
use Rattle.cmd_expand.specs.Mirror.Plan.{procs_of_part, procs_of_parts, procs_known, IsBelow, IsShape, own, other, IsLine, AreLines, IsPlan, IsPlanOf}

pub get_front : {A : Type 0} → (xs ys : List A) (i : ℕ) (d : A) → i < length xs → get_or (xs ++ ys) i d ≡ get_or xs i d
get_front [] ys i d h = absurd (omega arith)
get_front (x ∷ xs) ys zero d h = refl
get_front (x ∷ xs) ys (suc i) d h = get_front xs ys i d (omega arith)

pub get_last : {A : Type 0} → (xs : List A) (x d : A) (i : ℕ) → i ≡ length xs → get_or (xs ++ x ∷ []) i d ≡ x
get_last [] x d zero h = refl
get_last [] x d (suc i) h = absurd (omega arith)
get_last (y ∷ xs) x d zero h = absurd (omega arith)
get_last (y ∷ xs) x d (suc i) h = get_last xs x d i (omega arith)

-- parts mean the same behind more lines
part_kept : (ms : List (List Proc)) (qs : List Proc) (n : ℕ) (p : Part) → n ≤ length ms → IsBelow n p → procs_of_part (ms ++ qs ∷ []) p ≡ procs_of_part ms p
part_kept ms qs n (Own p) l h = refl
part_kept ms qs n (Use of pairs) l h = ap (ren_all (renamed pairs.items)) (get_front ms (qs ∷ []) of [] (omega (arith, l, h)))

pub parts_kept : (ms : List (List Proc)) (qs : List Proc) (n : ℕ) (ps : List Part) → n ≤ length ms → AllByRecursion (IsBelow n) ps → procs_of_parts (ms ++ qs ∷ []) ps ≡ procs_of_parts ms ps
parts_kept ms qs n [] l h = refl
parts_kept ms qs n (p ∷ ps) l h = λ k. part_kept ms qs n p l h.0 k ++ parts_kept ms qs n ps l h.1 k

shape_kept : (ms : List (List Proc)) (qs : List Proc) (n : ℕ) (ps : List Proc) (shape : ℕ) → n ≤ length ms → IsShape ms n ps shape → IsShape (ms ++ qs ∷ []) n ps shape
shape_kept ms qs n ps _ l own = own
shape_kept ms qs n ps _ l (other shape k h e s) =
    let same : get_or (ms ++ qs ∷ []) shape [] ≡ get_or ms shape [] = get_front ms (qs ∷ []) shape [] (omega (arith, l, k)) in
    other shape k h (e ∙ ap (ren_all h) (sym same)) (s ∙ ap (λ u. map h (symbols_of u)) (sym same))

line_kept : (ms : List (List Proc)) (qs : List Proc) (n : ℕ) (l : Line) (ps : List Proc) → n ≤ length ms → IsLine ms n l ps → IsLine (ms ++ qs ∷ []) n l ps
line_kept ms qs n l ps f h = record {
  below = h.below;
  meaning = parts_kept ms qs n l.parts.items f h.below ∙ h.meaning;
  symbols = h.symbols;
  procs = h.procs;
  places = h.places;
  shape = shape_kept ms qs n ps l.shape f h.shape;
}

below_or : (n i : ℕ) → i < n + 1 → (i < n) ⊎ (i ≡ n)
below_or zero zero h = inr refl
below_or zero (suc i) h = absurd (omega arith)
below_or (suc n) zero h = inl (omega arith)
below_or (suc n) (suc i) h = next (below_or n i (omega arith))
  where
    next : (i < n) ⊎ (i ≡ n) → (suc i < suc n) ⊎ (suc i ≡ suc n)
    next (inl k) = inl (omega (arith, k))
    next (inr e) = inr (ap suc e)

pub lines_pushed : (ms : List (List Proc)) (ls : List Line) (l : Line) (qs : List Proc) → AreLines ms ls → IsLine ms (length ls) l qs → AreLines (ms ++ qs ∷ []) (ls ++ l ∷ [])
lines_pushed ms ls l qs a h = record {
  many = omega (arith, length-append ms (qs ∷ []), length-append ls (l ∷ []), a.many);
  line = λ i d f. at i d f (below_or (length ls) i (omega (arith, f, length-append ls (l ∷ []))));
}
  where
    at : (i : ℕ) (d : Line) → i < length (ls ++ l ∷ []) → (i < length ls) ⊎ (i ≡ length ls) → IsLine (ms ++ qs ∷ []) i (get_or (ls ++ l ∷ []) i d) (get_or (ms ++ qs ∷ []) i [])
    at i d f (inl k) =
        let few : i < length ms = omega (arith, k, a.many) in
        subst (λ u. IsLine (ms ++ qs ∷ []) i u (get_or (ms ++ qs ∷ []) i [])) (sym (get_front ls (l ∷ []) i d k))
        (subst (λ u. IsLine (ms ++ qs ∷ []) i (get_or ls i d) u) (sym (get_front ms (qs ∷ []) i [] few)) (line_kept ms qs i (get_or ls i d) (get_or ms i []) (omega (arith, few)) (a.line i d k)))
    at i d f (inr e) =
        let last : i ≡ length ms = omega (arith, e, a.many) in
        subst (λ u. IsLine (ms ++ qs ∷ []) i u (get_or (ms ++ qs ∷ []) i [])) (sym (get_last ls l d i e))
        (subst (λ u. IsLine (ms ++ qs ∷ []) i l u) (sym (get_last ms qs [] i last))
        (subst (λ n. IsLine (ms ++ qs ∷ []) n l qs) (sym e) (line_kept ms qs (length ls) l qs (omega (arith, a.many)) h)))

-- ---- the names of definitions
pub record Grown (ns : List (List ℕ)) (n : List ℕ) : Type 0 where
  pub rest : List (List ℕ)
  pub is : with_name ns n ≡ ns ++ rest

grown_by : (ns : List (List ℕ)) (n : List ℕ) (b : Bool) → list_any (bytes_eq n) ns ≡ b → Grown ns n
grown_by ns n true e = record { rest = []; is = ap (λ c. if c then ns else ns ++ n ∷ []) e ∙ sym (append-nil ns) }
grown_by ns n false e = record { rest = n ∷ []; is = ap (λ c. if c then ns else ns ++ n ∷ []) e }

pub grown : (ns : List (List ℕ)) (n : List ℕ) → Grown ns n
grown ns n = grown_by ns n (list_any (bytes_eq n) ns) refl

pub plan_grown : (known : List Known) (p q : Plan) (n : List ℕ) → IsPlanOf known p → q.defined ≡ with_name p.defined n → q.lines ≡ p.lines → IsPlan known q
plan_grown known p q n h e l =
    let g = grown p.defined n in
    record { rest = g.rest; defined = e ∙ g.is ∙ ap (λ u. u ++ g.rest) h.defined; lines = subst (λ u. AreLines (procs_known known) u.items) (sym l) h.lines }

pub plan_exact : (known : List Known) (p : Plan) → IsPlanOf known p → IsPlan known p
plan_exact known p h = record { rest = []; defined = h.defined ∙ sym (append-nil (map (λ (k : Known). k.name) known)); lines = h.lines }

pub plan_same : (known : List Known) (p q : Plan) → IsPlan known p → q.defined ≡ p.defined → q.lines.items ≡ p.lines.items → IsPlan known q
plan_same known p q h d l = record { rest = h.rest; defined = d ∙ h.defined; lines = subst (λ u. AreLines (procs_known known) u) (sym l) h.lines }

pub all_push : {A : Type 0} → (P : A → Type 0) (xs : List A) (x : A) → AllByRecursion P xs → P x → AllByRecursion P (xs ++ x ∷ [])
all_push P [] x h k = (k, tt)
all_push P (y ∷ xs) x h k = (h.0, all_push P xs x h.1 k)

pub all_at : {A : Type 0} → (P : A → Type 0) (xs : List A) (i : ℕ) (x : A) → AllByRecursion P xs → i < length xs → x ≡ get_or xs i x → P x
all_at P [] i x h l e = absurd (omega arith)
all_at P (y ∷ xs) zero x h l e = subst P (sym e) h.0
all_at P (y ∷ xs) (suc i) x h l e = all_at P xs i x h.1 (omega arith) e

-- ---- a definition that is put behind the others
pub define_lines : (known : List Known) (n : List ℕ) (ps : List Proc) (ls us : List Line) (l : Line) → AreLines (procs_known known) ls → IsLine (procs_known known) (length ls) l ps → us ≡ ls ++ l ∷ []
    → AreLines (procs_known (known ++ defined_by n ps ∷ [])) us
define_lines known n ps ls us l a h e =
    subst (λ (vs : List Line). AreLines (procs_known (known ++ defined_by n ps ∷ [])) vs) (sym e)
    (subst (λ (ms : List (List Proc)). AreLines ms (ls ++ l ∷ [])) (sym (map-append (λ (k : Known). k.procs) known (defined_by n ps ∷ []))) (lines_pushed (procs_known known) ls l ps a h))

pub define_names : (known : List Known) (n : List ℕ) (ps : List Proc) (ns ms : List (List ℕ)) → ns ≡ map (λ (k : Known). k.name) known → length ns ≤ number ns n → ms ≡ with_name ns n
    → ms ≡ map (λ (k : Known). k.name) (known ++ defined_by n ps ∷ [])
define_names known n ps ns ms h l e =
    e ∙ ap (λ b. if b then ns else ns ++ n ∷ []) (number_out ns n l) ∙ ap (λ u. u ++ n ∷ []) h ∙ sym (map-append (λ (k : Known). k.name) known (defined_by n ps ∷ []))

pub all_first : {A : Type 0} → (P : A → Type 0) (xs ys : List A) → AllByRecursion P (xs ++ ys) → AllByRecursion P xs
all_first P [] ys h = tt
all_first P (x ∷ xs) ys h = (h.0, all_first P xs ys h.1)

pub all_second : {A : Type 0} → (P : A → Type 0) (xs ys : List A) → AllByRecursion P (xs ++ ys) → AllByRecursion P ys
all_second P [] ys h = h
all_second P (x ∷ xs) ys h = all_second P xs ys h.1
