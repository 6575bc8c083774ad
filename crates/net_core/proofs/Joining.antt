-- The end of a wire, as ports come to it.
use Rattle.std.proofs.Common.{◌≡◌, ◌≢◌, ℕ, suc, ◌+◌, ◌<◌, ◌≤◌, Bool, true, false, not, List, [], ◌∷◌, ◌++◌, length, drop, get_or, Some, refl, sym, ap, ◌∙◌, subst, arith, inl, inr, eq-eqb, ne_eqb, drop-cons, length-drop, add-one, append-nil, append_assoc}
use Rattle.std.specs.Prelude.{slice_get}
use Rattle.std.specs.List.{AllByRecursion}
use Rattle.std.proofs.lemmas.Bool.{cases_eq}
use Rattle.net_core.specs.declared.table.End.{End}
use Rattle.net_core.specs.declared.table.End.TheVariants.{Free, At, Shared}
use Rattle.net_core.specs.Wiring.{Node}
use Rattle.net_core.specs.Mirror.EndTables.{Place, joined, end_in, ports_from, ports_of, all_ports}
use Rattle.net_core.proofs.Sizes.{all_append}

pub joined_assoc : (e f g : End) → joined (joined e f) g ≡ joined e (joined f g)
joined_assoc Free f g = refl
joined_assoc (At p) Free g = refl
joined_assoc (At p) (At q) Free = refl
joined_assoc (At p) (At q) (At r) = refl
joined_assoc (At p) (At q) Shared = refl
joined_assoc (At p) Shared g = refl
joined_assoc Shared f g = refl

pub joined_swap : (e f : End) → joined e f ≡ joined f e
joined_swap Free Free = refl
joined_swap Free (At q) = refl
joined_swap Free Shared = refl
joined_swap (At p) Free = refl
joined_swap (At p) (At q) = refl
joined_swap (At p) Shared = refl
joined_swap Shared Free = refl
joined_swap Shared (At q) = refl
joined_swap Shared Shared = refl

pub joined_free : (e : End) → joined e Free ≡ e
joined_free Free = refl
joined_free (At p) = refl
joined_free Shared = refl

-- ---- the end at a wire

pub end_nil : (w : ℕ) → end_in w [] ≡ Free
unfolding end_in
end_nil w = refl

pub end_same : (w : ℕ) (x : Place) (xs : List Place) → w ≡ x.wire → end_in w (x ∷ xs) ≡ joined (At x.port) (end_in w xs)
unfolding end_in
end_same w x xs e = rw (eq-eqb w x.wire e) refl

pub end_other : (w : ℕ) (x : Place) (xs : List Place) → w ≢ x.wire → end_in w (x ∷ xs) ≡ end_in w xs
unfolding end_in
end_other w x xs ne = rw (ne_eqb w x.wire ne) refl

pub end-append : (w : ℕ) (xs ys : List Place) → end_in w (xs ++ ys) ≡ joined (end_in w xs) (end_in w ys)
end-append w [] ys = ap (λ (e : End). joined e (end_in w ys)) (sym (end_nil w))
end-append w (x ∷ xs) ys = elim (cases_eq w x.wire) [
  | inl e ↦ end_same w x (xs ++ ys) e ∙ ap (joined (At x.port)) (end-append w xs ys) ∙ sym (joined_assoc (At x.port) (end_in w xs) (end_in w ys))
      ∙ ap (λ (u : End). joined u (end_in w ys)) (sym (end_same w x xs e))
  | inr ne ↦ end_other w x (xs ++ ys) ne ∙ end-append w xs ys ∙ ap (λ (u : End). joined u (end_in w ys)) (sym (end_other w x xs ne))
]

pub end_swap : (w : ℕ) (xs ys : List Place) → end_in w (xs ++ ys) ≡ end_in w (ys ++ xs)
end_swap w xs ys = end-append w xs ys ∙ joined_swap (end_in w xs) (end_in w ys) ∙ sym (end-append w ys xs)

pub end_above : (k w : ℕ) (xs : List Place) → k ≤ w → AllByRecursion (λ x. x.wire < k) xs → end_in w xs ≡ Free
end_above k w [] le all = end_nil w
end_above k w (x ∷ xs) le all = end_other w x xs (λ e. omega (arith, all.0)) ∙ end_above k w xs le all.1

-- ---- the ports of a node

pub from_none : (b : Bool) (n p : ℕ) (ds : List Bool) (ws : List ℕ) → length ws ≡ 0 → ports_from b n p ds ws ≡ []
unfolding ports_from
from_none b n p [] ws e = refl
from_none b n p (d ∷ ds) [] e = refl
from_none b n p (d ∷ ds) (w ∷ ws) e = absurd (omega arith)

from_here : (b d : Bool) (n p : ℕ) (ds : List Bool) (w : ℕ) (ws : List ℕ) → d ≡ b
    → ports_from b n p (d ∷ ds) (w ∷ ws) ≡ record { wire = w; port = record { node = n; number = p } } ∷ ports_from b n (p + 1) ds ws
unfolding ports_from
from_here true true n p ds w ws e = refl
from_here false false n p ds w ws e = refl
from_here true false n p ds w ws e = absurd (cc)
from_here false true n p ds w ws e = absurd (cc)

from_there : (b d : Bool) (n p : ℕ) (ds : List Bool) (w : ℕ) (ws : List ℕ) → d ≡ not b → ports_from b n p (d ∷ ds) (w ∷ ws) ≡ ports_from b n (p + 1) ds ws
unfolding ports_from
from_there true false n p ds w ws e = refl
from_there false true n p ds w ws e = refl
from_there true true n p ds w ws e = absurd (cc)
from_there false false n p ds w ws e = absurd (cc)

-- the end at the wire v, where the ports from port i on come
abbrev pub left : Bool → ℕ → List Bool → List ℕ → ℕ → ℕ → End
left b n ds ws i v = end_in v (ports_from b n i (drop i ds) (drop i ws))

module _ (b : Bool) (n : ℕ) (ds : List Bool) (ws : List ℕ) (i : ℕ) (in_ds : i < length ds) (in_ws : i < length ws) where
  opened : (v : ℕ) → left b n ds ws i v ≡ end_in v (ports_from b n i (get_or ds i false ∷ drop (i + 1) ds) (get_or ws i 0 ∷ drop (i + 1) ws))
  opened v = rw (drop-cons ds i false in_ds, drop-cons ws i 0 in_ws, add-one) refl

  abbrev this : Place
  this = record { wire = get_or ws i 0; port = record { node = n; number = i } }

  pub left_here : (v : ℕ) → get_or ds i false ≡ b → v ≡ get_or ws i 0 → left b n ds ws i v ≡ joined (At (record { node = n; number = i })) (left b n ds ws (i + 1) v)
  left_here v side at =
      opened v ∙ ap (end_in v) (from_here b (get_or ds i false) n i (drop (i + 1) ds) (get_or ws i 0) (drop (i + 1) ws) side)
      ∙ end_same v this (ports_from b n (i + 1) (drop (i + 1) ds) (drop (i + 1) ws)) at

  pub left_elsewhere : (v : ℕ) → get_or ds i false ≡ b → v ≢ get_or ws i 0 → left b n ds ws i v ≡ left b n ds ws (i + 1) v
  left_elsewhere v side ne =
      opened v ∙ ap (end_in v) (from_here b (get_or ds i false) n i (drop (i + 1) ds) (get_or ws i 0) (drop (i + 1) ws) side)
      ∙ end_other v this (ports_from b n (i + 1) (drop (i + 1) ds) (drop (i + 1) ws)) ne

  pub left_other_side : (v : ℕ) → get_or ds i false ≡ not b → left b n ds ws i v ≡ left b n ds ws (i + 1) v
  left_other_side v side =
      opened v ∙ ap (end_in v) (from_there b (get_or ds i false) n i (drop (i + 1) ds) (get_or ws i 0) (drop (i + 1) ws) side)

pub left_none : (b : Bool) (n : ℕ) (ds : List Bool) (ws : List ℕ) (i v : ℕ) → length ws ≤ i → left b n ds ws i v ≡ Free
left_none b n ds ws i v past = ap (end_in v) (from_none b n i (drop i ds) (drop i ws) (omega (arith, length-drop i ws))) ∙ end_nil v

-- ---- what holds of all ports

module _ (P : Place → Type 0) (n : ℕ) where
  abbrev Holds : Bool → ℕ → List Bool → List ℕ → Type 0
  Holds b p ds ws = (i : ℕ) → i < length ds → get_or ds i false ≡ b → P (record { wire = get_or ws i 0; port = record { node = n; number = p + i } })

  holds_first : (b : Bool) (p : ℕ) (ds : List Bool) (w : ℕ) (ws : List ℕ) → Holds b p (b ∷ ds) (w ∷ ws) → P (record { wire = w; port = record { node = n; number = p } })
  holds_first b p ds w ws h = subst (λ (q : ℕ). P (record { wire = w; port = record { node = n; number = q } })) (omega arith) (h 0 (omega arith) refl)

  holds_later : (b d : Bool) (p : ℕ) (ds : List Bool) (w : ℕ) (ws : List ℕ) → Holds b p (d ∷ ds) (w ∷ ws) → Holds b (p + 1) ds ws
  holds_later b d p ds w ws h = λ i l s.
      let next : p + suc i ≡ p + 1 + i = omega arith in
      subst (λ (q : ℕ). P (record { wire = get_or ws i 0; port = record { node = n; number = q } })) next (h (suc i) (omega arith) s)

  pub from_all : (b : Bool) (p : ℕ) (ds : List Bool) (ws : List ℕ) → length ws ≡ length ds
      → ((i : ℕ) → i < length ds → get_or ds i false ≡ b → P (record { wire = get_or ws i 0; port = record { node = n; number = p + i } }))
      → AllByRecursion P (ports_from b n p ds ws)
  unfolding ports_from
  from_all b p [] ws e h = tt
  from_all b p (d ∷ ds) [] e h = absurd (omega arith)
  from_all true p (true ∷ ds) (w ∷ ws) e h = (holds_first true p ds w ws h, from_all true (p + 1) ds ws (omega arith) (holds_later true true p ds w ws h))
  from_all true p (false ∷ ds) (w ∷ ws) e h = from_all true (p + 1) ds ws (omega arith) (holds_later true false p ds w ws h)
  from_all false p (true ∷ ds) (w ∷ ws) e h = from_all false (p + 1) ds ws (omega arith) (holds_later false true p ds w ws h)
  from_all false p (false ∷ ds) (w ∷ ws) e h = (holds_first false p ds w ws h, from_all false (p + 1) ds ws (omega arith) (holds_later false false p ds w ws h))

-- ---- the ports of nodes

pub all_ports-append : (b : Bool) (n : ℕ) (xs ys : List Node) → all_ports b n (xs ++ ys) ≡ all_ports b n xs ++ all_ports b (n + length xs) ys
unfolding all_ports
all_ports-append b n [] ys = let none : n ≡ n + 0 = omega arith in ap (λ m. all_ports b m ys) none
all_ports-append b n (x ∷ xs) ys =
    let next : n + 1 + length xs ≡ n + suc (length xs) = omega arith in
    ap (λ (l : List Place). ports_of b n x ++ l) (all_ports-append b (n + 1) xs ys ∙ ap (λ m. all_ports b (n + 1) xs ++ all_ports b m ys) next)
    ∙ sym (append_assoc (ports_of b n x) (all_ports b (n + 1) xs) (all_ports b (n + suc (length xs)) ys))

pub all_ports_one : (b : Bool) (n : ℕ) (x : Node) → all_ports b n (x ∷ []) ≡ ports_of b n x
unfolding all_ports
all_ports_one b n x = append-nil (ports_of b n x)

pub all_all : (P : Place → Type 0) (b : Bool) (k : ℕ) (xs : List Node) → ((n : ℕ) (x : Node) → slice_get xs n ≡ Some x → AllByRecursion P (ports_of b (k + n) x))
    → AllByRecursion P (all_ports b k xs)
unfolding all_ports
all_all P b k [] h = tt
all_all P b k (x ∷ xs) h =
    let none : k + 0 ≡ k = omega arith in
    all_append P (ports_of b k x) (all_ports b (k + 1) xs) (subst (λ m. AllByRecursion P (ports_of b m x)) none (h 0 x refl))
    (all_all P b (k + 1) xs (λ n y e. let next : k + suc n ≡ k + 1 + n = omega arith in subst (λ m. AllByRecursion P (ports_of b m y)) next (h (suc n) y e)))
