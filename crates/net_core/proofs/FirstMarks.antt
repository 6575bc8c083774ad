-- The directions of a command's symbols, while its marks are gone through.
use Rattle.std.proofs.Common.{◌≡◌, ◌≢◌, ℕ, ◌+◌, ◌<◌, ◌≤◌, Bool, List, [], ◌∷◌, ◌++◌, length, get_or, take, drop, map, max, refl, sym, ap, subst, ◌∙◌, arith, length-append, add-one, drop-cons}
use Rattle.std.specs.List.{AllByRecursion, range_with_len}
use Rattle.std.proofs.lemmas.List.{take_more, take-append-drop}
use Rattle.std.proofs.lemmas.List.FromFn.{map-range_with_len_more}
use Rattle.cmd_tree.specs.declared.tree.Mark.{Mark}
use Rattle.cmd_tree.specs.declared.tree.Dir.{Dir}
use Rattle.cmd_tree.specs.declared.tree.Dir.TheVariants.{Input, Output}
use Rattle.cmd_tree.specs.contracts.tree.Dir.{the_type as dir_type}
use denote.Enum.Bare.{sameb}
use Rattle.cmd_tree.specs.Limits.{IsNumbered}
use Rattle.cmd_tree.specs.Marks.{is_output}
use Rattle.net_core.specs.Specs.{gives_symbol}

abbrev pub no_mark : Mark
no_mark = record { sym = record { 0 = 0 }; dir = Input }

-- the marks before index i have been gone through
pub record Directed (ms : List Mark) (n : ℕ) (outs : List Bool) (i : ℕ) : Type 0 where
  pub known : AllByRecursion (λ m. m.sym.0 < length outs) (take i ms)
  pub numbered : IsNumbered (length outs) (drop i ms) n
  pub are : outs ≡ map (gives_symbol ms) (range_with_len 0 (length outs))

all_push : (k : ℕ) (ms : List Mark) (m : Mark) → AllByRecursion (λ m. m.sym.0 < k) ms → m.sym.0 < k → AllByRecursion (λ m. m.sym.0 < k) (ms ++ m ∷ [])
all_push k [] m all h = (h, tt)
all_push k (x ∷ ms) m all h = (all.0, all_push k ms m all.1 h)

all_more : (k j : ℕ) (ms : List Mark) → k ≤ j → AllByRecursion (λ m. m.sym.0 < k) ms → AllByRecursion (λ m. m.sym.0 < j) ms
all_more k j [] le all = tt
all_more k j (x ∷ ms) le all = (omega (arith, all.0), all_more k j ms le all.1)

-- the first mark of the symbol k decides
first_mark : (front : List Mark) (m : Mark) (rest : List Mark) (k : ℕ) → AllByRecursion (λ m. m.sym.0 < k) front → m.sym.0 ≡ k
    → gives_symbol (front ++ m ∷ rest) k ≡ is_output m.dir
first_mark [] m rest k all e = grind arith
first_mark (x ∷ front) m rest k all e =
    let before : x.sym.0 < k = all.0 in
    grind (arith, first_mark front m rest k all.1 e)

-- a list is what stands before an index, the element there, and the rest
opened : (ms : List Mark) (i : ℕ) → i < length ms → ms ≡ take i ms ++ get_or ms i no_mark ∷ drop (i + 1) ms
opened ms i h = sym (take-append-drop i ms) ∙ ap (λ (l : List Mark). take i ms ++ l) (rw (add-one, drop-cons ms i no_mark h) refl)

module _ (ms : List Mark) (n : ℕ) (outs : List Bool) (i : ℕ) (d : Directed ms n outs i) (h : i < length ms) (m : Mark) (at : m ≡ get_or ms i no_mark) where
  next : IsNumbered (length outs) (m ∷ drop (i + 1) ms) n
  next =
      let e : drop i ms ≡ m ∷ drop (i + 1) ms = rw (at, add-one) (drop-cons ms i no_mark h) in
      subst (λ (l : List Mark). IsNumbered (length outs) l n) e d.numbered

  taken : take (i + 1) ms ≡ take i ms ++ m ∷ []
  taken = take_more ms i no_mark h ∙ ap (λ (x : Mark). take i ms ++ x ∷ []) (sym at)

  pub old_mark : m.sym.0 ≢ length outs → Directed ms n outs (i + 1)
  old_mark other =
      let low : m.sym.0 ≤ length outs = next.0 in
      let stays : max (length outs) (m.sym.0 + 1) ≡ length outs = omega arith in
      record {
        known = subst (λ (l : List Mark). AllByRecursion (λ m. m.sym.0 < length outs) l) (sym taken)
            (all_push (length outs) (take i ms) m d.known (omega arith));
        numbered = subst (λ (k : ℕ). IsNumbered k (drop (i + 1) ms) n) stays next.1;
        are = d.are;
      }

  pub new_mark : m.sym.0 ≡ length outs → Directed ms n (outs ++ is_output m.dir ∷ []) (i + 1)
  new_mark same =
      let longer : length (outs ++ is_output m.dir ∷ []) ≡ length outs + 1 = length-append outs (is_output m.dir ∷ []) in
      let grows : max (length outs) (m.sym.0 + 1) ≡ length (outs ++ is_output m.dir ∷ []) = omega arith in
      record {
        known = subst (λ (l : List Mark). AllByRecursion (λ x. x.sym.0 < length (outs ++ is_output m.dir ∷ [])) l) (sym taken)
            (all_push (length (outs ++ is_output m.dir ∷ [])) (take i ms) m
            (all_more (length outs) (length (outs ++ is_output m.dir ∷ [])) (take i ms) (omega arith) d.known) (omega arith));
        numbered = subst (λ (k : ℕ). IsNumbered k (drop (i + 1) ms) n) grows next.1;
        are = grown longer;
      }
    where
      decides : gives_symbol ms (length outs) ≡ is_output m.dir
      decides =
          ap (λ (l : List Mark). gives_symbol l (length outs)) (opened ms i h ∙ ap (λ (x : Mark). take i ms ++ x ∷ drop (i + 1) ms) (sym at))
          ∙ first_mark (take i ms) m (drop (i + 1) ms) (length outs) d.known same

      grown : length (outs ++ is_output m.dir ∷ []) ≡ length outs + 1
          → outs ++ is_output m.dir ∷ [] ≡ map (gives_symbol ms) (range_with_len 0 (length (outs ++ is_output m.dir ∷ [])))
      grown longer =
          ap (λ (l : List Bool). l ++ is_output m.dir ∷ []) d.are
          ∙ ap (λ (b : Bool). map (gives_symbol ms) (range_with_len 0 (length outs)) ++ b ∷ []) (sym decides)
          ∙ sym (map-range_with_len_more (gives_symbol ms) 0 (length outs) (length outs) (omega arith))
          ∙ ap (λ (k : ℕ). map (gives_symbol ms) (range_with_len 0 k)) (sym longer)

pub tells_output : (d : Dir) → sameb dir_type d Output ≡ is_output d
tells_output Input = refl
tells_output Output = refl
