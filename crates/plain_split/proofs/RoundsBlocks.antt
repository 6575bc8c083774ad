-- The blocks of wires in a network of rounds, and their numbers.
use Rattle.std.specs.Prelude.{if◌then◌else◌, nat_lt}
use Rattle.std.proofs.Common.{◌≡◌, ℕ, zero, suc, ◌+◌, ◌-◌, ◌<◌, ◌≤◌, ◌^◌, Bool, true, false, List, [], ◌∷◌, ◌++◌, map, length, Option, None, inl, inr, refl, sym, ap, subst, ◌∙◌, arith, append-nil, append_assoc, ne_eqb}
use Rattle.std.specs.List.{position_or_len, range_with_len}
use Rattle.std.proofs.lemmas.Bool.{cases_lt}
use Rattle.std.proofs.lemmas.List.{map-append, length-map}
use Rattle.std.proofs.lemmas.List.FromFn.{length-map-range_with_len}
use Rattle.net_laws.specs.ForkChain.{each}
use Rattle.plain_split.specs.RoundsNet.{Top, Odd, Even, pow, leaf, burst_before, Wire, Sym, To, Go, Put}
use Rattle.plain_split.specs.RoundsChart.{Parts, is_single, sole, entry, begins_process, back_go, back, on_go, same, count, places, puts, inner_wires, lines}
use Rattle.plain_split.specs.Mirror.RoundsTables.{number_of, end_of, end_at, picked, after_end, numbered, after_ends, next_after, top_wires, begin_wires, before_level, before_begin, before_puts, level_numbers, put_numbers, IsReady}

pub map_map : {A B C : Type 0} (f : B → C) (g : A → B) (xs : List A) → map f (map g xs) ≡ map (λ x. f (g x)) xs
map_map f g [] = refl
map_map f g (x ∷ xs) = ap (λ ys. f (g x) ∷ ys) (map_map f g xs)

ends_both : (n : ℕ) (xs ys : List (Option ℕ)) → after_ends n (xs ++ ys) ≡ after_ends (after_ends n xs) ys
ends_both n [] ys = refl
ends_both n (x ∷ xs) ys = ends_both (after_end n x) xs ys

each_split : {A : Type 0} (f : ℕ → List A) (n d : ℕ) → d < n → (vs : List A) × (each f n ≡ each f d ++ (f d ++ vs))
each_split f zero d low = absurd (omega arith)
each_split f (suc n) d low = elim (cases_lt d n) [
  | inl less ↦
      let (vs, e) = each_split f n d less in
      (vs ++ f n, ap (λ xs. xs ++ f n) e ∙ append_assoc (each f d) (f d ++ vs) (f n) ∙ ap (λ xs. each f d ++ xs) (append_assoc (f d) vs (f n)))
  | inr last ↦
      let same : d ≡ n = omega arith in
      ([], ap (λ m. each f m ++ f m) (sym same) ∙ ap (λ xs. each f d ++ xs) (sym (append-nil (f d))))
]

module _ (r : Parts) (ready : IsReady r) where
  -- a block after those before it
  next_block : (us ws : List Wire) → after_ends (next_after r us) (map (end_at r) ws) ≡ next_after r (us ++ ws)
  next_block us ws = sym (ap (after_ends (count r)) (map-append (end_at r) us ws) ∙ ends_both (count r) (map (end_at r) us) (map (end_at r) ws))

  -- ---- the top

  top_inside : end_at r (To Top) ≡ None
  top_inside = rw (ne_eqb 0 r.levels (λ e. omega (arith, ready.some_levels))) refl

  pub top_single : (x : ℕ) → r.burst ≡ x ∷ [] → (number_of r (To Top) ≡ x) × (next_after r (top_wires r) ≡ next_after r [])
  top_single x e =
      let taken : map (λ a. number_of r (Sym a)) (x ∷ []) ≡ x ∷ [] = subst (λ b. map (λ a. number_of r (Sym a)) b ≡ b) e ready.takes in (
        ap (λ b. position_or_len (same (if is_single b then Sym (sole b) else To Top)) (lines r)) e ∙ cc,
        ap (λ b. next_after r (if is_single b then [] else To Top ∷ [])) e,
      )

  pub top_many : is_single r.burst ≡ false → (number_of r (To Top) ≡ next_after r []) × (next_after r (top_wires r) ≡ next_after r [] + 1)
  top_many e =
      let cut : inner_wires r ≡ To Top ∷ drop_top = ap (λ b. (if b then [] else To Top ∷ []) ++ drop_top) e in
      let numbers : numbered (next_after r []) (end_at r (To Top) ∷ []) ≡ number_of r (To Top) ∷ [] = ready.blocks [] (To Top ∷ []) drop_top cut in
      let at : numbered (next_after r []) (None ∷ []) ≡ number_of r (To Top) ∷ [] = ap (λ x. numbered (next_after r []) (x ∷ [])) (sym top_inside) ∙ numbers in (
        cc,
        ap (λ b. next_after r (if b then [] else To Top ∷ [])) e ∙ ap (λ x. after_end (count r) x) top_inside,
      )
    where
      drop_top : List Wire
      drop_top = each (places r) r.levels ++ (begin_wires r ++ each (puts r) (pow r.levels))

  -- ---- the levels

  level_cut : (d : ℕ) → d < r.levels → (vs : List Wire) × (inner_wires r ≡ before_level r d ++ (places r d ++ vs))
  level_cut d low =
      let tail : List Wire = begin_wires r ++ each (puts r) (pow r.levels) in
      let (vs, e) = each_split (places r) r.levels d low in (
        vs ++ tail,
        ap (λ ws. top_wires r ++ (ws ++ tail)) e
            ∙ ap (λ ws. top_wires r ++ ws) (append_assoc (each (places r) d) (places r d ++ vs) tail ∙ ap (λ ws. each (places r) d ++ ws) (append_assoc (places r d) vs tail))
            ∙ sym (append_assoc (top_wires r) (each (places r) d) (places r d ++ (vs ++ tail))),
      )

  abbrev pub level_ends : ℕ → List (Option ℕ)
  level_ends d = map (λ i. end_at r (To (leaf d i))) (range_with_len 0 (pow d))

  ends_of_level : (d : ℕ) → map (end_at r) (places r d) ≡ level_ends (suc d)
  ends_of_level d = map_map (end_at r) (λ i. To (leaf (suc d) i)) (range_with_len 0 (pow (suc d)))

  pub level_numbered : (d : ℕ) → d < r.levels → numbered (next_after r (before_level r d)) (level_ends (suc d)) ≡ level_numbers r (suc d)
  level_numbered d low =
      let (vs, e) = level_cut d low in
      ap (numbered (next_after r (before_level r d))) (sym (ends_of_level d)) ∙ ready.blocks (before_level r d) (places r d) vs e
      ∙ map_map (number_of r) (λ i. To (leaf (suc d) i)) (range_with_len 0 (pow (suc d)))

  pub level_next : (d : ℕ) → after_ends (next_after r (before_level r d)) (level_ends (suc d)) ≡ next_after r (before_level r (suc d))
  level_next d =
      ap (after_ends (next_after r (before_level r d))) (sym (ends_of_level d)) ∙ next_block (before_level r d) (places r d)
      ∙ ap (next_after r) (append_assoc (top_wires r) (each (places r) d) (places r d))

  pub level_few : (d : ℕ) → d < r.levels → next_after r (before_level r d) ≤ length (lines r)
  level_few d low = let (vs, e) = level_cut d low in ready.next_few (before_level r d) (places r d ++ vs) e

  -- ---- the begin

  begin_cut : inner_wires r ≡ before_begin r ++ (begin_wires r ++ each (puts r) (pow r.levels))
  begin_cut = sym (append_assoc (top_wires r) (each (places r) r.levels) (begin_wires r ++ each (puts r) (pow r.levels)))

  begin_after : before_puts r 0 ≡ before_begin r ++ begin_wires r
  begin_after =
      ap (λ ws. top_wires r ++ (each (places r) r.levels ++ ws)) (append-nil (begin_wires r))
      ∙ sym (append_assoc (top_wires r) (each (places r) r.levels) (begin_wires r))

  pub begin_number : r.opens ≡ true → picked (next_after r (before_begin r)) (end_of (on_go r 0)) ≡ number_of r (Go 0)
  begin_number e =
      let cut : inner_wires r ≡ before_begin r ++ (Go 0 ∷ each (puts r) (pow r.levels)) =
      begin_cut ∙ ap (λ (b : Bool). before_begin r ++ ((if b then Go 0 ∷ [] else []) ++ each (puts r) (pow r.levels))) e in
      let numbers : numbered (next_after r (before_begin r)) (end_at r (Go 0) ∷ []) ≡ number_of r (Go 0) ∷ [] = ready.blocks (before_begin r) (Go 0 ∷ []) (each (puts r) (pow r.levels)) cut in
      cc

  pub begin_next : r.opens ≡ true → after_end (next_after r (before_begin r)) (end_of (on_go r 0)) ≡ next_after r (before_puts r 0)
  begin_next e =
      sym (ap (next_after r) begin_after ∙ ap (λ (b : Bool). next_after r (before_begin r ++ (if b then Go 0 ∷ [] else []))) e ∙ sym (next_block (before_begin r) (Go 0 ∷ [])))

  pub begin_none : r.opens ≡ false → next_after r (before_begin r) ≡ next_after r (before_puts r 0)
  begin_none e =
      sym (ap (next_after r) begin_after ∙ ap (λ (b : Bool). next_after r (before_begin r ++ (if b then Go 0 ∷ [] else []))) e ∙ ap (next_after r) (append-nil (before_begin r)))

  pub begin_few : next_after r (before_begin r) ≤ length (lines r)
  begin_few = ready.next_few (before_begin r) (begin_wires r ++ each (puts r) (pow r.levels)) begin_cut

  -- ---- what begins an act

  leaf_first : (e i : ℕ) → 0 < e → back r (To (leaf e i)) ≡ To (leaf e i)
  leaf_first zero i low = absurd (omega arith)
  leaf_first (suc e) i low = at (nat_lt i (pow e))
    where
      at : (b : Bool) → back r (To (if b then Odd (leaf e i) else Even (leaf e (i - pow e)))) ≡ To (if b then Odd (leaf e i) else Even (leaf e (i - pow e)))
      at true = refl
      at false = refl

  pub go_begins : (y : ℕ) → begins_process r y ≡ true → y ≡ 0 → number_of r (Go 0) ≡ number_of r (Go y)
  go_begins y b e = ap (λ (x : ℕ). number_of r (Go x)) (sym e)

  pub go_enters : (y : ℕ) → begins_process r y ≡ false → number_of r (To (leaf r.levels (burst_before r.opens (pow r.levels) y))) ≡ number_of r (Go y)
  go_enters y b =
      ap (λ w. position_or_len (same w) (lines r)) (leaf_first r.levels (burst_before r.opens (pow r.levels) y) ready.some_levels
      ∙ sym (ap (λ b. if b then Go y else To (entry r y)) b))

  -- ---- the outputs of an act

  puts_cut : (y : ℕ) → y < pow r.levels → (vs : List Wire) × (inner_wires r ≡ before_puts r y ++ (puts r y ++ vs))
  puts_cut y low =
      let (vs, e) = each_split (puts r) (pow r.levels) y low in (
        vs,
        ap (λ ws. top_wires r ++ (each (places r) r.levels ++ (begin_wires r ++ ws))) e
            ∙ ap (λ ws. top_wires r ++ (each (places r) r.levels ++ ws)) (sym (append_assoc (begin_wires r) (each (puts r) y) (puts r y ++ vs)))
            ∙ ap (λ ws. top_wires r ++ ws) (sym (append_assoc (each (places r) r.levels) (begin_wires r ++ each (puts r) y) (puts r y ++ vs)))
            ∙ sym (append_assoc (top_wires r) (each (places r) r.levels ++ (begin_wires r ++ each (puts r) y)) (puts r y ++ vs)),
      )

  puts_after : (y : ℕ) → before_puts r (suc y) ≡ before_puts r y ++ puts r y
  puts_after y =
      ap (λ ws. top_wires r ++ (each (places r) r.levels ++ ws)) (sym (append_assoc (begin_wires r) (each (puts r) y) (puts r y)))
      ∙ ap (λ ws. top_wires r ++ ws) (sym (append_assoc (each (places r) r.levels) (begin_wires r ++ each (puts r) y) (puts r y)))
      ∙ sym (append_assoc (top_wires r) (each (places r) r.levels ++ (begin_wires r ++ each (puts r) y)) (puts r y))

  pub puts_few : (y : ℕ) → y < pow r.levels → next_after r (before_puts r y) ≤ length (lines r)
  puts_few y low = let (vs, e) = puts_cut y low in ready.next_few (before_puts r y) (puts r y ++ vs) e

  pub puts_single : (y a : ℕ) → r.outs y ≡ a ∷ [] → number_of r (Go y) ∷ [] ≡ put_numbers r y
  puts_single y a e =
      let one : is_single (r.outs y) ≡ true = ap is_single e in
      let here : number_of r (Go y) ≡ number_of r (Put y a) = ap (λ w. position_or_len (same w) (lines r)) (sym (ap (λ b. if b then back_go r y else Put y a) one)) in
      ap (λ n. n ∷ []) here ∙ sym (ap (map (λ a. number_of r (Put y a))) e)

  pub single_next : (y : ℕ) → is_single (r.outs y) ≡ true → next_after r (before_puts r y) ≡ next_after r (before_puts r (suc y))
  single_next y one =
      sym (ap (next_after r) (puts_after y) ∙ ap (λ (b : Bool). next_after r (before_puts r y ++ (if b then [] else map (Put y) (r.outs y)))) one ∙ ap (next_after r) (append-nil (before_puts r y)))

  abbrev pub put_ends : ℕ → List (Option ℕ)
  put_ends y = map (λ a. end_at r (Put y a)) (r.outs y)

  ends_of_puts : (y : ℕ) → is_single (r.outs y) ≡ false → map (end_at r) (puts r y) ≡ put_ends y
  ends_of_puts y more = ap (λ (b : Bool). map (end_at r) (if b then [] else map (Put y) (r.outs y))) more ∙ map_map (end_at r) (Put y) (r.outs y)

  pub puts_numbered : (y : ℕ) → y < pow r.levels → is_single (r.outs y) ≡ false → numbered (next_after r (before_puts r y)) (put_ends y) ≡ put_numbers r y
  puts_numbered y low more =
      let (vs, e) = puts_cut y low in
      ap (numbered (next_after r (before_puts r y))) (sym (ends_of_puts y more)) ∙ ready.blocks (before_puts r y) (puts r y) vs e
      ∙ ap (λ (b : Bool). map (number_of r) (if b then [] else map (Put y) (r.outs y))) more ∙ map_map (number_of r) (Put y) (r.outs y)

  pub puts_next : (y : ℕ) → is_single (r.outs y) ≡ false → after_ends (next_after r (before_puts r y)) (put_ends y) ≡ next_after r (before_puts r (suc y))
  puts_next y more =
      ap (after_ends (next_after r (before_puts r y))) (sym (ends_of_puts y more)) ∙ next_block (before_puts r y) (puts r y) ∙ sym (ap (next_after r) (puts_after y))

pow_le : (d e : ℕ) → d ≤ e → pow d ≤ pow e
pow_le zero zero low = omega arith
pow_le zero (suc e) low = omega (arith, pow_le zero e (omega arith))
pow_le (suc d) zero low = absurd (omega arith)
pow_le (suc d) (suc e) low = omega (arith, pow_le d e (omega arith))

-- the same, for what the code has at hand
module _ (r : Parts) (ready : IsReady r) where
  pub level_small : (d : ℕ) → d < r.levels → pow (suc d) < 2 ^ 27
  level_small d low = omega (arith, pow_le (suc d) r.levels (omega arith), ready.few_acts)

  pub level_is : (d n k p : ℕ) (es : List (Option ℕ)) → d < r.levels → k ≡ suc d → p ≡ pow (suc d) → n ≡ next_after r (before_level r d)
      → es ≡ map (λ i. end_at r (To (leaf k i))) (range_with_len 0 p)
      → (numbered n es ≡ level_numbers r (suc d)) × (after_ends n es ≡ next_after r (before_level r (suc d))) × (n + length es + 1 < 2 ^ 32)
  level_is d n k p es low k_is p_is n_is es_is =
      let ends : es ≡ level_ends r ready (suc d) =
      es_is ∙ ap (λ q. map (λ i. end_at r (To (leaf k i))) (range_with_len 0 q)) p_is ∙ ap (λ q. map (λ i. end_at r (To (leaf q i))) (range_with_len 0 (pow (suc d)))) k_is in
      let long : length es ≡ pow (suc d) = ap length ends ∙ length-map-range_with_len (λ i. end_at r (To (leaf (suc d) i))) 0 (pow (suc d)) in (
        ap (λ m. numbered m es) n_is ∙ ap (numbered (next_after r (before_level r d))) ends ∙ level_numbered r ready d low,
        ap (λ m. after_ends m es) n_is ∙ ap (after_ends (next_after r (before_level r d))) ends ∙ level_next r ready d,
        omega (arith, level_small d low, level_few r ready d low, ready.few_wires),
      )

  pub begin_is : (n : ℕ) (x : Option ℕ) → r.opens ≡ true → n ≡ next_after r (before_begin r) → x ≡ end_of (on_go r 0)
      → (picked n x ≡ number_of r (Go 0)) × (after_end n x ≡ next_after r (before_puts r 0))
  begin_is n x opens n_is x_is = (
    ap (λ m. picked m x) n_is ∙ ap (picked (next_after r (before_begin r))) x_is ∙ begin_number r ready opens,
    ap (λ m. after_end m x) n_is ∙ ap (after_end (next_after r (before_begin r))) x_is ∙ begin_next r ready opens,
  )

  pub puts_are : (y n : ℕ) (es : List (Option ℕ)) → y < pow r.levels → is_single (r.outs y) ≡ false → n ≡ next_after r (before_puts r y) → es ≡ put_ends r ready y
      → (numbered n es ≡ put_numbers r y) × (after_ends n es ≡ next_after r (before_puts r (suc y))) × (n + length es + 1 < 2 ^ 32)
  puts_are y n es low more n_is es_is = (
    ap (λ m. numbered m es) n_is ∙ ap (numbered (next_after r (before_puts r y))) es_is ∙ puts_numbered r ready y low more,
    ap (λ m. after_ends m es) n_is ∙ ap (after_ends (next_after r (before_puts r y))) es_is ∙ puts_next r ready y more,
    omega (arith, ap length es_is, length-map (r.outs y) (λ a. end_at r (Put y a)), ready.few_outs y low, puts_few r ready y low, ready.few_wires),
  )
