-- The wires of a network of rounds are numbered block by block.
use Rattle.std.specs.Prelude.{filter, if◌then◌else◌}
use Rattle.std.proofs.Common.{◌≡◌, ℕ, ◌+◌, ◌<◌, ◌≤◌, ◌^◌, Bool, true, false, List, [], ◌∷◌, ◌++◌, map, length, get_or, None, ◌⊎◌, inl, inr, refl, sym, ap, subst, ◌∙◌, arith, append_assoc, length-append}
use Rattle.std.specs.List.{position_or_len}
use Rattle.std.proofs.lemmas.List.{length-map}
use Rattle.std.proofs.lemmas.List.FromFn.{length-map-range_with_len}
use Rattle.net_laws.proofs.Among.{Among}
use Rattle.net_laws.proofs.Rows.{among_right}
use Rattle.plain_split.specs.RoundsNet.{Wire, Sym, To, Go, Put, Out}
use Rattle.plain_split.specs.RoundsChart.{Parts, back, on, same, ends_inside, count, outer, outer_ports, inner_wires, lines}
use Rattle.plain_split.specs.Mirror.RoundsTables.{number_of, end_of, end_at, picked, after_end, numbered, after_ends, next_after, IsReady}
use Rattle.plain_split.proofs.RoundsPlan.{Sane}
use Rattle.plain_split.proofs.RoundsLists.{all_of, place_at}
use Rattle.plain_split.proofs.RoundsRoutes.{Fine, plan_of, among_in, back_same, last_of, Here}
use Rattle.plain_split.proofs.RoundsLines.{lines_once, inside_is}
use Rattle.plain_split.proofs.RoundsMay.{nothing}
use Rattle.plain_split.proofs.RoundsRight.{outer_number, same_one, same_self}

pub filter_parts : {A : Type 0} (f : A → Bool) (xs ys : List A) → filter f (xs ++ ys) ≡ filter f xs ++ filter f ys
filter_parts f [] ys = refl
filter_parts f (x ∷ xs) ys = ap (λ zs. if f x then x ∷ zs else zs) (filter_parts f xs ys) ∙ at (f x)
  where
    at : (b : Bool) → (if b then x ∷ (filter f xs ++ filter f ys) else (filter f xs ++ filter f ys)) ≡ (if b then x ∷ filter f xs else filter f xs) ++ filter f ys
    at true = refl
    at false = refl

get_at : {A : Type 0} (d w : A) (xs ys : List A) → get_or (xs ++ w ∷ ys) (length xs) d ≡ w
get_at d w [] ys = refl
get_at d w (x ∷ xs) ys = get_at d w xs ys

kept_same : (f : ℕ → ℕ) (xs : List ℕ) → ((x : ℕ) → Among x xs → f x ≡ x) → map f xs ≡ xs
kept_same f [] h = refl
kept_same f (x ∷ xs) h = ap (λ y. y ∷ map f xs) (h x (inl refl)) ∙ ap (λ ys. x ∷ ys) (kept_same f xs (λ y a. h y (inr a)))

-- a wire is the end of a path at a symbol, or it ends inside
end_case : (w : Wire) → ((end_of w ≡ None) × (ends_inside w ≡ true)) ⊎ ((a : ℕ) × (w ≡ Out a))
end_case (Sym a) = inl (refl, refl)
end_case (To p) = inl (refl, refl)
end_case (Go y) = inl (refl, refl)
end_case (Put y a) = inl (refl, refl)
end_case (Out a) = inr (a, refl)

module _ (r : Parts) where
  abbrev inside : Wire → Bool
  inside w = ends_inside (on r w)

  step : (n : ℕ) (w : Wire) (k : ℕ) → after_end n (end_of w) + k ≡ n + (if ends_inside w then 1 else 0) + k
  step n (Sym a) k = refl
  step n (To p) k = refl
  step n (Go y) k = refl
  step n (Put y a) k = refl
  step n (Out a) k = omega arith

  -- the next number counts the wires that end inside
  next_is : (n : ℕ) (ws : List Wire) → after_ends n (map (end_at r) ws) ≡ n + length (filter inside ws)
  next_is n [] = omega arith
  next_is n (w ∷ ws) = next_is (after_end n (end_at r w)) ws ∙ step n (on r w) (length (filter inside ws)) ∙ at (inside w)
    where
      at : (b : Bool) → n + (if b then 1 else 0) + length (filter inside ws) ≡ n + length (if b then w ∷ filter inside ws else filter inside ws)
      at true = omega arith
      at false = omega arith

  long : length (lines r) ≡ count r + length (filter inside (inner_wires r))
  long = omega (
    arith,
    length-append (map (back r) (outer_ports r)) (filter inside (inner_wires r)),
    length-map (outer_ports r) (back r),
    length-map-range_with_len (outer r) 0 (count r),
  )

  all_wires : next_after r (inner_wires r) ≡ length (lines r)
  all_wires = next_is (count r) (inner_wires r) ∙ sym long

  next_few : (us vs : List Wire) → inner_wires r ≡ us ++ vs → next_after r us ≤ length (lines r)
  next_few us vs e = omega (
    arith,
    next_is (count r) us,
    long,
    ap (λ ws. length (filter inside ws)) e,
    ap length (filter_parts inside us vs),
    length-append (filter inside us) (filter inside vs),
  )

  ends_more : (n : ℕ) (us : List Wire) (w : Wire) → after_ends n (map (end_at r) (us ++ w ∷ [])) ≡ after_end (after_ends n (map (end_at r) us)) (end_at r w)
  ends_more n [] w = refl
  ends_more n (u ∷ us) w = ends_more (after_end n (end_at r u)) us w

  module _ (T : List ℕ → Type 0) (fine : Fine r T) (sane : Sane (plan_of r T)) where
    -- a wire that begins inside has the next number, where its path does not end at a symbol
    one_number : (us vs : List Wire) (w : Wire) → inner_wires r ≡ us ++ w ∷ vs → picked (next_after r us) (end_at r w) ≡ number_of r w
    one_number us vs w e = elim (end_case (on r w)) [
      | inl (none, within) ↦ ap (picked (next_after r us)) none ∙ next_is (count r) us ∙ sym (new within)
      | inr (a, ends) ↦ ap (λ v. picked (next_after r us) (end_of v)) ends ∙ sym (known a ends)
    ]
      where
        among : Among w (inner_wires r)
        among = subst (Among w) (sym e) (among_right w us (w ∷ vs) (inl refl))

        there : Here r T fine sane w
        there = (inside_is r T fine sane w among).there

        first : back r w ≡ w
        first = back_same r T fine sane w there (inside_is r T fine sane w among).kept

        new : inside w ≡ true → number_of r w ≡ count r + length (filter inside us)
        new within =
            let none : Wire = nothing r T fine sane in
            let front : length (map (back r) (outer_ports r) ++ filter inside us) ≡ count r + length (filter inside us) =
            omega (arith, length-append (map (back r) (outer_ports r)) (filter inside us), length-map (outer_ports r) (back r), length-map-range_with_len (outer r) 0 (count r)) in
            let cut : lines r ≡ (map (back r) (outer_ports r) ++ filter inside us) ++ w ∷ filter inside vs =
            ap (λ ws. map (back r) (outer_ports r) ++ filter inside ws) e ∙ ap (λ ws. map (back r) (outer_ports r) ++ ws) (filter_parts inside us (w ∷ vs))
            ∙ ap (λ (b : Bool). map (back r) (outer_ports r) ++ (filter inside us ++ (if b then w ∷ filter inside vs else filter inside vs))) within
            ∙ sym (append_assoc (map (back r) (outer_ports r)) (filter inside us) (w ∷ filter inside vs)) in
            let at : get_or (lines r) (count r + length (filter inside us)) none ≡ w =
            ap (λ ws. get_or ws (count r + length (filter inside us)) none) cut
            ∙ ap (λ i. get_or ((map (back r) (outer_ports r) ++ filter inside us) ++ w ∷ filter inside vs) i none) (sym front)
            ∙ get_at none w (map (back r) (outer_ports r) ++ filter inside us) (filter inside vs) in
            let low : count r + length (filter inside us) < length (lines r) =
            omega (arith, ap length cut, length-append (map (back r) (outer_ports r) ++ filter inside us) (w ∷ filter inside vs)) in
            ap (λ v. position_or_len (same v) (lines r)) (first ∙ sym at) ∙ place_at same same_one same_self none (lines r) (lines_once r T fine sane) (count r + length (filter inside us)) low

        known : (a : ℕ) → on r w ≡ Out a → number_of r w ≡ a
        known a ends =
            let last = last_of r T fine sane w there in
            let (y, less, gives) = subst (Here r T fine sane) ends last.there in
            let (low, yes_out) = fine.outs_in y a less gives in
            let shown : outer r a ≡ Out a = ap (λ b. if b then Out a else Sym a) yes_out in
            ap (λ v. position_or_len (same v) (lines r)) (sym last.back_to ∙ ap (back r) (ends ∙ sym shown)) ∙ outer_number r T fine sane a low

    blocks : (us ws vs : List Wire) → inner_wires r ≡ us ++ (ws ++ vs) → numbered (next_after r us) (map (end_at r) ws) ≡ map (number_of r) ws
    blocks us [] vs e = refl
    blocks us (w ∷ ws) vs e =
        ap (λ n. n ∷ numbered (after_end (next_after r us) (end_at r w)) (map (end_at r) ws)) (one_number us (ws ++ vs) w e)
        ∙ ap (λ n. number_of r w ∷ numbered n (map (end_at r) ws)) (sym (ends_more (count r) us w))
        ∙ ap (λ ns. number_of r w ∷ ns) (blocks (us ++ w ∷ []) ws vs (e ∙ sym (append_assoc us (w ∷ []) (ws ++ vs))))

    pub ready : length (lines r) < 2 ^ 20 → IsReady r
    ready few = record {
      some_levels = fine.some_levels;
      few_acts = fine.acts_few;
      few_wires = few;
      few_names = omega (arith, long, few);
      burst_some = fine.burst_some;
      few_burst = fine.burst_narrow;
      outs_some = fine.outs_some;
      few_outs = fine.outs_narrow;
      outs_known = λ y low. all_of (λ a. a < count r) (r.outs y) (λ a i. (fine.outs_in y a low (among_in a (r.outs y) i)).0);
      outs_once = fine.outs_once;
      takes = kept_same (λ a. number_of r (Sym a)) r.burst (λ a i.
          let (low, no_out) = fine.burst_in a (among_in a r.burst i) in
          let taken : outer r a ≡ Sym a = ap (λ b. if b then Out a else Sym a) no_out in
          ap (λ v. position_or_len (same (back r v)) (lines r)) (sym taken) ∙ outer_number r T fine sane a low);
      ports = outer_number r T fine sane;
      blocks = blocks;
      all_wires = all_wires;
      next_few = next_few;
    }
