use Rattle.std.proofs.Common.{◌≡◌, ℕ, ◌+◌, true, false, true≢false, List, [], ◌∷◌, ◌++◌, length, get_or, take, Option, Some, None, Bor, refl, sym, ap, ◌∙◌, arith}
use Rattle.std.specs.Prelude.{not, is_some, unwrap_or}
use Rattle.std.specs.Option.{option_copied}
use Rattle.std.specs.HashMap.{get}
use Rattle.std.proofs.lemmas.List.{length-take-le, take_all, take_more}
use Rattle.weave_split.specs.declared.paths.Wire.{Wire}
use Rattle.weave_split.specs.declared.paths.Wire.TheVariants as wire
use Rattle.weave_split.specs.Mirror.WirePlaces.{wire_eq}
use Rattle.weave_split.proofs.BuiltPlaces.{found, found_or, noted_new, noted_old, places_same}
use Rattle.weave_split.proofs.numbered.WirePlaces.new.Goals as goal
use Rattle.weave_split.proofs.numbered.WirePlaces.new.Goals.{then-is_none+in_ok-insert, else-is_none}

none_of : {A : Type 0} (o : Option A) → is_some o ≡ false → o ≡ None
none_of None h = refl
none_of (Some x) h = absurd (true≢false h)

some_of : {A : Type 0} (o : Option (Bor A)) → is_some o ≡ true → option_copied o ≡ None → ⊥
some_of None h e = true≢false (sym h)
some_of (Some x) h e = absurd (cc)

pub loop-place-preserved : goal.loop-place-preserved
loop-place-preserved c =
    let lines : List Wire = c.args.lines.now in
    let n : ℕ = c.loop-place.place in
    let y : Wire = get_or lines n (wire.Take 0) in
    let long : length (take n lines) ≡ n = length-take-le n lines (omega arith) in
    let more : take (n + 1) lines ≡ take n lines ++ y ∷ [] = take_more lines n (wire.Take 0) (omega arith) in
    elim c.if-is_none.branch [
      | then-is_none+in_ok-insert w ↦
          let none : get wire_eq c.loop-place.places y ≡ None = sym c.get.ensures.value ∙ ap option_copied (none_of c.get.result (c.is_none.ensures ∙ ap not w.if-is_none.true)) in
          λ q. noted_new (get wire_eq c.loop-place.places) (get wire_eq c.if-is_none.places) y (take n lines) n long c.loop-place.invariant none (λ q. ap (λ m. get wire_eq m q) w.places-is ∙ w.in_ok-insert.ensures.updates.0 q) q
          ∙ ap (λ (ws : List Wire). found q ws (n + 1)) (sym more)
      | else-is_none w ↦
          let some : get wire_eq c.loop-place.places y ≡ None → ⊥ = λ e. some_of c.get.result (c.is_none.ensures ∙ ap not w.if-is_none.false) (c.get.ensures.value ∙ e) in
          λ q. ap (λ m. get wire_eq m q) w.places-is ∙ noted_old (get wire_eq c.loop-place.places) y (take n lines) n long c.loop-place.invariant some q ∙ ap (λ (ws : List Wire). found q ws (n + 1)) (sym more)
    ]

pub returns : goal.returns
returns c =
    let lines : List Wire = c.args.lines.now in
    let n : ℕ = length lines in
    let all : c.loop-place.place ≡ n = omega arith in
    record {
      many = refl;
      places = λ w.
          ap (λ o. unwrap_or o n) (c.loop-place.invariant w ∙ ap (λ (k : ℕ). found w (take k lines) k) all ∙ ap (λ (ws : List Wire). found w ws n) (take_all n lines (omega arith))) ∙ found_or w lines n ∙ places_same w lines;
    }
