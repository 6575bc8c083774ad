-- What the bits of the index draw is what the definition draws.
use Rattle.std.proofs.Common.{◌≡◌, ℕ, zero, suc, ◌<◌, ◌%◌, Bool, true, false, List, [], ◌∷◌, length, get_or, Some, refl, sym, ap, ◌∙◌, subst, arith}
use Rattle.std.specs.Prelude.{slice_get}
use Rattle.std.proofs.lemmas.Bool.{false≢true}
use Rattle.net_core.specs.Runs.{State}
use Rattle.net_core.specs.Wiring.{Circuit}
use Rattle.replay.specs.declared.event.Event.{Event}
use Rattle.net_drive.specs.Bits.{trues, IsNth}
use Rattle.net_drive.specs.Drawn.{possible, IsListing, nothing, listed, left_out, Draws}
use Rattle.net_drive.specs.Mirror.Refreshing.{IsRight, AllRight}
use Rattle.net_drive.specs.Mirror.Driving.{picked}

-- as many are picked as bits are set
pub picked_length : (bs : List Bool) (es : List Event) → length bs ≡ length es → length (picked bs es) ≡ trues bs
picked_length [] es h = refl
picked_length (b ∷ bs) [] h = absurd (omega (arith, h))
picked_length (true ∷ bs) (e ∷ es) h = let r = picked_length bs es (omega (arith, h)) in omega (arith, r)
picked_length (false ∷ bs) (e ∷ es) h = let r = picked_length bs es (omega (arith, h)) in omega (arith, r)

-- the event of the bit before which so many are set
pub picked_at : (bs : List Bool) (es : List Event) (before i : ℕ) → length bs ≡ length es → IsNth bs before i
    → slice_get (picked bs es) before ≡ slice_get es i
picked_at [] es before i h n = absurd (false≢true n.on)
picked_at (b ∷ bs) [] before i h n = absurd (omega (arith, h))
picked_at (true ∷ bs) (e ∷ es) zero zero h n = refl
picked_at (true ∷ bs) (e ∷ es) (suc before) zero h n = absurd (omega (arith, n.place))
picked_at (false ∷ bs) (e ∷ es) before zero h n = absurd (false≢true n.on)
picked_at (true ∷ bs) (e ∷ es) zero (suc i) h n = absurd (omega (arith, n.place))
picked_at (true ∷ bs) (e ∷ es) (suc before) (suc i) h n =
    picked_at bs es before i (omega (arith, h)) (record { on = n.on; place = omega (arith, n.place) })
picked_at (false ∷ bs) (e ∷ es) before (suc i) h n =
    picked_at bs es before i (omega (arith, h)) (record { on = n.on; place = omega (arith, n.place) })

pub bit_within : (bs : List Bool) (i : ℕ) → get_or bs i false ≡ true → i < length bs
bit_within [] i h = absurd (false≢true h)
bit_within (b ∷ bs) zero h = omega arith
bit_within (b ∷ bs) (suc i) h = omega (arith, bit_within bs i h)

module _ (c : Circuit) (s : State) where
  -- right bits pick the events that may happen
  pub listing : (es : List Event) (bs : List Bool) → length bs ≡ length es → ((i : ℕ) → IsRight c s es bs i)
      → IsListing c s es (picked bs es)
  listing [] [] h r = nothing
  listing [] (b ∷ bs) h r = absurd (omega (arith, h))
  listing (e ∷ es) [] h r = absurd (omega (arith, h))
  listing (e ∷ es) (true ∷ bs) h r = listed e es (picked bs es) ((r 0 e refl).0 refl) (listing es bs (omega (arith, h)) (λ i. r (suc i)))
  listing (e ∷ es) (false ∷ bs) h r =
      left_out e es (picked bs es) (λ on. false≢true ((r 0 e refl).1 on)) (listing es bs (omega (arith, h)) (λ i. r (suc i)))

  pub none_listed : (bs : List Bool) → AllRight c s (possible c) bs → trues bs ≡ 0 → IsListing c s (possible c) []
  none_listed bs r none =
      subst (IsListing c s (possible c)) (empty (picked bs (possible c)) (picked_length bs (possible c) r.long ∙ none))
      (listing (possible c) bs r.long r.each)
    where
      empty : (xs : List Event) → length xs ≡ 0 → xs ≡ []
      empty [] h = refl
      empty (x ∷ xs) h = absurd (omega (arith, h))

  pub draws : (bs : List Bool) (word : ℕ) (e : Event) → AllRight c s (possible c) bs → 0 < trues bs
      → slice_get (picked bs (possible c)) (word % trues bs) ≡ Some e → Draws c s word e
  draws bs word e r some at =
      let many = picked_length bs (possible c) r.long in record {
        list = picked bs (possible c);
        listing = listing (possible c) bs r.long r.each;
        some = omega (arith, many, some);
        at = ap (λ n. slice_get (picked bs (possible c)) (word % n)) many ∙ at;
      }

  -- ---- one schedule is drawn

  pub one_listing : (es xs ys : List Event) → IsListing c s es xs → IsListing c s es ys → xs ≡ ys
  one_listing es xs ys nothing nothing = refl
  one_listing es xs ys (listed e fs a on l) (listed _ _ b on2 m) = ap (λ r. e ∷ r) (one_listing fs a b l m)
  one_listing es xs ys (listed e fs a on l) (left_out _ _ b off m) = absurd (off on)
  one_listing es xs ys (left_out e fs a off l) (listed _ _ b on m) = absurd (off on)
  one_listing es xs ys (left_out e fs a off l) (left_out _ _ b off2 m) = one_listing fs a b l m

pub one_draw : (c : Circuit) (s : State) (word : ℕ) (e f : Event) → Draws c s word e → Draws c s word f → e ≡ f
one_draw c s word e f d g =
    let same = one_listing c s (possible c) d.list g.list d.listing g.listing in
    let at : Some e ≡ Some f = sym d.at ∙ ap (λ (xs : List Event). slice_get xs (word % length xs)) same ∙ g.at in
    let is : e ≡ f = cc in
    is

pub no_draw : (c : Circuit) (s : State) (word : ℕ) (e : Event) → IsListing c s (possible c) [] → Draws c s word e → ⊥
no_draw c s word e none d =
    let same = ap (λ (xs : List Event). length xs) (one_listing c s (possible c) d.list [] d.listing none) in
    omega (arith, same, d.some)
