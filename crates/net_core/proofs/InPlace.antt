-- A list with another one in the place of one item, as it comes from an append, a removal and a rotation.
use Rattle.std.proofs.Common.{◌≡◌, ℕ, suc, ◌+◌, ◌-◌, ◌<◌, List, [], ◌++◌, length, take, drop, refl, sym, ap, ◌∙◌, arith, append-nil, length-append, length-drop}
use Rattle.std.specs.List.{remove}
use Rattle.std.proofs.lemmas.List.{take_at, drop_at, take-append-le, drop-append-le, take_all, drop_all, take_rest, length-take-le}
use borrow.Rule.Slice.PartMut.{post_of}

removed_is : {X : Type 0} (old parts : List X) (a : ℕ) → a < length old → remove (old ++ parts) a ≡ take a old ++ (drop (suc a) old ++ parts)
removed_is old parts a h =
    let le = take-append-le a old parts (omega arith) in
    let more = drop-append-le (suc a) old parts (omega arith) in
    rw (le, more) refl

turned : {X : Type 0} (xs parts rest : List X) (n many : ℕ) → xs ≡ rest ++ parts → n ≡ length rest → drop n xs ++ take n xs ≡ parts ++ rest
turned xs parts rest n many e size = rw (e, drop_at rest parts n (sym size), take_at rest parts n (sym size)) refl

pub in_place : {X : Type 0} (old parts removed now rotated : List X) (a many len : ℕ) → a < length old → removed ≡ remove (old ++ parts) a → now ≡ removed
    → many ≡ length parts → length removed ≡ len
    → rotated ≡ drop (length (take (length now - a) (drop a now)) - many) (take (length now - a) (drop a now))
    ++ take (length (take (length now - a) (drop a now)) - many) (take (length now - a) (drop a now))
    → take len ((take a now ++ (rotated ++ post_of a (length now - a) now))
    ++ drop (length (take a now ++ (rotated ++ post_of a (length now - a) now))) removed)
    ≡ take a old ++ (parts ++ drop (suc a) old)
in_place old parts removed now rotated a many len h removal same count sized turn =
    let front = take a old in
    let rest = drop (suc a) old in
    let is : now ≡ front ++ (rest ++ parts) = same ∙ removal ∙ removed_is old parts a h in
    let short : length front ≡ a = length-take-le a old (omega arith) in
    let after : drop a now ≡ rest ++ parts = ap (drop a) is ∙ drop_at front (rest ++ parts) a short in
    let whole : take (length now - a) (drop a now) ≡ rest ++ parts = take_rest now a ∙ after in
    let joined : length (rest ++ parts) ≡ length rest + length parts = length-append rest parts in
    let cut : length (take (length now - a) (drop a now)) - many ≡ length rest = omega (arith, ap length whole) in
    let rotation : rotated ≡ parts ++ rest = turn ∙ turned (take (length now - a) (drop a now)) parts rest
    (length (take (length now - a) (drop a now)) - many) many whole cut in
    let sizes : length (drop a now) ≡ length now - a = length-drop a now in
    let behind : post_of a (length now - a) now ≡ [] = drop_all (length now - a) (drop a now) (omega arith) in
    let before : take a now ≡ front = ap (take a) is ∙ take_at front (rest ++ parts) a short in
    let all : take a now ++ (rotated ++ post_of a (length now - a) now) ≡ front ++ (parts ++ rest) =
    rw (behind, before, rotation, append-nil (parts ++ rest)) refl in
    let one : length (front ++ (parts ++ rest)) ≡ length front + length (parts ++ rest) = length-append front (parts ++ rest) in
    let two : length (parts ++ rest) ≡ length parts + length rest = length-append parts rest in
    let three : length (front ++ (rest ++ parts)) ≡ length front + length (rest ++ parts) = length-append front (rest ++ parts) in
    let total : length (front ++ (parts ++ rest)) ≡ length removed = omega (arith, ap length is, ap length same) in
    let none : drop (length (take a now ++ (rotated ++ post_of a (length now - a) now))) removed ≡ [] =
    drop_all (length (take a now ++ (rotated ++ post_of a (length now - a) now))) removed (omega (arith, ap length all)) in
    rw (none, append-nil (take a now ++ (rotated ++ post_of a (length now - a) now)), all) (take_all len (front ++ (parts ++ rest)) (omega arith))
