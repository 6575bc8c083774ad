use Rattle.std.proofs.Common.{◌≡◌, ℕ, List, ◌+◌, ◌++◌, ◌<◌, ◌≤◌, length, map, get_or, subst, sym, ap, ◌∙◌, arith}
use Rattle.std.specs.List.{filter, AllByRecursion}
use Rattle.std.specs.Prelude.{nat_eq}
use Rattle.std.proofs.lemmas.List.{length-map}
use Rattle.std.proofs.lemmas.List.FromFn.{length-map-range_with_len}
use Rattle.basic_kinds.specs.ShapeParts.{exchanged_from}
use Rattle.shape_parts.specs.Keys.{with_key}
use Rattle.shape_parts.specs.Layers.{swapped}
use Rattle.shape_parts.proofs.Layered.{columns_low, of_column, exchanged_more, places_low, bucket_is}
use Rattle.shape_parts.proofs.layers.exchanged.Goals as goal

pub new-requires-clause-known : goal.new-requires-clause-known
new-requires-clause-known c = columns_low c.args.cols c.args.cross.now c.as_slice.result.now (c.as_slice.ensures.value ∙ c.in_ok-columns.ensures) c.requires.within

pub push_exchanged-requires : goal.push_exchanged-requires
push_exchanged-requires c =
    let cs : List ℕ = c.as_slice.result.now in
    let i : ℕ = c.loop-places.places-index in
    let columns = c.as_slice.ensures.value ∙ c.in_ok-columns.ensures in
    let long : length cs ≤ length c.args.cross.now = omega (arith, ap length columns, length-map c.args.cross.now (λ (p : ℕ × ℕ). p.1)) in
    let is : c.as_slice-in-loop-places.result.now ≡ with_key cs i =
    c.as_slice-in-loop-places.ensures ∙ bucket_is cs c.args.cols i c.deref-places-items.result.now c.places-item.result (c.deref-places-items.ensures.value ∙ c.in_ok-buckets.ensures.0) c.loop-places-test.true c.places-item.is in
    subst (AllByRecursion (λ n. n < length c.args.cross.now)) (sym is) (places_low cs (length c.args.cross.now) i long)

pub loop-places-preserved : goal.loop-places-preserved
loop-places-preserved c =
    let cs : List ℕ = c.as_slice.result.now in
    let cross : List (ℕ × ℕ) = c.args.cross.now in
    let i : ℕ = c.loop-places.places-index in
    let f = λ (n : ℕ). swapped (get_or cross n (0, 0)) in
    let is : c.as_slice-in-loop-places.result.now ≡ with_key cs i =
    c.as_slice-in-loop-places.ensures ∙ bucket_is cs c.args.cols i c.deref-places-items.result.now c.places-item.result (c.deref-places-items.ensures.value ∙ c.in_ok-buckets.ensures.0) c.loop-places-test.true c.places-item.is in
    let z : i ≡ 0 + i = omega arith in
    c.in_ok-push_exchanged.ensures ∙ ap (λ ps. ps ++ map f c.as_slice-in-loop-places.result.now) c.loop-places.invariant
    ∙ ap (λ ns. exchanged_from 0 i cross ++ map f ns) is
    ∙ ap (λ ps. exchanged_from 0 i cross ++ ps) (of_column cross cs i (c.as_slice.ensures.value ∙ c.in_ok-columns.ensures) ∙ ap (λ (m : ℕ). map swapped (filter (λ p. nat_eq p.1 m) cross)) z)
    ∙ sym (exchanged_more 0 i cross)

pub returns : goal.returns
returns c =
    let all : c.loop-places.places-index ≡ c.args.cols =
    omega (arith, ap length c.deref-places-items.ensures.value, ap length c.in_ok-buckets.ensures.0, length-map-range_with_len (with_key c.as_slice.result.now) 0 c.args.cols) in
    c.loop-places.invariant ∙ ap (λ (n : ℕ). exchanged_from 0 n c.args.cross.now) all
