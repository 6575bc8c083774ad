use Rattle.std.proofs.Common.{◌≡◌, ℕ, ◌<◌, List, map, ◌++◌, ◌∷◌, [], length, get_or, sym, ap, ◌∙◌, arith}
use Rattle.std.specs.List.{filter, range_with_len}
use Rattle.std.specs.Prelude.{nat_eq}
use Rattle.std.proofs.lemmas.List.{get_or_read, length-set}
use Rattle.std.proofs.lemmas.List.FromFn.{fill_by_all, map-range_with_len_more, length-range_with_len}
use Rattle.shape_parts.specs.Keys.{key_at, rank, with_key}
use Rattle.shape_parts.proofs.Filled.{bucket_more, filter_long, how_many_low, key_low}
use Rattle.shape_parts.proofs.by_key.Buckets.new.Goals as goal

pub overflow_cast-len : goal.overflow_cast-len
overflow_cast-len c =
    let n : ℕ = c.loop-number.number in
    let keys : List ℕ = c.args.keys.now in
    let same = λ (m : ℕ). nat_eq (key_at keys m) (key_at keys n) in
    let low : key_at keys n < c.args.many = key_low c.args.many keys n c.requires.known (omega arith) in
    let e : c.index_mut-bucket.result.now ≡ filter same (range_with_len 0 n) =
    get_or_read c.loop-number.numbers.items (key_at keys n) c.index_mut-bucket.result.now (omega (arith, low, c.loop-number.invariant.many)) c.index_mut-bucket.ensures.value [] ∙ c.loop-number.invariant.numbers (key_at keys n) low in
    omega (arith, c.len.ensures, ap length e, filter_long same (range_with_len 0 n), how_many_low same (range_with_len 0 n), length-range_with_len 0 n)

pub loop-number-preserved : goal.loop-number-preserved
loop-number-preserved c =
    let n : ℕ = c.loop-number.number in
    let keys : List ℕ = c.args.keys.now in
    let same = λ (m : ℕ). nat_eq (key_at keys m) (key_at keys n) in
    let low : key_at keys n < c.args.many = key_low c.args.many keys n c.requires.known (omega arith) in
    let old : c.index_mut-bucket.result.now ≡ get_or c.loop-number.numbers.items (key_at keys n) [] =
    get_or_read c.loop-number.numbers.items (key_at keys n) c.index_mut-bucket.result.now (omega (arith, low, c.loop-number.invariant.many)) c.index_mut-bucket.ensures.value [] in
    let e : c.index_mut-bucket.result.now ≡ filter same (range_with_len 0 n) = old ∙ c.loop-number.invariant.numbers (key_at keys n) low in
    record {
      many = length-set c.loop-number.numbers.items (key_at keys n) c.push-in-loop-number.new.self ∙ c.loop-number.invariant.many;
      numbers = bucket_more keys c.args.many c.loop-number.numbers.items n c.push-in-loop-number.new.self c.loop-number.invariant.many low (c.in_ok-push-2.ensures.ok ∙ ap (λ b. b ++ n ∷ []) old) c.loop-number.invariant.numbers;
      ranks = c.in_ok-push.ensures.items ∙ ap (λ rs. rs ++ c.len.result ∷ []) c.loop-number.invariant.ranks
          ∙ ap (λ r. map (rank keys) (range_with_len 0 n) ++ r ∷ []) (c.len.ensures ∙ ap length e ∙ filter_long same (range_with_len 0 n))
          ∙ sym (map-range_with_len_more (rank keys) 0 n n (omega arith));
    }

pub returns : goal.returns
returns c =
    let keys : List ℕ = c.args.keys.now in
    let n : c.loop-number.number ≡ length keys = omega arith in (
      fill_by_all (with_key keys) c.loop-number.numbers.items c.args.many [] c.loop-number.invariant.many
          (λ k low. c.loop-number.invariant.numbers k low ∙ ap (λ (i : ℕ). filter (λ m. nat_eq (key_at keys m) k) (range_with_len 0 i)) n),
      c.loop-number.invariant.ranks ∙ ap (λ (i : ℕ). map (rank keys) (range_with_len 0 i)) n,
    )
