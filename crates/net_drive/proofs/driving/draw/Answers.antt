use Rattle.std.proofs.Common.{◌%◌, ◌∙◌, subst, arith}
use Rattle.std.proofs.lemmas.Option.{slice_get-get_or}
use Rattle.net_drive.specs.Bits.{IsNth}
use Rattle.net_drive.proofs.Listing.{picked_at, bit_within}
use Rattle.net_drive.proofs.driving.draw.Goals as goal

pub returns : goal.returns
returns c =
    let bs = c.args.index.now in
    let es = c.args.events.now in
    let count = c.count-count.ensures in
    let pair = c.next_word-word.ensures in
    let place : IsNth bs _ c.at.result = subst (λ n. IsNth bs n c.at.result) (λ i. (pair i).0 % count i) c.at.ensures in
    let within = bit_within bs c.at.result place.on in (
      omega (arith, count, c.if-count-eq0.false),
      (λ i. (pair i).1),
      picked_at bs es _ c.at.result c.requires place ∙ slice_get-get_or es c.at.result _ (omega (arith, within, c.requires)),
    )
