use Rattle.std.proofs.Common.{[], take, ap, ◌∙◌, arith, refl}
use Rattle.std.proofs.lemmas.Slice.{take-put_mid}
use Rattle.std.proofs.lemmas.List.{take_at}
use Rattle.di_io.specs.Printing.{Printing, prints}
use Rattle.di_io.proofs.Prints.{said_next, has_next}
use Rattle.di_io.proofs.printer.Printer.print.Goals as goal

-- it is held behind what is held
pub invariant_of-self : goal.invariant_of-self
invariant_of-self g c =
    let fields = c.self.inside in
    let bytes = c.args.bytes.now in
    let said = said_next _ _ _ _ bytes _ c.add.ensures in
    let held = take-put_mid _ _ fields.buffer bytes _ refl (omega arith) in (
      omega arith,
      has_next _ _ _ _ (take fields.held fields.buffer) bytes _ _ said
          (rw c.copy_from_slice.ensures.after held) c.self.invariant.1,
    )

pub returns-then-bytes-self : goal.returns-then-bytes-self
returns-then-bytes-self g c =
    let bytes = c.args.bytes.now in
    said_next _ _ _ _ bytes _ c.add.ensures ∙ ap (λ (p : Printing). prints p bytes) c.self.view_is

-- what is held is put, and it is held then
pub invariant_of-self-then-bytes-le-BLOCK : goal.invariant_of-self-then-bytes-le-BLOCK
invariant_of-self-then-bytes-le-BLOCK g c =
    let bytes = c.args.bytes.now in
    let put = c.put_piece-self-inside.ensures _ c.self.invariant.1 in
    let said = said_next _ _ _ _ bytes _ c.add.ensures in (
      c.if-bytes-le-BLOCK.true,
      has_next _ _ _ _ [] bytes _ _ said
          (rw c.copy_from_slice-then-bytes-le-BLOCK.ensures.after (take_at bytes _ _ refl)) put,
    )

-- what is held is put, and then the text
pub invariant_of-self-else-bytes-le-BLOCK : goal.invariant_of-self-else-bytes-le-BLOCK
invariant_of-self-else-bytes-le-BLOCK g c =
    let bytes = c.args.bytes.now in
    let put = c.put_piece-self-inside.ensures _ c.self.invariant.1 in
    let said = said_next _ _ _ _ bytes _ c.add.ensures in
    (omega arith, c.put_piece-self-inside-else-bytes-le-BLOCK.ensures _ (has_next _ _ _ _ [] bytes _ _ said refl put))

pub returns-then-bytes-le-BLOCK : goal.returns-then-bytes-le-BLOCK
returns-then-bytes-le-BLOCK g c =
    let bytes = c.args.bytes.now in
    said_next _ _ _ _ bytes _ c.add.ensures ∙ ap (λ (p : Printing). prints p bytes) c.self.view_is

pub returns-else-bytes-le-BLOCK : goal.returns-else-bytes-le-BLOCK
returns-else-bytes-le-BLOCK g c =
    let bytes = c.args.bytes.now in
    said_next _ _ _ _ bytes _ c.add.ensures ∙ ap (λ (p : Printing). prints p bytes) c.self.view_is
