use Rattle.count_tests.proofs.sums.command_of.Goals as goal

pub expand-requires : goal.expand-requires
expand-requires c = record {
  read = record { bytes = c.args.text.now; few = c.if-text-gt-MAX_FILE_BYTES.false; text = c.in-Ok.ensures.ok.0; shallow = c.in-Ok.ensures.ok.1 };
}
