use Rattle.std.proofs.Common.{◌≡◌, ◌-◌, ◌++◌, [], Ok, length, replicate, refl, ◌∙◌, sym, ap, arith}
use Rattle.std.specs.Prelude.{codes}
use Rattle.cmd_tree.specs.declared.tree.Dir.TheVariants.{Input, Output}
use Rattle.trace_laws.specs.Listed.{rows}
use Rattle.trace_laws.specs.Mirror.Reading.{headed}
use Rattle.text_lines.specs.Pieces.{pieces}
use Rattle.trace_laws.proofs.WholeListing.{parts_read, names_grow}
use Rattle.trace_laws.proofs.read.read_list.Goals as goal

pub directions-requires : goal.directions-requires
directions-requires c = omega (arith, names_grow 2 (codes "out") c.read_header.new.names (pieces 10 c.in_ok-rest.rest.now) _ c.len-inputs.ensures.distinct c.in_ok-rest-2.ensures.ok, c.len-inputs.ensures.len, c.len.ensures.len)

pub returns-clause-ok : goal.returns-clause-ok
returns-clause-ok c =
    let first : headed 1 (codes "in") [] (pieces 10 c.args.bytes.now) ≡ Ok (record { names = c.read_header.new.names; lines = pieces 10 c.in_ok-rest.rest.now }) = ap (λ ns. headed 1 (codes "in") ns (pieces 10 c.args.bytes.now)) (sym c.new-names.ensures) ∙ c.in_ok-rest.ensures.ok in
    let read = parts_read c.args.bytes.now c.read_header.new.names c.read_header-2.new.names (pieces 10 c.in_ok-rest.rest.now) (pieces 10 c.in_ok-rest-2.rest.now) (rows c.in_ok-traces.traces.items) first c.in_ok-rest-2.ensures.ok c.in_ok-traces.ensures.ok in (
      record { inputs = length c.read_header.new.names; names = c.read_header-2.new.names; traces = rows c.in_ok-traces.traces.items },
      read,
      c.in_ok-traces.ensures.same,
      c.in_ok-dirs.ensures ∙ (λ i. replicate (c.len-inputs.ensures.len i) Input ++ replicate (c.len.ensures.len i - c.len-inputs.ensures.len i) Output),
      refl,
    )
