use Rattle.std.proofs.Common.{◌∙◌, ◌<◌, ◌-◌, sym, arith, ap, length, get_or}
use Rattle.std.specs.Str.{bytes_eq}
use Rattle.indexmap.specs.IndexMap.{get}
use Rattle.trace_laws.specs.Listed.{output_by}
use Rattle.trace_laws.proofs.Following.{entered, cut_last, same_side}
use Rattle.trace_laws.proofs.followers.enter.Goals as goal

pub returns : goal.returns
returns c =
    let some : 0 < length c.symbols-symbols.result.now = grind arith in
    entered (output_by c.args.dirs.now) c.args.side c.args.word.now (get bytes_eq c.args.rows.now) (get bytes_eq c.add.new.rows) c.in_ok-front.front
    (get_or c.symbols-symbols.result.now (length c.symbols-symbols.result.now - 1) 0)
    (cut_last c.args.word.now c.in_ok-front.front (length c.symbols-symbols.result.now) (get_or c.symbols-symbols.result.now (length c.symbols-symbols.result.now - 1) 0)
    (ap length c.symbols-symbols.ensures) some c.in_ok-front.ensures
    (ap (λ z. get_or z (length c.symbols-symbols.result.now - 1) 0) c.symbols-symbols.ensures))
    (sym c.is_output.ensures ∙ same_side c.is_output.result c.args.side c.if-is_output-side.false) c.in_ok-add.ensures
