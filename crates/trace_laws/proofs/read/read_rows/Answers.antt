use Rattle.std.proofs.Common.{◌≡◌, ◌+◌, ◌∷◌, ◌++◌, [], length, ◌∙◌, sym, ap, subst, arith}
use Rattle.std.specs.Option.{option_copied, IfSome}
use Rattle.std.proofs.lemmas.List.{map-append}
use Rattle.std.proofs.lemmas.Result.{err_from_is_err_and}
use Rattle.trace_laws.specs.Listed.{numbers, rows}
use Rattle.trace_laws.specs.Mirror.Reading.{and_then, trace_of, with_traces, Tells}
use Rattle.text_lines.specs.Pieces.{pieces, pieces_left}
use Rattle.trace_laws.proofs.Turns.{traces_step, tells_then}
use Rattle.trace_laws.proofs.read.read_rows.Goals as goal

pub returns-in_err-read_trace-clause-err : goal.returns-in_err-read_trace-clause-err
returns-in_err-read_trace-clause-err c =
    let p = err_from_is_err_and c.from_residual.result c.from_residual.ensures.1 in
    let read = ap (with_traces c.loop-more.line c.loop-more.names (rows c.loop-more.traces.items)) (c.first_piece.ensures.cut ∙ ap (λ r. c.first_piece.result.0.now ∷ pieces_left 10 (option_copied r)) c.in-Some.is)
    ∙ traces_step c.loop-more.line c.loop-more.names (rows c.loop-more.traces.items) c.first_piece.result.0.now c.in-Some.more.now in
    rw (p.1, p.2) (subst (λ r. Tells r c.in_err-read_trace.field-0.0) (sym read ∙ c.loop-more.invariant.same)
    (tells_then (trace_of c.loop-more.line c.loop-more.names c.first_piece.result.0.now) _ c.in_err-read_trace.field-0.0 c.in_err-read_trace.ensures.err))

pub loop-more-preserved : goal.loop-more-preserved
loop-more-preserved c =
    let read = ap (with_traces c.loop-more.line c.loop-more.names (rows c.loop-more.traces.items)) (c.first_piece.ensures.cut ∙ ap (λ r. c.first_piece.result.0.now ∷ pieces_left 10 (option_copied r)) c.in-Some.is)
    ∙ traces_step c.loop-more.line c.loop-more.names (rows c.loop-more.traces.items) c.first_piece.result.0.now c.in-Some.more.now
    ∙ ap (λ r. and_then r (λ t. with_traces (c.loop-more.line + 1) c.loop-more.names (rows c.loop-more.traces.items ++ t ∷ []) (pieces 10 c.in-Some.more.now))) c.in_ok-read_trace.ensures.ok in
    let pushed : rows c.push.new.self.items ≡ rows c.loop-more.traces.items ++ numbers c.in_ok-read_trace.field-0.items ∷ [] = ap rows c.in_ok-push.ensures.items ∙ map-append _ c.loop-more.traces.items (c.in_ok-read_trace.field-0 ∷ []) in
    record {
      same = ap (λ ts. with_traces (c.loop-more.line + 1) c.read_trace.new.names ts (pieces 10 c.in-Some.more.now)) pushed
          ∙ ap (λ ns. with_traces (c.loop-more.line + 1) ns (rows c.loop-more.traces.items ++ numbers c.in_ok-read_trace.field-0.items ∷ []) (pieces 10 c.in-Some.more.now)) c.in_ok-read_trace.ensures.same
          ∙ sym read
          ∙ c.loop-more.invariant.same;
      kept = c.in_ok-read_trace.ensures.same ∙ c.loop-more.invariant.kept;
      few = let sizes = subst (λ r. IfSome r (λ rest. length c.first_piece.result.0.now + length rest.now + 1 ≡ length c.loop-more.rest.now)) c.in-Some.is c.first_piece.ensures.sizes in omega (arith, sizes, c.loop-more.invariant.few);
    }
