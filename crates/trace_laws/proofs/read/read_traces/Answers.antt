use Rattle.std.proofs.lemmas.Result.{IfOk-weaker, IfErr-weaker, MatchResult-from_both}
use Rattle.trace_laws.specs.Listed.{rows}
use Rattle.trace_laws.proofs.Verdicts.{text_of_read, read_alone, told_faulty, only_memory, same_line, not_read}
use Rattle.trace_laws.proofs.read.read_traces.Goals as goal

pub returns-clause-ok : goal.returns-clause-ok
returns-clause-ok c = IfOk-weaker c.read_list.result _ _ (λ list h. text_of_read c.args.bytes.now list.names list.dirs.items (rows list.traces.items) h) c.read_list.ensures.ok

pub returns-clause-refused : goal.returns-clause-refused
returns-clause-refused c = IfErr-weaker c.read_list.result _ _ (told_faulty c.args.bytes.now) c.read_list.ensures.err

pub returns-clause-text_read : goal.returns-clause-text_read
returns-clause-text_read c = λ names dirs traces w. MatchResult-from_both c.read_list.result _ _
    (IfOk-weaker c.read_list.result _ _ (λ list h. read_alone c.args.bytes.now list.names names list.dirs.items dirs (rows list.traces.items) traces w h) c.read_list.ensures.ok)
    (IfErr-weaker c.read_list.result _ _ (only_memory c.args.bytes.now names dirs traces w) c.read_list.ensures.err)

pub returns-clause-line_refused : goal.returns-clause-line_refused
returns-clause-line_refused c = λ n f. MatchResult-from_both c.read_list.result _ _
    (IfOk-weaker c.read_list.result _ _ (λ list h. not_read c.args.bytes.now n f list.names list.dirs.items (rows list.traces.items) h) c.read_list.ensures.ok)
    (IfErr-weaker c.read_list.result _ _ (same_line c.args.bytes.now n f) c.read_list.ensures.err)
