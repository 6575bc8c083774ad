use Rattle.std.proofs.Common.{◌<◌, List, [], map, length, get_or, sym, ap, ◌∙◌, subst}
use Rattle.std.specs.Prelude.{◌↔◌}
use Rattle.std.specs.List.{AllByRecursion}
use Rattle.std.proofs.lemmas.List.{length-map}
use Rattle.cmd_tree.specs.declared.tree.Proc.{Proc}
use Rattle.cmd_tree.specs.Meaning.{TraceOf, Trace}
use Rattle.di_grammar.specs.Admitted.{Admitted}
use Rattle.di_grammar.specs.Grants.{IsGrant}
use Rattle.di_grammar.specs.Outputs.{out_of}
use Rattle.basic_kinds.specs.Sorts.{Merges}
use Rattle.basic_kinds.specs.Sums.{wide_sum, two_way_sum}
use Rattle.cmd_alone.specs.Alone.{own_symbols, number_in, symbol_at}
use Rattle.cmd_alone.proofs.Valid.{symbols_below}
use Rattle.cmd_alone.proofs.Own.{own_is, traces_by_number}
use Rattle.cmd_alone.proofs.Traces.{alone_traces}
use Rattle.cmd_alone.proofs.Admission.{outputs_kept, admitted_alone, no_grant, one_process}
use Rattle.cmd_alone.proofs.Counting.{none_counted, counted_as}
use Rattle.cmd_alone.proofs.laws.alone_law.Goals as goal

pub returns : goal.returns
returns g = record {
  symbols = own_is;
  known = λ c d i a. symbols_below c.names c.procs i a.process c.valid a.place;
  names = λ c d i a. ap length a.names ∙ length-map (own_symbols a.process) (λ k. get_or c.names k []);
  traces = λ c d i a t. subst (λ (ps : List Proc). Trace ps t ↔ (AllByRecursion (λ k. k < length (own_symbols a.process)) t × TraceOf a.process (map (symbol_at a.process) t)))
      (sym a.procs) (alone_traces a.process t);
  by_number = λ c d i a u h. subst (λ (ps : List Proc). TraceOf a.process u ↔ Trace ps (map (number_in a.process) u)) (sym a.procs) (traces_by_number a.process u h);
  directions = λ c d i a h k l. ap (λ ps. out_of ps k) a.procs ∙ outputs_kept c.procs i a.process a.place h.directions k l;
  admitted = λ c d i a h n. subst Admitted (sym a.procs) (admitted_alone c.procs i a.process a.place h n);
  no_grant = λ c d i a n q e h. no_grant a.process n (subst IsGrant (sym (one_process a.process q (sym a.procs ∙ e))) h);
  wide = λ c d i a q e k. counted_as wide_sum k (none_counted Merges k) c.names c.procs d.names d.procs i a.process q c.valid a.place a.procs a.names e;
  two_way = λ c d i a q e k. counted_as two_way_sum k (none_counted Merges k) c.names c.procs d.names d.procs i a.process q c.valid a.place a.procs a.names e;
}
