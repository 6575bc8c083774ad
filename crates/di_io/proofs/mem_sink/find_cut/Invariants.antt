use Rattle.std.proofs.Common.{◌≡◌, drop}
use Rattle.di_io.specs.MemSink.{cut_of}
use Rattle.di_io.proofs.mem_sink.find_cut.Given as goal

-- the pairs so far have other first numbers
abbrev pub invariant-loop-fail : goal.invariant-loop-fail
invariant-loop-fail l = cut_of l.fails l.put ≡ cut_of (drop l.fail-index l.fails) l.put
