use Rattle.std.proofs.Common.{◌≡◌, ◌++◌, take}
use Rattle.di_io.proofs.Fronts.{gains_taken}
use Rattle.di_io.proofs.mem_sink.MemSinkSink.put.Goals as goal

-- the bytes appended are the first ones
pub returns-in-Some-clause-front : goal.returns-in-Some-clause-front
returns-in-Some-clause-front c =
    let gained : c.fail-in-Some.new.self.written ≡ c.args.self.now.written ++ take c.min.result c.args.bytes.now = cc in
    rw c.fail-in-Some.ensures.failed (gains_taken c.min.result c.args.bytes.now c.args.self.now.written _ gained)
