use Rattle.net_core.specs.Runs.{start}
use Rattle.replay.proofs.Running.{run_of, run_done}
use Rattle.replay.proofs.laws.replays_are_runs.Goals as goal

pub returns : goal.returns
returns c = record {
  run = λ d es h. let r = run_of d start es h in (r.events, r.named, r.run, r.after);
  done = λ d es. run_done d start es;
}
