-- The traces of a fair process have tales.
use Rattle.std.proofs.Common.{ℕ, ◌+◌, Bool, [], ◌∷◌, ◌++◌, refl, ap, ◌∙◌}
use Rattle.cmd_tree.specs.declared.tree.Proc.{Proc}
use Rattle.cmd_tree.specs.Limits.{IsProc}
use Rattle.cmd_tree.specs.Meaning.{TraceOf}
use Rattle.process_laws.specs.Shape.{IsFair}
use Rattle.place_graph.specs.Points.{legs}
use Rattle.place_graph.specs.Drawable.{AreDirections}
use Rattle.place_graph.specs.Tale.{times}
use Rattle.place_graph.specs.Chart.{Plays}
use Rattle.place_graph.proofs.Walking.{trace_moves}
use Rattle.place_graph.proofs.Charted.{charted}
use Rattle.place_graph.proofs.Sums.{chain_flow, chain_times}
use Rattle.place_graph.proofs.Tales.{tale_nil, tale_grows, tale_shows, tale_few, tale_under}

pub played : (out : ℕ → Bool) (p : Proc) → IsProc p → IsFair out p → AreDirections out p
    → Plays (legs p) (TraceOf p)
played out p h f agree =
    let L = legs p in
    let c = charted out p h f agree in
    record {
      first = tale_nil L;
      first_past = refl;
      first_came = refl;
      stands = λ t w. record {
        flow = λ x. chain_flow L c.increase w.past w.here x w.chain;
        few = tale_few L c.few t w;
        under = tale_under L c.few t w;
      };
      sums = λ t w a. w.counts a
          ∙ ap (λ n. n + times a w.came) (chain_times L c.increase c.few w.past w.here a w.chain);
      grows = λ t a w k. tale_grows L c.one t a w ((trace_moves p h (t ++ a ∷ [])).0 k);
      shows = λ t a w m among from act has none. (trace_moves p h (t ++ a ∷ [])).1
          (tale_shows L c.one c.lone t a w m among from act has none);
    }
