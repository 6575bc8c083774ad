use Rattle.std.proofs.Common.{nat_lt, nat_eq, sym, ap, ◌∙◌}
use Rattle.place_graph.specs.declared.wait_graph.Cross.{Cross}
use Rattle.place_graph.specs.Style.{has_entry}
use Rattle.place_graph.proofs.Counts.{count_any}
use Rattle.place_graph.proofs.styles.has_entry.Goals as goal

pub returns-in-Act : goal.returns-in-Act
returns-in-Act c = ap (nat_lt 0) c.entries.ensures
    ∙ count_any (λ (x : Cross). nat_eq x.act c.in-Act.act) c.args.crosses.now
    ∙ ap (λ s. has_entry s c.args.acts.now c.args.crosses.now) (sym c.in-Act.is)
