use Rattle.std.proofs.Common.{List, sym, ap, ◌∙◌}
use Rattle.std.specs.declared.string.String.{String}
use Rattle.std.specs.declared.alloc.Global.{Global}
use Rattle.di_top.specs.Requests.{asked}
use Rattle.di_top.proofs.FourWords.{four_items}
use Rattle.di_top.proofs.words.read_task.Goals as goal

pub returns-in-len4 : goal.returns-in-len4
returns-in-len4 c =
    let are = four_items c.args.words.now _ _ _ _ c.in-len4.len_at_least c.in-len4.len_below c.verb-item-then-words-lt5.is c.netlist-item.is
    c.schedule-item.is c.probe-item.is in
    λ vs. c.task_of_four.ensures vs ∙ sym (ap (λ (ws : List (String Global)). asked ws vs) are)
