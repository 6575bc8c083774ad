use Rattle.std.proofs.Common.{◌<◌, sym, ◌∙◌, ap, map, length}
use Rattle.std.specs.Prelude.{◌≤◌}
use Rattle.cmd_rename.specs.Table.{entry}
use Rattle.cmd_rename.specs.Mirror.Rounds.{shown}
use Rattle.cmd_rename.proofs.Entries.{got, got_none, shown_here, shown_apart}
use Rattle.cmd_rename.proofs.table.Table.get.Goals as goal

pub returns-in-Some : goal.returns-in-Some
returns-in-Some c =
    let e = c.in-Some.entry.now in
    let es = c.deref.result.now in
    let inside : c.args.symbol < length es = c.in-Some.ensures.lookup.3.0 in
    sym (shown_here c.self.inside.round e c.if-entry-self.true) ∙ sym (got c.self.inside.round es c.args.symbol e inside (c.in-Some.ensures.lookup.3.1 e))
    ∙ ap (λ u. entry (map (shown c.self.inside.round) u) c.args.symbol) c.deref.ensures.value ∙ ap (λ u. entry u c.args.symbol) c.self.view_is

pub returns-in_default : goal.returns-in_default
returns-in_default c =
    let e = c.in-Some.entry.now in
    let es = c.deref.result.now in
    let inside : c.args.symbol < length es = c.in-Some.ensures.lookup.3.0 in
    sym (shown_apart c.self.inside.round e c.if-entry-self.false) ∙ sym (got c.self.inside.round es c.args.symbol e inside (c.in-Some.ensures.lookup.3.1 e))
    ∙ ap (λ u. entry (map (shown c.self.inside.round) u) c.args.symbol) c.deref.ensures.value ∙ ap (λ u. entry u c.args.symbol) c.self.view_is

pub returns-in_default-2 : goal.returns-in_default-2
returns-in_default-2 c =
    let es = c.deref.result.now in
    let past : length es ≤ c.args.symbol = (rw c.in_default.is at c.get.ensures.lookup).3 in
    sym (got_none c.self.inside.round es c.args.symbol past)
    ∙ ap (λ u. entry (map (shown c.self.inside.round) u) c.args.symbol) c.deref.ensures.value ∙ ap (λ u. entry u c.args.symbol) c.self.view_is
