use Rattle.std.specs.Prelude.{if◌then◌else◌}
use Rattle.std.proofs.Common.{◌≡◌, ℕ, true, false, None, sym, ap, ◌∙◌}
use Rattle.plain_split.specs.RoundsNet.{pow, act_after}
use Rattle.plain_split.specs.RoundsChart.{begins_process, on_go}
use Rattle.plain_split.specs.Mirror.RoundsTables.{parts_by, end_of}
use Rattle.plain_split.proofs.RoundsRead.{leaf_at}
use Rattle.plain_split.proofs.round_ends.leaf_end.Goals as goal

pub returns-then-begins : goal.returns-then-begins
returns-then-begins c =
    let r = parts_by c.args.parts.now in
    let y = act_after c.args.parts.now.opens (pow c.args.parts.now.levels) c.args.round in
    let begins : begins_process r y ≡ true = ap (begins_process r) (sym c.act_after-act.ensures.act) ∙ sym c.begins.ensures ∙ c.if-begins.true in
    sym (leaf_at c.args.parts.now c.requires.tabled c.args.round c.requires.known ∙ ap (λ b. if b then None else end_of (on_go r y)) begins)

pub returns-else-begins : goal.returns-else-begins
returns-else-begins c =
    let r = parts_by c.args.parts.now in
    let y = act_after c.args.parts.now.opens (pow c.args.parts.now.levels) c.args.round in
    let begins : begins_process r y ≡ false = ap (begins_process r) (sym c.act_after-act.ensures.act) ∙ sym c.begins.ensures ∙ c.if-begins.false in
    c.go_end.ensures ∙ ap (λ (x : ℕ). end_of (on_go r x)) c.act_after-act.ensures.act
    ∙ sym (leaf_at c.args.parts.now c.requires.tabled c.args.round c.requires.known ∙ ap (λ b. if b then None else end_of (on_go r y)) begins)
