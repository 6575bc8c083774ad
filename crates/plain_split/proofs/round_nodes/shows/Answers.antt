use Rattle.std.proofs.Common.{◌≡◌, ◌++◌, ◌∷◌, [], length, sym, ap, ◌∙◌, arith}
use Rattle.plain_split.specs.RoundsChart.{count}
use Rattle.plain_split.specs.Mirror.RoundsTables.{parts_by}
use Rattle.plain_split.proofs.RoundsBuilt.{show_more, show_left, shows_to}
use Rattle.plain_split.proofs.round_nodes.shows.Goals.{then-is_shown+in_ok-next+in_ok-push, else-is_shown}
use Rattle.plain_split.proofs.round_nodes.shows.Goals as goal

pub loop-symbol-preserved : goal.loop-symbol-preserved
loop-symbol-preserved c =
    let r = parts_by c.args.parts.now in
    let a = c.loop-symbol.symbol in
    elim c.if-is_shown.branch [
      | then-is_shown+in_ok-next+in_ok-push w ↦
          ap (λ v. v.items) w.nodes-is ∙ w.in_ok-push.ensures.items ∙ ap (λ n. c.loop-symbol.nodes.items ++ n ∷ []) w.in_ok-next.ensures
          ∙ show_more r c.requires.tabled.ready a c.loop-symbol.nodes.items (sym c.is_shown.ensures ∙ w.if-is_shown.true) c.loop-symbol.invariant
      | else-is_shown w ↦ ap (λ v. v.items) w.nodes-is ∙ show_left r c.requires.tabled.ready a c.loop-symbol.nodes.items (sym c.is_shown.ensures ∙ w.if-is_shown.false) c.loop-symbol.invariant
    ]

pub returns : goal.returns
returns c =
    let last : c.loop-symbol.symbol ≡ count (parts_by c.args.parts.now) = omega (arith, c.len-symbol-end.ensures, c.args.parts.now.sides.ok.0, ap length c.requires.tabled.sides) in
    c.loop-symbol.invariant ∙ ap (shows_to (parts_by c.args.parts.now) c.requires.tabled.ready) last
