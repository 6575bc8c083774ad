use Rattle.std.proofs.Common.{◌≡◌, ◌∷◌, [], get_or, sym, subst, ap, ◌∙◌}
use Rattle.cmd_tree.specs.declared.tree.Proc.{Proc}
use Rattle.di_grammar.specs.Admitted.{Admitted}
use Rattle.di_grammar.specs.Grants.{IsGrant}
use Rattle.place_graph.specs.Drawable.{IsDrawable}
use Rattle.place_graph.specs.declared.styles.SplitStyle.{SplitStyle}
use Rattle.place_graph.specs.Graph.{graph_of}
use Rattle.place_graph.specs.Style.{style_of}
use Rattle.plain_split.specs.PlainNet.{IsPlain, HasPlain}
use Rattle.split_tests.proofs.Alone.{none_found, alone_drawable, first_is}
use Rattle.split_tests.proofs.plain.built.Goals as goal

pub graph-requires : goal.graph-requires
graph-requires c =
    let (p, alone, other) = c.requires in
    let first : c.index-as_slice-0.result ≡ p = first_is c.args.command.now.procs p c.index-as_slice-0.result alone (c.index-as_slice-0.is ∙ ap (λ ps. get_or ps 0 c.index-as_slice-0.result) c.as_slice.ensures) in
    subst IsDrawable (sym first) (alone_drawable c.args.command.now p alone (c.check.ensures.none.0 (none_found c.check.result (sym c.is_some.ensures ∙ c.if-is_some.false))) other)

pub plain_net-requires : goal.plain_net-requires
plain_net-requires c =
    let (p, alone, other) = c.requires in
    let first : c.index-as_slice-0.result ≡ p = first_is c.args.command.now.procs p c.index-as_slice-0.result alone (c.index-as_slice-0.is ∙ ap (λ ps. get_or ps 0 c.index-as_slice-0.result) c.as_slice.ensures) in
    let drawn : c.in_ok-drawn.drawn ≡ graph_of p = c.in_ok-drawn.ensures ∙ ap graph_of first in (
      p,
      record {
        alone = alone;
        admitted = c.check.ensures.none.0 (none_found c.check.result (sym c.is_some.ensures ∙ c.if-is_some.false));
        other = other;
        plain = subst IsPlain (sym c.in-OneWait.is ∙ c.style.ensures ∙ ap style_of drawn) tt;
      },
      drawn,
    )

pub plain_net-requires-in-Rounds : goal.plain_net-requires-in-Rounds
plain_net-requires-in-Rounds c =
    let (p, alone, other) = c.requires in
    let first : c.index-as_slice-0.result ≡ p = first_is c.args.command.now.procs p c.index-as_slice-0.result alone (c.index-as_slice-0.is ∙ ap (λ ps. get_or ps 0 c.index-as_slice-0.result) c.as_slice.ensures) in
    let drawn : c.in_ok-drawn.drawn ≡ graph_of p = c.in_ok-drawn.ensures ∙ ap graph_of first in (
      p,
      record {
        alone = alone;
        admitted = c.check.ensures.none.0 (none_found c.check.result (sym c.is_some.ensures ∙ c.if-is_some.false));
        other = other;
        plain = subst IsPlain (sym c.in-Rounds.is ∙ c.style.ensures ∙ ap style_of drawn) tt;
      },
      drawn,
    )
