use Rattle.std.proofs.Common.{ap, ◌∙◌, sym, subst}
use Rattle.place_graph.specs.Drawable.{IsDrawable}
use Rattle.place_graph.specs.Graph.{graph_of}
use Rattle.net_sums.proofs.PlainSum.{plain_sum}
use Rattle.net_sums.proofs.TokenSum.{token_net_sum}
use Rattle.di_compile.proofs.Built.{plain_style, token_style, has_plain, has_token, is_drawable, process_net, first_only, if_all}
use Rattle.di_compile.proofs.build.process_net.Goals as goal

pub graph-requires : goal.graph-requires
graph-requires c = subst IsDrawable (sym (first_only c.as_slice.result.now c.index-as_slice-0.result c.requires.process (c.as_slice.ensures ∙ c.requires.alone) c.index-as_slice-0.is))
    (is_drawable c.args.command.now c.requires.process c.requires.admitted c.requires.alone)

pub token_net-requires : goal.token_net-requires
token_net-requires c =
    let p = c.requires.process in
    let is = first_only c.as_slice.result.now c.index-as_slice-0.result p (c.as_slice.ensures ∙ c.requires.alone) c.index-as_slice-0.is in
    let graph = c.in_ok-graph.ensures ∙ ap graph_of is in
    (p, has_token c.args.command.now p c.requires.admitted c.requires.alone (token_style c.style.result c.in_ok-graph.graph (graph_of p) c.in-Token.is c.style.ensures graph), graph)

pub plain_net-requires : goal.plain_net-requires
plain_net-requires c =
    let p = c.requires.process in
    let is = first_only c.as_slice.result.now c.index-as_slice-0.result p (c.as_slice.ensures ∙ c.requires.alone) c.index-as_slice-0.is in
    let graph = c.in_ok-graph.ensures ∙ ap graph_of is in
    (p, has_plain c.args.command.now p c.requires.admitted c.requires.alone (plain_style c.style.result c.in_ok-graph.graph (graph_of p) c.in-OneWait.is c.style.ensures graph), graph)

pub returns-in-Token : goal.returns-in-Token
returns-in-Token c =
    let p = c.requires.process in
    let is = first_only c.as_slice.result.now c.index-as_slice-0.result p (c.as_slice.ensures ∙ c.requires.alone) c.index-as_slice-0.is in
    let style = token_style c.style.result c.in_ok-graph.graph (graph_of p) c.in-Token.is c.style.ensures (c.in_ok-graph.ensures ∙ ap graph_of is) in
    let has = has_token c.args.command.now p c.requires.admitted c.requires.alone style in
    if_all c.token_net.result c.token_net.ensures.right c.token_net.ensures.few (c.token_net.ensures.kinds p has) (c.token_net.ensures.net p has)
    (λ n right few kinds net. process_net c.args.command.now p c.requires.admitted c.requires.alone n right few kinds (λ sum w. token_net_sum c.args.command.now p has sum w n net))

pub returns : goal.returns
returns c =
    let p = c.requires.process in
    let is = first_only c.as_slice.result.now c.index-as_slice-0.result p (c.as_slice.ensures ∙ c.requires.alone) c.index-as_slice-0.is in
    let plain = plain_style c.style.result c.in_ok-graph.graph (graph_of p) c.in-OneWait.is c.style.ensures (c.in_ok-graph.ensures ∙ ap graph_of is) in
    let has = has_plain c.args.command.now p c.requires.admitted c.requires.alone plain in
    if_all c.plain_net.result c.plain_net.ensures.right c.plain_net.ensures.few (c.plain_net.ensures.kinds p has) (c.plain_net.ensures.net p has)
    (λ n right few kinds net. process_net c.args.command.now p c.requires.admitted c.requires.alone n right few kinds (λ sum w. plain_sum sum w c.args.command.now p n has net))
