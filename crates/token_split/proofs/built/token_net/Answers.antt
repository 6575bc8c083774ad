use Rattle.std.proofs.Common.{◌≡◌, ◌<◌, ◌^◌, sym, subst}
use Rattle.std.specs.Prelude.{IfOk}
use Rattle.cmd_tree.specs.declared.command.Command.{Command}
use Rattle.net_core.specs.declared.spec.NodeSpec.TheVariants.{Cmd}
use Rattle.net_laws.specs.Implementing.{Implements}
use Rattle.plain_split.specs.PlainNet.{HasCounted}
use Rattle.plain_split.proofs.PlainCommands.{if_ok}
use Rattle.token_split.specs.TokenNet.{HasToken, IsTokenNet, token_circuit}
use Rattle.token_split.proofs.TokenLaw.{net_right, net_wires, net_kinds}
use Rattle.token_split.proofs.built.token_net.Goals as goal

pub by_token-requires : goal.by_token-requires
by_token-requires c = let (p, h, is) = c.requires in (p, subst (λ (d : Command). HasToken d p) (sym c.in_ok-copy.ensures) h, is)

pub returns-clause-net : goal.returns-clause-net
returns-clause-net c = λ q k.
    subst (λ (d : Command). IfOk c.by_token.result (λ net. net ≡ token_circuit d q)) c.in_ok-copy.ensures (c.by_token.ensures q (subst (λ (d : Command). HasToken d q) (sym c.in_ok-copy.ensures) k))

pub returns-clause-right : goal.returns-clause-right
returns-clause-right c =
    let (p, h, is) = c.requires in
    if_ok (IsTokenNet c.args.spec.now p) (λ net. Implements net (Cmd c.args.spec.now)) (λ net i. net_right c.args.spec.now p net h i) c.by_token.result
    (subst (λ (d : Command). IfOk c.by_token.result (λ net. net ≡ token_circuit d p)) c.in_ok-copy.ensures (c.by_token.ensures p (subst (λ (d : Command). HasToken d p) (sym c.in_ok-copy.ensures) h)))

pub returns-clause-few : goal.returns-clause-few
returns-clause-few c =
    let (p, h, is) = c.requires in
    if_ok (IsTokenNet c.args.spec.now p) (λ net. net.wires < 2 ^ 20) (λ net i. net_wires c.args.spec.now p net h i) c.by_token.result
    (subst (λ (d : Command). IfOk c.by_token.result (λ net. net ≡ token_circuit d p)) c.in_ok-copy.ensures (c.by_token.ensures p (subst (λ (d : Command). HasToken d p) (sym c.in_ok-copy.ensures) h)))

pub returns-clause-kinds : goal.returns-clause-kinds
returns-clause-kinds c = λ q k.
    if_ok (IsTokenNet c.args.spec.now q) (HasCounted c.args.spec.now q) (λ net i. net_kinds c.args.spec.now q net k i) c.by_token.result
    (subst (λ (d : Command). IfOk c.by_token.result (λ net. net ≡ token_circuit d q)) c.in_ok-copy.ensures (c.by_token.ensures q (subst (λ (d : Command). HasToken d q) (sym c.in_ok-copy.ensures) k)))
