use Rattle.net_layers.proofs.Fans.{if_laid, fan_here}
use Rattle.net_layers.proofs.layers.layer.Goals as goal

pub returns-in-Fork : goal.returns-in-Fork
returns-in-Fork c = if_laid c.args.kind.now (fan_here c.args.kind.now c.in-Fork.is) c.split.result c.split.ensures.split c.split.ensures.net c.split.ensures.few
