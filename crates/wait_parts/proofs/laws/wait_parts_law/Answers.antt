use Rattle.wait_parts.proofs.PartsLayer.{parts_layer}
use Rattle.wait_parts.proofs.laws.wait_parts_law.Goals as goal

pub returns : goal.returns
returns c s formed cut = parts_layer s cut formed
