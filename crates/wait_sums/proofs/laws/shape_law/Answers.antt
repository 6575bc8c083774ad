use Rattle.wait_sums.proofs.OwnShape.{own_shape}
use Rattle.wait_sums.proofs.laws.shape_law.Goals as goal

pub returns : goal.returns
returns c = own_shape
