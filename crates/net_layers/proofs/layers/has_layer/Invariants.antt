use Rattle.std.proofs.Common.{◌≡◌, is_some, take, false}
use Rattle.std.specs.List.{list_any}
use Rattle.net_layers.proofs.layers.has_layer.Given as goal

abbrev pub invariant-loop-part : goal.invariant-loop-part
invariant-loop-part l = list_any is_some (take l.part-index l.parts) ≡ false
