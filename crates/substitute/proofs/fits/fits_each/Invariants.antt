use Rattle.substitute.proofs.Looks.{Looks}
use Rattle.substitute.proofs.fits.fits_each.Given as goal

abbrev pub invariant-loop-place : goal.invariant-loop-place
invariant-loop-place l = Looks l.net l.parts 2147483648 l.room l.place
