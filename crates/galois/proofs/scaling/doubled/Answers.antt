use Rattle.field.proofs.Tests.{shifted_byte}
use Rattle.galois.proofs.scaling.doubled.Goals as goal

pub returns : goal.returns
returns c = record { value = shifted_byte c.args.a c.ranges.a.fits }
