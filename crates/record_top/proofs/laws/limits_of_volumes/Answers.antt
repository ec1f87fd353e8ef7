-- They are so by what the constants are.
use Rattle.std.proofs.Common.{refl}
use Rattle.record_top.proofs.laws.limits_of_volumes.Goals as goal

pub returns : goal.returns
returns c = record {
  cells = refl;
  slots = refl;
  lists = refl;
  first = refl;
  folded = refl;
  stamped = refl;
  newest = refl;
  body = refl;
  identifier = refl;
  stored = refl;
  least_stored = refl;
}
