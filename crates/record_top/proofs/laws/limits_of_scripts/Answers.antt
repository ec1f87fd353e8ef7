-- They are so by what the constants are.
use Rattle.std.proofs.Common.{refl}
use Rattle.record_top.proofs.laws.limits_of_scripts.Goals as goal

pub returns : goal.returns
returns c = record {
  script_cells = refl;
  replayed_cells = refl;
  events = refl;
  words = refl;
  failing = refl;
  foreign_writes = refl;
  kept = refl;
  moment = refl;
}
