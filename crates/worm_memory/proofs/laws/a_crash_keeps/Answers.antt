-- The law, for all crashes.
use Rattle.worm_memory.proofs.Losing.{crash_image, crash_sure}
use Rattle.worm_memory.proofs.laws.a_crash_keeps.Goals as goal

pub returns : goal.returns
returns c = λ keep unsure now all cell. (crash_image keep unsure now all cell, crash_sure keep unsure now cell)
