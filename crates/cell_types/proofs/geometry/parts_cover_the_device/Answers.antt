-- The law is a lemma.
use Rattle.cell_types.proofs.Layouts.{parts_cover}
use Rattle.cell_types.proofs.geometry.parts_cover_the_device.Goals as goal

pub returns : goal.returns
returns c = parts_cover
