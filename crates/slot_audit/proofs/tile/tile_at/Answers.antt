-- No record is copied there.
use Rattle.slot_audit.proofs.tile.tile_at.Goals as goal

pub returns-in_default : goal.returns-in_default
returns-in_default c = λ tile h. c.in_default.ensures.none h.held h.copied
