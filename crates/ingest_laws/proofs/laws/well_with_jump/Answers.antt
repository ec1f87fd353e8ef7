-- The law, for all images.
use Rattle.ingest_laws.proofs.ListShapes.{well_with_jump}
use Rattle.ingest_laws.proofs.laws.well_with_jump.Goals as goal

pub returns : goal.returns
returns c = λ old new from to head block level digit target place greatest some.
    λ w b levels low high a jump full inside_from inside_to below front span is_block.
    well_with_jump w b levels low high a jump full inside_from inside_to below front span is_block
