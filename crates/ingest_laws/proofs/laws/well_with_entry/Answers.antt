-- The law, for all images.
use Rattle.ingest_laws.proofs.ListShapes.{well_with_entry}
use Rattle.ingest_laws.proofs.laws.well_with_entry.Goals as goal

pub returns : goal.returns
returns c = λ old new from to head block place p w b below a holds rises. well_with_entry w b below a holds rises
