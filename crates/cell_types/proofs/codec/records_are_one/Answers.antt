-- The law is a lemma.
use Rattle.cell_types.proofs.OneRecord.{one_record}
use Rattle.cell_types.proofs.codec.records_are_one.Goals as goal

pub returns : goal.returns
returns c = one_record
