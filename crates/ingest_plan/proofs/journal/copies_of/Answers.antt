-- The values of the map's entries are the journal.
use Rattle.ingest_plan.proofs.Journals.{journal_of}
use Rattle.ingest_plan.proofs.journal.copies_of.Goals as goal

pub returns : goal.returns
returns c = journal_of c.args.planned.now c.values_of.result c.values_of.ensures.ordered c.values_of.ensures.values
