-- The head, and then the body.
use Rattle.worm_device.proofs.Resting.{viewed_then}
use Rattle.document_store.proofs.putting.put_document.Goals as goal

pub returns-clause-viewed : goal.returns-clause-viewed
returns-clause-viewed g c = viewed_then c.read_head.ensures.viewed c.put_body.ensures.viewed
