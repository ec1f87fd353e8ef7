-- A trail from the first block alone.
use Rattle.kept_documents.proofs.Leading.{from_head}
use Rattle.kept_documents.proofs.trails.has_trail.Goals as goal

pub returns : goal.returns
returns g c =
    from_head c.args.pool c.args.head c.args.wanted _ _ c.leads_to.result c.leads_to.ensures
