-- The keys are of so many lists.
use Rattle.std.proofs.Common.{ℕ, IfOk, subst}
use Rattle.term_tags.specs.Listing.{GivesListed}
use Rattle.term_tags.proofs.listing.document_postings.Goals as goal

pub returns-clause-ok : goal.returns-clause-ok
returns-clause-ok c = subst (λ (lists : ℕ). IfOk c.document_postings_by.result (λ rows. GivesListed lists c.args.slot c.args.stamp c.args.terms.now rows.items))
    c.in_ok-known.ensures c.document_postings_by.ensures.ok
