-- The keys are of so many lists.
use Rattle.std.proofs.Common.{ℕ, IfOk, subst}
use Rattle.term_tags.specs.Listing.{GivesPostings}
use Rattle.term_tags.proofs.rows.postings.Goals as goal

pub returns-clause-ok : goal.returns-clause-ok
returns-clause-ok c = subst (λ (lists : ℕ). IfOk c.postings_by.result (λ rows. GivesPostings lists c.args.terms.now rows.items))
    c.in_ok-known.ensures c.postings_by.ensures.ok
