-- Its postings, and none.
use Rattle.std.proofs.Common.{subst}
use Rattle.log_audit.specs.Kept.{image_of_kept}
use Rattle.term_tags.specs.Listing.{GivesNone}
use Rattle.list_audit.proofs.RowsListed.{rows_given, none_given}
use Rattle.list_audit.proofs.listing.postings_of.Goals as goal

pub returns-in-Ok-clause-some : goal.returns-in-Ok-clause-some
returns-in-Ok-clause-some c = rows_given c.args.geometry.now (image_of_kept c.args.kept.now) c.args.slot.now.slot _ c.stamp_of-stamp.result
    c.in_ok-terms.terms.items c.deref.result.now _ c.stamp_of-stamp.ensures c.in_ok-terms.ensures c.deref.ensures.value c.requires.lists
    c.in-Ok.ensures.ok

pub returns-in-Err-TooManyTerms-clause-none : goal.returns-in-Err-TooManyTerms-clause-none
returns-in-Err-TooManyTerms-clause-none c = none_given c.args.geometry.now (image_of_kept c.args.kept.now) c.args.slot.now.slot _ _ _
    c.in_ok-terms.terms.items c.deref.result.now c.in_ok-terms.ensures c.deref.ensures.value c.requires.lists
    (subst (GivesNone c.args.known.now c.deref.result.now) c.in-Err-TooManyTerms.field-0-is c.in-Err-TooManyTerms.ensures.err)
