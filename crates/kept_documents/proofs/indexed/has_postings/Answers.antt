-- The postings don't exist; or they do, and each was asked.
use Rattle.std.proofs.Common.{ap, ◌∙◌}
use Rattle.volume_meaning.specs.Words.{rule_of}
use Rattle.kept_documents.proofs.Indexing.{all_listed, are_listed, given, not_listed}
use Rattle.kept_documents.proofs.indexed.has_postings.Goals as goal

pub are_trailed-requires-clause-lists : goal.are_trailed-requires-clause-lists
are_trailed-requires-clause-lists g c =
    are_listed (given c.args.volume.now.geometry c.args.body.now c.args.slot c.args.stamp c.rule_of.result
    (c.rule_of.ensures ∙ ap rule_of c.version.ensures.version) c.lists.result
    c.in_ok-terms.terms.items c.deref.result.now c.in-Ok.rows.items c.deref-2.result.now
    c.lists.ensures.lists c.requires.stamp c.in_ok-terms.ensures c.deref.ensures.value
    c.in-Ok.ensures.ok c.deref-2.ensures.value)

-- each was asked
pub returns : goal.returns
returns g c =
    all_listed c.args.volume.now.geometry c.args.slot c.args.body.now c.args.stamp _ c.deref-2.result.now
    (given c.args.volume.now.geometry c.args.body.now c.args.slot c.args.stamp c.rule_of.result
    (c.rule_of.ensures ∙ ap rule_of c.version.ensures.version) c.lists.result
    c.in_ok-terms.terms.items c.deref.result.now c.in-Ok.rows.items c.deref-2.result.now
    c.lists.ensures.lists c.requires.stamp c.in_ok-terms.ensures c.deref.ensures.value
    c.in-Ok.ensures.ok c.deref-2.ensures.value) _ c.in-Ok-are_trailed.trailed
    c.in-Ok-are_trailed.ensures

-- the postings don't exist
pub returns-in-Err-TooManyTerms : goal.returns-in-Err-TooManyTerms
returns-in-Err-TooManyTerms g c =
    not_listed c.args.volume.now.geometry c.args.slot c.args.body.now c.args.stamp _ c.rule_of.result
    (c.rule_of.ensures ∙ ap rule_of c.version.ensures.version) c.lists.result
    c.in_ok-terms.terms.items c.deref.result.now c.in-Err-TooManyTerms.field-0-0 c.in-Err-TooManyTerms.field-0-1
    c.lists.ensures.lists c.in_ok-terms.ensures c.deref.ensures.value
    (rw c.in-Err-TooManyTerms.field-0-is at c.in-Err-TooManyTerms.ensures.err)
