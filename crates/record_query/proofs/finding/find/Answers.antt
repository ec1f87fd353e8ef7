-- Settling, the lists, and then the slots that they have in common.
use Rattle.std.proofs.Common.{[], List, Err, Ok, subst, sym}
use Rattle.cell_types.proofs.Passed.{handed}
use Rattle.cell_types.specs.declared.refusal.Refusal.TheVariants.{NoMemory}
use Rattle.worm_device.specs.Views.{seen_directly}
use Rattle.document_store.specs.declared.part.Part.{Part}
use Rattle.posting_list.specs.Joins.{HaveParts, TermsGather, TermsGatherReads, slots_of}
use Rattle.posting_list.specs.declared.sought_term.SoughtTerm.{SoughtTerm}
use Rattle.record_query.specs.Among.{AmongEnds, ReadsEach}
use Rattle.record_query.specs.Reaching.{reach_of}
use Rattle.record_query.proofs.Searched.{search_ungathered, search_unsettled, search_unstarted, searched}
use Rattle.record_query.proofs.finding.find.Goals as goal

-- settling was ended
pub returns-in_err-ready : goal.returns-in_err-ready
returns-in_err-ready g c =
    let refusal = c.in_err-ready.field-0.0 in
    rw (handed c.from_residual.result refusal c.from_residual.ensures.1)
    (search_unsettled c.args.terms.now _ _ refusal c.in_err-ready.ensures)

-- there is no memory for the terms
pub returns-in_err-sought : goal.returns-in_err-sought
returns-in_err-sought g c =
    rw (handed c.from_residual-in_err-sought.result NoMemory c.from_residual-in_err-sought.ensures.1)
    (search_unstarted c.args.terms.now _ _ c.in_ok-ready.ready c.in_ok-ready.ensures)

-- nor for the matcher
pub returns-in_err-matcher : goal.returns-in_err-matcher
returns-in_err-matcher g c =
    rw (handed c.from_residual-in_err-matcher.result NoMemory c.from_residual-in_err-matcher.ensures.1)
    (search_unstarted c.args.terms.now _ _ c.in_ok-ready.ready c.in_ok-ready.ensures)

pub returns-in_err-parts : goal.returns-in_err-parts
returns-in_err-parts g c =
    let refusal = c.in_err-parts.field-0.0 in
    rw (handed c.from_residual-in_err-parts.result refusal c.from_residual-in_err-parts.ensures.1)
    (search_ungathered c.kept_are_owed.ensures c.args.terms.now c.in_ok-ready.ready
    (g.D.Device.state c.args.device.now) (g.D.Device.state c.settle.new.device)
    (g.D.Device.state c.common_parts.new.device) c.in_ok-ready.ensures c.in_err-parts.ensures.viewed refusal
    (subst (λ (these : List SoughtTerm). TermsGather (reach_of c.in_ok-ready.ready) these
    (seen_directly (g.D.Device.state c.settle.new.device) 0) (seen_directly (g.D.Device.state c.common_parts.new.device) 0)
    (Err refusal)) c.in_ok-sought.ensures c.in_err-parts.ensures.gathers)
    (subst (λ (these : List SoughtTerm). TermsGatherReads (reach_of c.in_ok-ready.ready) these
    (seen_directly (g.D.Device.state c.settle.new.device) 0)
    (seen_directly (g.D.Device.state c.common_parts.new.device) 0)) c.in_ok-sought.ensures
    c.in_err-parts.ensures.reads))

-- the slots were searched
pub returns : goal.returns
returns g c =
    searched c.kept_are_owed.ensures c.args.terms.now c.in_ok-ready.ready
    (g.D.Device.state c.args.device.now) (g.D.Device.state c.settle.new.device)
    (g.D.Device.state c.common_parts.new.device) c.in_ok-ready.ensures c.in_ok-parts.ensures.viewed c.in_ok-parts.parts
    (subst (λ (these : List SoughtTerm). TermsGather (reach_of c.in_ok-ready.ready) these
    (seen_directly (g.D.Device.state c.settle.new.device) 0) (seen_directly (g.D.Device.state c.common_parts.new.device) 0)
    (Ok c.in_ok-parts.parts)) c.in_ok-sought.ensures c.in_ok-parts.ensures.gathers)
    (g.D.Device.state c.find_among.new.device) c.find_among.ensures.viewed c.find_among.result
    (subst (λ (parts : List Part). AmongEnds c.in_ok-ready.ready.volume.geometry (slots_of parts) c.args.terms.now
    (g.D.Device.state c.common_parts.new.device) (g.D.Device.state c.find_among.new.device) c.find_among.result)
    c.deref.ensures.value
    (c.find_among.ensures.ends c.args.terms.now (record {
      bytes = [];
      pushed = rw (c.rule_of-rule.ensures, c.version.ensures.version) at c.in_ok-matcher.ensures;
    })))
    c.requires.some
    (subst (λ (these : List SoughtTerm). TermsGatherReads (reach_of c.in_ok-ready.ready) these
    (seen_directly (g.D.Device.state c.settle.new.device) 0)
    (seen_directly (g.D.Device.state c.common_parts.new.device) 0)) c.in_ok-sought.ensures c.in_ok-parts.ensures.reads)
    (subst (λ (parts : List Part). ReadsEach c.in_ok-ready.ready.volume.geometry (slots_of parts)
    (g.D.Device.state c.common_parts.new.device) (g.D.Device.state c.find_among.new.device)) c.deref.ensures.value
    c.find_among.ensures.reads)

-- where the documents lie is known still
pub find_among-requires-clause-parts : goal.find_among-requires-clause-parts
find_among-requires-clause-parts g c =
    subst (λ (parts : List Part). HaveParts c.in_ok-ready.ready.volume.geometry
    (seen_directly (g.D.Device.state c.common_parts.new.device) 0) parts) (sym c.deref.ensures.value)
    c.in_ok-parts.ensures.gathers.ends.1
