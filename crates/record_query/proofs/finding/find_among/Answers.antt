-- Slot after slot of the row.
use Rattle.std.proofs.Common.{◌≡◌, ◌+◌, ℕ, arith, length, subst}
use Rattle.std.proofs.lemmas.List.{length-map}
use Rattle.cell_types.proofs.Passed.{handed}
use Rattle.document_store.specs.declared.part.Part.{Part}
use Rattle.posting_list.specs.Joins.{slots_of}
use Rattle.record_query.specs.Among.{FoundAmong}
use Rattle.worm_device.specs.Views.{seen_directly}
use Rattle.worm_device.proofs.Resting.{viewed_self, viewed_then}
use Rattle.record_query.proofs.FoundSoFar.{part_ended, part_more, part_now, part_reads, reads_all}
use Rattle.record_query.proofs.finding.find_among.Goals as goal

-- where the document lies is known still
pub match_on_device-requires-clause-part : goal.match_on_device-requires-clause-part
match_on_device-requires-clause-part g c =
    part_now c.args.geometry.now c.args.parts.now c.loop-place.place (g.D.Device.state c.args.device.now)
    (g.D.Device.state c.loop-place.device) (g.D.Device.state c.loop-place.device) c.args.matcher.now
    c.loop-place.matcher c.loop-place.matches.items c.loop-place.invariant
    (viewed_self (seen_directly (g.D.Device.state c.loop-place.device) 0))
    c.loop-place-test.true c.requires.parts

-- a slot was not read
pub returns-in_err-found-clause-ends : goal.returns-in_err-found-clause-ends
returns-in_err-found-clause-ends g c = λ terms was.
    let refusal = c.in_err-found.field-0.0 in
    rw (handed c.from_residual.result refusal c.from_residual.ensures.1)
    (part_ended c.args.geometry.now c.args.parts.now c.loop-place.place (g.D.Device.state c.args.device.now)
    (g.D.Device.state c.loop-place.device) (g.D.Device.state c.match_on_device.new.device) c.args.matcher.now
    c.loop-place.matcher c.loop-place.matches.items c.loop-place.invariant c.in_err-found.ensures.viewed c.loop-place-test.true
    refusal c.in_err-found.ensures.ends terms was)

-- a slot more
pub loop-place-preserved : goal.loop-place-preserved
loop-place-preserved g c =
    part_more c.args.geometry.now c.args.parts.now c.loop-place.place (g.D.Device.state c.args.device.now)
    (g.D.Device.state c.loop-place.device) (g.D.Device.state c.match_on_device.new.device) c.args.matcher.now
    c.loop-place.matcher c.loop-place.matches.items c.loop-place.invariant c.in_ok-found.ensures.viewed c.loop-place-test.true
    c.requires.rise c.requires.parts c.in_ok-found.ensures.reads
    c.match_on_device.new.matcher c.in_ok-found.found c.keep.new.matches.items c.in_ok-found.ensures.matcher
    c.in_ok-found.ensures.ends c.in_ok-keep.ensures

-- all slots
pub returns-clause-ends : goal.returns-clause-ends
returns-clause-ends g c = λ terms was tells.
    let at_end : c.loop-place.place ≡ length (slots_of c.args.parts.now) =
    omega (arith, c.loop-place-test.false, c.loop-place.auto.place-end, length-map c.args.parts.now (λ (p : Part). p.slot)) in
    subst (λ (u : ℕ). FoundAmong c.args.geometry.now (slots_of c.args.parts.now) u terms
    (g.D.Device.state c.args.device.now).image (g.D.Device.state c.loop-place.device).image
    c.loop-place.matches.items) at_end (c.loop-place.invariant.found terms was tells)

pub returns-in_err-found-clause-reads : goal.returns-in_err-found-clause-reads
returns-in_err-found-clause-reads g c =
    reads_all c.args.geometry.now (slots_of c.args.parts.now) (c.loop-place.place + 1)
    (g.D.Device.state c.args.device.now) (g.D.Device.state c.match_on_device.new.device)
    (part_reads c.args.geometry.now c.args.parts.now c.loop-place.place (g.D.Device.state c.args.device.now)
    (g.D.Device.state c.loop-place.device) (g.D.Device.state c.match_on_device.new.device) c.args.matcher.now
    c.loop-place.matcher c.loop-place.matches.items c.loop-place.invariant c.in_err-found.ensures.viewed c.loop-place-test.true
    c.requires.parts c.in_err-found.ensures.reads)

pub returns-in_err-keep-clause-reads : goal.returns-in_err-keep-clause-reads
returns-in_err-keep-clause-reads g c =
    reads_all c.args.geometry.now (slots_of c.args.parts.now) (c.loop-place.place + 1)
    (g.D.Device.state c.args.device.now) (g.D.Device.state c.match_on_device.new.device)
    (part_reads c.args.geometry.now c.args.parts.now c.loop-place.place (g.D.Device.state c.args.device.now)
    (g.D.Device.state c.loop-place.device) (g.D.Device.state c.match_on_device.new.device) c.args.matcher.now
    c.loop-place.matcher c.loop-place.matches.items c.loop-place.invariant c.in_ok-found.ensures.viewed c.loop-place-test.true
    c.requires.parts c.in_ok-found.ensures.reads)

pub returns-clause-reads : goal.returns-clause-reads
returns-clause-reads g c =
    reads_all c.args.geometry.now (slots_of c.args.parts.now) c.loop-place.place (g.D.Device.state c.args.device.now)
    (g.D.Device.state c.loop-place.device) c.loop-place.invariant.reads

-- each slot changes what was seen in turn
pub returns-in_err-found-clause-viewed : goal.returns-in_err-found-clause-viewed
returns-in_err-found-clause-viewed g c = viewed_then c.loop-place.invariant.viewed c.in_err-found.ensures.viewed

pub returns-in_err-keep-clause-viewed : goal.returns-in_err-keep-clause-viewed
returns-in_err-keep-clause-viewed g c = viewed_then c.loop-place.invariant.viewed c.in_ok-found.ensures.viewed

pub returns-clause-viewed : goal.returns-clause-viewed
returns-clause-viewed g c = c.loop-place.invariant.viewed
