-- The document, and then the stamp.
use Rattle.std.proofs.Common.{◌≡◌, ◌∙◌, ◌++◌, ℕ, List, ap, arith, sym, subst}
use Rattle.cell_types.proofs.Passed.{handed}
use Rattle.host_ports.specs.Memories.{GatheredBytes}
use Rattle.worm_device.proofs.Resting.{viewed_then}
use Rattle.document_store.specs.Heads.{id_of}
use Rattle.document_store.specs.Standing.{HoldsDocument}
use Rattle.document_store.proofs.Checking.{has_part_on}
use Rattle.volume_copy.proofs.Slots.{fails_later, reads_copy}
use Rattle.volume_copy.proofs.stored.read_in.Goals as goal

-- the part goes on being one
pub stamp_for-requires-clause-part : goal.stamp_for-requires-clause-part
stamp_for-requires-clause-part g c =
    has_part_on c.args.volume.now.geometry (g.V.View.seen c.args.view.now) (g.V.View.seen c.take_part.new.view)
    c.args.part.now c.take_part.ensures.viewed c.requires.part

-- a call of the sink failed: then memory lacked
pub unreachable-requires : goal.unreachable-requires
unreachable-requires g c =
    let h = rw c.in-Err-SinkFault.field-0-is at c.in-Err-SinkFault.ensures in
    omega (arith, h.ends.1, ap (λ (m : GatheredBytes). m.faults) c.in_ok-body.ensures, c.in_default.ensures)

pub returns-in_err-stamp-clause-ends : goal.returns-in_err-stamp-clause-ends
returns-in_err-stamp-clause-ends g c =
    let refusal = c.in_err-stamp.field-0.0 in
    rw (handed c.from_residual-in_err-stamp.result refusal c.from_residual-in_err-stamp.ensures.1)
    (fails_later c.args.volume.now.geometry c.args.part.now.slot c.take_part.ensures.viewed c.stamp_for.ensures.viewed
    refusal c.in_err-stamp.ensures.ends)

-- each reads on in turn
pub returns-in_err-stamp-clause-viewed : goal.returns-in_err-stamp-clause-viewed
returns-in_err-stamp-clause-viewed g c = viewed_then c.take_part.ensures.viewed c.stamp_for.ensures.viewed

pub returns-clause-viewed : goal.returns-clause-viewed
returns-clause-viewed g c = viewed_then c.take_part.ensures.viewed c.stamp_for.ensures.viewed

pub returns-clause-ends : goal.returns-clause-ends
returns-clause-ends g c =
    let layout = c.args.volume.now.geometry in
    let n = c.args.part.now.slot in
    let mid = g.V.View.seen c.take_part.new.view in
    let head = c.in-Ok.head in
    let h = c.in-Ok.ensures in
    let has = h.ends.2.got.has in
    let none = ap (λ (m : GatheredBytes). m.held) c.in_ok-body.ensures in
    let same : c.take_part.new.sink.held ≡ has.body =
    h.ends.2.got.gets ∙ ap (λ (o : List ℕ). o ++ has.body) none in
    let own = c.in_ok-identifier.ensures in (
      rw own has.whole.identifier,
      rw same has.whole.most,
      reads_copy layout n h.viewed c.stamp_for.ensures.viewed _ (id_of head) own
          (λ tells. subst (λ (b : List ℕ). HoldsDocument layout mid.image n (id_of head) b) (sym same)
          (h.ends.2.holds tells))
          c.in_ok-stamp.ensures.ends,
    )
