-- A blank cell, the first stamp that is not in order, one that is, and all of them.
use Rattle.std.proofs.Common.{◌<◌, ◌∙◌, inl, inr, refl, sym, arith}
use Rattle.tamper_rules.specs.Rules.{StrayCells, IsTrueStamp}
use Rattle.cell_types.specs.Layout.{spare_at}
use Rattle.log_audit.specs.KeptVolumes.{image_in}
use Rattle.log_audit.proofs.Deciding.{decided_no, decided_yes}
use Rattle.log_audit.proofs.Families.{fine_more, not_written}
use Rattle.log_audit.proofs.Parts.{first_of_part, part_met}
use Rattle.slot_audit.specs.Strays.{IsInTime}
use Rattle.slot_audit.proofs.stamps.first_false_stamp.Goals as goal

pub loop-slot-preserved-in_default : goal.loop-slot-preserved-in_default
loop-slot-preserved-in_default c = (
  fine_more c.loop-slot.invariant.0 (λ written. absurd
      (not_written (sym c.at.ensures ∙ c.in_default.is) c.spare_at-cell.ensures.at written)),
  c.latest_with-latest.ensures,
)

pub returns-then-not-is_true_stamp : goal.returns-then-not-is_true_stamp
returns-then-not-is_true_stamp c =
    let g = c.args.volume.now.geometry in let image = image_in c.args.volume.now in
    let inside : c.loop-slot.slot < g.slots = omega (arith, c.loop-slot-test.true, c.slots-slot-end.ensures.slots) in
    first_of_part g image StrayCells (IsInTime g image) spare_at (IsTrueStamp g image) c.loop-slot.slot g.slots _
    (λ cell each. λ n less same. each n less same) (λ asked. asked c.loop-slot.slot inside c.spare_at-cell.ensures.at)
    (λ a b less. omega (arith, less)) c.loop-slot.invariant.0
    (decided_no _ c.is_true_stamp.ensures c.if-not-is_true_stamp.true) refl
    (inr (inl (c.loop-slot.slot, inside, c.spare_at-cell.ensures.at)))
    (sym c.at.ensures ∙ c.in-Some.is) c.spare_at-cell.ensures.at

pub loop-slot-preserved : goal.loop-slot-preserved
loop-slot-preserved c = (
  fine_more c.loop-slot.invariant.0 (λ written. decided_yes _ c.is_true_stamp.ensures c.if-not-is_true_stamp.false),
  c.latest_with-latest.ensures,
)

pub returns : goal.returns
returns c =
    let g = c.args.volume.now.geometry in let image = image_in c.args.volume.now in
    part_met g image StrayCells (IsInTime g image) spare_at (IsTrueStamp g image) c.loop-slot.slot
    (λ cell each. λ n less same. each n (omega (arith, less, c.loop-slot-test.false, c.slots-slot-end.ensures.slots)) same)
    c.loop-slot.invariant.0
