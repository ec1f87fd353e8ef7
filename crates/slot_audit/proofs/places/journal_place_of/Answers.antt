-- The place in the middle copies the cell; it copies a lower one, or a higher; and no place is left.
use Rattle.std.proofs.Common.{◌+◌, ◌-◌, ◌/◌, ℕ, sym, arith}
use Rattle.log_audit.specs.Kept.{image_of_kept}
use Rattle.slot_audit.proofs.Ordering.{moved}
use Rattle.slot_audit.proofs.Rising.{has_some, is_place, seek_higher, seek_lower}
use Rattle.slot_audit.proofs.places.journal_place_of.Goals as goal

pub unreachable-requires : goal.unreachable-requires
unreachable-requires c =
    let image = image_of_kept c.args.kept.now in
    let middle : ℕ = c.loop-low.low + (c.loop-low.high - c.loop-low.low) / 2 in
    has_some c.requires.stored c.requires.met middle (omega (arith, c.loop-low-test.true, c.loop-low.invariant.most))
    (λ target has. c.in_default.ensures target (moved image _ c.journal_at-from.result middle target (sym c.journal_at-from.ensures.at) has))

pub returns-then-target-cell : goal.returns-then-target-cell
returns-then-target-cell c =
    let middle : ℕ = c.loop-low.low + (c.loop-low.high - c.loop-low.low) / 2 in
    is_place c.requires.stored c.requires.met c.loop-low.invariant (omega (arith, c.loop-low-test.true))
    (moved (image_of_kept c.args.kept.now) c.journal_at-from.result _ middle c.in-Some.target c.journal_at-from.ensures.at c.in-Some.ensures)
    c.if-target-cell.true

pub loop-low-preserved-then-target-cell-2 : goal.loop-low-preserved-then-target-cell-2
loop-low-preserved-then-target-cell-2 c =
    let middle : ℕ = c.loop-low.low + (c.loop-low.high - c.loop-low.low) / 2 in
    seek_higher c.requires.stored c.requires.met c.loop-low.invariant (omega (arith, c.loop-low-test.true))
    (moved (image_of_kept c.args.kept.now) c.journal_at-from.result _ middle c.in-Some.target c.journal_at-from.ensures.at c.in-Some.ensures)
    c.if-target-cell-2.true

pub loop-low-preserved : goal.loop-low-preserved
loop-low-preserved c =
    let middle : ℕ = c.loop-low.low + (c.loop-low.high - c.loop-low.low) / 2 in
    seek_lower c.requires.stored c.requires.met c.loop-low.invariant (omega (arith, c.loop-low-test.true))
    (moved (image_of_kept c.args.kept.now) c.journal_at-from.result _ middle c.in-Some.target c.journal_at-from.ensures.at c.in-Some.ensures)
    (omega (arith, c.if-target-cell.false, c.if-target-cell-2.false))

pub returns : goal.returns
returns c = λ place inside has.
    let w = c.loop-low.invariant.only place inside has in omega (arith, w.0, w.1, c.loop-low-test.false)
