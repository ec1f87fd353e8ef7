-- A place that leads to no tile; one that leads before the slot's blocks, or behind them; one whose tile is added; and all.
use Rattle.std.proofs.Common.{◌≡◌, inl, inr, ℕ, sym, subst, arith}
use Rattle.std.specs.Ordering.{nat_cmp}
use Rattle.std.specs.BTreeMap.{get}
use Rattle.log_audit.specs.Kept.{image_of_kept}
use Rattle.slot_audit.specs.Tables.{IsTable}
use Rattle.slot_audit.proofs.Tabling.{moved, lies_outside, table_same, table_more}
use Rattle.slot_audit.proofs.table.tiles_of.Goals as goal

pub loop-place-preserved-in_default : goal.loop-place-preserved-in_default
loop-place-preserved-in_default c = table_same c.loop-place.invariant (λ t z has inside. c.in_default.ensures _
    (moved (image_of_kept c.args.kept.now) _ _ c.loop-place.place _ (sym c.journal_at-from.ensures.at) has))

pub loop-place-preserved-then-tile-stored : goal.loop-place-preserved-then-tile-stored
loop-place-preserved-then-tile-stored c = table_same c.loop-place.invariant (lies_outside c.args.stored.now
    (moved (image_of_kept c.args.kept.now) _ _ c.loop-place.place c.in-Some.tile c.journal_at-from.ensures.at c.in-Some.ensures)
    (inl c.if-tile-stored.true))

pub loop-place-preserved-then-end-tile : goal.loop-place-preserved-then-end-tile
loop-place-preserved-then-end-tile c = table_same c.loop-place.invariant (lies_outside c.args.stored.now
    (moved (image_of_kept c.args.kept.now) _ _ c.loop-place.place c.in-Some.tile c.journal_at-from.ensures.at c.in-Some.ensures)
    (inr (omega (arith, c.if-end-tile.true, c.document_at-end.ensures.at))))

pub loop-place-preserved : goal.loop-place-preserved
loop-place-preserved c = table_more c.loop-place.invariant
    (moved (image_of_kept c.args.kept.now) _ _ c.loop-place.place c.in-Some.tile c.journal_at-from.ensures.at c.in-Some.ensures)
    (record {
      from = omega (arith, c.if-tile-stored.false);
      to = omega (arith, c.if-end-tile.false, c.document_at-end.ensures.at);
    })
    c.in_ok-add_tile.ensures

pub returns : goal.returns
returns c =
    let all : c.loop-place.place ≡ c.args.stored.now.journal = omega (arith, c.loop-place.auto.place-end, c.loop-place-test.false) in
    subst (λ (p : ℕ). IsTable (image_of_kept c.args.kept.now) c.args.stored.now p (λ t. get nat_cmp c.loop-place.tiles t)) all
    c.loop-place.invariant
