-- The postings, and then the bucket.
use Rattle.std.proofs.Common.{refl, arith}
use Rattle.cell_types.proofs.Passed.{handed}
use Rattle.cell_types.specs.Layout.{list_at}
use Rattle.jump_insertion.proofs.Untouched.{nothing_touched}
use Rattle.worm_device.specs.Overlaying.{overlay_shows}
use Rattle.worm_device.specs.Overlays.{of_overlay}
use Rattle.ingest_plan.proofs.Indexing.{tree_is_ready, index_is_done, row_ends, entry_ends, entry_refused, taken_on}
use Rattle.ingest_plan.proofs.whole.insert_document.Goals as goal

pub insert_postings-requires : goal.insert_postings-requires
insert_postings-requires g c = record {
  order = c.requires.order;
  floor = c.requires.floor;
  fresh = c.requires.fresh;
  room = omega (arith, c.requires.room);
  free = λ cell past. c.requires.nothing cell;
  untouched = λ tells l less. nothing_touched (of_overlay g.V.View.seen c.args.overlay.now)
      (list_at c.args.volume.now.geometry l) (overlay_shows g.V.View.seen g.met.V.View.proper c.args.overlay.now)
      c.requires.nothing;
}

pub insert-requires-clause-ready : goal.insert-requires-clause-ready
insert-requires-clause-ready g c =
    let row = c.in_ok-insert_postings.ensures.inserts in
    tree_is_ready c.args.volume.now.geometry c.args.slot c.args.rows.now c.args.end.now.level c.args.end.now.place c.args.pool.now.next
    c.insert_postings.new.pool.next
    (of_overlay g.V.View.seen c.args.overlay.now) (of_overlay g.V.View.seen c.insert_postings.new.overlay) c.requires.order
    c.requires.nothing (λ cell. c.args.overlay.now.own.now.owned.unowned cell (c.requires.nothing cell))
    (omega (arith, c.nibble_of-half.ensures.same, c.nibble_of-half.ensures.below)) c.requires.path.number c.requires.path.open_at
    c.requires.floor (omega (arith, c.requires.fresh, c.insert_postings.ensures.from)) c.requires.path.within c.requires.path.led
    row.called row.fresh row.lower row.ends

pub returns-in_err-insert_postings-clause-indexes : goal.returns-in_err-insert_postings-clause-indexes
returns-in_err-insert_postings-clause-indexes g c =
    rw (handed c.from_residual.result c.in_err-insert_postings.field-0.0 c.from_residual.ensures.1)
    (row_ends c.args.volume.now.geometry c.args.slot c.args.rows.now c.args.end.now c.args.pool.now.next
    c.insert_postings.new.pool.next
    (of_overlay g.V.View.seen c.args.overlay.now) (of_overlay g.V.View.seen c.insert_postings.new.overlay) c.in_err-insert_postings.field-0.0
    c.requires.nothing c.in_err-insert_postings.ensures.inserts)

pub returns-clause-indexes : goal.returns-clause-indexes
returns-clause-indexes g c =
    let row = c.in_ok-insert_postings.ensures.inserts in
    let entry = c.in_ok-insert.ensures in
    entry_ends c.args.volume.now.geometry c.args.slot c.args.rows.now c.args.end.now c.args.pool.now.next
    c.insert_postings.new.pool.next
    c.insert_postings.new.pool c.insert.new.pool
    (of_overlay g.V.View.seen c.args.overlay.now) (of_overlay g.V.View.seen c.insert_postings.new.overlay)
    (of_overlay g.V.View.seen c.insert.new.overlay) _ _ row entry
    (index_is_done c.args.volume.now.geometry c.args.slot c.args.rows.now c.args.end.now.level c.args.end.now.place c.args.pool.now.next
    c.insert_postings.new.pool.next
    (of_overlay g.V.View.seen c.args.overlay.now) (of_overlay g.V.View.seen c.insert_postings.new.overlay) c.requires.order
    c.requires.nothing (λ cell. c.args.overlay.now.own.now.owned.unowned cell (c.requires.nothing cell))
    (omega (arith, c.nibble_of-half.ensures.same, c.nibble_of-half.ensures.below)) c.requires.path.number c.requires.path.open_at
    c.requires.floor (omega (arith, c.requires.fresh, c.insert_postings.ensures.from)) c.requires.path.within c.requires.path.led
    row.called row.fresh row.lower row.ends c.insert_postings.new.pool c.insert.new.pool
    (of_overlay g.V.View.seen c.insert.new.overlay) c.in_ok-insert.field-0 entry.ends refl
    (overlay_shows g.V.View.seen g.met.V.View.proper c.args.overlay.now)
    (overlay_shows g.V.View.seen g.met.V.View.proper c.insert_postings.new.overlay)
    (overlay_shows g.V.View.seen g.met.V.View.proper c.insert.new.overlay) entry.lower entry.base
    (taken_on c.args.volume.now.geometry c.args.end.now.level c.args.end.now.place c.args.slot c.in_ok-insert.field-0 c.insert_postings.new.pool c.insert.new.pool
    (of_overlay g.V.View.seen c.insert_postings.new.overlay) (of_overlay g.V.View.seen c.insert.new.overlay) entry.ends.plans))

pub returns-in_err-insert-clause-indexes : goal.returns-in_err-insert-clause-indexes
returns-in_err-insert-clause-indexes g c =
    rw (handed c.from_residual-in_err-insert.result c.in_err-insert.field-0.0 c.from_residual-in_err-insert.ensures.1)
    (let row = c.in_ok-insert_postings.ensures.inserts in
    let entry = c.in_err-insert.ensures in
    entry_ends c.args.volume.now.geometry c.args.slot c.args.rows.now c.args.end.now c.args.pool.now.next
    c.insert_postings.new.pool.next
    c.insert_postings.new.pool c.insert.new.pool
    (of_overlay g.V.View.seen c.args.overlay.now) (of_overlay g.V.View.seen c.insert_postings.new.overlay)
    (of_overlay g.V.View.seen c.insert.new.overlay) _ _ row entry
    (entry_refused c.args.volume.now.geometry c.args.slot c.args.rows.now c.args.end.now.level c.args.end.now.place c.args.pool.now.next
    c.insert_postings.new.pool.next c.insert_postings.new.pool c.insert.new.pool (of_overlay g.V.View.seen c.args.overlay.now) (of_overlay g.V.View.seen c.insert_postings.new.overlay)
    (of_overlay g.V.View.seen c.insert.new.overlay) c.in_err-insert.field-0.0
    (overlay_shows g.V.View.seen g.met.V.View.proper c.args.overlay.now) c.requires.nothing row entry))

pub nibble_of-half-requires : goal.nibble_of-half-requires
nibble_of-half-requires g c = c.requires.path.number

pub insert-requires-clause-slot : goal.insert-requires-clause-slot
insert-requires-clause-slot g c = c.requires.slot

pub insert-requires-clause-room : goal.insert-requires-clause-room
insert-requires-clause-room g c =
    omega (arith, c.requires.room, c.insert_postings.ensures.to, c.insert_postings.ensures.end)

pub returns-in_err-insert_postings-clause-from : goal.returns-in_err-insert_postings-clause-from
returns-in_err-insert_postings-clause-from g c = c.insert_postings.ensures.from

pub returns-in_err-insert_postings-clause-to : goal.returns-in_err-insert_postings-clause-to
returns-in_err-insert_postings-clause-to g c = omega (arith, c.insert_postings.ensures.to)
