-- It begins at the list's first block.
use Rattle.std.proofs.Common.{arith, inl, refl}
use Rattle.cell_types.proofs.Passed.{handed}
use Rattle.worm_device.specs.Overlays.{of_overlay}
use Rattle.jump_insertion.proofs.Inserting.{at_head, inserted, refused}
use Rattle.jump_insertion.proofs.Showing.{is_view}
use Rattle.jump_insertion.proofs.insertion.insert.Goals as goal

-- the first block is the first that the insertion comes to
pub insert_from-requires : goal.insert_from-requires
insert_from-requires g c = record {
  posting = record {
    well_formed = c.requires.well_formed;
    head = c.requires.head;
    floor = omega (arith, c.requires.floor, c.requires.fresh);
    fresh = c.requires.fresh;
    room = c.requires.room;
    free = c.requires.free;
  };
  low = omega arith;
  high = omega arith;
  narrow = omega arith;
  lies = inl refl;
  before = omega (arith, c.requires.head, c.requires.floor, c.requires.fresh);
  at = λ tells. at_head (of_overlay g.V.View.seen c.args.overlay.now) c.args.head c.args.floor c.args.pool.now.next
      c.args.new_entry.key c.requires.head c.requires.floor (c.requires.ready tells);
}

pub returns-clause-inserts : goal.returns-clause-inserts
returns-clause-inserts g c =
    inserted c.args.head c.args.floor c.args.pool.now.next c.insert_from.new.pool.next 0 4294967296
    c.args.new_entry
    (of_overlay g.V.View.seen c.args.overlay.now) (of_overlay g.V.View.seen c.insert_from.new.overlay) c.in-Some.spot
    (omega (arith, c.requires.floor, c.requires.fresh))
    (rw c.in-Some.is at c.in_ok-placed.ensures.places)
    (rw c.in-Some.is at c.in_ok-placed.ensures.grows)
    (rw c.in-Some.is at c.in_ok-placed.ensures.planned)

pub returns-in_err-placed-clause-inserts : goal.returns-in_err-placed-clause-inserts
returns-in_err-placed-clause-inserts g c =
    rw (handed c.from_residual.result c.in_err-placed.field-0.0 c.from_residual.ensures.1)
    (refused c.args.head c.args.floor c.args.pool.now.next c.insert_from.new.pool.next 0 4294967296
    c.args.new_entry
    (of_overlay g.V.View.seen c.args.overlay.now) (of_overlay g.V.View.seen c.insert_from.new.overlay) c.in_err-placed.field-0.0
    (is_view g.V.View.seen g.met.V.View.proper c.insert_from.new.overlay) c.in_err-placed.ensures.places)
