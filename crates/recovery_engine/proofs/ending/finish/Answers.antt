-- The done cell is put.
use Rattle.std.proofs.Common.{arith}
use Rattle.cell_types.specs.declared.record_cell.RecordCell.TheVariants.{Done}
use Rattle.recovery_engine.proofs.LastCells.{record_put, this_phase}
use Rattle.recovery_engine.proofs.ending.finish.Goals as goal

pub encode-requires : goal.encode-requires
encode-requires g c = omega (arith, c.requires.slot, c.slots-slots.ensures.exists.slots)

pub returns : goal.returns
returns g c = this_phase _ _ _ _ _ (record_put (Done c.args.slot) 3 c.done_at-at.result _ c.encode.result
    c.done_at-at.ensures.at c.encode.ensures.same) c.put_one.ensures
