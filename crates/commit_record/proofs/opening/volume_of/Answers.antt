-- A cell that is no record is no volume cell; a volume cell of another size is one of this version all the same.
use Rattle.std.proofs.Common.{refl, subst}
use Rattle.cell_types.specs.Records.{IsRecordCell}
use Rattle.cell_types.specs.declared.record_cell.RecordCell.{RecordCell}
use Rattle.volume_meaning.specs.Volumes.{volume_record}
use Rattle.commit_record.proofs.opening.volume_of.Goals as goal

pub returns-in_default-decode : goal.returns-in_default-decode
returns-in_default-decode c = (c.in-Some.is, λ g is. c.in_default-decode.ensures.none (volume_record g) is)

pub returns-then-stated-cells : goal.returns-then-stated-cells
returns-then-stated-cells c =
    let v = c.in-Volume in (
      refl,
      λ same. c.if-stated-cells.true same,
      record { slots = v.slots; lists = v.lists; cells = v.stated; version = v.version },
      (
        c.in-Some.cell,
        c.in-Some.is,
        subst (λ (r : RecordCell). IsRecordCell r 0 c.in-Some.cell) v.is c.in-Some-decode.ensures.some,
      ),
      refl,
    )
