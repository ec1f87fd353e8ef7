-- The spare cell holds a stamp.
use Rattle.std.proofs.Common.{◌∙◌, ℕ, List, Option, Some, ap, arith, refl, subst, sym}
use Rattle.std.proofs.lemmas.Option.{slice_get-get_or}
use Rattle.cell_types.specs.Records.{IsRecordCell}
use Rattle.cell_types.specs.declared.record_cell.RecordCell.TheVariants.{Stamp}
use Rattle.worm_device.specs.declared.looks.Found.TheVariants.{Record}
use Rattle.commit_record.proofs.slot_row.stamp_of_row.Goals as goal

pub returns-in-Some : goal.returns-in-Some
returns-in-Some c =
    let seconds = c.in-Some.seconds in
    let h = c.in-Some.ensures in
    record {
      spare = Record h.cell (Stamp seconds);
      of = subst (λ (k : ℕ). IsRecordCell (Stamp seconds) k h.cell) c.spare_at-at.ensures.at h.of;
      is = slice_get-get_or c.args.row.now 3 _ (omega (arith, c.requires.four))
          ∙ ap (λ (v : Option (List ℕ)). Some v) (sym c.index-row-3.is ∙ h.is);
      told = refl;
    }
