-- The spare cell holds a stamp.
use Rattle.std.proofs.Common.{◌∙◌, ℕ, List, Option, Some, ap, arith, refl, subst, sym}
use Rattle.std.proofs.lemmas.Option.{slice_get-get_or}
use Rattle.cell_types.specs.Records.{IsRecordCell}
use Rattle.cell_types.specs.declared.record_cell.RecordCell.TheVariants.{Stamp}
use Rattle.worm_device.specs.declared.looks.Found.TheVariants.{Record}
use Rattle.commit_record.proofs.done_row.has_stamp_in_row.Goals as goal

pub returns : goal.returns
returns c =
    let row = c.args.row.now in
    let seconds = c.in-Some._seconds in
    let h = c.in-Some.ensures in
    let stamped = c.is_stamped.ensures.stamped.0 c.if-not-is_stamped.false in
    λ _. record {
      stamp = Some (Record h.cell (Stamp seconds));
      spare = (
        stamped,
        subst (λ (k : ℕ). IsRecordCell (Stamp seconds) k h.cell) c.spare_at.ensures.at h.of,
        slice_get-get_or row 3 _ (omega (arith, c.requires.four stamped))
            ∙ ap (λ (v : Option (List ℕ)). Some v) (sym c.index-row-3.is ∙ h.is),
      );
      there = (seconds, refl);
    }
