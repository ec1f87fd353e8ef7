-- What was found in a slot's spare cell is its stamp, or the slot has none.
use Rattle.std.proofs.Common.{◌≡◌, ◌≤◌, ◌+◌, ℕ, List, Option, None, Some, Ok, ap, sym, subst, ◌∙◌}
use Rattle.std.proofs.lemmas.Option.{none-some}
use Rattle.cell_types.specs.Image.{Image}
use Rattle.cell_types.specs.Layout.{spare_at}
use Rattle.cell_types.specs.Records.{IsRecordCell}
use Rattle.cell_types.specs.declared.record_cell.RecordCell.{RecordCell}
use Rattle.cell_types.specs.declared.record_cell.RecordCell.TheVariants.{Stamp}
use Rattle.volume_meaning.specs.Slots.{HasStamp}
use Rattle.volume_meaning.specs.Volumes.{Holds}
use Rattle.volume_meaning.proofs.Holding.{one_record_holds, some_is}
use Rattle.worm_device.specs.Looks.{IsSeen, LookEnds}
use Rattle.worm_device.specs.Views.{ViewState, Viewed}
use Rattle.worm_device.specs.declared.looks.Found.{Found}
use Rattle.worm_device.specs.declared.looks.Found.TheVariants.{Blank, Record, Stray}
use Rattle.commit_record.specs.Stamps.{IsStampFound, IsStampOrNone, ReadsStamp}

module _ (image : Image) (n at : ℕ) (at_is : at ≡ spare_at n) where
  here : {seconds : ℕ} → HasStamp image n seconds → Holds image at (Stamp seconds)
  here {seconds} has = subst (λ (c : ℕ). Holds image c (Stamp seconds)) (sym at_is) has

  no_stamp : (stamp : Option ℕ) → stamp ≡ None → ((seconds : ℕ) → HasStamp image n seconds → ⊥)
      → IsStampOrNone image n stamp
  no_stamp None is none = none
  no_stamp (Some seconds) is none = absurd (none-some seconds (sym is))

  told : (found : Found) → IsSeen image image at found → (stamp : Option ℕ) → IsStampFound found stamp
      → IsStampOrNone image n stamp
  told Blank seen stamp is = no_stamp stamp is (λ seconds has.
      none-some has.cell (sym seen ∙ ap image at_is ∙ has.stands))
  told (Stray cell) seen stamp is = no_stamp stamp is (λ seconds has.
      let there = here has in
      seen.1 (Stamp seconds) (subst (λ (v : List ℕ). IsRecordCell (Stamp seconds) at v)
      (some_is there.cell cell (sym there.stands ∙ seen.0)) there.is))
  told (Record cell held) seen None is = λ seconds has.
      is seconds (one_record_holds image at held (Stamp seconds)
      (record { cell = cell; stands = seen.0; is = seen.1 }) (here has))
  told (Record cell held) seen (Some seconds) is =
      subst (λ (c : ℕ). Holds image c (Stamp seconds)) at_is
      (subst (λ (r : RecordCell). Holds image at r) is (record { cell = cell; stands = seen.0; is = seen.1 }))

pub stamp_read : (n at : ℕ) {old new : ViewState} → Viewed old new → new.base.reads ≤ old.base.reads + 1 → at ≡ spare_at n
    → (found : Found) → LookEnds at old new (Ok found) → (stamp : Option ℕ) → IsStampFound found stamp
    → ReadsStamp n old new (Ok stamp)
stamp_read n at {old} {new} viewed reads at_is found ends stamp is = record {
  viewed = viewed;
  reads = reads;
  ends = (ends.1, λ tells. told new.image n at at_is found (ends.2 tells) stamp is);
}
