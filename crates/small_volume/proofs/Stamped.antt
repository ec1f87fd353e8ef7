-- What stands in the stamped volume: its records, its slot, its stamp and its document.
use Rattle.std.proofs.Common.{◌≡◌, ◌+◌, ℕ, List, [], Some, refl, sym, subst, arith, codes}
use Rattle.cell_types.specs.Layout.{IsLayout}
use Rattle.cell_types.specs.Records.{IsRecordCell}
use Rattle.cell_types.specs.declared.record_cell.RecordCell.TheVariants.{Reserve, Commit, Done, Stamp, Bucket}
use Rattle.volume_meaning.specs.Documents.{Spells, IsBody, Stands, content_at, stored_bytes}
use Rattle.volume_meaning.specs.Slots.{HasStamp, IsDone, IsStampOf, Reserves}
use Rattle.volume_meaning.specs.Volumes.{Holds, IsVolume, volume_record}
use Rattle.volume_meaning.specs.Blocks.{posting_record}
use Rattle.volume_meaning.specs.Postings.{time_posting}
use Rattle.small_volume.specs.SmallVolume.{done_cell, bucket_cell, a_fingerprint}
use Rattle.small_volume.specs.StampedVolume.{stamped_image, stamped_layout, stamped_volume_cell, stamped_reserve_cell, stamped_commit_cell, stamp_cell, time_cell}
use Rattle.small_volume.proofs.Small.{is_a, bucket_is}
use Rattle.small_volume.proofs.Values.{are_bytes}

-- a volume of version 3 may have 8 slots, 2 lists and 1,200 cells
layout : IsLayout stamped_layout
layout = record {
  some_slots = omega arith;
  slots = omega arith;
  some_lists = omega arith;
  lists = omega arith;
  cells = omega arith;
  some_version = omega arith;
  version = omega arith;
  pool = omega arith;
}

-- the volume cell is well-formed at cell 0
volume_is : IsRecordCell (volume_record stamped_layout) 0 stamped_volume_cell
volume_is = record {
  fits = (omega arith, omega arith, omega arith, omega arith);
  well_formed = (layout, refl);
  same = refl;
}

-- so the image is a volume
pub volume : IsVolume 1200 stamped_image stamped_layout
volume = record {
  volume = record { cell = stamped_volume_cell; stands = refl; is = volume_is };
  size = refl;
}

-- the reserve cell is well-formed at cell 4
reserve_is : IsRecordCell (Reserve 836 3) 4 stamped_reserve_cell
reserve_is = record { fits = (omega arith, omega arith); well_formed = omega arith; same = refl }

-- the commit cell is well-formed at cell 5
commit_is : IsRecordCell (Commit 2 2) 5 stamped_commit_cell
commit_is = record {
  fits = (omega arith, omega arith);
  well_formed = (omega arith, omega arith, omega arith);
  same = refl;
}

-- the done cell is well-formed at cell 6
done_is : IsRecordCell (Done 0) 6 done_cell
done_is = record { fits = omega arith; well_formed = omega arith; same = refl }

-- the stamp is well-formed at cell 7
pub stamp_is : IsRecordCell (Stamp 1000) 7 stamp_cell
stamp_is = record { fits = omega arith; well_formed = tt; same = refl }

-- so slot 0 has the stamp
pub has_stamp : HasStamp stamped_image 0 1000
has_stamp = record { cell = stamp_cell; stands = refl; is = stamp_is }

-- and it is the slot's stamp on this volume
pub stamp_0 : IsStampOf stamped_layout stamped_image 0 (Some 1000)
stamp_0 = (refl, has_stamp)

-- the reserve cell stands
pub reserve_0 : Holds stamped_image 4 (Reserve 836 3)
reserve_0 = record { cell = stamped_reserve_cell; stands = refl; is = reserve_is }

-- and the commit cell
pub commit_0 : Holds stamped_image 5 (Commit 2 2)
commit_0 = record { cell = stamped_commit_cell; stands = refl; is = commit_is }

-- and the done cell
pub done_0 : Holds stamped_image 6 (Done 0)
done_0 = record { cell = done_cell; stands = refl; is = done_is }

-- slot 0 reserves the cells 836 to 838
pub reserves_0 : Reserves stamped_layout stamped_image 0 836 3
reserves_0 = record {
  slot = omega arith;
  reserve = reserve_0;
  from = omega arith;
  to = omega arith;
}

-- and it is done
pub slot_0 : IsDone stamped_layout stamped_image 0 836 3 2 2
slot_0 = record {
  commits = record {
    reserves = reserves_0;
    outcome = commit_0;
    fits = omega arith;
    stamped = λ is. record { seconds = 1000; stamp = has_stamp };
  };
  done = done_0;
}

-- its two stored bytes take one cell, which is cell 836
pub spells : Spells stamped_image 836 (stored_bytes (codes "a") [])
spells k below =
    let first : k ≡ 0 = omega arith in
    let stored : List ℕ = stored_bytes (codes "a") [] in
    subst (λ (k : ℕ). stamped_image (836 + k) ≡ Some (content_at stored k)) (sym first) refl

-- no bytes are a body
pub is_empty : IsBody []
is_empty = record { bytes = are_bytes [] refl; most = omega arith }

-- the document stands
pub stands_0 : Stands 1200 stamped_image 0 (codes "a") []
stands_0 = record {
  layout = stamped_layout;
  start = 836;
  reserved = 3;
  journal = 2;
  volume = volume;
  slot = omega arith;
  done = slot_0;
  spells = spells;
  is_identifier = is_a;
  is_body = is_empty;
}

-- the time posting is well-formed at cell 580
pub time_is : IsRecordCell (posting_record (time_posting 0 1000)) 580 time_cell
time_is = record {
  fits = (omega arith, omega arith, record { count = refl; fits = are_bytes (time_posting 0 1000).tag refl });
  well_formed = omega arith;
  same = refl;
}

-- and stands there
pub time_holds : Holds stamped_image 580 (posting_record (time_posting 0 1000))
time_holds = record { cell = time_cell; stands = refl; is = time_is }

-- and the bucket of `a` in cell 560
pub bucket_holds : Holds stamped_image 560 (Bucket 0 a_fingerprint)
bucket_holds = record { cell = bucket_cell; stands = refl; is = bucket_is }
