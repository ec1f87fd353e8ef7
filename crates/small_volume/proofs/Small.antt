-- What stands in the small volume: its records, its slot, its document, its horizon and its edge.
use Rattle.std.proofs.Common.{◌≡◌, ◌≤◌, ◌+◌, inr, ℕ, List, Some, refl, sym, subst, arith, codes, slice_index}
use Rattle.cell_types.specs.Layout.{IsLayout, reserve_at}
use Rattle.cell_types.specs.Records.{IsRecordCell}
use Rattle.cell_types.specs.declared.record_cell.RecordCell.TheVariants.{Reserve, Commit, Done, Bucket}
use Rattle.volume_meaning.specs.Volumes.{Holds, IsWritten, IsVolume, volume_record}
use Rattle.volume_meaning.specs.Slots.{Reserves, IsDone, IsHorizon, IsEdge}
use Rattle.volume_meaning.specs.Documents.{Spells, IsIdentifier, IsBody, Stands, content_at, stored_bytes}
use Rattle.volume_meaning.specs.Blocks.{PostingFields, posting_record}
use Rattle.small_volume.specs.SmallVolume.{small_image, small_layout, volume_cell, reserve_cell, commit_cell, done_cell, hello_tag, hello_cell, world_tag, world_cell, a_fingerprint, bucket_cell}
use Rattle.small_volume.proofs.Values.{are_bytes}

-- a volume may have 8 slots, 2 lists and 1,000 cells
pub layout : IsLayout small_layout
layout = record {
  some_slots = omega arith;
  slots = omega arith;
  some_lists = omega arith;
  lists = omega arith;
  cells = omega arith;
  some_version = omega arith;
  version = omega arith;
  pool = omega arith;
}

-- the volume cell is well-formed at cell 0
pub volume_is : IsRecordCell (volume_record small_layout) 0 volume_cell
volume_is = record {
  fits = (omega arith, omega arith, omega arith, omega arith);
  well_formed = (layout, refl);
  same = refl;
}

-- so the image is a volume
pub volume : IsVolume 1000 small_image small_layout
volume = record { volume = record { cell = volume_cell; stands = refl; is = volume_is }; size = refl }

-- the reserve cell is well-formed at cell 4
reserve_is : IsRecordCell (Reserve 580 4) 4 reserve_cell
reserve_is = record { fits = (omega arith, omega arith); well_formed = omega arith; same = refl }

-- and stands in the small image
pub reserve_0 : Holds small_image 4 (Reserve 580 4)
reserve_0 = record { cell = reserve_cell; stands = refl; is = reserve_is }

-- the commit cell is well-formed at cell 5
commit_is : IsRecordCell (Commit 13 3) 5 commit_cell
commit_is = record {
  fits = (omega arith, omega arith);
  well_formed = (omega arith, omega arith, omega arith);
  same = refl;
}

-- and stands in the small image
pub commit_0 : Holds small_image 5 (Commit 13 3)
commit_0 = record { cell = commit_cell; stands = refl; is = commit_is }

-- the done cell is well-formed at cell 6
done_is : IsRecordCell (Done 0) 6 done_cell
done_is = record { fits = omega arith; well_formed = omega arith; same = refl }

-- and stands in the small image
pub done_0 : Holds small_image 6 (Done 0)
done_0 = record { cell = done_cell; stands = refl; is = done_is }

-- what cell 36 says
abbrev pub hello_posting : PostingFields
hello_posting = record { key = 0; last = 1; tag = hello_tag }

-- its record is well-formed there
pub hello_is : IsRecordCell (posting_record hello_posting) 36 hello_cell
hello_is = record {
  fits = (omega arith, omega arith, record { count = refl; fits = are_bytes hello_tag refl });
  well_formed = omega arith;
  same = refl;
}

-- and stands in the small image
pub hello_holds : Holds small_image 36 (posting_record hello_posting)
hello_holds = record { cell = hello_cell; stands = refl; is = hello_is }

-- what cell 37 says
abbrev pub world_posting : PostingFields
world_posting = record { key = 1; last = 1; tag = world_tag }

-- its record is well-formed there
pub world_is : IsRecordCell (posting_record world_posting) 37 world_cell
world_is = record {
  fits = (omega arith, omega arith, record { count = refl; fits = are_bytes world_tag refl });
  well_formed = omega arith;
  same = refl;
}

-- and stands in the small image
pub world_holds : Holds small_image 37 (posting_record world_posting)
world_holds = record { cell = world_cell; stands = refl; is = world_is }

-- the bucket is well-formed at cell 560
pub bucket_is : IsRecordCell (Bucket 0 a_fingerprint) 560 bucket_cell
bucket_is = record {
  fits = (omega arith, record { count = refl; fits = are_bytes a_fingerprint refl });
  well_formed = omega arith;
  same = refl;
}

-- and stands in the small image
pub bucket_holds : Holds small_image 560 (Bucket 0 a_fingerprint)
bucket_holds = record { cell = bucket_cell; stands = refl; is = bucket_is }

-- slot 0 reserves cells 580 to 583
pub reserves_0 : Reserves small_layout small_image 0 580 4
reserves_0 = record { slot = omega arith; reserve = reserve_0; from = omega arith; to = omega arith }

-- and it is done
pub slot_0 : IsDone small_layout small_image 0 580 4 13 3
slot_0 = record {
  commits = record {
    reserves = reserves_0;
    outcome = commit_0;
    fits = omega arith;
    stamped = λ is. absurd (omega (arith, is));
  };
  done = done_0;
}

-- the stored bytes take one cell, which is cell 580
pub spells : Spells small_image 580 (stored_bytes (codes "a") (codes "hello world"))
spells k below =
    let first : k ≡ 0 = omega arith in
    let stored : List ℕ = stored_bytes (codes "a") (codes "hello world") in
    subst (λ (k : ℕ). small_image (580 + k) ≡ Some (content_at stored k)) (sym first) refl

-- `a` is an identifier
pub is_a : IsIdentifier (codes "a")
is_a = record {
  some = omega arith;
  most = omega arith;
  each = λ i inside.
      let first : i ≡ 0 = omega arith in
      let InRange : ℕ → Type 0 = λ i. (0x21 ≤ slice_index (codes "a") i) × (slice_index (codes "a") i ≤ 0x7E) in
      subst InRange (sym first) (omega arith, omega arith);
}

-- `hello world` is a body
pub is_hello_world : IsBody (codes "hello world")
is_hello_world = record { bytes = are_bytes (codes "hello world") refl; most = omega arith }

-- the document stands
pub stands_0 : Stands 1000 small_image 0 (codes "a") (codes "hello world")
stands_0 = record {
  layout = small_layout;
  start = 580;
  reserved = 4;
  journal = 3;
  volume = volume;
  slot = omega arith;
  done = slot_0;
  spells = spells;
  is_identifier = is_a;
  is_body = is_hello_world;
}

-- slot 1 is free, and slot 0 taken
pub horizon_1 : IsHorizon small_layout small_image small_image 1
horizon_1 = record {
  most = omega arith;
  below = λ m is.
      let first : m ≡ 0 = omega arith in
      let taken : IsWritten small_image 4 = record { found = reserve_cell; stands = refl } in
      subst (λ (n : ℕ). IsWritten small_image (reserve_at n)) (sym first) taken;
  free = λ less. refl;
}

-- slot 0's cells end at cell 584
pub edge_584 : IsEdge small_layout small_image small_image 584
edge_584 = record { u = 1; most = omega arith; free = λ less. refl; ends = inr (0, 580, 4, refl, reserves_0, refl) }
