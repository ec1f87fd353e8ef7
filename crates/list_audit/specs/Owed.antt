-- What the documents of a volume whose cells are kept are owed.
use Rattle.std.specs.Prelude.{IsTrue}
use Rattle.log_audit.specs.KeptVolumes.{image_in}
use Rattle.log_audit.specs.declared.kept_volume.KeptVolume.{KeptVolume}
use Rattle.list_audit.specs.Owing.{AllExist, AreOwed}
use Rattle.list_audit.specs.Tables.{AreOrderedRows}
use Rattle.list_audit.specs.declared.table.OwedPostings.{OwedPostings}

-- These are the postings of all documents, in order; and where it is so said, those of each document exist.
pub record IsAllOwed (v : KeptVolume) (o : OwedPostings) : Type 0 where
  pub owed : AreOwed v.geometry (image_in v) v.geometry.slots o.table.rows.items
  pub order : AreOrderedRows o.table.rows.items
  pub exist : IsTrue o.all_exist → AllExist v.geometry (image_in v) v.geometry.slots
